use Rattle.std.proofs.Common.{◌≡◌, ◌∙◌, ℕ, List, Result, Some, sym, subst, refl}
use Rattle.std.specs.Prelude.{MatchResult, false}
use Rattle.std.proofs.lemmas.Result.{err_from_is_err_and}
use Rattle.clap.specs.Words.{Text}
use Rattle.md_device.specs.declared.device.Device.{Ghosts as DeviceGhosts}
use Rattle.md_images.specs.declared.images.Images.{Ghosts as ImagesGhosts}
use Rattle.md_streams.specs.declared.asker.Asker.{Ghosts as AskerGhosts}
use Rattle.md_streams.specs.declared.sink.Sink.{Ghosts as SinkGhosts}
use Rattle.md_refusals.specs.declared.fault.CommandFault.{CommandFault}
use Rattle.md_images.specs.declared.access.Access.TheVariants.{Change}
use Rattle.md_images.specs.Taking.{image_list}
use Rattle.md_words.specs.Asks.{grows}
use Rattle.md_messages.specs.Telling.{texts}
use Rattle.md_cli.specs.AllNamed.{ChecksNamed}
use Rattle.md_cli.specs.Arrays.{ChangesDevices, UsesImages}
use Rattle.md_cli.specs.Growing.{GrowsArray, GrowsTold, RefusesKind, chunk_asked}
use Rattle.md_cli.specs.Streams.{Told, told_of}
use Rattle.md_cli.proofs.growing.grow_array.Goals as goal

-- what is done, by what the options ask for
by_asked : {I D R S A : Type 0} (i : ImagesGhosts I D) (g : DeviceGhosts D) (s : SinkGhosts S) (a : AskerGhosts A) (bitmap : Text) (kib : ℕ) (words : List Text) (before after : I) (old new : Told R S A) (result : Result (Unit {0}) CommandFault)
    (asked : Result ℕ CommandFault) → asked ≡ chunk_asked bitmap kib
    → MatchResult asked (λ chunk_bytes. UsesImages i g (ChangesDevices (ChecksNamed a (grows bitmap kib) (Some chunk_bytes)) (GrowsTold s chunk_bytes)) Change (image_list false words) before after old new result) (λ why. RefusesKind i g s a why before after old new result)
    → GrowsArray i g s a bitmap kib words before after old new result
by_asked i g s a bitmap kib words before after old new result asked is does =
    subst (λ (r : Result ℕ CommandFault). MatchResult r (λ chunk_bytes. UsesImages i g (ChangesDevices (ChecksNamed a (grows bitmap kib) (Some chunk_bytes)) (GrowsTold s chunk_bytes)) Change (image_list false words) before after old new result) (λ why. RefusesKind i g s a why before after old new result)) is does

pub returns-in_err-chunk_bytes-clause-gives : goal.returns-in_err-chunk_bytes-clause-gives
returns-in_err-chunk_bytes-clause-gives g c =
    let p = err_from_is_err_and c.from_residual.result c.from_residual.ensures.1 in
    let old = told_of c.args.session.now c.args.notices.now in
    by_asked g.I.Images g.I.Dev.Device g.S.Sink g.A.Asker c.args.bitmap.now c.args.kib (texts c.args.names.now) c.args.images.now c.args.images.now old old c.from_residual.result
    _ (sym c.in_err-chunk_bytes.was ∙ c.chunk_asked.ensures)
    (rw (p.1, p.2) (record { is = refl; untouched = refl; unwritten = refl }))

pub returns-clause-gives : goal.returns-clause-gives
returns-clause-gives g c =
    let call = c.grow_images in
    by_asked g.I.Images g.I.Dev.Device g.S.Sink g.A.Asker c.args.bitmap.now c.args.kib (texts c.args.names.now) c.args.images.now call.new.images
    (told_of c.args.session.now c.args.notices.now) (told_of call.new.session call.new.notices) call.result
    _ (sym c.in_ok-chunk_bytes.was ∙ c.chunk_asked.ensures) call.ensures.gives
