-- What a command does that shows an image, or opens an array, whichever it is.
use Rattle.md_device.specs.declared.device.Device.{Ghosts as DeviceGhosts}
use Rattle.std.proofs.Common.{◌≡◌, ℕ, List, Option, None, Result, Err, refl, subst}
use Rattle.std.specs.Prelude.{MatchResult}
use Rattle.clap.specs.Words.{Text}
use Rattle.md_streams.specs.declared.source.Source.{Ghosts as SourceGhosts}
use Rattle.md_streams.specs.declared.sink.Sink.{Ghosts as SinkGhosts}
use Rattle.md_images.specs.declared.images.Images.{Ghosts as ImagesGhosts}
use Rattle.md_words.specs.Asks.{Ask, array_ask, ask_of, image_ask, scan_form}
use Rattle.md_words.specs.declared.array_command.ArrayCommand.{ArrayCommand}
use Rattle.md_words.specs.declared.array_command.ArrayCommand.TheVariants as array
use Rattle.md_words.specs.declared.command.Command.{Command}
use Rattle.md_words.specs.declared.image_command.ImageCommand.{ImageCommand}
use Rattle.md_words.specs.declared.image_command.ImageCommand.TheVariants as image
use Rattle.md_refusals.specs.declared.fault.CommandFault.{CommandFault}
use Rattle.md_streams.specs.declared.asker.Asker.{Ghosts as AskerGhosts}
use Rattle.md_messages.specs.declared.notices.Notices.{Notices}
use Rattle.md_cli.specs.Growing.{chunk_in_memory}
use Rattle.md_cli.specs.Lacking.{Maps}
use Rattle.md_cli.specs.Running.{DoesNothing, ExaminesImage, Obeys, OpensArray, OpensWithBitmap}
use Rattle.md_cli.specs.Streams.{OnlyPutsOut, Told, told_of}
use Rattle.md_cli.specs.declared.session.Session.{Session}

-- by what is said of the kind of a bitmap
pub by_kind : {I D R S A : Type 0} (i : ImagesGhosts I D) (g : DeviceGhosts D) (r : SourceGhosts R) (s : SinkGhosts S) (asker : AskerGhosts A) (lacking : Maps) (bitmap : Option Text) (ask : Ask) (words : List Text) (before after : I) (old new : Told R S A) (result : Result (Unit {0}) CommandFault)
    (chunk : Result (Option ℕ) CommandFault) → chunk ≡ chunk_in_memory bitmap
    → MatchResult chunk (λ chunk. OpensArray i g r s asker lacking chunk ask words before after old new result) (λ why. (result ≡ Err why) × DoesNothing before after old new)
    → OpensWithBitmap i g r s asker lacking bitmap ask words before after old new result
by_kind i g r s asker lacking bitmap ask words before after old new result chunk is does =
    subst (λ (taken : Result (Option ℕ) CommandFault). MatchResult taken (λ chunk. OpensArray i g r s asker lacking chunk ask words before after old new result) (λ why. (result ≡ Err why) × DoesNothing before after old new)) is does

module _ {I D R S A : Type 0} (i : ImagesGhosts I D) (g : DeviceGhosts D) (r : SourceGhosts R) (s : SinkGhosts S) (asker : AskerGhosts A) (random : Option (List ℕ)) (lacking : Maps) (bitmap : Option Text) (words : List Text) (before after : I) (old new : Told R S A) (result : Result (Unit {0}) CommandFault) where
  -- a command that shows one image
  pub shows_by : (c : ImageCommand) → OnlyPutsOut old new × ExaminesImage i g s (image_ask c) words before after old.streams.output new.streams.output result → Obeys i g r s asker random lacking bitmap (image_ask c) words before after old new result
  shows_by (image.Examine form) h = h
  shows_by (image.ExamineBitmap form) h = h
  shows_by (image.ExamineBadblocks form) h = h

  -- a command that opens an array
  pub does_by : (c : ArrayCommand) → OpensWithBitmap i g r s asker lacking bitmap (array_ask c) words before after old new result → Obeys i g r s asker random lacking bitmap (array_ask c) words before after old new result
  does_by (array.Assemble json readonly) h = h
  does_by (array.Detail form readonly) h = h
  does_by (array.Plan k json readonly) h = h
  does_by (array.Read sector count fill readonly) h = h
  does_by (array.Serve fill) h = h
  does_by array.ServeWritable h = h
  does_by (array.Check form exit_code readonly) h = h
  does_by (array.Write sector count) h = h
  does_by array.Resync h = h
  does_by (array.Stop json) h = h
  does_by (array.Fail k) h = h
  does_by (array.Remove k) h = h
  does_by (array.Add device json) h = h
  does_by (array.ReAdd device full json) h = h
  does_by (array.Rebuild k loss form) h = h

-- what is done stands where it came to
module _ {I D T R S W A : Type 0} (i : ImagesGhosts I D) (g : DeviceGhosts D) (r : SourceGhosts R) (s : SinkGhosts S) (asker : AskerGhosts A) (random : Option (List ℕ)) (lacking : Maps) (bitmap : Option Text) (words : List Text) (before : I) (old : Told R S A) where
  pub stands_so : (command k : Command) (after images : I) (new session : Session T R S W A) (noticed notices : Notices) (result outcome : Result (Unit {0}) CommandFault) → command ≡ k → images ≡ after → session ≡ new → notices ≡ noticed → outcome ≡ result
      → Obeys i g r s asker random lacking bitmap (ask_of k) words before after old (told_of new noticed) result → Obeys i g r s asker random lacking bitmap (ask_of command) words before images old (told_of session notices) outcome
  stands_so command k after images new session noticed notices result outcome is images_are session_is noticed_is outcome_is does =
      rw (is, images_are, session_is, noticed_is, outcome_is) does

-- one that shows an image or opens an array is no scan
pub image_no_scan : (c : ImageCommand) → scan_form (image_ask c) ≡ None
image_no_scan (image.Examine form) = refl
image_no_scan (image.ExamineBitmap form) = refl
image_no_scan (image.ExamineBadblocks form) = refl

pub array_no_scan : (c : ArrayCommand) → scan_form (array_ask c) ≡ None
array_no_scan (array.Assemble json readonly) = refl
array_no_scan (array.Detail form readonly) = refl
array_no_scan (array.Plan k json readonly) = refl
array_no_scan (array.Read sector count fill readonly) = refl
array_no_scan (array.Serve fill) = refl
array_no_scan array.ServeWritable = refl
array_no_scan (array.Check form exit_code readonly) = refl
array_no_scan (array.Write sector count) = refl
array_no_scan array.Resync = refl
array_no_scan (array.Stop json) = refl
array_no_scan (array.Fail k) = refl
array_no_scan (array.Remove k) = refl
array_no_scan (array.Add device json) = refl
array_no_scan (array.ReAdd device full json) = refl
array_no_scan (array.Rebuild k loss form) = refl
