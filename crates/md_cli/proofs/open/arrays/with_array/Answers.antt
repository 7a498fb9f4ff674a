use Rattle.md_device.specs.declared.device.Device.{Ghosts as DeviceGhosts}
use Rattle.std.proofs.Common.{◌≡◌, ◌∙◌, ◌<◌, ℕ, Bool, true, false, true≢false, List, Option, None, Result, Err, Ok, length, map, ap, option_map, subst, sym, inr, refl, rules}
use Rattle.std.specs.Prelude.{is_some}
use Rattle.std.proofs.lemmas.List.{length-map}
use Rattle.std.proofs.lemmas.Result.{err_from_is_err_and}
use Rattle.md_refusals.specs.Faults.{of_images}
use Rattle.md_refusals.specs.declared.fault.CommandFault.{CommandFault}
use Rattle.md_streams.specs.declared.source.Source.{Ghosts as SourceGhosts}
use Rattle.md_streams.specs.declared.sink.Sink.{Ghosts as SinkGhosts}
use Rattle.md_images.specs.declared.access.Access.{Access}
use Rattle.md_images.specs.declared.fault.ImagesFault.{ImagesFault}
use Rattle.md_images.specs.declared.fault.ImagesFault.TheVariants.{BadImage, NoMemory}
use Rattle.md_images.specs.declared.images.Images.{Ghosts as ImagesGhosts}
use Rattle.md_images.specs.Images.{asks}
use Rattle.md_images.specs.Taking.{RefusesImages, Text, Word, image_list, names_of, word_of}
use Rattle.md_images.proofs.Taken.{restored}
use Rattle.md_words.specs.Asks.{Ask, access_of, array_ask, is_readonly}
use Rattle.md_messages.specs.Telling.{texts}
use Rattle.md_messages.specs.Question.{question}
use Rattle.md_streams.specs.declared.asker.Asker.{Ghosts as AskerGhosts}
use Rattle.md_cli.specs.AllNamed.{ChecksNamed}
use Rattle.md_cli.specs.Arrays.{KeepsImages, LooksAtDevices, UsesImages, WorksBy, WorksOn, disks, may, names_with}
use Rattle.md_cli.specs.Growing.{chunk_in_memory}
use Rattle.md_cli.specs.Lacking.{Maps}
use Rattle.md_cli.specs.Opened.{with_last}
use Rattle.md_cli.specs.Running.{OpensWithBitmap}
use Rattle.md_cli.specs.Streams.{Told, told_of}
use Rattle.md_cli.proofs.Done.{by_kind}
use Rattle.md_cli.proofs.Joined.{all_named}
use Rattle.md_cli.proofs.Performed.{there_same}
use Rattle.md_cli.proofs.Worked.{only_looks, used}
use Rattle.md_cli.proofs.open.arrays.with_array.Goals as goal

-- images that are refused are as they were
as_before : {D Unchanged : Type 0} (known : Bool) (allowed : Text → Bool) (before after : Text → Option D) (words : List Word) (fault : ImagesFault) → RefusesImages Unchanged known allowed before after words fault → (Unchanged → (name : Text) → after name ≡ before name) → known ≡ true → (name : Text) → after name ≡ before name
as_before known allowed before after words (BadImage index why) h same is name = h.1 is name
as_before known allowed before after words NoMemory h same is name = same h name

module _ {I D R S A : Type 0} (i : ImagesGhosts I D) (g : DeviceGhosts D) (r : SourceGhosts R) (s : SinkGhosts S) (asker : AskerGhosts A) (lacking : Maps) (bitmap : Option Text) (ask : Ask) (names : List Text) (before after : I) (old new : Told R S A) (result : Result (Unit {0}) CommandFault) where
  -- the kind of the bitmap is taken, and the images that are opened are those of the names
  opens_so : (chunk : Option ℕ) → Ok chunk ≡ chunk_in_memory bitmap
      → (inner : List Text) → inner ≡ names_with ask names → (words : List Word) → words ≡ image_list false inner → (access : Access) → access ≡ access_of ask
      → (is_readonly ask ≡ true → KeepsImages i before after) → UsesImages i g (WorksOn r s (question asker ask inner) (ChecksNamed asker ask None) inner lacking ask chunk) access words before after old new result
      → OpensWithBitmap i g r s asker lacking bitmap ask names before after old new result
  opens_so chunk taken inner named words are access opened kept uses =
      let Using : List Text → Access → List Word → Type 0 = λ inner access words. UsesImages i g (WorksOn r s (question asker ask inner) (ChecksNamed asker ask None) inner lacking ask chunk) access words before after old new result in
      by_kind i g r s asker lacking bitmap ask names before after old new result (Ok chunk) taken (record {
        kept = kept;
        done = subst (λ (all : List Text). Using all (access_of ask) (image_list false all)) named
            (subst (λ (way : Access). Using inner way (image_list false inner)) opened (subst (Using inner access) are uses));
      })

  -- no image is touched, as there is no memory for the lists
  opens_none : (chunk : Option ℕ) → Ok chunk ≡ chunk_in_memory bitmap → after ≡ before → new ≡ old → result ≡ Err (of_images NoMemory) → OpensWithBitmap i g r s asker lacking bitmap ask names before after old new result
  opens_none chunk taken same idle is = by_kind i g r s asker lacking bitmap ask names before after old new result (Ok chunk) taken (record {
    kept = λ readonly known name. (ap (λ images. i.device_at images name) same, ap (λ images. i.asked images name) same);
    done = inr (record { fault = NoMemory; is = is; refused = same; unwritten = idle });
  })

pub change_devices-devices-requires-clause-brings : goal.change_devices-devices-requires-clause-brings
change_devices-devices-requires-clause-brings g c κs within = λ there.
    let inner = texts c.as_slice-names.result.now in
    let words_are : map word_of c.as_slice-words.result.now ≡ image_list false inner = ap (map word_of) c.as_slice-words.ensures.value ∙ c.in-Ok-image_list.ensures in
    let many = c.in_ok-devices.ensures.gives.many ∙ ap length words_are ∙ all_named inner ∙ length-map c.as_slice-names.result.now (λ s. s.now) ∙ ap length c.as_slice-names.ensures.value in
    let joins : is_some c.device.result ≡ true = sym (there_same (λ s. s.now) c.device.result) ∙ ap is_some c.device.ensures ∙ there in
    subst (λ n. 0 < n) (sym many) (c.in-Ok.ensures.some joins)

pub look_at_devices-result-requires-clause-brings : goal.look_at_devices-result-requires-clause-brings
look_at_devices-result-requires-clause-brings g c κs within = λ there.
    let inner = texts c.as_slice-names.result.now in
    let words_are : map word_of c.as_slice-words.result.now ≡ image_list false inner = ap (map word_of) c.as_slice-words.ensures.value ∙ c.in-Ok-image_list.ensures in
    let many = c.in_ok-devices.ensures.gives.many ∙ ap length words_are ∙ all_named inner ∙ length-map c.as_slice-names.result.now (λ s. s.now) ∙ ap length c.as_slice-names.ensures.value in
    let joins : is_some c.device.result ≡ true = sym (there_same (λ s. s.now) c.device.result) ∙ ap is_some c.device.ensures ∙ there in
    let same : c.deref.result.now ≡ c.in_ok-devices.devices.items = search rules in
    subst (λ n. 0 < n) (sym many ∙ ap length (sym same)) (c.in-Ok.ensures.some joins)

-- the kind of the bitmap is refused
pub returns-in_err-chunk-clause-gives : goal.returns-in_err-chunk-clause-gives
returns-in_err-chunk-clause-gives g c =
    let p = err_from_is_err_and c.from_residual.result c.from_residual.ensures.1 in
    let old = told_of c.args.session.now c.args.notices.now in
    let kind = option_map (λ s. s.now) c.args.bitmap in
    by_kind g.I.Images g.I.Dev.Device g.R.Source g.S.Sink g.A.Asker c.args.session.now.lacking.now kind (array_ask c.args.command) (texts c.args.names.now) c.args.images.now c.args.images.now old old c.from_residual.result
    _ (sym c.in_err-chunk.was ∙ c.chunk_in_memory.ensures) (rw (p.1, p.2) (refl, (refl, refl)))

-- there is no memory for the names, or for the words
pub returns-in_default-clause-gives : goal.returns-in_default-clause-gives
returns-in_default-clause-gives g c =
    let old = told_of c.args.session.now c.args.notices.now in
    opens_none g.I.Images g.I.Dev.Device g.R.Source g.S.Sink g.A.Asker c.args.session.now.lacking.now (option_map (λ s. s.now) c.args.bitmap) (array_ask c.args.command) (texts c.args.names.now) c.args.images.now c.args.images.now old old _
    c.in_ok-chunk.chunk (sym c.in_ok-chunk.was ∙ c.chunk_in_memory.ensures) refl refl refl

pub returns-in_default-image_list-clause-gives : goal.returns-in_default-image_list-clause-gives
returns-in_default-image_list-clause-gives g c =
    let old = told_of c.args.session.now c.args.notices.now in
    opens_none g.I.Images g.I.Dev.Device g.R.Source g.S.Sink g.A.Asker c.args.session.now.lacking.now (option_map (λ s. s.now) c.args.bitmap) (array_ask c.args.command) (texts c.args.names.now) c.args.images.now c.args.images.now old old _
    c.in_ok-chunk.chunk (sym c.in_ok-chunk.was ∙ c.chunk_in_memory.ensures) refl refl refl

-- an image is refused
pub returns-in_err-devices-clause-gives : goal.returns-in_err-devices-clause-gives
returns-in_err-devices-clause-gives g c =
    let fault = c.in_err-devices.field-0.0 in
    let is : c.from_residual-in_err-devices.result ≡ Err (of_images fault) = search rules in
    let ask = array_ask c.args.command in
    let inner = texts c.as_slice-names.result.now in
    let named : inner ≡ names_with ask (texts c.args.names.now) = ap texts c.as_slice-names.ensures.value ∙ c.in-Ok.ensures.all ∙ ap (with_last (texts c.args.names.now)) c.device.ensures in
    let words_are : map word_of c.as_slice-words.result.now ≡ image_list false inner = ap (map word_of) c.as_slice-words.ensures.value ∙ c.in-Ok-image_list.ensures in
    let old = told_of c.args.session.now c.args.notices.now in
    let kept : is_readonly ask ≡ true → KeepsImages g.I.Images c.args.images.now c.take_images.new.images =
    λ readonly is name. (
      as_before _ _ _ _ _ fault c.in_err-devices.ensures.gives (λ e n. ap (λ images. g.I.Images.device_at images n) e) is name,
      c.take_images.ensures.looks is (ap asks c.access.ensures ∙ only_looks ask readonly) name,
    ) in
    opens_so g.I.Images g.I.Dev.Device g.R.Source g.S.Sink g.A.Asker c.args.session.now.lacking.now (option_map (λ s. s.now) c.args.bitmap) ask (texts c.args.names.now) c.args.images.now c.take_images.new.images old old c.from_residual-in_err-devices.result
    c.in_ok-chunk.chunk (sym c.in_ok-chunk.was ∙ c.chunk_in_memory.ensures) inner named _ words_are c.access.result c.access.ensures kept
    (inr (record { fault = fault; is = is; refused = c.in_err-devices.ensures.gives; unwritten = refl }))

-- the devices are only looked at
pub returns-then-is_readonly-clause-gives : goal.returns-then-is_readonly-clause-gives
returns-then-is_readonly-clause-gives g c =
    let i = g.I.Images in
    let call = c.look_at_devices-result in
    let ask = array_ask c.args.command in
    let inner = texts c.as_slice-names.result.now in
    let asked = question g.A.Asker ask inner in
    let named : inner ≡ names_with ask (texts c.args.names.now) = ap texts c.as_slice-names.ensures.value ∙ c.in-Ok.ensures.all ∙ ap (with_last (texts c.args.names.now)) c.device.ensures in
    let words = map word_of c.as_slice-words.result.now in
    let words_are : words ≡ image_list false inner = ap (map word_of) c.as_slice-words.ensures.value ∙ c.in-Ok-image_list.ensures in
    let old = told_of c.args.session.now c.args.notices.now in
    let new = told_of call.new.session call.new.notices in
    let devices = c.in_ok-devices.devices.items in
    let all = disks g.I.Dev.Device devices in
    let same : c.deref.result.now ≡ devices = search rules in
    let looks = subst (λ items. LooksAtDevices g.R.Source g.S.Sink asked inner c.args.session.now.lacking.now ask c.in_ok-chunk.chunk (disks g.I.Dev.Device items) old new call.result) same call.ensures.gives in
    let works : WorksOn g.R.Source g.S.Sink asked (ChecksNamed g.A.Asker ask None) inner c.args.session.now.lacking.now ask c.in_ok-chunk.chunk all all old new call.result =
    subst (λ (b : Bool). WorksBy g.R.Source g.S.Sink asked (ChecksNamed g.A.Asker ask None) inner c.args.session.now.lacking.now ask c.in_ok-chunk.chunk b all all old new call.result) (sym c.if-is_readonly.true ∙ c.is_readonly.ensures) (refl, looks) in
    let kept : is_readonly ask ≡ true → KeepsImages i c.args.images.now c.put_back.new.images =
    λ readonly is name. (
      restored (i.device_at c.args.images.now) (i.device_at c.take_images.new.images) (i.device_at c.put_back.new.images) _ _ devices (c.in_ok-devices.ensures.gives.taken is) (c.put_back.ensures.back (c.take_images.ensures.known ∙ is)) name,
      c.put_back.ensures.asked (c.take_images.ensures.known ∙ is) name ∙ c.take_images.ensures.looks is (ap asks c.access.ensures ∙ only_looks ask readonly) name,
    ) in
    opens_so i g.I.Dev.Device g.R.Source g.S.Sink g.A.Asker c.args.session.now.lacking.now (option_map (λ s. s.now) c.args.bitmap) ask (texts c.args.names.now) c.args.images.now c.put_back.new.images old new call.result
    c.in_ok-chunk.chunk (sym c.in_ok-chunk.was ∙ c.chunk_in_memory.ensures) inner named words words_are c.access.result c.access.ensures kept
    (used i g.I.Dev.Device (WorksOn g.R.Source g.S.Sink asked (ChecksNamed g.A.Asker ask None) inner c.args.session.now.lacking.now ask c.in_ok-chunk.chunk) c.access.result words c.args.images.now c.take_images.new.images c.put_back.new.images devices devices old new call.result
    c.in_ok-devices.ensures.gives c.take_images.ensures.known refl c.put_back.ensures.back works)

pub returns-clause-gives : goal.returns-clause-gives
returns-clause-gives g c =
    let i = g.I.Images in
    let call = c.change_devices-devices in
    let ask = array_ask c.args.command in
    let inner = texts c.as_slice-names.result.now in
    let asked = question g.A.Asker ask inner in
    let named : inner ≡ names_with ask (texts c.args.names.now) = ap texts c.as_slice-names.ensures.value ∙ c.in-Ok.ensures.all ∙ ap (with_last (texts c.args.names.now)) c.device.ensures in
    let words = map word_of c.as_slice-words.result.now in
    let words_are : words ≡ image_list false inner = ap (map word_of) c.as_slice-words.ensures.value ∙ c.in-Ok-image_list.ensures in
    let old = told_of c.args.session.now c.args.notices.now in
    let new = told_of call.new.session call.new.notices in
    let before = disks g.I.Dev.Device c.in_ok-devices.devices.items in
    let after = disks g.I.Dev.Device call.result.0.items in
    let changes : is_readonly ask ≡ false = sym c.is_readonly.ensures ∙ c.if-is_readonly.false in
    let works : WorksOn g.R.Source g.S.Sink asked (ChecksNamed g.A.Asker ask None) inner c.args.session.now.lacking.now ask c.in_ok-chunk.chunk before after old new call.result.1 =
    subst (λ (b : Bool). WorksBy g.R.Source g.S.Sink asked (ChecksNamed g.A.Asker ask None) inner c.args.session.now.lacking.now ask c.in_ok-chunk.chunk b before after old new call.result.1) (sym changes) call.ensures.gives in
    let kept : is_readonly ask ≡ true → KeepsImages i c.args.images.now c.put_back-2.new.images = λ readonly. absurd (true≢false (sym readonly ∙ changes)) in
    opens_so i g.I.Dev.Device g.R.Source g.S.Sink g.A.Asker c.args.session.now.lacking.now (option_map (λ s. s.now) c.args.bitmap) ask (texts c.args.names.now) c.args.images.now c.put_back-2.new.images old new call.result.1
    c.in_ok-chunk.chunk (sym c.in_ok-chunk.was ∙ c.chunk_in_memory.ensures) inner named words words_are c.access.result c.access.ensures kept
    (used i g.I.Dev.Device (WorksOn g.R.Source g.S.Sink asked (ChecksNamed g.A.Asker ask None) inner c.args.session.now.lacking.now ask c.in_ok-chunk.chunk) c.access.result words c.args.images.now c.take_images.new.images c.put_back-2.new.images c.in_ok-devices.devices.items call.result.0.items old new call.result.1
    c.in_ok-devices.ensures.gives c.take_images.ensures.known call.ensures.as_many c.put_back-2.ensures.back works)
