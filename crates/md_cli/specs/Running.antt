-- What one run gives.
use Rattle.md_device.specs.declared.device.Device.{Ghosts as DeviceGhosts}
use Rattle.std.specs.Prelude.{◌≡◌, ◌≢◌, ◌⊎◌, ◌&&◌, ℕ, Bool, true, false, nat_lt, if◌then◌else◌, List, [], ◌∷◌, length, map, Option, Some, None, Result, Ok, Err, MatchResult}
use Rattle.clap.specs.Words.{Text}
use Rattle.md_images.specs.declared.access.Access.TheVariants.{Change}
use Rattle.md_images.specs.declared.images.Images.{Ghosts as ImagesGhosts}
use Rattle.md_create.specs.declared.params.CreateParams.{CreateParams}
use Rattle.md_refusals.specs.declared.fault.CommandFault.{CommandFault}
use Rattle.md_refusals.specs.declared.fault.CommandFault.TheVariants as fault
use Rattle.md_refusals.specs.declared.option_fault.OptionFault.{OptionFault}
use Rattle.md_words.specs.Asks.{Ask, Options, access_of, creates, grows, examines, examines_badblocks, examines_bitmap, is_json, is_readonly, scan_form, scans, tells_by_status}
use Rattle.md_words.specs.Parsing.{asked, bitmap_word, image_words, words_fault}
use Rattle.md_streams.specs.declared.source.Source.{Ghosts as SourceGhosts}
use Rattle.md_streams.specs.declared.sink.Sink.{Ghosts as SinkGhosts}
use Rattle.md_examine_commands.specs.Examining.{ExaminesOne}
use Rattle.md_examine_commands.specs.EachImage.{Name}
use Rattle.md_streams.specs.declared.messages.Messages.{Messages}
use Rattle.md_messages.specs.Noticed.{nothing}
use Rattle.md_messages.specs.Question.{question}
use Rattle.md_messages.specs.Telling.{TellsNoticed}
use Rattle.md_streams.specs.declared.asker.Asker.{Ghosts as AskerGhosts}
use Rattle.md_messages.specs.declared.notices.Notices.{Notices}
use Rattle.md_cli.specs.AllNamed.{ChecksNamed}
use Rattle.md_cli.specs.Arrays.{KeepsImages, UsesImages, WorksOn, names_with}
use Rattle.md_cli.specs.CreateOptions.{AreParamsOf, create_option_fault}
use Rattle.md_cli.specs.Creating.{CreatesOn}
use Rattle.md_cli.specs.Lacking.{Maps}
use Rattle.md_cli.specs.Growing.{GrowsArray, chunk_in_memory}
use Rattle.md_cli.specs.Refusing.{ShowsIfRefused}
use Rattle.md_cli.specs.Scanning.{ScansImages}
use Rattle.md_cli.specs.Streams.{OnlyPutsOut, Streams, Told, audience_of, streams_of}
use Rattle.md_cli.specs.declared.session.Session.{Session}
use Rattle.md_images.specs.Taking.{image_list}

-- whether members were found to differ in some chunk
abbrev pub differs : Option ℕ → Bool
differs None = false
differs (Some count) = nat_lt 0 count

-- The status of a command: done, or refused. Where it is to say that members differ, it is 3 if it is done and they do.
abbrev pub status_of : Bool → Option ℕ → Result (Unit {0}) CommandFault → ℕ
status_of tells mismatched (Ok _) = if tells && differs mismatched then 3 else 0
status_of tells mismatched (Err _) = 1

-- nothing is done: no image is touched, nothing is read from the input, and nothing is written to the output
abbrev pub DoesNothing : {I X : Type 0} → I → I → X → X → Type 0
DoesNothing before after old new = (after ≡ before) × (new ≡ old)

module _ {I D S : Type 0} (i : ImagesGhosts I D) (g : DeviceGhosts D) (s : SinkGhosts S) where
  -- A report on one image. Where it is known which devices there are, no image was had so that it might have been changed.
  pub record ExaminesImage (ask : Ask) (words : List Text) (before after : I) (old new : S)
      (result : Result (Unit {0}) CommandFault) : Type 0 where
    pub count : length words ≢ 1 → (result ≡ Err fault.BadCount) × DoesNothing before after old new
    pub one : (name : Text) → words ≡ name ∷ []
        → ExaminesOne ask g s (i.known before) (i.device_at before) (i.device_at after) name
        old new result
    pub looked : i.known before ≡ true → (name : Text) → i.asked after name ≡ i.asked before name

-- the options of `create` are refused
pub record RefusesOptions {I X : Type 0} (o : Options) (random : Option (List ℕ)) (words : List Text)
    (before after : I) (old new : X) (result : Result (Unit {0}) CommandFault) : Type 0 where
  pub first : OptionFault
  pub is_first : create_option_fault o random (length words) ≡ Some first
  pub refused : result ≡ Err (fault.Options first)
  pub idle : DoesNothing before after old new

module _ {I D R S A : Type 0} (i : ImagesGhosts I D) (g : DeviceGhosts D) (s : SinkGhosts S)
    (asker : AskerGhosts A) (random : Option (List ℕ)) where
  -- an array is made: the options are refused, or they say what it is made from
  pub record Creates (o : Options) (words : List Text) (before after : I) (old new : Told R S A)
      (result : Result (Unit {0}) CommandFault) : Type 0 where
    pub sound : create_option_fault o random (length words) ≡ None
    pub params : CreateParams
    pub params_are : AreParamsOf o random params
    pub done : UsesImages i g (CreatesOn s o.json (question asker (creates o) words) params words) Change
        (image_list true words) before after old new result

  abbrev pub MakesArray : Options → List Text → I → I → Told R S A → Told R S A
      → Result (Unit {0}) CommandFault → Type 0
  MakesArray o words before after old new result =
      RefusesOptions o random words before after old new result ⊎ Creates o words before after old new result

module _ {I D R S A : Type 0} (i : ImagesGhosts I D) (g : DeviceGhosts D) (r : SourceGhosts R)
    (s : SinkGhosts S) (asker : AskerGhosts A) (lacking : Maps) where
  -- A command with the array that the images make, each of which may lack something by its map. Of one that may change none each of them stays as it is; the members may get a
  -- bitmap in memory there, with chunks of so many bytes.
  pub record OpensArray (chunk : Option ℕ) (ask : Ask) (words : List Text) (before after : I)
      (old new : Told R S A) (result : Result (Unit {0}) CommandFault) : Type 0 where
    pub kept : is_readonly ask ≡ true → KeepsImages i before after
    pub done : UsesImages i g
        (WorksOn r s (question asker ask (names_with ask words)) (ChecksNamed asker ask None)
        (names_with ask words) lacking ask chunk)
        (access_of ask) (image_list false (names_with ask words)) before after old new result

  -- the same, where the kind of that bitmap is taken; else nothing is done
  abbrev pub OpensWithBitmap : Option Text → Ask → List Text → I → I → Told R S A → Told R S A
      → Result (Unit {0}) CommandFault → Type 0
  OpensWithBitmap bitmap ask words before after old new result =
      MatchResult (chunk_in_memory bitmap)
      (λ chunk. OpensArray chunk ask words before after old new result)
      (λ why. (result ≡ Err why) × DoesNothing before after old new)

module _ {I D R S A : Type 0} (i : ImagesGhosts I D) (g : DeviceGhosts D) (r : SourceGhosts R)
    (s : SinkGhosts S) (asker : AskerGhosts A) (random : Option (List ℕ)) (lacking : Maps)
    (bitmap : Option Text) where
  -- What each command does with the images that its words name, and perhaps a bitmap. The input is read by `write` and `serve` alone,
  -- and random bytes are used by `create` alone.
  abbrev pub Obeys : Ask → List Text → I → I → Told R S A → Told R S A
      → Result (Unit {0}) CommandFault → Type 0
  Obeys (examines form) words before after old new result =
      OnlyPutsOut old new
      × ExaminesImage i g s (examines form) words before after old.streams.output new.streams.output result
  Obeys (examines_bitmap form) words before after old new result =
      OnlyPutsOut old new × ExaminesImage i g s (examines_bitmap form) words before after
      old.streams.output new.streams.output result
  Obeys (examines_badblocks form) words before after old new result =
      OnlyPutsOut old new × ExaminesImage i g s (examines_badblocks form) words before
      after old.streams.output new.streams.output result
  Obeys (creates o) words before after old new result =
      MakesArray i g s asker random o words before after old new result
  Obeys (grows bitmap kib) words before after old new result =
      GrowsArray i g s asker bitmap kib words before after old new result
  Obeys (scans json) words before after old new result = ⊥
  Obeys ask words before after old new result =
      OpensWithBitmap i g r s asker lacking bitmap ask words before after old new result

  -- The command's own answer, whose status this is, and the output as it left it; where it is refused and its report was to be a
  -- JSON object, an object that says why comes after that. And what it noticed, which is told beside it.
  pub record DoesCommand (telling : Result (Unit {0}) CommandFault → Notices → Type 0) (ask : Ask)
      (words : List Text) (before after : I) (old new : Streams R S A) (status : ℕ) : Type 0 where
    pub result : Result (Unit {0}) CommandFault
    pub status_is : status ≡ status_of (tells_by_status ask) new.mismatched result
    pub noticed : Notices
    pub left : S
    pub does : Obeys ask words before after (record { streams = old; notices = nothing })
        (record { streams = record new { output = left }; notices = noticed }) result
    pub shown : ShowsIfRefused s (is_json ask) left new.output result
    pub told : telling result noticed

-- Images that are named are looked at, and it is shown of which arrays they are members. Nothing but the output and standard error is
-- another.
pub record DoesScan {I D S E R A : Type 0} (i : ImagesGhosts I D) (g : DeviceGhosts D) (s : SinkGhosts S)
    (e : SinkGhosts E) (json : Bool) (messages : Messages) (words : List Text) (before after : I)
    (old new : Streams R S A) (was now : E) (status : ℕ) : Type 0 where
  pub names : List Name
  pub named : map (λ n. n.now) names ≡ words
  pub scans : ScansImages i g s e (record { json = json; is_named = true; messages = messages }) names before
      after old.output new.output was now status
  pub looked : i.known before ≡ true → (name : Text) → i.asked after name ≡ i.asked before name
  pub only : new ≡ record old { output = new.output }

-- What a run gives of these words; whether they could not be parsed.
module _ {I D T R S W A E : Type 0} (i : ImagesGhosts I D) (g : DeviceGhosts D) (r : SourceGhosts R)
    (s : SinkGhosts S) (asker : AskerGhosts A) (e : SinkGhosts E) (messages : Messages) (words : List Text)
    (unparsed : Bool) (before after : I) (old new : Session T R S W A) (was now : E) (status : ℕ) where
  abbrev pub RunsNothing : Type 0
  RunsNothing = (status ≡ 2) × DoesNothing before after (streams_of old) (streams_of new)

  -- of words that are not taken
  abbrev pub RunsRefused : Type 0
  RunsRefused = words_fault words ≢ [] → RunsNothing

  -- Of words that are taken, but of those of a scan. Where they could not be parsed there was no memory for it.
  abbrev pub RunsTaken : Type 0
  RunsTaken = words_fault words ≡ [] → scan_form (asked words) ≡ None →
      ((unparsed ≡ true) × RunsNothing)
      ⊎ DoesCommand i g r s asker old.random_bytes old.lacking.now (bitmap_word words)
      (TellsNoticed e (audience_of asker old messages) (asked words) (image_words words)
      (streams_of new).gaps was now)
      (asked words) (image_words words) before after (streams_of old) (streams_of new) status

  -- of those of a scan
  abbrev pub RunsScan : Type 0
  RunsScan = words_fault words ≡ [] → (json : Bool) → scan_form (asked words) ≡ Some json →
      ((unparsed ≡ true) × RunsNothing)
      ⊎ DoesScan i g s e json messages (image_words words) before after (streams_of old) (streams_of new)
      was now status
