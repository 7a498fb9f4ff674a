-- What `create` does with the devices of the images.
use Rattle.std.specs.Prelude.{◌≡◌, ◌⊎◌, ℕ, ◌/◌, ◌<◌, Bool, true, List, [], ◌∷◌, codes, drop, length, Option, Some, None, Result, Ok, Err, slice_get, slice_index_or, if◌then◌else◌}
use Rattle.clap.specs.Words.{Text}
use Rattle.md_create.specs.Geometry.{IsGeometry}
use Rattle.md_create.specs.Values.{AreMembers}
use Rattle.md_create.specs.Layout.{writes_of}
use Rattle.md_create.specs.Writes.{DoesWrites, FailsInWrites}
use Rattle.md_create.specs.declared.params.CreateParams.{CreateParams}
use Rattle.md_create.specs.declared.params.NewMember.{NewMember}
use Rattle.md_create.specs.declared.fault.CreateFault.TheVariants.{BadGeometry, NoMemory}
use Rattle.md_state.specs.View.{ArrayView, Disk, of_disks}
use Rattle.md_streams.specs.declared.sink.Sink.{Ghosts}
use Rattle.md_commands.specs.Objects.{summary_shown}
use Rattle.md_refusals.specs.declared.fault.CommandFault.{CommandFault}
use Rattle.md_refusals.specs.declared.fault.CommandFault.TheVariants as fault
use Rattle.md_messages.specs.Holding.{NotesHeldOnEach}
use Rattle.md_messages.specs.Question.{Question}
use Rattle.md_messages.specs.declared.notices.Notices.{Notices}
use Rattle.md_cli.specs.Arrays.{ShowsDevices}
use Rattle.md_cli.specs.Asking.{Declines}
use Rattle.md_cli.specs.Streams.{Streams, Told}
use Rattle.md_images.specs.Taking.{Word, image_list, is_missing_word, names_of}

-- the sectors of a device
abbrev pub sectors_on : Disk → ℕ
sectors_on d = length d.content / 512

abbrev pub first_size : List Disk → Option ℕ
first_size [] = None
first_size (d ∷ ds) = Some (sectors_on d)

-- the size of the device for each image word, of which those that stand for a missing member have none, and the others the
-- devices in their order
unfoldable pub sizes_of : List Text → List Disk → List (Option ℕ)
sizes_of [] disks = []
sizes_of (word ∷ words) disks =
    if is_missing_word true word then None ∷ sizes_of words disks
    else first_size disks ∷ sizes_of words (drop 1 disks)

-- device k before and after
abbrev pub At : (Disk → Disk → NewMember → Type 0) → List Disk → List Disk → List NewMember → ℕ → Type 0
At Related before after members k =
    (d e : Disk) (m : NewMember) → slice_get before k ≡ Some d → slice_get after k ≡ Some e
    → slice_get members k ≡ Some m → Related d e m

-- a member is laid out on a device, or a write of it failed
abbrev pub LaysOut : Disk → Disk → NewMember → Type 0
LaysOut d e m = DoesWrites of_disks (writes_of m) d e

abbrev pub FailsInLayout : Disk → Disk → NewMember → Type 0
FailsInLayout d e m = FailsInWrites of_disks (writes_of m) d e

-- the first n members are laid out, each on its device, and nothing is done to the devices after the n-th
pub record AreLaidOut (before after : List Disk) (members : List NewMember) (n : ℕ) : Type 0 where
  pub as_many : length after ≡ length before
  pub each : (k : ℕ) → k < n → At LaysOut before after members k
  pub later : (k : ℕ) → n < k → slice_get after k ≡ slice_get before k

-- these are the members of the array that is made of the devices
pub record AreNewMembers (params : CreateParams) (words : List Text) (disks : List Disk)
    (members : List NewMember) : Type 0 where
  pub size : ℕ
  pub geometry : IsGeometry params (sizes_of words disks) size
  pub are : AreMembers params (sizes_of words disks) size members
  pub as_many : length members ≡ length disks

module _ (params : CreateParams) (words : List Text) where
  -- Before the first write: the devices make no array, or they do, and there is no memory.
  abbrev pub IsRefusal : List Disk → CommandFault → Type 0
  IsRefusal disks (fault.Create BadGeometry) = (size : ℕ) → IsGeometry params (sizes_of words disks) size → ⊥
  IsRefusal disks (fault.Create NoMemory) = (size : ℕ) × IsGeometry params (sizes_of words disks) size
  IsRefusal disks fault.NoMemory = (size : ℕ) × IsGeometry params (sizes_of words disks) size
  IsRefusal disks _ = ⊥

  pub record RefusesDevices {X : Type 0} (before after : List Disk) (old new : X)
      (result : Result (Unit {0}) CommandFault) : Type 0 where
    pub why : CommandFault
    pub is : result ≡ Err why
    pub refused : IsRefusal before why
    pub untouched : after ≡ before
    pub unwritten : new ≡ old

-- How a new array is shown: as text or as an object, which names the images, but for the words that stand for missing members.
abbrev pub created_shown : Bool → List Text → ArrayView → List ℕ
created_shown json words = summary_shown (codes "create") json (names_of (image_list true words))

module _ {S : Type 0} (s : Ghosts S) (text_of : ArrayView → List ℕ) (list : List Word)
    (members : List NewMember) where
  -- A write fails while a member is laid out, which is named by the place of its image word.
  pub record FailsOnDevice (before after : List Disk) (old new : S)
      (result : Result (Unit {0}) CommandFault) : Type 0 where
    pub place : ℕ
    pub within : place < length before
    pub is : result ≡ Err (fault.MetadataFault (slice_index_or list place (0, [])).0)
    pub laid_out : AreLaidOut before after members place
    pub stopped : At FailsInLayout before after members place
    pub unwritten : new ≡ old

  -- All members are laid out, and the devices are opened and shown.
  pub record LaysOutAll (before after : List Disk) (old new : S)
      (result : Result (Unit {0}) CommandFault) : Type 0 where
    pub middle : List Disk
    pub laid_out : AreLaidOut before middle members (length before)
    pub opened : ShowsDevices s text_of middle after old new result

  abbrev pub LaysOutOn : List Disk → List Disk → S → S → Result (Unit {0}) CommandFault → Type 0
  LaysOutOn before after old new result =
      FailsOnDevice before after old new result ⊎ LaysOutAll before after old new result

-- The members are laid out, where the question allows it.
pub record LaysOutAgreed {R S A : Type 0} (s : Ghosts S) (text_of : ArrayView → List ℕ) (q : Question A)
    (n : Notices) (list : List Word) (members : List NewMember) (before after : List Disk)
    (old new : Streams R S A) (result : Result (Unit {0}) CommandFault) : Type 0 where
  pub agreed : q n old.asker new.asker (Ok tt)
  pub lays_out : LaysOutOn s text_of list members before after old.output new.output result

module _ {R S A : Type 0} (s : Ghosts S) (json : Bool) (q : Question A) (params : CreateParams)
    (words : List Text) where
  -- The devices make an array. What they hold is noted, for which they are only read; then its members are laid out on them, where
  -- the question allows it.
  pub record MakesMembers (before after : List Disk) (old new : Told R S A)
      (result : Result (Unit {0}) CommandFault) : Type 0 where
    pub members : List NewMember
    pub made : AreNewMembers params words before members
    pub seen : List Disk
    pub looks : NotesHeldOnEach before seen old.notices new.notices
    pub rest : new.streams ≡ record old.streams { output = new.streams.output; asker = new.streams.asker }
    pub done : LaysOutAgreed s (created_shown json words) q new.notices (image_list true words) members seen
        after old.streams new.streams result
        ⊎ Declines q new.notices seen after old.streams new.streams result

  abbrev pub CreatesOn : List Disk → List Disk → Told R S A → Told R S A
      → Result (Unit {0}) CommandFault → Type 0
  CreatesOn before after old new result =
      RefusesDevices params words before after old new result ⊎ MakesMembers before after old new result
