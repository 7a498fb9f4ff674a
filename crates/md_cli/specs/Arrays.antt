-- What the commands that open a whole array give.
use Rattle.md_device.specs.declared.device.Device.{Ghosts}
use Rattle.std.specs.Prelude.{◌≡◌, ◌⊎◌, ◌<◌, ℕ, Bool, true, false, List, [], length, map, Option, is_some, Result, Ok, Err}
use Rattle.clap.specs.Words.{Text}
use Rattle.md_state.specs.View.{ArrayView, Disk, MirrorView, disk_of}
use Rattle.md_array.specs.Open.Opened.{IsOpenedFrom}
use Rattle.md_array.specs.Open.Refusals.{RefusesOpen}
use Rattle.md_array.specs.declared.fault.OpenFault.{OpenFault}
use Rattle.md_array.specs.declared.fault.OpenFault.TheVariants.{MetadataFault}
use Rattle.md_refusals.specs.Output.{ShowsText}
use Rattle.md_streams.specs.declared.source.Source.{Ghosts as SourceGhosts}
use Rattle.md_refusals.specs.Faults.{of_images}
use Rattle.md_refusals.specs.declared.fault.CommandFault.{CommandFault}
use Rattle.md_refusals.specs.declared.fault.CommandFault.TheVariants.{Grow, NoMemory, Open}
use Rattle.md_metadata.specs.declared.bitmap_grow.fault.GrowFault.{GrowFault}
use Rattle.md_metadata.specs.declared.bitmap_grow.fault.GrowFault.TheVariants as grow_fault
use Rattle.md_streams.specs.declared.sink.Sink.{Ghosts as SinkGhosts}
use Rattle.md_images.specs.declared.access.Access.{Access}
use Rattle.md_images.specs.declared.fault.ImagesFault.{ImagesFault}
use Rattle.md_images.specs.declared.images.Images.{Ghosts as ImagesGhosts}
use Rattle.md_images.specs.Images.{allows}
use Rattle.md_images.specs.Taking.{ArePut, AreUnder, IsDistinct, IsThere, RefusesImages, Word, names_of}
use Rattle.md_words.specs.Asks.{Ask, device_to_add, is_readonly}
use Rattle.md_messages.specs.Holding.{NotesHeldOnJoining}
use Rattle.md_messages.specs.Noticed.{NotesOpening, with_dropped, without_stored}
use Rattle.md_messages.specs.Question.{Question}
use Rattle.md_messages.specs.declared.notices.Notices.{Notices}
use Rattle.md_cli.specs.Asking.{PerformsOrDeclines}
use Rattle.md_cli.specs.InMemory.{GetsBitmapInMemory, GetsNoBitmap, GetsStandIn, RefusesStandIn}
use Rattle.md_cli.specs.Lacking.{Maps, OpensLacking, RefusesLackingImages, growth_of}
use Rattle.md_cli.specs.Opened.{OpenedView, moves_device, with_beside, with_last}
use Rattle.md_cli.specs.Streams.{Told}

-- a device that is only looked at, and over which what is written is kept in memory: no call on it has failed yet, and no
-- crash leaves any of what is written
abbrev pub overlaid : Disk → Disk
overlaid d = record d { faults = []; failures = 0; crashes = [] }

-- why devices are not opened, and what stands on them then
abbrev pub Refusal : Type 1
Refusal = List Disk → List Disk → OpenFault → Type 0

module _ {X : Type 0} (Refuses : Refusal) where
  -- they are not opened as a mirror, and nothing is read or put out
  pub record RefusesMirror (before after : List Disk) (old new : X)
      (result : Result (Unit {0}) CommandFault) : Type 0 where
    pub fault : OpenFault
    pub is : result ≡ Err (Open fault)
    pub refused : Refuses before after fault
    pub unused : new ≡ old

module _ {S : Type 0} (s : SinkGhosts S) (text_of : ArrayView → List ℕ) where
  -- The devices are opened as a mirror, which is shown in a text that is made of it. `before` and `after` are the devices as contracts
  -- see them.
  pub record ShowsMirror (before after : List Disk) (old new : S)
      (result : Result (Unit {0}) CommandFault) : Type 0 where
    pub mirror : MirrorView
    pub opened : IsOpenedFrom before mirror
    pub devices : after ≡ mirror.disks
    pub shown : ShowsText s (text_of mirror.array) old new result

  abbrev pub ShowsDevices : List Disk → List Disk → S → S → Result (Unit {0}) CommandFault → Type 0
  ShowsDevices before after old new result =
      ShowsMirror before after old new result ⊎ RefusesMirror RefusesOpen before after old new result

-- An overlay refuses a write only where there is no memory for it: then that is the fault.
abbrev pub answer_of_overlays : Result (Unit {0}) CommandFault → Result (Unit {0}) CommandFault
answer_of_overlays (Err (Open (MetadataFault k))) = Err NoMemory
answer_of_overlays (Err (Grow (grow_fault.MetadataFault k))) = Err NoMemory
answer_of_overlays result = result

-- Where the command names an image that is to join, its device is the last. It is taken out, and was looked at then.
pub record TakesLast (ask : Ask) (all members : List Disk) (seen : Option Disk)
    (old new : Notices) : Type 0 where
  pub device : Option Disk
  pub are : all ≡ with_last members device
  pub brings : is_some device ≡ is_some (device_to_add ask)
  pub looks : NotesHeldOnJoining device seen old new

module _ {R S A : Type 0} (r : SourceGhosts R) (s : SinkGhosts S) (q : Question A) (names : List Text)
    (lacking : Maps) (ask : Ask) where
  -- The devices of the members are opened as a mirror, where what their images lack counts as listed, and the command is done with it,
  -- where the question allows it. All
  -- devices come back in the order of their images, as it left them: those of the members, and the one beside them. What is noticed
  -- is that of the mirror as it was opened, and as it is left.
  pub record PerformsOnMirror (members : List Disk) (device : Option Disk) (after : List Disk)
      (old new : Told R S A) (result : Result (Unit {0}) CommandFault) : Type 0 where
    pub opened : MirrorView
    pub opens : OpensLacking (growth_of ask) lacking members opened
    pub first : Notices
    pub noted : NotesOpening ask opened.array old.notices first
    pub left : OpenedView
    pub performs : PerformsOrDeclines r s q names lacking ask first
        (record { mirror = opened; beside = device }) left old.streams new.streams result
    pub dropped : new.notices ≡ with_dropped ask left.mirror.array (is_some left.beside) first
    pub devices : after ≡ with_beside ask left.mirror.disks left.beside

  -- they are not opened so, and the device that was to join is as it was
  pub record RefusesMembers (members : List Disk) (device : Option Disk) (after : List Disk)
      (old new : Told R S A) (result : Result (Unit {0}) CommandFault) : Type 0 where
    pub left : List Disk
    pub refused : RefusesMirror (RefusesLackingImages lacking) members left old new result
    pub devices : after ≡ with_beside ask left device

  abbrev pub OpensMembers : List Disk → Option Disk → List Disk → Told R S A → Told R S A
      → Result (Unit {0}) CommandFault → Type 0
  OpensMembers members device after old new result =
      PerformsOnMirror members device after old new result
      ⊎ RefusesMembers members device after old new result

  -- The devices are those of the members and, where the command names an image that is to join, after them the one of that image,
  -- which is looked at first.
  pub record OpensAll (before after : List Disk) (old new : Told R S A)
      (result : Result (Unit {0}) CommandFault) : Type 0 where
    pub members : List Disk
    pub device : Option Disk
    pub seen : Option Disk
    pub noted : Notices
    pub are : before ≡ with_last members device
    pub brings : is_some device ≡ is_some (device_to_add ask)
    pub looks : NotesHeldOnJoining device seen old.notices noted
    pub done : OpensMembers members seen after (record old { notices = noted }) new result

  -- a device may leave or join, and there is no memory for the list in which all of them come back then
  pub record RefusesList (before after : List Disk) (old new : Told R S A)
      (result : Result (Unit {0}) CommandFault) : Type 0 where
    pub moves : moves_device ask ≡ true
    pub is : result ≡ Err NoMemory
    pub devices : after ≡ before
    pub unused : new ≡ old

  abbrev pub OpensDevices : List Disk → List Disk → Told R S A → Told R S A → Result (Unit {0}) CommandFault
      → Type 0
  OpensDevices before after old new result =
      OpensAll before after old new result ⊎ RefusesList before after old new result

module _ {R S A : Type 0} (r : SourceGhosts R) (s : SinkGhosts S) (q : Question A) (names : List Text)
    (lacking : Maps) (ask : Ask) (chunk : Option ℕ) where
  -- The devices are only looked at, and what is written is kept in memory over them: first what stands in for a superblock that can't be
  -- read, and then a bitmap, where these are asked for. They are opened so as a mirror, and the command is done with it. Of what is
  -- noticed it is forgotten what was stored, and which writes failed.
  pub record LooksAtMirror (devices : List Disk) (old new : Told R S A)
      (result : Result (Unit {0}) CommandFault) : Type 0 where
    pub fronted : List Disk
    pub stands : GetsStandIn old.streams.stand_in (map overlaid devices) fronted
    pub given : List Disk
    pub gets : GetsBitmapInMemory chunk fronted given
    pub seen : List Disk
    pub noted : Notices
    pub answer : Result (Unit {0}) CommandFault
    pub opened : OpensDevices r s q names lacking ask given seen old (record new { notices = noted }) answer
    pub forgotten : new.notices ≡ without_stored noted
    pub told : result ≡ answer_of_overlays answer

  -- there is no memory for the list of overlays
  pub record LooksAtNothing (old new : Told R S A) (result : Result (Unit {0}) CommandFault) : Type 0 where
    pub is : result ≡ Err NoMemory
    pub unused : new ≡ old

  -- the members do not get the bitmap, and they are not opened
  pub record LooksWithoutBitmap (devices : List Disk) (old new : Told R S A)
      (result : Result (Unit {0}) CommandFault) : Type 0 where
    pub fronted : List Disk
    pub stands : GetsStandIn old.streams.stand_in (map overlaid devices) fronted
    pub why : GrowFault
    pub none : GetsNoBitmap chunk fronted why
    pub is : result ≡ answer_of_overlays (Err (Grow why))
    pub unused : new ≡ old

  -- the image that is to count as a device of the array does not
  pub record LooksWithoutStandIn (devices : List Disk) (old new : Told R S A)
      (result : Result (Unit {0}) CommandFault) : Type 0 where
    pub why : CommandFault
    pub refused : RefusesStandIn old.streams.stand_in (map overlaid devices) why
    pub is : result ≡ Err why
    pub unused : new ≡ old

  abbrev pub LooksAtDevices : List Disk → Told R S A → Told R S A → Result (Unit {0}) CommandFault → Type 0
  LooksAtDevices devices old new result =
      LooksAtMirror devices old new result ⊎ LooksAtNothing old new result
      ⊎ LooksWithoutBitmap devices old new result ⊎ LooksWithoutStandIn devices old new result

-- What is done with devices, as contracts see them before and after, and with the output, or with both streams.
abbrev pub Work : Type 0 → Type 1
Work S = List Disk → List Disk → S → S → Result (Unit {0}) CommandFault → Type 0

-- Whether a command goes on with these devices: who is asked, and what is noticed, before it and after.
abbrev pub Naming : Type 0 → Type 1
Naming A = List Disk → A → A → Notices → Notices → Result (Unit {0}) CommandFault → Type 0

-- the streams and what was noticed after that
abbrev pub with_asked : {R S A : Type 0} → Told R S A → A → Notices → Told R S A
with_asked old asker notices = record { streams = record old.streams { asker = asker }; notices = notices }

module _ {R S A : Type 0} (named : Naming A) (Does : Work (Told R S A)) where
  -- the command goes on, and is done with the devices
  pub record GoesOnNamed (before after : List Disk) (old new : Told R S A)
      (result : Result (Unit {0}) CommandFault) : Type 0 where
    pub asker : A
    pub notices : Notices
    pub goes : named before old.streams.asker asker old.notices notices (Ok tt)
    pub does : Does before after (with_asked old asker notices) new result

  -- it does not, and no device is changed
  pub record StopsUnnamed (before after : List Disk) (old new : Told R S A)
      (result : Result (Unit {0}) CommandFault) : Type 0 where
    pub why : CommandFault
    pub is : result ≡ Err why
    pub stays : named before old.streams.asker new.streams.asker old.notices new.notices (Err why)
    pub same : after ≡ before
    pub unused : new ≡ with_asked old new.streams.asker new.notices

  abbrev pub ChangesDevices : Work (Told R S A)
  ChangesDevices before after old new result =
      GoesOnNamed before after old new result ⊎ StopsUnnamed before after old new result

module _ {R S A : Type 0} (r : SourceGhosts R) (s : SinkGhosts S) (q : Question A) (named : Naming A)
    (names : List Text) (lacking : Maps) (ask : Ask) (chunk : Option ℕ) where
  -- whether the devices are only looked at
  abbrev pub WorksBy : Bool → List Disk → List Disk → Told R S A → Told R S A → Result (Unit {0}) CommandFault
      → Type 0
  WorksBy true before after old new result =
      (after ≡ before) × LooksAtDevices r s q names lacking ask chunk before old new result
  WorksBy false before after old new result =
      ChangesDevices named (OpensDevices r s q names lacking ask) before after old new result

  abbrev pub WorksOn : List Disk → List Disk → Told R S A → Told R S A
      → Result (Unit {0}) CommandFault → Type 0
  WorksOn before after old new result = WorksBy (is_readonly ask) before after old new result

-- the image words, and after them the one of the image that is to join the array
abbrev pub names_with : Ask → List Text → List Text
names_with ask names = with_last names (device_to_add ask)

module _ {D : Type 0} (g : Ghosts D) where
  abbrev pub disks : List D → List Disk
  disks = map (disk_of g)

-- whether the image under a name may be had
abbrev pub may : {I D : Type 0} → ImagesGhosts I D → Access → I → Text → Bool
may i access images name = allows access (i.changeable images name)

module _ {I D S : Type 0} (i : ImagesGhosts I D) (g : Ghosts D) (Does : Work S) (access : Access)
    (words : List Word) (before after : I) (old new : S) (result : Result (Unit {0}) CommandFault) where
  -- The devices of all words are taken out of their images, worked on, and put back under their names. Where it is known
  -- which devices there are, they are those under the names, each of which may be had, and all other names keep theirs.
  pub record WorksOnImages : Type 0 where
    pub taken : List D
    pub given : List D
    pub distinct : IsDistinct (names_of words) (length words)
    pub were : i.known before ≡ true → AreUnder (i.device_at before) (names_of words) (length words) taken
    pub there : i.known before ≡ true → (k : ℕ) → k < length words
        → IsThere (may i access before) (i.device_at before) (names_of words) k
    pub put : i.known before ≡ true
        → ArePut (i.device_at before) (i.device_at after) (names_of words) (length words) given
    pub done : Does (disks g taken) (disks g given) old new result

  -- an image is refused, or there is no memory for the list of devices: nothing else is done
  pub record RefusesWords : Type 0 where
    pub fault : ImagesFault
    pub is : result ≡ Err (of_images fault)
    pub refused : RefusesImages (after ≡ before) (i.known before) (may i access before) (i.device_at before)
        (i.device_at after) words fault
    pub unwritten : new ≡ old

  abbrev pub UsesImages : Type 0
  UsesImages = WorksOnImages ⊎ RefusesWords

-- Where it is known which devices there are, each name has the device that it had, and no image was had so that it might have
-- been changed.
abbrev pub KeepsImages : {I D : Type 0} → ImagesGhosts I D → I → I → Type 0
KeepsImages i before after =
    i.known before ≡ true → (name : Text)
    → (i.device_at after name ≡ i.device_at before name) × (i.asked after name ≡ i.asked before name)
