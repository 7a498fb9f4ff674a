-- Commands that may part an array: they are asked first if a member in sync is not among the images.
use Rattle.std.specs.Prelude.{◌≡◌, ◌⊎◌, ℕ, true, false, List, map, Option, is_some, Result, Ok, Err}
use Rattle.md_state.specs.View.{Disk, MirrorView}
use Rattle.md_array.specs.Open.Opened.{IsOpenedFrom}
use Rattle.md_array.specs.Open.Refusals.{RefusesOpen}
use Rattle.md_array.specs.declared.fault.OpenFault.{OpenFault}
use Rattle.md_array.specs.declared.fault.OpenFault.TheVariants as opening
use Rattle.md_metadata.specs.declared.bitmap_grow.fault.GrowFault.TheVariants as growing
use Rattle.md_refusals.specs.declared.fault.CommandFault.{CommandFault}
use Rattle.md_refusals.specs.declared.fault.CommandFault.TheVariants as fault
use Rattle.md_words.specs.Asks.{Ask, device_to_add, may_part}
use Rattle.md_messages.specs.Holding.{NotesHeldOnJoining}
use Rattle.md_messages.specs.Noticed.{NotesOpening, nothing, without_stored}
use Rattle.md_messages.specs.Question.{absent_question}
use Rattle.md_messages.specs.declared.notices.Notices.{Notices}
use Rattle.md_streams.specs.declared.asker.Asker.{Ghosts}
use Rattle.md_cli.specs.Arrays.{overlaid}
use Rattle.md_cli.specs.InMemory.{GetsBitmapInMemory, GetsNoBitmap}
use Rattle.md_cli.specs.Opened.{with_last}

module _ (ask : Ask) (chunk : Option ℕ) (devices : List Disk) where
  -- The members get a bitmap first, if one is asked for. The devices are those of the members and, if the command names an image that
  -- is to join, after them the one of that image. Those of the members are opened as a mirror, and it is noticed what there is to
  -- notice, but for what was stored.
  pub record NotesArray (looked : Notices) : Type 0 where
    pub given : List Disk
    pub gets : GetsBitmapInMemory chunk devices given
    pub members : List Disk
    pub device : Option Disk
    pub seen : Option Disk
    pub held : Notices
    pub are : given ≡ with_last members device
    pub brings : is_some device ≡ is_some (device_to_add ask)
    pub looks : NotesHeldOnJoining device seen nothing held
    pub opened : MirrorView
    pub opens : IsOpenedFrom members opened
    pub noted : Notices
    pub notes : NotesOpening ask opened.array held noted
    pub forgotten : looked ≡ without_stored noted

  -- those of the members are not opened as a mirror
  pub record OpensNone (why : OpenFault) : Type 0 where
    pub given : List Disk
    pub gets : GetsBitmapInMemory chunk devices given
    pub members : List Disk
    pub device : Option Disk
    pub are : given ≡ with_last members device
    pub brings : is_some device ≡ is_some (device_to_add ask)
    pub left : List Disk
    pub refused : RefusesOpen members left why

  -- they make no array, or get no bitmap
  abbrev pub MakesNone : CommandFault → Type 0
  MakesNone (fault.Open why) = OpensNone why
  MakesNone (fault.Grow why) = GetsNoBitmap chunk devices why
  MakesNone why = ⊥

-- The command does not go on: what its look could not read it may not pass by. A write that fails in memory found no memory.
abbrev pub answer_unopened : CommandFault → Result (Unit {0}) CommandFault
answer_unopened (fault.Open opening.NoMemory) = Err fault.NoMemory
answer_unopened (fault.Open (opening.MetadataFault k)) = Err fault.NoMemory
answer_unopened (fault.Grow growing.NoMemory) = Err fault.NoMemory
answer_unopened (fault.Grow (growing.MetadataFault k)) = Err fault.NoMemory
answer_unopened why = Err why

module _ {A : Type 0} (g : Ghosts A) (ask : Ask) (chunk : Option ℕ) (devices : List Disk) (old new : A)
    (was now : Notices) (result : Result (Unit {0}) CommandFault) where
  -- The array is opened in memory over the devices, and it is asked if a member in sync is not among them.
  pub record ChecksArray : Type 0 where
    pub may : may_part ask ≡ true
    pub notes : NotesArray ask chunk (map overlaid devices) now
    pub asks : absent_question g now old new result

  -- nobody is asked, and nothing is noticed
  abbrev pub IsUnasked : Type 0
  IsUnasked = (new ≡ old) × (now ≡ was)

  -- they make no array
  pub record ChecksNone : Type 0 where
    pub may : may_part ask ≡ true
    pub why : CommandFault
    pub none : MakesNone ask chunk (map overlaid devices) why
    pub is : result ≡ answer_unopened why
    pub unasked : IsUnasked

  -- the command parts no array, or there is no memory for the overlays
  abbrev pub ChecksNothing : Type 0
  ChecksNothing =
      (((may_part ask ≡ false) × (result ≡ Ok tt))
      ⊎ ((may_part ask ≡ true) × (result ≡ Err fault.NoMemory)))
      × IsUnasked

  abbrev pub ChecksNamed : Type 0
  ChecksNamed = ChecksArray ⊎ ChecksNone ⊎ ChecksNothing
