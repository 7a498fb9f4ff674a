-- What a device holds that is to join an array, and what it is to that array.
use Rattle.std.specs.Prelude.{◌≡◌, ◌≢◌, ℕ, Bool, true, List, [], Option, Some, None, Vec, is_some}
use Rattle.std.specs.List.{list_any}
use Rattle.md_notices.specs.Belonging.{IsForgotten}
use Rattle.md_notices.specs.Parting.{WasApart}
use Rattle.md_notices.specs.declared.held.held.Held.{Held}
use Rattle.md_notices.specs.declared.held.held.Held.TheVariants.{Member}
use Rattle.md_notices.specs.Held.Holding.{LooksAtEach, LooksAtOne, needs_telling}
use Rattle.md_state.specs.View.{ArrayView, Disk}
use Rattle.md_super.specs.declared.superblock.Superblock.{Superblock}
use Rattle.md_words.specs.declared.overwritten.Overwritten.{Overwritten}
use Rattle.md_words.specs.declared.overwritten.Overwritten.TheVariants.{NewDevice, ReturningDevice}
use Rattle.md_messages.specs.declared.notices.Notices.{Notices}

-- The device is one of the array: where it is to be added, it is in sync there, and where it is to come back, it was used without
-- the members that are in sync.
abbrev pub IsOwn : Overwritten → ArrayView → Held → Type 0
IsOwn NewDevice a (Member v) = IsForgotten a.shared v
IsOwn ReturningDevice a (Member v) = WasApart a v
IsOwn overwritten a held = ⊥

-- a device was looked at: it was only read, and what it holds is noted
pub record NotesHeld (d e : Disk) (old new : Notices) : Type 0 where
  pub looks : LooksAtOne d e new.held
  pub noted : new ≡ record old { held = new.held }

-- the device that is to join, where there is one
abbrev pub NotesHeldOnJoining : Option Disk → Option Disk → Notices → Notices → Type 0
NotesHeldOnJoining None None old new = new ≡ old
NotesHeldOnJoining (Some d) (Some e) old new = NotesHeld d e old new
NotesHeldOnJoining _ _ old new = ⊥

-- what each of the devices holds of which an array is to be made
abbrev pub held_each : {Z : Type 0} → Option (Vec Held Z) → List Held
held_each None = []
held_each (Some held) = held.items

-- each of the devices was looked at of which an array is to be made, and what they hold is noted
pub record NotesHeldOnEach (before after : List Disk) (old new : Notices) : Type 0 where
  pub seen : is_some new.each ≡ true
  pub looks : LooksAtEach before after (held_each new.each)
  pub noted : new ≡ record old { each = new.each }

-- One of the devices holds what is to be told.
abbrev pub one_needs_telling : {Z : Type 0} → Option (Vec Held Z) → Bool
one_needs_telling each = list_any needs_telling (held_each each)

-- the number of the device that is to join, where its superblock is one of the array
abbrev pub IsJoining : Superblock → Held → Option ℕ → Type 0
IsJoining shared (Member v) None = v.set_uuid ≢ shared.set_uuid
IsJoining shared (Member v) (Some number) = (v.set_uuid ≡ shared.set_uuid) × (number ≡ v.dev_number)
IsJoining shared held joining = joining ≡ None
