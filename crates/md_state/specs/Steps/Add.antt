-- A new device comes in as a spare (hot_add_disk in the kernel's md driver and mdadm's --add; that the count rises is this project's
-- own).
use Rattle.std.specs.Prelude.{◌≡◌, ℕ, ◌+◌, ◌≤◌, true, false, cond, length, replicate}
use Rattle.md_bitmap.specs.declared.header.BitmapHeader.{BitmapHeader}
use Rattle.md_bitmap.specs.Header.{CountsFit, SettingsFit}
use Rattle.md_create.specs.declared.params.NewMember.{NewMember}
use Rattle.md_create.specs.Spares.{IsNewSpare}
use Rattle.md_kept_members.specs.Spares.{IsOfFreshest, kept_spare}
use Rattle.md_faults.specs.declared.add_fault.AddFault.{AddFault}
use Rattle.md_faults.specs.declared.add_fault.AddFault.TheVariants.{Halted, TooSmall, Full, EventsFull, WriteFault, NoMemory}
use Rattle.md_kept_members.specs.Membership.Joining.{joined_shared}
use Rattle.md_kept_members.specs.Membership.Numbers.{IsNumber, spare_role}
use Rattle.md_state.specs.Steps.NoteJoined.{HasMostMembers, joined}
use Rattle.md_state.specs.Members.{is_degraded}
use Rattle.md_state.specs.Steps.Rise.{HasSpentEvents}
use Rattle.md_state.specs.View.{ArrayView}

-- ---- whether it may come in
-- 2048 sectors of the device are in front of its data
abbrev pub HasRoomForData : ArrayView → ℕ → Type 0
HasRoomForData a sectors = 2048 + a.shared.size ≤ sectors

-- a device of so many sectors may come in, with this number
pub record MayAdd (a : ArrayView) (sectors d : ℕ) : Type 0 where
  pub running : a.halted ≡ false
  pub long : HasRoomForData a sectors
  pub room : HasMostMembers a → ⊥
  pub unspent : HasSpentEvents a → ⊥
  pub number : IsNumber a.shared a.members d

pub record IsTooSmall (a : ArrayView) (sectors : ℕ) : Type 0 where
  pub running : a.halted ≡ false
  pub short : HasRoomForData a sectors → ⊥

pub record HasNoPlaceLeft (a : ArrayView) (sectors : ℕ) : Type 0 where
  pub running : a.halted ≡ false
  pub long : HasRoomForData a sectors
  pub full : HasMostMembers a

-- the count has to rise, and can't
pub record CannotCountAdd (a : ArrayView) (sectors : ℕ) : Type 0 where
  pub running : a.halted ≡ false
  pub long : HasRoomForData a sectors
  pub room : HasMostMembers a → ⊥
  pub spent : HasSpentEvents a

-- why a device of so many sectors is refused, before anything is written
abbrev pub RefusesToAdd : ArrayView → ℕ → AddFault → Type 0
RefusesToAdd a sectors Halted = a.halted ≡ true
RefusesToAdd a sectors TooSmall = IsTooSmall a sectors
RefusesToAdd a sectors Full = HasNoPlaceLeft a sectors
RefusesToAdd a sectors EventsFull = CannotCountAdd a sectors
RefusesToAdd a sectors WriteFault = ⊥
RefusesToAdd a sectors NoMemory = ⊥

-- ---- what it is laid out with
-- The header of its bitmap, once the count has risen: the settings are those of the freshest member's. Its numbers fit their fields.
pub record IsSpareHeader (a : ArrayView) (settings h : BitmapHeader) : Type 0 where
  pub uuid : h.uuid ≡ a.shared.set_uuid
  pub events : h.events ≡ a.shared.events + 1
  pub events_cleared : h.events_cleared ≡ cond (is_degraded a) a.events_cleared (a.shared.events + 1)
  pub sync_size : h.sync_size ≡ a.shared.size
  pub state : h.state ≡ 0
  pub chunksize : h.chunksize ≡ settings.chunksize
  pub daemon_sleep : h.daemon_sleep ≡ settings.daemon_sleep
  pub write_behind : h.write_behind ≡ settings.write_behind
  pub sectors_reserved : h.sectors_reserved ≡ 2016
  pub nodes : h.nodes ≡ settings.nodes
  pub cluster_name : h.cluster_name ≡ replicate 64 0
  pub uuid_long : length h.uuid ≡ 16
  pub name_long : length h.cluster_name ≡ 64
  pub counts_fit : CountsFit h
  pub settings_fit : SettingsFit h

-- the whole device, of so many sectors
pub record IsSpareOf (a : ArrayView) (number sectors : ℕ) (m : NewMember) : Type 0 where
  pub settings : BitmapHeader
  pub of_freshest : IsOfFreshest a.members settings
  pub header : IsSpareHeader a settings m.header
  pub spare : IsNewSpare (joined_shared a.shared a.members number spare_role) m.header number sectors m

-- ---- the array with it
abbrev pub added : ArrayView → NewMember → ArrayView
added a m = joined a (kept_spare m.superblock m.header m.marks) spare_role
