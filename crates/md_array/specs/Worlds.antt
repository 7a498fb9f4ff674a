-- The mirror as the array's world: each device's bytes are read for what assembly, marks and data are.
use Rattle.std.specs.Prelude.{◌≡◌, ℕ, ◌+◌, ◌*◌, Bool, true, false, cond, ◌&&◌, not, ◌==◌, eqb, nat_lt, nat_le, bit_and, ◌^◌, List, [], length, drop, slice_get, slice_index_or, Option, Some, None, option_map, unwrap_or}
use Rattle.std.specs.List.{list_any}
use Rattle.std.specs.Str.{bytes_eq}
use Rattle.md_model.specs.States as model
use Rattle.md_model.specs.Devices.{Super, Stored}
use Rattle.md_model.specs.Worlds.{Request, World}
use Rattle.md_device.specs.Splice.{part}
use Rattle.md_format.specs.Fields.{number_at, bytes_at}
use Rattle.md_super.specs.declared.superblock.Superblock.{Superblock}
use Rattle.md_super.specs.declared.fault.SuperFault.{SuperFault}
use Rattle.md_super.specs.Faults.{super_fault_of}
use Rattle.md_super.specs.Log.{has_bad_block_log}
use Rattle.md_super.specs.Format.{roles_in}
use Rattle.md_bitmap.specs.Marks.{is_set}
use Rattle.md_badblocks.specs.declared.run.Run.{Run}
use Rattle.md_badblocks.specs.Log.{named_runs}
use Rattle.md_members.specs.Areas.{has_bad_blocks}
use Rattle.md_members.specs.Members.{reads_log}
use Rattle.md_assembly.specs.declared.state.MemberState.{MemberState}
use Rattle.md_assembly.specs.declared.state.MemberState.TheVariants.{InSync, Recovering, Stale, Spare, Faulty}
use Rattle.md_assembly.specs.States.{role_in, has_recovery_offset}
use Rattle.md_kept_members.specs.View.{MemberView}
use Rattle.md_kept_members.specs.OnDevices.Storing.{sector_from_super}
use Rattle.md_state.specs.View.{Disk, ArrayView, MirrorView}
use Rattle.md_state.specs.Members.{clean_offset}

abbrev pub kind_of : MemberState → model.State
kind_of (InSync role) = model.State.InSync
kind_of (Recovering role) = model.State.Recovering
kind_of (Stale role) = model.State.Stale
kind_of Spare = model.State.Spare
kind_of Faulty = model.State.Faulty

-- what assembly reads of a superblock
abbrev pub super_of : Superblock → Super
super_of v = record { number = v.dev_number; events = v.events; role = role_in v; recovering = has_recovery_offset v; offset = v.recovery_offset }

-- The model's superblock, of the 4096 bytes of one.
abbrev pub super_of_block : List ℕ → Super
super_of_block block =
    record {
      number = number_at 4 160 block;
      events = number_at 8 200 block;
      role = λ d. slice_index_or (roles_in (number_at 4 220 block) block) d 0xffff;
      recovering = not (bit_and (number_at 4 8 block) 2 == 0);
      offset = number_at 8 152 block;
    }

-- the superblock in these bytes, where no fault is found
unfoldable pub super_in : List ℕ → Option Super
super_in block = by_fault (super_fault_of block)
  where
    by_fault : Option SuperFault → Option Super
    by_fault None = Some (super_of_block block)
    by_fault (Some f) = None

-- the superblock of a device, at sector 8
abbrev pub block_on : List ℕ → List ℕ
block_on content = part content 4096 4096

-- the sector lies in one of the runs
abbrev pub lies_in : List Run → ℕ → Bool
lies_in runs sector = list_any (λ run. nat_le run.start sector && nat_lt sector (run.start + run.len)) runs

-- the bad block log in so many sectors from this one on lists the sector. Sectors of 2^54 and more are dropped
abbrev pub is_logged : List ℕ → ℕ → ℕ → ℕ → ℕ → Bool
is_logged content start sectors shift sector = nat_lt sector (2 ^ 54) && lies_in (named_runs shift (part content (512 * start) (512 * sectors))) sector

-- Bit 8 of the feature map, which says that the log lists something: of the superblock on the device, or where none can be read
-- there, of the one that is kept.
abbrev pub list_bit : Superblock → List ℕ → Option Super → Bool
list_bit own block (Some _) = not (bit_and (number_at 4 8 block) 8 == 0)
list_bit own block None = has_bad_blocks own

-- whether an opening would read the log of a device
abbrev pub reads_log_on : Superblock → List ℕ → Bool
reads_log_on own content = list_bit own (block_on content) (super_in (block_on content)) && has_bad_block_log own

-- A sector of a device is listed in its log. Whether the log is read goes by the bit on the device: a log is stored before the
-- superblock that tells of it, and in between an opening reads none. The shift is the one that is kept, by which the log was read
-- or was stored since. Between a log that had another shift and its superblock an opening reads something else (`misread_after`).
unfoldable pub is_listed : Superblock → List ℕ → ℕ → Bool
is_listed own content sector = reads_log_on own content && is_logged content (sector_from_super own.bblog_offset) own.bblog_size own.bblog_shift sector

-- A sector of a device is listed in its log, where the own fields alone say whether the log is read, as they
-- do once they are stored.
unfoldable pub is_listed_next : Superblock → List ℕ → ℕ → Bool
is_listed_next own content sector = reads_log own && is_logged content (sector_from_super own.bblog_offset) own.bblog_size own.bblog_shift sector

-- the header of the bitmap at this sector
abbrev pub header_on : List ℕ → ℕ → List ℕ
header_on content start = part content (512 * start) 256

-- A bitmap's header has the array's uuid and its size, and the state 0.
abbrev pub header_fits : ArrayView → List ℕ → Bool
header_fits a header = bytes_eq (bytes_at 16 8 header) a.shared.set_uuid && (number_at 8 40 header == a.shared.size) && (number_at 4 48 header == 0)

-- What a device holds of the array. Where a member's parts stand is by its own fields as they are stored next, so that a write of
-- its superblock moves none; whether its log is read is by the device.
abbrev pub stored_of : ArrayView → MemberView → List ℕ → Stored
stored_of a m content =
    let start : ℕ = sector_from_super m.superblock.bitmap_offset in
    record {
      super = super_in (block_on content);
      content = λ s. cond (nat_lt s a.chunks.size) (part content (512 * (m.superblock.data_offset + s)) 512) [];
      listed = λ s. nat_lt s a.chunks.size && is_listed m.superblock content (m.superblock.data_offset + s);
      bits = λ c. nat_lt c a.marks.chunks && is_set (drop (512 * start + 256) content) c;
      bitmap_events = number_at 8 24 (header_on content start);
      bitmap_cleared = number_at 8 32 (header_on content start);
      bitmap_fits = header_fits a (header_on content start);
    }

-- no device
abbrev pub nothing_stored : Stored
nothing_stored = record { super = None; content = λ _. []; listed = λ _. false; bits = λ _. false; bitmap_events = 0; bitmap_cleared = 0; bitmap_fits = false }

abbrev pub stored_on : ArrayView → Option MemberView → Option Disk → Stored
stored_on a (Some m) (Some d) = stored_of a m d.content
stored_on a _ _ = nothing_stored

-- the sectors of the array that a member lists, in memory
abbrev pub lists_of : ArrayView → MemberView → ℕ → Bool
lists_of a m s = nat_lt s a.chunks.size && lies_in m.bad (m.superblock.data_offset + s)

-- a fact of member k, where there is one
abbrev pub at_member : {A : Type 0} → ArrayView → ℕ → A → (MemberView → A) → A
at_member a k none of = unwrap_or (option_map of (slice_get a.members k)) none

-- the world of an array on these devices, with these requests in flight
abbrev pub world_on : List Disk → ArrayView → (ℕ → Option Request) → World
world_on disks a requests =
    record {
      members = length a.members;
      stored = λ k. stored_on a (slice_get a.members k) (slice_get disks k);
      number = λ k. at_member a k 0 (λ m. m.superblock.dev_number);
      state = λ k. at_member a k model.State.Faulty (λ m. kind_of m.state);
      due = λ k. at_member a k false (λ m. m.due);
      known = λ k c. at_member a k false (λ m. nat_lt c a.marks.chunks && is_set m.stored.bytes c);
      bad = λ k s. at_member a k false (λ m. lists_of a m s);
      offset = λ k. at_member a k 0 (λ m. m.offset);
      sure_offset = λ k. at_member a k 0 (λ m. m.superblock.recovery_offset);
      stored_offset = λ k. at_member a k 0 (λ m. m.stored_offset);
      recovering = λ k. at_member a k false (λ m. has_recovery_offset m.superblock);
      role = role_in a.shared;
      entries = length a.shared.roles;
      present = λ d. list_any (λ m. eqb m.superblock.dev_number d) a.members;
      events = a.shared.events;
      cleared_at = a.events_cleared;
      clean = a.shared.resync_offset == clean_offset;
      resynced = a.resynced;
      halted = a.halted;
      marks = λ c. nat_lt c a.marks.chunks && is_set a.marks.bytes c;
      request = requests;
    }

abbrev pub world_of : MirrorView → (ℕ → Option Request) → World
world_of m requests = world_on m.disks m.array requests

abbrev pub none_in_flight : ℕ → Option Request
none_in_flight _ = None

-- reads and writes of these devices do what they answer
abbrev pub AreHonest : List Disk → Type 0
AreHonest disks = (k : ℕ) (d : Disk) → slice_get disks k ≡ Some d → d.honest ≡ true
