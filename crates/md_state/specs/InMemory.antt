-- What holds of an array in memory between calls: its members' roles, and its chunks.
use Rattle.std.specs.Prelude.{◌≡◌, ℕ, ◌<◌, ◌≤◌, ◌/◌, true, false, length}
use Rattle.std.specs.Int.{div_ceil}
use Rattle.md_bitmap.specs.Marks.{is_set}
use Rattle.md_assembly.specs.States.{takes_role, role_in}
use Rattle.md_kept_members.specs.View.{MemberView}
use Rattle.md_state.specs.View.{ArrayView}
use Rattle.md_state.specs.Members.{IsMember, IsInSync}

-- Members have numbers of their own. One that is in sync or recovering has the role that the array's superblock gives its
-- number, and no other has it.
pub record HasRoles (a : ArrayView) : Type 0 where
  pub few : length a.members ≤ 64
  pub numbers : (j k : ℕ) (m n : MemberView) → IsMember a j m → IsMember a k n → m.superblock.dev_number ≡ n.superblock.dev_number → j ≡ k
  pub shared : (k role : ℕ) (m : MemberView) → IsMember a k m → takes_role role m.state ≡ true → role_in a.shared m.superblock.dev_number ≡ role
  pub below : (k role : ℕ) (m : MemberView) → IsMember a k m → takes_role role m.state ≡ true → role < a.shared.raid_disks
  pub one_each : (j k role : ℕ) (m n : MemberView) → IsMember a j m → IsMember a k n → takes_role role m.state ≡ true → takes_role role n.state ≡ true → j ≡ k
  pub serving : a.halted ≡ false → (k : ℕ) × (m : MemberView) × IsInSync a k m

-- Marks, in memory and stored, are of the array's chunks. In memory no bit past the last one is set.
pub record HasMarksOfSize (a : ArrayView) : Type 0 where
  pub size : a.chunks.size ≡ a.shared.size
  pub count : a.marks.chunks ≡ div_ceil a.chunks.size a.chunks.sectors
  pub wide : 0 < a.chunks.sectors
  pub none_past : (c : ℕ) → a.marks.chunks ≤ c → is_set a.marks.bytes c ≡ false
  pub member_size : (k : ℕ) (m : MemberView) → IsMember a k m → m.superblock.size ≡ a.shared.size
  pub member_width : (k : ℕ) (m : MemberView) → IsMember a k m → m.header.chunksize / 512 ≡ a.chunks.sectors
  pub member_count : (k : ℕ) (m : MemberView) → IsMember a k m → m.stored.chunks ≡ a.marks.chunks
