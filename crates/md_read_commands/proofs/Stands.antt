-- A member whose superblock and bitmap were put in memory.
use Rattle.std.proofs.Common.{◌≡◌, ◌∙◌, ℕ, ◌+◌, ◌*◌, ◌-◌, ◌<◌, ◌≤◌, Bool, true, List, Result, Ok, Err, IfOk, OnOk, drop, length, ap, arith, subst, sym, drop-drop}
use Rattle.std.specs.Prelude.{pos}
use Rattle.std.proofs.lemmas.Int.{ints}
use Rattle.md_members.specs.Members.{IsReadMember}
use Rattle.md_members.specs.Reading.{LogStartsAt}
use Rattle.md_device.specs.declared.device.Device.{Ghosts}
use Rattle.md_super.specs.declared.superblock.Superblock.{Superblock}
use Rattle.md_state.specs.View.{ArrayView, Disk, disk_of}
use Rattle.md_read_commands.specs.Fronted.{fronted, fronted_disk}
use Rattle.md_read_commands.specs.StandIn.{HoldsLog, IsFreeNumber, IsMadeOf, IsSameFrom, IsSameLog, LacksWhole, NoneDoubts, NoneOf, ReadsCounted, StandsIn, offset_by, role_of_number}
use Rattle.md_read_commands.specs.declared.stand_in.fronted.FrontedDevice.{FrontedDevice}
use Rattle.md_read_commands.specs.declared.stand_in.own.Own.{Own}
use Rattle.md_read_commands.specs.declared.stand_in.put.StandIn.{StandIn}

-- what holds anyway holds where the answer is `Ok`
pub on_ok : {T E P : Type 0} (r : Result T E) → P → OnOk r P
on_ok (Ok x) holds = holds
on_ok (Err e) holds = tt

-- a number that no member has, and whose role none doubts
pub free_by : {T E : Type 0} (r : Result T E) (a : ArrayView) (number : ℕ) → NoneOf a.members number (length a.members)
    → OnOk r (role_of_number a.shared number < a.shared.raid_disks)
    → OnOk r (NoneDoubts a.members number (role_of_number a.shared number) (length a.members))
    → OnOk r (IsFreeNumber a number)
free_by (Ok x) a number none in_role undoubted = record { in_role = in_role; free = none; undoubted = undoubted }
free_by (Err e) a number none in_role undoubted = tt

-- what is the same from a sector on is the same from a later one on
pub same_further : (few many : ℕ) (old new : List ℕ) → few ≤ many → IsSameFrom few old new → IsSameFrom many old new
same_further few many old new less same =
    let whole : 512 * few + (512 * many - 512 * few) ≡ 512 * many = omega (arith, less) in
    let cut : (zs : List ℕ) → drop (512 * many - 512 * few) (drop (512 * few) zs) ≡ drop (512 * many) zs = λ zs. drop-drop (512 * many - 512 * few) (512 * few) zs ∙ ap (λ k. drop k zs) whole in
    sym (cut new) ∙ ap (drop (512 * many - 512 * few)) same ∙ cut old

-- a log starts in one sector
pub one_log_start : (v : Superblock) (a b : ℕ) → LogStartsAt v a → LogStartsAt v b → a ≡ b
one_log_start v a b first other =
    let same : pos a ≡ pos b = first ∙ sym other in
    omega (arith, ints)

-- the same bytes of the log stand in both
pub same_log_by : (made : Superblock) (old new log : List ℕ) → HoldsLog made old log → HoldsLog made new log → IsSameLog made old new
same_log_by made old new log first then lists start at = sym (then lists start at) ∙ first lists start at

-- what is read of a device is read of it later, where it still has its content
pub reads_on : (wanted : StandIn) (made : Superblock) (chunk_bytes : ℕ) (freshest : Superblock) (old new : Disk) → new.content ≡ old.content → new.honest ≡ old.honest → ReadsCounted wanted made chunk_bytes freshest old → ReadsCounted wanted made chunk_bytes freshest new
reads_on wanted made chunk_bytes freshest old new content honest reads = record {
  info = reads.info;
  read = subst (λ (xs : List ℕ). IsReadMember xs new.honest reads.info) (sym content) (subst (λ (b : Bool). IsReadMember old.content b reads.info) (sym honest) reads.read);
  counted = reads.counted;
}

-- a device that lacked a member has one now
pub stands_in : {D E : Type 0} (g : Ghosts D) (wanted : StandIn) (chunk_bytes : ℕ) (freshest : Superblock) (own : Own) (made : Superblock) (device mid : D) (r : Result (FrontedDevice D) E)
    → made.data_offset ≡ offset_by freshest own
    → IsMadeOf freshest own wanted made
    → LacksWhole freshest wanted.number own (disk_of g device) (disk_of g mid)
    → g.content mid ≡ g.content device
    → g.honest mid ≡ g.honest device
    → IfOk r (λ d. ReadsCounted wanted made chunk_bytes freshest (fronted_disk g d))
    → IfOk r (λ d. IsSameFrom made.data_offset (g.content mid) (fronted d.front.items (g.content d.inner)))
    → IfOk r (λ d. g.honest d.inner ≡ g.honest mid)
    → IfOk r (λ d. g.failures mid ≤ g.failures d.inner)
    → IfOk r (λ d. g.honest mid ≡ true → IsSameLog made (g.content mid) (fronted d.front.items (g.content d.inner)))
    → IfOk r (λ d. StandsIn wanted chunk_bytes freshest (disk_of g device) (fronted_disk g d))
stands_in g wanted chunk_bytes freshest own made device mid (Ok d) placed is lacks kept same_honest reads same honest counted log =
    record {
      own = own;
      read = disk_of g mid;
      lacks = lacks;
      made = made;
      is_made = is;
      placed = placed;
      counted = counted;
      reads = reads;
      same_data = same ∙ ap (drop (512 * made.data_offset)) kept;
      same_log = λ told. subst (λ (xs : List ℕ). IsSameLog made xs (fronted d.front.items (g.content d.inner))) kept (log (same_honest ∙ told));
      honest = honest ∙ same_honest;
    }
stands_in g wanted chunk_bytes freshest own made device mid (Err e) placed is lacks kept same_honest reads same honest counted log = tt
