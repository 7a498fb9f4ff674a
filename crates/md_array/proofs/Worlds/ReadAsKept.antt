-- What an opening would read of the devices stays what is kept of the members, by a write or without one.
use Rattle.std.proofs.Common.{◌≡◌, ◌≢◌, ℕ, ◌+◌, ◌*◌, ◌/◌, ◌<◌, ◌≤◌, inl, inr, Bool, true, false, cond, not, ◌&&◌, ◌==◌, List, map, slice_get, Some, pos, refl, sym, ap, ◌∙◌, subst, arith}
use Rattle.std.specs.Ordering.{int_eq}
use Rattle.std.proofs.lemmas.Option.{slice_get_within}
use Rattle.md_device.specs.Splice.{part, SameOutside}
use Rattle.md_format.specs.Fields.{number_at}
use Rattle.md_super.specs.declared.superblock.Superblock.{Superblock}
use Rattle.md_super.specs.Faults.{NoSuperFault}
use Rattle.md_super.specs.Format.{IsSuper}
use Rattle.md_super.specs.Log.{has_bad_block_log}
use Rattle.md_super.specs.Merge.{merged}
use Rattle.md_bitmap.specs.declared.chunks.Chunks.{Chunks}
use Rattle.md_members.specs.DeviceWrites.Writes.{Write}
use Rattle.md_kept_members.specs.View.{MemberView}
use Rattle.md_kept_members.specs.Members.{made_due}
use Rattle.md_assembly.specs.States.{is_recorded}
use Rattle.md_assembly.proofs.Indices.{got_within}
use Rattle.md_kept_members.specs.OnDevices.Superblocks.{IsReadable}
use Rattle.md_kept_members.specs.OnDevices.Storing.{sector_from_super}
use Rattle.md_state.specs.Members.{IsMember}
use Rattle.md_state.specs.Missing.{is_rebuilt}
use Rattle.md_state.specs.Steps.Rise.{failed, made_faulty, risen}
use Rattle.md_state.specs.View.{ArrayView, Disk, MirrorView}
use Rattle.md_state.specs.DiskWrites.{AtDevice, IsTried}
use Rattle.md_array.specs.ReadAsKept.{AreReadAsKept, HasOwnSuper, HasWidth, IsFromBefore, IsReadAsKept, IsSuperOn}
use Rattle.md_array.specs.Steps.Record.{super_write}
use Rattle.md_array.specs.Worlds.{block_on}
use Rattle.md_array.proofs.Worlds.Listed.{IsLogKept, listed_read_both, same_log}
use Rattle.md_array.proofs.StepLemmas.OneMember.{ChangesMember}
use Rattle.md_array.proofs.Worlds.PartsApart.{HasParts, block_beside_data, header_beside_data, log_beside_data}
use Rattle.md_array.proofs.General.Replaced.{of_set}
use Rattle.md_array.proofs.General.Indices.{at_map}

-- ---- one device
log_kept_as : (v own : Superblock) (old new : List ℕ) → v.bblog_size ≡ own.bblog_size → v.bblog_offset ≡ own.bblog_offset → IsLogKept own old new → IsLogKept v old new
log_kept_as v own old new size offset kept there =
    let same : has_bad_block_log v ≡ has_bad_block_log own = λ i. not (size i == 0) && not (int_eq (offset i) (pos 0)) in
    (λ i. part new (512 * sector_from_super (offset i)) (512 * size i))
    ∙ kept (sym same ∙ there)
    ∙ sym (λ i. part old (512 * sector_from_super (offset i)) (512 * size i))

pub super_was : (old new : List ℕ) (v : Superblock) → block_on new ≡ block_on old → IsSuperOn new v → IsSuperOn old v
super_was old new v block on = record { fields = subst (λ (b : List ℕ). IsSuper b v) block on.fields; sound = subst NoSuperFault block on.sound }

-- where what is read there was read before
pub own_stays_as : (shared own : Superblock) (old new : List ℕ) → ((v : Superblock) → IsSuperOn new v → IsSuperOn old v) → IsLogKept own old new → HasOwnSuper shared own old → HasOwnSuper shared own new
own_stays_as shared own old new reads log has v on =
    let was = has v (reads v on) in
    record {
      set_uuid = was.set_uuid;
      size = was.size;
      raid_disks = was.raid_disks;
      data_offset = was.data_offset;
      bitmap_offset = was.bitmap_offset;
      bblog_size = was.bblog_size;
      bblog_offset = was.bblog_offset;
      bblog_shift = was.bblog_shift;
      listed = λ sector.
          let there = reads v on in
          listed_read_both v old new (log_kept_as v own old new was.bblog_size was.bblog_offset log) sector v there.fields there.sound on.fields on.sound
          ∙ was.listed sector
          ∙ sym (listed_read_both own old new log sector v there.fields there.sound on.fields on.sound);
      no_newer = was.no_newer;
    }

pub own_stays : (shared own : Superblock) (old new : List ℕ) → block_on new ≡ block_on old → IsLogKept own old new → HasOwnSuper shared own old → HasOwnSuper shared own new
own_stays shared own old new block = own_stays_as shared own old new (λ v. super_was old new v block)

-- where neither its superblock nor its log changes
pub stays : (a : ArrayView) (m : MemberView) (failed_at : ℕ) (is_spoiled : Bool) (old new : List ℕ) → block_on new ≡ block_on old → IsLogKept m.superblock old new
    → (HasWidth a.chunks.sectors m.superblock old → HasWidth a.chunks.sectors m.superblock new) → IsReadAsKept a m failed_at is_spoiled old → IsReadAsKept a m failed_at is_spoiled new
stays a m failed_at is_spoiled old new block log width was = record {
  super = λ un. own_stays a.shared m.superblock old new block log (was.super un);
  header = λ un. elim (was.header un) [
    | inl has ↦ inl (width has)
    | inr gone ↦ inr (gone.0, λ un v on. gone.1 un v (super_was old new v block on))
  ];
}

-- where sectors of its data are written
pub read_beside_data : (a : ArrayView) (m : MemberView) (old new : List ℕ) → HasParts a m old → (s n : ℕ) → s + n ≤ a.chunks.size → SameOutside (512 * (m.superblock.data_offset + s)) (512 * n) old new
    → (failed_at : ℕ) (is_spoiled : Bool) → IsReadAsKept a m failed_at is_spoiled old → IsReadAsKept a m failed_at is_spoiled new
read_beside_data a m old new has s n inside same failed_at is_spoiled = stays a m failed_at is_spoiled old new
    (block_beside_data a m old new has s n inside same)
    (log_beside_data a m old new has s n inside same)
    (λ width. ap (λ (h : List ℕ). number_at 4 52 h / 512) (header_beside_data a m old new has s n inside same) ∙ width)

-- where what is read there is read in its own superblock, as it is written
pub own_written_as : (a : ArrayView) (m : MemberView) (content : List ℕ) → IsReadable (merged a.shared m.superblock) → ((v : Superblock) → IsSuperOn content v → IsSuper (super_write a m).bytes v)
    → HasOwnSuper a.shared m.superblock content
own_written_as a m content r reads v on =
    let spelled = reads v on in
    let own = r.fields in
    record {
      set_uuid = spelled.set_uuid ∙ sym own.set_uuid;
      size = spelled.size ∙ sym own.size;
      raid_disks = spelled.raid_disks ∙ sym own.raid_disks;
      data_offset = spelled.data_offset ∙ sym own.data_offset;
      bitmap_offset = spelled.bitmap_offset ∙ sym own.bitmap_offset;
      bblog_size = spelled.bblog_size ∙ sym own.bblog_size;
      bblog_offset = spelled.bblog_offset ∙ sym own.bblog_offset;
      bblog_shift = λ _. spelled.bblog_shift ∙ sym own.bblog_shift;
      listed = λ sector. same_log v m.superblock content sector
          (spelled.feature_map ∙ sym own.feature_map) (spelled.bblog_shift ∙ sym own.bblog_shift) (spelled.bblog_size ∙ sym own.bblog_size) (spelled.bblog_offset ∙ sym own.bblog_offset);
      no_newer = let same : v.events ≡ a.shared.events = spelled.events ∙ sym own.events in omega arith;
    }

pub own_written : (a : ArrayView) (m : MemberView) (content : List ℕ) → IsReadable (merged a.shared m.superblock) → block_on content ≡ (super_write a m).bytes → HasOwnSuper a.shared m.superblock content
own_written a m content r block = own_written_as a m content r (λ v on. subst (λ (b : List ℕ). IsSuper b v) block on.fields)

-- ---- another array in memory
-- its fields are the same, and its count no lower
pub record IsSameArray (a b : ArrayView) : Type 0 where
  pub set_uuid : b.shared.set_uuid ≡ a.shared.set_uuid
  pub size : b.shared.size ≡ a.shared.size
  pub raid_disks : b.shared.raid_disks ≡ a.shared.raid_disks
  pub sectors : b.chunks.sectors ≡ a.chunks.sectors
  pub events : a.shared.events ≤ b.shared.events

pub record IsSameMember (m n : MemberView) : Type 0 where
  pub superblock : n.superblock ≡ m.superblock
  pub state : n.state ≡ m.state

own_in : (a b : ArrayView) (m n : MemberView) (content : List ℕ) → IsSameArray a b → n.superblock ≡ m.superblock → HasOwnSuper a.shared m.superblock content → HasOwnSuper b.shared n.superblock content
own_in a b m n content same like has =
    subst (λ (own : Superblock). HasOwnSuper b.shared own content) (sym like)
    (λ v on. let was = has v on in let events = same.events in record {
      set_uuid = was.set_uuid ∙ sym same.set_uuid;
      size = was.size ∙ sym same.size;
      raid_disks = was.raid_disks ∙ sym same.raid_disks;
      data_offset = was.data_offset;
      bitmap_offset = was.bitmap_offset;
      bblog_size = was.bblog_size;
      bblog_offset = was.bblog_offset;
      bblog_shift = was.bblog_shift;
      listed = was.listed;
      no_newer = let low = was.no_newer in omega arith;
    })

pub kept_in : (a b : ArrayView) (m n : MemberView) (failed_at : ℕ) (is_spoiled : Bool) (content : List ℕ) → IsSameArray a b → IsSameMember m n
    → IsReadAsKept a m failed_at is_spoiled content → IsReadAsKept b n failed_at is_spoiled content
kept_in a b m n failed_at is_spoiled content same like was = record {
  super = λ un. own_in a b m n content same like.superblock (was.super un);
  header = λ un. elim (was.header (ap is_rebuilt (sym like.state) ∙ un)) [
    | inl has ↦ inl (subst (λ (own : Superblock). HasWidth b.chunks.sectors own content) (sym like.superblock) (has ∙ sym same.sectors))
    | inr gone ↦ inr (ap is_recorded like.state ∙ gone.0, gone.1)
  ];
}

-- any superblock on it is from before a count above the array's
old_enough : (a : ArrayView) (m : MemberView) (count : ℕ) (content : List ℕ) → a.shared.events < count → HasOwnSuper a.shared m.superblock content → IsFromBefore count content
old_enough a m count content above has v on = let low = (has v on).no_newer in omega arith

later : (a : ArrayView) (m : MemberView) (failed_at count : ℕ) (is_spoiled : Bool) (content : List ℕ) → a.shared.events < count
    → IsReadAsKept a m failed_at is_spoiled content → IsReadAsKept a m count is_spoiled content
later a m failed_at count is_spoiled content above was = record {
  super = was.super;
  header = λ up. elim (was.header up) [
    | inl has ↦ inl has
    | inr gone ↦ inr (gone.0, λ un. old_enough a m count content above (was.super un))
  ];
}

-- ---- no device is written
pub same_array : (a b : ArrayView) → b.shared ≡ a.shared → b.chunks ≡ a.chunks → IsSameArray a b
same_array a b shared chunks = record {
  set_uuid = ap (λ (v : Superblock). v.set_uuid) shared;
  size = ap (λ (v : Superblock). v.size) shared;
  raid_disks = ap (λ (v : Superblock). v.raid_disks) shared;
  sectors = ap (λ (x : Chunks). x.sectors) chunks;
  events = let same = ap (λ (v : Superblock). v.events) shared in omega arith;
}

pub same_member : (m : MemberView) → IsSameMember m m
same_member m = record { superblock = refl; state = refl }

-- members whose own fields are others'
abbrev pub MembersAreOf : ArrayView → ArrayView → Type 0
MembersAreOf a b = (j : ℕ) (n : MemberView) → IsMember b j n → (m : MemberView) × IsMember a j m × IsSameMember m n

-- the count has risen, or not
pub counted_like : (a : ArrayView) (full rises : Bool) → IsSameArray a (cond rises (risen a full) a) × MembersAreOf a (cond rises (risen a full) a)
counted_like a full true = (
  record { set_uuid = refl; size = refl; raid_disks = refl; sectors = refl; events = omega arith },
  λ j n is. let m = at_map made_due a.members j n is in
      (m.0, m.1, record { superblock = ap (λ (x : MemberView). x.superblock) m.2; state = ap (λ (x : MemberView). x.state) m.2 }),
)
counted_like a full false = (same_array a a refl refl, λ j n is. (n, is, same_member n))

pub unwritten_read : (old new : MirrorView) (failed_at : ℕ) (spoiled : ℕ → Bool) → new.disks ≡ old.disks → IsSameArray old.array new.array
    → MembersAreOf old.array new.array → AreReadAsKept old failed_at spoiled → AreReadAsKept new failed_at spoiled
unwritten_read old new failed_at spoiled disks same members are k d n at_disk at_member =
    let m = members k n at_member in
    kept_in old.array new.array m.0 n failed_at (spoiled k) d.content same m.2 (are k d m.0 (sym (ap (λ (xs : List Disk). slice_get xs k) disks) ∙ at_disk) m.1)

-- ---- one device is written, and its member changes in memory
-- who was spoiled or is, is told alike of the others
abbrev pub IsTheSameBut : ℕ → (ℕ → Bool) → (ℕ → Bool) → Type 0
IsTheSameBut k before after = (j : ℕ) → j ≢ k → after j ≡ before j

pub changed_read : (k : ℕ) (m n : MemberView) (w : Write) (old new : MirrorView) (failed_at : ℕ) (spoiled then : ℕ → Bool) → ChangesMember k m n w old new
    → IsTheSameBut k spoiled then
    → AtDevice k old.disks new.disks (λ d e. IsReadAsKept old.array m failed_at (spoiled k) d.content → IsReadAsKept old.array m failed_at (then k) e.content)
    → AreReadAsKept old failed_at spoiled → AreReadAsKept new failed_at then
changed_read k m n w old new failed_at spoiled then c others keeps are j e x at_disk at_member =
    let same_array : IsSameArray old.array new.array = subst (IsSameArray old.array) (sym c.array) (record { set_uuid = refl; size = refl; raid_disks = refl; sectors = refl; events = omega arith }) in
    of_set old.array.members k j n x (sym (ap (λ (a : ArrayView). slice_get a.members j) c.array) ∙ at_member)
    (λ here is.
    let now : slice_get new.disks k ≡ Some e = sym (ap (slice_get new.disks) here) ∙ at_disk in
    let many = c.disks.as_many in
    let low = slice_get_within new.disks k e now in
    let d = got_within old.disks k (omega arith) in
    subst (λ (y : MemberView). IsReadAsKept new.array y failed_at (then j) e.content) (sym is)
    (subst (λ (i : ℕ). IsReadAsKept new.array n failed_at (then i) e.content) (sym here)
    (kept_in old.array new.array m n failed_at (then k) e.content same_array (record { superblock = c.like.superblock; state = c.like.state })
    (keeps d.0 e d.1 now (are k d.0 m d.1 c.at)))))
    (λ apart is. kept_in old.array new.array x x failed_at (then j) e.content same_array (record { superblock = refl; state = refl })
    (subst (λ (b : Bool). IsReadAsKept old.array x failed_at b e.content) (sym (others j apart)) (are j e x (sym (c.disks.others j apart) ∙ at_disk) is)))

-- ---- a write to a member fails, and it is faulty from then on
pub failed_read : (a : ArrayView) (k : ℕ) (m : MemberView) (w : Write) (before after : List Disk) (failed_at : ℕ) (spoiled : ℕ → Bool) → IsMember a k m → IsTried k w before after
    → AtDevice k before after (λ d e. HasOwnSuper a.shared m.superblock d.content → HasOwnSuper a.shared m.superblock e.content)
    → AreReadAsKept (record { disks = before; array = a }) failed_at spoiled → AreReadAsKept (record { disks = after; array = failed a k m }) (a.shared.events + 1) spoiled
failed_read a k m w before after failed_at spoiled at tried keeps are j e x at_disk at_member =
    let b = failed a k m in
    let same_array : IsSameArray a b = record { set_uuid = refl; size = refl; raid_disks = refl; sectors = refl; events = omega arith } in
    of_set (map made_due a.members) k j (made_faulty m) x at_member
    (λ here is.
    let now : slice_get after k ≡ Some e = sym (ap (slice_get after) here) ∙ at_disk in
    let many = tried.as_many in
    let low = slice_get_within after k e now in
    let d = got_within before k (omega arith) in
    let has : spoiled j ≡ false → HasOwnSuper a.shared m.superblock e.content =
    λ un. keeps d.0 e d.1 now ((are k d.0 m d.1 at).super (sym (ap spoiled here) ∙ un)) in
    subst (λ (y : MemberView). IsReadAsKept b y (a.shared.events + 1) (spoiled j) e.content) (sym is) (record {
      super = λ un. own_in a b m (made_faulty m) e.content same_array refl (has un);
      header = λ _. inr (refl, λ un. old_enough a m (a.shared.events + 1) e.content (omega arith) (has un));
    }))
    (λ apart is.
    let y = at_map made_due a.members j x is in
    kept_in a b y.0 x (a.shared.events + 1) (spoiled j) e.content same_array (record { superblock = ap (λ (z : MemberView). z.superblock) y.2; state = ap (λ (z : MemberView). z.state) y.2 })
    (later a y.0 failed_at (a.shared.events + 1) (spoiled j) e.content (omega arith) (are j e y.0 (sym (tried.others j apart) ∙ at_disk) y.1)))
