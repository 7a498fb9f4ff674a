-- A member becomes faulty in the array as it does in its world.
use Rattle.std.proofs.Common.{◌≡◌, ◌≢◌, ℕ, ◌<◌, Bool, true, false, cond, ◌&&◌, eqb, nat_lt, List, length, set, slice_get, slice_index_or, Option, Some, None, option_map, unwrap_or, refl, sym, ap, ◌∙◌, subst, eq-eqb, ne_eqb, ◌==◌, length-set, get_or-set_same, get_or-set_other}
use Rattle.md_model.specs.Sectors.{put}
use Rattle.md_model.specs.States as model
use Rattle.md_model.specs.Worlds as worlds
use Rattle.md_model.specs.Devices.{Stored}
use Rattle.md_model.specs.Steps.{with_device}
use Rattle.md_model.specs.Failures as failures
use Rattle.md_model.proofs.Cases.{by_test, below-nat_lt, is_below}
use Rattle.md_model.proofs.Puts.{by_same, put-hit, put-miss}
use Rattle.md_assembly.specs.States.{has_recovery_offset, role_in}
use Rattle.md_kept_members.specs.View.{MemberView}
use Rattle.md_kept_members.specs.Membership.Numbers.{faulty_role, roles_without}
use Rattle.md_state.specs.View.{Disk, ArrayView}
use Rattle.md_state.specs.Members.{IsMember, clean_offset}
use Rattle.md_state.specs.Steps.Rise.{made_faulty, without}
use Rattle.md_bitmap.specs.Marks.{is_set}
use Rattle.md_array.specs.Worlds.{kind_of, stored_on, world_on, lists_of}
use Rattle.md_array.proofs.General.Replaced.{read_changed, read_kept}
use Rattle.md_array.proofs.General.Indices.{any_kept}

-- ---- the roles
pub length_without : (m : MemberView) (roles : List ℕ) → length (roles_without m.superblock.dev_number roles) ≡ length roles
length_without m roles = by_number (nat_lt m.superblock.dev_number (length roles))
  where
    by_number : (b : Bool) → length (cond b (set roles m.superblock.dev_number faulty_role) roles) ≡ length roles
    by_number true = length-set roles m.superblock.dev_number faulty_role
    by_number false = refl

set_role : (roles : List ℕ) (n d : ℕ) → n < length roles → slice_index_or (set roles n faulty_role) d 0xffff ≡ cond (eqb d n && nat_lt d (length roles)) faulty_role (slice_index_or roles d 0xffff)
set_role roles n d low = by_same d n
    (λ same. ap (λ i. slice_index_or (set roles n faulty_role) i 0xffff) same ∙ get_or-set_same roles n faulty_role 0xffff low
    ∙ sym (ap (λ b. cond b faulty_role (slice_index_or roles d 0xffff)) (ap (λ b. b && nat_lt d (length roles)) (eq-eqb d n same) ∙ below-nat_lt d (length roles) (subst (λ i. i < length roles) (sym same) low))))
    (λ apart. get_or-set_other roles n d faulty_role 0xffff apart ∙ sym (ap (λ b. cond (b && nat_lt d (length roles)) faulty_role (slice_index_or roles d 0xffff)) (ne_eqb d n apart)))

pub role_without : (m : MemberView) (roles : List ℕ) (d : ℕ)
    → slice_index_or (roles_without m.superblock.dev_number roles) d 0xffff ≡ cond (eqb d m.superblock.dev_number && nat_lt d (length roles)) faulty_role (slice_index_or roles d 0xffff)
role_without m roles d = by_test (nat_lt n (length roles))
    (λ low. ap (λ b. slice_index_or (cond b (set roles n faulty_role) roles) d 0xffff) low ∙ set_role roles n d (is_below n (length roles) low))
    (λ past. ap (λ b. slice_index_or (cond b (set roles n faulty_role) roles) d 0xffff) past ∙ sym (ap (λ b. cond b faulty_role (slice_index_or roles d 0xffff)) (none_there past)))
  where
    n : ℕ
    n = m.superblock.dev_number

    none_there : nat_lt n (length roles) ≡ false → (eqb d n && nat_lt d (length roles)) ≡ false
    none_there past = by_same d n
        (λ same. ap (λ b. b && nat_lt d (length roles)) (eq-eqb d n same) ∙ ap (λ i. nat_lt i (length roles)) same ∙ past)
        (λ apart. ap (λ b. b && nat_lt d (length roles)) (ne_eqb d n apart))

-- the role of another number stays
pub role_kept : (m : MemberView) (roles : List ℕ) (d : ℕ) → d ≢ m.superblock.dev_number → slice_index_or (roles_without m.superblock.dev_number roles) d 0xffff ≡ slice_index_or roles d 0xffff
role_kept m roles d apart =
    role_without m roles d ∙ ap (λ b. cond (b && nat_lt d (length roles)) faulty_role (slice_index_or roles d 0xffff)) (ne_eqb d m.superblock.dev_number apart)

-- ---- the world
stored_without : (a : ArrayView) (k : ℕ) (m : MemberView) (o : Option MemberView) (d : Option Disk) → stored_on (without a k m) o d ≡ stored_on a o d
stored_without a k m None None = refl
stored_without a k m None (Some d) = refl
stored_without a k m (Some x) None = refl
stored_without a k m (Some x) (Some d) = refl

stored_faulty : (a : ArrayView) (m : MemberView) (d : Option Disk) → stored_on a (Some (made_faulty m)) d ≡ stored_on a (Some m) d
stored_faulty a m None = refl
stored_faulty a m (Some d) = refl

pub world_without : (disks : List Disk) (a : ArrayView) (requests : ℕ → Option worlds.Request) (k : ℕ) (m : MemberView) → IsMember a k m
    → world_on disks (without a k m) requests ≡ failures.without (world_on disks a requests) k
world_without disks a requests k m is = λ i. record {
  members = length-set a.members k (made_faulty m) i;
  stored = λ j. (stored_without a k m (slice_get (set a.members k (made_faulty m)) j) (slice_get disks j)
      ∙ read_kept (λ o. stored_on a o (slice_get disks j)) a.members k m (made_faulty m) is (stored_faulty a m (slice_get disks j)) j) i;
  number = λ j. read_kept (λ o. unwrap_or (option_map (λ (x : MemberView). x.superblock.dev_number) o) 0) a.members k m (made_faulty m) is refl j i;
  state = λ j. read_changed (λ o. unwrap_or (option_map (λ (x : MemberView). kind_of x.state) o) model.State.Faulty) a.members k m (made_faulty m) is j i;
  due = λ j. read_changed (λ o. unwrap_or (option_map (λ (x : MemberView). x.due) o) false) a.members k m (made_faulty m) is j i;
  known = λ j c. read_kept (λ o. unwrap_or (option_map (λ (x : MemberView). nat_lt c a.marks.chunks && is_set x.stored.bytes c) o) false) a.members k m (made_faulty m) is refl j i;
  bad = λ j s. read_kept (λ o. unwrap_or (option_map (λ (x : MemberView). lists_of a x s) o) false) a.members k m (made_faulty m) is refl j i;
  offset = λ j. read_kept (λ o. unwrap_or (option_map (λ (x : MemberView). x.offset) o) 0) a.members k m (made_faulty m) is refl j i;
  sure_offset = λ j. read_kept (λ o. unwrap_or (option_map (λ (x : MemberView). x.superblock.recovery_offset) o) 0) a.members k m (made_faulty m) is refl j i;
  stored_offset = λ j. read_kept (λ o. unwrap_or (option_map (λ (x : MemberView). x.stored_offset) o) 0) a.members k m (made_faulty m) is refl j i;
  recovering = λ j. read_kept (λ o. unwrap_or (option_map (λ (x : MemberView). has_recovery_offset x.superblock) o) false) a.members k m (made_faulty m) is refl j i;
  role = λ d. (role_without m a.shared.roles d ∙ ap (λ n. cond (eqb d n && nat_lt d (length a.shared.roles)) 65534 (role_in a.shared d)) (sym number_here)) i;
  entries = length_without m a.shared.roles i;
  present = λ d. any_kept (λ (x : MemberView). eqb x.superblock.dev_number d) a.members k m (made_faulty m) is refl i;
  events = a.shared.events;
  cleared_at = a.events_cleared;
  clean = a.shared.resync_offset == clean_offset;
  resynced = a.resynced;
  halted = a.halted;
  marks = λ c. nat_lt c a.marks.chunks && is_set a.marks.bytes c;
  request = requests;
}
  where
    number_here : (world_on disks a requests).number k ≡ m.superblock.dev_number
    number_here = ap (λ o. unwrap_or (option_map (λ (x : MemberView). x.superblock.dev_number) o) 0) is

-- one device is another by now
pub world_with_device : (before after : List Disk) (a : ArrayView) (requests : ℕ → Option worlds.Request) (k : ℕ)
    → ((j : ℕ) → j ≢ k → slice_get after j ≡ slice_get before j)
    → world_on after a requests ≡ with_device (world_on before a requests) k ((world_on after a requests).stored k)
world_with_device before after a requests k others = λ i. record (world_on before a requests) {
  stored = λ j. at j i;
}
  where
    left : Stored
    left = stored_on a (slice_get a.members k) (slice_get after k)

    at : (j : ℕ) → stored_on a (slice_get a.members j) (slice_get after j) ≡ put k left (λ j. stored_on a (slice_get a.members j) (slice_get before j)) j
    at j = by_same j k
        (λ same. ap (λ n. stored_on a (slice_get a.members n) (slice_get after n)) same ∙ sym (ap (put k left (λ j. stored_on a (slice_get a.members j) (slice_get before j))) same ∙ put-hit k left (λ j. stored_on a (slice_get a.members j) (slice_get before j))))
        (λ apart. ap (stored_on a (slice_get a.members j)) (others j apart) ∙ sym (put-miss k left (λ j. stored_on a (slice_get a.members j) (slice_get before j)) j apart))
