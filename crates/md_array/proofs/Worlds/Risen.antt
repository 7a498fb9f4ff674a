-- The count of an array rises as that of its world does, and the array stays consistent; and when it is not degraded its world is full.
use Rattle.std.proofs.Common.{◌≡◌, ℕ, ◌+◌, ◌-◌, ◌^◌, ◌/◌, ◌<◌, ◌≤◌, ◌↔◌, inl, inr, Bool, true, false, cond, not, ◌&&◌, ◌||◌, ◌==◌, eqb, nat_lt, true≢false, List, length, slice_get, Option, Some, None, option_map, unwrap_or, refl, sym, ap, ◌∙◌, subst, arith, eq-eqb}
use Rattle.std.specs.List.{list_any, range_with_len}
use Rattle.std.proofs.lemmas.Bool.{cases_lt, not-true}
use Rattle.std.proofs.lemmas.List.{length-map, get_or_past}
use Rattle.std.proofs.lemmas.Option.{slice_get-map}
use Rattle.std.proofs.lemmas.List.FromFn.{get_or-map-range_with_len, length-map-range_with_len}
use Rattle.std.proofs.Math.Bool.{and-false}
use Rattle.md_model.specs.States as model
use Rattle.md_model.specs.Worlds as worlds
use Rattle.md_model.specs.Counts as counts
use Rattle.md_model.proofs.Cases.{by_test, not_below-nat_lt}
use Rattle.md_bitmap.specs.Marks.{is_set}
use Rattle.md_assembly.specs.declared.state.MemberState.{MemberState}
use Rattle.md_assembly.specs.declared.state.MemberState.TheVariants.{InSync, Recovering, Stale, Spare, Faulty}
use Rattle.md_assembly.specs.States.{has_recovery_offset, is_in_sync, is_in_sync_as, role_in, takes_role}
use Rattle.md_kept_members.specs.View.{MemberView}
use Rattle.md_kept_members.specs.Members.{made_due}
use Rattle.md_kept_members.specs.Membership.Numbers.{faulty_role, has_number, is_absent, roles_at_rise}
use Rattle.md_state.specs.Members.{IsMember, is_degraded, is_filled}
use Rattle.md_state.specs.Steps.Rise.{risen}
use Rattle.md_state.specs.View.{Disk, ArrayView, MirrorView, geometry_of}
use Rattle.md_state.specs.InMemory.{HasMarksOfSize, HasRoles}
use Rattle.md_array.specs.Consistency.{HasSuper, IsConsistent}
use Rattle.md_array.specs.Fits.{Fits, FitsMember}
use Rattle.md_array.specs.Worlds.{kind_of, stored_on, world_on, lists_of}
use Rattle.md_array.proofs.General.Indices.{any_at, any_map, at_any, at_map, got_in_map, got_in_range, in_range, read_map}
use Rattle.md_array.proofs.Worlds.Shown.{at_is, at_past, by_member}
use Rattle.md_array.proofs.Worlds.States.{same_recorded}
use Rattle.md_array.proofs.General.Tests.{true_unless_false}

-- past the end of the roles no device has one below raid_disks
pub past_is_high : (a : ArrayView) (d : ℕ) → length a.shared.roles ≤ d → nat_lt (role_in a.shared d) a.shared.raid_disks ≡ false
past_is_high a d past =
    let few = a.shared.in_profile.few_disks in
    ap (λ role. nat_lt role a.shared.raid_disks) (get_or_past a.shared.roles d 0xffff past) ∙ not_below-nat_lt 0xffff a.shared.raid_disks (omega arith)

module _ (a : ArrayView) (full : Bool) where
  pub risen_role : (d : ℕ) → role_in (risen a full).shared d ≡ cond (is_absent a.shared a.members d) faulty_role (role_in a.shared d)
  risen_role d = elim (cases_lt d (length a.shared.roles)) [
    | inl low ↦ get_or-map-range_with_len (λ n. cond (is_absent a.shared a.members n) faulty_role (role_in a.shared n)) 0 (length a.shared.roles) d d 0xffff low (omega arith)
    | inr past ↦
        get_or_past (roles_at_rise a.shared a.members) d 0xffff
        (let count = length-map-range_with_len (λ n. cond (is_absent a.shared a.members n) faulty_role (role_in a.shared n)) 0 (length a.shared.roles) in omega arith)
        ∙ sym (get_or_past a.shared.roles d 0xffff past)
        ∙ sym (ap (λ b. cond (b && not (has_number a.members d)) faulty_role (role_in a.shared d)) (past_is_high a d past))
  ]

  due_mapped : (o : Option MemberView) → unwrap_or (option_map (λ m. m.due) (option_map made_due o)) false
      ≡ (model.is_recorded (unwrap_or (option_map (λ m. kind_of m.state) o) model.State.Faulty) || unwrap_or (option_map (λ m. m.due) o) false)
  due_mapped None = refl
  due_mapped (Some m) = ap (λ b. b || m.due) (sym (same_recorded m.state))

  stored_risen : (o : Option MemberView) (d : Option Disk) → stored_on (risen a full) (option_map made_due o) d ≡ stored_on a o d
  stored_risen None d = refl
  stored_risen (Some m) None = refl
  stored_risen (Some m) (Some d) = refl

  pub world_risen : (disks : List Disk) (requests : ℕ → Option worlds.Request) → world_on disks (risen a full) requests ≡ counts.risen (geometry_of a) (world_on disks a requests) full
  world_risen disks requests = λ i. record {
    members = length-map a.members made_due i;
    stored = λ k. (ap (λ o. stored_on (risen a full) o (slice_get disks k)) (slice_get-map made_due a.members k) ∙ stored_risen (slice_get a.members k) (slice_get disks k)) i;
    number = λ k. read_map made_due 0 (λ m. m.superblock.dev_number) a.members k i;
    state = λ k. read_map made_due model.State.Faulty (λ m. kind_of m.state) a.members k i;
    due = λ k. (ap (λ o. unwrap_or (option_map (λ m. m.due) o) false) (slice_get-map made_due a.members k) ∙ due_mapped (slice_get a.members k)) i;
    known = λ k c. read_map made_due false (λ m. nat_lt c a.marks.chunks && is_set m.stored.bytes c) a.members k i;
    bad = λ k s. read_map made_due false (λ m. lists_of a m s) a.members k i;
    offset = λ k. read_map made_due 0 (λ m. m.offset) a.members k i;
    sure_offset = λ k. read_map made_due 0 (λ m. m.superblock.recovery_offset) a.members k i;
    stored_offset = λ k. read_map made_due 0 (λ m. m.stored_offset) a.members k i;
    recovering = λ k. read_map made_due false (λ m. has_recovery_offset m.superblock) a.members k i;
    role = λ d. risen_role d i;
    entries = length-map-range_with_len (λ d. cond (is_absent a.shared a.members d) faulty_role (role_in a.shared d)) 0 (length a.shared.roles) i;
    present = λ d. any_map (λ m. eqb m.superblock.dev_number d) made_due a.members i;
    events = a.shared.events + 1;
    cleared_at = cond full (a.shared.events + 1) a.events_cleared;
    clean = a.shared.resync_offset == 2 ^ 64 - 1;
    resynced = a.resynced;
    halted = a.halted;
    marks = λ c. nat_lt c a.marks.chunks && is_set a.marks.bytes c;
    request = requests;
  }

  -- a member of it
  member_risen : (k : ℕ) (n : MemberView) → IsMember (risen a full) k n → (m : MemberView) × IsMember a k m × (n ≡ made_due m)
  member_risen k n e = at_map made_due a.members k n e

  pub same_filled : (role : ℕ) → is_filled (risen a full) role ≡ is_filled a role
  same_filled role = any_map (λ m. is_in_sync_as role m.state) made_due a.members

  pub same_degraded : is_degraded (risen a full) ≡ is_degraded a
  same_degraded = ap (λ (f : ℕ → Bool). list_any (λ role. not (f role)) (range_with_len 0 a.shared.raid_disks)) (λ i role. same_filled role i)

  -- a device that is there keeps its role
  present_role : (k : ℕ) (m : MemberView) → IsMember a k m → role_in (risen a full).shared m.superblock.dev_number ≡ role_in a.shared m.superblock.dev_number
  present_role k m is =
      let d = m.superblock.dev_number in
      let there : has_number a.members d ≡ true = any_at (λ (n : MemberView). eqb n.superblock.dev_number d) a.members k m is (eq-eqb d d refl) in
      risen_role d ∙ ap (λ b. cond b faulty_role (role_in a.shared d)) (ap (λ b. nat_lt (role_in a.shared d) a.shared.raid_disks && not b) there ∙ and-false (nat_lt (role_in a.shared d) a.shared.raid_disks))

  roles_risen : HasRoles a → HasRoles (risen a full)
  roles_risen r = record {
    few = let few = r.few in let same = length-map a.members made_due in omega arith;
    numbers = λ j k m n x y same.
        let p = member_risen j m x in
        let q = member_risen k n y in
        r.numbers j k p.0 q.0 p.1 q.1 (ap number (sym p.2) ∙ same ∙ ap number q.2);
    shared = λ k role m x takes.
        let p = member_risen k m x in
        ap (λ (o : MemberView). role_in (risen a full).shared o.superblock.dev_number) p.2 ∙ present_role k p.0 p.1
        ∙ r.shared k role p.0 p.1 (ap (λ (o : MemberView). takes_role role o.state) (sym p.2) ∙ takes);
    below = λ k role m x takes.
        let p = member_risen k m x in
        r.below k role p.0 p.1 (ap (λ (o : MemberView). takes_role role o.state) (sym p.2) ∙ takes);
    one_each = λ j k role m n x y takes others.
        let p = member_risen j m x in
        let q = member_risen k n y in
        r.one_each j k role p.0 q.0 p.1 q.1 (ap (λ (o : MemberView). takes_role role o.state) (sym p.2) ∙ takes) (ap (λ (o : MemberView). takes_role role o.state) (sym q.2) ∙ others);
    serving = λ runs.
        let s = r.serving runs in
        (s.0, made_due s.1, record { member = got_in_map made_due a.members s.0 s.1 s.2.member; in_sync = s.2.in_sync });
  }
    where
      number : MemberView → ℕ
      number m = m.superblock.dev_number

  chunks_risen : HasMarksOfSize a → HasMarksOfSize (risen a full)
  chunks_risen c = record {
    size = c.size;
    count = c.count;
    wide = c.wide;
    none_past = c.none_past;
    member_size = λ k m x. let p = member_risen k m x in ap (λ (o : MemberView). o.superblock.size) p.2 ∙ c.member_size k p.0 p.1;
    member_width = λ k m x. let p = member_risen k m x in ap (λ (o : MemberView). o.header.chunksize / 512) p.2 ∙ c.member_width k p.0 p.1;
    member_count = λ k m x. let p = member_risen k m x in ap (λ (o : MemberView). o.stored.chunks) p.2 ∙ c.member_count k p.0 p.1;
  }

  fits_risen : (disks : List Disk) → Fits disks a → Fits disks (risen a full)
  fits_risen disks f = record {
    as_many = f.as_many ∙ sym (length-map a.members made_due);
    each = λ k d m at x.
        let p = member_risen k m x in
        let fit = f.each k d p.0 at p.1 in
        subst (λ (o : MemberView). FitsMember (risen a full) o d) (sym p.2)
        (record { long = fit.long; short = fit.short; has = fit.has; placed = fit.placed; few_chunks = fit.few_chunks; sound = fit.sound; told = fit.told });
  }

super_risen : (m : MemberView) (d : Disk) → HasSuper m d → HasSuper (made_due m) d
super_risen m d s = record {
  super = s.super;
  is = s.is;
  number = s.number;
  recovering = s.recovering;
  places = record { data_offset = s.places.data_offset; bitmap_offset = s.places.bitmap_offset; bblog_size = s.places.bblog_size; bblog_offset = s.places.bblog_offset };
  listed = s.listed;
  known = s.known;
}

-- a mirror whose count rose is consistent
pub risen_is_consistent : (v : MirrorView) (full : Bool) → IsConsistent v → IsConsistent (record v { array = risen v.array full })
risen_is_consistent v full c = record {
  fits = fits_risen v.array full v.disks c.fits;
  roles = roles_risen v.array full c.roles;
  chunks = chunks_risen v.array full c.chunks;
  supers = λ runs k d m at x in_sync honest.
      let p = member_risen v.array full k m x in
      let s = c.supers runs k d p.0 at p.1 (ap (λ (o : MemberView). is_in_sync o.state) (sym p.2) ∙ in_sync) honest in
      subst (λ (o : MemberView). HasSuper o d) (sym p.2) (super_risen p.0 d s);
  inside = c.inside;
}

-- ---- no role is empty
module _ (disks : List Disk) (a : ArrayView) (requests : ℕ → Option worlds.Request) (r : HasRoles a) where
  abbrev w : worlds.World
  w = world_on disks a requests

  -- a member in sync is one of the world, with its role
  in_sync_as : (role : ℕ) (s : MemberState) → is_in_sync_as role s ≡ true → (model.is_in_sync (kind_of s) ≡ true) × (takes_role role s ≡ true)
  in_sync_as role (InSync other) e = (refl, e)
  in_sync_as role (Recovering other) e = absurd cc
  in_sync_as role (Stale other) e = absurd cc
  in_sync_as role Spare e = absurd cc
  in_sync_as role Faulty e = absurd cc

  role_here : (k role : ℕ) (m : MemberView) → IsMember a k m → takes_role role m.state ≡ true → w.role (w.number k) ≡ role
  role_here k role m is takes =
      ap (role_in a.shared) (at_is a k 0 (λ n. n.superblock.dev_number) m is) ∙ r.shared k role m is takes

  filled_there : (role : ℕ) → is_filled a role ≡ true → (k : ℕ) × worlds.IsInSync w k × (w.role (w.number k) ≡ role)
  filled_there role e =
      let x = at_any (λ (m : MemberView). is_in_sync_as role m.state) a.members e in
      let s = in_sync_as role x.1.state x.3 in
      (x.0, ap model.is_in_sync (at_is a x.0 model.State.Faulty (λ n. kind_of n.state) x.1 x.2) ∙ s.0, role_here x.0 role x.1 x.2 s.1)

  -- and a role that has such a member is filled
  in_sync_by : (P : MemberState → Type 0) → ((role : ℕ) → P (InSync role)) → (s : MemberState) → model.is_in_sync (kind_of s) ≡ true → P s
  in_sync_by P h (InSync role) e = h role
  in_sync_by P h (Recovering role) e = absurd cc
  in_sync_by P h (Stale role) e = absurd cc
  in_sync_by P h Spare e = absurd cc
  in_sync_by P h Faulty e = absurd cc

  takes_as : (k role : ℕ) (m : MemberView) → IsMember a k m → role_in a.shared m.superblock.dev_number ≡ role → model.is_in_sync (kind_of m.state) ≡ true → is_in_sync_as role m.state ≡ true
  takes_as k role m is same e =
      in_sync_by (λ s. ((wanted : ℕ) → takes_role wanted s ≡ true → role_in a.shared m.superblock.dev_number ≡ wanted) → is_in_sync_as role s ≡ true)
      (λ own shared. eq-eqb own role (sym (shared own (eq-eqb own own refl)) ∙ same))
      m.state e (λ wanted takes. r.shared k wanted m is takes)

  filled_here : (k role : ℕ) → worlds.IsInSync w k → w.role (w.number k) ≡ role → is_filled a role ≡ true
  filled_here k role e same = by_member a k
      (λ m is. any_at (λ (n : MemberView). is_in_sync_as role n.state) a.members k m is
      (takes_as k role m is
      (sym (ap (role_in a.shared) (at_is a k 0 (λ n. n.superblock.dev_number) m is)) ∙ same)
      (sym (ap model.is_in_sync (at_is a k model.State.Faulty (λ n. kind_of n.state) m is)) ∙ e)))
      (λ past. absurd (true≢false (sym e ∙ ap model.is_in_sync (at_past a k model.State.Faulty (λ n. kind_of n.state) past))))

  all_filled : is_degraded a ≡ false → (role : ℕ) → role < a.shared.raid_disks → is_filled a role ≡ true
  all_filled none role low = by_test (is_filled a role) (λ is. is)
      (λ empty. absurd (true≢false (sym (any_at (λ n. not (is_filled a n)) (range_with_len 0 a.shared.raid_disks) role role (got_in_range a.shared.raid_disks role low) (ap not empty)) ∙ none)))

  none_empty : ((role : ℕ) → role < a.shared.raid_disks → is_filled a role ≡ true) → is_degraded a ≡ false
  none_empty all = true_unless_false (is_degraded a) (λ some.
      let x = at_any (λ n. not (is_filled a n)) (range_with_len 0 a.shared.raid_disks) some in
      let there = in_range a.shared.raid_disks x.0 x.1 x.2 in
      true≢false (sym x.3 ∙ ap not (all x.1 there)))

  -- the array is not degraded where the world is full
  pub full_when_not_degraded : (is_degraded a ≡ false) ↔ counts.IsFull (geometry_of a) w
  full_when_not_degraded = (
    (λ none role low. filled_there role (all_filled none role low)),
    (λ full. none_empty (λ role low. let x = full role low in filled_here x.0 role x.1 x.2)),
  )

  -- as the model has it of a rise
  pub full_as_told : (not (is_degraded a) ≡ true) ↔ counts.IsFull (geometry_of a) w
  full_as_told = (
    (λ e. full_when_not_degraded.0 (not-true (is_degraded a) e)),
    (λ full. ap not (full_when_not_degraded.1 full)),
  )
