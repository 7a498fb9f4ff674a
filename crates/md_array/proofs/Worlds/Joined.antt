-- A device comes in as the last member of an array whose count rose, without a role or recovering in one that no other has: the array
-- stays consistent, and the world gets the member.
use Rattle.std.proofs.Common.{◌≡◌, ◌≢◌, ◌⊎◌, ℕ, ◌+◌, ◌/◌, ◌<◌, inl, inr, Bool, true, false, cond, not, ◌&&◌, ◌||◌, eqb, leb, nat_lt, max, true≢false, List, [], ◌∷◌, ◌++◌, length, slice_get, Option, Some, None, refl, sym, ap, ◌∙◌, subst, arith, eq-eqb, eqb-true}
use Rattle.std.specs.List.{list_any, range_with_len}
use Rattle.std.proofs.lemmas.Bool.{cases_lt}
use Rattle.std.proofs.lemmas.Bool.Decides.{nat_tests}
use Rattle.std.proofs.lemmas.List.{get_or_past, length-map, length_push}
use Rattle.std.proofs.lemmas.List.Folds.{list_any-append}
use Rattle.std.proofs.lemmas.List.FromFn.{get_or-map-range_with_len, length-map-range_with_len}
use Rattle.std.proofs.lemmas.Option.{slice_get_within}
use Rattle.md_model.specs.Sectors.{put}
use Rattle.md_model.specs.States as model
use Rattle.md_model.specs.Worlds as worlds
use Rattle.md_model.specs.Counts as counts
use Rattle.md_model.specs.Membership as membership
use Rattle.md_model.proofs.Puts.{put-hit, put-miss}
use Rattle.md_bitmap.specs.Marks.{is_set}
use Rattle.md_assembly.specs.declared.state.MemberState.TheVariants.{Recovering, Spare}
use Rattle.md_assembly.specs.States.{has_recovery_offset, is_in_sync, is_in_sync_as, role_in, takes_role}
use Rattle.md_kept_members.specs.View.{MemberView}
use Rattle.md_kept_members.specs.Members.{made_due}
use Rattle.md_kept_members.proofs.Members.Indices.{listed_push}
use Rattle.md_kept_members.specs.Membership.Joining.{entries_with, joined_roles, role_after}
use Rattle.md_kept_members.specs.Membership.Numbers.{has_number, is_absent, roles_at_rise}
use Rattle.md_kept_members.specs.Membership.Roles.{is_taken}
use Rattle.md_state.specs.InMemory.{HasMarksOfSize, HasRoles}
use Rattle.md_state.specs.Steps.NoteJoined.{joined}
use Rattle.md_state.specs.Members.{IsMember, is_degraded, is_filled}
use Rattle.md_state.specs.Steps.Rise.{risen}
use Rattle.md_state.specs.View.{ArrayView, Disk, geometry_of}
use Rattle.md_array.specs.Consistency.{IsConsistent}
use Rattle.md_array.specs.Fits.{Fits, FitsMember}
use Rattle.md_array.specs.ReadAsKept.{AreReadAsKept, IsReadAsKept}
use Rattle.md_array.specs.Worlds.{kind_of, stored_of, stored_on, world_on, lists_of}
use Rattle.md_array.proofs.General.Appended.{got_appended, got_earlier, shown_appended}
use Rattle.md_array.proofs.General.Indices.{any_at, at_map}
use Rattle.md_array.proofs.Worlds.ReadAsKept.{IsSameArray, kept_in}
use Rattle.md_array.proofs.Worlds.Risen.{risen_is_consistent, risen_role, same_filled, world_risen}

pub or_false : (t : Bool) → (t || false) ≡ t
or_false true = refl
or_false false = refl

-- It is not in sync, and a role that it takes is this one, which is the array's and no other member's.
pub record TakesAlone (a : ArrayView) (m : MemberView) (role : ℕ) : Type 0 where
  pub out : is_in_sync m.state ≡ false
  pub unfilled : (wanted : ℕ) → is_in_sync_as wanted m.state ≡ false
  pub own : (wanted : ℕ) → takes_role wanted m.state ≡ true → role ≡ wanted
  pub free : (wanted : ℕ) → takes_role wanted m.state ≡ true → is_taken a.members role ≡ false
  pub below : (wanted : ℕ) → takes_role wanted m.state ≡ true → role < a.shared.raid_disks

pub recovers_alone : (a : ArrayView) (m : MemberView) (role : ℕ) → m.state ≡ Recovering role → is_taken a.members role ≡ false → role < a.shared.raid_disks → TakesAlone a m role
recovers_alone a m role state free below = record {
  out = ap is_in_sync state;
  unfilled = λ wanted. ap (is_in_sync_as wanted) state;
  own = λ wanted takes. eqb-true role wanted (sym (ap (takes_role wanted) state) ∙ takes);
  free = λ wanted takes. free;
  below = λ wanted takes. below;
}

pub spare_alone : (a : ArrayView) (m : MemberView) (role : ℕ) → m.state ≡ Spare → TakesAlone a m role
spare_alone a m role state = record {
  out = ap is_in_sync state;
  unfilled = λ wanted. ap (is_in_sync_as wanted) state;
  own = λ wanted takes. absurd (true≢false (sym takes ∙ ap (takes_role wanted) state));
  free = λ wanted takes. absurd (true≢false (sym takes ∙ ap (takes_role wanted) state));
  below = λ wanted takes. absurd (true≢false (sym takes ∙ ap (takes_role wanted) state));
}

module _ (a : ArrayView) (m : MemberView) (role : ℕ) (small : m.superblock.dev_number < 1920) where
  abbrev full : Bool
  full = not (is_degraded a)

  abbrev up : ArrayView
  up = risen a full

  abbrev b : ArrayView
  b = joined a m role

  abbrev number : ℕ
  number = m.superblock.dev_number

  -- ---- the roles
  entries_are : entries_with a.shared number ≡ max (length a.shared.roles) (number + 1)
  entries_are = grind (arith, nat_tests)

  pub count_roles : length b.shared.roles ≡ entries_with a.shared number
  count_roles = length-map-range_with_len (role_after a.shared a.members number role) 0 (entries_with a.shared number)

  pub role_joined : (d : ℕ) → role_in b.shared d ≡ put number role (role_in up.shared) d
  role_joined d =
      let enough = entries_are in
      elim (cases_lt d (entries_with a.shared number)) [
        | inl low ↦
            get_or-map-range_with_len (role_after a.shared a.members number role) 0 (entries_with a.shared number) d d 0xffff low (omega arith)
            ∙ ap (cond (eqb d number) role) (sym (risen_role a full d))
        | inr past ↦
            get_or_past (joined_roles a.shared a.members number role) d 0xffff (let count = count_roles in omega arith)
            ∙ sym (get_or_past (roles_at_rise a.shared a.members) d 0xffff (let count = length-map-range_with_len (λ n. cond (is_absent a.shared a.members n) 0xfffe (role_in a.shared n)) 0 (length a.shared.roles) in omega arith))
            ∙ sym (put-miss number role (role_in up.shared) d (λ same. absurd (omega arith)))
      ]

  -- ---- the members
  was : (j : ℕ) (x : MemberView) → IsMember b j x → (IsMember up j x) ⊎ ((j ≡ length up.members) × (m ≡ x))
  was j x is = listed_push up.members m x j is

  module _ (none : has_number a.members number ≡ false) (room : length a.members < 64) (alone : TakesAlone a m role) where
    other_number : (j : ℕ) (x : MemberView) → IsMember up j x → x.superblock.dev_number ≢ number
    other_number j x is same =
        let y = at_map made_due a.members j x is in
        true≢false (sym (any_at (λ (n : MemberView). eqb n.superblock.dev_number number) a.members j y.0 y.1 (eq-eqb y.0.superblock.dev_number number (sym (ap (λ (n : MemberView). n.superblock.dev_number) y.2) ∙ same))) ∙ none)

    takes_too : (wanted : ℕ) (x : MemberView) → m ≡ x → takes_role wanted x.state ≡ true → takes_role wanted m.state ≡ true
    takes_too wanted x is takes = ap (λ (n : MemberView). takes_role wanted n.state) is ∙ takes

    its_role : (wanted : ℕ) (x : MemberView) → m ≡ x → takes_role wanted x.state ≡ true → role ≡ wanted
    its_role wanted x is takes = alone.own wanted (takes_too wanted x is takes)

    -- x is the new one
    other_role : (wanted j : ℕ) (x y : MemberView) → m ≡ x → takes_role wanted x.state ≡ true → IsMember up j y → takes_role wanted y.state ≡ true → ⊥
    other_role wanted j x y new takes is too =
        let z = at_map made_due a.members j y is in
        let same = its_role wanted x new takes in
        let taken : takes_role role z.0.state ≡ true = ap (λ (n : ℕ). takes_role n z.0.state) same ∙ sym (ap (λ (n : MemberView). takes_role wanted n.state) z.2) ∙ too in
        true≢false (sym (any_at (λ (n : MemberView). takes_role role n.state) a.members j z.0 z.1 taken) ∙ alone.free wanted (takes_too wanted x new takes))

    out : (x : MemberView) → m ≡ x → is_in_sync x.state ≡ false
    out x is = ap (λ (n : MemberView). is_in_sync n.state) (sym is) ∙ alone.out

    roles_joined : HasRoles up → HasRoles b
    roles_joined r = record {
      few = let count = length_push up.members m in let same = length-map a.members made_due in omega arith;
      numbers = λ i j x y p q same. elim (was i x p) [
        | inl old ↦ elim (was j y q) [
          | inl too ↦ r.numbers i j x y old too same
          | inr new ↦ absurd (other_number i x old (same ∙ sym (ap (λ (n : MemberView). n.superblock.dev_number) new.1)))
        ]
        | inr new ↦ elim (was j y q) [
          | inl old ↦ absurd (other_number j y old (sym same ∙ sym (ap (λ (n : MemberView). n.superblock.dev_number) new.1)))
          | inr too ↦ new.0 ∙ sym too.0
        ]
      ];
      shared = λ j wanted x is takes. elim (was j x is) [
        | inl old ↦ role_joined x.superblock.dev_number ∙ put-miss number role (role_in up.shared) x.superblock.dev_number (other_number j x old) ∙ r.shared j wanted x old takes
        | inr new ↦ ap (λ (n : MemberView). role_in b.shared n.superblock.dev_number) (sym new.1) ∙ role_joined number ∙ put-hit number role (role_in up.shared) ∙ its_role wanted x new.1 takes
      ];
      below = λ j wanted x is takes. elim (was j x is) [
        | inl old ↦ r.below j wanted x old takes
        | inr new ↦ subst (λ n. n < a.shared.raid_disks) (its_role wanted x new.1 takes) (alone.below wanted (takes_too wanted x new.1 takes))
      ];
      one_each = λ i j wanted x y p q e f. elim (was i x p) [
        | inl old ↦ elim (was j y q) [
          | inl too ↦ r.one_each i j wanted x y old too e f
          | inr new ↦ absurd (other_role wanted i y x new.1 f old e)
        ]
        | inr new ↦ elim (was j y q) [
          | inl old ↦ absurd (other_role wanted j x y new.1 e old f)
          | inr too ↦ new.0 ∙ sym too.0
        ]
      ];
      serving = λ running.
          let s = r.serving running in
          (s.0, s.1, record { member = got_earlier up.members m s.1 s.0 s.2.member; in_sync = s.2.in_sync });
    }

    module _ (size : m.superblock.size ≡ a.shared.size) (width : m.header.chunksize / 512 ≡ a.chunks.sectors) (count : m.stored.chunks ≡ a.marks.chunks) where
      chunks_joined : HasMarksOfSize up → HasMarksOfSize b
      chunks_joined h = record {
        size = h.size;
        count = h.count;
        wide = h.wide;
        none_past = h.none_past;
        member_size = λ j x is. elim (was j x is) [ inl old ↦ h.member_size j x old | inr new ↦ subst (λ (n : MemberView). n.superblock.size ≡ a.shared.size) new.1 size ];
        member_width = λ j x is. elim (was j x is) [ inl old ↦ h.member_width j x old | inr new ↦ subst (λ (n : MemberView). n.header.chunksize / 512 ≡ a.chunks.sectors) new.1 width ];
        member_count = λ j x is. elim (was j x is) [ inl old ↦ h.member_count j x old | inr new ↦ subst (λ (n : MemberView). n.stored.chunks ≡ a.marks.chunks) new.1 count ];
      }

      module _ (disks : List Disk) (d : Disk) (fit : FitsMember a m d) where
        fits_joined : Fits disks up → Fits (disks ++ d ∷ []) b
        fits_joined f = record {
          as_many = let many = f.as_many in let more = length_push disks d in let too = length_push up.members m in omega arith;
          each = λ j e x there is. elim (was j x is) [
            | inl old ↦ elim (listed_push disks d e j there) [
              | inl here ↦ let fits = f.each j e x here old in record { long = fits.long; short = fits.short; has = fits.has; placed = fits.placed; few_chunks = fits.few_chunks; sound = fits.sound; told = fits.told }
              | inr end ↦ let low = slice_get_within up.members j x old in let many = f.as_many in let last = end.0 in absurd (omega arith)
            ]
            | inr new ↦ elim (listed_push disks d e j there) [
              | inl here ↦ let low = slice_get_within disks j e here in let many = f.as_many in let last = new.0 in absurd (omega arith)
              | inr end ↦
                  let fits : FitsMember a x e = subst (λ (n : MemberView). FitsMember a n e) new.1 (subst (FitsMember a m) end.1 fit) in
                  record { long = fits.long; short = fits.short; has = fits.has; placed = fits.placed; few_chunks = fits.few_chunks; sound = fits.sound; told = fits.told }
            ]
          ];
        }

        pub joined_is_consistent : IsConsistent (record { disks = disks; array = a }) → IsConsistent (record { disks = disks ++ d ∷ []; array = b })
        joined_is_consistent c =
            let r = risen_is_consistent (record { disks = disks; array = a }) full c in
            record {
              fits = fits_joined r.fits;
              roles = roles_joined r.roles;
              chunks = chunks_joined r.chunks;
              inside = r.inside;
              supers = λ running j e x there is in_sync honest. elim (was j x is) [
                | inl old ↦ elim (listed_push disks d e j there) [
                  | inl here ↦ r.supers running j e x here old in_sync honest
                  | inr end ↦ let low = slice_get_within up.members j x old in let many = r.fits.as_many in let last = end.0 in absurd (omega arith)
                ]
                | inr new ↦ absurd (true≢false (sym in_sync ∙ out x new.1))
              ];
            }

  -- no role is filled by it
  pub degraded_joined : TakesAlone a m role → is_degraded b ≡ is_degraded a
  degraded_joined alone = ap (λ (f : ℕ → Bool). list_any (λ wanted. not (f wanted)) (range_with_len 0 a.shared.raid_disks)) (λ i wanted. filled wanted i)
    where
      not_as : (wanted : ℕ) → list_any (λ (x : MemberView). is_in_sync_as wanted x.state) (m ∷ []) ≡ false
      not_as wanted = ap (λ t. t || false) (alone.unfilled wanted)

      filled : (wanted : ℕ) → is_filled b wanted ≡ is_filled a wanted
      filled wanted =
          list_any-append (λ (x : MemberView). is_in_sync_as wanted x.state) up.members (m ∷ [])
          ∙ ap (λ t. is_filled up wanted || t) (not_as wanted)
          ∙ or_false (is_filled up wanted)
          ∙ same_filled a full wanted

  -- ---- what an opening would read
  same_fields : IsSameArray a b
  same_fields = record { set_uuid = refl; size = refl; raid_disks = refl; sectors = refl; events = omega arith }

  pub read_joined : (disks : List Disk) (d : Disk) (failed_at : ℕ) (spoiled : ℕ → Bool) → length disks ≡ length a.members → ((s : Bool) → IsReadAsKept b m failed_at s d.content)
      → AreReadAsKept (record { disks = disks; array = a }) failed_at spoiled
      → AreReadAsKept (record { disks = disks ++ d ∷ []; array = b }) failed_at (put (length a.members) false spoiled)
  read_joined disks d failed_at spoiled many last are j e x there is =
      let same = length-map a.members made_due in
      let then = put (length a.members) false spoiled in
      elim (was j x is) [
        | inl old ↦ elim (listed_push disks d e j there) [
          | inl here ↦
              let y = at_map made_due a.members j x old in
              let low = slice_get_within a.members j y.0 y.1 in
              kept_in a b y.0 x failed_at (then j) e.content same_fields
              (record { superblock = ap (λ (z : MemberView). z.superblock) y.2; state = ap (λ (z : MemberView). z.state) y.2 })
              (subst (λ (s : Bool). IsReadAsKept a y.0 failed_at s e.content) (sym (put-miss (length a.members) false spoiled j (λ here. omega arith))) (are j e y.0 here y.1))
          | inr end ↦ let low = slice_get_within up.members j x old in let at = end.0 in absurd (omega arith)
        ]
        | inr new ↦ elim (listed_push disks d e j there) [
          | inl here ↦ let low = slice_get_within disks j e here in let at = new.0 in absurd (omega arith)
          | inr end ↦ subst (λ (n : MemberView). IsReadAsKept b n failed_at (then j) e.content) new.1 (subst (λ (z : Disk). IsReadAsKept b m failed_at (then j) z.content) end.1 (last (then j)))
        ]
      ]

  -- ---- the world
  abbrev pub newcomer : List ℕ → membership.Newcomer
  newcomer content = record { number = number; role = role; state = kind_of m.state; recovering = has_recovery_offset m.superblock; offset = m.offset; sure_offset = m.superblock.recovery_offset; device = stored_of b m content }

  stored_joined : (o : Option MemberView) (d : Option Disk) → stored_on b o d ≡ stored_on up o d
  stored_joined None d = refl
  stored_joined (Some x) None = refl
  stored_joined (Some x) (Some d) = refl

  pub grew : (n : ℕ) → cond (nat_lt number 1920) (max n (number + 1)) n ≡ cond (nat_lt number n || leb 1920 number) n (number + 1)
  grew n = grind (arith, nat_tests)

  turned : (n e : ℕ) → (eqb n e || false) ≡ eqb e n
  turned n e = grind (arith, nat_tests)

  shows : (x y f : ℕ → Bool) (b : Bool) (c : ℕ) → x c ≡ y c → cond b (x c) (f c) ≡ cond b y f c
  shows x y f true c same = same
  shows x y f false c same = refl

  module _ (disks : List Disk) (d : Disk) (requests : ℕ → Option worlds.Request) (many : length disks ≡ length a.members) (due : m.due ≡ false) (told : m.stored_offset ≡ m.superblock.recovery_offset)
      (known : (c : ℕ) → (nat_lt c a.marks.chunks && is_set m.stored.bytes c) ≡ (stored_of b m d.content).bits c)
      (lists : (s : ℕ) → lists_of b m s ≡ (stored_of b m d.content).listed s) where
    abbrev u : worlds.World
    u = world_on disks up requests

    abbrev n : ℕ
    n = length up.members

    both : (k : ℕ) → stored_on b (slice_get (up.members ++ m ∷ []) k) (slice_get (disks ++ d ∷ []) k) ≡ put n (stored_of b m d.content) u.stored k
    both k =
        let same : length disks ≡ n = many ∙ sym (length-map a.members made_due) in
        (λ i. stored_on b (got_appended up.members m k i) ((got_appended disks d k ∙ ap (λ j. put j (Some d) (slice_get disks) k) same) i))
        ∙ here (eqb k n)
      where
        here : (t : Bool) → stored_on b (cond t (Some m) (slice_get up.members k)) (cond t (Some d) (slice_get disks k)) ≡ cond t (stored_of b m d.content) (u.stored k)
        here true = refl
        here false = stored_joined (slice_get up.members k) (slice_get disks k)

    world_entered : world_on (disks ++ d ∷ []) b requests ≡ membership.joined u (newcomer d.content)
    world_entered = λ i. record {
      members = length_push up.members m i;
      stored = λ k. both k i;
      number = λ k. shown_appended (λ (x : MemberView). x.superblock.dev_number) 0 up.members m k i;
      state = λ k. shown_appended (λ (x : MemberView). kind_of x.state) model.State.Faulty up.members m k i;
      due = λ k. (shown_appended (λ (x : MemberView). x.due) false up.members m k ∙ ap (λ t. put n t u.due k) due) i;
      known = λ k c. (shown_appended (λ (x : MemberView). nat_lt c a.marks.chunks && is_set x.stored.bytes c) false up.members m k
          ∙ shows (λ e. nat_lt e a.marks.chunks && is_set m.stored.bytes e) (stored_of b m d.content).bits (u.known k) (eqb k n) c (known c)) i;
      bad = λ k s. (shown_appended (λ (x : MemberView). lists_of a x s) false up.members m k
          ∙ shows (lists_of b m) (stored_of b m d.content).listed (u.bad k) (eqb k n) s (lists s)) i;
      offset = λ k. shown_appended (λ (x : MemberView). x.offset) 0 up.members m k i;
      sure_offset = λ k. shown_appended (λ (x : MemberView). x.superblock.recovery_offset) 0 up.members m k i;
      stored_offset = λ k. (shown_appended (λ (x : MemberView). x.stored_offset) 0 up.members m k ∙ ap (λ o. put n o u.stored_offset k) told) i;
      recovering = λ k. shown_appended (λ (x : MemberView). has_recovery_offset x.superblock) false up.members m k i;
      role = λ e. role_joined e i;
      entries = (count_roles ∙ grew (length a.shared.roles) ∙ ap (λ j. cond (nat_lt number j || leb 1920 number) j (number + 1)) (sym roles_many)) i;
      present = λ e. (list_any-append (λ (x : MemberView). eqb x.superblock.dev_number e) up.members (m ∷ []) ∙ ap (λ t. u.present e || t) (turned number e)) i;
      events = a.shared.events + 1;
      cleared_at = cond full (a.shared.events + 1) a.events_cleared;
      clean = u.clean;
      resynced = a.resynced;
      halted = a.halted;
      marks = u.marks;
      request = requests;
    }
      where
        roles_many : length up.shared.roles ≡ length a.shared.roles
        roles_many = length-map-range_with_len (λ e. cond (is_absent a.shared a.members e) 0xfffe (role_in a.shared e)) 0 (length a.shared.roles)

    pub world_joined : world_on (disks ++ d ∷ []) b requests ≡ membership.joined (counts.risen (geometry_of a) (world_on disks a requests) full) (newcomer d.content)
    world_joined = world_entered ∙ ap (λ (w : worlds.World). membership.joined w (newcomer d.content)) (world_risen a full disks requests)
