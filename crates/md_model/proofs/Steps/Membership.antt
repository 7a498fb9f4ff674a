-- Members that come and go keep the invariant.
use Rattle.std.proofs.Common.{◌≡◌, ◌≢◌, ℕ, ◌<◌, ◌≤◌, ◌+◌, ◌-◌, Bool, true, false, cond, ◌&&◌, ◌||◌, inl, inr, refl, sym, ap, ◌∙◌, subst, eqb, eq-eqb, true≢false, arith, ◌⊎◌}
use Rattle.std.specs.Prelude.{Some, nat_lt, leb, not}
use Rattle.std.proofs.lemmas.Bool.Decides.{nat_tests}
use Rattle.std.proofs.lemmas.Bool.{or_right, or_left, ne_eqb, and_from}
use Rattle.md_model.specs.Sectors.{Geometry, chunk_of, put}
use Rattle.md_model.specs.States.{State, is_in_sync, is_active, is_recovering, is_recorded}
use Rattle.md_model.specs.States.State.{InSync, Recovering, Stale, Spare, Faulty}
use Rattle.md_model.specs.Devices.{Super, Stored, offset_of}
use Rattle.md_model.specs.Worlds.{World, IsInSync}
use Rattle.md_model.specs.Counts.{risen}
use Rattle.md_model.specs.Membership.{former_member, is_spare, joined, joined_super, new_member, removed, skip, taken_out, without_entry, IsLaidOut, IsNumber, IsTakenBack, MayRemove, Newcomer}
use Rattle.md_model.proofs.Cases.{by_test, some-injective, not_below}
use Rattle.md_model.proofs.Puts.{by_same, put-at, put-hit, put-miss}
use Rattle.md_model.proofs.Table.{has_role}
use Rattle.md_model.proofs.Steps.Tracked.{IsTracked}
use Rattle.md_model.specs.Content.{HoldsInFlight}
use Rattle.md_model.proofs.Steps.TrackedSteps.{in_flight_risen, tracked_risen}
use Rattle.md_model.proofs.Steps.Recorded.{book_of, Has, In, IsRecorded, recorded_in_sync, past_entry, other_entry}
use Rattle.md_model.proofs.Steps.RecordedSteps.{recorded_risen}

-- no two members move to one place, and none to the one that left
pub skip-injective : (k i j : ℕ) → skip k i ≡ skip k j → i ≡ j
skip-injective k i j e = grind (arith, nat_tests)

pub skip-apart : (k j : ℕ) → skip k j ≢ k
skip-apart k j e = grind (arith, nat_tests)

skip-within : (k j members : ℕ) → k < members → skip k j < members → j < members - 1
skip-within k j members a b = grind (arith, nat_tests)

pub skip-onto : (k i : ℕ) → i ≢ k → (j : ℕ) × (skip k j ≡ i)
skip-onto k i apart = by_test (nat_lt i k)
    (λ low. (i, ap (λ b. cond b i (i + 1)) low))
    (λ past. let h = not_below i k past in (i - 1, grind (arith, nat_tests)))

-- ---- the data and the marks
in_flight_taken_out : (w : World) (k : ℕ) → HoldsInFlight w → HoldsInFlight (taken_out w k)
in_flight_taken_out w k t = record {
  written = λ n p j s e a. t.written n p (skip k j) s e a;
  apart = t.apart;
  distinct = λ i j a b e. skip-injective k i j (t.distinct (skip k i) (skip k j) a b e);
}

in_flight_without_entry : (w : World) (k : ℕ) → HoldsInFlight w → HoldsInFlight (without_entry w k)
in_flight_without_entry w k t = record { written = t.written; apart = t.apart; distinct = t.distinct }

pub in_flight_removed : (g : Geometry) (w : World) (k : ℕ) (spare full : Bool) → HoldsInFlight w → HoldsInFlight (removed g w k spare full)
in_flight_removed g w k true full t = in_flight_taken_out (without_entry (risen g w full) k) k (in_flight_without_entry (risen g w full) k (in_flight_risen g w full t))
in_flight_removed g w k false full t = in_flight_taken_out w k t

module _ (g : Geometry) (w : World) (k : ℕ) where
  tracked_taken_out : IsTracked g w → IsTracked g (taken_out w k)
  tracked_taken_out t = record {
    in_memory = λ i j s a b. t.in_memory (skip k i) (skip k j) s a b;
    on_members = λ h i j s a b c. t.on_members (skip k h) (skip k i) (skip k j) s a b c;
    known = λ j c a. t.known (skip k j) c a;
    quiet = λ r i j s a b. t.quiet r (skip k i) (skip k j) s a b;
    resynced = t.resynced;
    marked = t.marked;
    noted = λ n p j s e a. t.noted n p (skip k j) s e a;
    in_flight = in_flight_taken_out w k t.in_flight;
  }

  tracked_without_entry : IsTracked g w → IsTracked g (without_entry w k)
  tracked_without_entry t = record {
    in_memory = t.in_memory;
    on_members = t.on_members;
    known = t.known;
    quiet = t.quiet;
    resynced = t.resynced;
    marked = t.marked;
    noted = t.noted;
    in_flight = in_flight_without_entry w k t.in_flight;
  }

pub tracked_removed : (g : Geometry) (w : World) (k : ℕ) (spare full : Bool) → IsTracked g w → IsTracked g (removed g w k spare full)
tracked_removed g w k true full t = tracked_taken_out g (without_entry (risen g w full) k) k (tracked_without_entry g (risen g w full) k (tracked_risen g w full t))
tracked_removed g w k false full t = tracked_taken_out g w k t

-- a member that comes in is not in sync
module _ (w : World) (n : Newcomer) (out : is_in_sync n.state ≡ false) where
  pub was_member : (j : ℕ) → IsInSync (joined w n) j → (j ≢ w.members) × IsInSync w j
  was_member j = put-at w.members n.state w.state j (λ s. is_in_sync s ≡ true → (j ≢ w.members) × IsInSync w j)
      (λ _ e. absurd (true≢false (sym e ∙ out))) (λ apart e. (apart, e))

  pub same_device : (j : ℕ) → IsInSync (joined w n) j → (joined w n).stored j ≡ w.stored j
  same_device j a = put-miss w.members n.device w.stored j (was_member j a).0

  same_number : (j : ℕ) → IsInSync (joined w n) j → (joined w n).number j ≡ w.number j
  same_number j a = put-miss w.members n.number w.number j (was_member j a).0

  pub in_flight_joined : HoldsInFlight w → HoldsInFlight (joined w n)
  in_flight_joined t = record {
    written = λ m p j s e a done at. ap (λ (d : Stored). d.content s) (same_device j a) ∙ t.written m p j s e (was_member j a).1 (sym (ap p.written (same_number j a)) ∙ done) at;
    apart = t.apart;
    distinct = λ i j a b e. t.distinct i j (was_member i a).1 (was_member j b).1 (sym (same_number i a) ∙ e ∙ same_number j b);
  }

  pub tracked_joined_here : (g : Geometry) → IsTracked g w → IsTracked g (joined w n)
  tracked_joined_here g t =
      let v = joined w n in
      let in_ : (j : ℕ) → IsInSync v j → IsInSync w j = λ j a. (was_member j a).1 in
      let content : (j s : ℕ) → IsInSync v j → (v.stored j).content s ≡ (w.stored j).content s = λ j s a. ap (λ (d : Stored). d.content s) (same_device j a) in
      let listed : (j s : ℕ) → IsInSync v j → (v.stored j).listed s ≡ (w.stored j).listed s = λ j s a. ap (λ (d : Stored). d.listed s) (same_device j a) in
      let bits : (j c : ℕ) → IsInSync v j → (v.stored j).bits c ≡ (w.stored j).bits c = λ j c a. ap (λ (d : Stored). d.bits c) (same_device j a) in
      record {
        in_memory = λ i j s a b off x y. content i s a ∙ t.in_memory i j s (in_ i a) (in_ j b) off (sym (listed i s a) ∙ x) (sym (listed j s b) ∙ y) ∙ sym (content j s b);
        on_members = λ h i j s c a b off x y. content i s a ∙ t.on_members h i j s (in_ h c) (in_ i a) (in_ j b) (sym (bits h (chunk_of g s) c) ∙ off) (sym (listed i s a) ∙ x) (sym (listed j s b) ∙ y) ∙ sym (content j s b);
        known = λ j c a. ap (λ (f : ℕ → Bool). f c) (put-miss w.members n.device.bits w.known j (was_member j a).0) ∙ t.known j c (in_ j a) ∙ sym (bits j c a);
        quiet = λ r i j s a b q x y. content i s a ∙ t.quiet r i j s (in_ i a) (in_ j b) q (sym (listed i s a) ∙ x) (sym (listed j s b) ∙ y) ∙ sym (content j s b);
        resynced = t.resynced;
        marked = t.marked;
        noted = λ m p j s e a done at. bits j (chunk_of g s) a ∙ t.noted m p j s e (in_ j a) (sym (ap p.written (same_number j a)) ∙ done) at;
        in_flight = in_flight_joined t.in_flight;
      }

pub tracked_joined : (g : Geometry) (w : World) (n : Newcomer) → is_in_sync n.state ≡ false → IsTracked g w → IsTracked g (joined w n)
tracked_joined g w n out t = tracked_joined_here w n out g t

-- ---- the superblocks

skip-below : (k j members : ℕ) → j < members - 1 → skip k j < members
skip-below k j members low = grind (arith, nat_tests)

not_in_sync : (s : State) → is_active s ≡ false → is_in_sync s ≡ true → ⊥
not_in_sync InSync e a = true≢false e
not_in_sync Recovering e a = true≢false e
not_in_sync Stale e a = true≢false (sym a)
not_in_sync Spare e a = true≢false (sym a)
not_in_sync Faulty e a = true≢false (sym a)

spare_only : (s : State) → is_spare s ≡ true → s ≡ Spare
spare_only InSync e = absurd (true≢false (sym e))
spare_only Recovering e = absurd (true≢false (sym e))
spare_only Stale e = absurd (true≢false (sym e))
spare_only Spare e = refl
spare_only Faulty e = absurd (true≢false (sym e))

module _ (g : Geometry) (few : g.raid_disks ≤ 32) (opened : Super) (failed_at : ℕ) (tried : Bool) (stays_away : ℕ → Bool) where
  abbrev Records : World → Type 0
  Records w = IsRecorded g opened failed_at tried stays_away (book_of w)

  recorded_taken_out : (w : World) (k : ℕ) → k < w.members → (is_in_sync (w.state k) ≡ true → ⊥) → ((d : ℕ) → stays_away d ≡ true → (taken_out w k).present d ≡ false) → Records w → Records (taken_out w k)
  recorded_taken_out w k there out gone r = record {
    number = λ j. r.number (skip k j);
    below = λ j. r.below (skip k j);
    later = r.later;
    has_super = λ j. r.has_super (skip k j);
    there = λ j on. skip-within k j w.members there (r.there (skip k j) on);
    entries = r.entries;
    present = λ j low.
        let s = skip-below k j w.members low in
        and_from (w.present (w.number (skip k j))) (not (eqb (w.number (skip k j)) (w.number k))) (r.present (skip k j) s)
        (ap not (ne_eqb (w.number (skip k j)) (w.number k) (λ same. skip-apart k j (r.distinct (skip k j) k s there same))));
    slot = λ j own e. skip-within k j w.members there (r.slot (skip k j) own e);
    gone = gone;
    distinct = λ i j li lj same. skip-injective k i j (r.distinct (skip k i) (skip k j) (skip-below k i w.members li) (skip-below k j w.members lj) same);
    by_memory = λ j low. r.by_memory (skip k j) (skip-below k j w.members low);
    by_opening = λ h j. r.by_opening h (skip k j);
    by_super = λ i own e h up j. r.by_super (skip k i) own e h up (skip k j);
    as_new = λ j. r.as_new (skip k j);
    stale = λ j. r.stale (skip k j);
    recovering = λ j. r.recovering (skip k j);
    clear = λ j. r.clear (skip k j);
    bit = λ j. r.bit (skip k j);
    in_memory = λ j. r.in_memory (skip k j);
    roles = record {
      own = λ j. r.roles.own (skip k j);
      by_opening = λ j. r.roles.by_opening (skip k j);
      by_super = λ i first j. r.roles.by_super (skip k i) first (skip k j);
      stale = λ j. r.roles.stale (skip k j);
      stale_super = λ i first j. r.roles.stale_super (skip k i) first (skip k j);
    };
    unrisen = r.unrisen;
    out_memory = r.out_memory;
    out_super = λ j. r.out_super (skip k j);
    out_tried = λ d at off low j. r.out_tried d at off low (skip k j);
    current = λ j. r.current (skip k j);
    some_in =
        let x = r.some_in in
        let y = skip-onto k x.0 (λ same. out (ap (λ i. is_in_sync (w.state i)) (sym same) ∙ x.1)) in
        (y.0, ap (λ i. is_in_sync (w.state i)) y.1 ∙ x.1);
  }

  -- the entry of one that is not in sync becomes that of a failed device
  recorded_without_entry : (w : World) (k : ℕ) → k < w.members → (is_in_sync (w.state k) ≡ true → ⊥) → (w.state k ≡ Stale → ⊥) → opened.events < w.events → ((j : ℕ) (own : Super) → Has (book_of w) j own → own.events < w.events) → Records w → Records (without_entry w k)
  recorded_without_entry w k there out stale_out up under r =
      let now : ℕ → ℕ = (without_entry w k).role in
      let same : (j : ℕ) → j ≢ k → j < w.members → now (w.number j) ≡ w.role (w.number j) =
      λ j apart low. other_entry (w.number j) (w.number k) w.entries (w.role (w.number j)) (λ at. apart (r.distinct j k low there at)) in
      let same_in : (j : ℕ) → In (book_of w) j → j < w.members → now (w.number j) ≡ w.role (w.number j) =
      λ j a. same j (λ at. out (ap (λ i. is_in_sync (w.state i)) (sym at) ∙ a)) in
      let taken_was : (d : ℕ) → now d < g.raid_disks → w.role d < g.raid_disks =
      λ d. by_test (eqb d (w.number k) && nat_lt d w.entries)
      (λ at low. absurd (let t : 65534 < g.raid_disks = subst (λ x. x < g.raid_disks) (ap (λ x. cond x 65534 (w.role d)) at) low in omega arith))
      (λ off low. subst (λ x. x < g.raid_disks) (ap (λ x. cond x 65534 (w.role d)) off) low) in
      record {
        number = r.number;
        below = r.below;
        later = r.later;
        has_super = r.has_super;
        there = r.there;
        entries = λ d h. past_entry d (w.number k) w.entries (w.role d) h ∙ r.entries d h;
        present = r.present;
        slot = r.slot;
        gone = r.gone;
        distinct = r.distinct;
        by_memory = λ j low named. r.by_memory j low (taken_was (w.number j) named);
        by_opening = r.by_opening;
        by_super = r.by_super;
        as_new = λ j own e _ at. absurd (let t : own.events < w.events = under j own e in omega arith);
        stale = r.stale;
        recovering = r.recovering;
        clear = r.clear;
        bit = r.bit;
        in_memory = λ j a. subst (λ x. x < g.raid_disks) (sym (same_in j a (r.there j (recorded_in_sync (w.state j) a)))) (r.in_memory j a);
        roles = record {
          own = λ j own a e. r.roles.own j own a e ∙ sym (same_in j a (r.slot j own e));
          by_opening = λ j own a e late. r.roles.by_opening j own a e late ∙ sym (same_in j a (r.slot j own e));
          by_super = λ i first j own x a e late more. r.roles.by_super i first j own x a e late more ∙ sym (same_in j a (r.slot j own e));
          stale = λ j own e s. same j (λ at. stale_out (ap w.state (sym at) ∙ s)) (r.slot j own e) ∙ r.roles.stale j own e s;
          stale_super = r.roles.stale_super;
        };
        unrisen = λ h. absurd (omega arith);
        out_memory = λ d off h low. r.out_memory d off h (taken_was d low);
        out_super = r.out_super;
        out_tried = r.out_tried;
        current = r.current;
        some_in = r.some_in;
      }

  pub recorded_removed : (w : World) (k : ℕ) (full : Bool) → MayRemove w k → ((d : ℕ) → stays_away d ≡ true → (removed g w k (is_spare (w.state k)) full).present d ≡ false) → Records w → Records (removed g w k (is_spare (w.state k)) full)
  recorded_removed w k full may = by (is_spare (w.state k)) refl
    where
      by : (spare : Bool) → is_spare (w.state k) ≡ spare → ((d : ℕ) → stays_away d ≡ true → (removed g w k spare full).present d ≡ false) → Records w → Records (removed g w k spare full)
      by true is gone r =
          recorded_taken_out (without_entry (risen g w full) k) k may.there (not_in_sync (w.state k) may.out) gone
          (recorded_without_entry (risen g w full) k may.there (not_in_sync (w.state k) may.out) (λ at. true≢false (sym is ∙ ap is_spare at)) (let l = r.later in let t : opened.events < w.events + 1 = omega arith in t)
          (λ j own e. let b = r.below j own e in let t : own.events < w.events + 1 = omega arith in t)
          (recorded_risen g few opened failed_at tried stays_away w full r))
      by false is gone r = recorded_taken_out w k may.there (not_in_sync (w.state k) may.out) gone r

-- what is asked of a member that comes in: its superblock bears the count and the roles, and says of it what its state is
pub record Joins (g : Geometry) (w : World) (n : Newcomer) : Type 0 where
  pub absent : w.present n.number ≡ false
  pub super : n.device.super ≡ Some (joined_super w n.number n.role n.recovering n.sure_offset)
  pub out : is_in_sync n.state ≡ false
  pub fresh : n.state ≡ Stale → ⊥
  pub bit : is_recovering n.state ≡ true → n.recovering ≡ true
  pub role : n.role < g.raid_disks → has_role n.state ≡ true
  pub past : 1920 ≤ n.number → n.role ≡ 65535

pub spare_joins : (g : Geometry) (w : World) (d : ℕ) (left : Stored) → g.raid_disks ≤ 32 → w.present d ≡ false → IsLaidOut g w d left → Joins g w (new_member d left)
spare_joins g w d left few absent laid = record {
  absent = absent;
  super = laid.super;
  out = refl;
  fresh = λ e. let x = ap is_spare e in true≢false x;
  bit = λ e. e;
  role = λ low. absurd (omega arith);
  past = λ _. refl;
}

pub former_joins : (g : Geometry) (before w : World) (own : Super) (offset : ℕ) (device left : Stored) → w.present own.number ≡ false → own.number < 1920 → IsTakenBack g before w own offset device left
    → Joins g w (former_member own offset left)
former_joins g before w own offset device left absent low taken = record {
  absent = absent;
  super = subst (λ o. left.super ≡ Some (joined_super w own.number (own.role own.number) true o)) (sym (ap offset_of taken.rest)) (ap (λ (d : Stored). d.super) taken.rest);
  out = refl;
  fresh = λ e. let x = ap is_recovering e in true≢false x;
  bit = λ e. e;
  role = λ _. refl;
  past = λ high. absurd (omega arith);
}

pub number_absent : (g : Geometry) (w : World) (d : ℕ) → IsNumber g w d → w.present d ≡ false
number_absent g w d (inl least) = least.fits.1
number_absent g w d (inr x) = x.1.fits

module _ (g : Geometry) (few : g.raid_disks ≤ 32) (opened : Super) (failed_at : ℕ) (tried : Bool) (stays_away : ℕ → Bool) (w : World) (n : Newcomer) (joins : Joins g w n) where
  abbrev v : World
  v = joined w n

  abbrev new : Super
  new = joined_super w n.number n.role n.recovering n.sure_offset

  by_joined : {P : Type 0} (j : ℕ) (own : Super) → Has (book_of v) j own → (j ≡ w.members → new ≡ own → P) → (j ≢ w.members → Has (book_of w) j own → P) → P
  by_joined {P} j own e here there =
      put-at w.members n.device w.stored j (λ (x : Stored). x.super ≡ Some own → P) (λ same x. here same (some-injective new own (sym joins.super ∙ x))) there e

  state_here : (j : ℕ) → j ≡ w.members → v.state j ≡ n.state
  state_here j same = ap v.state same ∙ put-hit w.members n.state w.state

  state_there : (j : ℕ) → j ≢ w.members → v.state j ≡ w.state j
  state_there j apart = put-miss w.members n.state w.state j apart

  -- a stale one was there before
  old_stale : {P : Type 0} (j : ℕ) (own : Super) → Has (book_of v) j own → v.state j ≡ Stale → (j ≢ w.members → Has (book_of w) j own → w.state j ≡ Stale → P) → P
  old_stale j own e is was = by_joined j own e (λ same _. absurd (joins.fresh (sym (state_here j same) ∙ is))) (λ apart x. was apart x (sym (state_there j apart) ∙ is))

  bit_here : (j : ℕ) → j ≡ w.members → v.recovering j ≡ n.recovering
  bit_here j same = ap v.recovering same ∙ put-hit w.members n.recovering w.recovering

  bit_there : (j : ℕ) → j ≢ w.members → v.recovering j ≡ w.recovering j
  bit_there j apart = put-miss w.members n.recovering w.recovering j apart

  number_here : (j : ℕ) → j ≡ w.members → v.number j ≡ n.number
  number_here j same = ap v.number same ∙ put-hit w.members n.number w.number

  number_there : (j : ℕ) → j ≢ w.members → v.number j ≡ w.number j
  number_there j apart = put-miss w.members n.number w.number j apart

  pub recorded_joined : ((j : ℕ) (own : Super) → Has (book_of w) j own → own.events < w.events) → opened.events < w.events → ((d : ℕ) → stays_away d ≡ true → v.present d ≡ false)
      → IsRecorded g opened failed_at tried stays_away (book_of w) → IsRecorded g opened failed_at tried stays_away (book_of v)
  recorded_joined under up gone r =
      let b = book_of w in
      let b' = book_of v in
      -- a former member's number is not the new one
      let other : (j : ℕ) → j < w.members → w.number j ≢ n.number = λ j low same. true≢false (sym (r.present j low) ∙ ap w.present same ∙ joins.absent) in
      let role_there : (j : ℕ) → j < w.members → put n.number n.role w.role (w.number j) ≡ w.role (w.number j) = λ j low. put-miss n.number n.role w.role (w.number j) (other j low) in
      let old_in : (j : ℕ) → In b' j → (j ≢ w.members) × In b j = was_member w n joins.out in
      let low_of : (j : ℕ) → In b j → j < w.members = λ j a. r.there j (recorded_in_sync (w.state j) a) in
      let had : (j : ℕ) (own : Super) → In b' j → Has b' j own → Has b j own = λ j own a e. by_joined j own e (λ same _. absurd ((old_in j a).0 same)) (λ _ x. x) in
      let slot : (j : ℕ) (own : Super) → Has b' j own → j < w.members + 1 = λ j own e. by_joined j own e
      (λ same _. let t : j < w.members + 1 = omega arith in t) (λ _ x. let s = r.slot j own x in let t : j < w.members + 1 = omega arith in t) in
      let role_same : (j : ℕ) → j ≢ w.members → j < w.members → v.role (v.number j) ≡ w.role (w.number j) = λ j apart low. ap v.role (number_there j apart) ∙ role_there j low in
      let memory : (j : ℕ) → j < w.members + 1 → v.role (v.number j) < g.raid_disks → has_role (v.state j) ≡ true = λ j within low. by_same j w.members
      (λ same. ap has_role (state_here j same) ∙ joins.role (subst (λ x. x < g.raid_disks) (put-hit n.number n.role w.role) (subst (λ d. v.role d < g.raid_disks) (number_here j same) low)))
      (λ apart.
      let below : j < w.members = omega arith in
      ap has_role (state_there j apart) ∙ r.by_memory j below
      (subst (λ y. y < g.raid_disks) (role_there j below) (subst (λ d. v.role d < g.raid_disks) (number_there j apart) low))) in
      let in_memory : (j : ℕ) → In b' j → v.role (v.number j) < g.raid_disks = λ j a.
      let o = old_in j a in
      subst (λ d. v.role d < g.raid_disks) (sym (number_there j o.0)) (subst (λ y. y < g.raid_disks) (sym (role_there j (low_of j o.1))) (r.in_memory j o.1)) in
      let out_memory : (d : ℕ) → stays_away d ≡ true → opened.events < w.events → v.role d < g.raid_disks → ⊥ = λ d off h low.
      r.out_memory d off h (subst (λ y. y < g.raid_disks) (put-miss n.number n.role w.role d (λ same. true≢false (sym (or_right (w.present d) (eqb d n.number) (eq-eqb d n.number same)) ∙ gone d off))) low) in
      record {
        number = λ j own e. by_joined j own e (λ same is. sym (ap (λ (s : Super). s.number) is) ∙ sym (number_here j same)) (λ apart x. r.number j own x ∙ sym (number_there j apart));
        below = λ j own e. by_joined j own e (λ _ is. let x : w.events ≡ own.events = ap (λ (s : Super). s.events) is in omega arith) (λ _ x. r.below j own x);
        later = r.later;
        has_super = λ j a. let o = old_in j a in let x = r.has_super j o.1 in (x.0, ap (λ (d : Stored). d.super) (put-miss w.members n.device w.stored j o.0) ∙ x.1);
        there = λ j on. by_same j w.members
            (λ same. let t : j < w.members + 1 = omega arith in t)
            (λ apart. let s = r.there j (ap is_recorded (sym (state_there j apart)) ∙ on) in let t : j < w.members + 1 = omega arith in t);
        entries = λ d h. by_same d n.number
            (λ same. put-at n.number n.role w.role d (λ x. x ≡ 65535) (λ _. joins.past (high w.entries n.number d same h)) (λ apart. absurd (apart same)))
            (λ apart. put-miss n.number n.role w.role d apart ∙ r.entries d (past w.entries n.number d h));
        present = λ j low. by_same j w.members
            (λ same. or_right (w.present (v.number j)) (eqb (v.number j) n.number) (eq-eqb (v.number j) n.number (number_here j same)))
            (λ apart. or_left (w.present (v.number j)) (eqb (v.number j) n.number) (ap w.present (number_there j apart) ∙ r.present j (omega arith)));
        slot = slot;
        gone = gone;
        distinct = λ i j li lj same. by_same i w.members
            (λ at_i. by_same j w.members (λ at_j. at_i ∙ sym at_j) (λ off_j. absurd (other j (omega arith) (sym (number_there j off_j) ∙ sym same ∙ number_here i at_i))))
            (λ off_i. by_same j w.members (λ at_j. absurd (other i (omega arith) (sym (number_there i off_i) ∙ same ∙ number_here j at_j)))
            (λ off_j. r.distinct i j (omega arith) (omega arith) (sym (number_there i off_i) ∙ same ∙ number_there j off_j)));
        by_memory = memory;
        by_opening = λ h j own e late low. by_joined j own e
            (λ _ is. let x : w.events ≡ own.events = ap (λ (s : Super). s.events) is in absurd (omega arith))
            (λ apart x. ap has_role (state_there j apart) ∙ r.by_opening h j own x late (subst (λ d. opened.role d < g.raid_disks) (number_there j apart) low));
        by_super = λ i first e h more j own e' late low. by_joined i first e
            (λ _ is. memory j (slot j own e') (subst (λ (s : Super). s.role (v.number j) < g.raid_disks) (sym is) low))
            (λ _ x. by_joined j own e'
            (λ _ is. let y : w.events ≡ own.events = ap (λ (s : Super). s.events) is in let z = under i first x in absurd (omega arith))
            (λ apart y. ap has_role (state_there j apart) ∙ r.by_super i first x h more j own y late (subst (λ d. first.role d < g.raid_disks) (number_there j apart) low)));
        as_new = λ i first e _ at d. by_joined i first e
            (λ _ is. sym (ap (λ (s : Super). s.role d) is))
            (λ _ x. absurd (let t : first.events < w.events = under i first x in omega arith));
        stale = λ j own e is. old_stale j own e is
            (λ apart x was. subst (λ d. (own.events + 1 < opened.events) ⊎ (own.role d ≢ opened.role d)) (sym (number_there j apart)) (r.stale j own x was));
        recovering = λ j at. by_same j w.members
            (λ same. bit_here j same ∙ joins.bit (ap is_recovering (sym (state_here j same)) ∙ at))
            (λ apart. bit_there j apart ∙ r.recovering j (ap is_recovering (sym (state_there j apart)) ∙ at));
        clear = λ j a. let o = old_in j a in bit_there j o.0 ∙ r.clear j o.1;
        bit = λ j own e. by_joined j own e
            (λ same is. sym (ap (λ (s : Super). s.recovering) is) ∙ sym (bit_here j same))
            (λ apart x. r.bit j own x ∙ sym (bit_there j apart));
        in_memory = in_memory;
        roles = record {
          own = λ j own a e. let o = old_in j a in ap own.role (number_there j o.0) ∙ r.roles.own j own o.1 (had j own a e) ∙ sym (role_same j o.0 (low_of j o.1));
          by_opening = λ j own a e late. let o = old_in j a in
              ap opened.role (number_there j o.0) ∙ r.roles.by_opening j own o.1 (had j own a e) late ∙ sym (role_same j o.0 (low_of j o.1));
          by_super = λ i first j own e a e' late more. by_joined i first e
              (λ _ is. sym (ap (λ (s : Super). s.role (v.number j)) is))
              (λ _ x. let o = old_in j a in ap first.role (number_there j o.0) ∙ r.roles.by_super i first j own x o.1 (had j own a e') late more ∙ sym (role_same j o.0 (low_of j o.1)));
          stale = λ j own e s. old_stale j own e s (λ apart x was. role_same j apart (r.slot j own x) ∙ r.roles.stale j own x was ∙ ap opened.role (sym (number_there j apart)));
          stale_super = λ i first j own e e' s more. old_stale j own e' s (λ apart y was. by_joined i first e
              (λ _ is. sym (ap (λ (u : Super). u.role (v.number j)) is) ∙ role_same j apart (r.slot j own y) ∙ r.roles.stale j own y was ∙ ap opened.role (sym (number_there j apart)))
              (λ _ x. ap first.role (number_there j apart) ∙ r.roles.stale_super i first j own x y was more ∙ ap opened.role (sym (number_there j apart))));
        };
        unrisen = λ h. absurd (omega arith);
        out_memory = out_memory;
        out_super = λ j own d e off more low. by_joined j own e
            (λ _ is. out_memory d off up (subst (λ (s : Super). s.role d < g.raid_disks) (sym is) low))
            (λ _ x. r.out_super j own d x off more low);
        out_tried = λ d at off low j own a e. r.out_tried d at off low j own (old_in j a).1 (had j own a e);
        current = λ j own a off e. by_joined j own e
            (λ _ is. sym (ap (λ (s : Super). s.events) is))
            (λ apart x. r.current j own (ap is_recorded (sym (state_there j apart)) ∙ a) (sym (put-miss w.members false w.due j apart) ∙ off) x);
        some_in = let x = r.some_in in (x.0, ap is_in_sync (state_there x.0 (λ same. let l = low_of x.0 x.1 in omega arith)) ∙ x.1);
      }
    where
      high : (entries number d : ℕ) → d ≡ number → cond (nat_lt number entries || leb 1920 number) entries (number + 1) ≤ d → 1920 ≤ number
      high entries number d same h = grind (arith, nat_tests)

      past : (entries number d : ℕ) → cond (nat_lt number entries || leb 1920 number) entries (number + 1) ≤ d → entries ≤ d
      past entries number d h = grind (arith, nat_tests)
