-- The freshest superblock, found member by member.
use Rattle.std.proofs.Common.{◌≡◌, ◌∙◌, Bool, true, false, not, ◌&&◌, ◌||◌, ℕ, ◌+◌, ◌<◌, ◌≤◌, List, [], ◌∷◌, length, Some, None, Option, ap, refl, sym, subst, arith, inl, inr}
use Rattle.std.specs.Prelude.{◌==◌}
use Rattle.std.specs.List.{list_any, slice_get}
use Rattle.std.proofs.lemmas.Bool.{cases_lt, eq-eqb, eqb-true}
use Rattle.std.specs.Option.{option_map}
use Rattle.std.proofs.lemmas.Option.{slice_get-map, slice_get_within}
use Rattle.md_super.specs.declared.superblock.Superblock.{Superblock}
use Rattle.md_members.specs.declared.info.MemberInfo.{MemberInfo}
use Rattle.md_assembly.specs.declared.state.MemberState.{MemberState}
use Rattle.md_assembly.specs.Assembled.{ByFreshest, IsFirstFreshest, DecidesRoles, is_disputed, superblocks}
use Rattle.md_assembly.specs.States.{states_by}
use Rattle.md_assembly.proofs.Indices.{got_same, got_within}

-- the member at an index is the freshest of the first n
pub record IsFreshestOf (members : List MemberInfo) (n best : ℕ) : Type 0 where
  pub member : MemberInfo
  pub listed : slice_get members best ≡ Some member
  pub early : best ≤ n
  pub greatest : (j : ℕ) (m : MemberInfo) → j < n → slice_get members j ≡ Some m → m.superblock.events ≤ member.superblock.events
  pub first : (j : ℕ) (m : MemberInfo) → j < n → slice_get members j ≡ Some m → m.superblock.events ≡ member.superblock.events → best ≤ j

pub none_seen : (members : List MemberInfo) → 0 < length members → IsFreshestOf members 0 0
none_seen members some = let there = got_within members 0 some in record {
  member = there.0;
  listed = there.1;
  early = omega arith;
  greatest = λ j m lt e. absurd (omega arith);
  first = λ j m lt e same. omega arith;
}

-- one more member, which has more events than the best so far
pub better : (members : List MemberInfo) (n best : ℕ) (old new : MemberInfo) → IsFreshestOf members n best → slice_get members best ≡ Some old → slice_get members n ≡ Some new → old.superblock.events < new.superblock.events → IsFreshestOf members (n + 1) n
better members n best old new f at_best at_n more =
    let is_old : f.member ≡ old = got_same members best f.member old f.listed at_best in
    let was : f.member.superblock.events ≡ old.superblock.events = ap (λ (m : MemberInfo). m.superblock.events) is_old in
    record {
      member = new;
      listed = at_n;
      early = omega arith;
      greatest = λ j m lt e. elim (cases_lt j n) [
        | inl less ↦ let below = f.greatest j m less e in omega arith
        | inr here ↦ let at : j ≡ n = omega arith in
            let is_new : m ≡ new = got_same members n m new (subst (λ (k : ℕ). slice_get members k ≡ Some m) at e) at_n in
            let same : m.superblock.events ≡ new.superblock.events = ap (λ (x : MemberInfo). x.superblock.events) is_new in omega arith
      ];
      first = λ j m lt e same. elim (cases_lt j n) [
        | inl less ↦ let below = f.greatest j m less e in absurd (omega arith)
        | inr here ↦ here
      ];
    }

-- one more member, which has not
pub no_better : (members : List MemberInfo) (n best : ℕ) (old new : MemberInfo) → IsFreshestOf members n best → slice_get members best ≡ Some old → slice_get members n ≡ Some new → new.superblock.events ≤ old.superblock.events → IsFreshestOf members (n + 1) best
no_better members n best old new f at_best at_n no_more =
    let is_old : f.member ≡ old = got_same members best f.member old f.listed at_best in
    let was : f.member.superblock.events ≡ old.superblock.events = ap (λ (m : MemberInfo). m.superblock.events) is_old in
    let early = f.early in
    record {
      member = f.member;
      listed = f.listed;
      early = omega arith;
      greatest = λ j m lt e. elim (cases_lt j n) [
        | inl less ↦ f.greatest j m less e
        | inr here ↦ let at : j ≡ n = omega arith in
            let is_new : m ≡ new = got_same members n m new (subst (λ (k : ℕ). slice_get members k ≡ Some m) at e) at_n in
            let same : m.superblock.events ≡ new.superblock.events = ap (λ (x : MemberInfo). x.superblock.events) is_new in omega arith
      ];
      first = λ j m lt e same. elim (cases_lt j n) [
        | inl less ↦ f.first j m less e same
        | inr here ↦ omega arith
      ];
    }

from_option_map : (o : Option MemberInfo) (v : Superblock) → option_map (λ m. m.superblock) o ≡ Some v → (m : MemberInfo) × (o ≡ Some m) × (m.superblock ≡ v)
from_option_map None v e = absurd cc
from_option_map (Some m) v e = let same : m.superblock ≡ v = cc in (m, refl, same)

-- a listed superblock is a member's
member_of : (members : List MemberInfo) (i : ℕ) (v : Superblock) → slice_get (superblocks members) i ≡ Some v → (m : MemberInfo) × (slice_get members i ≡ Some m) × (m.superblock ≡ v)
member_of members i v e = from_option_map (slice_get members i) v (sym (slice_get-map (λ (m : MemberInfo). m.superblock) members i) ∙ e)

pub block_of : (members : List MemberInfo) (i : ℕ) (m : MemberInfo) → slice_get members i ≡ Some m → slice_get (superblocks members) i ≡ Some m.superblock
block_of members i m e = slice_get-map (λ (m : MemberInfo). m.superblock) members i ∙ ap (option_map (λ (m : MemberInfo). m.superblock)) e

-- the freshest of all
pub freshest_of_all : (members : List MemberInfo) (n best : ℕ) → length members ≤ n → IsFreshestOf members n best → (v : Superblock) × IsFirstFreshest (superblocks members) best v
freshest_of_all members n best all f = (
  f.member.superblock,
  record {
    listed = block_of members best f.member f.listed;
    greatest = λ j w e.
        let m = member_of members j w e in
        let within : j < length members = slice_get_within members j m.0 m.1 in
        let low = f.greatest j m.0 (omega arith) m.1 in
        let same : m.0.superblock.events ≡ w.events = ap (λ (x : Superblock). x.events) m.2 in
        omega arith;
    first = λ j w e equal.
        let m = member_of members j w e in
        let within : j < length members = slice_get_within members j m.0 m.1 in
        let same : m.0.superblock.events ≡ w.events = ap (λ (x : Superblock). x.events) m.2 in
        f.first j m.0 (omega arith) m.1 (same ∙ equal);
  },
)

-- what is disputed only where another is, and the other only where it is
equally_disputed : (d e : Bool) → (e ≡ false → d ≡ false) → (d ≡ false → e ≡ false) → e ≡ d
equally_disputed false e f g = g refl
equally_disputed true false f g = absurd (let h = f refl in cc)
equally_disputed true true f g = refl

-- there is one freshest superblock
pub one_freshest : (all : List Superblock) (i j : ℕ) (v w : Superblock) → DecidesRoles all i v → DecidesRoles all j w → v ≡ w
one_freshest all i j v w f g =
    let below = f.greatest j w g.listed in
    let above = g.greatest i v f.listed in
    let same : w.events ≡ v.events = omega arith in
    let alike = equally_disputed (is_disputed all v) (is_disputed all w) (f.undisputed j w g.listed same) (g.undisputed i v f.listed (sym same)) in
    let not_after = f.first j w g.listed same alike in
    let not_before = g.first i v f.listed (sym same) (sym alike) in
    let at : j ≡ i = omega arith in
    got_same all i v w f.listed (subst (λ (k : ℕ). slice_get all k ≡ Some w) at g.listed)

-- what holds by some freshest superblock holds by this one
pub by_this : (Fact : List MemberState → Type 0) (all : List Superblock) (i : ℕ) (v : Superblock) → DecidesRoles all i v → ByFreshest Fact all → Fact (states_by v all)
by_this Fact all i v f by =
    let same : by.superblock ≡ v = one_freshest all by.index i by.superblock v by.freshest f in
    subst (λ (w : Superblock). Fact (states_by w all)) same by.holds

pub by_freshest : (Fact : List MemberState → Type 0) (all : List Superblock) (i : ℕ) (v : Superblock) → DecidesRoles all i v → Fact (states_by v all) → ByFreshest Fact all
by_freshest Fact all i v f h = record { index = i; superblock = v; freshest = f; holds = h }

-- the freshest superblock is that of the member at its index
pub freshest_at : (members : List MemberInfo) (i : ℕ) (m : MemberInfo) (v : Superblock) → slice_get members i ≡ Some m → DecidesRoles (superblocks members) i v → DecidesRoles (superblocks members) i m.superblock
freshest_at members i m v listed f =
    let same : v ≡ m.superblock = got_same (superblocks members) i v m.superblock f.listed (block_of members i m listed) in
    subst (λ (w : Superblock). DecidesRoles (superblocks members) i w) same f

pub first_freshest_at : (members : List MemberInfo) (i : ℕ) (m : MemberInfo) (v : Superblock) → slice_get members i ≡ Some m → IsFirstFreshest (superblocks members) i v → IsFirstFreshest (superblocks members) i m.superblock
first_freshest_at members i m v listed f =
    let same : v ≡ m.superblock = got_same (superblocks members) i v m.superblock f.listed (block_of members i m listed) in
    subst (λ (w : Superblock). IsFirstFreshest (superblocks members) i w) same f

-- a test of superblocks, over members
pub any_superblock : (test : Superblock → Bool) (members : List MemberInfo) → list_any test (superblocks members) ≡ list_any (λ m. test m.superblock) members
any_superblock test [] = refl
any_superblock test (m ∷ rest) = ap (λ b. test m.superblock || b) (any_superblock test rest)

eqb_by : {a b : ℕ} → a ≡ b → a == b ≡ true
eqb_by {a} {b} e = eq-eqb a b e

both_of : (a b : Bool) → a && not b ≡ true → (a ≡ true) × (b ≡ false)
both_of true false e = (refl, refl)
both_of true true e = absurd cc
both_of false b e = absurd cc

both : (a b : Bool) → a ≡ true → b ≡ false → a && not b ≡ true
both a b first second = cc

pub both_hold : (a b rest : Bool) → a ≡ true → b ≡ true → rest ≡ (a && b) && rest
both_hold a b rest first second = cc

-- It has so many events as the other, and is not disputed.
abbrev pub fits : List MemberInfo → Superblock → MemberInfo → Bool
fits members v m = m.superblock.events == v.events && not (is_disputed (superblocks members) m.superblock)

-- Of those that have so many events it is the first that is not disputed.
module _ (members : List MemberInfo) (first : ℕ) (v : Superblock) (f : IsFirstFreshest (superblocks members) first v) where
  fits_by : (j : ℕ) (w : Superblock) → slice_get (superblocks members) j ≡ Some w → w.events ≡ v.events → is_disputed (superblocks members) w ≡ false
      → ((m : MemberInfo) → slice_get members j ≡ Some m → fits members v m ≡ false) → ⊥
  fits_by j w e same none missed_it =
      let x = member_of members j w e in
      let as_new : x.0.superblock.events ≡ v.events = ap (λ (y : Superblock). y.events) x.2 ∙ same in
      let quiet : is_disputed (superblocks members) x.0.superblock ≡ false = ap (is_disputed (superblocks members)) x.2 ∙ none in
      let fitting = both (x.0.superblock.events == v.events) (is_disputed (superblocks members) x.0.superblock) (eqb_by as_new) quiet in
      let unfit = missed_it x.0 x.1 in
      absurd cc

  pub first_undisputed : (k : ℕ) (m : MemberInfo) → slice_get members k ≡ Some m → fits members v m ≡ true
      → ((j : ℕ) (other : MemberInfo) → j < k → slice_get members j ≡ Some other → fits members v other ≡ false)
      → DecidesRoles (superblocks members) k m.superblock
  first_undisputed k m there fitting before =
      let of_both = both_of (m.superblock.events == v.events) (is_disputed (superblocks members) m.superblock) fitting in
      let same : m.superblock.events ≡ v.events = eqb-true m.superblock.events v.events of_both.0 in
      record {
        listed = block_of members k m there;
        greatest = λ j w e. let below = f.greatest j w e in omega arith;
        undisputed = λ j w e as_new none. of_both.1;
        first = λ j w e as_new alike. elim (cases_lt j k) [
          | inl less ↦ absurd (fits_by j w e (as_new ∙ same) (alike ∙ of_both.1) (λ other at. before j other less at))
          | inr more ↦ more
        ];
      }

  pub all_disputed : ((j : ℕ) (other : MemberInfo) → slice_get members j ≡ Some other → fits members v other ≡ false) → DecidesRoles (superblocks members) first v
  all_disputed none =
      record {
        listed = f.listed;
        greatest = f.greatest;
        undisputed = λ j w e as_new quiet. absurd (fits_by j w e as_new quiet (none j));
        first = λ j w e as_new alike. f.first j w e as_new;
      }
