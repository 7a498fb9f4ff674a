-- The freshest superblock of a list, found one by one.
use Rattle.std.proofs.Common.{◌≡◌, ◌∙◌, ℕ, ◌+◌, ◌<◌, ◌≤◌, List, length, Some, ap, refl, subst, arith, inl, inr}
use Rattle.std.specs.List.{slice_get}
use Rattle.std.specs.Option.{option_map}
use Rattle.std.proofs.lemmas.Option.{slice_get-map, slice_get_within}
use Rattle.md_super.specs.declared.superblock.Superblock.{Superblock}
use Rattle.md_assembly.specs.Assembled.{IsFirstFreshest}
use Rattle.md_kept_members.specs.Spares.{IsOfFreshest, superblocks_kept}
use Rattle.md_kept_members.specs.View.{MemberView}
use Rattle.md_assembly.proofs.Indices.{got_same}
use Rattle.md_kept_members.proofs.Members.Indices.{cases_more}

-- the freshest of the first n, which is among them or the first of all
pub record IsFreshestBelow (all : List Superblock) (n best : ℕ) : Type 0 where
  pub superblock : Superblock
  pub listed : slice_get all best ≡ Some superblock
  pub early : best ≤ n
  pub greatest : (j : ℕ) (w : Superblock) → j < n → slice_get all j ≡ Some w → w.events ≤ superblock.events
  pub first : (j : ℕ) (w : Superblock) → j < n → slice_get all j ≡ Some w → w.events ≡ superblock.events → best ≤ j

pub none_seen : (all : List Superblock) (v : Superblock) → slice_get all 0 ≡ Some v → IsFreshestBelow all 0 0
none_seen all v there = record {
  superblock = v;
  listed = there;
  early = omega arith;
  greatest = λ j w lt e. absurd (omega arith);
  first = λ j w lt e same. omega arith;
}

same_events : (all : List Superblock) (j n : ℕ) (w v : Superblock) → j ≡ n → slice_get all j ≡ Some w → slice_get all n ≡ Some v → w.events ≡ v.events
same_events all j n w v at here there =
    ap (λ (x : Superblock). x.events) (got_same all n w v (subst (λ (k : ℕ). slice_get all k ≡ Some w) at here) there)

module _ (all : List Superblock) (n best : ℕ) (old new : Superblock) (f : IsFreshestBelow all n best) (at_best : slice_get all best ≡ Some old) (at_n : slice_get all n ≡ Some new) where
  was : f.superblock.events ≡ old.events
  was = same_events all best best f.superblock old (omega arith) f.listed at_best

  -- one more, which has more events than the best so far
  pub better : old.events < new.events → IsFreshestBelow all (n + 1) n
  better more = record {
    superblock = new;
    listed = at_n;
    early = omega arith;
    greatest = λ j w lt e. elim (cases_more j n lt) [
      | inl less ↦ let below = f.greatest j w less e in let same = was in omega arith
      | inr here ↦ let same = same_events all j n w new here e at_n in omega arith
    ];
    first = λ j w lt e equal. elim (cases_more j n lt) [
      | inl less ↦ let below = f.greatest j w less e in let same = was in absurd (omega arith)
      | inr here ↦ omega arith
    ];
  }

  -- one more, which has not
  pub no_better : new.events ≤ old.events → IsFreshestBelow all (n + 1) best
  no_better no_more = record {
    superblock = f.superblock;
    listed = f.listed;
    early = let early = f.early in omega arith;
    greatest = λ j w lt e. elim (cases_more j n lt) [
      | inl less ↦ f.greatest j w less e
      | inr here ↦ let same = same_events all j n w new here e at_n in let known = was in omega arith
    ];
    first = λ j w lt e equal. elim (cases_more j n lt) [
      | inl less ↦ f.first j w less e equal
      | inr here ↦ let early = f.early in omega arith
    ];
  }

-- the freshest of all
pub freshest_of_all : (all : List Superblock) (n best : ℕ) → length all ≤ n → IsFreshestBelow all n best → (v : Superblock) × IsFirstFreshest all best v
freshest_of_all all n best whole f = (
  f.superblock,
  record {
    listed = f.listed;
    greatest = λ j w e. let within = slice_get_within all j w e in f.greatest j w (omega arith) e;
    first = λ j w e equal. let within = slice_get_within all j w e in f.first j w (omega arith) e equal;
  },
)

-- the superblock of a member that is listed
pub block_of : (members : List MemberView) (i : ℕ) (m : MemberView) → slice_get members i ≡ Some m → slice_get (superblocks_kept members) i ≡ Some m.superblock
block_of members i m there = slice_get-map (λ (x : MemberView). x.superblock) members i ∙ ap (option_map (λ (x : MemberView). x.superblock)) there

pub header_of_freshest : (members : List MemberView) (i : ℕ) (m : MemberView) (v : Superblock) → slice_get members i ≡ Some m → IsFirstFreshest (superblocks_kept members) i v → IsOfFreshest members m.header
header_of_freshest members i m v there f = record {
  index = i;
  member = m;
  at = there;
  freshest = subst (IsFirstFreshest (superblocks_kept members) i) (got_same (superblocks_kept members) i v m.superblock f.listed (block_of members i m there)) f;
  header = refl;
}
