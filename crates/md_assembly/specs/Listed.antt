-- Facts of members by their indices in the list.
use Rattle.std.specs.Prelude.{◌≡◌, ℕ, ◌≤◌, List, slice_get, Some}
use Rattle.md_members.specs.declared.info.MemberInfo.{MemberInfo}

-- there is a member at the index, and the fact holds of it
pub record MemberAt (Fact : MemberInfo → Type 0) (members : List MemberInfo) (i : ℕ) : Type 0 where
  pub member : MemberInfo
  pub listed : slice_get members i ≡ Some member
  pub holds : Fact member

-- there are members at two indices that stand in the relation
abbrev pub PairAt : (MemberInfo → MemberInfo → Type 0) → List MemberInfo → ℕ → ℕ → Type 0
PairAt Related members i j = MemberAt (λ a. MemberAt (Related a) members j) members i

-- the least number of which the fact holds
pub record IsLeast (Fact : ℕ → Type 0) (n : ℕ) : Type 0 where
  pub holds : Fact n
  pub least : (k : ℕ) → Fact k → n ≤ k
