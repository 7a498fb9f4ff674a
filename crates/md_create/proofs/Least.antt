-- The least device among those that were looked at.
use Rattle.std.proofs.Common.{◌≡◌, ℕ, ◌+◌, ◌<◌, ◌≤◌, List, Option, Some, None, length, arith, inl, inr}
use Rattle.std.specs.Prelude.{slice_get, min, IfSome, IfNone}
use Rattle.std.proofs.lemmas.Bool.{cases_lt}
use Rattle.std.proofs.lemmas.Option.{slice_get_within}
use Rattle.md_create.specs.Geometry.{HasDevice, IsLeastDevice, lesser_of}

-- the least of the devices for the roles below k
pub record IsLeastBelow (sizes : List (Option ℕ)) (k sectors : ℕ) : Type 0 where
  pub role : ℕ
  pub reached : HasDevice sizes role sectors
  pub least : (other n : ℕ) → other < k → HasDevice sizes other n → sectors ≤ n

abbrev pub LeastBelow : List (Option ℕ) → ℕ → Option ℕ → Type 0
LeastBelow sizes k None = (other n : ℕ) → other < k → HasDevice sizes other n → ⊥
LeastBelow sizes k (Some sectors) = IsLeastBelow sizes k sectors

module _ (sizes : List (Option ℕ)) (k : ℕ) (size : Option ℕ) (here : slice_get sizes k ≡ Some size) where
  there : (other n : ℕ) → k ≤ other → other < k + 1 → HasDevice sizes other n → size ≡ Some n
  there other n from below device =
      let same : other ≡ k = omega arith in
      let found : slice_get sizes k ≡ Some (Some n) = rw same at device in
      cc

  -- what is below each device for a role below k, and below the one at k
  both : (least : ℕ) → ((other n : ℕ) → other < k → HasDevice sizes other n → least ≤ n) → ((n : ℕ) → size ≡ Some n → least ≤ n) → (other n : ℕ) → other < k + 1 → HasDevice sizes other n → least ≤ n
  both least before now other n below device = elim (cases_lt other k) [ inl lower ↦ before other n lower device | inr from ↦ now n (there other n from below device) ]

  neither : ((other n : ℕ) → other < k → HasDevice sizes other n → ⊥) → ((n : ℕ) → size ≡ Some n → ⊥) → (other n : ℕ) → other < k + 1 → HasDevice sizes other n → ⊥
  neither before now other n below device = elim (cases_lt other k) [ inl lower ↦ before other n lower device | inr from ↦ now n (there other n from below device) ]

pub least_more : (sizes : List (Option ℕ)) (k : ℕ) (so_far size : Option ℕ) → slice_get sizes k ≡ Some size → LeastBelow sizes k so_far → LeastBelow sizes (k + 1) (lesser_of so_far size)
least_more sizes k None None here below = neither sizes k None here below (λ n e. cc)
least_more sizes k None (Some b) here below = record {
  role = k;
  reached = here;
  least = both sizes k (Some b) here b (λ other n h device. absurd (below other n h device)) (λ n e. let f : b ≡ n = cc in omega arith);
}
least_more sizes k (Some a) None here below = record {
  role = below.role;
  reached = below.reached;
  least = both sizes k None here a below.least (λ n e. cc);
}
least_more sizes k (Some a) (Some b) here below =
    let least : (other n : ℕ) → other < k + 1 → HasDevice sizes other n → min a b ≤ n =
    both sizes k (Some b) here (min a b) (λ other n h device. omega (arith, below.least other n h device)) (λ n e. let f : b ≡ n = cc in omega arith) in
    elim (cases_lt a b) [
      | inl lower ↦ let is : min a b ≡ a = omega arith in record { role = below.role; reached = rw is below.reached; least = least }
      | inr from ↦ let is : min a b ≡ b = omega arith in record { role = k; reached = rw is here; least = least }
    ]

-- all were looked at
pub some_whole : (sizes : List (Option ℕ)) (so_far : Option ℕ) (k : ℕ) → length sizes ≤ k → LeastBelow sizes k so_far → IfSome so_far (IsLeastDevice sizes)
some_whole sizes None k all below = tt
some_whole sizes (Some sectors) k all below = record {
  role = below.role;
  reached = below.reached;
  least = λ other n device. below.least other n (omega (arith, slice_get_within sizes other (Some n) device)) device;
}

pub nothing_whole : (sizes : List (Option ℕ)) (so_far : Option ℕ) (k : ℕ) → length sizes ≤ k → LeastBelow sizes k so_far → IfNone so_far ((other n : ℕ) → HasDevice sizes other n → ⊥)
nothing_whole sizes None k all below = λ other n device. below other n (omega (arith, slice_get_within sizes other (Some n) device)) device
nothing_whole sizes (Some sectors) k all below = tt
