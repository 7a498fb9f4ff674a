-- Values that each lie at an address of their own.
use Rattle.std.specs.Prelude.{◌≡◌, Bool, true, false, ◌&&◌, ◌==◌, cond, List, [], ◌∷◌, ◌++◌}
use Rattle.std.specs.List.{AllByRecursion, IsDistinct, IsDistinct-prop}
use denote.RawPtr.{Ptr, block_ptr, null_ptr}

-- whether two pointers are the same
abbrev pub same_ptr : Ptr → Ptr → Bool
same_ptr null_ptr null_ptr = true
same_ptr null_ptr (block_ptr b o) = false
same_ptr (block_ptr b o) null_ptr = false
same_ptr (block_ptr b o) (block_ptr c p) = (b == c) && (o == p)

module _ {X : Type 0} where
  -- each of them lies at another address than p
  abbrev pub LieElsewhere : Ptr → List (Ptr × X) → Type 0
  LieElsewhere p = AllByRecursion (λ v. same_ptr p v.0 ≡ false)

  -- no two lie at one address
  abbrev pub LieApart : List (Ptr × X) → Type 0
  LieApart = IsDistinct (λ v w. same_ptr v.0 w.0)

  pub LieApart-prop : (vs : List (Ptr × X)) → IsProp (LieApart vs)
  LieApart-prop = IsDistinct-prop (λ v w. same_ptr v.0 w.0)

  -- the value that lies at p, with those before it and those after it
  pub record IsAt (vs : List (Ptr × X)) (p : Ptr) : Type 0 where
    pub before : List (Ptr × X)
    pub value : X
    pub after : List (Ptr × X)
    pub cut : vs ≡ before ++ (p, value) ∷ after

  -- P holds of the value that lies at p
  abbrev pub AtPlace : List (Ptr × X) → Ptr → (List (Ptr × X) → X → List (Ptr × X) → Type 0) → Type 0
  AtPlace vs p P = (xs : List (Ptr × X)) (x : X) (ys : List (Ptr × X)) → vs ≡ xs ++ (p, x) ∷ ys → P xs x ys

  -- the values, with f of the one that lies at p
  abbrev pub change_at : Ptr → (X → X) → List (Ptr × X) → List (Ptr × X)
  change_at p f [] = []
  change_at p f (v ∷ vs) = (v.0, cond (same_ptr p v.0) (f v.1) v.1) ∷ change_at p f vs

  elsewhere_change : (q p : Ptr) (f : X → X) (vs : List (Ptr × X)) → LieElsewhere q vs → LieElsewhere q (change_at p f vs)
  elsewhere_change q p f [] e = tt
  elsewhere_change q p f (v ∷ vs) e = (e.0, elsewhere_change q p f vs e.1)

  -- a change moves nothing
  pub apart_change : (p : Ptr) (f : X → X) (vs : List (Ptr × X)) → LieApart vs → LieApart (change_at p f vs)
  unfolding IsDistinct
  apart_change p f [] d = tt
  apart_change p f (v ∷ vs) d = (elsewhere_change v.0 p f vs d.0, apart_change p f vs d.1)
