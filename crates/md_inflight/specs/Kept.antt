-- What a list keeps true of its nodes, their numbers and its book.
use Rattle.std.specs.Prelude.{◌≡◌, ℕ, ◌≤◌, ◌^◌, ⊤, cond, List, [], ◌∷◌, map, length, Option, Some, None, slice_get}
use denote.RawPtr.{Ptr}
use Rattle.md_inflight.specs.Placed.{same_ptr}
use Rattle.md_inflight.specs.Inflight.{NumbersRiseFrom}
use Rattle.md_inflight.specs.Linked.{IsChain, entries}
use Rattle.md_inflight.specs.declared.place.Place.{Place}
use Rattle.md_inflight.specs.declared.node.Node.{Node}

module _ {T : Type 0} where
  -- the numbers and items of some nodes
  abbrev pub items : List (Ptr × Node T) → List (ℕ × T)
  items vs = map (λ e. e.1) (entries vs)

  -- each entry lies where the book has its number
  abbrev pub LieAsBooked : List Ptr → List (Ptr × (ℕ × T)) → Type 0
  LieAsBooked book [] = ⊤
  LieAsBooked book (e ∷ es) = (slice_get book e.1.0 ≡ Some e.0) × LieAsBooked book es

  pub record IsKeptList (head tail : Option Place) (vs : List (Ptr × Node T)) (count next : ℕ) (book : List Ptr) : Type 0 where
    pub chain : IsChain head tail vs
    pub rising : NumbersRiseFrom 0 (items vs) next
    pub limit : next ≤ 2 ^ 64
    pub counted : count ≡ length vs
    pub booked : length book ≡ next
    pub lies : LieAsBooked book (entries vs)

  -- the numbers and items from one place on
  abbrev pub items_from : Option Place → List (Ptr × Node T) → List (ℕ × T)
  items_from None vs = []
  items_from (Some p) [] = []
  items_from (Some p) (v ∷ vs) = cond (same_ptr p.ptr v.0) (items (v ∷ vs)) (items_from (Some p) vs)
