-- How the nodes of a chain are linked.
use Rattle.std.specs.Prelude.{◌≡◌, ℕ, ⊤, List, [], ◌∷◌, map, Option, Some, None}
use denote.RawPtr.{Ptr}
use Rattle.md_inflight.specs.declared.place.Place.{Place}
use Rattle.md_inflight.specs.declared.node.Node.{Node}

abbrev pub to_place : Ptr → Place
to_place p = record { ptr = p }

module _ {X : Type 0} where
  -- where the first of some nodes lies, or else what comes after them
  abbrev pub front : List (Ptr × X) → Option Place → Option Place
  front [] after = after
  front (v ∷ vs) after = Some (to_place v.0)

  -- where the last of them lies, or else what comes before them
  abbrev pub back : Option Place → List (Ptr × X) → Option Place
  back before [] = before
  back before (v ∷ vs) = back (Some (to_place v.0)) vs

module _ {T : Type 0} where
  -- a node as its address, its number and its item
  abbrev pub entries : List (Ptr × Node T) → List (Ptr × (ℕ × T))
  entries = map (λ v. (v.0, (v.1.number, v.1.item)))

  -- each node names its neighbours; `before` and `after` are those of the whole row
  abbrev pub AreLinked : Option Place → List (Ptr × Node T) → Option Place → Type 0
  AreLinked before [] after = ⊤
  AreLinked before (v ∷ vs) after = (v.1.prev ≡ before) × (v.1.next ≡ front vs after) × AreLinked (Some (to_place v.0)) vs after

  -- all nodes of a chain, and its two ends
  pub record IsChain (head tail : Option Place) (vs : List (Ptr × Node T)) : Type 0 where
    pub first : head ≡ front vs None
    pub last : tail ≡ back None vs
    pub linked : AreLinked None vs None
