-- What a chain owns of its nodes, and what a `&` to it lends.
use Rattle.std.specs.Prelude.{List, [], ◌∷◌}
use base.Fml.{Lft, Fml, ftrue, fsep}
use denote.RattleType.{RattleType}
use denote.RawPtr.{Ptr}
use denote.Sharing.{nothing, beside}
use denote.Struct.Lending.{lent_at}
use Rattle.std.specs.contracts.impls.GlobalAllocator.TheImpl.{ghosts}
use Rattle.std_alloc.specs.Box.Ownership.{box_owns}
use Rattle.md_inflight.specs.declared.node.Node.{Node}
use Rattle.md_inflight.specs.contracts.node.Node.{the_row}

-- at items of the row R
module _ (R : RattleType) where
  -- a node on the heap, and the right to free its block
  abbrev pub node_held : Ptr → Node R.Denot → Fml
  node_held = box_owns (ghosts.dealloc_token (record { memory = record { seal = tt } })) (the_row R)

  abbrev pub held_owns : List (Ptr × Node R.Denot) → Fml
  held_owns [] = ftrue
  held_owns (v ∷ vs) = fsep (node_held v.0 v.1) (held_owns vs)

  abbrev pub held_lent : List (Ptr × Node R.Denot) → Lft → Fml
  held_lent [] = nothing
  held_lent (v ∷ vs) = beside (lent_at (the_row R) v.0 v.1) (held_lent vs)
