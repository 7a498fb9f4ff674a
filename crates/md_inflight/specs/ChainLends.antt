-- What becomes of a chain once a `&mut` to one of its nodes has ended.
use Rattle.std.specs.Borrow.{Fml, RattleType, MutBor, Lends}
use denote.RawPtr.{Ptr}
use Rattle.md_inflight.specs.Placed.{change_at, apart_change}
use Rattle.md_inflight.specs.declared.node.Node.{Node}
use Rattle.md_inflight.specs.declared.chain.Chain.{Chain}
use Rattle.md_inflight.specs.contracts.node.Node.{the_row as node_row}
use Rattle.md_inflight.specs.contracts.chain.Chain.{the_row}

-- The chain with another node at p.
abbrev pub with_node : {T : Type 0} → Chain T → Ptr → Node T → Chain T
with_node c p node = record c { nodes = change_at p (λ _. node) c.nodes; apart = apart_change p (λ _. node) c.nodes c.apart }

abbrev pub lends_node : (T : RattleType) → MutBor (Chain T.Denot) → Ptr → MutBor (Node T.Denot) → Fml
lends_node T c p r = Lends (the_row T) (node_row T) c r (with_node c.now p)
