-- A `&` to a chain reaches each of its nodes. Assumes `Logic`.
use mathlib.Core.List.{[], ◌++◌}
use base.Fml.{Incl-trans}
use contract.BorrowLft.{meet_⊑_left}
use denote.RattleType.{RattleType}
use denote.RawPtr.{RawPtr}
use denote.Param.Laws.{Laws}
use denote.Param.Shared.{copy_shared}
use denote.Struct.Laws.{field_copy}
use denote.Struct.Lending.{of_Lends}
use Rattle.std.specs.contracts.marker.PhantomData as marker
use Rattle.core.specs.contracts.option.Option as Opt
use Rattle.core.proofs.option.Option.TheLaws as option_laws
use Rattle.md_inflight.specs.contracts.place.Place as P
use Rattle.md_inflight.proofs.place.Place.TheLaws as place_laws
use Rattle.md_inflight.proofs.node.Node.TheLaws as node_laws
use Rattle.md_inflight.specs.contracts.chain.Chain as C
use Rattle.md_inflight.proofs.chain.Chain.TheLaw.Statement.{statement}
use Rattle.md_inflight.proofs.Nodes.{held_lent_laws, Lends-held}

pub shares : (T : RattleType) (L : Laws T) → statement T L
shares T L =
    let end = copy_shared (Opt.the_field P.the_row) (option_laws.the_field_copy P.the_row place_laws.the_row_laws place_laws.the_row_copy) in
    of_Lends (C.struct T) (C.the_codes T.Denot T.coded (Opt.the_row P.the_row).coded P.the_row.coded (marker.the_row RawPtr).coded) (C.the_heap T) (C.the_lent T)
    (λ d p. held_lent_laws T L d.nodes) (end, (end, (copy_shared (marker.the_field RawPtr) (field_copy (marker.the_type RawPtr) tt), tt)))
    (λ M 𝓤 𝓛 d p.
    let κ = (C.the_row T).lives in Lends-held 𝓛 κ T L (node_laws.the_within T κ (Incl-trans (meet_⊑_left (T.lives ++ []) _) (meet_⊑_left T.lives []))) d.nodes)
