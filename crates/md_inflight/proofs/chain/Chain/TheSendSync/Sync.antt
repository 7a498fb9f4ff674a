use denote.RattleType.{RattleType}
use denote.Param.Send.{IsSync}
use Rattle.md_inflight.proofs.Nodes.{chain_sync}
use Rattle.md_inflight.specs.contracts.chain.Chain.{the_row}

pub sync : (T : RattleType) → IsSync T → IsSync (the_row T)
sync T y = chain_sync T y
