use denote.RattleType.{RattleType}
use denote.Param.Send.{IsSend}
use Rattle.md_inflight.proofs.Nodes.{chain_send}
use Rattle.md_inflight.specs.contracts.chain.Chain.{the_row}

pub send : (T : RattleType) → IsSend T → IsSend (the_row T)
send T s = chain_send T s
