use Rattle.std.proofs.Common.{◌≡◌, ◌∙◌, ◌≤◌, ◌<◌, ◌^◌, ap, arith}
use Rattle.std.specs.Prelude.{bit_or}
use Rattle.std.proofs.lemmas.Nat.{le_or_r, or_of_32}
use Rattle.md_format.specs.Fields.{number_at}
use Rattle.md_metadata.proofs.StaleFlag.{state_of_flagged, stale_with}
use Rattle.md_metadata.proofs.coming_back.stale_flag.with_stale_flag.Goals as goal

pub returns-clause-bytes : goal.returns-clause-bytes
returns-clause-bytes c = stale_with c.args.sector.now c.u32_at.result c.u32_at.ensures c.put_u32.new.out c.put_u32.ensures.whole

pub returns-clause-flagged : goal.returns-clause-flagged
returns-clause-flagged c =
    let state = bit_or c.u32_at.result 2 in
    let low : state < 2 ^ 32 = or_of_32 c.u32_at.result 2 c.u32_at.type_inv (omega arith) in
    let some : 2 ≤ state = le_or_r c.u32_at.result 2 in
    let there : number_at 4 48 c.put_u32.new.out ≡ state = ap (number_at 4 48) c.put_u32.ensures.whole ∙ state_of_flagged c.args.sector.now state c.told-sector low in
    omega (arith, some, there)
