use Rattle.std.proofs.Common.{◌<◌, ◌∙◌, ap, arith, length, sym}
use Rattle.md_assembly.specs.States.{is_in_sync}
use Rattle.md_notices.proofs.Members.{has_state, there}
use Rattle.md_notices.proofs.parting.first_in_sync.Goals as goal

pub returns-then-is_in_sync : goal.returns-then-is_in_sync
returns-then-is_in_sync g c =
    let members = c.args.mirror.now.array.members in
    let inside : c.loop-k.k < length members = omega arith in
    let has = there members c.loop-k.k inside in
    record {
      member = has.0;
      listed = has.1;
      in_sync = ap is_in_sync (has_state members c.loop-k.k has.0 c.state.result has.1 c.state.ensures) ∙ sym c.is_in_sync.ensures ∙ c.if-is_in_sync.true;
      first = c.loop-k.invariant.none;
    }
