use Rattle.std.proofs.Common.{false}
use Rattle.md_state.proofs.Members.At.{told}
use Rattle.md_metadata.proofs.Lowered.{lowered_nothing, lowered_there}
use Rattle.md_metadata.proofs.offsets.lower_member.Goals as goal

pub returns-then-is_recovering : goal.returns-then-is_recovering
returns-then-is_recovering g c =
    let e = c.lower_offset.ensures in
    lowered_there c.args.k c.args.sector c.args.mirror.now c.lower_offset.new.self e.gives e.event e.sound e.pending

pub returns-else-is_recovering : goal.returns-else-is_recovering
returns-else-is_recovering g c =
    lowered_nothing c.args.k c.args.sector c.args.mirror.now c.requires.sound
    (λ n at.
    let state = told (λ m. m.state) c.args.mirror.now.array c.args.k n c.state.result c.state.ensures at in
    let answer = c.is_recovering.ensures in
    let out = c.if-is_recovering.false in
    cc)
