use Rattle.std.proofs.Common.{rules, ◌≡◌, ◌+◌, ◌*◌, ◌<◌, ◌≤◌, length}
use Rattle.std.specs.Prelude.{Err}
use Rattle.md_commands.specs.ReadingInput.{AppendingFails}
use Rattle.md_commands.proofs.InputRead.{fails_after_pieces}
use Rattle.md_commands.proofs.input.read_pieces.Goals as goal

pub returns-in_err-append_piece : goal.returns-in_err-append_piece
returns-in_err-append_piece g c =
    let fault = c.in_err-append_piece.field-0.0 in
    let room = c.room_after-room.result in
    let is : c.from_residual.result ≡ Err fault = search rules in
    let fails : AppendingFails g.I.Source room c.loop-input.input c.append_piece.new.input fault = search rules in
    let some : 0 < room = search rules in
    let few : length c.loop-input.bytes.items + room ≤ 512 * c.args.size + 1 = search rules in
    rw is (fails_after_pieces g.I.Source c.args.size room c.args.input.now c.loop-input.input c.append_piece.new.input c.loop-input.bytes.items c.loop-input.invariant.gives some few fault fails)
