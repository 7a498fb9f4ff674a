use Rattle.std.proofs.Common.{ℕ, Bool, MatchResult, length, true, sym, subst}
use Rattle.md_commands.specs.WritingPieces.{FailsToTakePiece, TakesPiece}
use Rattle.md_commands.proofs.PiecesTaken.{taken_or_not}
use Rattle.md_commands.proofs.writing_pieces.take_piece.Goals as goal

pub returns-then-is_last : goal.returns-then-is_last
returns-then-is_last g c =
    let s = g.I.Source in
    let old = c.args.input.now in
    let new = c.check_end.new.input in
    let piece = c.fill_piece.new.piece in
    let all = taken_or_not s old c.fill_piece.new.input new piece c.in_ok-fill_piece.ensures c.check_end.result c.check_end.ensures in
    let as_long = subst (λ (n : ℕ). MatchResult c.check_end.result (λ _. TakesPiece s true old new piece) (FailsToTakePiece s true n old new)) c.fill_piece.auto.piece all in
    subst (λ (b : Bool). MatchResult c.check_end.result (λ _. TakesPiece s b old new piece) (FailsToTakePiece s b (length c.args.piece.now) old new)) (sym c.if-is_last.true) as_long
