use Rattle.std.proofs.Common.{◌≡◌, ◌/◌, ◌%◌, ◌≤◌, ℕ, MatchResult, length, sym, subst, arith}
use Rattle.md_read_commands.specs.Pieces.{PutsSectors, RefusesSectors, piece_sectors}
use Rattle.md_read_commands.proofs.PiecesPut.{one_unread, put_or_not}
use Rattle.md_read_commands.proofs.pieces.put_whole.Goals as goal

pub returns-in-Err-clause-gives : goal.returns-in-Err-clause-gives
returns-in-Err-clause-gives g c =
    let old = c.args.mirror.now in
    let new = c.read_by.new.mirror in
    let piece = c.read_by.new.piece in
    let before = c.args.out.now in
    let same : length piece ≡ length c.args.piece.now = c.read_by.auto.piece in
    let unread = c.in-Err.unread in
    let whole : length piece % 512 ≡ 0 = let all = c.requires.whole in omega arith in
    let few : length piece / 512 ≤ piece_sectors = subst (λ (n : ℕ). n / 512 ≤ piece_sectors) (sym same) c.requires.few in
    subst (λ (n : ℕ). RefusesSectors g.S.Sink c.args.way c.args.sector (n / 512) old new before before unread.fault) same
    (one_unread g.S.Sink c.args.way c.args.sector old new c.requires.sound before piece whole few unread.sector unread.fault c.in-Err.ensures.gives)

pub returns-in-Ok-clause-gives : goal.returns-in-Ok-clause-gives
returns-in-Ok-clause-gives g c =
    let old = c.args.mirror.now in
    let new = c.read_by.new.mirror in
    let piece = c.read_by.new.piece in
    let before = c.args.out.now in
    let after = c.put_out.new.out in
    let same : length piece ≡ length c.args.piece.now = c.read_by.auto.piece in
    let whole : length piece % 512 ≡ 0 = let all = c.requires.whole in omega arith in
    let few : length piece / 512 ≤ piece_sectors = subst (λ (n : ℕ). n / 512 ≤ piece_sectors) (sym same) c.requires.few in
    subst (λ (n : ℕ). MatchResult c.put_out.result (λ _. PutsSectors g.S.Sink c.args.way c.args.sector (n / 512) old new before after) (RefusesSectors g.S.Sink c.args.way c.args.sector (n / 512) old new before after)) same
    (put_or_not g.S.Sink c.args.way c.args.sector old new c.requires.sound before piece whole few c.in-Ok.ensures.gives after c.put_out.result c.put_out.ensures)
