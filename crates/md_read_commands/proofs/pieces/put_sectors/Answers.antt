use Rattle.std.proofs.Common.{◌≡◌, ◌/◌, ℕ, MatchResult, length, ap, subst, arith}
use Rattle.md_read_commands.specs.Pieces.{PutsSectors, RefusesSectors}
use Rattle.md_read_commands.proofs.pieces.put_sectors.Goals as goal

pub returns-then-count-le-PIECE_SECTORS-clause-gives : goal.returns-then-count-le-PIECE_SECTORS-clause-gives
returns-then-count-le-PIECE_SECTORS-clause-gives g c =
    let old = c.args.mirror.now in
    let new = c.put_whole.new.mirror in
    let before = c.args.out.now in
    let after = c.put_whole.new.out in
    let long = ap length c.deref_mut.ensures.value in
    let made = c.in_ok-piece.ensures in
    let least = c.min.ensures in
    let few = c.if-count-le-PIECE_SECTORS.true in
    let many : length c.deref_mut.result.now / 512 ≡ c.args.count = omega arith in
    subst (λ (n : ℕ). MatchResult c.put_whole.result (λ _. PutsSectors g.S.Sink c.args.way c.args.sector n old new before after) (RefusesSectors g.S.Sink c.args.way c.args.sector n old new before after)) many
    c.put_whole.ensures.gives
