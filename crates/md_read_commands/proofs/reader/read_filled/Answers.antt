use Rattle.std.proofs.Common.{◌/◌, length, arith, subst}
use Rattle.md_streams.specs.declared.gaps.Gaps.{Gaps}
use Rattle.md_read_commands.specs.Filling.{FillsMore, IsFilled}
use Rattle.md_read_commands.specs.Holes.{gaps_of}
use Rattle.md_read_commands.proofs.Filled.{filled}
use Rattle.md_read_commands.proofs.Noted.{no_gaps_is, none_clear, none_fit}
use Rattle.md_read_commands.proofs.Rooms.{all_room}
use Rattle.md_read_commands.proofs.Served.{lacks_gap}
use Rattle.md_read_commands.proofs.reader.read_filled.Goals as goal

pub fill_piece-requires-clause-room : goal.fill_piece-requires-clause-room
fill_piece-requires-clause-room g c =
    all_room c.args.holes.now c.clear.new.self (length c.args.buf.now / 512) c.clear.ensures.empty c.requires.room

pub fill_piece-requires-clause-clear : goal.fill_piece-requires-clause-clear
fill_piece-requires-clause-clear g c = none_clear (gaps_of c.clear.new.self) (c.clear.ensures.missing, c.clear.ensures.others) c.args.sector

pub fill_piece-requires-clause-fit : goal.fill_piece-requires-clause-fit
fill_piece-requires-clause-fit g c = (none_fit c.clear.new.self.missing.items c.clear.ensures.missing, none_fit c.clear.new.self.others.items c.clear.ensures.others)

pub returns-in-Ok-clause-gives : goal.returns-in-Ok-clause-gives
returns-in-Ok-clause-gives g c =
    let bytes = c.fill_piece.new.piece in
    let gaps = gaps_of c.fill_piece.new.holes in
    let old = c.args.mirror.now in
    let new = c.fill_piece.new.mirror in
    record {
      gaps = gaps;
      filled = filled c.args.way c.args.sector bytes gaps old new
          (subst (λ (m : Gaps). FillsMore c.args.way c.args.sector bytes m gaps old new) (no_gaps_is (gaps_of c.clear.new.self) (c.clear.ensures.missing, c.clear.ensures.others)) c.fill_piece.ensures.gives);
      noted = c.in-Ok.ensures;
    }

pub returns-in-Err-clause-gives : goal.returns-in-Err-clause-gives
returns-in-Err-clause-gives g c =
    let same = c.fill_piece.auto.piece in
    let bytes = c.fill_piece.new.piece in
    let gaps = gaps_of c.fill_piece.new.holes in
    let old = c.args.mirror.now in
    let new = c.fill_piece.new.mirror in (
      record {
        bytes = bytes;
        many = omega arith;
        gaps = gaps;
        filled = filled c.args.way c.args.sector bytes gaps old new
            (subst (λ (m : Gaps). FillsMore c.args.way c.args.sector bytes m gaps old new) (no_gaps_is (gaps_of c.clear.new.self) (c.clear.ensures.missing, c.clear.ensures.others)) c.fill_piece.ensures.gives);
        s = c.in-Err.ensures.1.0;
        lacks = c.in-Err.ensures.1.1;
      },
      c.in-Err.ensures.0,
    )

pub returns-in-Err-clause-lacks : goal.returns-in-Err-clause-lacks
returns-in-Err-clause-lacks g c =
    let same = c.fill_piece.auto.piece in
    let bytes = c.fill_piece.new.piece in
    let gaps = gaps_of c.fill_piece.new.holes in
    let old = c.args.mirror.now in
    let new = c.fill_piece.new.mirror in
    let is : IsFilled c.args.way c.args.sector bytes gaps old new =
    filled c.args.way c.args.sector bytes gaps old new
    (subst (λ (m : Gaps). FillsMore c.args.way c.args.sector bytes m gaps old new) (no_gaps_is (gaps_of c.clear.new.self) (c.clear.ensures.missing, c.clear.ensures.others)) c.fill_piece.ensures.gives) in
    lacks_gap c.args.way c.args.sector bytes gaps old new is c.in-Err.ensures.1.0 c.in-Err.ensures.1.1 (length c.args.buf.now / 512) (omega arith)
