use Rattle.std.proofs.Common.{rules, Err, ◌≡◌, ◌/◌, length, refl, subst, arith}
use Rattle.md_refusals.specs.declared.fault.CommandFault.TheVariants.{NoPieceMemory, OutputFault}
use Rattle.md_streams.specs.declared.gaps.Gaps.{Gaps}
use Rattle.md_read_commands.specs.Filling.{FillsMore}
use Rattle.md_read_commands.specs.Holes.{gaps_of}
use Rattle.md_read_commands.proofs.Filled.{fills_noted}
use Rattle.md_read_commands.proofs.Noted.{no_gaps_is, none_clear, none_fit}
use Rattle.md_read_commands.proofs.Rooms.{all_room}
use Rattle.md_read_commands.proofs.filling.put_filled_piece.Goals as goal

pub fill_piece-requires-clause-room : goal.fill_piece-requires-clause-room
fill_piece-requires-clause-room g c =
    all_room c.args.holes.now c.clear.new.self (length c.args.piece.now / 512) c.clear.ensures.empty c.requires.holes

pub fill_piece-requires-clause-clear : goal.fill_piece-requires-clause-clear
fill_piece-requires-clause-clear g c = none_clear (gaps_of c.clear.new.self) (c.clear.ensures.missing, c.clear.ensures.others) c.args.asked.sector

pub fill_piece-requires-clause-fit : goal.fill_piece-requires-clause-fit
fill_piece-requires-clause-fit g c = (none_fit c.clear.new.self.missing.items c.clear.ensures.missing, none_fit c.clear.new.self.others.items c.clear.ensures.others)

pub returns-in_err-add_holes-clause-gives : goal.returns-in_err-add_holes-clause-gives
returns-in_err-add_holes-clause-gives g c =
    let passed : c.from_residual.result ≡ Err NoPieceMemory = search rules in
    let same = c.fill_piece.auto.piece in
    let more = subst (λ (m : Gaps). FillsMore c.args.asked.way c.args.asked.sector c.fill_piece.new.piece m (gaps_of c.fill_piece.new.holes) c.args.mirror.now c.fill_piece.new.mirror) (no_gaps_is (gaps_of c.clear.new.self) (c.clear.ensures.missing, c.clear.ensures.others)) c.fill_piece.ensures.gives in
    rw passed (
      record {
        bytes = c.fill_piece.new.piece;
        few = let whole = c.requires.whole in omega arith;
        gaps = gaps_of c.fill_piece.new.holes;
        more = more;
        part = c.in_err-add_holes.ensures.0;
        s = c.in_err-add_holes.ensures.1.0;
        lacks = c.in_err-add_holes.ensures.1.1;
      },
      refl,
    )

pub returns-in_err-put_told-clause-gives : goal.returns-in_err-put_told-clause-gives
returns-in_err-put_told-clause-gives g c =
    let passed : c.from_residual-in_err-put_told.result ≡ Err OutputFault = search rules in
    let same = c.fill_piece.auto.piece in
    let more = subst (λ (m : Gaps). FillsMore c.args.asked.way c.args.asked.sector c.fill_piece.new.piece m (gaps_of c.fill_piece.new.holes) c.args.mirror.now c.fill_piece.new.mirror) (no_gaps_is (gaps_of c.clear.new.self) (c.clear.ensures.missing, c.clear.ensures.others)) c.fill_piece.ensures.gives in
    rw passed (
      record {
        bytes = c.fill_piece.new.piece;
        few = let whole = c.requires.whole in omega arith;
        more = fills_noted c.args.asked.way c.args.asked.sector c.fill_piece.new.piece c.args.gaps.now (gaps_of c.fill_piece.new.holes) c.add_holes.new.noted c.args.mirror.now c.fill_piece.new.mirror
            more c.requires.clear c.in_ok-add_holes.ensures;
      },
      c.in_err-put_told.ensures,
    )

pub returns-clause-gives : goal.returns-clause-gives
returns-clause-gives g c =
    let more = subst (λ (m : Gaps). FillsMore c.args.asked.way c.args.asked.sector c.fill_piece.new.piece m (gaps_of c.fill_piece.new.holes) c.args.mirror.now c.fill_piece.new.mirror) (no_gaps_is (gaps_of c.clear.new.self) (c.clear.ensures.missing, c.clear.ensures.others)) c.fill_piece.ensures.gives in
    record {
      more = fills_noted c.args.asked.way c.args.asked.sector c.fill_piece.new.piece c.args.gaps.now (gaps_of c.fill_piece.new.holes) c.add_holes.new.noted c.args.mirror.now c.fill_piece.new.mirror
          more c.requires.clear c.in_ok-add_holes.ensures;
      puts = c.in_ok-put_told.ensures;
    }
