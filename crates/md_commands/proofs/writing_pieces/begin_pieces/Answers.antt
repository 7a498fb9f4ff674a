use Rattle.std.proofs.Common.{rules, Err, ◌≡◌, length, refl}
use Rattle.std.proofs.lemmas.Bool.{eq-eqb, eqb-true}
use Rattle.md_refusals.specs.declared.fault.CommandFault.TheVariants.{Write}
use Rattle.md_commands.proofs.PiecesWritten.{begun, not_readied, not_taken, not_written}
use Rattle.md_refusals.proofs.Wrapped.{own_err, own_ok}
use Rattle.md_commands.proofs.writing_pieces.begin_pieces.Goals as goal

pub returns-in_err-take_piece-clause-gives : goal.returns-in_err-take_piece-clause-gives
returns-in_err-take_piece-clause-gives g c =
    let fault = c.in_err-take_piece.field-0.0 in
    let passed : c.from_residual.result ≡ Err fault = search rules in
    rw passed
    (not_taken g.I.Source c.args.sector c.args.len c.requires.whole c.args.mirror.now c.args.input.now (length c.args.piece.now) c.requires.long _
    (eq-eqb (length c.args.piece.now) c.args.len) (eqb-true (length c.args.piece.now) c.args.len) c.take_piece.new.input fault c.in_err-take_piece.ensures)

pub returns-in_err-make_ready-clause-gives : goal.returns-in_err-make_ready-clause-gives
returns-in_err-make_ready-clause-gives g c =
    let fault = c.in_err-make_ready.field-0.0 in
    let passed : c.from_residual-in_err-make_ready.result ≡ Err fault = search rules in
    rw passed
    (not_readied g.I.Source c.args.sector c.args.len c.requires.whole c.args.mirror.now c.args.input.now (length c.args.piece.now) c.requires.long _
    (eq-eqb (length c.args.piece.now) c.args.len) (eqb-true (length c.args.piece.now) c.args.len) c.take_piece.new.input c.take_piece.new.piece c.take_piece.auto.piece c.in_ok-take_piece.ensures
    c.make_ready.new.mirror fault c.in_err-make_ready.ensures.gives)

pub returns-in_err-map_err-clause-gives : goal.returns-in_err-map_err-clause-gives
returns-in_err-map_err-clause-gives g c =
    let own = own_err _ _ _ c.write.result _ _ c.write.ensures.gives c.in_err-map_err.ensures.cases refl in
    let is : c.from_residual-in_err-map_err.result ≡ Err (Write own.0) = let post = own.2 in search rules in
    rw is
    (not_written g.I.Source c.args.sector c.args.len c.requires.whole c.args.mirror.now c.args.input.now (length c.args.piece.now) c.requires.long _
    (eq-eqb (length c.args.piece.now) c.args.len) (eqb-true (length c.args.piece.now) c.args.len) c.take_piece.new.input c.take_piece.new.piece c.take_piece.auto.piece c.in_ok-take_piece.ensures
    c.make_ready.new.mirror c.write.new.mirror c.in_ok-make_ready.ensures.gives own.0 own.1)

pub returns-clause-gives : goal.returns-clause-gives
returns-clause-gives g c =
    let writes = own_ok _ _ _ c.write.result _ _ c.write.ensures.gives c.in_ok-map_err.ensures.cases c.in_ok-map_err.ensures.variant refl in
    begun g.I.Source c.args.sector c.args.len c.requires.whole c.args.mirror.now c.args.input.now (length c.args.piece.now) c.requires.long _
    (eq-eqb (length c.args.piece.now) c.args.len) (eqb-true (length c.args.piece.now) c.args.len) c.take_piece.new.input c.take_piece.new.piece c.take_piece.auto.piece c.in_ok-take_piece.ensures
    c.make_ready.new.mirror c.write.new.mirror c.in_ok-make_ready.ensures.gives writes

pub returns-in_err-map_err-clause-pending : goal.returns-in_err-map_err-clause-pending
returns-in_err-map_err-clause-pending g c p before = c.write.ensures.pending p (c.make_ready.ensures.pending p before)
