use Rattle.std.proofs.Common.{rules, Err, ◌≡◌, ◌∙◌, ℕ, ◌+◌, ◌*◌, ◌-◌, ◌/◌, ◌<◌, ◌≤◌, length, min, refl, sym, ap, subst, arith, eqb}
use Rattle.std.proofs.lemmas.Bool.{eq-eqb, eqb-true}
use Rattle.md_refusals.specs.declared.fault.CommandFault.TheVariants.{NoPieceMemory, Write}
use Rattle.md_commands.specs.WritingPieces.{FailsToTakePiece, most_at_once, sectors_at_once}
use Rattle.md_commands.proofs.PiecesWritten.{WrittenSoFar, at_once_few, at_once_most, buffer_stays, front_long, not_taken_later, not_written_later, written_first, written_more}
use Rattle.md_refusals.proofs.Wrapped.{own_err, own_ok}
use Rattle.md_commands.proofs.Written.{told_of_none}
use Rattle.md_commands.proofs.writing_pieces.write_in_pieces.Goals as goal

pub returns-in_err-room-clause-gives : goal.returns-in_err-room-clause-gives
returns-in_err-room-clause-gives g c =
    let is : c.from_residual.result ≡ Err NoPieceMemory = search rules in
    (0, told_of_none g.W.Watch.has_written c.args.watch.now, rw is (refl, refl, refl))

pub returns-in_err-begin_pieces-clause-gives : goal.returns-in_err-begin_pieces-clause-gives
returns-in_err-begin_pieces-clause-gives g c =
    let fault = c.in_err-begin_pieces.field-0.0 in
    let passed : c.from_residual-in_err-begin_pieces.result ≡ Err fault = search rules in
    (0, told_of_none g.W.Watch.has_written c.args.watch.now, rw passed c.in_err-begin_pieces.ensures.gives)

pub loop-written-init : goal.loop-written-init
loop-written-init g c =
    let count = c.args.len / 512 in
    let n = c.sectors_at_once-written.result in
    let buffer = c.as_mut_slice-buffer.result.now in
    let piece = c.begin_pieces.new.piece in
    let room : length buffer ≡ 512 * min count most_at_once = ap length c.as_mut_slice-buffer.ensures.value ∙ c.in_ok-room.ensures in
    let is : n ≡ sectors_at_once c.args.sector count = c.sectors_at_once-written.ensures in
    let few : n ≤ count = subst (λ (m : ℕ). m ≤ count) (sym is) (at_once_few c.args.sector count) in
    let most : n ≤ most_at_once = subst (λ (m : ℕ). m ≤ most_at_once) (sym is) (at_once_most c.args.sector count) in
    let long : length piece ≡ 512 * n = front_long count n buffer piece room few most c.begin_pieces.auto.piece in
    let so_far = written_first g.I.Source c.args.sector c.args.len c.requires.whole c.args.mirror.now c.begin_pieces.new.mirror c.args.input.now c.begin_pieces.new.input piece
    c.in_ok-begin_pieces.ensures.gives (long ∙ ap (λ (m : ℕ). 512 * m) is) in
    record {
      so_far = subst (λ (m : ℕ). WrittenSoFar g.I.Source c.args.sector c.args.len m c.args.mirror.now c.begin_pieces.new.mirror c.args.input.now c.begin_pieces.new.input) (sym is) so_far;
      few = few;
      room = buffer_stays count n buffer piece room few most long ∙ room;
      fits = c.in_ok-begin_pieces.ensures.fits;
      sound = c.begin_pieces.ensures.sound;
      pending = c.begin_pieces.ensures.pending;
      told = c.in_ok-begin_pieces.ensures.told;
      wrote = c.wrote.ensures;
    }

pub returns-in_err-take_piece-clause-gives : goal.returns-in_err-take_piece-clause-gives
returns-in_err-take_piece-clause-gives g c =
    let s = g.I.Source in
    let sector = c.args.sector in
    let len = c.args.len in
    let count = len / 512 in
    let done = c.loop-written.written in
    let n = c.sectors_at_once-sectors.result in
    let inv = c.loop-written.invariant in
    let is : n ≡ sectors_at_once (sector + done) (count - done) = c.sectors_at_once-sectors.ensures in
    let few : n ≤ count = let left = subst (λ (m : ℕ). m ≤ count - done) (sym is) (at_once_few (sector + done) (count - done)) in omega arith in
    let most : n ≤ most_at_once = subst (λ (m : ℕ). m ≤ most_at_once) (sym is) (at_once_most (sector + done) (count - done)) in
    let within : done < count = c.loop-written-test.true in
    let fault = c.in_err-take_piece.field-0.0 in
    let passed : c.from_residual-in_err-take_piece.result ≡ Err fault = search rules in
    let h = subst (λ (m : ℕ). FailsToTakePiece s (eqb (done + n) count) m c.loop-written.input c.take_piece.new.input fault)
    (front_long count n c.loop-written.buffer _ inv.room few most refl) c.in_err-take_piece.ensures in (
      done,
      (λ _. inv.wrote),
      rw passed
          (not_taken_later s sector len c.requires.whole c.args.mirror.now c.loop-written.mirror c.args.input.now c.loop-written.input done n inv.so_far is _
          (eq-eqb (done + n) count) (eqb-true (done + n) count) within c.take_piece.new.input fault h),
    )

pub returns-in_err-map_err-clause-gives : goal.returns-in_err-map_err-clause-gives
returns-in_err-map_err-clause-gives g c =
    let s = g.I.Source in
    let sector = c.args.sector in
    let len = c.args.len in
    let count = len / 512 in
    let done = c.loop-written.written in
    let n = c.sectors_at_once-sectors.result in
    let piece = c.take_piece.new.piece in
    let inv = c.loop-written.invariant in
    let is : n ≡ sectors_at_once (sector + done) (count - done) = c.sectors_at_once-sectors.ensures in
    let few : n ≤ count = let left = subst (λ (m : ℕ). m ≤ count - done) (sym is) (at_once_few (sector + done) (count - done)) in omega arith in
    let most : n ≤ most_at_once = subst (λ (m : ℕ). m ≤ most_at_once) (sym is) (at_once_most (sector + done) (count - done)) in
    let within : done < count = c.loop-written-test.true in
    let long : length piece ≡ 512 * n = front_long count n c.loop-written.buffer piece inv.room few most c.take_piece.auto.piece in
    let own = own_err _ _ _ c.write.result _ _ c.write.ensures.gives c.in_err-map_err.ensures.cases refl in
    let is_write : c.from_residual-in_err-map_err.result ≡ Err (Write own.0) = let post = own.2 in search rules in (
      done,
      (λ _. inv.wrote),
      rw is_write
          (not_written_later s sector len c.requires.whole c.args.mirror.now c.loop-written.mirror c.args.input.now c.loop-written.input done n inv.so_far is _
          (eq-eqb (done + n) count) (eqb-true (done + n) count) within c.write.new.mirror c.take_piece.new.input piece long c.in_ok-take_piece.ensures own.0 own.1),
    )

pub returns-in_err-map_err-clause-pending : goal.returns-in_err-map_err-clause-pending
returns-in_err-map_err-clause-pending g c p before = c.write.ensures.pending p (c.loop-written.invariant.pending p before)

pub loop-written-preserved : goal.loop-written-preserved
loop-written-preserved g c =
    let sector = c.args.sector in
    let len = c.args.len in
    let count = len / 512 in
    let done = c.loop-written.written in
    let n = c.sectors_at_once-sectors.result in
    let piece = c.take_piece.new.piece in
    let inv = c.loop-written.invariant in
    let is : n ≡ sectors_at_once (sector + done) (count - done) = c.sectors_at_once-sectors.ensures in
    let within : done < count = c.loop-written-test.true in
    let left : n ≤ count - done = subst (λ (m : ℕ). m ≤ count - done) (sym is) (at_once_few (sector + done) (count - done)) in
    let few : n ≤ count = omega arith in
    let most : n ≤ most_at_once = subst (λ (m : ℕ). m ≤ most_at_once) (sym is) (at_once_most (sector + done) (count - done)) in
    let long : length piece ≡ 512 * n = front_long count n c.loop-written.buffer piece inv.room few most c.take_piece.auto.piece in
    let written = own_ok _ _ _ c.write.result _ _ c.write.ensures.gives c.in_ok-map_err.ensures.cases c.in_ok-map_err.ensures.variant refl in
    record {
      so_far = written_more g.I.Source sector len c.requires.whole c.args.mirror.now c.loop-written.mirror c.args.input.now c.loop-written.input done n inv.so_far is _
          (eq-eqb (done + n) count) (eqb-true (done + n) count) within c.write.new.mirror c.take_piece.new.input piece long c.in_ok-take_piece.ensures written;
      few = omega arith;
      room = buffer_stays count n c.loop-written.buffer piece inv.room few most long ∙ inv.room;
      fits = inv.fits;
      sound = c.write.ensures.sound;
      pending = λ p before. c.write.ensures.pending p (inv.pending p before);
      told = inv.told;
      wrote = c.wrote-in-loop-written.ensures;
    }

pub returns-clause-told : goal.returns-clause-told
returns-clause-told g c =
    let inv = c.loop-written.invariant in
    let few = inv.few in
    let over = c.loop-written-test.false in
    let all : c.loop-written.written ≡ c.args.len / 512 = omega arith in
    record { all = inv.told; done = subst (λ (n : ℕ). g.W.Watch.has_written c.args.watch.now n) all inv.wrote }
