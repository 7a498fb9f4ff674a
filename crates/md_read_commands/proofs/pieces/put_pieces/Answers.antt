use Rattle.std.proofs.Common.{rules, Err, ◌≡◌, ◌∙◌, ◌+◌, ◌*◌, ◌-◌, ◌/◌, ◌<◌, ◌≤◌, ℕ, List, length, drop, take, min, refl, subst, arith, length-append, length-drop}
use Rattle.std.proofs.lemmas.List.{length-take-le}
use Rattle.md_refusals.specs.declared.fault.CommandFault.TheVariants.{OutputFault}
use Rattle.md_read_commands.specs.Pieces.{piece_sectors}
use Rattle.md_read_commands.specs.Ways.{MayReadBy}
use Rattle.md_read_commands.proofs.PiecesPut.{PutsSoFar, not_flushed, puts_all, puts_first, puts_more, refuses_more}
use Rattle.md_read_commands.proofs.Ways.{may_read_part, reads_rests}
use Rattle.md_read_commands.proofs.pieces.put_pieces.Goals as goal

-- the sectors of a piece
piece_of : (buffer : List ℕ) (done count sectors : ℕ) → done < count → length buffer ≡ 512 * piece_sectors → sectors ≡ min piece_sectors (count - done)
    → (0 < sectors) × (sectors ≤ piece_sectors) × (done + sectors ≤ count) × (length (take (512 * sectors) buffer) ≡ 512 * sectors)
piece_of buffer done count sectors before room is = (omega arith, omega arith, omega arith, length-take-le (512 * sectors) buffer (omega arith))

pub loop-done-init : goal.loop-done-init
loop-done-init g c = record {
  so_far = puts_first g.S.Sink c.args.way c.args.sector c.args.mirror.now c.args.out.now;
  sound = c.requires.sound;
  array = refl;
  long = refl;
  few = omega arith;
}

pub overflow_add-sector : goal.overflow_add-sector
overflow_add-sector g c =
    let fits = c.requires.fits in
    let before = c.loop-done-test.true in
    omega arith

pub put_piece-requires-clause-whole : goal.put_piece-requires-clause-whole
put_piece-requires-clause-whole g c =
    let is = piece_of c.loop-done.buffer c.loop-done.done c.args.count c.min-sectors.result c.loop-done-test.true (c.loop-done.invariant.long ∙ c.requires.room) c.min-sectors.ensures in
    let long = is.3 in
    omega arith

pub put_piece-requires-clause-may : goal.put_piece-requires-clause-may
put_piece-requires-clause-may g c =
    let old = c.args.mirror.now in
    let mid = c.loop-done.mirror in
    let sectors = c.min-sectors.result in
    let is = piece_of c.loop-done.buffer c.loop-done.done c.args.count sectors c.loop-done-test.true (c.loop-done.invariant.long ∙ c.requires.room) c.min-sectors.ensures in
    let long = is.3 in
    let many : sectors ≡ length (take (512 * sectors) c.loop-done.buffer) / 512 = omega arith in
    subst (λ (n : ℕ). MayReadBy c.args.way mid.array (c.args.sector + c.loop-done.done) n) many
    (may_read_part c.args.way old.array mid.array c.loop-done.invariant.array c.args.sector c.args.count c.loop-done.done sectors c.requires.may is.0 is.2)

pub loop-done-preserved : goal.loop-done-preserved
loop-done-preserved g c =
    let old = c.args.mirror.now in
    let mid = c.loop-done.mirror in
    let new = c.put_piece.new.mirror in
    let so_far = c.loop-done.invariant in
    let sectors = c.min-sectors.result in
    let buffer = c.loop-done.buffer in
    let piece = c.put_piece.new.piece in
    let is = piece_of buffer c.loop-done.done c.args.count sectors c.loop-done-test.true (so_far.long ∙ c.requires.room) c.min-sectors.ensures in
    let long : length piece ≡ 512 * sectors = c.put_piece.auto.piece ∙ is.3 in
    let puts = c.in_ok-put_piece.ensures.gives in
    let rest = length-drop (512 * sectors) buffer in
    let within = is.2 in
    let room = c.requires.room in
    let same = so_far.long in
    let fits = is.1 in
    record {
      so_far = puts_more g.S.Sink c.args.way c.args.sector old mid new c.requires.sound c.args.out.now c.loop-done.out c.put_piece.new.out c.loop-done.done sectors is.1 piece long so_far.so_far puts;
      sound = c.in_ok-put_piece.ensures.sound;
      array = (reads_rests c.args.way (c.args.sector + c.loop-done.done) piece mid new puts.reads).array ∙ so_far.array;
      long = length-append piece (drop (512 * sectors) buffer) ∙ (omega arith);
      few = omega arith;
    }

pub returns-in_err-put_piece-clause-gives : goal.returns-in_err-put_piece-clause-gives
returns-in_err-put_piece-clause-gives g c =
    let old = c.args.mirror.now in
    let mid = c.loop-done.mirror in
    let new = c.put_piece.new.mirror in
    let so_far = c.loop-done.invariant in
    let sectors = c.min-sectors.result in
    let is = piece_of c.loop-done.buffer c.loop-done.done c.args.count sectors c.loop-done-test.true (so_far.long ∙ c.requires.room) c.min-sectors.ensures in
    let long : length c.put_piece.new.piece ≡ 512 * sectors = c.put_piece.auto.piece ∙ is.3 in
    let fault = c.in_err-put_piece.field-0.0 in
    let passed : c.from_residual.result ≡ Err fault = search rules in
    rw passed
    (refuses_more g.S.Sink c.args.way c.args.sector old mid new c.requires.sound c.args.out.now c.loop-done.out c.put_piece.new.out c.loop-done.done sectors is.1 c.put_piece.new.piece long so_far.so_far so_far.sound
    c.args.count is.2 c.requires.more fault c.in_err-put_piece.ensures.gives)

pub returns-in_err-flush-clause-gives : goal.returns-in_err-flush-clause-gives
returns-in_err-flush-clause-gives g c =
    let so_far = c.loop-done.invariant in
    let past = c.loop-done-test.false in
    let few = so_far.few in
    let all : c.loop-done.done ≡ c.args.count = omega arith in
    let fails : c.from_residual-in_err-flush.result ≡ Err OutputFault = search rules in
    rw fails
    (not_flushed g.S.Sink c.args.way c.args.sector c.args.mirror.now c.loop-done.mirror c.args.out.now c.flush.new.self c.args.count c.loop-done.out
    (subst (λ (n : ℕ). PutsSoFar g.S.Sink c.args.way c.args.sector n c.args.mirror.now c.loop-done.mirror c.args.out.now c.loop-done.out) all so_far.so_far)
    c.in_err-flush.ensures)

pub returns-clause-gives : goal.returns-clause-gives
returns-clause-gives g c =
    let so_far = c.loop-done.invariant in
    let past = c.loop-done-test.false in
    let few = so_far.few in
    let all : c.loop-done.done ≡ c.args.count = omega arith in
    puts_all g.S.Sink c.args.way c.args.sector c.args.mirror.now c.loop-done.mirror c.args.out.now c.flush.new.self c.args.count c.loop-done.out
    (subst (λ (n : ℕ). PutsSoFar g.S.Sink c.args.way c.args.sector n c.args.mirror.now c.loop-done.mirror c.args.out.now c.loop-done.out) all so_far.so_far)
    c.in_ok-flush.ensures
