use Rattle.std.proofs.Common.{rules, Err, ◌≡◌, ◌∙◌, ◌+◌, ◌*◌, ◌-◌, ◌/◌, ◌<◌, ◌≤◌, ℕ, List, length, drop, take, min, refl, subst, arith, length-append, length-drop}
use Rattle.std.proofs.lemmas.List.{length-take-le}
use Rattle.md_refusals.specs.declared.fault.CommandFault.TheVariants.{OutputFault}
use Rattle.md_read_commands.specs.Pieces.{piece_sectors}
use Rattle.md_read_commands.specs.Ways.{MayReadBy}
use Rattle.md_read_commands.proofs.FilledPut.{FilledSoFar, clear_next, not_flushed, puts_all, puts_first, puts_more, refuses_more}
use Rattle.md_read_commands.proofs.Rooms.{same_capacity, same_room_then}
use Rattle.md_read_commands.proofs.Told.{no_gaps_told}
use Rattle.md_read_commands.proofs.Ways.{may_read_part}
use Rattle.md_read_commands.proofs.filling.put_filled_pieces.Goals as goal

-- the sectors of a piece
piece_of : (buffer : List ℕ) (done count sectors : ℕ) → done < count → length buffer ≡ 512 * min count piece_sectors → sectors ≡ min piece_sectors (count - done)
    → (0 < sectors) × (done + sectors ≤ count) × (length (take (512 * sectors) buffer) ≡ 512 * sectors)
piece_of buffer done count sectors before room is = (omega arith, omega arith, length-take-le (512 * sectors) buffer (omega arith))

pub loop-done-init : goal.loop-done-init
loop-done-init g c = record {
  so_far = puts_first g.S.Sink c.args.asked.way c.args.asked.sector c.args.gaps.now c.requires.none c.args.mirror.now c.args.out.now;
  sound = c.requires.sound;
  array = refl;
  long = refl;
  few = omega arith;
  holes = (refl, refl);
  told = no_gaps_told (g.W.FillWatch.misses c.args.watch.now) (g.W.FillWatch.takes c.args.watch.now) c.args.gaps.now c.requires.none;
}

pub overflow_add-part : goal.overflow_add-part
overflow_add-part g c =
    let fits = c.requires.fits in
    let before = c.loop-done-test.true in
    omega arith

pub put_filled_piece-requires-clause-whole : goal.put_filled_piece-requires-clause-whole
put_filled_piece-requires-clause-whole g c =
    let is = piece_of c.loop-done.buffer c.loop-done.done c.args.asked.count c.min-sectors.result c.loop-done-test.true (c.loop-done.invariant.long ∙ c.requires.room) c.min-sectors.ensures in
    let long = is.2 in
    omega arith

pub put_filled_piece-requires-clause-holes : goal.put_filled_piece-requires-clause-holes
put_filled_piece-requires-clause-holes g c =
    let is = piece_of c.loop-done.buffer c.loop-done.done c.args.asked.count c.min-sectors.result c.loop-done-test.true (c.loop-done.invariant.long ∙ c.requires.room) c.min-sectors.ensures in
    let long = is.2 in
    let as_much = same_capacity c.args.holes.now c.loop-done.holes c.loop-done.invariant.holes in
    let room = c.requires.holes in
    let least = c.min-sectors.ensures in
    omega arith

pub put_filled_piece-requires-clause-may : goal.put_filled_piece-requires-clause-may
put_filled_piece-requires-clause-may g c =
    let old = c.args.mirror.now in
    let mid = c.loop-done.mirror in
    let sectors = c.min-sectors.result in
    let is = piece_of c.loop-done.buffer c.loop-done.done c.args.asked.count sectors c.loop-done-test.true (c.loop-done.invariant.long ∙ c.requires.room) c.min-sectors.ensures in
    let long = is.2 in
    let many : sectors ≡ length (take (512 * sectors) c.loop-done.buffer) / 512 = omega arith in
    subst (λ (n : ℕ). MayReadBy c.args.asked.way mid.array (c.args.asked.sector + c.loop-done.done) n) many
    (may_read_part c.args.asked.way old.array mid.array c.loop-done.invariant.array c.args.asked.sector c.args.asked.count c.loop-done.done sectors c.requires.may is.0 is.1)

pub put_filled_piece-requires-clause-clear : goal.put_filled_piece-requires-clause-clear
put_filled_piece-requires-clause-clear g c =
    clear_next g.S.Sink c.args.asked.way c.args.asked.sector c.loop-done.done c.loop-done.gaps c.args.mirror.now c.loop-done.mirror c.args.out.now c.loop-done.out c.loop-done.invariant.so_far

pub loop-done-preserved : goal.loop-done-preserved
loop-done-preserved g c =
    let old = c.args.mirror.now in
    let mid = c.loop-done.mirror in
    let new = c.put_filled_piece.new.mirror in
    let so_far = c.loop-done.invariant in
    let sectors = c.min-sectors.result in
    let buffer = c.loop-done.buffer in
    let piece = c.put_filled_piece.new.piece in
    let is = piece_of buffer c.loop-done.done c.args.asked.count sectors c.loop-done-test.true (so_far.long ∙ c.requires.room) c.min-sectors.ensures in
    let long : length piece ≡ 512 * sectors = c.put_filled_piece.auto.piece ∙ is.2 in
    let puts = c.in_ok-put_filled_piece.ensures.gives in
    let rest = length-drop (512 * sectors) buffer in
    let within = is.1 in
    let room = c.requires.room in
    let same = so_far.long in
    record {
      so_far = puts_more g.S.Sink c.args.asked.way c.args.asked.sector c.loop-done.done c.loop-done.gaps old mid c.args.out.now c.loop-done.out so_far.so_far c.put_filled_piece.new.gaps new c.put_filled_piece.new.out sectors piece long puts;
      sound = c.in_ok-put_filled_piece.ensures.sound;
      array = puts.more.fills.rests.array ∙ so_far.array;
      long = length-append piece (drop (512 * sectors) buffer) ∙ (omega arith);
      few = omega arith;
      holes = same_room_then c.args.holes.now c.loop-done.holes c.put_filled_piece.new.holes so_far.holes c.in_ok-put_filled_piece.ensures.holes;
      told = c.in_ok-put_filled_piece.ensures.told;
    }

pub returns-in_err-put_filled_piece-clause-gives : goal.returns-in_err-put_filled_piece-clause-gives
returns-in_err-put_filled_piece-clause-gives g c =
    let old = c.args.mirror.now in
    let mid = c.loop-done.mirror in
    let new = c.put_filled_piece.new.mirror in
    let so_far = c.loop-done.invariant in
    let sectors = c.min-sectors.result in
    let buffer = c.loop-done.buffer in
    let is = piece_of buffer c.loop-done.done c.args.asked.count sectors c.loop-done-test.true (so_far.long ∙ c.requires.room) c.min-sectors.ensures in
    let long = is.2 in
    let fault = c.in_err-put_filled_piece.field-0.0 in
    let passed : c.from_residual.result ≡ Err fault = search rules in
    rw passed
    (refuses_more g.S.Sink c.args.asked.way c.args.asked.sector c.loop-done.done c.loop-done.gaps old mid c.args.out.now c.loop-done.out so_far.so_far c.put_filled_piece.new.gaps new c.put_filled_piece.new.out sectors c.args.asked.count is.1
    (length (take (512 * sectors) buffer) / 512) (omega arith) fault c.in_err-put_filled_piece.ensures.gives)

pub returns-in_err-flush-clause-gives : goal.returns-in_err-flush-clause-gives
returns-in_err-flush-clause-gives g c =
    let so_far = c.loop-done.invariant in
    let past = c.loop-done-test.false in
    let few = so_far.few in
    let all : c.loop-done.done ≡ c.args.asked.count = omega arith in
    let fails : c.from_residual-in_err-flush.result ≡ Err OutputFault = search rules in
    rw fails
    (not_flushed g.S.Sink c.args.asked.way c.args.asked.sector c.loop-done.gaps c.args.mirror.now c.loop-done.mirror c.args.out.now c.flush.new.self c.args.asked.count c.loop-done.out
    (subst (λ (n : ℕ). FilledSoFar g.S.Sink c.args.asked.way c.args.asked.sector n c.loop-done.gaps c.args.mirror.now c.loop-done.mirror c.args.out.now c.loop-done.out) all so_far.so_far)
    c.in_err-flush.ensures)

pub returns-clause-gives : goal.returns-clause-gives
returns-clause-gives g c =
    let so_far = c.loop-done.invariant in
    let past = c.loop-done-test.false in
    let few = so_far.few in
    let all : c.loop-done.done ≡ c.args.asked.count = omega arith in
    puts_all g.S.Sink c.args.asked.way c.args.asked.sector c.loop-done.gaps c.args.mirror.now c.loop-done.mirror c.args.out.now c.flush.new.self c.args.asked.count c.loop-done.out
    (subst (λ (n : ℕ). FilledSoFar g.S.Sink c.args.asked.way c.args.asked.sector n c.loop-done.gaps c.args.mirror.now c.loop-done.mirror c.args.out.now c.loop-done.out) all so_far.so_far)
    c.in_ok-flush.ensures
