use Rattle.std.proofs.Common.{◌≡◌, ◌∙◌, ◌+◌, ◌*◌, ◌-◌, ◌/◌, ◌<◌, ◌≤◌, ℕ, List, length, drop, take, min, refl, subst, arith, length-drop}
use Rattle.std.proofs.lemmas.List.{length-take-le}
use Rattle.md_laws.proofs.Runs.Rests.{rests_same}
use Rattle.md_read.proofs.SectorsGiven.{length-replaced}
use Rattle.md_read_commands.specs.Ways.{MayReadBy}
use Rattle.md_read_commands.proofs.Filled.{clear_there, fills_nothing, front_more, piece_filled, size_fits}
use Rattle.md_read_commands.specs.Holes.{gaps_of}
use Rattle.md_read_commands.proofs.Rooms.{few_more, room_left, same_room_then}
use Rattle.md_read_commands.proofs.Ways.{may_read_part}
use Rattle.md_read_commands.proofs.filling.fill_piece.Goals as goal

-- the sectors that are asked for
asked : (piece : List ℕ) (done most end : ℕ) → done < length piece / 512 → 0 < most → end ≡ done + min most (length piece / 512 - done) → (done < end) × (end ≤ length piece / 512)
asked piece done most end before some is = (omega arith, omega arith)

as_asked : (piece : List ℕ) (done end : ℕ) → done < end → end ≤ length piece / 512 → length (take (512 * end - 512 * done) (drop (512 * done) piece)) ≡ 512 * (end - done)
as_asked piece done end before within =
    let past = length-drop (512 * done) piece in
    length-take-le (512 * end - 512 * done) (drop (512 * done) piece) (omega arith) ∙ omega arith

pub loop-done-init : goal.loop-done-init
loop-done-init g c = record {
  more = fills_nothing c.args.way c.args.sector (gaps_of c.args.holes.now) c.args.mirror.now c.args.mirror.now (rests_same c.args.mirror.now);
  sound = c.requires.sound;
  array = refl;
  long = refl;
  few = omega arith;
  some = λ some. omega arith;
  most = (omega arith, omega arith);
  room = (refl, refl);
  fit = c.requires.fit;
}

pub overflow_add-at : goal.overflow_add-at
overflow_add-at g c =
    let before = c.loop-done-test.true in
    let may = c.requires.may.may in
    let inside = may.range.inside in
    let fits = size_fits c.args.mirror.now c.requires.sound may.running in
    omega arith

pub fill_front-filled-requires-clause-whole : goal.fill_front-filled-requires-clause-whole
fill_front-filled-requires-clause-whole g c =
    let so_far = c.loop-done.invariant in
    let before = c.loop-done-test.true in
    let same = so_far.long in
    let is = asked c.loop-done.piece c.loop-done.done c.loop-done.most (c.loop-done.done + c.min.result) (omega arith) (so_far.some (omega arith)) (let least = c.min.ensures in omega arith) in
    let long = as_asked c.loop-done.piece c.loop-done.done (c.loop-done.done + c.min.result) is.0 is.1 in
    omega arith

pub fill_front-filled-requires-clause-room : goal.fill_front-filled-requires-clause-room
fill_front-filled-requires-clause-room g c =
    let so_far = c.loop-done.invariant in
    let before = c.loop-done-test.true in
    room_left c.args.holes.now c.loop-done.holes c.loop-done.done _ (omega arith) so_far.most so_far.room c.requires.room

pub fill_front-filled-requires-clause-may : goal.fill_front-filled-requires-clause-may
fill_front-filled-requires-clause-may g c =
    let so_far = c.loop-done.invariant in
    let before = c.loop-done-test.true in
    let same = so_far.long in
    let done = c.loop-done.done in
    let piece = c.loop-done.piece in
    let end : ℕ = done + c.min.result in
    let is = asked piece done c.loop-done.most end (omega arith) (so_far.some (omega arith)) (let least = c.min.ensures in omega arith) in
    let long = as_asked piece done end is.0 is.1 in
    let few = is.1 in
    let some = is.0 in
    let many : end - done ≡ length (take (512 * end - 512 * done) (drop (512 * done) piece)) / 512 = omega arith in
    subst (λ (n : ℕ). MayReadBy c.args.way c.loop-done.mirror.array (c.args.sector + done) n) many
    (may_read_part c.args.way c.args.mirror.now.array c.loop-done.mirror.array so_far.array c.args.sector (length c.args.piece.now / 512) done (end - done) c.requires.may (omega arith) (omega arith))

pub fill_front-filled-requires-clause-clear : goal.fill_front-filled-requires-clause-clear
fill_front-filled-requires-clause-clear g c =
    let so_far = c.loop-done.invariant in
    let same = so_far.long in
    let few = so_far.few in
    clear_there c.args.way c.args.sector c.loop-done.piece c.loop-done.done (omega arith) (gaps_of c.args.holes.now) (gaps_of c.loop-done.holes) c.args.mirror.now c.loop-done.mirror so_far.more c.requires.clear

pub loop-done-preserved : goal.loop-done-preserved
loop-done-preserved g c =
    let so_far = c.loop-done.invariant in
    let before = c.loop-done-test.true in
    let same = so_far.long in
    let old = c.args.mirror.now in
    let mid = c.loop-done.mirror in
    let new = c.fill_front-filled.new.mirror in
    let done = c.loop-done.done in
    let piece = c.loop-done.piece in
    let part = c.fill_front-filled.new.bytes in
    let end : ℕ = done + c.min.result in
    let is = asked piece done c.loop-done.most end (omega arith) (so_far.some (omega arith)) (let least = c.min.ensures in omega arith) in
    let long = as_asked piece done end is.0 is.1 in
    let as_long : length part ≡ 512 * (end - done) = c.fill_front-filled.auto.bytes ∙ long in
    let front = c.fill_front-filled.ensures.gives in
    let few = front.few in
    let some = is.0 in
    let within = is.1 in
    record {
      more = front_more c.args.way c.args.sector piece done (omega arith) (gaps_of c.args.holes.now) (gaps_of c.loop-done.holes) old mid so_far.more (gaps_of c.fill_front-filled.new.holes) new (512 * done) (512 * end - 512 * done) c.fill_front-filled.result.sectors part refl front;
      sound = c.fill_front-filled.ensures.sound;
      array = front.more.fills.rests.array ∙ so_far.array;
      long = length-replaced (512 * done) (512 * end - 512 * done) piece part (omega arith) (omega arith) (omega arith) ∙ same;
      few = omega arith;
      some = λ more. c.fill_front-filled.ensures.next;
      most =
          let at_least = front.some in
          few_more c.args.holes.now c.loop-done.holes c.fill_front-filled.new.holes done (done + c.fill_front-filled.result.sectors) (omega arith) so_far.most c.fill_front-filled.ensures.more;
      room = same_room_then c.args.holes.now c.loop-done.holes c.fill_front-filled.new.holes so_far.room c.fill_front-filled.ensures.room;
      fit = c.fill_front-filled.ensures.fit;
    }

pub returns-clause-gives : goal.returns-clause-gives
returns-clause-gives g c =
    let so_far = c.loop-done.invariant in
    let same = so_far.long in
    let few = so_far.few in
    let past = c.loop-done-test.false in
    let all = c.requires.whole in
    piece_filled c.args.way c.args.sector c.loop-done.piece c.loop-done.done (omega arith) (gaps_of c.args.holes.now) (gaps_of c.loop-done.holes) c.args.mirror.now c.loop-done.mirror so_far.more (omega arith)
