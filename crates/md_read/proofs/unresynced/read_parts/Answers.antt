use Rattle.std.proofs.Common.{◌%◌, ◌*◌, ◌+◌, ◌-◌, ◌/◌, ◌<◌, ◌∙◌, ◌≡◌, ◌≤◌, ap, arith, drop, Err, length, length-drop, List, min, refl, rules, subst, sym, take, ℕ}
use Rattle.std.proofs.lemmas.List.{length-take-le}
use Rattle.std.proofs.lemmas.Slice.{take-put_mid_below}
use borrow.Rule.Slice.PartMut.{put_mid}
use Rattle.md_array.proofs.General.Resting.{rests_sound}
use Rattle.md_laws.proofs.Runs.Rests.{rests_same, rests_then}
use Rattle.md_read.specs.Unresynced.{GivesParts}
use Rattle.md_read.proofs.PartsInTurn.{more_parts, no_parts, one_part, part_rests}
use Rattle.md_read.proofs.PartsRead.{ended}
use Rattle.md_read.proofs.SectorsGiven.{length-replaced, take-replaced}
use Rattle.md_read.proofs.unresynced.read_parts.Goals as goal

pub loop-done-init : goal.loop-done-init
loop-done-init g c = record {
  rests = rests_same c.args.mirror.now;
  sound = c.requires.sound;
  long = refl;
  whole = refl;
  few = omega arith;
  some = λ some. let whole = c.requires.whole in omega arith;
  given = no_parts c.args.sector c.args.mirror.now;
}

-- the sectors that are tried
tried : (buf : List ℕ) (done few sectors most : ℕ) → done < length buf → length buf % 512 ≡ 0 → done % 512 ≡ 0 → 0 < most → few ≡ min most ((length buf - done) / 512) → 0 < sectors → sectors ≤ few
    → (0 < sectors) × (done + 512 * sectors ≤ length buf)
tried buf done few sectors most before all whole some is more less = (omega arith, omega arith)

as_tried : (buf : List ℕ) (done sectors : ℕ) → done + 512 * sectors ≤ length buf → length (take (done + 512 * sectors - done) (drop done buf)) ≡ 512 * sectors
as_tried buf done sectors within =
    let past = length-drop done buf in
    length-take-le (done + 512 * sectors - done) (drop done buf) (omega arith) ∙ omega arith

pub returns-in_err-given : goal.returns-in_err-given
returns-in_err-given g c =
    let old = c.args.mirror.now in
    let mid = c.loop-done.mirror in
    let new = c.read_part.new.mirror in
    let so_far = c.loop-done.invariant in
    let before = c.loop-done-test.true in
    let done = c.loop-done.done in
    let was = c.loop-done.buf in
    let bytes = c.read_part.new.buf in
    let sectors = c.of_one_chunk-sectors.result in
    let rest : ℕ = done + 512 * sectors - done in
    let same = so_far.long in
    let all = c.requires.whole in
    let tries = tried was done c.min-few.result sectors c.loop-done.most before (omega arith) so_far.whole (so_far.some (omega arith)) c.min-few.ensures c.of_one_chunk-sectors.ensures.some c.of_one_chunk-sectors.ensures.few in
    let as_long : length bytes ≡ 512 * sectors = c.read_part.auto.buf ∙ as_tried was done sectors tries.1 in
    let long = length-replaced done rest was bytes (omega arith) (omega arith) (omega arith) in
    let whole = so_far.whole in
    let is : c.from_residual.result ≡ Err c.in_err-given.field-0.0 = search rules in
    rw is
    (let front : take (512 * (c.args.sector + done / 512 - c.args.sector)) (put_mid done rest was bytes) ≡ take done was =
    ap (λ (n : ℕ). take n (put_mid done rest was bytes)) (omega arith) ∙ take-put_mid_below done rest was bytes done (omega arith) (omega arith) in
    ended c.args.sector (c.args.sector + done / 512) (put_mid done rest was bytes) old mid new c.in_err-given.field-0.0 c.in_err-given.ensures so_far.rests (omega arith) (omega arith)
    (subst (λ (xs : List ℕ). GivesParts c.args.sector xs old mid) (sym front) so_far.given))

pub loop-done-preserved : goal.loop-done-preserved
loop-done-preserved g c =
    let old = c.args.mirror.now in
    let mid = c.loop-done.mirror in
    let new = c.read_part.new.mirror in
    let so_far = c.loop-done.invariant in
    let front = c.in_ok-given.ensures in
    let done = c.loop-done.done in
    let was = c.loop-done.buf in
    let bytes = c.read_part.new.buf in
    let sectors = c.of_one_chunk-sectors.result in
    let rest : ℕ = done + 512 * sectors - done in
    let before = c.loop-done-test.true in
    let same = so_far.long in
    let whole = so_far.whole in
    let all = c.requires.whole in
    let tries = tried was done c.min-few.result sectors c.loop-done.most before (omega arith) whole (so_far.some (omega arith)) c.min-few.ensures c.of_one_chunk-sectors.ensures.some c.of_one_chunk-sectors.ensures.few in
    let taken = as_tried was done sectors tries.1 in
    let as_long : length bytes ≡ 512 * sectors = c.read_part.auto.buf ∙ taken in
    let few = front.few in
    let some = front.some in
    let given : ℕ = c.in_ok-given.given in
    let run = take (512 * given) bytes in
    let rests = part_rests (c.args.sector + done / 512) run mid new front.given in
    let so_long : length (take done was) ≡ done = length-take-le done was (omega arith) in
    let here : c.args.sector + done / 512 ≡ c.args.sector + length (take done was) / 512 = omega arith in
    let more = more_parts c.args.sector old mid new (take done was) run so_far.given
    (subst (λ (s : ℕ). GivesParts s run mid new) here (one_part (c.args.sector + done / 512) run mid new front.given)) in
    record {
      rests = rests_then old mid new so_far.rests rests;
      sound = rests_sound mid new rests so_far.sound;
      long = length-replaced done rest was bytes (omega arith) (omega arith) (omega arith) ∙ same;
      whole = omega arith;
      few = omega arith;
      some = λ more. omega arith;
      given = subst (λ (xs : List ℕ). GivesParts c.args.sector xs old new) (sym (take-replaced done rest was bytes (omega arith) (512 * given) (omega arith))) more;
    }
