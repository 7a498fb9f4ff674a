use Rattle.std.proofs.Common.{◌≡◌, ◌∙◌, ◌+◌, ◌*◌, ◌-◌, ◌/◌, ◌%◌, ◌<◌, ◌≤◌, ℕ, List, length, drop, take, min, refl, sym, ap, subst, arith, length-drop}
use Rattle.std.proofs.lemmas.List.{length-take-le, take_all}
use Rattle.std.proofs.lemmas.Slice.{take-put_mid_below}
use borrow.Rule.Slice.PartMut.{put_mid}
use Rattle.md_array.proofs.General.Resting.{rests_sound}
use Rattle.md_laws.proofs.Runs.Rests.{rests_same, rests_then}
use Rattle.md_read.specs.Reading.{GivesSectors}
use Rattle.md_read.proofs.RunsInTurn.{gives_none, gives_run, gives_then}
use Rattle.md_read.proofs.SectorsGiven.{length-replaced, take-replaced}
use Rattle.md_read.proofs.runs.read_runs.Goals as goal

pub loop-done-init : goal.loop-done-init
loop-done-init g c = record {
  rests = rests_same c.args.mirror.now;
  sound = c.requires.sound;
  long = refl;
  whole = refl;
  few = omega arith;
  some = λ some. let whole = c.requires.whole in omega arith;
  given = gives_none c.args.sector c.args.mirror.now;
}

pub overflow_add-at : goal.overflow_add-at
overflow_add-at g c =
    let before = c.loop-done-test.true in
    let same = c.loop-done.invariant.long in
    let fits = c.requires.fits in
    omega arith

-- the sectors that are tried
tried : (buf : List ℕ) (done sectors most : ℕ) → done < length buf → length buf % 512 ≡ 0 → done % 512 ≡ 0 → 0 < most → sectors ≡ min most ((length buf - done) / 512)
    → (0 < sectors) × (done + 512 * sectors ≤ length buf)
tried buf done sectors most before all whole some is = (omega arith, omega arith)

as_tried : (buf : List ℕ) (done sectors : ℕ) → done + 512 * sectors ≤ length buf → length (take (done + 512 * sectors - done) (drop done buf)) ≡ 512 * sectors
as_tried buf done sectors within =
    let past = length-drop done buf in
    length-take-le (done + 512 * sectors - done) (drop done buf) (omega arith) ∙ omega arith

pub read_front-requires-clause-some : goal.read_front-requires-clause-some
read_front-requires-clause-some g c =
    let so_far = c.loop-done.invariant in
    let before = c.loop-done-test.true in
    let same = so_far.long in
    let all = c.requires.whole in
    let tries = tried c.loop-done.buf c.loop-done.done c.min-sectors.result c.loop-done.most before (omega arith) so_far.whole (so_far.some (omega arith)) c.min-sectors.ensures in
    let long = as_tried c.loop-done.buf c.loop-done.done c.min-sectors.result tries.1 in
    omega arith

pub returns-in_default : goal.returns-in_default
returns-in_default g c =
    let old = c.args.mirror.now in
    let mid = c.loop-done.mirror in
    let new = c.read_front.new.mirror in
    let so_far = c.loop-done.invariant in
    let before = c.loop-done-test.true in
    let rests = so_far.rests in
    let later = c.in_default.ensures.rests in
    let done = c.loop-done.done in
    let was = c.loop-done.buf in
    let bytes = c.read_front.new.buf in
    let sectors = c.min-sectors.result in
    let rest : ℕ = done + 512 * sectors - done in
    let same = so_far.long in
    let all = c.requires.whole in
    let tries = tried was done sectors c.loop-done.most before (omega arith) so_far.whole (so_far.some (omega arith)) c.min-sectors.ensures in
    let as_long : length bytes ≡ 512 * sectors = c.read_front.auto.buf ∙ as_tried was done sectors tries.1 in
    let long = length-replaced done rest was bytes (omega arith) (omega arith) (omega arith) in
    let whole = so_far.whole in
    let front : take (512 * (c.args.sector + done / 512 - c.args.sector)) (put_mid done rest was bytes) ≡ take done was =
    ap (λ (n : ℕ). take n (put_mid done rest was bytes)) (omega arith) ∙ take-put_mid_below done rest was bytes done (omega arith) (omega arith) in
    record {
      rests = rests_then old mid new rests later;
      from = omega arith;
      below = omega arith;
      mid = mid;
      earlier = subst (λ (xs : List ℕ). GivesSectors c.args.sector xs old mid) (sym front) so_far.given;
      later = later;
      none = c.in_default.ensures.none;
    }

pub loop-done-preserved : goal.loop-done-preserved
loop-done-preserved g c =
    let old = c.args.mirror.now in
    let mid = c.loop-done.mirror in
    let new = c.read_front.new.mirror in
    let so_far = c.loop-done.invariant in
    let front = c.in-Some.ensures in
    let done = c.loop-done.done in
    let was = c.loop-done.buf in
    let bytes = c.read_front.new.buf in
    let sectors = c.min-sectors.result in
    let rest : ℕ = done + 512 * sectors - done in
    let before = c.loop-done-test.true in
    let same = so_far.long in
    let whole = so_far.whole in
    let all = c.requires.whole in
    let tries = tried was done sectors c.loop-done.most before (omega arith) whole (so_far.some (omega arith)) c.min-sectors.ensures in
    let taken = as_tried was done sectors tries.1 in
    let as_long : length bytes ≡ 512 * sectors = c.read_front.auto.buf ∙ taken in
    let few = front.few in
    let some = front.some in
    let given : ℕ = c.in-Some.given in
    let run = take (512 * given) bytes in
    let so_long : length (take done was) ≡ done = length-take-le done was (omega arith) in
    let here : c.args.sector + done / 512 ≡ c.args.sector + length (take done was) / 512 = omega arith in
    let more = gives_then c.args.sector old mid new (take done was) run so_far.given
    (subst (λ (s : ℕ). GivesSectors s run mid new) here (gives_run (c.args.sector + done / 512) run mid new front.given)) in
    record {
      rests = rests_then old mid new so_far.rests front.given.rests;
      sound = rests_sound mid new front.given.rests so_far.sound;
      long = length-replaced done rest was bytes (omega arith) (omega arith) (omega arith) ∙ same;
      whole = omega arith;
      few = omega arith;
      some = λ more. omega arith;
      given = subst (λ (xs : List ℕ). GivesSectors c.args.sector xs old new) (sym (take-replaced done rest was bytes (omega arith) (512 * given) (omega arith))) more;
    }

-- all of them were given
pub returns : goal.returns
returns g c =
    let so_far = c.loop-done.invariant in
    let past = c.loop-done-test.false in
    let whole : take c.loop-done.done c.loop-done.buf ≡ c.loop-done.buf = take_all c.loop-done.done c.loop-done.buf (let same = so_far.long in omega arith) in
    subst (λ (xs : List ℕ). GivesSectors c.args.sector xs c.args.mirror.now c.loop-done.mirror) whole so_far.given
