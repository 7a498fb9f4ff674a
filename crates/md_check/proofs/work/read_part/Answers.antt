use Rattle.std.proofs.Common.{◌≡◌, ◌∙◌, ◌+◌, ◌*◌, ◌-◌, ℕ, List, length, drop, refl, subst, arith, length-drop}
use Rattle.std.proofs.lemmas.List.{length-take-le}
use Rattle.std.proofs.lemmas.Result.{err_from_is_err_and}
use Rattle.md_collect.proofs.WorkerLemmas.OnlyReads.{read_then}
use Rattle.md_badblocks.specs.Runs.{IsBad}
use Rattle.md_check.specs.Readings.{HasUnlisted}
use Rattle.md_check.proofs.ChunkFaults.{chunk_since}
use Rattle.md_check.proofs.SectorsRead.{length-replaced, more_read}
use Rattle.md_check.proofs.SectorsTold.{told_then}
use Rattle.md_check.proofs.work.read_part.Goals as goal

pub loop-done-preserved : goal.loop-done-preserved
loop-done-preserved g c =
    let inv = c.loop-done.invariant in
    let done = c.loop-done.done in
    let part = c.args.part in
    let xs = c.loop-done.buf in
    let ys = c.read_front.new.buf in
    let passed = c.in_ok-passed.passed in
    let test = c.loop-done-test.true in
    let many = c.in_ok-passed.ensures.passed in
    let fits = c.requires.fits in
    let long = inv.long in
    let rest : ℕ = 512 * part.sectors - 512 * done in
    let past = length-drop (512 * done) xs in
    let taken = length-take-le rest (drop (512 * done) xs) (omega arith) in
    let as_long : length ys ≡ rest = c.read_front.auto.buf ∙ taken in
    let content = g.D.Device.content c.args.device.now in
    record {
      long = length-replaced (512 * done) rest xs ys (omega arith) (omega arith) as_long ∙ long;
      few = omega arith;
      only_read = read_then inv.only_read c.read_front.ensures.only_read;
      unfailing = c.in_ok-passed.ensures.unfailing ∙ inv.unfailing;
      gave = λ honest.
          more_read content c.args.member.now.offset c.args.member.now.listed.now part.from done part.sectors passed xs ys (omega arith) (omega arith) as_long (omega arith) (inv.gave honest)
          (subst (λ (held_there : List ℕ). HasUnlisted held_there c.args.member.now.offset c.args.member.now.listed.now (part.from + done) passed ys) inv.only_read.content_kept
          (c.in_ok-passed.ensures.gave (inv.only_read.honest_kept ∙ honest)));
      told = told_then g.G.Gate c.args.gate.now c.args.member.now.role c.args.chunks c.args.member.now.listed.now part.from done (part.from + done) passed (done + passed) refl refl inv.told c.in_ok-passed.ensures.told;
    }

pub returns-in_err-passed-clause-there : goal.returns-in_err-passed-clause-there
returns-in_err-passed-clause-there g c =
    let p = err_from_is_err_and c.from_residual.result c.from_residual.ensures.1 in
    rw (p.1, p.2)
    (chunk_since g.D.Device c.args.device.now c.loop-done.device c.read_front.new.device c.args.member.now.offset c.args.chunks (IsBad c.args.member.now.listed.now) c.in_err-passed.field-0.0 c.loop-done.invariant.only_read c.in_err-passed.ensures.there)
