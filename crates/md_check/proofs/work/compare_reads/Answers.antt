use Rattle.std.proofs.Common.{◌≡◌, ◌∙◌, ◌+◌, ◌-◌, ◌/◌, ◌%◌, ◌≤◌, ℕ, Bool, true, if◌then◌else◌, List, length, drop, take, refl, ap, subst, arith}
use Rattle.std.proofs.lemmas.Result.{err_from_is_err_and}
use Rattle.md_badblocks.specs.declared.run.Run.{Run}
use Rattle.md_check.specs.declared.reader.Reader.{Reader}
use Rattle.md_check.specs.Readings.{HasUnlisted}
use Rattle.md_check.specs.Told.{IsToldOfSectors}
use Rattle.md_check.proofs.ChunkFaults.{there_since}
use Rattle.md_check.proofs.SectorsRead.{block_read}
use Rattle.md_check.proofs.SectorsTold.{told_then}
use Rattle.md_check.proofs.WindowsRead.{given_first, used_then}
use Rattle.md_check.proofs.work.compare_reads.Goals as goal

pub loop-done-preserved : goal.loop-done-preserved
loop-done-preserved g c =
    let inv = c.loop-done.invariant in
    let first = c.args.reader.now in
    let old = c.loop-done.reader in
    let new = c.compare_block.new.reader in
    let done = c.loop-done.done in
    let lead = c.args.lead.now in
    let len = c.min-len.result in
    let least = c.min-len.ensures in
    let test = c.loop-done-test.true in
    let all = c.requires.whole in
    let whole = inv.whole in
    let fits : done + len ≤ length lead = omega arith in
    let blocks : len % 512 ≡ 0 = omega arith in
    let at : ℕ = c.args.from + done / 512 in
    let block : List ℕ = take (done + len - done) (drop done lead) in
    let yes : c.in_ok-alike.alike ≡ true = (let no = c.if-not-alike.false in cc) in
    record {
      whole = omega arith;
      few = fits;
      used = used_then first old new inv.used c.compare_block.ensures.used;
      unfailing = c.in_ok-alike.ensures.unfailing ∙ inv.unfailing;
      gave = λ honest.
          block_read (g.D.Device.content first.device) first.offset first.listed c.args.from done len lead whole blocks fits (inv.gave honest)
          (given_first first old inv.used at (length block / 512) block
          (λ is. subst (λ (b : Bool). HasUnlisted (g.D.Device.content old.device) old.offset old.listed at (length block / 512) (if b then block else new.bytes.items)) yes (c.in_ok-alike.ensures.gave is))
          honest);
      told = told_then g.G.Gate c.args.gate.now c.args.role c.args.chunks first.listed c.args.from (done / 512) at (length block / 512) ((done + len) / 512) refl (omega arith) inv.told
          (subst (λ (runs : List Run). IsToldOfSectors g.G.Gate c.args.gate.now c.args.role c.args.chunks runs at (length block / 512)) (ap (λ (s : Reader _). s.listed) inv.used.kept) c.in_ok-alike.ensures.told);
    }

pub returns-in_err-alike-clause-there : goal.returns-in_err-alike-clause-there
returns-in_err-alike-clause-there g c =
    let p = err_from_is_err_and c.from_residual.result c.from_residual.ensures.1 in
    rw (p.1, p.2)
    (there_since g.D.Device c.args.reader.now c.loop-done.reader c.compare_block.new.reader c.args.chunks c.in_err-alike.field-0.0 c.loop-done.invariant.used c.in_err-alike.ensures.there)
