use Rattle.std.proofs.Common.{◌≡◌, ℕ, length, Result, Ok, Err, OnErr}
use Rattle.md_device.specs.declared.device.Device.{Ghosts}
use Rattle.md_device.specs.Failing.{AddsItself, failed_read}
use Rattle.md_members.specs.Reading.{CallFails, IsReadOf}
use Rattle.md_members.proofs.Failed.{read_fails}
use Rattle.md_raw_reports.proofs.raw_members.read_parts.read_sectors.Goals as goal

module _ {D : Type 0} (g : Ghosts D) (counts : (d : D) → g.failures d ≡ length (g.faults d)) (sector n : ℕ) (old new : D) where
  fails_by : {T E : Type 0} (result : Result T E) → AddsItself result (failed_read sector n) (g.faults old) (g.faults new) → OnErr result (CallFails g old new (IsReadOf sector n))
  fails_by (Ok x) adds = tt
  fails_by (Err e) adds = read_fails g counts sector n old new adds

pub returns-clause-failed : goal.returns-clause-failed
returns-clause-failed g c = fails_by g.D.Device g.met.D.Device.counts c.args.sector (length c.args.buf.now) c.args.device.now c.read.new.self c.read.result c.read.ensures.faults
