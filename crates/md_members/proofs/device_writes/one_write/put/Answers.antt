use Rattle.md_members.proofs.DeviceWriteLemmas.Runs.{one_write}
use Rattle.md_members.proofs.device_writes.one_write.put.Goals as goal

pub returns-clause-writes : goal.returns-clause-writes
returns-clause-writes g c =
    one_write g.D.Device (record { sector = c.args.sector; bytes = c.args.bytes.now }) c.args.device.now c.write.new.self c.write.result
    c.write.ensures.outside c.write.ensures.honest c.write.ensures.ok c.write.ensures.err c.write.ensures.counted c.write.ensures.faults c.write.ensures.unfailing c.write.ensures.within
