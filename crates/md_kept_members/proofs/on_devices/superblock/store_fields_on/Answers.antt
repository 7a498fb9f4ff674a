use Rattle.std.proofs.Common.{refl, slice_index_or, slice_set, subst}
use Rattle.md_members.proofs.DeviceWriteLemmas.Runs.{one_write}
use Rattle.md_kept_members.specs.OnDevices.OneOfMany.{WritesAlone}
use Rattle.md_kept_members.specs.OnDevices.Superblocks.{own_write}
use Rattle.md_kept_members.proofs.on_devices.superblock.store_fields_on.Goals as goal

pub returns-clause-writes : goal.returns-clause-writes
returns-clause-writes g c =
    let e = c.write.ensures in
    let devices = c.args.devices.now in
    let was = slice_index_or devices c.args.k c.index-devices-k.result in
    let made = one_write g.D.Device (record { sector = 8; bytes = c.block_for-block.result }) was c.write.new.self c.write.result
    e.outside e.honest e.ok e.err e.counted e.faults e.unfailing e.within in
    let there = c.index-devices-k.is in
    let new = slice_set devices c.args.k c.write.new.self in
    subst (λ bytes. WritesAlone g.D.Device c.args.k (record { sector = 8; bytes = bytes }) devices new c.write.result) c.block_for-block.ensures.bytes (record {
      was = was;
      had = cc;
      is = c.write.new.self;
      has = refl;
      makes = made;
      outside = e.outside;
    })
