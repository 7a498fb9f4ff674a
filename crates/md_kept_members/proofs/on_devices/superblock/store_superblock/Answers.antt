use Rattle.std.proofs.Common.{◌≡◌, [], ◌∷◌, ap, subst, ◌∙◌}
use Rattle.md_members.specs.DeviceWrites.Writes.{MakesWrites}
use Rattle.md_members.proofs.DeviceWriteLemmas.Runs.{one_write}
use Rattle.md_kept_members.specs.OnDevices.Superblocks.{write_of}
use Rattle.md_kept_members.proofs.on_devices.superblock.store_superblock.Goals as goal

pub returns-clause-writes : goal.returns-clause-writes
returns-clause-writes g c =
    let e = c.write.ensures in
    let made = one_write g.D.Device (record { sector = 8; bytes = c.block_for-block.result }) c.args.device.now c.write.new.self c.write.result
    e.outside e.honest e.ok e.err e.counted e.faults e.unfailing e.within in
    let shared = c.args.shared.now in
    let bytes : c.block_for-block.result ≡ (write_of shared c.args.member.now).bytes =
    c.block_for-block.ensures.bytes ∙ ap (λ m. (write_of shared m).bytes) c.member.view_is in
    subst (λ bytes. MakesWrites g.D.Device (record { sector = 8; bytes = bytes } ∷ []) c.args.device.now c.write.new.self c.write.result) bytes made
