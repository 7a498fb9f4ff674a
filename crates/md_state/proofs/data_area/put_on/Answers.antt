use Rattle.std.proofs.Common.{◌*◌, ◌+◌, ◌≤◌, length, arith, subst}
use Rattle.md_members.specs.DeviceWrites.Writes.{Write}
use Rattle.md_state.proofs.OneWrite.{each_answer, here, is_failed, is_written}
use Rattle.md_state.proofs.data_area.put_on.Goals as goal

pub sector_on-start-requires : goal.sector_on-start-requires
sector_on-start-requires g c =
    let content = g.D.Device.content in
    let x = c.index-devices-k.result in
    let room : 512 * (c.args.data_offset + c.args.sector) + length c.args.bytes.now ≤ length (content x) =
    c.requires.room _ (here g.D.Device c.args.devices.now c.args.k x c.index-devices-k.is c.requires.within) in
    subst (λ d. 512 * (c.args.data_offset + c.args.sector) ≤ length (content d)) c.index-devices-k.is (omega arith)

pub put-requires-clause-within : goal.put-requires-clause-within
put-requires-clause-within g c =
    let content = g.D.Device.content in
    let x = c.index-devices-k.result in
    let room : 512 * (c.args.data_offset + c.args.sector) + length c.args.bytes.now ≤ length (content x) =
    c.requires.room _ (here g.D.Device c.args.devices.now c.args.k x c.index-devices-k.is c.requires.within) in
    rw c.sector_on-start.ensures (subst (λ d. 512 * (c.args.data_offset + c.args.sector) + length c.args.bytes.now ≤ length (content d)) c.index-devices-k.is room)

pub returns : goal.returns
returns g c =
    let x = c.index-devices-k.result in
    let w : Write = record { sector = c.args.data_offset + c.args.sector; bytes = c.args.bytes.now } in
    let outside = rw (← c.index-devices-k.is, c.sector_on-start.ensures) at c.put.ensures.outside in
    each_answer c.put.result _ _ _ _
    (is_written g.D.Device c.args.devices.now c.args.k x c.index-devices-k.is c.put.new.device w c.requires.within outside)
    (is_failed g.D.Device c.args.devices.now c.args.k x c.index-devices-k.is c.put.new.device w c.requires.within outside)
    (rw (← c.index-devices-k.is, c.sector_on-start.ensures) at c.put.ensures.writes)
