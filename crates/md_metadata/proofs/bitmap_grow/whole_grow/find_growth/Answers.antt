use Rattle.std.proofs.Common.{inl, map}
use Rattle.std.proofs.lemmas.Result.{err_from_is_err_and}
use Rattle.md_state.specs.View.{disk_of}
use Rattle.md_metadata.proofs.GrowLemmas.Refused.{refused_as}
use Rattle.md_metadata.proofs.bitmap_grow.whole_grow.find_growth.Goals as goal

pub returns-in_err-infos-clause-gives : goal.returns-in_err-infos-clause-gives
returns-in_err-infos-clause-gives g c =
    let disks = map (disk_of g.D.Device) in
    let p = err_from_is_err_and c.from_residual.result c.from_residual.ensures.1 in
    rw (p.1, p.2) (inl (refused_as (disks c.args.devices.now) (disks c.read_members.new.devices) c.in_err-infos.field-0.0 c.in_err-infos.ensures.read))
