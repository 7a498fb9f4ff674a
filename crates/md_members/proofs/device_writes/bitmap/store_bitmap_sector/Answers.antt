use Rattle.std.proofs.Common.{◌≡◌, ◌+◌, ◌∷◌, [], subst}
use Rattle.md_members.specs.DeviceWrites.Writes.{MakesWrites, Write}
use Rattle.md_members.proofs.DeviceWriteLemmas.Sectors.{write_is}
use Rattle.md_members.proofs.device_writes.bitmap.store_bitmap_sector.Goals as goal

pub returns-clause-writes : goal.returns-clause-writes
returns-clause-writes g c =
    let sum : c.from.result + c.from-2.result ≡ c.args.start + c.args.i = cc in
    subst (λ (w : Write). MakesWrites g.D.Device (w ∷ []) c.args.device.now c.put.new.device c.put.result)
    (write_is c.args.start c.args.header.now c.args.marks.now c.args.i (c.from.result + c.from-2.result) c.block-sector.result sum c.block-sector.ensures.sector)
    c.put.ensures.writes
