use Rattle.std.proofs.Common.{ℕ, ◌+◌, ◌*◌, ◌∷◌, [], subst}
use Rattle.md_device.specs.Splice.{SameOutside}
use Rattle.md_members.specs.DeviceWrites.Bitmaps.{sectors_write}
use Rattle.md_members.specs.DeviceWrites.Writes.{MakesWrites}
use Rattle.md_members.proofs.device_writes.bitmap.store_run.Goals as goal

pub returns-clause-writes : goal.returns-clause-writes
returns-clause-writes g c =
    subst (λ (n : ℕ). MakesWrites g.D.Device (sectors_write c.args.start c.args.header.now c.args.marks.now (1 + 128 * c.args.k) n ∷ []) c.args.device.now c.store_sectors.new.device c.store_sectors.result)
    c.min-count.ensures c.store_sectors.ensures.writes

pub returns-clause-outside : goal.returns-clause-outside
returns-clause-outside g c =
    subst (λ (n : ℕ). SameOutside (512 * (c.args.start + (1 + 128 * c.args.k))) (512 * n) (g.D.Device.content c.args.device.now) (g.D.Device.content c.store_sectors.new.device))
    c.min-count.ensures c.store_sectors.ensures.outside
