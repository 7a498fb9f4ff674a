use Rattle.std.proofs.Common.{arith, ◌∙◌, ℕ, ◌*◌, ◌∷◌, [], ap, subst}
use Rattle.md_device.specs.Splice.{SameOutside}
use Rattle.md_bitmap.specs.Sectors.{bitmap_sectors}
use Rattle.md_members.specs.DeviceWrites.Writes.{MakesWrites}
use Rattle.md_members.specs.DeviceWrites.Bitmaps.{bitmap_runs, bitmap_write, bitmap_writes, runs_of}
use Rattle.md_members.proofs.DeviceWriteLemmas.Frames.{outside_around, outside_then}
use Rattle.md_members.proofs.DeviceWriteLemmas.Runs.{does_any, stops_any, stops_front}
use Rattle.md_members.proofs.device_writes.bitmap.store_bitmap.Goals as goal

pub returns-in_err-store_runs-clause-writes : goal.returns-in_err-store_runs-clause-writes
returns-in_err-store_runs-clause-writes g c =
    let s = c.args.start in
    let h = c.args.header.now in
    let m = c.args.marks.now in
    let n = c.sectors_of_bitmap-sectors.result in
    let total = c.sectors_of_bitmap-sectors.ensures.sectors ∙ ap bitmap_sectors c.chunks.ensures in
    subst (λ (k : ℕ). MakesWrites g.D.Device (bitmap_writes s h m k) c.args.device.now c.store_runs.new.device c.from_residual.result) total
    (stops_any g.D.Device (bitmap_writes s h m n) c.args.device.now c.store_runs.new.device c.from_residual.result
    (stops_front g.D.Device (bitmap_runs s h m n (runs_of n)) (bitmap_write s h m 0 ∷ []) c.args.device.now c.store_runs.new.device c.in_err-store_runs.ensures.writes)
    c.from_residual.ensures.0)

pub returns-in_err-store_runs-clause-outside : goal.returns-in_err-store_runs-clause-outside
returns-in_err-store_runs-clause-outside g c =
    let s = c.args.start in
    let total = c.sectors_of_bitmap-sectors.ensures.sectors ∙ ap bitmap_sectors c.chunks.ensures in
    subst (λ (k : ℕ). SameOutside (512 * s) (512 * k) (g.D.Device.content c.args.device.now) (g.D.Device.content c.store_runs.new.device)) total
    (outside_around c.store_runs.ensures.outside (512 * s) (512 * c.sectors_of_bitmap-sectors.result) (omega arith) (omega arith))

pub returns-clause-writes : goal.returns-clause-writes
returns-clause-writes g c =
    let s = c.args.start in
    let h = c.args.header.now in
    let m = c.args.marks.now in
    let n = c.sectors_of_bitmap-sectors.result in
    let total = c.sectors_of_bitmap-sectors.ensures.sectors ∙ ap bitmap_sectors c.chunks.ensures in
    subst (λ (k : ℕ). MakesWrites g.D.Device (bitmap_writes s h m k) c.args.device.now c.store_bitmap_sector.new.device c.store_bitmap_sector.result) total
    (does_any g.D.Device (bitmap_runs s h m n (runs_of n)) (bitmap_write s h m 0 ∷ []) c.args.device.now c.store_runs.new.device c.store_bitmap_sector.new.device c.store_bitmap_sector.result
    c.in_ok-store_runs.ensures.writes c.store_bitmap_sector.ensures.writes)

pub returns-clause-outside : goal.returns-clause-outside
returns-clause-outside g c =
    let s = c.args.start in
    let n = c.sectors_of_bitmap-sectors.result in
    let total = c.sectors_of_bitmap-sectors.ensures.sectors ∙ ap bitmap_sectors c.chunks.ensures in
    subst (λ (k : ℕ). SameOutside (512 * s) (512 * k) (g.D.Device.content c.args.device.now) (g.D.Device.content c.store_bitmap_sector.new.device)) total
    (outside_then (outside_around c.store_runs.ensures.outside (512 * s) (512 * n) (omega arith) (omega arith))
    (outside_around c.store_bitmap_sector.ensures.outside (512 * s) (512 * n) (omega arith) (omega arith)))
