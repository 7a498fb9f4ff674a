use Rattle.std.proofs.Common.{arith, ◌≡◌, ℕ, ◌-◌, ◌*◌, ◌+◌, ◌<◌, ◌∷◌, [], List, refl, subst}
use Rattle.md_device.specs.Splice.{SameOutside}
use Rattle.md_members.specs.DeviceWrites.Writes.{Write, DoesWrites, MakesWrites}
use Rattle.md_members.specs.DeviceWrites.Bitmaps.{bitmap_run, bitmap_runs, run_sectors}
use Rattle.md_members.proofs.DeviceWriteLemmas.Frames.{outside_around, outside_then}
use Rattle.md_members.proofs.DeviceWriteLemmas.Sectors.{runs_from}
use Rattle.md_members.proofs.DeviceWriteLemmas.Runs.{AreLeft, all_left, fewer_left, none_left, stops_in_left, stops_any}
use Rattle.md_members.proofs.device_writes.bitmap.store_runs.Goals as goal

-- what one run more differs in lies after the first sector
within : (start n k : ℕ) (old mid new : List ℕ) → 1 + 128 * k < n → SameOutside (512 * (start + 1)) (512 * (n - 1)) old mid
    → SameOutside (512 * (start + (1 + 128 * k))) (512 * run_sectors n k) mid new → SameOutside (512 * (start + 1)) (512 * (n - 1)) old new
within start n k old mid new inside before this = outside_then before (outside_around this (512 * (start + 1)) (512 * (n - 1)) (omega arith) (omega arith))

pub loop-left-init : goal.loop-left-init
loop-left-init g c = record {
  left = omega arith;
  writes = all_left g.D.Device (bitmap_runs c.args.start c.args.header.now c.args.marks.now c.args.sectors c.div_ceil-left.result) c.args.device.now;
  outside = record { size = refl; before = refl; after = refl };
}

pub loop-left-preserved : goal.loop-left-preserved
loop-left-preserved g c =
    let s = c.args.start in
    let h = c.args.header.now in
    let m = c.args.marks.now in
    let n = c.args.sectors in
    let k = c.loop-left.left - 1 in
    record {
      left = omega arith;
      writes = fewer_left g.D.Device (bitmap_runs s h m n c.div_ceil-left.result) (bitmap_run s h m n k ∷ []) (bitmap_runs s h m n k) c.args.device.now c.loop-left.device c.store_run.new.device
          (subst (λ (ws : List Write). AreLeft g.D.Device (bitmap_runs s h m n c.div_ceil-left.result) ws c.args.device.now c.loop-left.device)
          (runs_from s h m n c.loop-left.left k (omega arith)) c.loop-left.invariant.writes)
          c.in_ok-store_run.ensures.writes;
      outside = within s n k (g.D.Device.content c.args.device.now) (g.D.Device.content c.loop-left.device) (g.D.Device.content c.store_run.new.device)
          (omega arith) c.loop-left.invariant.outside c.store_run.ensures.outside;
    }

pub returns-in_err-store_run-clause-writes : goal.returns-in_err-store_run-clause-writes
returns-in_err-store_run-clause-writes g c =
    let s = c.args.start in
    let h = c.args.header.now in
    let m = c.args.marks.now in
    let n = c.args.sectors in
    let k = c.loop-left.left - 1 in
    subst (λ (runs : ℕ). MakesWrites g.D.Device (bitmap_runs s h m n runs) c.args.device.now c.store_run.new.device c.from_residual.result) c.div_ceil-left.ensures
    (stops_any g.D.Device (bitmap_runs s h m n c.div_ceil-left.result) c.args.device.now c.store_run.new.device c.from_residual.result
    (stops_in_left g.D.Device (bitmap_runs s h m n c.div_ceil-left.result) (bitmap_run s h m n k ∷ []) (bitmap_runs s h m n k) c.args.device.now c.loop-left.device c.store_run.new.device
    (subst (λ (ws : List Write). AreLeft g.D.Device (bitmap_runs s h m n c.div_ceil-left.result) ws c.args.device.now c.loop-left.device)
    (runs_from s h m n c.loop-left.left k (omega arith)) c.loop-left.invariant.writes)
    c.in_err-store_run.ensures.writes)
    c.from_residual.ensures.0)

pub returns-in_err-store_run-clause-outside : goal.returns-in_err-store_run-clause-outside
returns-in_err-store_run-clause-outside g c =
    within c.args.start c.args.sectors (c.loop-left.left - 1) (g.D.Device.content c.args.device.now) (g.D.Device.content c.loop-left.device) (g.D.Device.content c.store_run.new.device)
    (omega arith) c.loop-left.invariant.outside c.store_run.ensures.outside

pub returns-clause-writes : goal.returns-clause-writes
returns-clause-writes g c =
    let s = c.args.start in
    let h = c.args.header.now in
    let m = c.args.marks.now in
    let n = c.args.sectors in
    let none : c.loop-left.left ≡ 0 = omega arith in
    subst (λ (runs : ℕ). DoesWrites g.D.Device (bitmap_runs s h m n runs) c.args.device.now c.loop-left.device) c.div_ceil-left.ensures
    (none_left g.D.Device (bitmap_runs s h m n c.div_ceil-left.result) c.args.device.now c.loop-left.device
    (subst (λ (k : ℕ). AreLeft g.D.Device (bitmap_runs s h m n c.div_ceil-left.result) (bitmap_runs s h m n k) c.args.device.now c.loop-left.device) none c.loop-left.invariant.writes))
