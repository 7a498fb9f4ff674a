use Rattle.std.proofs.Common.{◌≡◌, ℕ, ◌*◌, List, ◌++◌, ◌∷◌, [], ap, ◌∙◌, subst, length}
use Rattle.md_device.specs.Splice.{SameOutside}
use Rattle.md_members.specs.Areas.{bitmap_sectors}
use Rattle.md_members.specs.Members.{sectors_of_device}
use Rattle.md_members.specs.Reading.{BitmapStartsAt}
use Rattle.md_members.specs.DeviceWrites.Bitmaps.{bitmap_writes}
use Rattle.md_members.specs.DeviceWrites.Writes.{DoesWrites, FailsInWrites, MakesWrites}
use Rattle.md_members.proofs.DeviceWriteLemmas.Runs.{does_any, stops_any, stops_front, stops_then}
use Rattle.md_kept_members.specs.View.{MemberView}
use Rattle.md_kept_members.specs.OnDevices.Storing.{KeepsDataOn, log_writes, member_writes}
use Rattle.md_kept_members.specs.OnDevices.Superblocks.{write_of}
use Rattle.md_kept_members.proofs.OnDeviceLemmas.Beside.{data_beside_bitmap, data_beside_super, data_then}
use Rattle.md_kept_members.proofs.on_devices.member.store_member.Given as given
use Rattle.md_kept_members.proofs.on_devices.member.store_member.Goals as goal
use Rattle.md_kept_members.proofs.on_devices.member.store_member.Goals.{After-store_bitmap}

starts : (g : given.Over) (c : After-store_bitmap g) → BitmapStartsAt c.args.member.now.superblock c.bitmap_start-start.result
starts g c = subst (λ (m : MemberView). BitmapStartsAt m.superblock c.bitmap_start-start.result) c.member.view_is c.bitmap_start-start.ensures

-- data stays beside the bitmap, whether or not it was stored
beside_bitmap : (g : given.Over) (c : After-store_bitmap g) → KeepsDataOn c.args.member.now (g.D.Device.content c.args.device.now) (g.D.Device.content c.store_bitmap.new.device)
beside_bitmap g c =
    let of = g.D.Device.content in
    let s = c.bitmap_start-start.result in
    data_beside_bitmap c.args.member.now (of c.args.device.now) (of c.store_bitmap.new.device) (sectors_of_device (g.D.Device.content c.args.device.now)) c.requires.placed c.requires.has s (starts g c)
    (subst (λ (m : MemberView). SameOutside (512 * s) (512 * bitmap_sectors m.stored.chunks) (g.D.Device.content c.args.device.now) (g.D.Device.content c.store_bitmap.new.device)) c.member.view_is
    c.store_bitmap.ensures.outside)

pub returns-in_err-store_bitmap-clause-writes : goal.returns-in_err-store_bitmap-clause-writes
returns-in_err-store_bitmap-clause-writes g c =
    let at = (goal.at.returns-in_err-store_bitmap-clause-writes g c).After-store_bitmap in
    let n = c.args.member.now in
    let h = c.args.header.now in
    let v = c.args.shared.now in
    let s = c.bitmap_start-start.result in
    let was = c.args.device.now in
    let now = c.store_bitmap.new.device in
    let stopped = subst (λ (m : MemberView). FailsInWrites g.D.Device (bitmap_writes s h m.stored (bitmap_sectors m.stored.chunks)) was now) c.member.view_is c.in_err-store_bitmap.ensures.writes in (
      s,
      starts g at,
      stops_any g.D.Device (member_writes s h v n) was now c.from_residual.result
          (stops_front g.D.Device (bitmap_writes s h n.stored (bitmap_sectors n.stored.chunks)) (log_writes n.superblock n.bad ++ write_of v n ∷ []) was now stopped)
          c.from_residual.ensures.0,
    )

pub returns-in_err-store_bitmap-clause-data : goal.returns-in_err-store_bitmap-clause-data
returns-in_err-store_bitmap-clause-data g c = beside_bitmap g (goal.at.returns-in_err-store_bitmap-clause-data g c).After-store_bitmap

pub returns-in_err-store_log-clause-writes : goal.returns-in_err-store_log-clause-writes
returns-in_err-store_log-clause-writes g c =
    let at = (goal.at.returns-in_err-store_log-clause-writes g c).After-store_bitmap in
    let n = c.args.member.now in
    let h = c.args.header.now in
    let v = c.args.shared.now in
    let s = c.bitmap_start-start.result in
    let bitmap = bitmap_writes s h n.stored (bitmap_sectors n.stored.chunks) in
    let log = log_writes n.superblock n.bad in
    let was = c.args.device.now in
    let marked = c.store_bitmap.new.device in
    let now = c.store_log.new.device in
    let made = subst (λ (m : MemberView). DoesWrites g.D.Device (bitmap_writes s h m.stored (bitmap_sectors m.stored.chunks)) was marked) c.member.view_is c.in_ok-store_bitmap.ensures.writes in (
      s,
      starts g at,
      stops_any g.D.Device (member_writes s h v n) was now c.from_residual-in_err-store_log.result
          (stops_then g.D.Device bitmap (log ++ write_of v n ∷ []) was marked now made
          (stops_front g.D.Device log (write_of v n ∷ []) marked now c.in_err-store_log.ensures.writes))
          c.from_residual-in_err-store_log.ensures.0,
    )

pub returns-in_err-store_log-clause-data : goal.returns-in_err-store_log-clause-data
returns-in_err-store_log-clause-data g c =
    let of = g.D.Device.content in
    data_then c.args.member.now (of c.args.device.now) (of c.store_bitmap.new.device) (of c.store_log.new.device)
    (beside_bitmap g (goal.at.returns-in_err-store_log-clause-data g c).After-store_bitmap) c.in_err-store_log.ensures.data

-- the bytes that are written last
block_is : (g : given.Over) (c : After-store_bitmap g) → c.block_for-block.result ≡ (write_of c.args.shared.now c.args.member.now).bytes
block_is g c = c.block_for-block.ensures.bytes ∙ ap (λ (m : MemberView). (write_of c.args.shared.now m).bytes) c.member.view_is

pub returns-clause-writes : goal.returns-clause-writes
returns-clause-writes g c =
    let at = (goal.at.returns-clause-writes g c).After-store_bitmap in
    let n = c.args.member.now in
    let h = c.args.header.now in
    let v = c.args.shared.now in
    let s = c.bitmap_start-start.result in
    let bitmap = bitmap_writes s h n.stored (bitmap_sectors n.stored.chunks) in
    let log = log_writes n.superblock n.bad in
    let was = c.args.device.now in
    let marked = c.store_bitmap.new.device in
    let listed = c.store_log.new.device in
    let now = c.put.new.device in
    let stored = subst (λ (bytes : List ℕ). MakesWrites g.D.Device (record { sector = 8; bytes = bytes } ∷ []) listed now c.put.result) (block_is g at) c.put.ensures.writes in
    let made = subst (λ (m : MemberView). DoesWrites g.D.Device (bitmap_writes s h m.stored (bitmap_sectors m.stored.chunks)) was marked) c.member.view_is c.in_ok-store_bitmap.ensures.writes in (
      s,
      starts g at,
      does_any g.D.Device bitmap (log ++ write_of v n ∷ []) was marked now c.put.result made
          (does_any g.D.Device log (write_of v n ∷ []) marked listed now c.put.result c.in_ok-store_log.ensures.writes stored),
    )

pub returns-clause-data : goal.returns-clause-data
returns-clause-data g c =
    let n = c.args.member.now in
    let of = g.D.Device.content in
    let was = of c.args.device.now in
    let marked = of c.store_bitmap.new.device in
    let listed = of c.store_log.new.device in
    let now = of c.put.new.device in
    data_then n was marked now
    (beside_bitmap g (goal.at.returns-clause-data g c).After-store_bitmap)
    (data_then n marked listed now c.in_ok-store_log.ensures.data
    (data_beside_super n listed now (sectors_of_device was) c.requires.placed
    (subst (λ (x : ℕ). SameOutside (512 * 8) x listed now) (ap length c.block_for-block.ensures.bytes ∙ c.block_for-block.ensures.readable.size) c.put.ensures.outside)))
