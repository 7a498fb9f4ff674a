use Rattle.std.proofs.Common.{◌≡◌, ◌∙◌, ◌+◌, ◌-◌, ◌/◌, ◌%◌, ◌≤◌, ℕ, List, length, refl, sym, ap, arith}
use borrow.Rule.Slice.PartMut.{put_mid}
use Rattle.md_device.specs.Device.{held}
use Rattle.md_images.proofs.LongReads.{held_none, length-middle, length-replaced, piece_read}
use Rattle.md_images.proofs.pieces.read_shared_pieces.Goals as goal

pub loop-done-init : goal.loop-done-init
loop-done-init g c = record {
  whole = refl;
  few = omega arith;
  long = refl;
  gave = λ _. held_none (g.D.Device.content c.args.device.now) c.args.sector;
}

pub loop-done-preserved : goal.loop-done-preserved
loop-done-preserved g c =
    let inv = c.loop-done.invariant in
    let now : List ℕ = g.D.Device.content c.args.device.now in
    let sector = c.args.sector in
    let done = c.loop-done.done in
    let len = c.min-len.result in
    let least = c.min-len.ensures in
    let test = c.loop-done-test.true in
    let xs = c.loop-done.buf in
    let ys = c.read_shared.new.buf in
    let all = c.requires.whole in
    let whole = inv.whole in
    let long = inv.long in
    let few = inv.few in
    let fits : done + len ≤ length xs = omega (arith, least, test) in
    let pieces : len % 512 ≡ 0 = omega (arith, least, long, all, whole) in
    let middle : ℕ = done + len - done in
    let as_middle : middle ≡ len = omega arith in
    let taken = length-middle done len xs fits in
    let as_long : length ys ≡ len = c.read_shared.auto.buf ∙ taken in
    let after : length (put_mid done middle xs ys) ≡ length xs = length-replaced done middle xs ys (omega (arith, fits, as_middle)) (as_long ∙ sym as_middle) in
    record {
      whole = omega (arith, whole, pieces);
      few = omega (arith, fits, after);
      long = after ∙ long;
      gave = λ honest. piece_read now sector done len middle xs ys whole few as_long (inv.gave honest)
          (c.in_ok-read_shared.ensures.ok honest ∙ ap (held now (sector + done / 512)) taken);
    }
