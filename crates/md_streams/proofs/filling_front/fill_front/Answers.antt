use Rattle.std.proofs.Common.{rules, ◌≡◌, ◌-◌, length, take}
use borrow.Rule.Slice.PartMut.{put_mid}
use Rattle.md_streams.proofs.Fronts.{front_fits, front_grows, gives_both}
use Rattle.md_streams.proofs.filling_front.fill_front.Goals as goal

pub loop-filled-preserved : goal.loop-filled-preserved
loop-filled-preserved g c =
    let s = g.I.Source in
    let at = c.loop-filled.filled in
    let n = c.in_ok-taken.taken in
    let buf = c.loop-filled.buf in
    let part = c.take.new.buf in
    let both = gives_both s.remaining s.failed c.args.input.now c.loop-filled.input c.take.new.self (take at buf) (take n part) c.loop-filled.invariant.gives c.in_ok-taken.ensures.gives.gives in
    let long : length (put_mid at (length buf - at) buf part) ≡ length c.args.buf.now = search rules in
    record {
      few = front_fits at n (length buf - at) buf part c.loop-filled.invariant.few c.in_ok-taken.ensures.gives.few;
      long = long;
      gives = rw (front_grows at n (length buf - at) buf part c.loop-filled.invariant.few c.in_ok-taken.ensures.gives.few) both;
    }
