use Rattle.std.proofs.Common.{◌≡◌, ◌∙◌, ◌+◌, ◌*◌, ◌-◌, ◌≤◌, drop, length, ap, arith}
use Rattle.md_device.specs.Splice.{part, spliced}
use Rattle.md_read_commands.proofs.Fronts.{length-fronted, read_in, read_over}
use Rattle.md_read_commands.proofs.stand_in.fronted.FrontedDeviceDevice.read.Goals as goal

pub returns-then-buf-kept-clause-ok : goal.returns-then-buf-kept-clause-ok
returns-then-buf-kept-clause-ok g c honest =
    let front = c.args.self.now.front.items in
    let below = g.D.Device.content c.args.self.now.inner in
    let kept = c.kept_from-kept.result in
    let is : kept ≡ length front - 512 * c.args.sector = c.kept_from-kept.ensures ∙ ap (λ xs. length xs - 512 * c.args.sector) c.deref.ensures.value in
    let all = c.len.ensures in
    let few = c.if-buf-kept.true in
    let starts : c.len.result - kept + kept ≡ length front = omega arith in
    let fits : 512 * c.args.sector + length c.args.buf.now ≤ length below = omega (arith, c.requires.within, length-fronted front below) in
    c.copy_kept.ensures
    ∙ ap (λ xs. part xs (c.len.result - kept) (length c.args.buf.now)) c.deref-then-buf-kept.ensures.value
    ∙ read_in front below (512 * c.args.sector) (length c.args.buf.now) (c.len.result - kept) kept starts is fits (omega (arith, few))

pub returns-clause-ok : goal.returns-clause-ok
returns-clause-ok g c honest =
    let front = c.args.self.now.front.items in
    let below = g.D.Device.content c.args.self.now.inner in
    let kept = c.kept_from-kept.result in
    let is : kept ≡ length front - 512 * c.args.sector = c.kept_from-kept.ensures ∙ ap (λ xs. length xs - 512 * c.args.sector) c.deref.ensures.value in
    let all = c.len.ensures in
    let more = c.if-buf-kept.false in
    let starts : c.len.result - kept + kept ≡ length front = omega arith in
    let fits : 512 * c.args.sector + length c.args.buf.now ≤ length below = omega (arith, c.requires.within, length-fronted front below) in
    c.lay_kept.ensures
    ∙ ap (λ xs. spliced c.read.new.buf 0 (drop (c.len.result - kept) xs)) c.deref-2.ensures.value
    ∙ ap (λ xs. spliced xs 0 (drop (c.len.result - kept) front)) (c.in_ok-read.ensures.ok honest)
    ∙ read_over front below (512 * c.args.sector) (length c.args.buf.now) (c.len.result - kept) kept starts is fits (omega (arith, more))
