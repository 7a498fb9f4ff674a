use Rattle.std.proofs.Common.{◌≡◌, ◌∙◌, ℕ, ◌+◌, ◌*◌, ◌-◌, ◌≤◌, List, length, ap, arith, subst, sym}
use Rattle.md_device.specs.Splice.{SameOutside}
use Rattle.md_read_commands.specs.Fronted.{fronted}
use Rattle.md_read_commands.proofs.Fronts.{length-fronted, write_fails_outside, write_in, write_in_outside, write_over, write_over_outside}
use Rattle.md_read_commands.proofs.stand_in.fronted.FrontedDeviceDevice.write.Goals as goal

pub returns-then-bytes-kept-clause-outside : goal.returns-then-bytes-kept-clause-outside
returns-then-bytes-kept-clause-outside g c =
    let front = c.args.self.now.front.items in
    let below = g.D.Device.content c.args.self.now.inner in
    let at = 512 * c.args.sector in
    let kept = c.kept_from-kept.result in
    let is : kept ≡ length front - 512 * c.args.sector = c.kept_from-kept.ensures ∙ ap (λ xs. length xs - 512 * c.args.sector) c.deref.ensures.value in
    let all = c.len.ensures in
    let few = c.if-bytes-kept.true in
    let starts : c.len.result - kept + kept ≡ length front = omega arith in
    let fits : 512 * c.args.sector + length c.args.bytes.now ≤ length below = omega (arith, c.requires.within, length-fronted front below) in
    subst (λ (xs : List ℕ). SameOutside at (length c.args.bytes.now) (fronted front below) (fronted xs below)) (sym c.put_kept.ensures)
    (write_in_outside front below at c.args.bytes.now (c.len.result - kept) kept starts is fits (omega (arith, few)))

pub returns-then-bytes-kept-clause-ok : goal.returns-then-bytes-kept-clause-ok
returns-then-bytes-kept-clause-ok g c honest =
    let front = c.args.self.now.front.items in
    let below = g.D.Device.content c.args.self.now.inner in
    let at = 512 * c.args.sector in
    let kept = c.kept_from-kept.result in
    let is : kept ≡ length front - 512 * c.args.sector = c.kept_from-kept.ensures ∙ ap (λ xs. length xs - 512 * c.args.sector) c.deref.ensures.value in
    let all = c.len.ensures in
    let few = c.if-bytes-kept.true in
    let starts : c.len.result - kept + kept ≡ length front = omega arith in
    let fits : 512 * c.args.sector + length c.args.bytes.now ≤ length below = omega (arith, c.requires.within, length-fronted front below) in
    ap (λ xs. fronted xs below) c.put_kept.ensures
    ∙ write_in front below at c.args.bytes.now (c.len.result - kept) kept starts is fits (omega (arith, few))

pub returns-in_err-write-clause-outside : goal.returns-in_err-write-clause-outside
returns-in_err-write-clause-outside g c =
    let front = c.args.self.now.front.items in
    let below = g.D.Device.content c.args.self.now.inner in
    let fits : 512 * c.args.sector + length c.args.bytes.now ≤ length below = omega (arith, c.requires.within, length-fronted front below) in
    write_fails_outside front below (512 * c.args.sector) (length c.args.bytes.now) fits (g.D.Device.content c.write.new.self) c.write.ensures.outside

pub returns-clause-outside : goal.returns-clause-outside
returns-clause-outside g c =
    let front = c.args.self.now.front.items in
    let below = g.D.Device.content c.args.self.now.inner in
    let after = g.D.Device.content c.write.new.self in
    let at = 512 * c.args.sector in
    let kept = c.kept_from-kept.result in
    let is : kept ≡ length front - 512 * c.args.sector = c.kept_from-kept.ensures ∙ ap (λ xs. length xs - 512 * c.args.sector) c.deref.ensures.value in
    let all = c.len.ensures in
    let more = c.if-bytes-kept.false in
    let starts : c.len.result - kept + kept ≡ length front = omega arith in
    let fits : 512 * c.args.sector + length c.args.bytes.now ≤ length below = omega (arith, c.requires.within, length-fronted front below) in
    subst (λ (xs : List ℕ). SameOutside at (length c.args.bytes.now) (fronted front below) (fronted xs after)) (sym c.put_kept-2.ensures)
    (write_over_outside front below at c.args.bytes.now (c.len.result - kept) kept starts is fits (omega (arith, more)) after c.write.ensures.outside)

pub returns-clause-ok : goal.returns-clause-ok
returns-clause-ok g c honest =
    let front = c.args.self.now.front.items in
    let below = g.D.Device.content c.args.self.now.inner in
    let after = g.D.Device.content c.write.new.self in
    let at = 512 * c.args.sector in
    let kept = c.kept_from-kept.result in
    let is : kept ≡ length front - 512 * c.args.sector = c.kept_from-kept.ensures ∙ ap (λ xs. length xs - 512 * c.args.sector) c.deref.ensures.value in
    let all = c.len.ensures in
    let more = c.if-bytes-kept.false in
    let starts : c.len.result - kept + kept ≡ length front = omega arith in
    let fits : 512 * c.args.sector + length c.args.bytes.now ≤ length below = omega (arith, c.requires.within, length-fronted front below) in
    ap (λ xs. fronted xs after) c.put_kept-2.ensures
    ∙ write_over front below at c.args.bytes.now (c.len.result - kept) kept starts is fits (omega (arith, more)) after c.write.ensures.outside (c.in_ok-write.ensures.ok honest)
