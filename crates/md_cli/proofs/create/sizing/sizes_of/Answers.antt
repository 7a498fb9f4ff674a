use Rattle.std.proofs.Common.{◌∙◌, ◌+◌, ◌++◌, ◌∷◌, [], map, ap, sym, subst, arith}
use Rattle.md_state.specs.View.{disk_of}
use Rattle.md_cli.proofs.Sizes.{IsSizedTo, all_sized, none_sized, one_sized}
use Rattle.md_cli.proofs.create.sizing.sizes_of.Goals as goal

pub loop-place-preserved-then-is_missing : goal.loop-place-preserved-then-is_missing
loop-place-preserved-then-is_missing g c =
    let disks = map (disk_of g.D.Device) c.args.devices.now in
    let so = c.loop-place.invariant in (
      subst (λ sizes. IsSizedTo c.args.names.now disks sizes (c.loop-place.place + 1) c.loop-place.next) (sym c.push.ensures.items)
          (none_sized c.args.names.now disks c.loop-place.sizes.items c.loop-place.place c.loop-place.next c.loop-place-test.true so.0 (sym c.is_missing.ensures ∙ c.if-is_missing.true)),
      omega (arith, so.1),
      c.push.ensures.len ∙ ap (λ n. n + 1) so.2,
    )

pub loop-place-preserved : goal.loop-place-preserved
loop-place-preserved g c =
    let disks = map (disk_of g.D.Device) c.args.devices.now in
    let so = c.loop-place.invariant in (
      subst (λ sizes. IsSizedTo c.args.names.now disks sizes (c.loop-place.place + 1) (c.loop-place.next + 1)) (sym (c.push-in-loop-place.ensures.items ∙ ap (λ size. c.loop-place.sizes.items ++ size ∷ []) c.next_size.ensures))
          (one_sized c.args.names.now disks c.loop-place.sizes.items c.loop-place.place c.loop-place.next c.loop-place-test.true so.0 (sym c.is_missing.ensures ∙ c.if-is_missing.false)),
      omega (arith, so.1),
      c.push-in-loop-place.ensures.len ∙ ap (λ n. n + 1) so.2,
    )

pub returns-clause-sizes : goal.returns-clause-sizes
returns-clause-sizes g c =
    all_sized c.args.names.now (map (disk_of g.D.Device) c.args.devices.now) c.loop-place.sizes.items c.loop-place.place c.loop-place.next c.loop-place-test.false c.loop-place.invariant.0
