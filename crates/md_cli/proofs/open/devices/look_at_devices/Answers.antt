use Rattle.std.proofs.Common.{◌≡◌, ◌∙◌, List, Option, map, ap, subst, inl, inr, refl}
use Rattle.std.proofs.lemmas.Result.{err_from_is_err_and}
use Rattle.md_state.specs.View.{Disk, disk_of}
use Rattle.md_cli.specs.Arrays.{disks, overlaid}
use Rattle.md_cli.specs.InMemory.{GetsStandIn, RefusesStandIn}
use Rattle.md_read_commands.specs.Fronted.{fronted_disk, in_memory}
use Rattle.md_cli.proofs.Overlaid.{kept_in_memory, overlay_ghosts, shown_over}
use Rattle.md_cli.proofs.open.devices.look_at_devices.Goals as goal

pub returns-clause-gives : goal.returns-clause-gives
returns-clause-gives g c =
    let over : disks (overlay_ghosts g.D.Device) c.in-Ok.overlays.items ≡ map overlaid (disks g.D.Device c.args.devices.now) = ap (map (disk_of (overlay_ghosts g.D.Device))) c.in-Ok.ensures ∙ shown_over g.D.Device c.args.devices.now in
    let fronted = map (fronted_disk (overlay_ghosts g.D.Device)) c.in_ok-fronted.fronted.items in
    let done = c.open_devices-overlays in
    inl (record {
      fronted = fronted;
      stands = subst (λ (before : List Disk). GetsStandIn c.args.session.now.stand_in before fronted) (ap (map in_memory) over ∙ kept_in_memory (disks g.D.Device c.args.devices.now)) c.in_ok-fronted.ensures.gives;
      given = _;
      gets = c.in-Ok-with_bitmap.ensures.gives;
      seen = _;
      noted = done.new.notices;
      forgotten = c.forget_stored.ensures;
      answer = done.result.1;
      told = c.answer_of_overlays-2.ensures.told;
      opened = done.ensures.gives;
    })

pub returns-in-Err-clause-gives : goal.returns-in-Err-clause-gives
returns-in-Err-clause-gives g c =
    let over : disks (overlay_ghosts g.D.Device) c.in-Ok.overlays.items ≡ map overlaid (disks g.D.Device c.args.devices.now) = ap (map (disk_of (overlay_ghosts g.D.Device))) c.in-Ok.ensures ∙ shown_over g.D.Device c.args.devices.now in
    let fronted = map (fronted_disk (overlay_ghosts g.D.Device)) c.in_ok-fronted.fronted.items in
    inr (inr (inl (record {
      fronted = fronted;
      stands = subst (λ (before : List Disk). GetsStandIn c.args.session.now.stand_in before fronted) (ap (map in_memory) over ∙ kept_in_memory (disks g.D.Device c.args.devices.now)) c.in_ok-fronted.ensures.gives;
      why = c.in-Err.fault;
      none = c.in-Err.ensures.gives;
      is = c.answer_of_overlays.ensures.told;
      unused = refl;
    })))

pub returns-in_err-fronted-clause-gives : goal.returns-in_err-fronted-clause-gives
returns-in_err-fronted-clause-gives g c =
    let over : disks (overlay_ghosts g.D.Device) c.in-Ok.overlays.items ≡ map overlaid (disks g.D.Device c.args.devices.now) = ap (map (disk_of (overlay_ghosts g.D.Device))) c.in-Ok.ensures ∙ shown_over g.D.Device c.args.devices.now in
    let p = err_from_is_err_and c.from_residual.result c.from_residual.ensures.1 in
    rw (p.1, p.2) (inr (inr (inr (record {
      why = c.in_err-fronted.field-0.0;
      refused = subst (λ (before : List Disk). RefusesStandIn c.args.session.now.stand_in before c.in_err-fronted.field-0.0) (ap (map in_memory) over ∙ kept_in_memory (disks g.D.Device c.args.devices.now)) c.in_err-fronted.ensures.gives;
      is = refl;
      unused = refl;
    }))))
