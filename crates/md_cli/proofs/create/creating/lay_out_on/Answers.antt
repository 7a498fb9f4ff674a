use Rattle.std.proofs.Common.{◌≡◌, ◌∙◌, ◌<◌, codes, length, map, Err, ap, sym, subst, refl, inl, inr, arith}
use Rattle.std.specs.Prelude.{slice_get}
use Rattle.std.proofs.lemmas.List.{length-map}
use Rattle.md_state.specs.View.{disk_of}
use Rattle.md_refusals.specs.declared.fault.CommandFault.TheVariants.{MetadataFault}
use Rattle.md_commands.specs.Objects.{summary_shown}
use Rattle.md_messages.specs.Telling.{texts}
use Rattle.md_cli.specs.Arrays.{ShowsDevices}
use Rattle.md_cli.specs.Creating.{AreLaidOut, FailsInLayout}
use Rattle.md_cli.proofs.Created.{at_of, laid_out_of, written_back}
use Rattle.md_images.proofs.Taken.{index_of_word}
use Rattle.md_cli.proofs.create.creating.lay_out_on.Goals as goal

pub lay_out_each-place-requires-clause-room : goal.lay_out_each-place-requires-clause-room
lay_out_each-place-requires-clause-room g c = λ k d is.
    c.requires.room k d (ap (λ ds. slice_get (map (disk_of g.D.Device) ds) k) (sym c.as_mut_slice.ensures.value) ∙ is)

pub returns-then-place-len-clause-gives : goal.returns-then-place-len-clause-gives
returns-then-place-len-clause-gives g c =
    let disk = disk_of g.D.Device in
    let before = map disk c.args.devices.items in
    let lent : map disk c.as_mut_slice.result.now ≡ before = ap (map disk) c.as_mut_slice.ensures.value in
    let laid = c.lay_out_each-place.ensures in
    let as_long : length c.lay_out_each-place.new.devices ≡ length c.args.devices.items =
    sym (length-map c.lay_out_each-place.new.devices disk) ∙ laid.laid_out.as_many ∙ length-map c.as_mut_slice.result.now disk ∙ ap length c.as_mut_slice.ensures.value in
    let back = ap (map disk) (written_back c.args.devices.len c.lay_out_each-place.new.devices c.args.devices.items c.args.devices.ok.0 as_long) in
    let place = c.lay_out_each-place.result in
    let within : place < length c.args.devices.items = omega (arith, c.if-place-len.true, c.len.ensures, c.args.devices.ok.0) in
    let inside : place < length c.args.words.now = omega (arith, within, c.requires.as_many) in
    let stopped = laid.stopped (subst (λ ds. place < length ds) (sym c.as_mut_slice.ensures.value) within) in
    inl (record {
      place = place;
      within = subst (λ n. place < n) (sym (length-map c.args.devices.items disk)) within;
      is = ap (λ i. Err (MetadataFault i)) (sym (index_of_word c.args.words.now place inside));
      laid_out = laid_out_of _ before _ _ _ c.args.members.now place lent (sym back) refl laid.laid_out;
      stopped = at_of FailsInLayout _ before _ _ _ c.args.members.now place lent (sym back) refl stopped;
      unwritten = refl;
    })

pub returns-clause-gives : goal.returns-clause-gives
returns-clause-gives g c =
    let disk = disk_of g.D.Device in
    let before = map disk c.args.devices.items in
    let lent : map disk c.as_mut_slice.result.now ≡ before = ap (map disk) c.as_mut_slice.ensures.value in
    let laid = c.lay_out_each-place.ensures in
    let as_long : length c.lay_out_each-place.new.devices ≡ length c.args.devices.items =
    sym (length-map c.lay_out_each-place.new.devices disk) ∙ laid.laid_out.as_many ∙ length-map c.as_mut_slice.result.now disk ∙ ap length c.as_mut_slice.ensures.value in
    let back = ap (map disk) (written_back c.args.devices.len c.lay_out_each-place.new.devices c.args.devices.items c.args.devices.ok.0 as_long) in
    let all : c.lay_out_each-place.result ≡ length before = omega (arith, laid.few, ap length c.as_mut_slice.ensures.value, c.if-place-len.false, c.len.ensures, c.args.devices.ok.0, length-map c.args.devices.items disk) in
    let middle = map disk c.lay_out_each-place.new.devices in
    inr (record {
      middle = middle;
      laid_out = subst (λ n. AreLaidOut before middle c.args.members.now n) all (laid_out_of _ before _ middle _ c.args.members.now c.lay_out_each-place.result lent refl refl laid.laid_out);
      opened = subst (λ ds. ShowsDevices g.S.Sink (summary_shown (codes "create") c.args.json (texts c.args.images.now)) ds (map disk c.show_created.result.0.items) c.args.out.now c.show_created.new.out c.show_created.result.1) back c.show_created.ensures.gives;
    })
