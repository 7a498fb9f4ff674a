use Rattle.std.proofs.Common.{◌≡◌, Err, None, Ok, inl, inr, refl, rules, subst}
use Rattle.md_words.specs.Asks.{array_ask}
use Rattle.md_cli.specs.AllNamed.{ChecksNamed}
use Rattle.md_cli.specs.Arrays.{disks}
use Rattle.md_cli.proofs.open.devices.change_devices.Goals as goal

pub returns-in-Ok-clause-gives : goal.returns-in-Ok-clause-gives
returns-in-Ok-clause-gives g c =
    let same : c.deref.result.now ≡ c.args.devices.items = search rules in
    let call = c.check_named in
    inl (record {
      asker = call.new.asker;
      notices = call.new.notices;
      goes = subst (λ devices. ChecksNamed g.A.Asker (array_ask c.args.command) None (disks g.D.Device devices) c.args.session.now.asker call.new.asker c.args.notices.now call.new.notices (Ok tt)) same c.in-Ok.ensures;
      does = c.open_devices.ensures.gives;
    })

pub returns-in-Err-clause-gives : goal.returns-in-Err-clause-gives
returns-in-Err-clause-gives g c =
    let same : c.deref.result.now ≡ c.args.devices.items = search rules in
    let call = c.check_named in
    inr (record {
      why = c.in-Err.fault;
      is = refl;
      stays = subst (λ devices. ChecksNamed g.A.Asker (array_ask c.args.command) None (disks g.D.Device devices) c.args.session.now.asker call.new.asker c.args.notices.now call.new.notices (Err c.in-Err.fault)) same c.in-Err.ensures;
      same = refl;
      unused = refl;
    })
