use Rattle.std.proofs.Common.{◌≡◌, ◌∙◌, Ok, Err, Some, ap, inl, inr, refl, rules, subst, sym, true≢false}
use Rattle.std.specs.Prelude.{is_some}
use Rattle.md_words.specs.Asks.{ask_of}
use Rattle.md_cli.specs.AllNamed.{ChecksNamed}
use Rattle.md_cli.specs.Arrays.{disks}
use Rattle.md_cli.proofs.growing.grow_named.Goals as goal

-- no image is to join
pub check_named-requires-clause-brings : goal.check_named-requires-clause-brings
check_named-requires-clause-brings g c κs within = λ there. absurd (true≢false (sym there ∙ ap is_some c.requires.none))

pub returns-in-Ok-clause-gives : goal.returns-in-Ok-clause-gives
returns-in-Ok-clause-gives g c =
    let same : c.deref.result.now ≡ c.args.devices.items = search rules in
    let call = c.check_named in
    inl (record {
      asker = call.new.asker;
      notices = call.new.notices;
      goes = subst (λ devices. ChecksNamed g.A.Asker (ask_of c.args.command) (Some c.args.chunk_bytes) (disks g.D.Device devices) c.args.session.now.asker call.new.asker c.args.notices.now call.new.notices (Ok tt)) same c.in-Ok.ensures;
      does = (refl, c.grow_on.ensures.gives);
    })

pub returns-in-Err-clause-gives : goal.returns-in-Err-clause-gives
returns-in-Err-clause-gives g c =
    let same : c.deref.result.now ≡ c.args.devices.items = search rules in
    let call = c.check_named in
    inr (record {
      why = c.in-Err.fault;
      is = refl;
      stays = subst (λ devices. ChecksNamed g.A.Asker (ask_of c.args.command) (Some c.args.chunk_bytes) (disks g.D.Device devices) c.args.session.now.asker call.new.asker c.args.notices.now call.new.notices (Err c.in-Err.fault)) same c.in-Err.ensures;
      same = refl;
      unused = refl;
    })
