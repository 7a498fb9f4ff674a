use Rattle.std.proofs.Common.{◌≡◌, MatchResult, Result, Some, codes, option_map, rules, subst}
use Rattle.md_refusals.specs.declared.fault.CommandFault.{CommandFault}
use Rattle.md_commands.specs.Objects.{summary_shown}
use Rattle.md_commands.specs.ReAdding.{ReAddsDevice, RefusesToReAdd}
use Rattle.md_commands.specs.Stopping.{StopsArrayAfter}
use Rattle.md_state.specs.View.{disk_of}
use Rattle.md_messages.specs.Telling.{texts}
use Rattle.md_cli.specs.Performing.{rebuild_extent}
use Rattle.md_cli.proofs.performing.re_add.Goals as goal

pub returns-clause-re_adds : goal.returns-clause-re_adds
returns-clause-re_adds g c =
    let disk = disk_of g.D.Device in
    let device = disk c.in-Some.device in
    let call = c.re_add_shown-device in
    let is : option_map disk c.args.opened.now.beside ≡ Some device = search rules in
    record {
      device = device;
      is = is;
      kept = call.ensures.device;
      re_adds = subst (λ (r : Result (Unit {0}) CommandFault). MatchResult r (λ _. StopsArrayAfter g.S.Sink (summary_shown (codes "re-add") c.args.json (texts c.args.names.now)) (ReAddsDevice (rebuild_extent c.args.full) device c.args.opened.now.mirror) call.new.mirror c.args.session.now.out call.new.session.out) (RefusesToReAdd g.S.Sink (rebuild_extent c.args.full) device (option_map disk call.result.0) c.args.opened.now.mirror call.new.mirror c.args.session.now.out call.new.session.out)) c.in_ok-re_added.was call.ensures.gives;
    }
