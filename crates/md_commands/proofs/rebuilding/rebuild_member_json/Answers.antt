use Rattle.std.proofs.Common.{rules, ◌≡◌, ℕ, length, refl, subst}
use Rattle.std.specs.Prelude.{Err, ◌<◌}
use Rattle.md_refusals.specs.declared.fault.CommandFault.TheVariants.{BadMember}
use Rattle.md_commands.specs.Objects.{rebuilt_object_line}
use Rattle.md_commands.specs.Rebuilding.{RebuildsResynced, RefusesReadied}
use Rattle.md_commands.specs.Stopping.{StopsAfter}
use Rattle.md_commands.proofs.Rebuilt.{not_rebuilt, rebuilt_or_not}
use Rattle.md_commands.proofs.rebuilding.rebuild_member_json.Goals as goal

pub returns-in_err-k-clause-gives : goal.returns-in_err-k-clause-gives
returns-in_err-k-clause-gives g c =
    let is : c.from_residual.result ≡ Err BadMember = search rules in
    rw is (record { unchanged = refl; reason = c.in_err-k.ensures.1 }, refl)

pub returns-in_err-told-clause-gives : goal.returns-in_err-told-clause-gives
returns-in_err-told-clause-gives g c =
    let old = c.args.mirror.now in
    let fault = c.in_err-told.field-0.0 in
    let is : c.from_residual-in_err-told.result ≡ Err fault = search rules in
    let same = c.in_ok-k.ensures.0 in
    let there = subst (λ (n : ℕ). n < length old.array.members) same c.in_ok-k.ensures.1 in
    let refused = subst (λ (n : ℕ). RefusesReadied n old c.rebuild_and_stop.new.mirror fault) same c.in_err-told.ensures.gives in
    rw is (not_rebuilt g.S.Sink c.args.member old c.rebuild_and_stop.new.mirror c.args.out.now there fault refused)

pub returns-clause-gives : goal.returns-clause-gives
returns-clause-gives g c =
    let old = c.args.mirror.now in
    let new = c.rebuild_and_stop.new.mirror in
    let told = c.in_ok-told.told in
    let done = subst (λ (n : ℕ). StopsAfter (RebuildsResynced n told old) new) c.in_ok-k.ensures.0 c.in_ok-told.ensures.gives in
    rebuilt_or_not g.S.Sink c.args.member old new c.args.out.now (rebuilt_object_line c.args.member) c.put_rebuilt_json.new.out told done c.put_rebuilt_json.result c.put_rebuilt_json.ensures
