use Rattle.std.proofs.Common.{rules, ◌≡◌, ℕ, length, refl, subst}
use Rattle.std.specs.Prelude.{Err, ◌<◌}
use Rattle.md_refusals.specs.declared.fault.CommandFault.TheVariants.{BadMember}
use Rattle.md_commands.specs.Salvaging.{salvaged_object_line, SalvagesResynced, RefusesSalvaging}
use Rattle.md_commands.specs.Stopping.{StopsAfter}
use Rattle.md_commands.proofs.Salvaged.{not_salvaged, salvaged_or_not}
use Rattle.md_commands.proofs.salvaging.salvage_member_json.Goals as goal

pub returns-in_err-k-clause-gives : goal.returns-in_err-k-clause-gives
returns-in_err-k-clause-gives g c =
    let is : c.from_residual.result ≡ Err BadMember = search rules in
    rw is (record { unchanged = refl; reason = c.in_err-k.ensures.1 }, refl)

pub returns-in_err-told-clause-gives : goal.returns-in_err-told-clause-gives
returns-in_err-told-clause-gives g c =
    let old = c.args.mirror.now in
    let fault = c.in_err-told.field-0.0 in
    let is : c.from_residual-in_err-told.result ≡ Err fault = search rules in
    let same = c.in_ok-k.ensures.0 in
    let there = subst (λ (n : ℕ). n < length old.array.members) same c.in_ok-k.ensures.1 in
    let refused = subst (λ (n : ℕ). RefusesSalvaging n old c.salvage_and_stop.new.mirror fault) same c.in_err-told.ensures.gives in
    rw is (not_salvaged g.S.Sink c.args.member old c.salvage_and_stop.new.mirror c.args.out.now there fault refused)

pub returns-clause-gives : goal.returns-clause-gives
returns-clause-gives g c =
    let old = c.args.mirror.now in
    let new = c.salvage_and_stop.new.mirror in
    let told = c.in_ok-told.told in
    let done = subst (λ (n : ℕ). StopsAfter (SalvagesResynced n told old) new) c.in_ok-k.ensures.0 c.in_ok-told.ensures.gives in
    salvaged_or_not g.S.Sink c.args.member old new c.args.out.now (salvaged_object_line c.args.member) c.put_salvaged_json.new.out told done c.put_salvaged_json.result c.put_salvaged_json.ensures
