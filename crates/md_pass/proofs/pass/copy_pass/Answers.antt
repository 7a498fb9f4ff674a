use Rattle.std.proofs.Common.{rules, ◌≡◌, ap, refl, Err, List, subst}
use Rattle.std.specs.List.{All}
use Rattle.std.specs.Prelude.{MatchResult, OnOk}
use Rattle.md_cert.specs.declared.slots.Slot.{Slot}
use Rattle.md_collect.specs.Workers.Gates.{IsTold}
use Rattle.md_collect.specs.Reports.{Copying}
use Rattle.md_pass.specs.declared.fault.PassFault.TheVariants.{NoMemory}
use Rattle.md_pass.specs.Copied.{BreaksOff, EndsPass, WritesPlanned, pass_state}
use Rattle.md_pass.specs.Preparing.{sources_of}
use Rattle.md_pass.specs.Sources.{copy_of}
use Rattle.md_pass.proofs.PassSources.{can_copy, gives_of_all, nothing_written}
use Rattle.md_pass.proofs.pass.copy_pass.Goals as goal

pub returns-in_err-prepared-clause-gives : goal.returns-in_err-prepared-clause-gives
returns-in_err-prepared-clause-gives g c =
    let is : c.from_residual.result ≡ Err NoMemory = search rules in
    rw is refl

pub returns-in_err-prepared-clause-writes : goal.returns-in_err-prepared-clause-writes
returns-in_err-prepared-clause-writes g c =
    nothing_written g.D.Device (copy_of c.args.pass.now.plan.now.slots c.args.pass.now.chunks c.args.pass.now.offset) (pass_state c.args.devices.now.items c.args.target.now c.args.copied.now)

pub copy_prepared-requires-clause-can : goal.copy_prepared-requires-clause-can
copy_prepared-requires-clause-can g c κs within =
    can_copy g.D.Device c.args.pass.now.plan.now.slots c.args.pass.now.chunks c.args.pass.now.offset c.args.pass.now.sources.now c.in_ok-prepared.prepared (pass_state c.args.devices.now.items c.args.target.now c.args.copied.now)
    c.in_ok-prepared.ensures c.requires.planned c.requires.sources c.requires.room c.requires.marks c.requires.uncopied

pub returns-clause-gives : goal.returns-clause-gives
returns-clause-gives g c =
    let slots = c.args.pass.now.plan.now.slots in
    let sources = c.args.pass.now.sources.now in
    let copy = copy_of slots c.args.pass.now.chunks c.args.pass.now.offset in
    let p = c.in_ok-prepared.prepared in
    let old = pass_state c.args.devices.now.items c.args.target.now c.args.copied.now in
    let new = pass_state c.copy_prepared.new.devices.items c.copy_prepared.new.target c.copy_prepared.new.copied in
    gives_of_all g.D.Device copy sources old new c.copy_prepared.result c.copy_prepared.ensures.writes.sources c.requires.sources.within
    (subst (λ (ss : _). MatchResult c.copy_prepared.result (EndsPass g.D.Device copy ss old new) (BreaksOff g.D.Device old new)) c.in_ok-prepared.ensures.reads
    (subst (λ (x : Copying). MatchResult c.copy_prepared.result (EndsPass g.D.Device x (sources_of p) old new) (BreaksOff g.D.Device old new)) c.in_ok-prepared.ensures.copy c.copy_prepared.ensures.gives))

pub returns-clause-writes : goal.returns-clause-writes
returns-clause-writes g c =
    subst (λ (x : Copying). WritesPlanned g.D.Device x (pass_state c.args.devices.now.items c.args.target.now c.args.copied.now) (pass_state c.copy_prepared.new.devices.items c.copy_prepared.new.target c.copy_prepared.new.copied))
    c.in_ok-prepared.ensures.copy c.copy_prepared.ensures.writes

pub returns-clause-told : goal.returns-clause-told
returns-clause-told g c =
    subst (λ (slots : List Slot). OnOk c.copy_prepared.result (All (λ (slot : Slot). IsTold g.G.Gate c.args.workers.now.gate.now slot.source slot.chunk) slots)) (ap (λ (x : Copying). x.slots) c.in_ok-prepared.ensures.copy) c.copy_prepared.ensures.told
