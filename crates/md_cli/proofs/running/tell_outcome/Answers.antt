use Rattle.std.proofs.Common.{Result, subst, sym}
use Rattle.md_refusals.specs.declared.fault.CommandFault.{CommandFault}
use Rattle.md_words.specs.Asks.{ask_of}
use Rattle.md_messages.specs.Telling.{TellsNoticed, texts}
use Rattle.md_streams.proofs.Puts.{told_or_failed}
use Rattle.md_cli.proofs.running.tell_outcome.Goals as goal

pub returns-in-Ok : goal.returns-in-Ok
returns-in-Ok g c =
    let P : Result (Unit {0}) CommandFault → Type 0 = λ o. TellsNoticed g.E.Sink c.args.audience (ask_of c.args.command) (texts c.args.names.now) c.args.gaps.now c.args.err.now c.put_told.new.out o c.args.notices.now in
    subst P (sym c.in-Ok.is) (told_or_failed g.E.Sink c.put_told.result c.put_told.ensures)

pub returns-in-Err : goal.returns-in-Err
returns-in-Err g c =
    let P : Result (Unit {0}) CommandFault → Type 0 = λ o. TellsNoticed g.E.Sink c.args.audience (ask_of c.args.command) (texts c.args.names.now) c.args.gaps.now c.args.err.now c.tell_refusal.new.err o c.args.notices.now in
    subst P (sym c.in-Err.is) c.tell_refusal.ensures
