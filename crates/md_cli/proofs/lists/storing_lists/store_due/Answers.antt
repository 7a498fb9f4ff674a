use Rattle.std.proofs.Common.{◌∙◌, ap, inl, inr, refl, sym}
use Rattle.md_refusals.specs.declared.fault.CommandFault.TheVariants.{Rebuild}
use Rattle.md_cli.proofs.Stored.{due_as_many, due_sound, not_due_as_many}
use Rattle.md_cli.proofs.lists.storing_lists.store_due.Goals as goal

pub returns-then-halted-clause-gives : goal.returns-then-halted-clause-gives
returns-then-halted-clause-gives g c = inl (sym c.halted.ensures ∙ c.if-halted.true, refl)

pub store_records-requires-clause-running : goal.store_records-requires-clause-running
store_records-requires-clause-running g c = sym c.halted.ensures ∙ c.if-halted.false

pub returns-in-Ok-clause-gives : goal.returns-in-Ok-clause-gives
returns-in-Ok-clause-gives g c = inr c.in-Ok.ensures.gives

pub returns-in-Ok-clause-as_many : goal.returns-in-Ok-clause-as_many
returns-in-Ok-clause-as_many g c = due_as_many c.args.mirror.now c.store_records.new.mirror c.requires.sound (inr c.in-Ok.ensures.gives)

pub returns-in-Ok-clause-sound : goal.returns-in-Ok-clause-sound
returns-in-Ok-clause-sound g c = due_sound c.args.mirror.now c.store_records.new.mirror c.requires.sound (inr c.in-Ok.ensures.gives)

pub returns-in-Err-clause-gives : goal.returns-in-Err-clause-gives
returns-in-Err-clause-gives g c = record { why = c.in-Err.why; is = ap Rebuild c.fault_of_part.ensures; fails = c.in-Err.ensures.gives }

pub returns-in-Err-clause-as_many : goal.returns-in-Err-clause-as_many
returns-in-Err-clause-as_many g c = not_due_as_many c.args.mirror.now c.store_records.new.mirror c.in-Err.why c.requires.sound c.in-Err.ensures.gives
