-- Why a command is refused, as a JSON object.
use Rattle.std.specs.Prelude.{◌≡◌, ◌⊎◌, ℕ, Bool, true, false, List, Option, Result, Ok, Err}
use Rattle.md_refusals.specs.declared.fault.CommandFault.{CommandFault}
use Rattle.md_streams.specs.Putting.{PutsOut}
use Rattle.md_streams.specs.declared.sink.Sink.{Ghosts}
use Rattle.md_messages.specs.FaultText.Commands.{fault_text, told_fault}
use Rattle.md_report.specs.AsJson.Objects.{object_line}
use Rattle.md_report.specs.AsJson.RefusalObject.{refusal_object}

-- The line of such an object: the fault, the line of standard error, and what to do, of whose words nothing is said here.
abbrev pub refusal_object_line : CommandFault → Option (List ℕ) → List ℕ
refusal_object_line why advice = object_line (refusal_object (fault_text why) (told_fault why) advice)

module _ {S : Type 0} (s : Ghosts S) where
  -- The object is put out, or the output has failed.
  abbrev pub PutsObject : S → S → CommandFault → Type 0
  PutsObject old new why =
      ((advice : Option (List ℕ)) × PutsOut s old new (refusal_object_line why advice))
      ⊎ (s.failed new ≡ true)

  -- Of a command whose report was to be a JSON object; else the output stays as it is, as where there is no memory for the object.
  abbrev pub ShowsWhy : Bool → S → S → CommandFault → Type 0
  ShowsWhy false old new why = new ≡ old
  ShowsWhy true old new why = (new ≡ old) ⊎ PutsObject old new why

  -- What is shown of the answer of a command beside its report.
  abbrev pub ShowsIfRefused : Bool → S → S → Result (Unit {0}) CommandFault → Type 0
  ShowsIfRefused json old new (Ok _) = new ≡ old
  ShowsIfRefused json old new (Err why) = ShowsWhy json old new why
