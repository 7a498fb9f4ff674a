-- What a command puts out.
use Rattle.std.specs.Prelude.{◌≡◌, ℕ, true, List, Result, MatchResult}
use Rattle.md_streams.specs.declared.sink.Sink.{Ghosts}
use Rattle.md_streams.specs.Putting.{PutsOut}
use Rattle.md_refusals.specs.declared.fault.CommandFault.{CommandFault}
use Rattle.md_refusals.specs.declared.fault.CommandFault.TheVariants.{OutputFault}

-- The output failed.
pub record FailsOutput {S : Type 0} (s : Ghosts S) (new : S) (fault : CommandFault) : Type 0 where
  pub is : fault ≡ OutputFault
  pub failed : s.failed new ≡ true

-- a text is put out, or the output failed
abbrev pub ShowsText : {S : Type 0} → Ghosts S → List ℕ → S → S → Result (Unit {0}) CommandFault → Type 0
ShowsText s text old new result = MatchResult result (λ _. PutsOut s old new text) (FailsOutput s new)
