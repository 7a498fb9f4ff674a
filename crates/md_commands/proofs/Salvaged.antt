-- What the command that salvages answers: the parts of it together.
use Rattle.std.proofs.Common.{ℕ, List, Result, Ok, Err, MatchResult, refl, sym, subst}
use Rattle.md_copy.specs.declared.salvaging.salvaged.Salvaged.{Salvaged}
use Rattle.md_streams.specs.declared.sink.Sink.{Ghosts}
use Rattle.md_state.specs.View.{MirrorView}
use Rattle.md_refusals.specs.declared.fault.CommandFault.{CommandFault}
use Rattle.md_refusals.specs.declared.fault.CommandFault.TheVariants.{Rebuild, Resync, Stop}
use Rattle.md_commands.specs.Failing.{HasMember}
use Rattle.md_refusals.specs.Output.{FailsOutput}
use Rattle.md_streams.specs.Putting.{PutsOut}
use Rattle.md_commands.specs.Salvaging.{RefusesSalvaging, RefusesToSalvage, SalvagesArray, SalvagesResynced}
use Rattle.md_commands.specs.Stopping.{StopsAfter}

module _ {S : Type 0} (s : Ghosts S) (k : ℕ) (old new : MirrorView) (before : S) where
  pub not_salvaged : HasMember old.array k → (fault : CommandFault) → RefusesSalvaging k old new fault → RefusesToSalvage s k old new before before fault
  not_salvaged member (Resync fault) h = record { member = member; refused = h; unwritten = refl }
  not_salvaged member (Rebuild fault) h = record { member = member; refused = h; unwritten = refl }
  not_salvaged member (Stop fault) h = record { member = member; refused = h; unwritten = refl }
  not_salvaged member fault h = absurd h

  pub salvaged_or_not : (text_of : Salvaged → List ℕ) (after : S) (told : Salvaged) → StopsAfter (SalvagesResynced k told old) new → (result : Result (Unit {0}) CommandFault)
      → MatchResult result (λ _. PutsOut s before after (text_of told)) (FailsOutput s after)
      → MatchResult result (λ _. SalvagesArray s k old new before after text_of) (RefusesToSalvage s k old new before after)
  salvaged_or_not text_of after told done (Ok x) shown = record { told = told; done = done; shown = shown }
  salvaged_or_not text_of after told done (Err fault) fails =
      subst (λ (f : CommandFault). RefusesToSalvage s k old new before after f) (sym fails.is) (record { told = told; done = done; failed = fails.failed })
