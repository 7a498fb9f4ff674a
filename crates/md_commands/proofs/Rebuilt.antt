-- What the commands that rebuild answer: the parts of it together.
use Rattle.std.proofs.Common.{ℕ, List, Option, Result, Ok, Err, MatchResult, refl, sym, subst}
use Rattle.md_copy.specs.declared.rebuilt.Rebuilt.{Rebuilt}
use Rattle.md_streams.specs.declared.sink.Sink.{Ghosts}
use Rattle.md_state.specs.View.{ArrayView, Disk, MirrorView}
use Rattle.md_metadata.specs.declared.coming_back.extent_of_rebuild.RebuildExtent.{RebuildExtent}
use Rattle.md_refusals.specs.declared.fault.CommandFault.{CommandFault}
use Rattle.md_refusals.specs.declared.fault.CommandFault.TheVariants.{ReAdd, Rebuild, Resync, Stop}
use Rattle.md_commands.specs.Failing.{HasMember}
use Rattle.md_refusals.specs.Output.{FailsOutput}
use Rattle.md_streams.specs.Putting.{PutsOut}
use Rattle.md_commands.specs.ReAdding.{ComesBackReadied, RebuildsMember, ReAddsDevice, RefusesRebuilding, RefusesToReAdd}
use Rattle.md_commands.specs.Rebuilding.{RebuildsArray, RebuildsResynced, RefusesReadied, RefusesToRebuild}
use Rattle.md_commands.specs.Stopping.{RefusesToStop, StopsAfter, StopsArray, StopsArrayAfter}

module _ {S : Type 0} (s : Ghosts S) (k : ℕ) (old new : MirrorView) (before : S) where
  pub not_rebuilt : HasMember old.array k → (fault : CommandFault) → RefusesReadied k old new fault → RefusesToRebuild s k old new before before fault
  not_rebuilt member (Resync fault) h = record { member = member; refused = h; unwritten = refl }
  not_rebuilt member (Rebuild fault) h = record { member = member; refused = h; unwritten = refl }
  not_rebuilt member (Stop fault) h = record { member = member; refused = h; unwritten = refl }
  not_rebuilt member fault h = absurd h

  pub rebuilt_or_not : (text_of : Rebuilt → List ℕ) (after : S) (told : Rebuilt) → StopsAfter (RebuildsResynced k told old) new → (result : Result (Unit {0}) CommandFault)
      → MatchResult result (λ _. PutsOut s before after (text_of told)) (FailsOutput s after)
      → MatchResult result (λ _. RebuildsArray s k old new before after text_of) (RefusesToRebuild s k old new before after)
  rebuilt_or_not text_of after told done (Ok x) shown = record { told = told; done = done; shown = shown }
  rebuilt_or_not text_of after told done (Err fault) fails =
      subst (λ (f : CommandFault). RefusesToRebuild s k old new before after f) (sym fails.is) (record { told = told; done = done; failed = fails.failed })

-- a member that came back is rebuilt, and the array stopped, or not
module _ {S : Type 0} (s : Ghosts S) (k : ℕ) (old mid new : MirrorView) (before after : S) where
  pub shown_or_not : (text_of : ArrayView → List ℕ) → RebuildsMember k old mid → (result : Result (Unit {0}) CommandFault)
      → MatchResult result (λ _. StopsArray s text_of mid new before after) (RefusesToStop s mid new before after)
      → MatchResult result (λ _. StopsArrayAfter s text_of (RebuildsMember k old) new before after) (RefusesRebuilding s k old new before after)
  shown_or_not text_of rebuilds (Ok x) h = record { mid = mid; through = rebuilds; stops = h }
  shown_or_not text_of rebuilds (Err (Rebuild fault)) h = absurd h
  shown_or_not text_of rebuilds (Err fault) h = record { mid = mid; through = rebuilds; refused = h }

module _ {S : Type 0} (s : Ghosts S) (extent : RebuildExtent) (k : ℕ) (device : Disk) (given : Option Disk) (old joined new : MirrorView) (before after : S) where
  pub re_added_or_not : (text_of : ArrayView → List ℕ) → ComesBackReadied extent k device old joined → (result : Result (Unit {0}) CommandFault)
      → MatchResult result (λ _. StopsArrayAfter s text_of (RebuildsMember k joined) new before after) (RefusesRebuilding s k joined new before after)
      → MatchResult result (λ _. StopsArrayAfter s text_of (ReAddsDevice extent device old) new before after) (RefusesToReAdd s extent device given old new before after)
  re_added_or_not text_of comes (Ok x) h = record {
    mid = h.mid;
    through = record { k = k; joined = joined; comes = comes; rebuilds = h.through };
    stops = h.stops;
  }
  re_added_or_not text_of comes (Err (Rebuild fault)) h = (record { k = k; joined = joined; comes = comes; refused = h.0 }, h.1)
  re_added_or_not text_of comes (Err (Resync fault)) h = absurd h.refused
  re_added_or_not text_of comes (Err (ReAdd fault)) h = absurd h.refused
  re_added_or_not text_of comes (Err fault) h = record {
    mid = h.mid;
    through = record { k = k; joined = joined; comes = comes; rebuilds = h.through };
    refused = h.refused;
  }
