-- What the command that compares answers: what was found, and then the output.
use Rattle.std.proofs.Common.{◌≡◌, ◌∙◌, ℕ, List, Result, Ok, Err, sym, subst}
use Rattle.std.specs.Prelude.{MatchResult}
use Rattle.md_array.specs.Consistency.{IsConsistent}
use Rattle.md_bitmap.specs.Marks.{count_set}
use Rattle.md_check.specs.Checking.{ComparesMembers}
use Rattle.md_collect.specs.Found.{IsSized}
use Rattle.md_collect.specs.declared.found.Comparison.{Comparison}
use Rattle.md_streams.specs.declared.sink.Sink.{Ghosts}
use Rattle.md_state.specs.View.{MirrorView}
use Rattle.md_refusals.specs.declared.fault.CommandFault.{CommandFault}
use Rattle.md_commands.specs.Checking.{ListsMismatches, RefusesToList}
use Rattle.md_refusals.specs.Output.{FailsOutput}
use Rattle.md_streams.specs.Putting.{PutsOut}

module _ {S : Type 0} (s : Ghosts S) (old new : MirrorView) (before after : S) where
  pub listed_or_not : (text_of : Comparison → List ℕ) (found : Comparison) → ComparesMembers old new found → (result : Result ℕ CommandFault)
      → MatchResult result (λ count. (count ≡ count_set found.chunks.bytes found.chunks.chunks) × PutsOut s before after (text_of found)) (FailsOutput s after)
      → MatchResult result (λ count. ListsMismatches s text_of count old new before after) (RefusesToList s old new before after)
  listed_or_not text_of found compares (Ok count) shown = record { found = found; compares = compares; counted = shown.0; shown = shown.1 }
  listed_or_not text_of found compares (Err fault) fails =
      subst (λ (f : CommandFault). RefusesToList s old new before after f) (sym fails.is) (record { found = found; compares = compares; failed = fails.failed })

-- each set is one of the array's chunks
pub found_sized : (old new : MirrorView) (found : Comparison) → IsConsistent old → ComparesMembers old new found → IsSized old.array.chunks found
found_sized old new found sound compares = record {
  sized = compares.finds.chunks ∙ sound.chunks.count;
  pairs_sized = λ p d below. compares.sized p d below ∙ sound.chunks.count;
}
