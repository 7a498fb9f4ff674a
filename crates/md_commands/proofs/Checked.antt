-- A check leaves the array as it is, whatever comes of it. And what the command answers: what was counted, and then the output.
use Rattle.std.proofs.Common.{◌≡◌, ℕ, Result, Ok, Err, MatchResult, ap, subst, sym}
use Rattle.md_inflight.specs.Requests.Pending.{PendingView}
use Rattle.md_state.specs.Requests.{IsPending}
use Rattle.md_state.specs.View.{ArrayView, MirrorView}
use Rattle.md_check.specs.declared.fault.CheckFault.{CheckFault}
use Rattle.md_check.specs.declared.fault.CheckFault.TheVariants as check
use Rattle.md_check.specs.Checking.{Checks, RefusesCheck}
use Rattle.md_streams.specs.declared.sink.Sink.{Ghosts}
use Rattle.md_report.specs.AsText.CheckReport.{check_text}
use Rattle.md_refusals.specs.declared.fault.CommandFault.{CommandFault}
use Rattle.md_commands.specs.Checking.{ChecksMembers, RefusesToCheck}
use Rattle.md_refusals.specs.Output.{FailsOutput}
use Rattle.md_streams.specs.Putting.{PutsOut}

abbrev ChecksOrNot : Result ℕ CheckFault → MirrorView → MirrorView → Type 0
ChecksOrNot result old new = MatchResult result (Checks old new) (RefusesCheck old new)

-- nor does one that is refused
pub refused_stays : (fault : CheckFault) (old new : MirrorView) → RefusesCheck old new fault → new.array ≡ old.array
refused_stays check.Halted old new h = ap (λ (m : MirrorView). m.array) h.unchanged
refused_stays (check.InFlight n) old new h = ap (λ (m : MirrorView). m.array) h.unchanged
refused_stays (check.ReadFault j c) old new h = h.rests.array
refused_stays check.NoMemory old new h = ap (λ (m : MirrorView). m.array) h.unchanged

array_stays : (result : Result ℕ CheckFault) (old new : MirrorView) → ChecksOrNot result old new → new.array ≡ old.array
array_stays (Ok count) old new h = h.rests.array
array_stays (Err fault) old new h = refused_stays fault old new h

-- so each request in flight stays one of the mirror's
pub pending_stays : (result : Result ℕ CheckFault) (old new : MirrorView) → ChecksOrNot result old new → (p : PendingView) → IsPending old.array p → IsPending new.array p
pending_stays result old new h p is = subst (λ (a : ArrayView). IsPending a p) (sym (array_stays result old new h)) is

module _ {S : Type 0} (s : Ghosts S) (old new : MirrorView) (before after : S) where
  pub checked_or_not : (found : ℕ) → Checks old new found → (result : Result ℕ CommandFault)
      → MatchResult result (λ count. (count ≡ found) × PutsOut s before after (check_text found)) (FailsOutput s after)
      → MatchResult result (λ count. ChecksMembers s count old new before after) (RefusesToCheck s old new before after)
  checked_or_not found checks (Ok count) shown = record {
    checks = subst (λ (n : ℕ). Checks old new n) (sym shown.0) checks;
    shown = subst (λ (n : ℕ). PutsOut s before after (check_text n)) (sym shown.0) shown.1;
  }
  checked_or_not found checks (Err fault) fails =
      subst (λ (f : CommandFault). RefusesToCheck s old new before after f) (sym fails.is) (record { count = found; checks = checks; failed = fails.failed })
