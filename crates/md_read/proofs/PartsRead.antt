-- Parts that are read; what comes of it, whole.
use Rattle.std.proofs.Common.{◌≡◌, ℕ, ◌+◌, ◌*◌, ◌-◌, ◌/◌, ◌%◌, ◌<◌, ◌≤◌, List, length, take, refl, sym, subst, arith, inl, inr}
use Rattle.std.specs.Prelude.{MatchResult, Result, Ok, Err}
use Rattle.std.proofs.lemmas.List.{take_all}
use Rattle.md_laws.proofs.Runs.Rests.{rests_then}
use Rattle.md_state.specs.Rests.{Rests}
use Rattle.md_state.specs.View.{MirrorView}
use Rattle.md_read.specs.Unresynced.{AllFrom, GivesFirstPart, GivesNoPart, GivesPart, GivesPartFront, GivesParts, IsEndedBy, IsSectorMarked, MayReadSectors, ReadsUnresynced, RefusesUnresynced, SourceMayGiveFewer, TriesSource}
use Rattle.md_read.specs.declared.sources.SourceAnswer.{SourceAnswer}
use Rattle.md_read.specs.declared.sources.SourceAnswer.TheVariants as answer
use Rattle.md_read.specs.declared.unresynced_fault.UnresyncedFault.{UnresyncedFault}
use Rattle.md_read.specs.declared.unresynced_fault.UnresyncedFault.TheVariants as fault
use Rattle.md_read.proofs.PartsInTurn.{given_rests, no_part_earlier, part_earlier, part_rests}

-- ---- from the member that a resync copies
module _ (sector : ℕ) (was bytes : List ℕ) (old new : MirrorView) where
  pub tries_rests : (told : SourceAnswer) → TriesSource sector was bytes old new told → Rests old new
  tries_rests answer.All (rests, given) = rests
  tries_rests answer.Nothing (rests, lists) = rests
  tries_rests (answer.Failed k) (rests, one, source, failed, alone) = rests
  tries_rests answer.Several (rests, several, why) = rests

  pub all_given : length bytes ≡ length was → length was % 512 ≡ 0 → AllFrom sector (length was / 512) (IsSectorMarked old.array) → TriesSource sector was bytes old new answer.All
      → GivesPart sector bytes old new
  all_given long whole marked (rests, (from, source, holds)) = inl (record {
    rests = rests;
    whole = omega arith;
    marked = λ s low high. marked s low (omega arith);
    from = from;
    source = λ s low high. source s low (omega arith);
    holds = holds;
  })

  pub nothing_given : 0 < length was / 512 → IsSectorMarked old.array sector → TriesSource sector was bytes old new answer.Nothing → GivesNoPart sector old new (fault.Unreadable sector)
  nothing_given some marked (rests, lists) = record { rests = rests; ends = (refl, inl (marked, lists sector (omega arith) (omega arith))) }

  pub source_failed : (k : ℕ) → 0 < length was / 512 → IsSectorMarked old.array sector → TriesSource sector was bytes old new (answer.Failed k) → GivesNoPart sector old new (fault.ReadFault k sector)
  source_failed k some marked (rests, one, source, failed, alone) = record {
    rests = rests;
    ends = (refl, record { marked = marked; source = source sector (omega arith) (omega arith); failed = failed });
  }

-- all of them
pub front_whole : (sector : ℕ) (was bytes : List ℕ) (old new : MirrorView) → length bytes ≡ length was → 512 ≤ length was → length was % 512 ≡ 0 → GivesPart sector bytes old new
    → GivesPartFront sector was bytes old new (length was / 512)
front_whole sector was bytes old new long some whole given = record {
  some = omega arith;
  few = omega arith;
  given = subst (λ (xs : List ℕ). GivesPart sector xs old new) (sym (take_all (512 * (length was / 512)) bytes (omega arith))) given;
  cut = inl refl;
}

-- the first of them, after they were not given at once
pub first_alone : (sector : ℕ) (was bytes : List ℕ) (old mid new : MirrorView) → Rests old mid → SourceMayGiveFewer sector (length was / 512) old mid → 512 ≤ length was → (r : Result ℕ UnresyncedFault)
    → MatchResult r (GivesFirstPart sector bytes mid new) (GivesNoPart sector mid new) → MatchResult r (GivesPartFront sector was bytes old new) (GivesNoPart sector old new)
first_alone sector was bytes old mid new first why some (Ok n) (one, given) = record {
  some = omega arith;
  few = omega arith;
  given = part_earlier old mid new first sector (take (512 * n) bytes) given;
  cut = inr (inr (record { one = one; mid = mid; why = why; later = part_rests sector (take (512 * n) bytes) mid new given }));
}
first_alone sector was bytes old mid new first why some (Err reason) none = no_part_earlier old mid new first sector reason none

-- ---- where it ends
pub ended : (sector at : ℕ) (bytes : List ℕ) (old mid new : MirrorView) (reason : UnresyncedFault) → GivesNoPart at mid new reason → Rests old mid → sector ≤ at → at < sector + length bytes / 512
    → GivesParts sector (take (512 * (at - sector)) bytes) old mid → IsEndedBy sector bytes reason old new
ended sector at bytes old mid new fault.Halted none first from below given = absurd none.ends
ended sector at bytes old mid new fault.OutOfRange none first from below given = absurd none.ends
ended sector at bytes old mid new (fault.Unreadable s) none first from below given =
    let same : s ≡ at = none.ends.0 in
    record {
      rests = rests_then old mid new first none.rests;
      from = omega arith;
      below = omega arith;
      mid = mid;
      earlier = subst (λ (x : ℕ). GivesParts sector (take (512 * (x - sector)) bytes) old mid) (sym same) given;
      later = none.rests;
      ends = (refl, none.ends.1);
    }
ended sector at bytes old mid new (fault.ReadFault k s) none first from below given =
    let same : s ≡ at = none.ends.0 in
    record {
      rests = rests_then old mid new first none.rests;
      from = omega arith;
      below = omega arith;
      mid = mid;
      earlier = subst (λ (x : ℕ). GivesParts sector (take (512 * (x - sector)) bytes) old mid) (sym same) given;
      later = none.rests;
      ends = (refl, none.ends.1);
    }

-- ---- all of it
module _ (old new : MirrorView) (sector : ℕ) (bytes : List ℕ) where
  pub unresynced_rests : {T : Type 0} (r : Result T UnresyncedFault) → MatchResult r (λ _. GivesParts sector bytes old new) (λ reason. IsEndedBy sector bytes reason old new) → Rests old new
  unresynced_rests (Ok x) given = given_rests sector bytes old new given
  unresynced_rests (Err fault.Halted) ends = absurd ends
  unresynced_rests (Err fault.OutOfRange) ends = absurd ends
  unresynced_rests (Err (fault.Unreadable s)) ends = ends.rests
  unresynced_rests (Err (fault.ReadFault k s)) ends = ends.rests

  pub unresynced_answer : {T : Type 0} (r : Result T UnresyncedFault) → MayReadSectors old.array sector (length bytes / 512)
      → MatchResult r (λ _. GivesParts sector bytes old new) (λ reason. IsEndedBy sector bytes reason old new)
      → MatchResult r (λ _. ReadsUnresynced sector bytes old new) (RefusesUnresynced sector bytes old new)
  unresynced_answer (Ok x) may given = record { may = may; rests = given_rests sector bytes old new given; given = given }
  unresynced_answer (Err fault.Halted) may ends = absurd ends
  unresynced_answer (Err fault.OutOfRange) may ends = absurd ends
  unresynced_answer (Err (fault.Unreadable s)) may ends = (may, ends)
  unresynced_answer (Err (fault.ReadFault k s)) may ends = (may, ends)
