-- The command that compares the members in sync.
use Rattle.std.specs.Prelude.{◌≡◌, ◌*◌, ◌-◌, ◌^◌, ℕ, true, List, min}
use Rattle.md_bitmap.specs.Marks.{count_set}
use Rattle.md_check.specs.Checking.{Checks, ComparesMembers, RefusesCheck}
use Rattle.md_collect.specs.declared.found.Comparison.{Comparison}
use Rattle.md_streams.specs.declared.sink.Sink.{Ghosts}
use Rattle.md_report.specs.AsText.CheckReport.{check_text}
use Rattle.md_notices.specs.Noticing.{in_sync_count}
use Rattle.md_state.specs.View.{ArrayView, MirrorView}
use Rattle.md_refusals.specs.declared.fault.CommandFault.{CommandFault}
use Rattle.md_refusals.specs.declared.fault.CommandFault.TheVariants.{Check, OutputFault}
use Rattle.md_streams.specs.Putting.{PutsOut}

-- how many sectors of the array those in sync have in all, or the most that a u64 tells
abbrev pub sectors_to_read : ArrayView → ℕ
sectors_to_read a = min (in_sync_count a.members * a.chunks.size) (2 ^ 64 - 1)

module _ {S : Type 0} (s : Ghosts S) where
  -- they are compared, and in how many chunks two of them differ is shown
  pub record ChecksMembers (count : ℕ) (old new : MirrorView) (before after : S) : Type 0 where
    pub checks : Checks old new count
    pub shown : PutsOut s before after (check_text count)

  -- they are compared, and the output failed
  pub record ChecksInVain (old new : MirrorView) (after : S) : Type 0 where
    pub count : ℕ
    pub checks : Checks old new count
    pub failed : s.failed after ≡ true

  -- they are not compared, and nothing is put out; or they are, and the output failed
  abbrev pub RefusesToCheck : MirrorView → MirrorView → S → S → CommandFault → Type 0
  RefusesToCheck old new before after (Check fault) = RefusesCheck old new fault × (after ≡ before)
  RefusesToCheck old new before after OutputFault = ChecksInVain old new after
  RefusesToCheck old new before after fault = ⊥

  -- They are compared, and the chunks in which two of them differ are shown with the pairs that do, in a text that is
  -- made of what was found: so many chunks.
  pub record ListsMismatches (text_of : Comparison → List ℕ) (count : ℕ) (old new : MirrorView)
      (before after : S) : Type 0 where
    pub found : Comparison
    pub compares : ComparesMembers old new found
    pub counted : count ≡ count_set found.chunks.bytes found.chunks.chunks
    pub shown : PutsOut s before after (text_of found)

  -- they are compared, and the output failed
  pub record ListsInVain (old new : MirrorView) (after : S) : Type 0 where
    pub found : Comparison
    pub compares : ComparesMembers old new found
    pub failed : s.failed after ≡ true

  abbrev pub RefusesToList : MirrorView → MirrorView → S → S → CommandFault → Type 0
  RefusesToList old new before after (Check fault) = RefusesCheck old new fault × (after ≡ before)
  RefusesToList old new before after OutputFault = ListsInVain old new after
  RefusesToList old new before after fault = ⊥
