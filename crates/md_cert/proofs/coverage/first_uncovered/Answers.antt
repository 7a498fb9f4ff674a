use Rattle.std.proofs.Common.{◌≢◌, ap, get_or}
use Rattle.std.proofs.lemmas.Bool.{MatchBool-at_true}
use Rattle.std.proofs.lemmas.List.{get_or_default}
use Rattle.std.proofs.lemmas.List.Elements.{AllWithin-more}
use Rattle.md_cert.specs.declared.table.Row.{Row}
use Rattle.md_cert.specs.declared.slots.Slot.{Slot}
use Rattle.md_cert.specs.Plans.{IsPlanned}
use Rattle.md_cert.proofs.SideBySide.{below_more, holds_from}
use Rattle.md_cert.proofs.coverage.first_uncovered.Goals as goal
use Rattle.md_cert.proofs.coverage.first_uncovered.Goals.{else-row-ne0-via-then-row-ne0+else-not-is_of, else-row-ne0-via-else-row-ne0}

pub loop-row-preserved : goal.loop-row-preserved
loop-row-preserved c =
    let slots = c.args.slots.now in
    let rows = c.args.rows.now in
    let i = c.loop-row.row-index in
    let d : Row = record { chunk = 0; mask = 0 } in
    record {
      within = c.seek_slot-at.ensures.within;
      front = below_more (λ (s : Slot). s.chunk) (λ (r : Row). r.chunk) slots c.seek_slot-at.result rows i _ c.requires.table.rising c.seek_slot-at.ensures.below
          (λ y. ap (λ (r : Row). r.chunk) (get_or_default rows i y d c.loop-row-test.true));
      covered = AllWithin-more (λ (r : Row). r.mask ≢ 0 → IsPlanned slots r.chunk) rows 0 i c.loop-row.invariant.covered
          (holds_from (λ (r : Row). r.mask ≢ 0 → IsPlanned slots r.chunk) rows i d c.loop-row-test.true
          (elim c.else-row-ne0.branch [
            | else-row-ne0-via-then-row-ne0+else-not-is_of w ↦ λ some. MatchBool-at_true (IsPlanned slots (get_or rows i d).chunk) (IsPlanned slots (get_or rows i d).chunk → ⊥) w.if-not-is_of.false w.is_of.ensures
            | else-row-ne0-via-else-row-ne0 w ↦ λ some. absurd (some w.if-row-ne0.false)
          ]));
    }
