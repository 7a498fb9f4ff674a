use Rattle.std.proofs.Common.{◌≡◌, ◌∙◌, true, sym, ap, get_or}
use Rattle.std.proofs.lemmas.List.{get_or_default}
use Rattle.std.proofs.lemmas.List.Elements.{AllWithin-more}
use Rattle.md_cert.specs.declared.table.Row.{Row}
use Rattle.md_cert.specs.declared.slots.Slot.{Slot}
use Rattle.md_cert.specs.Sources.{has}
use Rattle.md_cert.specs.Tables.{mask_of_chunk}
use Rattle.md_cert.proofs.SideBySide.{below_more, holds_from}
use Rattle.md_cert.proofs.coverage.first_forbidden.Goals as goal

pub loop-slot-preserved : goal.loop-slot-preserved
loop-slot-preserved c =
    let slots = c.args.slots.now in
    let rows = c.args.rows.now in
    let i = c.loop-slot.slot-index in
    let d : Slot = record { chunk = 0; source = 0; round = 0 } in
    record {
      within = c.seek_row-at.ensures.within;
      front = below_more (λ (r : Row). r.chunk) (λ (s : Slot). s.chunk) rows c.seek_row-at.result slots i _ c.requires.rising c.seek_row-at.ensures.below
          (λ y. ap (λ (s : Slot). s.chunk) (get_or_default slots i y d c.loop-slot-test.true));
      allowed = AllWithin-more (λ (s : Slot). has (mask_of_chunk rows s.chunk) s.source ≡ true) slots 0 i c.loop-slot.invariant.allowed
          (holds_from (λ (s : Slot). has (mask_of_chunk rows s.chunk) s.source ≡ true) slots i d c.loop-slot-test.true
          (ap (λ n. has n (get_or slots i d).source) (sym c.mask_at-mask.ensures) ∙ ap (has c.mask_at-mask.result) (sym c.from.ensures) ∙ sym c.has_source.ensures ∙ c.if-not-has_source.false));
    }
