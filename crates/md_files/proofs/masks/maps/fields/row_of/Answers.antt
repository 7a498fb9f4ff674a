use Rattle.std.proofs.Common.{sym, refl, ◌∙◌}
use Rattle.md_files.proofs.MaskLemmas.MapLemmas.Words.{one_is, four_are, one_other, four_others}
use Rattle.md_files.proofs.masks.maps.fields.row_of.Goals.{then-is_empty-2-via-then-is_empty-2, then-is_empty-2-via-else-is_empty-2+then-not-is_empty}
use Rattle.md_files.proofs.masks.maps.fields.row_of.Goals as goal

pub returns-then-is_empty-2 : goal.returns-then-is_empty-2
returns-then-is_empty-2 c =
    let first = sym c.is_empty.ensures ∙ c.if-is_empty.false in
    elim c.then-is_empty-2.branch [
      | then-is_empty-2-via-then-is_empty-2 w ↦
          let is = one_is c.args.line.now c.next_field.result.1.now c.next_field.result.0.now c.next_field-2.result.0.now c.next_field-2.result.1.now
          c.next_field.ensures.fields c.next_field-2.ensures.fields first (sym c.is_empty-2.ensures ∙ w.if-is_empty-2.true) in
          let other = one_other _ _ is in
          (refl, other.0, other.1, other.2)
      | then-is_empty-2-via-else-is_empty-2+then-not-is_empty w ↦
          let is = four_are c.args.line.now c.next_field.result.1.now c.next_field-2.result.1.now c.next_field-3.result.1.now c.next_field-4.result.1.now
          c.next_field.result.0.now c.next_field-2.result.0.now c.next_field-3.result.0.now c.next_field-4.result.0.now
          c.next_field.ensures.fields c.next_field-2.ensures.fields c.next_field-3.ensures.fields c.next_field-4.ensures.fields c.next_field-3.ensures.end
          first (sym c.is_empty-2.ensures ∙ w.if-is_empty-2.false) (sym w.is_empty-else-is_empty-2.ensures ∙ w.if-not-is_empty.true) in
          let other = four_others _ _ _ _ _ _ is in
          (refl, other.0, other.1, other.2)
    ]
