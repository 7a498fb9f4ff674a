use Rattle.std.proofs.Common.{◌≡◌, ◌∙◌, Bool, true, false, refl, ap, arith, length, eqb, get_or, ltb}
use Rattle.std.specs.Bool.{MatchBool}
use Rattle.std.proofs.lemmas.Bool.{eqb-true, eqb-false, le-ltb}
use Rattle.std.proofs.lemmas.List.{get_or_default}
use Rattle.md_cert.specs.declared.slots.Slot.{Slot}
use Rattle.md_cert.specs.Plans.{IsPlanned}
use Rattle.md_cert.proofs.SideBySide.{apart}
use Rattle.md_cert.proofs.coverage.is_of.Goals as goal

by_test : (b : Bool) (P : Type 0) → (b ≡ true → P) → (b ≡ false → P → ⊥) → MatchBool b P (P → ⊥)
by_test true P found missed = found refl
by_test false P found missed = missed refl

pub returns-then-at-slots : goal.returns-then-at-slots
returns-then-at-slots c =
    let slots = c.args.slots.now in
    let d : Slot = record { chunk = 0; source = 0; round = 0 } in
    by_test (eqb (get_or slots c.args.at d).chunk c.args.chunk) (IsPlanned slots c.args.chunk)
    (λ same. (c.args.at, get_or slots c.args.at d, c.if-at-slots.true, get_or_default slots c.args.at (get_or slots c.args.at d) d c.if-at-slots.true, eqb-true _ _ same))
    (λ other found. apart (λ (s : Slot). s.chunk) slots c.args.at c.args.chunk c.requires.rising c.requires.below c.requires.from
    (λ within e same. eqb-false _ _ other (ap (λ (s : Slot). s.chunk) (get_or_default slots c.args.at d e within) ∙ same))
    found.0 found.1 found.2 (ap (λ (s : Slot). s.chunk) found.3 ∙ found.4))

pub returns-else-at-slots : goal.returns-else-at-slots
returns-else-at-slots c =
    let slots = c.args.slots.now in
    let d : Slot = record { chunk = 0; source = 0; round = 0 } in
    by_test (ltb c.args.at (length slots)) (IsPlanned slots c.args.chunk)
    (λ within. absurd (let out = le-ltb c.args.at (length slots) c.if-at-slots.false in cc))
    (λ out found. apart (λ (s : Slot). s.chunk) slots c.args.at c.args.chunk c.requires.rising c.requires.below c.requires.from
    (λ within. absurd (let past = c.if-at-slots.false in omega arith))
    found.0 found.1 found.2 (ap (λ (s : Slot). s.chunk) found.3 ∙ found.4))
