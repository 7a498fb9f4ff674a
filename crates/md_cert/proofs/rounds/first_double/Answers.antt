use Rattle.std.proofs.Common.{◌≡◌, ◌∙◌, ◌<◌, ◌+◌, true, false, refl, get_or, sym, ap, subst, arith, length}
use Rattle.md_cert.specs.declared.slots.Slot.{Slot}
use Rattle.md_cert.specs.Plans.{HasTurn, IsRepeat, NoRepeatBelow}
use Rattle.md_cert.specs.Sources.{has}
use Rattle.md_cert.proofs.SeenTurns.{Seen, seen_none, seen_put, seen_skip}
use Rattle.md_cert.proofs.SideBySide.{holds_from}
use Rattle.md_cert.proofs.rounds.first_double.Goals as goal
use Rattle.md_cert.proofs.rounds.first_double.Goals.{then-round-lent+else-has_source, else-round-lent}

pub loop-slot-init : goal.loop-slot-init
loop-slot-init c = seen_none c.args.slots.now c.loop-word.lent (λ k less. c.loop-word.invariant k (omega arith))

pub returns-then-has_source : goal.returns-then-has_source
returns-then-has_source c =
    let slots = c.args.slots.now in
    let i = c.loop-slot.slot-index in
    let d : Slot = record { chunk = 0; source = 0; round = 0 } in
    let slot = get_or slots i d in
    let long : length c.loop-slot.lent ≡ length c.args.lent.now = c.loop-slot.auto.lent ∙ c.loop-word.auto.lent in
    let it : has (get_or c.loop-slot.lent slot.round 0) slot.source ≡ true = sym (c.has_source.ensures ∙ ap (has (get_or c.loop-slot.lent slot.round 0)) c.from.ensures) ∙ c.if-has_source.true in
    let found = c.loop-slot.invariant.only slot.round slot.source c.if-round-lent.true it in (
      i,
      record {
        within = c.loop-slot-test.true;
        in_time = subst (λ n. slot.round < n) long c.if-round-lent.true;
        turn = holds_from (HasTurn slot.source slot.round) slots i d c.loop-slot-test.true (refl, refl);
        earlier = found.0;
        before = found.1;
        same = found.2;
      },
      subst (λ n. NoRepeatBelow slots n i) long c.loop-slot.invariant.none,
    )

pub loop-slot-preserved : goal.loop-slot-preserved
loop-slot-preserved c =
    let slots = c.args.slots.now in
    let i = c.loop-slot.slot-index in
    let d : Slot = record { chunk = 0; source = 0; round = 0 } in
    let slot = get_or slots i d in
    elim c.if-round-lent.branch [
      | then-round-lent+else-has_source w ↦
          let free : has (get_or c.loop-slot.lent slot.round 0) slot.source ≡ false = sym (w.has_source.ensures ∙ ap (has (get_or c.loop-slot.lent slot.round 0)) w.from.ensures) ∙ w.if-has_source.false in
          seen_put slots c.loop-slot.lent i d c.if-round-lent.lent c.loop-slot-test.true (c.requires i d c.loop-slot-test.true) w.if-round-lent.true free w.lent-is c.loop-slot.invariant
      | else-round-lent w ↦
          subst (λ xs. Seen slots xs (i + 1)) (sym w.lent-is) (seen_skip slots c.loop-slot.lent i d c.loop-slot-test.true w.if-round-lent.false c.loop-slot.invariant)
    ]

pub returns : goal.returns
returns c =
    let slots = c.args.slots.now in
    let long : length c.loop-slot.lent ≡ length c.args.lent.now = c.loop-slot.auto.lent ∙ c.loop-word.auto.lent in
    λ source round j less second. c.loop-slot.invariant.none source round j (omega arith) (subst (λ n. IsRepeat slots n source round j) (sym long) second)
