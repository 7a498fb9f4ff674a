use Rattle.std.proofs.Common.{◌≡◌, ◌∙◌, ◌⊎◌, ℕ, ◌+◌, ◌-◌, ◌*◌, ◌^◌, ◌<◌, ◌≤◌, inl, inr, min, string_bytes, ap, arith}
use Rattle.std.proofs.lemmas.Result.{IfOk-weaker}
use Rattle.md_badblocks.proofs.Rising.{bad_below}
use Rattle.md_files.specs.Masks.Maps.Writing.{IsMapOfRead, map_text}
use Rattle.md_files.proofs.masks.maps.map_text.write_map_of_read.Goals as goal

-- no sector from the end on is left
pub write_map-requires-clause-within : goal.write_map-requires-clause-within
write_map-requires-clause-within c sector bad =
    let kept = ((c.in_ok-remove-2.ensures.ok sector).0 bad).0 in
    let there = (c.in_ok-remove.ensures.ok sector).0 kept in
    let low = bad_below 0 c.remove.new.self sector c.in_ok-remove.ensures.canonical kept in
    elim there.1 [
      | inl below ↦ omega arith
      | inr past ↦ omega arith
    ]

-- nor any before the first
pub write_map-requires-clause-tried : goal.write_map-requires-clause-tried
write_map-requires-clause-tried c sector bad =
    let there = (c.in_ok-remove-2.ensures.ok sector).0 bad in
    elim there.1 [
      | inl below ↦ absurd (omega arith)
      | inr past ↦ omega arith
    ]

-- a sector that is left is one of those that were read
is_read : (sector end first s : ℕ) → first ≡ min sector end → s < 2 ^ 54 → (s < 0) ⊎ (0 + first ≤ s) → (s < end) ⊎ (end + (2 ^ 54 - end) ≤ s) → (sector ≤ s) × (s < end)
is_read sector end first s is low (inl none) last = absurd (omega (arith, none))
is_read sector end first s is low (inr from) (inl before) = (omega (arith, is, from, before), before)
is_read sector end first s is low (inr from) (inr past) = absurd (omega (arith, low, past))

pub returns : goal.returns
returns c =
    let end = c.min-end.result in
    let first = c.min-first.result in
    let lost = c.remove-2.new.self in
    IfOk-weaker c.write_map.result (λ text. string_bytes text ≡ map_text (512 * end) (512 * first) lost) (λ text. IsMapOfRead c.args.sector c.args.count c.args.missing (string_bytes text))
    (λ text is. record {
      end = end;
      lost = lost;
      ends = let far = c.saturating_add.ensures in let near = c.min-end.ensures in omega (arith, far, near);
      runs = c.in_ok-remove-2.ensures.canonical;
      among = λ s. (
        λ bad.
            let after = (c.in_ok-remove-2.ensures.ok s).0 bad in
            let before = (c.in_ok-remove.ensures.ok s).0 after.0 in
            let low = bad_below 0 c.remove.new.self s c.in_ok-remove.ensures.canonical after.0 in
            let within = is_read c.args.sector end first s c.min-first.ensures low after.1 before.1 in
            (before.0, within.0, within.1),
        λ has.
            let from : 0 + first ≤ s = let at = c.min-first.ensures in let reached = has.1 in omega (arith, at, reached) in
            (c.in_ok-remove-2.ensures.ok s).1 ((c.in_ok-remove.ensures.ok s).1 (has.0, inl has.2), inr from),
      );
      text_is = is ∙ ap (λ (place : ℕ). map_text (512 * end) (512 * place) lost) c.min-first.ensures;
    })
    c.write_map.ensures.text
