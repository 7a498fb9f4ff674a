-- Two writes of which the second lies behind the first are one write of the bytes of both.
use Rattle.std.proofs.Common.{◌≡◌, ◌∙◌, inl, inr, ℕ, ◌+◌, ◌-◌, ◌*◌, ◌/◌, ◌<◌, ◌≤◌, true, false, List, [], ◌++◌, length, take, drop, refl, sym, ap, arith, true≢false, le-leb}
use Rattle.std.proofs.lemmas.Bool.{and_from, cases_lt, cond-false, cond-true}
use Rattle.std.proofs.lemmas.List.{drop-append-le, drop-drop, drop_at, length-append, length-drop, take-append-le}
use Rattle.md_device.specs.Splice.{part}
use Rattle.md_model.specs.Content.{Content}
use Rattle.md_model.specs.Worlds.{Request, touches}
use Rattle.md_model.proofs.Cases.{below-nat_lt, by_test}
use Rattle.md_array.proofs.StepLemmas.InFlight.{is_touched}
use Rattle.md_serve_commands.specs.Calls.{request_with, with_write}

pub touched : (p : Request) (s : ℕ) → p.start ≤ s → s < p.start + p.sectors → touches p s ≡ true
touched p s from below = and_from _ _ (le-leb p.start s from) (below-nat_lt s (p.start + p.sectors) below)

-- what stands in a sector with the bytes of a write
pub write_at : (start : ℕ) (xs : List ℕ) (a : Content) (s : ℕ) → touches (request_with (start, xs)) s ≡ true → with_write (start, xs) a s ≡ part xs (512 * (s - start)) 512
write_at start xs a s at = cond-true (touches (request_with (start, xs)) s) (part xs (512 * (s - start)) 512) (a s) at

pub write_off : (start : ℕ) (xs : List ℕ) (a : Content) (s : ℕ) → touches (request_with (start, xs)) s ≡ false → with_write (start, xs) a s ≡ a s
write_off start xs a s off = cond-false (touches (request_with (start, xs)) s) (part xs (512 * (s - start)) 512) (a s) off

-- no bytes change nothing
pub none_clear : (start s : ℕ) → touches (request_with (start, [])) s ≡ false
none_clear start s = by_test (touches (request_with (start, [])) s)
    (λ at. let i = is_touched (request_with (start, [])) s at in let low : start ≤ s = i.0 in let high : s < start + 0 = i.1 in absurd (omega arith))
    (λ off. off)

pub write_none : (start : ℕ) (a : Content) → with_write (start, []) a ≡ a
write_none start a = λ i s. write_off start [] a s (none_clear start s) i

module _ (start sector : ℕ) (xs ys : List ℕ) (behind : 512 * sector ≡ 512 * start + length xs) where
  abbrev all : Request
  all = request_with (start, xs ++ ys)

  abbrev earlier : Request
  earlier = request_with (start, xs)

  abbrev later : Request
  later = request_with (sector, ys)

  abbrev size : ℕ
  size = length (xs ++ ys) / 512

  size_is : size ≡ (sector - start) + length ys / 512
  size_is = let long = length-append xs ys in omega (arith, long)

  in_later : (s : ℕ) → sector ≤ s → part (xs ++ ys) (512 * (s - start)) 512 ≡ part ys (512 * (s - sector)) 512
  unfolding part
  in_later s from =
      let at : 512 * (s - start) ≡ length xs + 512 * (s - sector) = omega arith in
      ap (λ (n : ℕ). take 512 (drop n (xs ++ ys))) at
      ∙ ap (λ (l : List ℕ). take 512 l) (sym (drop-drop (512 * (s - sector)) (length xs) (xs ++ ys)))
      ∙ ap (λ (l : List ℕ). take 512 (drop (512 * (s - sector)) l)) (drop_at xs ys (length xs) refl)

  in_earlier : (s : ℕ) → start ≤ s → s < sector → part (xs ++ ys) (512 * (s - start)) 512 ≡ part xs (512 * (s - start)) 512
  unfolding part
  in_earlier s from below =
      let n : ℕ = 512 * (s - start) in
      let room : n + 512 ≤ length xs = omega arith in
      let rest : length (drop n xs) ≡ length xs - n = length-drop n xs in
      ap (λ (l : List ℕ). take 512 l) (drop-append-le n xs ys (omega arith)) ∙ take-append-le 512 (drop n xs) ys (omega arith)

  -- a sector of both is one of the first or of the second
  pub joined_clear : (s : ℕ) → touches earlier s ≡ false → touches later s ≡ false → touches all s ≡ false
  joined_clear s none none_too = by_test (touches all s)
      (λ at.
      let i = is_touched all s at in
      let from : start ≤ s = i.0 in
      let below : s < start + size = i.1 in
      let size_of : size ≡ (sector - start) + length ys / 512 = size_is in
      elim (cases_lt s sector) [
        | inl low ↦ absurd (true≢false (sym (touched earlier s from (omega arith)) ∙ none))
        | inr high ↦ absurd (true≢false (sym (touched later s high (omega arith)) ∙ none_too))
      ])
      (λ off. off)

  joined_at : (a : Content) (s : ℕ) → with_write (start, xs ++ ys) a s ≡ with_write (sector, ys) (with_write (start, xs) a) s
  joined_at a s = by_test (touches later s)
      (λ at.
      let i = is_touched later s at in
      let from : sector ≤ s = i.0 in
      let below : s < sector + length ys / 512 = i.1 in
      let size_of : size ≡ (sector - start) + length ys / 512 = size_is in
      write_at start (xs ++ ys) a s (touched all s (omega arith) (omega arith))
      ∙ in_later s from
      ∙ sym (write_at sector ys (with_write (start, xs) a) s at))
      (λ off. by_test (touches earlier s)
      (λ at.
      let i = is_touched earlier s at in
      let from : start ≤ s = i.0 in
      let below : s < start + length xs / 512 = i.1 in
      let size_of : size ≡ (sector - start) + length ys / 512 = size_is in
      write_at start (xs ++ ys) a s (touched all s from (omega arith))
      ∙ in_earlier s from (omega arith)
      ∙ sym (write_at start xs a s at)
      ∙ sym (write_off sector ys (with_write (start, xs) a) s off))
      (λ none.
      write_off start (xs ++ ys) a s (joined_clear s none off)
      ∙ sym (write_off start xs a s none)
      ∙ sym (write_off sector ys (with_write (start, xs) a) s off)))

  pub joined : (a : Content) → with_write (start, xs ++ ys) a ≡ with_write (sector, ys) (with_write (start, xs) a)
  joined a = λ i s. joined_at a s i
