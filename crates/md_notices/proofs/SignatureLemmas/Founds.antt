-- What was found of the first signatures, and one more.
use Rattle.std.proofs.Common.{◌≡◌, ℕ, ◌+◌, ◌<◌, ◌≤◌, ⊎_elim, Bool, true, false, cond, List, [], ◌∷◌, ◌++◌, length, get_or, take, sym, ap, ◌∙◌, arith, append-nil}
use Rattle.std.specs.List.{All, filter}
use Rattle.std.proofs.lemmas.Bool.{cases_lt, false≢true}
use Rattle.std.proofs.lemmas.List.Elements.{All-append, All-cons, All-nil, filter_more}
use Rattle.std.proofs.lemmas.List.Filters.{length-filter_more}
use Rattle.md_device.specs.declared.device.Device.{Ghosts}
use Rattle.md_notices.specs.declared.signatures.signature.Signature.{Signature}
use Rattle.md_notices.specs.Signatures.Bearing.{bears_signature}
use Rattle.md_notices.specs.Signatures.Finding.{signatures}
use Rattle.md_notices.specs.Signatures.Reading.{IsOnlySearched, TellsWhetherThere}

-- what is there is found, or a call failed
paid : (there answer : Bool) (m n : ℕ) → m ≤ n → (n ≡ m → answer ≡ there) → cond there 1 0 + m ≤ cond answer 1 0 + n
paid false answer m n le same = omega (arith, le)
paid true true m n le same = omega (arith, le)
paid true false m n le same = ⊎_elim (λ (rose : m < n). omega (arith, rose)) (λ (not_more : n ≤ m). absurd (false≢true (same (omega (arith, le, not_more))))) (cases_lt m n)

module _ {D : Type 0} {g : Ghosts D} where
  -- the device bears what was found after reads of it
  bears_same : {first mid : D} (s : Signature) → IsOnlySearched g first mid → bears_signature (g.content first) s ≡ bears_signature (g.content mid) s
  bears_same s only = ap (λ (content : List ℕ). bears_signature content s) (sym only.kept)

  pub found_sound : {first mid last : D} (s : Signature) (answer : Bool) (found : List Signature) → IsOnlySearched g first mid → TellsWhetherThere g mid last (bears_signature (g.content mid) s) answer → answer ≡ true
      → (g.honest first ≡ true → All (λ x. bears_signature (g.content first) x ≡ true) found) → g.honest first ≡ true → All (λ x. bears_signature (g.content first) x ≡ true) (found ++ s ∷ [])
  found_sound {first = first} s answer found only tells is sound h =
      let P : Signature → Type 0 = λ x. bears_signature (g.content first) x ≡ true in
      All-append P found (s ∷ []) (sound h) (All-cons P s [] (bears_same s only ∙ tells.sound (only.honest ∙ h) is) (All-nil P))

  -- what is answered where no call failed
  answered : {first mid last : D} (s : Signature) (answer : Bool) → IsOnlySearched g first mid → IsOnlySearched g mid last → TellsWhetherThere g mid last (bears_signature (g.content mid) s) answer → g.honest first ≡ true → g.failures last ≡ g.failures first → bears_signature (g.content first) s ≡ answer
  answered {first = first} {mid = mid} {last = last} s answer only more tells h same =
      let a = only.counted in
      let b = more.counted in
      let still : g.failures last ≡ g.failures mid = omega (arith, a, b, same) in
      bears_same s only ∙ sym (tells.whole (only.honest ∙ h) still)

  so_far : {first mid last : D} → IsOnlySearched g first mid → IsOnlySearched g mid last → g.failures last ≡ g.failures first → g.failures mid ≡ g.failures first
  so_far only more same = let a = only.counted in let b = more.counted in omega (arith, a, b, same)

  pub found_one : {first mid last : D} (s : Signature) (answer : Bool) (found : List Signature) (i : ℕ) → i < length signatures → get_or signatures i s ≡ s → IsOnlySearched g first mid → IsOnlySearched g mid last → TellsWhetherThere g mid last (bears_signature (g.content mid) s) answer → answer ≡ true
      → (g.honest first ≡ true → g.failures mid ≡ g.failures first → found ≡ filter (bears_signature (g.content first)) (take i signatures))
      → g.honest first ≡ true → g.failures last ≡ g.failures first → found ++ s ∷ [] ≡ filter (bears_signature (g.content first)) (take (i + 1) signatures)
  found_one {first = first} s answer found i lt here only more tells is whole h same =
      let p : Signature → Bool = bears_signature (g.content first) in
      let front : List Signature = filter p (take i signatures) in
      ap (λ (xs : List Signature). xs ++ s ∷ []) (whole h (so_far only more same))
      ∙ sym (filter_more p signatures i s lt
      ∙ ap (λ (t : Signature). front ++ cond (p t) (t ∷ []) []) here
      ∙ ap (λ (b : Bool). front ++ cond b (s ∷ []) []) (answered s answer only more tells h same ∙ is))

  pub found_no_more : {first mid last : D} (s : Signature) (answer : Bool) (found : List Signature) (i : ℕ) → i < length signatures → get_or signatures i s ≡ s → IsOnlySearched g first mid → IsOnlySearched g mid last → TellsWhetherThere g mid last (bears_signature (g.content mid) s) answer → answer ≡ false
      → (g.honest first ≡ true → g.failures mid ≡ g.failures first → found ≡ filter (bears_signature (g.content first)) (take i signatures))
      → g.honest first ≡ true → g.failures last ≡ g.failures first → found ≡ filter (bears_signature (g.content first)) (take (i + 1) signatures)
  found_no_more {first = first} s answer found i lt here only more tells is whole h same =
      let p : Signature → Bool = bears_signature (g.content first) in
      let front : List Signature = filter p (take i signatures) in
      whole h (so_far only more same)
      ∙ sym (filter_more p signatures i s lt
      ∙ ap (λ (t : Signature). front ++ cond (p t) (t ∷ []) []) here
      ∙ ap (λ (b : Bool). front ++ cond b (s ∷ []) []) (answered s answer only more tells h same ∙ is)
      ∙ append-nil front)

  pub missed_more : {first mid last : D} (s : Signature) (answer : Bool) (found after : List Signature) (i : ℕ) → i < length signatures → get_or signatures i s ≡ s → IsOnlySearched g first mid → IsOnlySearched g mid last → TellsWhetherThere g mid last (bears_signature (g.content mid) s) answer → length after ≡ length found + cond answer 1 0
      → (g.honest first ≡ true → length (filter (bears_signature (g.content first)) (take i signatures)) + g.failures first ≤ length found + g.failures mid)
      → g.honest first ≡ true → length (filter (bears_signature (g.content first)) (take (i + 1) signatures)) + g.failures first ≤ length after + g.failures last
  missed_more {first = first} {mid = mid} {last = last} s answer found after i lt here only more tells many before h =
      let p : Signature → Bool = bears_signature (g.content first) in
      let grown = length-filter_more p signatures i s lt in
      let count : Signature → ℕ = λ t. cond (p t) 1 0 in
      let one = ap count here in
      let cost = paid (p s) answer (g.failures mid) (g.failures last) more.counted (λ same. tells.whole (only.honest ∙ h) same ∙ sym (bears_same s only)) in
      let early = before h in
      omega (arith, grown, one, cost, early, many)
