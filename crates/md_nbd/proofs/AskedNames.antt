-- A name that was found in the body of an option was asked for.
use Rattle.std.proofs.Common.{◌≡◌, ℕ, ◌+◌, ◌*◌, ◌-◌, ◌^◌, ◌<◌, ◌≤◌, Bool, true, false, cond, ltb, eqb, Some, None, List, ◌++◌, length, get_or, take, drop, refl, sym, ap, ◌∙◌, append_assoc, arith, inl, inr}
use Rattle.std.specs.Int.{w16, w32, from_be_bytes, to_be_bytes}
use Rattle.std.proofs.lemmas.Bool.{cases_lt, eqb-true}
use Rattle.std.proofs.lemmas.List.{take-append-drop, length-take-le, length-drop, length-take, get_or-drop, get_or-take, get_or_past}
use Rattle.std.proofs.lemmas.Nat.{be_bytes_2, be_bytes_4}
use Rattle.md_nbd.specs.Options.{AsksForName, asked_name_of, kind_count_of, name_length_of}

abbrev IsBytes : List ℕ → Type 0
IsBytes bytes = (i : ℕ) → get_or bytes i 0 < 256

IsBytes-drop : (n : ℕ) (bytes : List ℕ) → IsBytes bytes → IsBytes (drop n bytes)
IsBytes-drop n bytes h i = rw get_or-drop (h (n + i))

IsBytes-take : (n : ℕ) (bytes : List ℕ) → IsBytes bytes → IsBytes (take n bytes)
IsBytes-take n bytes h i =
    elim (cases_lt i n) [
      | inl lt ↦ rw (get_or-take n bytes i 0 lt) (h i)
      | inr le ↦ rw (get_or_past (take n bytes) i 0 (omega (arith, length-take n bytes))) (omega arith)
    ]

picked : (b c d : Bool) (x name : List ℕ) → cond b None (cond c None (cond d (Some x) None)) ≡ Some name → (b ≡ false) × (c ≡ false) × (d ≡ true) × (x ≡ name)
picked true c d x name e = absurd cc
picked false true d x name e = absurd cc
picked false false true x name e = (refl, refl, refl, cc)
picked false false false x name e = absurd cc

below2 : (bytes : List ℕ) → IsBytes bytes → from_be_bytes w16 bytes < 2 ^ 16
below2 bytes fits = omega (arith, fits 0, fits 1)

four : (bytes : List ℕ) → IsBytes bytes → 4 ≤ length bytes → bytes ≡ to_be_bytes w32 (from_be_bytes w32 (take 4 bytes)) ++ drop 4 bytes
four bytes fits le =
    let front = be_bytes_4 (take 4 bytes) (from_be_bytes w32 (take 4 bytes)) (length-take-le 4 bytes le) (IsBytes-take 4 bytes fits) refl in
    sym (ap (λ (t : List ℕ). t ++ drop 4 bytes) front ∙ take-append-drop 4 bytes)

two : (bytes : List ℕ) → IsBytes bytes → 2 ≤ length bytes → bytes ≡ to_be_bytes w16 (from_be_bytes w16 (take 2 bytes)) ++ drop 2 bytes
two bytes fits le =
    let front = be_bytes_2 (take 2 bytes) (from_be_bytes w16 (take 2 bytes)) (length-take-le 2 bytes le) (IsBytes-take 2 bytes fits) refl in
    sym (ap (λ (t : List ℕ). t ++ drop 2 bytes) front ∙ take-append-drop 2 bytes)

grouped : (a b c d : List ℕ) → a ++ (b ++ (c ++ d)) ≡ ((a ++ b) ++ c) ++ d
grouped a b c d = simp append_assoc

pub found : (name body : List ℕ) → IsBytes body → asked_name_of body ≡ Some name → AsksForName name body
found name body fits e =
    let n = name_length_of body in
    let m = kind_count_of body in
    let after = drop 4 body in
    let list = drop n after in
    let p = picked (ltb (length body) 6) (ltb (length body) (n + 6)) (eqb (length body) (n + 6 + 2 * m)) (take n after) name e in
    let all : length body ≡ n + 6 + 2 * m = eqb-true _ _ p.2 in
    let len_after : length after ≡ length body - 4 = length-drop 4 body in
    let len_list : length list ≡ length after - n = length-drop n after in
    let len_name : length name ≡ n = ap length (sym p.3) ∙ length-take-le n after (omega (arith, all, len_after)) in
    let first = four body fits (omega (arith, all)) in
    let last = two list (IsBytes-drop n after (IsBytes-drop 4 body fits)) (omega (arith, all, len_after, len_list)) in
    let middle : after ≡ name ++ list = sym (ap (λ (t : List ℕ). t ++ list) (sym p.3) ∙ take-append-drop n after) in
    record {
      count = m;
      kinds = drop 2 list;
      few = below2 (take 2 list) (IsBytes-take 2 list (IsBytes-drop n after (IsBytes-drop 4 body fits)));
      two = omega (arith, all, len_after, len_list, length-drop 2 list);
      whole = first ∙ ap (λ (t : List ℕ). to_be_bytes w32 n ++ t) (middle ∙ ap (λ (t : List ℕ). name ++ t) last)
          ∙ ap (λ (k : ℕ). to_be_bytes w32 k ++ (name ++ (to_be_bytes w16 m ++ drop 2 list))) (sym len_name)
          ∙ grouped (to_be_bytes w32 (length name)) name (to_be_bytes w16 m) (drop 2 list);
    }
