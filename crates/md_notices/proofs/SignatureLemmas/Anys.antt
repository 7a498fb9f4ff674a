-- One of a list of magic numbers, or none of them.
use Rattle.std.proofs.Common.{◌≡◌, ℕ, ◌+◌, ◌<◌, Bool, true, false, ◌||◌, List, length, get_or, take, sym, ap, ◌∙◌, arith}
use Rattle.std.specs.List.{list_any}
use Rattle.std.proofs.lemmas.List.Folds.{list_any_at, list_any_more}
use Rattle.md_device.specs.declared.device.Device.{Ghosts}
use Rattle.md_notices.specs.declared.signatures.magic.Magic.{Magic}
use Rattle.md_notices.specs.Signatures.Magics.{has_sign, sign_of}
use Rattle.md_notices.specs.Signatures.Reading.{IsOnlySearched, TellsWhetherThere}

module _ {D : Type 0} {g : Ghosts D} where
  has_same : {first mid : D} (m : Magic) → IsOnlySearched g first mid → has_sign (g.content first) (sign_of m) ≡ has_sign (g.content mid) (sign_of m)
  has_same m only = ap (λ (content : List ℕ). has_sign content (sign_of m)) (sym only.kept)

  pub any_there : {first mid last : D} (ms : List Magic) (i : ℕ) (d : Magic) (answer : Bool) → i < length ms → IsOnlySearched g first mid → TellsWhetherThere g mid last (has_sign (g.content mid) (sign_of (get_or ms i d))) answer → answer ≡ true
      → TellsWhetherThere g first last (list_any (λ m. has_sign (g.content first) (sign_of m)) ms) true
  any_there {first = first} ms i d answer lt only tells is =
      let p : Magic → Bool = λ m. has_sign (g.content first) (sign_of m) in
      record {
        sound = λ h _. list_any_at p ms i d lt (has_same (get_or ms i d) only ∙ tells.sound (only.honest ∙ h) is);
        whole = λ h _. sym (list_any_at p ms i d lt (has_same (get_or ms i d) only ∙ tells.sound (only.honest ∙ h) is));
      }

  pub none_more : {first mid last : D} (ms : List Magic) (i : ℕ) (d : Magic) (answer : Bool) → i < length ms → IsOnlySearched g first mid → IsOnlySearched g mid last → TellsWhetherThere g mid last (has_sign (g.content mid) (sign_of (get_or ms i d))) answer → answer ≡ false
      → (g.honest first ≡ true → g.failures mid ≡ g.failures first → list_any (λ m. has_sign (g.content first) (sign_of m)) (take i ms) ≡ false)
      → g.honest first ≡ true → g.failures last ≡ g.failures first → list_any (λ m. has_sign (g.content first) (sign_of m)) (take (i + 1) ms) ≡ false
  none_more {first = first} {mid = mid} {last = last} ms i d answer lt only more tells is before h same =
      let p : Magic → Bool = λ m. has_sign (g.content first) (sign_of m) in
      let a = only.counted in
      let b = more.counted in
      let still : g.failures last ≡ g.failures mid = omega (arith, a, b, same) in
      let early : g.failures mid ≡ g.failures first = omega (arith, a, b, same) in
      list_any_more p ms i d lt
      ∙ ap (λ (b : Bool). b || p (get_or ms i d)) (before h early)
      ∙ has_same (get_or ms i d) only
      ∙ sym (tells.whole (only.honest ∙ h) still)
      ∙ is
