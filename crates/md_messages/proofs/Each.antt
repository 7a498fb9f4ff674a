-- The images of which an array is made, by the words that name them.
use Rattle.std.proofs.Common.{◌≡◌, ◌∙◌, ◌+◌, ◌<◌, ◌++◌, [], ℕ, Bool, List, Option, true, false, not, length, get_or, sym, ap, subst, append-nil}
use Rattle.std.specs.Prelude.{slice_get, if◌then◌else◌}
use Rattle.std.specs.List.{flat_map, range_with_len}
use Rattle.std.proofs.lemmas.List.Sums.{count_by_more_no, count_by_more_yes}
use Rattle.clap.specs.Words.{Text}
use Rattle.md_streams.specs.Sink.{Puts}
use Rattle.md_examine.proofs.Texts.{flat_map_next}
use Rattle.md_streams.proofs.Puts.{puts_then}
use Rattle.md_notices.specs.declared.held.held.Held.{Held}
use Rattle.md_images.specs.Taking.{is_missing_word}
use Rattle.md_messages.specs.Telling.{each_at, held_line_of, place_among}

-- a word that stands for a missing member has no line, and is no image
pub place_kept : (names : List Text) (k : ℕ) → k < length names → is_missing_word true (get_or names k []) ≡ true → place_among names (k + 1) ≡ place_among names k
place_kept names k lt is = count_by_more_no (λ name. not (is_missing_word true name)) names k [] lt (ap not is)

pub place_next : (names : List Text) (k : ℕ) → k < length names → is_missing_word true (get_or names k []) ≡ false → place_among names (k + 1) ≡ place_among names k + 1
place_next names k lt is = count_by_more_yes (λ name. not (is_missing_word true name)) names k [] lt (ap not is)

pub no_line : (each : List Held) (names : List Text) (k : ℕ) → is_missing_word true (get_or names k []) ≡ true → each_at each names k ≡ []
no_line each names k is = ap (λ (b : Bool). if b then [] else held_line_of (get_or names k []) (slice_get each (place_among names k))) is

pub its_line : (each : List Held) (names : List Text) (k : ℕ) → is_missing_word true (get_or names k []) ≡ false → each_at each names k ≡ held_line_of (get_or names k []) (slice_get each (place_among names k))
its_line each names k is = ap (λ (b : Bool). if b then [] else held_line_of (get_or names k []) (slice_get each (place_among names k))) is

module _ {S : Type 0} (contents : S → Option (List ℕ)) (failed : S → Bool) (each : List Held) (names : List Text) (k : ℕ) where
  abbrev lines : ℕ → List ℕ
  lines n = flat_map (each_at each names) (range_with_len 0 n)

  pub missing_told : {a b : S} → is_missing_word true (get_or names k []) ≡ true → Puts contents failed a b (lines k) → Puts contents failed a b (lines (k + 1))
  missing_told {a = a} {b = b} is so =
      let same : lines k ≡ lines (k + 1) = sym (append-nil (lines k)) ∙ ap (λ (t : List ℕ). lines k ++ t) (sym (no_line each names k is)) ∙ flat_map_next (each_at each names) k in
      subst (λ (t : List ℕ). Puts contents failed a b t) same so

  pub image_told : {a b d : S} (place : ℕ) (name : Text) → is_missing_word true (get_or names k []) ≡ false → place ≡ place_among names k → name ≡ get_or names k [] → Puts contents failed a b (lines k) → Puts contents failed b d (held_line_of name (slice_get each place)) → Puts contents failed a d (lines (k + 1))
  image_told {a = a} {b = b} {d = d} place name is there named so more =
      let line : held_line_of name (slice_get each place) ≡ each_at each names k =
      ap (λ (n : Text). held_line_of n (slice_get each place)) named ∙ ap (λ (p : ℕ). held_line_of (get_or names k []) (slice_get each p)) there ∙ sym (its_line each names k is) in
      subst (λ (t : List ℕ). Puts contents failed a d t) (flat_map_next (each_at each names) k)
      (puts_then contents failed so (subst (λ (t : List ℕ). Puts contents failed b d t) line more))
