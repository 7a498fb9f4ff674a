-- Which map is of which image: one word after another.
use Rattle.std.proofs.Common.{◌≡◌, ◌≢◌, ◌⊎◌, ◌∙◌, ◌+◌, ◌<◌, ◌||◌, ℕ, zero, suc, Bool, true, false, List, [], ◌∷◌, ◌++◌, length, map, Some, refl, sym, ap, subst, inl, inr, arith, true≢false}
use Rattle.std.specs.Prelude.{◌==◌, slice_get, slice_index_or}
use Rattle.std.specs.List.{list_any}
use Rattle.std.specs.Borrow.{Bor}
use Rattle.std.proofs.lemmas.Bool.{eq-eqb}
use Rattle.std.proofs.lemmas.Option.{slice_get_within}
use Rattle.std.proofs.lemmas.List.{length-append, get_or-map}
use Rattle.md_images.specs.Taking.{Text, name_at}
use Rattle.md_images.proofs.Taken.{get_before, get_last}
use Rattle.md_files.specs.declared.masks.images.words.MapWord.{MapWord}
use Rattle.md_files.specs.Masks.Images.Words.{AreMaps, IsMapOf, NamesNone, as_map}

abbrev pub texts : List (Bor Text) → List Text
texts = map (λ s. s.now)

abbrev pub no_word : Bor Text
no_word = record { ref_ptr = (0, 0); now = [] }

pub text_at : (words : List (Bor Text)) (i : ℕ) → i < length words → name_at (texts words) i ≡ (slice_index_or words i no_word).now
text_at words i lt = get_or-map (λ s. s.now) words i no_word [] lt

pub below_next : (i k : ℕ) → i < k + 1 → (i < k) ⊎ (i ≡ k)
below_next i k lt = grind arith

pub names_none : (names : List Text) (word : Text) → NamesNone names 0 word
names_none names word i lt = absurd (omega (arith, lt))

-- one more image
pub names_next : (names : List Text) (n : ℕ) (name word : Text) → name_at names n ≡ name → NamesNone names n word → ((file : Text) → word ≢ as_map name file) → NamesNone names (n + 1) word
names_next names n name word is so isnt i lt file = elim (below_next i n lt) [
  | inl less ↦ so i less file
  | inr same ↦ (λ e. isnt file (e ∙ ap (λ (t : Text). as_map t file) (ap (λ (k : ℕ). name_at names k) same ∙ is)))
]

pub same_some : {X : Type 0} (a b : X) → Some a ≡ Some b → a ≡ b
same_some a b e = cc

pub none_yet : (names words : List Text) (maps : List MapWord) → maps ≡ [] → AreMaps names words 0 maps
none_yet names words maps e = record {
  many = ap length e;
  each = λ k m at. let lt : k < length maps = slice_get_within maps k m at in absurd (omega (arith, lt, ap length e));
  distinct = λ i k a b before at_i at_k. let lt : k < length maps = slice_get_within maps k b at_k in absurd (omega (arith, lt, ap length e));
}

neither : (a b : Bool) → (a || b) ≡ false → (a ≡ false) × (b ≡ false)
neither true b e = absurd (true≢false e)
neither false b e = (refl, e)

abbrev pub is_of : ℕ → MapWord → Bool
is_of image other = other.image == image

not_among : (maps : List MapWord) (image i : ℕ) (a : MapWord) → list_any (is_of image) maps ≡ false → slice_get maps i ≡ Some a → a.image ≢ image
not_among [] image i a e at same = let lt : i < 0 = slice_get_within [] i a at in absurd (omega (arith, lt))
not_among (m ∷ maps) image zero a e at same =
    let is : m ≡ a = same_some m a at in
    true≢false (sym (eq-eqb m.image image (ap (λ (x : MapWord). x.image) is ∙ same)) ∙ (neither _ _ e).0)
not_among (m ∷ maps) image (suc i) a e at same = not_among maps image i a (neither _ _ e).1 at same

-- one more map
pub maps_next : (names words : List Text) (n : ℕ) (maps now : List MapWord) (m : MapWord) (word : Text) → name_at words n ≡ word → AreMaps names words n maps → IsMapOf names word m
    → list_any (is_of m.image) maps ≡ false → now ≡ maps ++ m ∷ [] → AreMaps names words (n + 1) now
maps_next names words n maps now m word is so found fresh grows =
    subst (λ (ms : List MapWord). AreMaps names words (n + 1) ms) (sym grows) (record {
      many = length-append maps (m ∷ []) ∙ ap (λ (k : ℕ). k + 1) so.many;
      each = λ k x at. elim (place k x at) [
        | inl less ↦ so.each k x (sym (get_before maps (m ∷ []) k less) ∙ at)
        | inr last ↦
            let here : k ≡ n = last ∙ so.many in
            subst (λ (y : MapWord). IsMapOf names (name_at words k) y) (same_some m x (sym (get_last maps m k last) ∙ at))
            (subst (λ (t : Text). IsMapOf names t m) (sym (ap (λ (j : ℕ). name_at words j) here ∙ is)) found)
      ];
      distinct = λ i k a b before at_i at_k. elim (place k b at_k) [
        | inl less ↦ so.distinct i k a b before (sym (get_before maps (m ∷ []) i (omega (arith, before, less))) ∙ at_i) (sym (get_before maps (m ∷ []) k less) ∙ at_k)
        | inr last ↦ (λ same. not_among maps m.image i a fresh (sym (get_before maps (m ∷ []) i (omega (arith, before, last))) ∙ at_i)
            (same ∙ ap (λ (x : MapWord). x.image) (sym (same_some m b (sym (get_last maps m k last) ∙ at_k)))))
      ];
    })
  where
    place : (k : ℕ) (x : MapWord) → slice_get (maps ++ m ∷ []) k ≡ Some x → (k < length maps) ⊎ (k ≡ length maps)
    place k x at =
        let lt : k < length (maps ++ m ∷ []) = slice_get_within (maps ++ m ∷ []) k x at in
        below_next k (length maps) (subst (λ (j : ℕ). k < j) (length-append maps (m ∷ [])) lt)
