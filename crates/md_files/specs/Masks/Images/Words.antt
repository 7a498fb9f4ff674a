-- Which map is of which image.
use Rattle.std.specs.Prelude.{◌≡◌, ◌≢◌, ◌<◌, ◌++◌, ◌∷◌, ℕ, List, length, Some, slice_get}
use Rattle.md_images.specs.Taking.{Text, name_at}
use Rattle.md_files.specs.declared.masks.images.words.MapWord.{MapWord}

-- an image, `=` and a file
abbrev pub as_map : Text → Text → Text
as_map image file = image ++ 61 ∷ file

-- of none of the first n images the word names a map
abbrev pub NamesNone : List Text → ℕ → Text → Type 0
NamesNone names n word = (i : ℕ) → i < n → (file : Text) → word ≢ as_map (name_at names i) file

-- the word names this file as the map of the first image with which it begins so
pub record IsMapOf (names : List Text) (word : Text) (map : MapWord) : Type 0 where
  pub within : map.image < length names
  pub named : word ≡ as_map (name_at names map.image) map.file.now
  pub first : NamesNone names map.image word

-- the first n words name these maps, each of another image
pub record AreMaps (names words : List Text) (n : ℕ) (maps : List MapWord) : Type 0 where
  pub many : length maps ≡ n
  pub each : (k : ℕ) (map : MapWord) → slice_get maps k ≡ Some map → IsMapOf names (name_at words k) map
  pub distinct : (i k : ℕ) (a b : MapWord) → i < k → slice_get maps i ≡ Some a → slice_get maps k ≡ Some b → a.image ≢ b.image
