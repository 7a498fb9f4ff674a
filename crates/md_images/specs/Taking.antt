-- The devices that stand under the image words: how they are taken out, and put back.
use Rattle.std.specs.Prelude.{◌≡◌, ◌≢◌, ℕ, ◌<◌, ◌&&◌, Bool, true, false, not, List, [], codes, length, map, Option, None, slice_get, slice_index_or}
use Rattle.std.specs.List.{filter, range_with_len}
use Rattle.std.specs.Str.{bytes_eq}
use Rattle.md_images.specs.declared.image_word.ImageWord.{ImageWord}
use Rattle.md_images.specs.declared.image_word.MissingWord.{MissingWord}
use Rattle.md_images.specs.declared.image_word.MissingWord.TheVariants.{NamesAnImage, StandsForAMember}
use Rattle.md_images.specs.declared.fault.ImagesFault.{ImagesFault}
use Rattle.md_images.specs.declared.fault.ImagesFault.TheVariants.{BadImage, NoMemory}
use Rattle.md_images.specs.declared.image_refusal.ImageRefusal.{ImageRefusal}
use Rattle.md_images.specs.declared.image_refusal.ImageRefusal.TheVariants.{Repeated, Unopened}
use Rattle.md_images.specs.Images.{IsImageRefused}

-- the bytes of a word
abbrev pub Text : Type 0
Text = List ℕ

-- a word that names an image, with its place among the image words
abbrev pub Word : Type 0
Word = ℕ × Text

abbrev pub word_of : ImageWord → Word
word_of w = (w.index, w.name.now)

abbrev pub names_of : List Word → List Text
names_of = map (λ w. w.1)

abbrev pub may_miss : MissingWord → Bool
may_miss NamesAnImage = false
may_miss StandsForAMember = true

-- in `create` this word stands for a missing member, and names no image
abbrev pub is_missing_word : Bool → Text → Bool
is_missing_word may_miss name = may_miss && bytes_eq name (codes "missing")

abbrev pub numbered_words : List Text → List Word
numbered_words words = map (λ i. (i, slice_index_or words i [])) (range_with_len 0 (length words))

-- the words that name images
unfoldable pub image_list : Bool → List Text → List Word
image_list may_miss words = filter (λ w. not (is_missing_word may_miss w.1)) (numbered_words words)

abbrev pub name_at : List Text → ℕ → Text
name_at names i = slice_index_or names i []

-- name k is the same as an earlier one
abbrev pub Repeats : List Text → ℕ → Type 0
Repeats names k = (i : ℕ) × (i < k) × (name_at names i ≡ name_at names k)

-- of the first n names none is
abbrev pub IsDistinct : List Text → ℕ → Type 0
IsDistinct names n = (i k : ℕ) → i < k → k < n → name_at names i ≢ name_at names k

-- a name that is none of the first n
abbrev pub IsOther : List Text → ℕ → Text → Type 0
IsOther names n other = (i : ℕ) → i < n → other ≢ name_at names i

module _ {D : Type 0} where
  -- under the first n names stand these devices, in their order
  pub record AreUnder (at : Text → Option D) (names : List Text) (n : ℕ) (devices : List D) : Type 0 where
    pub many : length devices ≡ n
    pub each : (i : ℕ) → i < n → at (name_at names i) ≡ slice_get devices i

  -- all other names have what they had
  abbrev pub OtherNamesKeep : (Text → Option D) → (Text → Option D) → List Text → ℕ → Type 0
  OtherNamesKeep before after names n = (other : Text) → IsOther names n other → after other ≡ before other

  -- the devices under the first n names are out
  pub record AreOut (before after : Text → Option D) (names : List Text) (n : ℕ) (devices : List D) : Type 0 where
    pub were : AreUnder before names n devices
    pub out : (i : ℕ) → i < n → after (name_at names i) ≡ None
    pub others : OtherNamesKeep before after names n

  -- these devices were put under the first n names
  pub record ArePut (before after : Text → Option D) (names : List Text) (n : ℕ) (devices : List D) : Type 0 where
    pub back : AreUnder after names n devices
    pub others : OtherNamesKeep before after names n

  -- Why name k is refused: it repeats an earlier one, or its image is not had. Of images of which it is not known which
  -- there are only the first can be said.
  abbrev pub IsNameRefused : Bool → (Text → Bool) → (Text → Option D) → List Text → ℕ → ImageRefusal → Type 0
  IsNameRefused known allowed before names k Repeated = Repeats names k
  IsNameRefused known allowed before names k (Unopened fault) = known ≡ true → IsImageRefused (before (name_at names k)) (allowed (name_at names k)) fault

  -- the image under name k is there, and may be had
  abbrev pub IsThere : (Text → Bool) → (Text → Option D) → List Text → ℕ → Type 0
  IsThere allowed before names k = (before (name_at names k) ≢ None) × (allowed (name_at names k) ≡ true)

  -- the word with this index is the first that is bad
  pub record IsFirstBad (known : Bool) (allowed : Text → Bool) (before : Text → Option D) (words : List Word) (index : ℕ) (why : ImageRefusal) : Type 0 where
    pub place : ℕ
    pub within : place < length words
    pub index_is : (slice_index_or words place (0, [])).0 ≡ index
    pub bad : IsNameRefused known allowed before (names_of words) place why
    pub distinct : IsDistinct (names_of words) place
    pub earlier : known ≡ true → (k : ℕ) → k < place → IsThere allowed before (names_of words) k

  -- The devices under the first n names were taken out of their images, each of which may be had.
  pub record TakesFirst (known : Bool) (allowed : Text → Bool) (before after : Text → Option D) (names : List Text) (n : ℕ) (devices : List D) : Type 0 where
    pub distinct : IsDistinct names n
    pub many : length devices ≡ n
    pub taken : known ≡ true → AreOut before after names n devices
    pub there : known ≡ true → (k : ℕ) → k < n → IsThere allowed before names k

  -- those of all words were
  abbrev pub TakesImages : Bool → (Text → Bool) → (Text → Option D) → (Text → Option D) → List Word → List D → Type 0
  TakesImages known allowed before after words devices = TakesFirst known allowed before after (names_of words) (length words) devices

  -- They were not: what was taken out of an image is back in it.
  abbrev pub RefusesImages : Type 0 → Bool → (Text → Bool) → (Text → Option D) → (Text → Option D) → List Word → ImagesFault → Type 0
  RefusesImages Unchanged known allowed before after words (BadImage index why) = IsFirstBad known allowed before words index why × (known ≡ true → (name : Text) → after name ≡ before name)
  RefusesImages Unchanged known allowed before after words NoMemory = Unchanged
