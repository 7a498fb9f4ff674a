-- The sizes of devices by the image words, one word at a time.
use Rattle.md_device.specs.declared.device.Device.{Ghosts}
use Rattle.std.proofs.Common.{◌≡◌, ◌∙◌, ◌+◌, ◌*◌, ◌/◌, ◌<◌, ◌≤◌, ℕ, zero, suc, Bool, true, false, cond, List, [], ◌∷◌, ◌++◌, drop, length, map, Option, Some, None, refl, sym, ap, subst, arith, append_assoc, append-nil}
use Rattle.std.specs.Prelude.{slice_get, slice_index_or}
use Rattle.std.specs.Borrow.{Bor}
use Rattle.std.proofs.lemmas.List.{drop_more, length-map}
use Rattle.std.proofs.lemmas.Nat.{div-mul-add}
use Rattle.clap.specs.Words.{Text}
use Rattle.md_state.specs.View.{Disk, disk_of}
use Rattle.md_cli.specs.Creating.{first_size, sizes_of}
use Rattle.md_images.specs.Taking.{is_missing_word}
use Rattle.md_images.proofs.Listed.{text_at, no_text}

-- what the first word adds
sizes_step : (word : Text) (words : List Text) (disks : List Disk) → sizes_of (word ∷ words) disks ≡ cond (is_missing_word true word) (None ∷ sizes_of words disks) (first_size disks ∷ sizes_of words (drop 1 disks))
unfolding sizes_of
sizes_step word words disks = refl

sizes_end : (disks : List Disk) → sizes_of [] disks ≡ []
unfolding sizes_of
sizes_end disks = refl

one_more : (b : Bool) (some other : List (Option ℕ)) (n : ℕ) → length some ≡ n → length other ≡ n → (size : Option ℕ) → length (cond b (None ∷ some) (size ∷ other)) ≡ suc n
one_more true some other n long also size = ap suc long
one_more false some other n long also size = ap suc also

-- a size for each word
pub sizes_long : (words : List Text) (disks : List Disk) → length (sizes_of words disks) ≡ length words
sizes_long [] disks = ap length (sizes_end disks)
sizes_long (word ∷ words) disks =
    ap length (sizes_step word words disks)
    ∙ one_more (is_missing_word true word) (sizes_of words disks) (sizes_of words (drop 1 disks)) (length words) (sizes_long words disks) (sizes_long words (drop 1 disks)) (first_size disks)

drop_one : {X : Type 0} (xs : List X) (n : ℕ) → drop 1 (drop n xs) ≡ drop (n + 1) xs
drop_one xs zero = refl
drop_one [] (suc n) = let e : suc n + 1 ≡ suc (n + 1) = omega arith in rw e refl
drop_one (x ∷ xs) (suc n) = let e : suc n + 1 ≡ suc (n + 1) = omega arith in rw e (drop_one xs n)

pub all_dropped : {X : Type 0} (xs : List X) (n : ℕ) → length xs ≤ n → drop n xs ≡ []
all_dropped [] zero le = refl
all_dropped [] (suc n) le = refl
all_dropped (x ∷ xs) zero le = absurd (omega (arith, le))
all_dropped (x ∷ xs) (suc n) le = all_dropped xs n (omega (arith, le))

module _ (names : List (Bor Text)) (disks : List Disk) (sizes : List (Option ℕ)) (place next : ℕ) where
  abbrev texts : List Text
  texts = map (λ s. s.now) names

  -- the sizes so far, and those of the words and the devices that are left
  abbrev pub IsSizedTo : Type 0
  IsSizedTo = sizes ++ sizes_of (drop place texts) (drop next disks) ≡ sizes_of texts disks

module _ (names : List (Bor Text)) (disks : List Disk) (sizes : List (Option ℕ)) (place next : ℕ) (lt : place < length names) (so : IsSizedTo names disks sizes place next) where
  abbrev words : List Text
  words = map (λ s. s.now) names

  abbrev word : Text
  word = (slice_index_or names place no_text).now

  opened : sizes_of (drop place words) (drop next disks) ≡ cond (is_missing_word true word) (None ∷ sizes_of (drop (place + 1) words) (drop next disks)) (first_size (drop next disks) ∷ sizes_of (drop (place + 1) words) (drop 1 (drop next disks)))
  opened =
      let inside : place < length words = subst (λ (n : ℕ). place < n) (sym (length-map names (λ s. s.now))) lt in
      ap (λ (ws : List Text). sizes_of ws (drop next disks)) (drop_more words place [] inside ∙ ap (λ (t : Text). t ∷ drop (place + 1) words) (text_at names place lt))
      ∙ sizes_step word (drop (place + 1) words) (drop next disks)

  pub none_sized : is_missing_word true word ≡ true → IsSizedTo names disks (sizes ++ None ∷ []) (place + 1) next
  none_sized missing =
      append_assoc sizes (None ∷ []) (sizes_of (drop (place + 1) words) (drop next disks))
      ∙ ap (λ rest. sizes ++ rest) (sym (opened ∙ ap (λ b. cond b (None ∷ sizes_of (drop (place + 1) words) (drop next disks)) (first_size (drop next disks) ∷ sizes_of (drop (place + 1) words) (drop 1 (drop next disks)))) missing)) ∙ so

  pub one_sized : is_missing_word true word ≡ false → IsSizedTo names disks (sizes ++ first_size (drop next disks) ∷ []) (place + 1) (next + 1)
  one_sized there =
      append_assoc sizes (first_size (drop next disks) ∷ []) (sizes_of (drop (place + 1) words) (drop (next + 1) disks))
      ∙ ap (λ ds. sizes ++ first_size (drop next disks) ∷ sizes_of (drop (place + 1) words) ds) (sym (drop_one disks next))
      ∙ ap (λ rest. sizes ++ rest) (sym (opened ∙ ap (λ b. cond b (None ∷ sizes_of (drop (place + 1) words) (drop next disks)) (first_size (drop next disks) ∷ sizes_of (drop (place + 1) words) (drop 1 (drop next disks)))) there)) ∙ so

-- at the end
pub all_sized : (names : List (Bor Text)) (disks : List Disk) (sizes : List (Option ℕ)) (place next : ℕ) → length names ≤ place → IsSizedTo names disks sizes place next → sizes ≡ sizes_of (map (λ s. s.now) names) disks
all_sized names disks sizes place next past so =
    let past_all : length (map (λ s. s.now) names) ≤ place = subst (λ (n : ℕ). n ≤ place) (sym (length-map names (λ s. s.now))) past in
    let none : sizes_of (drop place (map (λ s. s.now) names)) (drop next disks) ≡ [] = ap (λ (ws : List Text). sizes_of ws (drop next disks)) (all_dropped (map (λ s. s.now) names) place past_all) ∙ sizes_end (drop next disks) in
    sym (append-nil sizes) ∙ ap (λ rest. sizes ++ rest) (sym none) ∙ so

-- the next device, and that there is none
pub size_at : {D : Type 0} (g : Ghosts D) (devices : List D) (n : ℕ) (d : D) (sectors : ℕ) → slice_get devices n ≡ Some d → length (g.content d) ≡ 512 * sectors → Some sectors ≡ first_size (drop n (map (disk_of g) devices))
size_at g [] n d sectors there long = absurd cc
size_at g (x ∷ devices) zero d sectors there long =
    let same : x ≡ d = cc in
    let quotient : length (g.content x) / 512 ≡ sectors = ap (λ y. length (g.content y) / 512) same ∙ ap (λ (m : ℕ). m / 512) (long ∙ omega arith) ∙ div-mul-add sectors 512 0 (omega arith) in
    ap (λ (m : ℕ). Some m) (sym quotient)
size_at g (x ∷ devices) (suc n) d sectors there long = size_at g devices n d sectors there long

pub no_size_at : {D : Type 0} (g : Ghosts D) (devices : List D) (n : ℕ) → slice_get devices n ≡ None → None ≡ first_size (drop n (map (disk_of g) devices))
no_size_at g [] zero none = refl
no_size_at g [] (suc n) none = refl
no_size_at g (x ∷ devices) zero none = absurd cc
no_size_at g (x ∷ devices) (suc n) none = no_size_at g devices n none
