-- As many devices, sizes and members as words that name images.
use Rattle.std.proofs.Common.{◌≡◌, ◌∙◌, ◌+◌, ◌<◌, ◌≤◌, ℕ, zero, suc, Bool, true, false, not, cond, List, [], ◌∷◌, ◌++◌, drop, length, map, Option, Some, None, refl, sym, ap, subst, arith, append_assoc, option_map}
use Rattle.std.specs.Prelude.{slice_get, slice_index_or}
use Rattle.std.specs.List.{filter, filter_map, range_with_len}
use Rattle.std.proofs.lemmas.List.{length-append, length-map}
use Rattle.clap.specs.Words.{Text}
use Rattle.md_create.specs.Geometry.{HasDevice, IsGeometry}
use Rattle.md_create.specs.Values.{AreMembers, device_of_member, devices_of}
use Rattle.md_create.specs.declared.params.CreateParams.{CreateParams}
use Rattle.md_create.specs.declared.params.NewMember.{NewMember}
use Rattle.md_state.specs.View.{Disk}
use Rattle.md_cli.specs.Creating.{first_size, sectors_on, sizes_of}
use Rattle.md_images.specs.Taking.{Word, image_list, is_missing_word}
use Rattle.md_images.proofs.Listed.{is_image, word_at}

-- how many of the words name images
abbrev present : List Text → ℕ
present [] = 0
present (w ∷ ws) = cond (is_missing_word true w) (present ws) (1 + present ws)

-- the element after a front, and the front that ends with it
at_front : {X : Type 0} (front rest : List X) (x d : X) → slice_index_or (front ++ x ∷ rest) (length front) d ≡ x
at_front [] rest x d = refl
at_front (y ∷ front) rest x d = at_front front rest x d

longer_front : {X : Type 0} (front : List X) (x : X) → length (front ++ x ∷ []) ≡ length front + 1
longer_front front x = length-append front (x ∷ [])

filtered : (b : Bool) (w : Word) (ws : List Word) (n : ℕ) → length ws ≡ n → length (cond (not b) (w ∷ ws) ws) ≡ cond b n (1 + n)
filtered true w ws n e = e
filtered false w ws n e = ap (λ (m : ℕ). suc m) e ∙ omega arith

listed_from : (front words : List Text) (a : ℕ) → length front ≡ a → length (filter (is_image true) (map (word_at (front ++ words)) (range_with_len a (length words)))) ≡ present words
listed_from front [] a e = refl
listed_from front (w ∷ words) a e =
    let rest = filter (is_image true) (map (word_at (front ++ w ∷ words)) (range_with_len (a + 1) (length words))) in
    let later : length rest ≡ present words =
    subst (λ (all : List Text). length (filter (is_image true) (map (word_at all) (range_with_len (a + 1) (length words)))) ≡ present words) (append_assoc front (w ∷ []) words)
    (listed_from (front ++ w ∷ []) words (a + 1) (longer_front front w ∙ ap (λ (n : ℕ). n + 1) e)) in
    let here : slice_index_or (front ++ w ∷ words) a [] ≡ w = ap (λ (n : ℕ). slice_index_or (front ++ w ∷ words) n []) (sym e) ∙ at_front front words w [] in
    filtered (is_missing_word true (slice_index_or (front ++ w ∷ words) a [])) (word_at (front ++ w ∷ words) a) rest (present words) later
    ∙ ap (λ (t : Text). cond (is_missing_word true t) (present words) (1 + present words)) here

image_count : (words : List Text) → length (image_list true words) ≡ present words
unfolding image_list
image_count words = listed_from [] words 0 refl

-- how many of the sizes are there
abbrev there : List (Option ℕ) → ℕ
there [] = 0
there (None ∷ sizes) = there sizes
there (Some n ∷ sizes) = 1 + there sizes

abbrev device_at : List (Option ℕ) → ℕ → Option (ℕ × ℕ)
device_at sizes role = option_map (λ n. (role, n)) (slice_index_or sizes role None)

devices_from : (front sizes : List (Option ℕ)) (a : ℕ) → length front ≡ a → length (filter_map (device_at (front ++ sizes)) (range_with_len a (length sizes))) ≡ there sizes
devices_from front [] a e = refl
devices_from front (None ∷ sizes) a e =
    let here : slice_index_or (front ++ None ∷ sizes) a None ≡ None = ap (λ (n : ℕ). slice_index_or (front ++ None ∷ sizes) n None) (sym e) ∙ at_front front sizes None None in
    let later = subst (λ (all : List (Option ℕ)). length (filter_map (device_at all) (range_with_len (a + 1) (length sizes))) ≡ there sizes) (append_assoc front (None ∷ []) sizes)
    (devices_from (front ++ None ∷ []) sizes (a + 1) (longer_front front None ∙ ap (λ (n : ℕ). n + 1) e)) in
    rw here later
devices_from front (Some n ∷ sizes) a e =
    let here : slice_index_or (front ++ Some n ∷ sizes) a None ≡ Some n = ap (λ (m : ℕ). slice_index_or (front ++ Some n ∷ sizes) m None) (sym e) ∙ at_front front sizes (Some n) None in
    let later = subst (λ (all : List (Option ℕ)). length (filter_map (device_at all) (range_with_len (a + 1) (length sizes))) ≡ there sizes) (append_assoc front (Some n ∷ []) sizes)
    (devices_from (front ++ Some n ∷ []) sizes (a + 1) (longer_front front (Some n) ∙ ap (λ (m : ℕ). m + 1) e)) in
    rw here (ap (λ (m : ℕ). suc m) later ∙ omega arith)

device_count : (sizes : List (Option ℕ)) → length (devices_of sizes) ≡ there sizes
device_count sizes = devices_from [] sizes 0 refl

-- a device for each word that names an image has its size
sizes_there : (words : List Text) (disks : List Disk) → present words ≤ length disks → there (sizes_of words disks) ≡ present words
unfolding sizes_of
sizes_there [] disks enough = refl
sizes_there (w ∷ words) disks enough = by (is_missing_word true w) disks enough (sizes_there words)
  where
    by : (b : Bool) (ds : List Disk) → cond b (present words) (1 + present words) ≤ length ds → ((xs : List Disk) → present words ≤ length xs → there (sizes_of words xs) ≡ present words)
        → there (cond b (None ∷ sizes_of words ds) (first_size ds ∷ sizes_of words (drop 1 ds))) ≡ cond b (present words) (1 + present words)
    by true ds e later = later ds e
    by false [] e later = absurd (omega (arith, e))
    by false (d ∷ ds) e later = ap (λ (n : ℕ). 1 + n) (later ds (omega (arith, e)))

-- and stands in some role
role_of : (words : List Text) (disks : List Disk) (k : ℕ) (d : Disk) → k < present words → slice_get disks k ≡ Some d → (role : ℕ) × HasDevice (sizes_of words disks) role (sectors_on d)
unfolding sizes_of
role_of [] disks k d lt is = absurd (omega (arith, lt))
role_of (w ∷ words) disks k d lt is = by (is_missing_word true w) disks k lt is (role_of words)
  where
    by : (b : Bool) (ds : List Disk) (i : ℕ) → i < cond b (present words) (1 + present words) → slice_get ds i ≡ Some d → ((xs : List Disk) (j : ℕ) (x : Disk) → j < present words → slice_get xs j ≡ Some x → (role : ℕ) × HasDevice (sizes_of words xs) role (sectors_on x))
        → (role : ℕ) × HasDevice (cond b (None ∷ sizes_of words ds) (first_size ds ∷ sizes_of words (drop 1 ds))) role (sectors_on d)
    by true ds i less here later = let found = later ds i d less here in (suc found.0, found.1)
    by false [] i less here later = absurd cc
    by false (x ∷ ds) zero less here later = (0, ap (λ (y : Option Disk). Some (option_map sectors_on y)) here)
    by false (x ∷ ds) (suc i) less here later = let found = later ds i d (omega (arith, less)) here in (suc found.0, found.1)

module _ (params : CreateParams) (words : List Text) (disks : List Disk) (as_many : length disks ≡ length (image_list true words)) where
  enough : present words ≡ length disks
  enough = sym (as_many ∙ image_count words)

  -- as many members as devices
  pub member_count : (size : ℕ) (members : List NewMember) → AreMembers params (sizes_of words disks) size members → length members ≡ length disks
  member_count size members are =
      sym (length-map members device_of_member) ∙ ap length are.devices ∙ device_count (sizes_of words disks) ∙ sizes_there words disks (omega (arith, enough)) ∙ enough

  -- each device has room for what stands in front of the data
  pub has_room : (size : ℕ) → IsGeometry params (sizes_of words disks) size → (k : ℕ) (d : Disk) → k < length disks → slice_get disks k ≡ Some d → 2048 ≤ sectors_on d
  has_room size geometry k d lt is =
      let found = role_of words disks k d (omega (arith, lt, enough)) is in
      let room = geometry.room found.0 (sectors_on d) found.1 in
      omega (arith, room)
