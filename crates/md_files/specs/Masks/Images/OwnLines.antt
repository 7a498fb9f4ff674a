-- Which copy a map says itself that it is of: ddrescue writes into it the command that made it (`Maps/OwnCommand.antt`). How names are
-- compared is this project's own.
use Rattle.std.specs.Prelude.{◌≡◌, ℕ, ◌<◌, ◌-◌, ◌==◌, ◌||◌, ◌&&◌, Bool, not, nat_lt, List, [], ◌∷◌, length, drop, reverse, codes, Option, Some, None, position, unwrap_or, slice_get, slice_index, if◌then◌else◌}
use Rattle.std.specs.Borrow.{Bor}
use Rattle.std.specs.List.{list_any, range_with_len, starts_with}
use Rattle.md_images.specs.Taking.{Text}
use Rattle.md_files.specs.Masks.Maps.OwnCommand.{command_of}
use Rattle.md_files.specs.declared.masks.images.copies.MapText.{MapText}
use Rattle.md_files.specs.declared.masks.images.fault.MapRefusal.TheVariants.{OfImage}
use Rattle.md_files.specs.declared.masks.images.fault.MapsFault.{MapsFault}
use Rattle.md_files.specs.declared.masks.images.fault.MapsFault.TheVariants.{BadMap}

abbrev pub is_slash : ℕ → Bool
is_slash b = b == 47

-- how many bytes of a path follow its last slash
abbrev pub name_len : Text → ℕ
name_len path = unwrap_or (position is_slash (reverse path)) (length path)

-- the last component of a path
abbrev pub file_name : Text → Text
file_name path = drop (length path - name_len path) path

-- a name may begin there: at the start of a line, or after a space or a slash
abbrev pub is_start : List ℕ → ℕ → Bool
is_start line at = at == 0 || (slice_index line (at - 1) == 32 || slice_index line (at - 1) == 47)

-- a name may end before these bytes: before a space, or at the end of a line
abbrev pub is_end : List ℕ → Bool
is_end rest = length rest == 0 || slice_index rest 0 == 32

-- a name stands there, as whole words or as the last component of a path
abbrev pub stands_at : List ℕ → Text → ℕ → Bool
stands_at line name at =
    nat_lt at (length line) && (is_start line at && (starts_with (λ a b. a == b) (drop at line) name && is_end (drop (length name) (drop at line))))

abbrev pub stands_on : List ℕ → Text → Bool
stands_on line name = list_any (λ at. stands_at line name at) (range_with_len 0 (length line))

-- a command names an image: by the last component of its path, since the folder may have another name by now
abbrev pub names_image : List ℕ → Text → Bool
names_image line path = stands_on line (file_name path)

-- a device, which may have another name since
abbrev pub is_device : Text → Bool
is_device path = starts_with (λ a b. a == b) path (codes "/dev/")

-- a command names an image for sure
abbrev pub surely_names : List ℕ → Text → Bool
surely_names line path = not (is_device path) && names_image line path

-- the first image that the command names, where it does not name that at this place, for which the map is given
abbrev pub other_in : Option (List ℕ) → List (Bor Text) → Option (Bor Text) → Option ℕ
other_in None names own = None
other_in (Some line) names None = None
other_in (Some line) names (Some own) = if names_image line own.now then None else position (λ name. surely_names line name.now) names

-- the other image that the map is of by its own line
abbrev pub other_of : List (Bor Text) → MapText → Option ℕ
other_of names map = other_in (command_of map.text.items) names (slice_get names map.image)

-- the command that made a map, where it does not name the image for which the map is given
abbrev pub strange_in : Option (List ℕ) → Option (Bor Text) → Option (List ℕ)
strange_in None own = None
strange_in (Some line) None = None
strange_in (Some line) (Some own) = if names_image line own.now then None else Some line

abbrev pub strange_command : List (Bor Text) → MapText → Option (List ℕ)
strange_command names map = strange_in (command_of map.text.items) (slice_get names map.image)

-- of no map another image is named
abbrev pub AreOwn : List (Bor Text) → List MapText → ℕ → Type 0
AreOwn names maps n = (place : ℕ) (map : MapText) → place < n → slice_get maps place ≡ Some map → other_of names map ≡ None

-- the first map of which another image is named
pub record IsOfOther (names : List (Bor Text)) (maps : List MapText) (place other : ℕ) : Type 0 where
  pub map : MapText
  pub at : slice_get maps place ≡ Some map
  pub names_other : other_of names map ≡ Some other
  pub first : AreOwn names maps place

abbrev pub RefusesOwnLines : List (Bor Text) → List MapText → MapsFault → Type 0
RefusesOwnLines names maps (BadMap place (OfImage other)) = IsOfOther names maps place other
RefusesOwnLines names maps _ = ⊥
