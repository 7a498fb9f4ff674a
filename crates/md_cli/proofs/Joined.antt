-- The devices of images of which the last is to join the array of the others.
use Rattle.md_device.specs.declared.device.Device.{Ghosts}
use Rattle.std.proofs.Common.{◌≡◌, ◌∙◌, ◌+◌, false, List, [], ◌∷◌, ◌++◌, length, map, refl, ap}
use Rattle.std.specs.List.{filter}
use Rattle.std.proofs.lemmas.List.{length-append, map-append}
use Rattle.std.proofs.lemmas.List.FromFn.{length-map-range_with_len}
use Rattle.md_images.specs.Taking.{Text, Word, image_list, numbered_words}
use Rattle.md_images.proofs.Listed.{is_image, word_at}
use Rattle.md_state.specs.View.{disk_of}

-- where no member may miss, each word names an image
all_listed : (words : List Word) → filter (is_image false) words ≡ words
all_listed [] = refl
all_listed (w ∷ words) = ap (λ (rest : List Word). w ∷ rest) (all_listed words)

pub all_named : (names : List Text) → length (image_list false names) ≡ length names
unfolding image_list
all_named names = ap length (all_listed (numbered_words names)) ∙ length-map-range_with_len (word_at names) 0 (length names)

module _ {D : Type 0} (g : Ghosts D) where
  -- the last of the devices, and those before it
  pub last_of : (all devices : List D) (device : D) → all ≡ devices ++ device ∷ [] → map (disk_of g) all ≡ map (disk_of g) devices ++ disk_of g device ∷ []
  last_of all devices device is = ap (map (disk_of g)) is ∙ map-append (disk_of g) devices (device ∷ [])

  pub one_more : (all devices : List D) (device : D) → all ≡ devices ++ device ∷ [] → length all ≡ length devices + 1
  one_more all devices device is = ap length is ∙ length-append devices (device ∷ [])
