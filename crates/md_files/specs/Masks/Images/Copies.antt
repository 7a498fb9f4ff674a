-- Which of the images are copies, and what each lacks by its map.
use Rattle.md_device.specs.declared.device.Device.{Ghosts}
use Rattle.std.specs.Prelude.{◌≡◌, ◌⊎◌, ◌<◌, ◌==◌, ℕ, List, [], length, Option, Some, None, position, slice_get}
use Rattle.std.specs.Borrow.{Bor}
use Rattle.md_images.specs.declared.image_refusal.ImageRefusal.TheVariants.{Unopened}
use Rattle.md_badblocks.specs.declared.run.Run.{Run}
use Rattle.md_images.specs.Taking.{Text, name_at}
use Rattle.md_files.specs.declared.masks.maps.fault.MapFault.{MapFault}
use Rattle.md_images.specs.declared.images.Images.{Ghosts as ImagesGhosts}
use Rattle.md_files.specs.Masks.Images.OwnLines.{RefusesOwnLines}
use Rattle.md_files.specs.Masks.Images.Masks.{IsMissingByMap, IsNoMap, Masks, mask_of, named_mask}
use Rattle.md_files.specs.declared.masks.images.fault.MapRefusal.TheVariants.{Map}
use Rattle.md_files.specs.declared.masks.images.fault.MapsFault.{MapsFault}
use Rattle.md_files.specs.declared.masks.images.fault.MapsFault.TheVariants.{BadImage, BadMap, NoMemory}
use Rattle.md_files.specs.declared.masks.images.copies.MapText.{MapText}

-- the place of the first map of an image
abbrev pub first_of : List MapText → ℕ → Option ℕ
first_of maps image = position (λ text. text.image == image) maps

module _ {I D : Type 0} (i : ImagesGhosts I D) (g : Ghosts D) (images : I) (maps : List MapText) where
  -- the map at this place says that the image under a name lacks these sectors
  pub record LacksByMap (place : ℕ) (name : Text) (missing : List Run) : Type 0 where
    pub map : MapText
    pub at : slice_get maps place ≡ Some map
    pub lacks : IsMissingByMap i g name map.text.items images missing

  -- by the first map of the image, and nothing where it has none
  abbrev pub LacksBy : Option ℕ → Text → List Run → Type 0
  LacksBy (Some place) name missing = LacksByMap place name missing
  LacksBy None name missing = missing ≡ []

  abbrev pub LacksByFirstMap : ℕ → Text → List Run → Type 0
  LacksByFirstMap image name missing = LacksBy (first_of maps image) name missing

  -- the mask of the image at this place (`[]`: what the disk itself holds is not known)
  pub record IsMaskedAt (names : List Text) (masks : Masks) (image : ℕ) : Type 0 where
    pub missing : List Run
    pub lacks : LacksByFirstMap image (name_at names image) missing
    pub at : slice_get masks image ≡ Some (named_mask (name_at names image) (mask_of missing []))

  -- the first n images have each its own mask, under their names
  pub record AreMasked (names : List Text) (n : ℕ) (masks : Masks) : Type 0 where
    pub many : length masks ≡ n
    pub each : (image : ℕ) → image < n → IsMaskedAt names masks image

  -- the map at this place is none of the image under a name
  pub record HasNoMap (place : ℕ) (name : Text) (fault : MapFault) : Type 0 where
    pub map : MapText
    pub at : slice_get maps place ≡ Some map
    pub refused : IsNoMap i g name map.text.items images fault

  -- why it is not known what the image at this place lacks: its first map is none of it, or the image can't be looked at
  abbrev pub RefusesMap : ℕ → Text → MapsFault → Type 0
  RefusesMap image name (BadMap place (Map fault)) = (first_of maps image ≡ Some place) × HasNoMap place name fault
  RefusesMap image name (BadImage blamed (Unopened fault)) = (blamed ≡ image) × ((place : ℕ) × (first_of maps image ≡ Some place))
  RefusesMap image name NoMemory = Unit {0}
  RefusesMap image name _ = ⊥

  -- for one of the images
  pub record RefusesTexts (names : List Text) (fault : MapsFault) : Type 0 where
    pub image : ℕ
    pub within : image < length names
    pub refused : RefusesMap image (name_at names image) fault

  -- a map is another image's by its own line, or it is not known what an image lacks
  abbrev pub RefusesMasks : List (Bor Text) → List Text → MapsFault → Type 0
  RefusesMasks words names fault = RefusesOwnLines words maps fault ⊎ RefusesTexts names fault
