-- Images under their masks.
use Rattle.md_device.specs.declared.device.Device.{Ghosts}
use Rattle.std.specs.Prelude.{◌≡◌, ℕ, List, [], length, Option, Some, None, true, false}
use Rattle.md_badblocks.specs.declared.run.Run.{Run}
use Rattle.md_images.specs.MemImages.{Named}
use Rattle.md_images.specs.declared.images.Images.{Ghosts as ImagesGhosts}
use Rattle.md_files.specs.Masks.Maps.Map.{IsMapReadAs, IsMapRefused}
use Rattle.md_files.specs.declared.masks.maps.fault.MapFault.{MapFault}
use Rattle.md_files.specs.Masks.Device.Masked.{Masked}
use Rattle.md_files.specs.declared.masks.images.fault.LackingFault.{LackingFault}
use Rattle.md_files.specs.declared.masks.images.fault.LackingFault.TheVariants as lacking

-- The masks are kept by name, each over a device without sectors.
abbrev pub Masks : Type 0
Masks = List (Named (Masked (List ℕ)))

-- a device under a mask
abbrev pub under : {D : Type 0} → Masked (List ℕ) → D → Masked D
under m d = record { inner = d; mask = m.mask; disk = m.disk; faults = m.faults }

-- the device under a name, where there is one, and a mask of that name
abbrev pub masked : {D : Type 0} → Option D → Option (Masked (List ℕ)) → Option (Masked D)
masked (Some d) (Some m) = Some (under m d)
masked _ _ = None

-- a mask, where the disk has these bytes
abbrev pub mask_of : List Run → List ℕ → Masked (List ℕ)
mask_of mask disk = record { inner = []; mask = mask; disk = disk; faults = [] }

-- one more mask
abbrev pub named_mask : List ℕ → Masked (List ℕ) → Named (Masked (List ℕ))
named_mask name mask = record { name = name; device = Some mask; changeable = true; asked = false }

-- there is a device of this many bytes
abbrev pub HasSize : {D : Type 0} → Ghosts D → Option D → ℕ → Type 0
HasSize g device size = (d : _) × (device ≡ Some d) × (length (g.content d) ≡ size)

-- Where it is known which devices there are, each name has what it had, and none was had so that it might have been changed.
pub record KeepsAll {I D : Type 0} (i : ImagesGhosts I D) (before after : I) : Type 0 where
  pub known : i.known after ≡ i.known before
  pub holds : i.known before ≡ true → (n : List ℕ) → i.holds after n ≡ i.holds before n
  pub devices : i.known before ≡ true → (n : List ℕ) → i.device_at after n ≡ i.device_at before n
  pub rights : i.known before ≡ true → (n : List ℕ) → i.changeable after n ≡ i.changeable before n
  pub asked : i.known before ≡ true → (n : List ℕ) → i.asked after n ≡ i.asked before n

-- the map of the image under a name says that it lacks these sectors
pub record IsMissingByMap {I D : Type 0} (i : ImagesGhosts I D) (g : Ghosts D) (name map : List ℕ) (images : I) (missing : List Run) : Type 0 where
  pub size : ℕ
  pub sized : i.known images ≡ true → HasSize g (i.device_at images name) size
  pub lacks : IsMapReadAs size map missing

-- The map is refused with this fault as one of the image under a name.
pub record IsNoMap {I D : Type 0} (i : ImagesGhosts I D) (g : Ghosts D) (name map : List ℕ) (images : I) (fault : MapFault) : Type 0 where
  pub size : ℕ
  pub sized : i.known images ≡ true → HasSize g (i.device_at images name) size
  pub refused : IsMapRefused size map fault

-- What the copy lacks can't be told: the map is refused, or the image can't be looked at.
abbrev pub RefusesLacking : {I D : Type 0} → ImagesGhosts I D → Ghosts D → List ℕ → List ℕ → I → LackingFault → Type 0
RefusesLacking i g name map images (lacking.Map fault) = IsNoMap i g name map images fault
RefusesLacking i g name map images (lacking.Image fault) = Unit {0}
