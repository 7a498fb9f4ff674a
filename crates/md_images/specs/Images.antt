-- How an image may be had.
use Rattle.std.specs.Prelude.{◌≡◌, ◌⊎◌, Bool, true, false, Option, None}
use Rattle.md_images.specs.declared.image_fault.ImageFault.{ImageFault}
use Rattle.md_images.specs.declared.image_fault.ImageFault.TheVariants.{NotWritable}
use Rattle.md_images.specs.declared.access.Access.{Access}
use Rattle.md_images.specs.declared.access.Access.TheVariants.{Change, Look}

-- whether an image is had for this access, where it may be changed or not
abbrev pub allows : Access → Bool → Bool
allows Change changeable = changeable
allows _ changeable = true

-- whether what is had for this access may be changed
abbrev pub asks : Access → Bool
asks Look = false
asks _ = true

-- why it is not had: there is no device, or it is to be changed and may not be
abbrev pub IsImageRefused : {D : Type 0} → Option D → Bool → ImageFault → Type 0
IsImageRefused device allowed fault = (device ≡ None) ⊎ ((allowed ≡ false) × (fault ≡ NotWritable))
