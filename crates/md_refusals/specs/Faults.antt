-- What a command says of images that are not opened.
use Rattle.md_images.specs.declared.fault.ImagesFault.{ImagesFault}
use Rattle.md_images.specs.declared.fault.ImagesFault.TheVariants as images
use Rattle.md_refusals.specs.declared.fault.CommandFault.{CommandFault}
use Rattle.md_refusals.specs.declared.fault.CommandFault.TheVariants.{BadImage, NoMemory}

-- what a command answers where devices are not taken out of their images
abbrev pub of_images : ImagesFault → CommandFault
of_images (images.BadImage index why) = BadImage index why
of_images images.NoMemory = NoMemory
