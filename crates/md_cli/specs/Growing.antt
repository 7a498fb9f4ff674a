-- What `grow` does with the devices of the images.
use Rattle.std.specs.Prelude.{◌≡◌, ◌⊎◌, ℕ, false, List, Option, Some, None, Result, Ok, Err, MatchResult, codes, if◌then◌else◌}
use Rattle.std.specs.Str.{bytes_eq}
use Rattle.clap.specs.Words.{Text}
use Rattle.md_device.specs.declared.device.Device.{Ghosts as DeviceGhosts}
use Rattle.md_images.specs.declared.access.Access.TheVariants.{Change}
use Rattle.md_images.specs.declared.images.Images.{Ghosts as ImagesGhosts}
use Rattle.md_images.specs.Taking.{image_list}
use Rattle.md_streams.specs.declared.asker.Asker.{Ghosts as AskerGhosts}
use Rattle.md_streams.specs.declared.sink.Sink.{Ghosts as SinkGhosts}
use Rattle.md_state.specs.View.{Disk}
use Rattle.md_metadata.specs.Grow.Growing.{Grows, RefusesToGrow}
use Rattle.md_metadata.specs.declared.bitmap_grow.fault.GrowFault.{GrowFault}
use Rattle.md_refusals.specs.declared.fault.CommandFault.{CommandFault}
use Rattle.md_refusals.specs.declared.fault.CommandFault.TheVariants as fault
use Rattle.md_refusals.specs.declared.option_fault.OptionFault.TheVariants.{BadBitmap, BadChunk}
use Rattle.md_report.specs.AsText.WholeArray.SummaryReport.{summary_text}
use Rattle.md_words.specs.Asks.{grows}
use Rattle.md_cli.specs.AllNamed.{ChecksNamed}
use Rattle.md_cli.specs.Arrays.{ChangesDevices, ShowsDevices, UsesImages, Work}
use Rattle.md_cli.specs.CreateOptions.{bytes_of_kib}
use Rattle.md_cli.specs.Streams.{OnlyPutsOut, Told}

-- the bytes of a chunk, where they fit 32 bits
abbrev pub chunk_or_fault : Option ℕ → Result ℕ CommandFault
chunk_or_fault None = Err (fault.Options BadChunk)
chunk_or_fault (Some bytes) = Ok bytes

-- what the options ask for: an internal bitmap, with chunks of so many bytes
abbrev pub chunk_asked : Text → ℕ → Result ℕ CommandFault
chunk_asked bitmap kib =
    if bytes_eq bitmap (codes "internal") then chunk_or_fault (bytes_of_kib kib)
    else Err (fault.Options BadBitmap)

abbrev pub some_chunk : Result ℕ CommandFault → Result (Option ℕ) CommandFault
some_chunk (Ok chunk_bytes) = Ok (Some chunk_bytes)
some_chunk (Err why) = Err why

-- what the option of a command asks for that only looks at images: nothing, or a bitmap with chunks of 64 MiB
abbrev pub chunk_in_memory : Option Text → Result (Option ℕ) CommandFault
chunk_in_memory None = Ok None
chunk_in_memory (Some bitmap) = some_chunk (chunk_asked bitmap 65536)

module _ {S : Type 0} (s : SinkGhosts S) (chunk_bytes : ℕ) where
  -- The members get their bitmaps, and the devices are opened and shown in a line.
  pub record ShowsGrown (before after : List Disk) (old new : S)
      (result : Result (Unit {0}) CommandFault) : Type 0 where
    pub middle : List Disk
    pub grown : Grows chunk_bytes before middle
    pub opened : ShowsDevices s summary_text middle after old new result

  -- No member gets a bitmap, or not all of them do.
  pub record RefusesGrown (before after : List Disk) (old new : S)
      (result : Result (Unit {0}) CommandFault) : Type 0 where
    pub why : GrowFault
    pub is : result ≡ Err (fault.Grow why)
    pub refused : RefusesToGrow chunk_bytes before after why
    pub unwritten : new ≡ old

  abbrev pub GrowsOn : List Disk → List Disk → S → S → Result (Unit {0}) CommandFault → Type 0
  GrowsOn before after old new result =
      ShowsGrown before after old new result ⊎ RefusesGrown before after old new result

-- nothing is noticed meanwhile, and nobody is asked
abbrev pub GrowsTold : {R S A : Type 0} → SinkGhosts S → ℕ → Work (Told R S A)
GrowsTold s chunk_bytes before after old new result =
    OnlyPutsOut old new × GrowsOn s chunk_bytes before after old.streams.output new.streams.output result

module _ {I D R S A : Type 0} (i : ImagesGhosts I D) (g : DeviceGhosts D) (s : SinkGhosts S)
    (asker : AskerGhosts A) where
  -- the options are refused, and nothing is done
  pub record RefusesKind (why : CommandFault) (before after : I) (old new : Told R S A)
      (result : Result (Unit {0}) CommandFault) : Type 0 where
    pub is : result ≡ Err why
    pub untouched : after ≡ before
    pub unwritten : new ≡ old

  -- What `grow` does with the images that its words name. It is asked first if a member in sync is not among them.
  abbrev pub GrowsArray : Text → ℕ → List Text → I → I → Told R S A → Told R S A
      → Result (Unit {0}) CommandFault → Type 0
  GrowsArray bitmap kib words before after old new result =
      MatchResult (chunk_asked bitmap kib)
      (λ chunk_bytes. UsesImages i g
      (ChangesDevices (ChecksNamed asker (grows bitmap kib) (Some chunk_bytes)) (GrowsTold s chunk_bytes))
      Change (image_list false words) before after old new result)
      (λ why. RefusesKind why before after old new result)
