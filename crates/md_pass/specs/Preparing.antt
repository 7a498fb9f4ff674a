-- What a pass takes memory for before a device leaves its list, and what it can be carried out on.
use Rattle.std.specs.Prelude.{◌≡◌, ℕ, ◌-◌, ◌<◌, List, length, map, min, filter}
use Rattle.std.specs.Int.{div_ceil}
use Rattle.std.specs.List.{All}
use Rattle.md_cert.specs.declared.slots.Slot.{Slot}
use Rattle.md_device.specs.declared.device.Device.{Ghosts}
use Rattle.md_bitmap.specs.declared.chunks.Chunks.{Chunks}
use Rattle.md_collect.specs.Places.{HasRoom}
use Rattle.md_collect.specs.Collecting.{ArePlanned, IsUnreported, copying}
use Rattle.md_collect.specs.Workers.Waiting.{HasMemoryFor}
use Rattle.md_pass.specs.declared.preparing.Preparation.{Preparation}
use Rattle.md_pass.specs.declared.source_reading.Reading.{Reading}
use Rattle.md_pass.specs.declared.source.Source.{Source}
use Rattle.md_pass.specs.Copied.{AreUncopied, PassState}
use Rattle.md_pass.specs.Places.{AreInTurn}
use Rattle.md_pass.specs.Readings.{HaveFirstMemory, IsOrderOf, has_slot}
use Rattle.md_pass.specs.Sources.{MayRead, copy_of}

-- the sources that read
abbrev pub sources_of : Preparation → List Source
sources_of p = map (λ (r : Reading). r.source) p.readings.items

-- A collector that has no report yet, the chunks that each source reads with memory for the reports of two turns, and the places at which the sources' devices leave, one after another.
pub record IsOrdered (p : Preparation) : Type 0 where
  pub fresh : IsUnreported p.collector
  pub chunks : p.chunks ≡ p.collector.chunks
  pub slots : length p.collector.slots ≡ p.slots
  pub orders : All (λ r. IsOrderOf p.collector.slots r.source.role r.chunks.items) p.readings.items
  pub some : 0 < p.most
  pub first_memory : HaveFirstMemory p.collector.chunks p.most p.readings.items p.waiting.items
  pub later_memory : All (λ r. HasMemoryFor p.collector.chunks (min p.most (length r.chunks.items - p.most)) r.reports) p.readings.items
  pub places : AreInTurn (map (λ (r : Reading). r.source.place) p.readings.items) p.places.items

-- A preparation of this plan, for those of these sources that have a slot.
pub record IsPreparedFor (slots : List Slot) (chunks : Chunks) (offset : ℕ) (sources : List Source) (p : Preparation) : Type 0 where
  pub copy : copying p.collector ≡ copy_of slots chunks offset
  pub ordered : IsOrdered p
  pub reads : sources_of p ≡ filter (λ s. has_slot slots s.role) sources

-- A preparation can be carried out on these devices and this target.
pub record CanCopy {D : Type 0} (g : Ghosts D) (p : Preparation) (now : PassState D) : Type 0 where
  pub ordered : IsOrdered p
  pub planned : ArePlanned p.collector.chunks p.collector.slots
  pub sources : MayRead g p.collector.chunks p.collector.slots (sources_of p) now.devices
  pub room : HasRoom (g.content now.target) p.collector.offset p.collector.chunks
  pub marks : now.copied.chunks ≡ div_ceil p.collector.chunks.size p.collector.chunks.sectors
  pub uncopied : AreUncopied p.collector.slots now.copied
