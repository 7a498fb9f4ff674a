-- What a pass asks of the members that it reads.
use Rattle.std.specs.Prelude.{◌≡◌, ◌≢◌, ℕ, ◌<◌, List, length, slice_index_or, All}
use Rattle.std.specs.List.{AllPairs, Any}
use Rattle.md_cert.specs.declared.slots.Slot.{Slot}
use Rattle.md_device.specs.declared.device.Device.{Ghosts}
use Rattle.md_bitmap.specs.declared.chunks.Chunks.{Chunks}
use Rattle.md_collect.specs.Places.{HasRoom}
use Rattle.md_collect.specs.Reports.{Copying}
use Rattle.md_pass.specs.declared.source.Source.{Source}

-- what is copied to a target whose data start at this sector
abbrev pub copy_of : List Slot → Chunks → ℕ → Copying
copy_of slots chunks offset = record { slots = slots; chunks = chunks; offset = offset }

module _ {D : Type 0} (g : Ghosts D) where
  -- The members that a plan's slots name, by rising roles. Each has a place of its own among the devices, and a device with room for the array's data.
  pub record MayRead (chunks : Chunks) (slots : List Slot) (sources : List Source) (devices : List D) : Type 0 where
    pub within : All (λ s. s.place < length devices) sources
    pub room : All (λ s. (d : D) → HasRoom (g.content (slice_index_or devices s.place d)) s.offset chunks) sources
    pub apart : AllPairs (λ a b. a.place ≢ b.place) sources
    pub rising : AllPairs (λ a b. a.role < b.role) sources
    pub serves : All (λ slot. Any (λ s. s.role ≡ slot.source) sources) slots
