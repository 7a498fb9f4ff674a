-- What a pass leaves of its target: all but the chunks of the plan.
use Rattle.std.specs.Prelude.{◌≡◌, ℕ, ◌+◌, ◌*◌, ◌≤◌, ◌==◌, ◌⊎◌, Bool, true, false, List, length}
use Rattle.std.specs.List.{list_any}
use Rattle.md_cert.specs.declared.slots.Slot.{Slot}
use Rattle.md_bitmap.specs.declared.chunks.Chunks.{Chunks}
use Rattle.md_bitmap.specs.Marks.{Bitmap, is_set}
use Rattle.md_device.specs.Splice.{part}
use Rattle.md_device.specs.Crashes.{LeavesMore}
use Rattle.md_device.specs.Failing.{OnlyWritesFailed}
use Rattle.md_device.specs.declared.device.Device.{Ghosts}
use Rattle.md_collect.specs.Places.{start_of, bytes_of_chunk}
use Rattle.md_collect.specs.Reports.{Copying}
use Rattle.md_collect.specs.Collecting.{CollectorView, copying}

-- a slot has the chunk
abbrev pub has_chunk : List Slot → ℕ → Bool
has_chunk slots c = list_any (λ slot. slot.chunk == c) slots

-- n bytes from a place on lie beside the chunk of a member whose data start at this sector
abbrev pub LiesBesideChunk : Chunks → ℕ → ℕ → ℕ → ℕ → Type 0
LiesBesideChunk chunks offset at n c = (at + n ≤ 512 * (offset + start_of chunks c)) ⊎ (512 * (offset + start_of chunks c) + bytes_of_chunk chunks c ≤ at)

-- two contents that are the same beside the chunks that are copied
pub record SameBeside (copy : Copying) (old new : List ℕ) : Type 0 where
  pub size : length new ≡ length old
  pub beside : (at n : ℕ) → ((c : ℕ) → has_chunk copy.slots c ≡ true → LiesBesideChunk copy.chunks copy.offset at n c) → part new at n ≡ part old at n

-- a target before and after chunks were copied to it, and what a crash in between leaves of it
pub record KeepsBeside {D : Type 0} (g : Ghosts D) (copy : Copying) (old new : D) : Type 0 where
  pub same : SameBeside copy (g.content old) (g.content new)
  pub honest_kept : g.honest new ≡ g.honest old
  pub counted : g.failures old ≤ g.failures new
  pub writes_alone : OnlyWritesFailed (g.faults old) (g.faults new)
  pub crashes : g.honest old ≡ true → LeavesMore (g.crashes old) (g.crashes new) (SameBeside copy (g.content old))

-- a collector and its target before and after it took reports
pub record WritesBeside {D : Type 0} (g : Ghosts D) (old new : CollectorView) (before after : D) : Type 0 where
  pub copy : copying new ≡ copying old
  pub target : KeepsBeside g (copying old) before after

-- two contents that are the same beside the chunks that were copied in between
pub record SameBesideCopied (chunks : Chunks) (offset : ℕ) (before after : Bitmap) (old new : List ℕ) : Type 0 where
  pub size : length new ≡ length old
  pub beside : (at n : ℕ) → ((c : ℕ) → is_set after.bytes c ≡ true → is_set before.bytes c ≡ false → LiesBesideChunk chunks offset at n c) → part new at n ≡ part old at n
