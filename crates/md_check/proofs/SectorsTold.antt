-- What a gate was told, over several reads.
use Rattle.std.proofs.Common.{◌≡◌, ℕ, ◌+◌, ◌<◌, ◌≤◌, List, inl, inr, ap, sym, ◌∙◌, subst, arith}
use Rattle.std.proofs.lemmas.Bool.{cases_lt}
use Rattle.md_badblocks.specs.declared.run.Run.{Run}
use Rattle.md_badblocks.specs.Runs.{IsBad}
use Rattle.md_bitmap.specs.Chunks.{InChunk}
use Rattle.md_bitmap.specs.declared.chunks.Chunks.{Chunks}
use Rattle.md_streams.specs.declared.gate.Gate.{Ghosts}
use Rattle.md_collect.specs.Workers.Gates.{IsTold}
use Rattle.md_device.specs.declared.device.Device.{Ghosts as Devices}
use Rattle.md_check.specs.declared.reader.Reader.{Reader}
use Rattle.md_check.specs.Readers.{OnlyReaderRead}
use Rattle.md_check.specs.Told.{IsToldOfReader, IsToldOfSectors}
use Rattle.md_check.proofs.ChunkSectors.{chunk_is}

module _ {G : Type 0} (t : Ghosts G) (gate : G) where
  -- of no sector
  pub told_none : (role : ℕ) (chunks : Chunks) (listed : List Run) (from : ℕ) → IsToldOfSectors t gate role chunks listed from 0
  told_none role chunks listed from c to = absurd (omega (arith, to.not_before, to.before))

  -- of one that is listed
  pub told_listed : (role : ℕ) (chunks : Chunks) (listed : List Run) (sector : ℕ) → IsBad listed sector → IsToldOfSectors t gate role chunks listed sector 1
  told_listed role chunks listed sector bad c to =
      let at : sector ≡ to.sector = omega (arith, to.not_before, to.before) in
      absurd (to.unlisted (subst (λ s. IsBad listed s) at bad))

  -- of sectors of one chunk, whose read it was told
  pub told_run : (role : ℕ) (chunks : Chunks) (listed : List Run) (sector run chunk : ℕ) → ((s : ℕ) → sector ≤ s → s < sector + run → InChunk chunks.sectors chunks.size chunk s)
      → IsTold t gate role chunk → IsToldOfSectors t gate role chunks listed sector run
  told_run role chunks listed sector run chunk within told c to =
      let wide = chunks.chunking.some_sectors in
      let own = chunk_is chunks.sectors chunks.size chunk to.sector wide (within to.sector to.not_before to.before) in
      let its = chunk_is chunks.sectors chunks.size c to.sector wide to.inside in
      subst (λ n. IsTold t gate role n) (own ∙ sym its) told

  -- of some sectors, and of those after them
  pub told_then : (role : ℕ) (chunks : Chunks) (listed : List Run) (from n mid m all : ℕ) → mid ≡ from + n → all ≡ n + m
      → IsToldOfSectors t gate role chunks listed from n → IsToldOfSectors t gate role chunks listed mid m → IsToldOfSectors t gate role chunks listed from all
  told_then role chunks listed from n mid m all at many first next c to =
      elim (cases_lt to.sector mid) [
        | inl early ↦ first c (record { sector = to.sector; not_before = to.not_before; before = omega (arith, early, at); inside = to.inside; unlisted = to.unlisted })
        | inr late ↦ next c (record { sector = to.sector; not_before = late; before = omega (arith, to.before, at, many); inside = to.inside; unlisted = to.unlisted })
      ]

  -- of some sectors of a reader, and of those after them
  pub reader_told_then : {D : Type 0} (chunks : Chunks) (from n mid m all : ℕ) (reader : Reader D) → mid ≡ from + n → all ≡ n + m
      → IsToldOfReader t gate chunks from n reader → IsToldOfReader t gate chunks mid m reader → IsToldOfReader t gate chunks from all reader
  reader_told_then chunks from n mid m all reader at many first next role is =
      told_then role chunks reader.listed from n mid m all at many (first role is) (next role is)

  -- of a reader as it was before it was read
  pub told_before : {D : Type 0} {g : Devices D} (chunks : Chunks) (from n : ℕ) (first old : Reader D) → OnlyReaderRead g first old → IsToldOfReader t gate chunks from n old → IsToldOfReader t gate chunks from n first
  told_before chunks from n first old read told role is =
      subst (λ (runs : List Run). IsToldOfSectors t gate role chunks runs from n) (ap (λ (s : Reader _). s.listed) read.kept)
      (told role (ap (λ (s : Reader _). s.role) read.kept ∙ is))
