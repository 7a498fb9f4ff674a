-- What was read was read where more calls may have failed.
use Rattle.std.proofs.Common.{◌≡◌, ◌*◌, ◌<◌, ◌≤◌, ℕ, Bool, false, List, [], Option, Some, None, length, refl, subst, sym, arith}
use Rattle.std.proofs.Math.Logic.{⊎_map}
use Rattle.std.proofs.lemmas.List.Elements.{All-nil}
use Rattle.md_device.specs.declared.device.Device.{Ghosts}
use Rattle.md_device.specs.declared.fault_list.Fault.{Fault}
use Rattle.md_device.specs.Failing.{OnlyReadsFailed}
use Rattle.md_device.specs.Splice.{part}
use Rattle.md_device.proofs.Failing.{fails_none, fails_still}
use Rattle.md_members.specs.Reading.{CallFails, IsRead}
use Rattle.md_members.proofs.Failed.{fails_later}
use Rattle.md_raw_reports.specs.declared.raw_bitmap.CountedMarks.{CountedMarks}
use Rattle.md_raw_reports.specs.declared.raw_bitmap.RawBitmap.{RawBitmap}
use Rattle.md_raw_reports.specs.declared.raw_bitmap.RawBitmap.TheVariants.{Unplaced, Unreadable, Read}
use Rattle.md_raw_reports.specs.declared.raw_bitmap.UnreadMarks.{UnreadMarks}
use Rattle.md_raw_reports.specs.RawMembers.Raw.{CountsMarks, HasCounts, IsRest, ReadsBitmapAt, ReadsFront, ReadsLogAt, ReadsLogOf, ReadsPlacedBitmap, ReadsRawBitmap, TriesFront}
use Rattle.md_raw_reports.specs.declared.raw_members.read_parts.RawLog.{RawLog}

module _ (content : List ℕ) (honest : Bool) (F G : (Fault → Type 0) → Type 0) (via : (P : Fault → Type 0) → F P → G P) where
  rest_later : (start chunks sectors : ℕ) (u : Option UnreadMarks) → IsRest content honest F start chunks sectors u → IsRest content honest G start chunks sectors u
  rest_later start chunks sectors None r = r
  rest_later start chunks sectors (Some u) r =
      record { more = r.more; sector = r.sector; chunks_are = r.chunks_are; failed = λ on. via _ (r.failed on) }

  counts_later : (start : ℕ) (sector : List ℕ) (chunks : ℕ) (m : CountedMarks) → CountsMarks content honest F start sector chunks m → CountsMarks content honest G start sector chunks m
  counts_later start sector chunks m c = record {
    chunks_are = c.chunks_are;
    sectors = c.sectors;
    counted = c.counted;
    rest = rest_later start chunks c.sectors m.unread c.rest;
  }

  pub marks_later : (start : ℕ) (sector : List ℕ) (m : Option CountedMarks) → HasCounts content honest F start sector m → HasCounts content honest G start sector m
  marks_later start sector None h = h
  marks_later start sector (Some m) h = (h.0, counts_later start sector _ m h.1)

  at_later : (start : ℕ) (b : RawBitmap) → ReadsBitmapAt content honest F start b → ReadsBitmapAt content honest G start b
  at_later start Unplaced r = r
  at_later start (Unreadable sector) r = (r.0, r.1, via _ r.2)
  at_later start (Read sector marks) r = (r.0, marks_later start sector marks r.1)

  pub bitmap_later : (superblock : List ℕ) (b : RawBitmap) → ReadsPlacedBitmap content honest F superblock b → ReadsPlacedBitmap content honest G superblock b
  bitmap_later superblock b r = record { told = r.told; start = r.start; at = r.at; reads = at_later r.start b r.reads }

  pub front_later : (sectors : ℕ) (bytes : List ℕ) → ReadsFront content honest F sectors bytes → ReadsFront content honest G sectors bytes
  front_later sectors bytes r = record { long = r.long; few = r.few; read = r.read; failed = λ less. via _ (r.failed less) }

  log_at_later : (superblock bytes : List ℕ) (start len : ℕ) (lost : Option ℕ) → ReadsLogAt content honest F superblock bytes start (record { len = len; lost = lost })
      → ReadsLogAt content honest G superblock bytes start (record { len = len; lost = lost })
  log_at_later superblock bytes start len None r = r
  log_at_later superblock bytes start len (Some sector) r = (r.0, r.1, r.2, via _ r.3)

  pub log_later : (superblock bytes : List ℕ) (log : RawLog) → ReadsLogOf content honest F superblock bytes log → ReadsLogOf content honest G superblock bytes log
  log_later superblock bytes log =
      ⊎_map (λ none. none)
      (λ r. record { told = r.told; few = r.few; start = r.start; at = r.at; reads = log_at_later superblock bytes r.start log.len log.lost r.reads })

-- ---- a read that failed before other reads, and after them
module _ {D : Type 0} (g : Ghosts D) (old mid new : D) (P : Fault → Type 0) where
  pub fails_before : CallFails g old mid P → g.failures mid ≤ g.failures new → OnlyReadsFailed (g.faults mid) (g.faults new) → CallFails g old new P
  fails_before failed counted grown =
      (omega (arith, failed.0, counted), fails_still (g.faults old) (g.faults mid) (g.faults new) P (λ f. f.writes ≡ false) failed.1 grown)

  -- the other one did not fail
  pub fails_behind : g.failures old ≤ g.failures mid → g.faults mid ≡ g.faults old → CallFails g mid new P → CallFails g old new P
  fails_behind counted same =
      fails_later g old mid new P (λ f. f.writes ≡ false) counted
      (subst (λ (xs : List Fault). OnlyReadsFailed (g.faults old) xs) (sym same) (fails_none (g.faults old) (λ f. f.writes ≡ false)))

-- a bitmap that has a place
pub placed_bitmap : (content : List ℕ) (honest : Bool) (F : (Fault → Type 0) → Type 0) (sectors : ℕ) (superblock : List ℕ) (b : RawBitmap) → 0 < sectors → ReadsPlacedBitmap content honest F superblock b → ReadsRawBitmap content honest F sectors superblock b
placed_bitmap content honest F sectors superblock Unplaced some r = absurd r.reads
placed_bitmap content honest F sectors superblock (Unreadable sector) some r = (some, r)
placed_bitmap content honest F sectors superblock (Read sector marks) some r = (some, r)

-- what was tried was tried before more calls
pub tried_later : (honest : Bool) (before mid after sectors : ℕ) → mid ≤ after → TriesFront honest before mid sectors → TriesFront honest before after sectors
tried_later honest before mid after sectors more t =
    record { counts = t.counts; twice = λ none is. let two = t.twice none is in omega (arith, two, more) }

-- nothing was read
pub read_nothing : (content : List ℕ) (honest : Bool) (sector : ℕ) → 512 * sector ≤ length content → IsRead content honest sector 0 []
unfolding part
read_nothing content honest sector fits = record {
  within = omega (arith, fits);
  size = refl;
  are_bytes = All-nil (λ byte. byte < 256);
  from_device = λ _. refl;
}
