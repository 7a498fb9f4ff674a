-- What a list has of the sectors of a chunk, and below the first and past the last.
use Rattle.std.proofs.Common.{◌≡◌, ℕ, ◌+◌, ◌-◌, ◌*◌, ◌/◌, ◌^◌, ◌<◌, ◌≤◌, inl, inr, true, true≢false, false, List, refl, sym, ap, ◌∙◌, subst, arith}
use Rattle.std.proofs.Math.Nat.{mul-le-mul_right}
use Rattle.std.proofs.lemmas.Bool.{cases_lt}
use Rattle.md_bitmap.specs.declared.chunks.Chunks.{Chunks}
use Rattle.md_bitmap.specs.Marks.{Bitmap, is_set}
use Rattle.md_badblocks.specs.declared.run.Run.{Run}
use Rattle.md_badblocks.specs.Runs.{IsBad, IsCanonical, entries_needed}
use Rattle.md_kept_members.specs.Enrolling.{IsListAfter, IsListWith, IsOf, IsOfChunk}
use Rattle.md_kept_members.specs.Entries.{HasEachSector, HasSectorsOf, Counts, CountsTo, TakeEntries, place_of}
use Rattle.md_kept_members.specs.View.{MemberView}
use Rattle.md_kept_members.specs.declared.run_counter.RunCounter.{RunCounter}
use Rattle.md_kept_members.proofs.EntryCounts.{skipped, to_all}
use Rattle.md_kept_members.proofs.ListsFound.{found_after, found_with}

-- ---- sectors by their places
-- from where a chunk begins, up to where the next does
abbrev IsBetween : Chunks → ℕ → ℕ → ℕ → Type 0
IsBetween chunks offset chunk s = (place_of chunks offset chunk ≤ s) × (s < place_of chunks offset (chunk + 1))

pub places_rise : (chunks : Chunks) (offset chunk : ℕ) → place_of chunks offset chunk ≤ place_of chunks offset (chunk + 1)
places_rise chunks offset chunk = omega arith

in_chunk : (chunks : Chunks) (offset chunk s : ℕ) → IsBetween chunks offset chunk s → IsOfChunk chunks offset chunk s
in_chunk chunks offset chunk s between =
    let from = between.0 in
    let below = between.1 in
    record {
      at = s - offset;
      inside = record { from = omega arith; below = omega arith; within = omega arith };
      is = omega arith;
    }

below_chunk : (chunks : Chunks) (offset chunk s : ℕ) → s < place_of chunks offset chunk → IsOfChunk chunks offset chunk s → ⊥
below_chunk chunks offset chunk s lt of =
    let is = of.is in
    let from = of.inside.from in
    omega arith

-- no earlier chunk has a sector past where one begins
past_chunk : (chunks : Chunks) (offset early chunk s : ℕ) → early < chunk → place_of chunks offset chunk ≤ s → s < 2 ^ 54 → IsOfChunk chunks offset early s → ⊥
past_chunk chunks offset early chunk s lt from low of =
    let is = of.is in
    let below = of.inside.below in
    let within = of.inside.within in
    let le : early + 1 ≤ chunk = omega arith in
    let far : (early + 1) * chunks.sectors ≤ chunk * chunks.sectors = mul-le-mul_right chunks.sectors le in
    omega arith

-- and no later one a sector before where it begins
before_chunk : (chunks : Chunks) (offset chunk later s : ℕ) → chunk ≤ later → s < place_of chunks offset chunk → IsOfChunk chunks offset later s → ⊥
before_chunk chunks offset chunk later s le below of =
    let is = of.is in
    let from = of.inside.from in
    let within = of.inside.within in
    let far : chunk * chunks.sectors ≤ later * chunks.sectors = mul-le-mul_right chunks.sectors le in
    omega arith

one_chunk : (chunks : Chunks) (offset chunk other s : ℕ) → IsBetween chunks offset chunk s → IsOfChunk chunks offset other s → other ≡ chunk
one_chunk chunks offset chunk other s between of =
    let from = between.0 in
    let below = between.1 in
    elim (cases_lt other chunk) [
      | inl early ↦ absurd (past_chunk chunks offset other chunk s early from (omega arith) of)
      | inr late ↦ elim (cases_lt chunk other) [
        | inl later ↦ absurd (before_chunk chunks offset (chunk + 1) other s (omega arith) below of)
        | inr same ↦ omega arith
      ]
    ]

-- ---- sectors of a set of chunks
none_below : (chunks : Chunks) (offset : ℕ) (set : Bitmap) (s : ℕ) → s < place_of chunks offset 0 → IsOf chunks offset set s → ⊥
none_below chunks offset set s below of = before_chunk chunks offset 0 of.chunk s (omega arith) below of.of_chunk

none_past : (chunks : Chunks) (offset : ℕ) (set : Bitmap) (s : ℕ) → place_of chunks offset set.chunks ≤ s → s < 2 ^ 54 → IsOf chunks offset set s → ⊥
none_past chunks offset set s from low of = past_chunk chunks offset of.chunk set.chunks s of.early from low of.of_chunk

none_between : (chunks : Chunks) (offset chunk : ℕ) (set : Bitmap) (s : ℕ) → is_set set.bytes chunk ≡ false → IsBetween chunks offset chunk s → IsOf chunks offset set s → ⊥
none_between chunks offset chunk set s unset between of =
    let same = one_chunk chunks offset chunk of.chunk s between of.of_chunk in
    true≢false (sym of.in_set ∙ ap (is_set set.bytes) same ∙ unset)

all_between : (chunks : Chunks) (offset chunk : ℕ) (set : Bitmap) (s : ℕ) → chunk < set.chunks → is_set set.bytes chunk ≡ true → IsBetween chunks offset chunk s → IsOf chunks offset set s
all_between chunks offset chunk set s early is between =
    record { chunk = chunk; early = early; in_set = is; of_chunk = in_chunk chunks offset chunk s between }

-- ---- the list of a member that was rebuilt
module _ (chunks : Chunks) (m : MemberView) (copied orphans : Bitmap) (list : List Run) (is : IsListAfter chunks m copied orphans list) where
  -- what neither set has is listed as it was
  same_outside : (s : ℕ) → (IsOf chunks m.superblock.data_offset copied s → ⊥) → (IsOf chunks m.superblock.data_offset orphans s → ⊥) → (IsBad list s → IsBad m.bad s) × (IsBad m.bad s → IsBad list s)
  same_outside s uncopied no_orphan = (
    λ bad. elim ((is.bad s).0 bad) [ inl both ↦ both.0 | inr of ↦ absurd (no_orphan of.0) ],
    λ bad. (is.bad s).1 (inl (bad, uncopied)),
  )

  pub after_below : HasSectorsOf m.bad 0 (place_of chunks m.superblock.data_offset 0) list
  after_below s from below = same_outside s (none_below chunks m.superblock.data_offset copied s below) (none_below chunks m.superblock.data_offset orphans s below)

  pub after_past : copied.chunks ≡ orphans.chunks → HasSectorsOf m.bad (place_of chunks m.superblock.data_offset copied.chunks) (2 ^ 54) list
  after_past same s from low =
      let from' = subst (λ n. place_of chunks m.superblock.data_offset n ≤ s) same from in
      same_outside s (none_past chunks m.superblock.data_offset copied s from low) (none_past chunks m.superblock.data_offset orphans s from' low)

  pub after_orphan : (chunk : ℕ) → chunk < orphans.chunks → is_set orphans.bytes chunk ≡ true
      → HasEachSector (place_of chunks m.superblock.data_offset chunk) (place_of chunks m.superblock.data_offset (chunk + 1)) list
  after_orphan chunk early set s from below = (is.bad s).1 (inr (all_between chunks m.superblock.data_offset chunk orphans s early set (from, below), omega arith))

  pub after_copied : (chunk : ℕ) → chunk < copied.chunks → is_set copied.bytes chunk ≡ true → is_set orphans.bytes chunk ≡ false
      → (s : ℕ) → place_of chunks m.superblock.data_offset chunk ≤ s → s < place_of chunks m.superblock.data_offset (chunk + 1) → IsBad list s → ⊥
  after_copied chunk early set unset s from below bad = elim ((is.bad s).0 bad) [
    | inl both ↦ both.1 (all_between chunks m.superblock.data_offset chunk copied s early set (from, below))
    | inr of ↦ none_between chunks m.superblock.data_offset chunk orphans s unset (from, below) of.0
  ]

  pub after_other : (chunk : ℕ) → is_set copied.bytes chunk ≡ false → is_set orphans.bytes chunk ≡ false
      → HasSectorsOf m.bad (place_of chunks m.superblock.data_offset chunk) (place_of chunks m.superblock.data_offset (chunk + 1)) list
  after_other chunk uncopied unset s from below =
      same_outside s (none_between chunks m.superblock.data_offset chunk copied s uncopied (from, below)) (none_between chunks m.superblock.data_offset chunk orphans s unset (from, below))

-- ---- the list of a member with a chunk more
module _ (chunks : Chunks) (chunk : ℕ) (m : MemberView) (list : List Run) (is : IsListWith chunks chunk m list) where
  same_without : (s : ℕ) → (IsOfChunk chunks m.superblock.data_offset chunk s → ⊥) → (IsBad list s → IsBad m.bad s) × (IsBad m.bad s → IsBad list s)
  same_without s out = (
    λ bad. elim ((is.bad s).0 bad) [ inl was ↦ was | inr of ↦ absurd (out of.0) ],
    λ bad. (is.bad s).1 (inl bad),
  )

  pub with_below : HasSectorsOf m.bad 0 (place_of chunks m.superblock.data_offset chunk) list
  with_below s from below = same_without s (below_chunk chunks m.superblock.data_offset chunk s below)

  pub with_chunk : HasEachSector (place_of chunks m.superblock.data_offset chunk) (place_of chunks m.superblock.data_offset (chunk + 1)) list
  with_chunk s from below = (is.bad s).1 (inr (in_chunk chunks m.superblock.data_offset chunk s (from, below), omega arith))

  pub with_past : HasSectorsOf m.bad (place_of chunks m.superblock.data_offset (chunk + 1)) (2 ^ 54) list
  with_past s from low = same_without s (past_chunk chunks m.superblock.data_offset chunk (chunk + 1) s (omega arith) from low)

-- ---- the same where the code has the places, and a list of the runs
as_at : (runs bad : List Run) (from to a b : ℕ) (list : List Run) → runs ≡ bad → from ≡ a → to ≡ b → HasSectorsOf bad a b list → HasSectorsOf runs from to list
as_at runs bad from to a b list same at_from at_to listed s above below =
    let iff = listed s (omega arith) (omega arith) in
    (λ is. subst (λ (xs : List Run). IsBad xs s) (sym same) (iff.0 is), λ is. iff.1 (subst (λ (xs : List Run). IsBad xs s) same is))

all_at : (from to a b : ℕ) (list : List Run) → from ≡ a → to ≡ b → HasEachSector a b list → HasEachSector from to list
all_at from to a b list at_from at_to listed s above below = listed s (omega arith) (omega arith)

to_at : (n m : ℕ) (list : List Run) (c : RunCounter) → n ≡ m → CountsTo n list c → CountsTo m list c
to_at n m list c same counts = subst (λ k. CountsTo k list c) same counts

told : (list : List Run) (c : RunCounter) (total : ℕ) → IsCanonical list → total ≡ c.entries + (c.end - c.start + 511) / 512 → CountsTo (2 ^ 54) list c → total ≡ entries_needed list
told list c total h is counts = is ∙ sym counts.counted ∙ to_all 0 (2 ^ 54) list h (omega arith)

-- ---- what the counters say of a list after, from part to part
module _ (chunks : Chunks) (m : MemberView) (copied orphans : Bitmap) (runs : List Run) (same : runs ≡ m.bad) where
  pub counts_first : (first : ℕ) (old new : RunCounter) → first ≡ place_of chunks m.superblock.data_offset 0 → ((list : List Run) → CountsTo 0 list old)
      → Counts (HasSectorsOf runs 0 first) 0 first old new → (list : List Run) → IsListAfter chunks m copied orphans list → CountsTo (place_of chunks m.superblock.data_offset 0) list new
  counts_first first old new at begun counts list is =
      to_at first _ list new at (counts list is.canonical (as_at runs m.bad 0 first 0 _ list same refl at (after_below chunks m copied orphans list is)) (begun list))

  pub counts_other : (chunk start end : ℕ) (old new : RunCounter) → start ≡ place_of chunks m.superblock.data_offset chunk → end ≡ place_of chunks m.superblock.data_offset (chunk + 1)
      → is_set copied.bytes chunk ≡ false → is_set orphans.bytes chunk ≡ false → Counts (HasSectorsOf runs start end) start end old new
      → Counts (IsListAfter chunks m copied orphans) (place_of chunks m.superblock.data_offset chunk) (place_of chunks m.superblock.data_offset (chunk + 1)) old new
  counts_other chunk start end old new at at' uncopied unset counts list h is before =
      to_at end _ list new at' (counts list h (as_at runs m.bad start end _ _ list same at at' (after_other chunks m copied orphans list is chunk uncopied unset)) (to_at _ start list old (sym at) before))

  pub counts_orphan : (chunk start end : ℕ) (old new : RunCounter) → start ≡ place_of chunks m.superblock.data_offset chunk → end ≡ place_of chunks m.superblock.data_offset (chunk + 1)
      → chunk < orphans.chunks → is_set orphans.bytes chunk ≡ true → Counts (HasEachSector start end) start end old new
      → Counts (IsListAfter chunks m copied orphans) (place_of chunks m.superblock.data_offset chunk) (place_of chunks m.superblock.data_offset (chunk + 1)) old new
  counts_orphan chunk start end old new at at' early set counts list h is before =
      to_at end _ list new at' (counts list h (all_at start end _ _ list at at' (after_orphan chunks m copied orphans list is chunk early set)) (to_at _ start list old (sym at) before))

  pub counts_copied : (chunk : ℕ) (old : RunCounter) → chunk < copied.chunks → is_set copied.bytes chunk ≡ true → is_set orphans.bytes chunk ≡ false
      → Counts (IsListAfter chunks m copied orphans) (place_of chunks m.superblock.data_offset chunk) (place_of chunks m.superblock.data_offset (chunk + 1)) old old
  counts_copied chunk old early set unset list h is before =
      skipped (place_of chunks m.superblock.data_offset chunk) (place_of chunks m.superblock.data_offset (chunk + 1)) list old h (places_rise chunks m.superblock.data_offset chunk)
      (after_copied chunks m copied orphans list is chunk early set unset) before

  pub counts_after : (n past total : ℕ) (old new : RunCounter) → IsCanonical m.bad → n ≡ copied.chunks → copied.chunks ≡ orphans.chunks → past ≡ place_of chunks m.superblock.data_offset copied.chunks
      → ((list : List Run) → IsListAfter chunks m copied orphans list → CountsTo (place_of chunks m.superblock.data_offset n) list old)
      → Counts (HasSectorsOf runs past (2 ^ 54)) past (2 ^ 54) old new → total ≡ new.entries + (new.end - new.start + 511) / 512 → TakeEntries (IsListAfter chunks m copied orphans) total
  counts_after n past total old new canonical all as_many at before counts is_total =
      let found = found_after chunks m copied orphans canonical in
      let place : place_of chunks m.superblock.data_offset n ≡ past = ap (λ k. place_of chunks m.superblock.data_offset k) all ∙ sym at in
      record {
        list = found.0;
        is = found.1;
        each = λ other is. told other new total is.canonical is_total
            (counts other is.canonical (as_at runs m.bad past (2 ^ 54) _ (2 ^ 54) other same at refl (after_past chunks m copied orphans other is as_many)) (to_at _ past other old place (before other is)));
      }

-- ---- and of a list with a chunk more
pub counts_with : (chunks : Chunks) (chunk : ℕ) (m : MemberView) (runs : List Run) (start end total : ℕ) (c0 c1 c2 c3 : RunCounter) → IsCanonical m.bad → runs ≡ m.bad
    → start ≡ place_of chunks m.superblock.data_offset chunk → end ≡ place_of chunks m.superblock.data_offset (chunk + 1) → ((list : List Run) → CountsTo 0 list c0)
    → Counts (HasSectorsOf runs 0 start) 0 start c0 c1 → Counts (HasEachSector start end) start end c1 c2 → Counts (HasSectorsOf runs end (2 ^ 54)) end (2 ^ 54) c2 c3
    → total ≡ c3.entries + (c3.end - c3.start + 511) / 512 → TakeEntries (IsListWith chunks chunk m) total
counts_with chunks chunk m runs start end total c0 c1 c2 c3 canonical same at at' begun below here past is_total =
    let found = found_with chunks chunk m canonical in
    record {
      list = found.0;
      is = found.1;
      each = λ other is.
          let first = below other is.canonical (as_at runs m.bad 0 start 0 _ other same refl at (with_below chunks chunk m other is)) (begun other) in
          let then = here other is.canonical (all_at start end _ _ other at at' (with_chunk chunks chunk m other is)) first in
          told other c3 total is.canonical is_total (past other is.canonical (as_at runs m.bad end (2 ^ 54) _ (2 ^ 54) other same at' refl (with_past chunks chunk m other is)) then);
    }
