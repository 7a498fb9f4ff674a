-- A read of sectors of a chunk that failed, before other calls and after them.
use Rattle.std.proofs.Common.{◌≡◌, ℕ, ◌+◌, ◌*◌, ◌-◌, ◌<◌, ◌≤◌, false, List, [], ◌++◌, ◌∷◌, Result, Ok, Err, IfErr, refl, subst, arith}
use Rattle.md_device.specs.declared.device.Device.{Ghosts}
use Rattle.md_device.specs.declared.fault_list.Fault.{Fault}
use Rattle.md_device.specs.Failing.{SomeNewFault, failed_read}
use Rattle.md_device.proofs.Failing.{fails_just, fails_since}
use Rattle.md_badblocks.specs.Runs.{IsBad}
use Rattle.md_bitmap.specs.declared.chunks.Chunks.{Chunks}
use Rattle.md_collect.specs.Places.{sectors_of_chunk, start_of}
use Rattle.md_collect.specs.Workers.Queues.{OnlyRead}
use Rattle.md_check.specs.declared.reader.Reader.{Reader}
use Rattle.md_check.specs.Readers.{IsUsed}
use Rattle.md_check.specs.Readings.{FailsUnlisted, IsReadUnlisted}

-- the read of a run of sectors of a chunk, of n bytes, of which none is listed
pub run_failed : (past now : List Fault) (offset chunk : ℕ) (chunks : Chunks) (IsListed : ℕ → Type 0) (sector run n : ℕ) → now ≡ past ++ failed_read (offset + sector) n ∷ []
    → start_of chunks chunk ≤ sector → sector + run ≤ start_of chunks chunk + sectors_of_chunk chunks chunk → 0 < run → n ≡ 512 * run
    → ((i : ℕ) → i < run → IsListed (sector + i) → ⊥) → SomeNewFault past now (IsReadUnlisted offset chunks IsListed chunk)
run_failed past now offset chunk chunks IsListed sector run n is from to some all clear =
    fails_just past now (failed_read (offset + sector) n) (IsReadUnlisted offset chunks IsListed chunk) is
    (record {
      of_chunk = record { reads = refl; some = omega (arith, all, some); from = omega (arith, from); to = omega (arith, to, all) };
      unlisted = λ s low high lists.
          let at : s ≡ sector + (s - sector) = omega (arith, low) in
          clear (s - sector) (omega (arith, low, high, all)) (subst IsListed at lists);
    })

-- where each sector that the one list has the other has too
pub listed_less : (past now : List Fault) (offset : ℕ) (chunks : Chunks) (P Q : ℕ → Type 0) (chunk : ℕ) → ((s : ℕ) → Q s → P s) → SomeNewFault past now (IsReadUnlisted offset chunks P chunk) → SomeNewFault past now (IsReadUnlisted offset chunks Q chunk)
listed_less past now offset chunks P Q chunk less fails = record {
  earlier = fails.earlier;
  fault = fails.fault;
  later = fails.later;
  all = fails.all;
  is = record { of_chunk = fails.is.of_chunk; unlisted = λ s low high lists. fails.is.unlisted s low high (less s lists) };
}

module _ {D : Type 0} (g : Ghosts D) where
  -- a device that was only read before
  pub chunk_since : (a b c : D) (offset : ℕ) (chunks : Chunks) (IsListed : ℕ → Type 0) (chunk : ℕ) → OnlyRead g a b → FailsUnlisted g b c offset chunks IsListed chunk → FailsUnlisted g a c offset chunks IsListed chunk
  chunk_since a b c offset chunks IsListed chunk first fails =
      fails_since (g.faults a) (g.faults b) (g.faults c) (IsReadUnlisted offset chunks IsListed chunk) (λ f. f.writes ≡ false) first.reads_alone fails

  -- that of a reader
  pub there_since : (first old new : Reader D) (chunks : Chunks) (chunk : ℕ) → IsUsed g first old → FailsUnlisted g old.device new.device old.offset chunks (IsBad old.listed) chunk
      → FailsUnlisted g first.device new.device first.offset chunks (IsBad first.listed) chunk
  there_since first old new chunks chunk used fails =
      chunk_since first.device old.device new.device first.offset chunks (IsBad first.listed) chunk used.only_read
      (subst (λ (s : Reader D). FailsUnlisted g old.device new.device s.offset chunks (IsBad s.listed) chunk) used.kept fails)

  pub err_there_since : {T : Type 0} (result : Result T ℕ) (first old new : Reader D) (chunks : Chunks) → IsUsed g first old → IfErr result (λ c. FailsUnlisted g old.device new.device old.offset chunks (IsBad old.listed) c)
      → IfErr result (λ c. FailsUnlisted g first.device new.device first.offset chunks (IsBad first.listed) c)
  err_there_since (Ok x) first old new chunks used fails = fails
  err_there_since (Err c) first old new chunks used fails = there_since first old new chunks c used fails
