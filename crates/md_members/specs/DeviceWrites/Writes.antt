-- Writes to a device in their order: what stands on it where one of them fails, and what a crash leaves.
use Rattle.std.specs.Prelude.{◌≡◌, ◌⊎◌, ℕ, ◌*◌, ◌<◌, ◌≤◌, true, List, [], ◌∷◌, ◌++◌, length, fold, Result, MatchResult}
use Rattle.md_device.specs.declared.device.Device.{Ghosts}
use Rattle.md_device.specs.Splice.{SameOutside}
use Rattle.md_device.specs.Device.{written}
use Rattle.md_device.specs.Crashes.{IsMixed, LeavesMore}
use Rattle.md_device.specs.Failing.{OnlyWritesFailed, failed_write}

-- bytes that are written from a sector on
pub record Write : Type 0 where
  pub sector : ℕ
  pub bytes : List ℕ

-- the content after these writes
abbrev pub after : List ℕ → List Write → List ℕ
after content writes = fold (λ before w. written before w.sector w.bytes) content writes

-- a write's range may hold any bytes
abbrev pub IsAnyIn : Write → List ℕ → List ℕ → Type 0
IsAnyIn w old new = SameOutside (512 * w.sector) (length w.bytes) old new

-- the next of these writes was cut short; where there is none, nothing was done
abbrev pub IsNextMixed : List Write → List ℕ → List ℕ → Type 0
IsNextMixed [] old left = left ≡ old
IsNextMixed (w ∷ rest) old left = IsMixed w.sector w.bytes old left

-- What a crash leaves: the first of these writes were done, and the next one was cut short.
pub record IsCutShort (old : List ℕ) (writes : List Write) (left : List ℕ) : Type 0 where
  pub done : List Write
  pub rest : List Write
  pub order : writes ≡ done ++ rest
  pub mixed : IsNextMixed rest (after old done) left

module _ {D : Type 0} (g : Ghosts D) where
  -- what holds of every device, honest or not
  pub record IsKeptByWrites (old new : D) : Type 0 where
    pub size : length (g.content new) ≡ length (g.content old)
    pub honest_kept : g.honest new ≡ g.honest old
    pub counted : g.failures old ≤ g.failures new
    pub grown : OnlyWritesFailed (g.faults old) (g.faults new)

  -- between old and new a crash leaves what has P
  abbrev pub LeavesOnly : D → D → (List ℕ → Type 0) → Type 0
  LeavesOnly old new P = LeavesMore (g.crashes old) (g.crashes new) P

  -- All writes were done. At each moment a crash leaves the content after the first of them, with the next one cut short.
  pub record DoesWrites (writes : List Write) (old new : D) : Type 0 where
    pub kept : IsKeptByWrites old new
    pub unfailing : g.failures new ≡ g.failures old
    pub none_failed : g.faults new ≡ g.faults old
    pub all_done : g.honest old ≡ true → g.content new ≡ after (g.content old) writes
    pub within : g.honest old ≡ true → LeavesOnly old new (IsCutShort (g.content old) writes)

  -- One of them failed, and no other call did, also on a device that is not honest. None was made after it: the writes end
  -- there, with no crash. A crash within those before it leaves what it leaves of them; within it any bytes may stand in its
  -- range, and so at its end.
  pub record FailsInWrites (writes : List Write) (old new : D) : Type 0 where
    pub kept : IsKeptByWrites old new
    pub failed : g.honest old ≡ true → g.failures old < g.failures new
    pub done : List Write
    pub tried : Write
    pub rest : List Write
    pub order : writes ≡ done ++ tried ∷ rest
    pub tried_alone_failed : g.faults new ≡ g.faults old ++ failed_write tried.sector (length tried.bytes) ∷ []
    pub outside : g.honest old ≡ true → IsAnyIn tried (after (g.content old) done) (g.content new)
    pub within : g.honest old ≡ true → LeavesOnly old new (λ left. IsCutShort (g.content old) done left ⊎ IsAnyIn tried (after (g.content old) done) left)

  -- the writes are made up to the first that fails, and the answer is whether one has
  abbrev pub MakesWrites : List Write → D → D → {T E : Type 0} → Result T E → Type 0
  MakesWrites writes old new result = MatchResult result (λ _. DoesWrites writes old new) (λ _. FailsInWrites writes old new)
