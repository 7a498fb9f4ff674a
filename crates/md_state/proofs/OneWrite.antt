-- One write to a device of several.
use Rattle.std.proofs.Common.{◌≡◌, ◌≢◌, ◌∙◌, ℕ, zero, suc, ◌*◌, ◌<◌, true, List, [], ◌∷◌, Some, length, get_or, get_or-set_same, map, set, ap, sym, refl, arith, length-set, Ok, Err}
use Rattle.std.specs.Prelude.{MatchResult, Result, option_map, slice_get}
use Rattle.std.proofs.lemmas.List.{map-set}
use Rattle.std.proofs.lemmas.Option.{slice_get-get_or, slice_get-map, slice_get_within}
use Rattle.md_device.specs.Device.{written}
use Rattle.md_device.specs.Splice.{SameOutside}
use Rattle.md_device.specs.declared.device.Device.{Ghosts}
use Rattle.md_members.specs.DeviceWrites.Writes.{DoesWrites, IsAnyIn, IsCutShort, FailsInWrites, Write}
use Rattle.md_members.proofs.DeviceWriteLemmas.Runs.{failed_in_one, stops_in_one}
use Rattle.md_assembly.proofs.Indices.{got_same}
use Rattle.md_state.specs.DeviceChanges.{LeavesOn, StaysHonest}
use Rattle.md_state.specs.DiskWrites.{AtDevice, HasThisFailed, IsFailed, IsTried, IsWritten}
use Rattle.md_state.specs.View.{Disk, disk_of}
use Rattle.md_state.proofs.Stays.{stays_written}

-- ---- what is said of each answer, in one
pub each_answer : {T E : Type 0} (r : Result T E) (P Q R S : Type 0) → (P → R) → (Q → S) → MatchResult r (λ _. P) (λ _. Q) → MatchResult r (λ _. R) (λ _. S)
each_answer (Ok x) P Q R S f g p = f p
each_answer (Err x) P Q R S f g q = g q

-- ---- a list with one element replaced
pub at_set_same : {X : Type 0} (xs : List X) (k : ℕ) (y : X) → k < length xs → slice_get (set xs k y) k ≡ Some y
at_set_same xs k y within =
    let long : k < length (set xs k y) = omega (arith, length-set xs k y) in
    slice_get-get_or (set xs k y) k y long ∙ ap Some (get_or-set_same xs k y y within)

pub got_other : {X : Type 0} (xs : List X) (k j : ℕ) (y : X) → j ≢ k → slice_get (set xs k y) j ≡ slice_get xs j
got_other [] k j y apart = refl
got_other (x ∷ xs) zero zero y apart = absurd (apart refl)
got_other (x ∷ xs) zero (suc j) y apart = refl
got_other (x ∷ xs) (suc k) zero y apart = refl
got_other (x ∷ xs) (suc k) (suc j) y apart = got_other xs k j y (λ e. apart (ap suc e))

-- the disk of a device
pub disk_at : {D : Type 0} (disk : D → Disk) (devices : List D) (k : ℕ) (x : D) → k < length devices → slice_get (map disk devices) k ≡ Some (disk (get_or devices k x))
disk_at disk devices k x within = slice_get-map disk devices k ∙ ap (option_map disk) (slice_get-get_or devices k x within)

-- what holds of the device at k before and after
pub at_device : (before : List Disk) (k : ℕ) (d e : Disk) (Related : Disk → Disk → Type 0) → slice_get before k ≡ Some d → Related d e → AtDevice k before (set before k e) Related
at_device before k d e Related here related x y was is =
    let first : x ≡ d = got_same before k x d was here in
    let second : y ≡ e = got_same (set before k e) k y e is (at_set_same before k e (slice_get_within before k d here)) in
    rw (first, second) related

tried : (before : List Disk) (k : ℕ) (d e : Disk) (w : Write) → slice_get before k ≡ Some d → StaysHonest d e → SameOutside (512 * w.sector) (length w.bytes) d.content e.content → IsTried k w before (set before k e)
tried before k d e w here stays outside = record {
  as_many = length-set before k e;
  others = λ j other. got_other before k j e other;
  stays = at_device before k d e StaysHonest here stays;
  outside = at_device before k d e (λ a b. SameOutside (512 * w.sector) (length w.bytes) a.content b.content) here outside;
}

-- the device at k was read from the list, and is put back after the call
module _ {D : Type 0} (g : Ghosts D) (devices : List D) (k : ℕ) (was : D) (read : was ≡ get_or devices k was) where
  pub here : k < length devices → slice_get (map (disk_of g) devices) k ≡ Some (disk_of g was)
  here within = disk_at (disk_of g) devices k was within ∙ ap (λ (x : D). Some (disk_of g x)) (sym read)

  module _ (new : D) (w : Write) (within : k < length devices) (outside : SameOutside (512 * w.sector) (length w.bytes) (g.content was) (g.content new)) where
    -- the write was done
    pub is_written : DoesWrites g (w ∷ []) was new → IsWritten k w (map (disk_of g) devices) (map (disk_of g) (set devices k new))
    is_written does =
        let before = map (disk_of g) devices in
        let d = disk_of g was in
        let e = disk_of g new in
        rw (map-set (disk_of g) devices k new) (record {
          tried = tried before k d e w (here within) (stays_written g was new does.kept) outside;
          done = at_device before k d e (λ a b. a.honest ≡ true → b.content ≡ written a.content w.sector w.bytes) (here within) does.all_done;
          within = at_device before k d e (λ a b. a.honest ≡ true → LeavesOn (IsCutShort a.content (w ∷ [])) a b) (here within) does.within;
        })

    -- it failed
    pub is_failed : FailsInWrites g (w ∷ []) was new → IsFailed k w (map (disk_of g) devices) (map (disk_of g) (set devices k new))
    is_failed stops =
        let before = map (disk_of g) devices in
        let d = disk_of g was in
        let e = disk_of g new in
        rw (map-set (disk_of g) devices k new) (record {
          tried = tried before k d e w (here within) (stays_written g was new stops.kept) outside;
          failed = at_device before k d e (λ a b. a.honest ≡ true → a.failures < b.failures) (here within) stops.failed;
          there = at_device before k d e (HasThisFailed w) (here within) (failed_in_one g w was new stops);
          within = at_device before k d e (λ a b. a.honest ≡ true → LeavesOn (IsAnyIn w a.content) a b) (here within) (stops_in_one g w was new stops);
        })
