-- What was found is found where more calls may have failed.
use Rattle.std.proofs.Common.{◌≡◌, ◌∙◌, ◌≤◌, ℕ, Bool, true, false, List, refl, subst, arith}
use Rattle.md_device.specs.declared.fault_list.Fault.{Fault}
use Rattle.md_device.specs.Device.{held}
use Rattle.md_device.specs.Failing.{OnlyReadsFailed}
use Rattle.md_device.specs.declared.device.Device.{Ghosts}
use Rattle.md_device.proofs.Failing.{fails_none, fails_then}
use Rattle.md_members.specs.Reading.{CallFails}
use Rattle.md_members.proofs.Failed.{fails_later}
use Rattle.md_raw_reports.specs.declared.super_fields.Found.{Found}
use Rattle.md_raw_reports.specs.declared.super_fields.Found.TheVariants.{Nothing, Unreadable, Superblock}
use Rattle.md_raw_reports.specs.RawMembers.Elsewhere.{FindsAt, FindsElsewhere, IsFoundInSector}
use Rattle.md_raw_reports.specs.RawMembers.Raw.{IsOn}
use Rattle.md_raw_reports.proofs.RawMemberLemmas.Later.{fails_before}

finds_more : (content : List ℕ) (honest : Bool) (F G : (Fault → Type 0) → Type 0) (sector : ℕ) (found : Found) → ((P : Fault → Type 0) → F P → G P) → FindsAt content honest F sector found → FindsAt content honest G sector found
finds_more content honest F G sector Nothing via h = h
finds_more content honest F G sector (Unreadable at) via h = (h.0, h.1, via _ h.2)
finds_more content honest F G sector (Superblock at id) via h = h

-- what was found in the bytes that were read of a sector
pub found_in : (content : List ℕ) (honest : Bool) (F : (Fault → Type 0) → Type 0) (sector : ℕ) (bytes : List ℕ) (found : Found) → IsOn content sector → (honest ≡ true → bytes ≡ held content sector 512) → IsFoundInSector bytes sector found → FindsAt content honest F sector found
found_in content honest F sector bytes Nothing on same h = λ e _. subst (λ (b : List ℕ). IsFoundInSector b sector Nothing) (same e) h
found_in content honest F sector bytes (Unreadable at) on same h = absurd h
found_in content honest F sector bytes (Superblock at id) on same h = (on, λ e. subst (λ (b : List ℕ). IsFoundInSector b sector (Superblock at id)) (same e) h)

-- A device was looked at: its bytes are as they were, and of its calls reads alone may have failed.
pub record IsLookedAt {D : Type 0} (g : Ghosts D) (old new : D) : Type 0 where
  pub kept : g.content new ≡ g.content old
  pub honest : g.honest new ≡ g.honest old
  pub counted : g.failures old ≤ g.failures new
  pub grown : OnlyReadsFailed (g.faults old) (g.faults new)

module _ {D : Type 0} (g : Ghosts D) where
  pub not_looked : (d : D) → IsLookedAt g d d
  not_looked d = record { kept = refl; honest = refl; counted = omega arith; grown = fails_none (g.faults d) (λ f. f.writes ≡ false) }

  pub looked_then : (a b c : D) → IsLookedAt g a b → IsLookedAt g b c → IsLookedAt g a c
  looked_then a b c first second = record {
    kept = second.kept ∙ first.kept;
    honest = second.honest ∙ first.honest;
    counted = let m = first.counted in let n = second.counted in omega (arith, m, n);
    grown = fails_then (g.faults a) (g.faults b) (g.faults c) (λ f. f.writes ≡ false) first.grown second.grown;
  }

  -- what one of several looks found, by all of them
  pub found_among : (old mid next new : D) (sector : ℕ) (found : Found) → IsLookedAt g old mid → IsLookedAt g next new → FindsAt (g.content mid) (g.honest mid) (CallFails g mid next) sector found → FindsAt (g.content old) (g.honest old) (CallFails g old new) sector found
  found_among old mid next new sector found first last finds =
      finds_more (g.content old) (g.honest old) (CallFails g mid next) (CallFails g old new) sector found
      (λ P failed. fails_later g old mid new P (λ f. f.writes ≡ false) first.counted first.grown (fails_before g mid next new P failed last.counted last.grown))
      (subst (λ (b : List ℕ). FindsAt b (g.honest old) (CallFails g mid next) sector found) first.kept
      (subst (λ (h : Bool). FindsAt (g.content mid) h (CallFails g mid next) sector found) first.honest finds))

pub finds_all : (content : List ℕ) (honest : Bool) (F G : (Fault → Type 0) → Type 0) (found : List Found) → ((P : Fault → Type 0) → F P → G P) → FindsElsewhere content honest F found → FindsElsewhere content honest G found
finds_all content honest F G found via e = record {
  start = e.start;
  old_partition = e.old_partition;
  partition = e.partition;
  end = e.end;
  all = e.all;
  at_start = finds_more content honest F G 0 e.start via e.at_start;
  in_old_partition = finds_more content honest F G 71 e.old_partition via e.in_old_partition;
  in_partition = finds_more content honest F G 2056 e.partition via e.in_partition;
  at_end = finds_more content honest F G _ e.end via e.at_end;
}
