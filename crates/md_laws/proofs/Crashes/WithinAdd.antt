-- What a crash within `add` leaves.
use Rattle.std.proofs.Common.{◌≡◌, ⊎_elim, inl, ℕ, List, [], ◌∷◌, ◌++◌, length, map, refl, sym, ◌∙◌, subst}
use Rattle.std.proofs.lemmas.Option.{same_Some}
use Rattle.md_create.specs.Layout.{IsHalfLaidOut, wipe}
use Rattle.md_device.specs.Crashes.{LeavesMore}
use Rattle.md_device.proofs.Leaving.{mixed_none}
use Rattle.md_members.specs.DeviceWrites.Writes.{IsCutShort, Write}
use Rattle.md_faults.specs.declared.add_fault.AddFault.TheVariants.{Halted, TooSmall, Full, EventsFull, WriteFault, NoMemory}
use Rattle.md_state.specs.View.{Disk, MirrorView}
use Rattle.md_array.proofs.General.Appended.{got_beside, got_last}
use Rattle.md_laws.specs.CrashesWithin.{IsLeftBut, IsLeftFailing, MayAllBeLeft, CrashesAtAdd, CrashesAtFailedAdd, CrashesAtRefusedAdd}
use Rattle.md_laws.proofs.Crashes.AtSteps.{new_has, none_new, crashes_in_memory}

-- none of these writes may have been begun
pub cut_none : (old : List ℕ) (writes : List Write) → IsCutShort old writes old
cut_none old [] = record { done = []; rest = []; order = refl; mixed = refl }
cut_none old (w ∷ rest) = record { done = []; rest = w ∷ rest; order = refl; mixed = mixed_none w.sector w.bytes old }

-- of the devices the last one alone was used
pub left_of_new : (disks : List Disk) (was now : Disk) (left : List (List ℕ)) (P : List ℕ → List ℕ → Type 0) → MayAllBeLeft (disks ++ was ∷ []) (disks ++ now ∷ []) left
    → P was.content was.content → LeavesMore was.crashes now.crashes (P was.content) → IsLeftBut (length disks) P (disks ++ was ∷ []) left
left_of_new disks was now left P may none within = record {
  as_many = may.as_many;
  others = λ j other d c at is. ⊎_elim (λ same. same) (λ new. absurd (none_new d.crashes new.0 c new.1)) (may.each j d d c at (got_beside disks was now j other ∙ at) is);
  this = λ d c at is.
      let first : was ≡ d = same_Some was d (sym (got_last disks was) ∙ at) in
      subst (λ (x : Disk). P x.content c) first
      (⊎_elim (λ (same : c ≡ was.content). subst (P was.content) (sym same) none) (λ new. new_has was.crashes now.crashes (P was.content) within new.0 c new.1)
      (may.each (length disks) was now c (got_last disks was) (got_last disks now) is));
}

pub crashes_at_add : CrashesAtAdd
crashes_at_add k device old new left honest r may =
    left_of_new old.disks device r.comes.now left (λ was c. IsHalfLaidOut was r.comes.laid c)
    (subst (λ (disks : List Disk). MayAllBeLeft (old.disks ++ device ∷ []) disks left) r.comes.disks may)
    (inl (mixed_none 8 wipe.bytes device.content)) (r.comes.within honest)

pub crashes_at_failed_add : CrashesAtFailedAdd
crashes_at_failed_add device given old new left honest f may =
    let done = f.fails.writes.done in
    left_of_new old.disks device given left (IsLeftFailing done f.fails.writes.tried)
    (subst (λ (x : MirrorView). MayAllBeLeft (old.disks ++ device ∷ []) (x.disks ++ given ∷ []) left) f.fails.unchanged may)
    (inl (cut_none device.content done)) (f.fails.writes.within honest)

unused : (device given : Disk) (old new : MirrorView) (left : List (List ℕ)) → new ≡ old → given ≡ device
    → MayAllBeLeft (old.disks ++ device ∷ []) (new.disks ++ given ∷ []) left → left ≡ map (λ (d : Disk). d.content) (old.disks ++ device ∷ [])
unused device given old new left unchanged untouched may =
    crashes_in_memory (old.disks ++ device ∷ []) left
    (subst (λ (x : Disk). MayAllBeLeft (old.disks ++ device ∷ []) (old.disks ++ x ∷ []) left) untouched
    (subst (λ (x : MirrorView). MayAllBeLeft (old.disks ++ device ∷ []) (x.disks ++ given ∷ []) left) unchanged may))

pub crashes_at_refused_add : CrashesAtRefusedAdd
crashes_at_refused_add device given old new left Halted other refused may = unused device given old new left refused.unchanged refused.untouched may
crashes_at_refused_add device given old new left TooSmall other refused may = unused device given old new left refused.unchanged refused.untouched may
crashes_at_refused_add device given old new left Full other refused may = unused device given old new left refused.unchanged refused.untouched may
crashes_at_refused_add device given old new left EventsFull other refused may = unused device given old new left refused.unchanged refused.untouched may
crashes_at_refused_add device given old new left WriteFault other refused may = absurd (other refl)
crashes_at_refused_add device given old new left NoMemory other refused may = unused device given old new left refused.unchanged refused.untouched may
