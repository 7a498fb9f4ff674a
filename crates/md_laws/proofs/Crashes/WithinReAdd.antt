-- What a crash within a `re_add` leaves that is refused, or whose write fails.
use Rattle.std.proofs.Common.{◌≡◌, ℕ, true, List, [], ◌∷◌, ◌++◌, length, refl, sym, ◌∙◌, subst}
use Rattle.md_device.specs.Crashes.{LeavesMore}
use Rattle.md_device.proofs.Leaving.{leaves_less, leaves_none, leaves_then}
use Rattle.md_members.specs.DeviceWrites.Writes.{IsAnyIn, Write}
use Rattle.md_faults.specs.declared.re_add_fault.ReAddFault.TheVariants.{Halted, Member, Full, NotReAddable, NoRole, EventsFull, WriteFault, NoMemory}
use Rattle.md_kept_members.specs.TakingBack.{own_role}
use Rattle.md_kept_members.specs.Membership.Joining.{joined_shared}
use Rattle.md_kept_members.specs.OnDevices.Superblocks.{write_of}
use Rattle.md_state.specs.View.{Disk, MirrorView}
use Rattle.md_array.specs.Steps.ReAdd.{IsOnlyRead}
use Rattle.md_laws.specs.CrashesWithin.{IsLeftBut, MayAllBeLeft, CrashesAtFailedReAdd, CrashesAtRefusedReAdd}
use Rattle.md_laws.proofs.Crashes.WithinAdd.{left_of_new}

-- the mirror is as it was
same_mirror : (device given : Disk) (old new : MirrorView) (left : List (List ℕ)) → new ≡ old → MayAllBeLeft (old.disks ++ device ∷ []) (new.disks ++ given ∷ []) left
    → MayAllBeLeft (old.disks ++ device ∷ []) (old.disks ++ given ∷ []) left
same_mirror device given old new left unchanged may = subst (λ (x : MirrorView). MayAllBeLeft (old.disks ++ device ∷ []) (x.disks ++ given ∷ []) left) unchanged may

pub crashes_at_failed_re_add : CrashesAtFailedReAdd
crashes_at_failed_re_add device given old new left honest f may =
    let w : Write = write_of (joined_shared old.array.shared old.array.members f.fails.member.superblock.dev_number (own_role f.info.superblock)) f.fails.member in
    let after = f.after_reading in
    let same : after.content ≡ device.content = f.only_read.0.0 in
    let none : IsAnyIn w device.content device.content = record { size = refl; before = refl; after = refl } in
    left_of_new old.disks device given left (IsAnyIn w) (same_mirror device given old new left f.fails.unchanged may) none
    (leaves_then device.crashes after.crashes given.crashes (IsAnyIn w device.content)
    (leaves_less device.crashes after.crashes (λ c. c ≡ device.content) (IsAnyIn w device.content) (λ c as_was. subst (IsAnyIn w device.content) (sym as_was) none) (f.only_read.0.1 honest))
    (subst (λ (x : List ℕ). LeavesMore after.crashes given.crashes (IsAnyIn w x)) same (f.fails.failed.within after given refl refl (f.only_read.1.honest ∙ honest))))

only_read : (device given : Disk) (old new : MirrorView) (left : List (List ℕ)) → device.honest ≡ true → new ≡ old → IsOnlyRead device given
    → MayAllBeLeft (old.disks ++ device ∷ []) (new.disks ++ given ∷ []) left → IsLeftBut (length old.disks) (λ was c. c ≡ was) (old.disks ++ device ∷ []) left
only_read device given old new left honest unchanged only may =
    left_of_new old.disks device given left (λ was c. c ≡ was) (same_mirror device given old new left unchanged may) refl (only.0.1 honest)

pub crashes_at_refused_re_add : CrashesAtRefusedReAdd
crashes_at_refused_re_add device given old new left Halted other honest r may =
    left_of_new old.disks device given left (λ was c. c ≡ was) (same_mirror device given old new left r.0.unchanged may) refl
    (subst (λ (x : Disk). LeavesMore device.crashes x.crashes (λ c. c ≡ device.content)) (sym r.1) (leaves_none device.crashes (λ c. c ≡ device.content)))
crashes_at_refused_re_add device given old new left (Member f) other honest r may = only_read device given old new left honest r.unchanged r.only_read may
crashes_at_refused_re_add device given old new left Full other honest r may = only_read device given old new left honest r.unchanged r.only_read may
crashes_at_refused_re_add device given old new left NotReAddable other honest r may = only_read device given old new left honest r.unchanged r.only_read may
crashes_at_refused_re_add device given old new left NoRole other honest r may = only_read device given old new left honest r.unchanged r.only_read may
crashes_at_refused_re_add device given old new left EventsFull other honest r may = only_read device given old new left honest r.unchanged r.only_read may
crashes_at_refused_re_add device given old new left WriteFault other honest r may = absurd (other refl)
crashes_at_refused_re_add device given old new left NoMemory other honest r may = only_read device given old new left honest r.unchanged r.only_read may
