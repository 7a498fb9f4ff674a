-- A member that `re_add` has taken back, and what a crash within that call leaves of it.
use Rattle.std.proofs.Common.{◌≡◌, ℕ, true, List, [], ◌∷◌, ◌++◌, length, map, slice_get, sym, ap, ◌∙◌, subst, arith}
use Rattle.std.proofs.lemmas.List.{length_push}
use Rattle.md_members.specs.DeviceWrites.Writes.{IsAnyIn, Write}
use Rattle.md_assembly.specs.States.{is_recorded}
use Rattle.md_kept_members.specs.Members.{made_due}
use Rattle.md_kept_members.specs.View.{MemberView}
use Rattle.md_state.specs.View.{ArrayView, Disk, MirrorView}
use Rattle.md_array.specs.Steps.Record.{MayRecord, super_write}
use Rattle.md_array.specs.Steps.ReAdd.{ReAdds}
use Rattle.md_array.specs.Worlds.{AreHonest}
use Rattle.md_array.proofs.General.Appended.{got_earlier, got_last}
use Rattle.md_array.proofs.StepLemmas.WrittenLast.{honest_last}
use Rattle.md_laws.specs.CrashesWithin.{IsLeftBut, MayAllBeLeft}
use Rattle.md_laws.proofs.Crashes.AsFailed.{left_after_write}
use Rattle.md_laws.proofs.Crashes.ReadAs.{re_add_writes}

module _ (k : ℕ) (device : Disk) (old new : MirrorView) (r : ReAdds k device old new) where
  abbrev m : MemberView
  m = r.recorded.takes.member

  abbrev now : Disk
  now = r.recorded.now

  abbrev at : ℕ
  at = length old.disks

  abbrev w : Write
  w = super_write new.array m

  -- it is the last one, and may be recorded again
  pub may_record_again : length new.disks ≡ length new.array.members → MayRecord at new.array m
  may_record_again as_many =
      let array = r.recorded.takes.array in
      let members = map made_due old.array.members in
      let listed : new.array.members ≡ members ++ m ∷ [] = ap (λ (a : ArrayView). a.members) array in
      let place : at ≡ length members =
      let disks = ap length r.recorded.disks ∙ length_push old.disks now in
      let all = ap length listed ∙ length_push members m in
      omega (arith, disks, all, as_many) in
      record {
        running = ap (λ (a : ArrayView). a.halted) array ∙ r.running;
        at = ap (λ (ms : List MemberView). slice_get ms at) listed ∙ ap (slice_get (members ++ m ∷ [])) place ∙ got_last members m;
        active = ap is_recorded r.recorded.takes.taken.state;
        readable = r.recorded.readable;
      }

  module _ (left : List (List ℕ)) (honest : AreHonest new.disks) (own : device.honest ≡ true) (may : MayAllBeLeft (old.disks ++ device ∷ []) new.disks left) where
    honest_before : AreHonest old.disks
    honest_before j d there = honest j d (ap (λ (disks : List Disk). slice_get disks j) r.recorded.disks ∙ got_earlier old.disks now d j there)

    pub left_after : IsLeftBut at (IsAnyIn w) new.disks left
    left_after =
        subst (λ (disks : List Disk). IsLeftBut at (IsAnyIn w) disks left) (sym r.recorded.disks)
        (left_after_write at w (old.disks ++ device ∷ []) (old.disks ++ now ∷ []) left (honest_last old.disks device honest_before own) (re_add_writes k device old new r)
        (subst (λ (disks : List Disk). MayAllBeLeft (old.disks ++ device ∷ []) disks left) r.recorded.disks may))
