-- A device that is read, written once, and then stands behind the others.
use Rattle.std.proofs.Common.{◌≡◌, ◌∙◌, ℕ, ◌*◌, inl, inr, true, List, [], ◌∷◌, ◌++◌, length, sym, ap, refl, subst}
use Rattle.std.proofs.lemmas.List.{length_push}
use Rattle.std.proofs.lemmas.Option.{same_Some}
use Rattle.md_device.specs.Device.{written}
use Rattle.md_device.specs.Splice.{SameOutside}
use Rattle.md_device.specs.Crashes.{LeavesMore}
use Rattle.md_device.proofs.Leaving.{leaves_less, leaves_then, mixed_none}
use Rattle.md_members.specs.DeviceWrites.Writes.{IsCutShort, Write}
use Rattle.md_kept_members.proofs.Members.Indices.{listed_push}
use Rattle.md_state.specs.DeviceChanges.{LeavesOn, StaysHonest}
use Rattle.md_state.specs.DiskWrites.{AtDevice, IsWritten}
use Rattle.md_state.specs.View.{Disk}
use Rattle.md_array.specs.Steps.ReAdd.{IsOnlyRead}
use Rattle.md_array.specs.Worlds.{AreHonest}
use Rattle.md_array.proofs.General.Appended.{got_beside, got_last}
use Rattle.md_state.proofs.Stays.{stays_then}

-- what holds of the last device
at_last : (ds : List Disk) (d e : Disk) (Related : Disk → Disk → Type 0) → Related d e → AtDevice (length ds) (ds ++ d ∷ []) (ds ++ e ∷ []) Related
at_last ds d e Related related x y was is =
    let first : x ≡ d = same_Some x d (sym was ∙ got_last ds d) in
    let second : y ≡ e = same_Some y e (sym is ∙ got_last ds e) in
    rw (first, second) related

-- It is written in its place, and a crash leaves of both calls what one leaves of the write.
pub written_last : (ds : List Disk) (d e f : Disk) (w : Write) → IsOnlyRead d e → IsWritten 0 w (e ∷ []) (f ∷ []) → IsWritten (length ds) w (ds ++ d ∷ []) (ds ++ f ∷ [])
written_last ds d e f w only done =
    let same : e.content ≡ d.content = only.0.0 in
    let stays = done.tried.stays e f refl refl in
    record {
      tried = record {
        as_many = length_push ds f ∙ sym (length_push ds d);
        others = λ j other. got_beside ds d f j other;
        stays = at_last ds d f StaysHonest (stays_then d e f only.1 stays);
        outside = at_last ds d f (λ a b. SameOutside (512 * w.sector) (length w.bytes) a.content b.content)
            (subst (λ (x : List ℕ). SameOutside (512 * w.sector) (length w.bytes) x f.content) same (done.tried.outside e f refl refl));
      };
      done = at_last ds d f (λ a b. a.honest ≡ true → b.content ≡ written a.content w.sector w.bytes)
          (λ honest. done.done e f refl refl (only.1.honest ∙ honest) ∙ ap (λ (x : List ℕ). written x w.sector w.bytes) same);
      within = at_last ds d f (λ a b. a.honest ≡ true → LeavesOn (IsCutShort a.content (w ∷ [])) a b)
          (λ honest. leaves_then d.crashes e.crashes f.crashes (IsCutShort d.content (w ∷ []))
          (leaves_less d.crashes e.crashes (λ left. left ≡ d.content) (IsCutShort d.content (w ∷ []))
          (λ left as_was. record { done = []; rest = w ∷ []; order = refl; mixed = rw as_was (mixed_none w.sector w.bytes d.content) })
          (only.0.1 honest))
          (subst (λ (x : List ℕ). LeavesMore e.crashes f.crashes (IsCutShort x (w ∷ []))) same (done.within e f refl refl (only.1.honest ∙ honest))));
    }

pub honest_last : (ds : List Disk) (d : Disk) → AreHonest ds → d.honest ≡ true → AreHonest (ds ++ d ∷ [])
honest_last ds d honest own j x there = elim (listed_push ds d x j there) [
  | inl here ↦ honest j x here
  | inr end ↦ subst (λ (e : Disk). e.honest ≡ true) end.1 own
]
