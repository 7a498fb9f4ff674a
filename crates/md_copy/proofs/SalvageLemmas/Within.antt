-- While sectors of the target are filled, the other devices are only read.
use Rattle.std.proofs.Common.{◌≡◌, ◌≢◌, ◌∙◌, ◌⊎◌, ℕ, ◌+◌, ◌*◌, ◌/◌, ◌%◌, ◌<◌, ◌≤◌, true, false, true≢false, List, [], ◌∷◌, length, slice_get, Some, refl, sym, ap, subst, arith, inl, inr}
use Rattle.std.proofs.lemmas.Option.{same_Some, slice_get_within}
use Rattle.md_assembly.proofs.Indices.{got_within}
use Rattle.md_assembly.specs.States.{is_in_sync}
use Rattle.md_device.specs.Crashes.{LeavesMore}
use Rattle.md_device.specs.Splice.{SameOutside, part}
use Rattle.md_device.proofs.Failing.{fails_since, fails_still}
use Rattle.md_device.proofs.Leaving.{leaves_less, leaves_none, leaves_then}
use Rattle.md_device.proofs.Splices.{part_after, part_before}
use Rattle.md_kept_members.specs.View.{MemberView}
use Rattle.md_read.specs.Reading.{IsReadOfMember, NoneGives}
use Rattle.md_members.specs.DeviceWrites.Writes.{IsAnyIn, IsCutShort, Write}
use Rattle.md_members.proofs.DeviceWriteLemmas.Runs.{cut_one}
use Rattle.md_state.specs.DeviceChanges.{IsLeftAlone, LeavesOn, StaysHonest}
use Rattle.md_state.specs.DiskWrites.{AtDevice, IsTried, IsWritten}
use Rattle.md_state.specs.Members.{IsInSync, IsMember}
use Rattle.md_state.specs.Rests.{Rests}
use Rattle.md_state.specs.Steps.CopyData.{run_write}
use Rattle.md_state.specs.View.{ArrayView, Disk, MirrorView}
use Rattle.md_state.proofs.Stays.{stays_same, stays_then}
use Rattle.md_copy.specs.Salvaging.Filling.{FillsWithin, IsBesideFilled, IsSameBesideSectors}
use Rattle.md_copy.specs.Salvaging.Sectors.{AreLacked, IsLacked, IsSectorHeld}

-- what is asked of the array is so of the same array
pub lacked_still : (target from to : ℕ) (old new : MirrorView) → new.array ≡ old.array → AreLacked old target from to → AreLacked new target from to
lacked_still target from to old new same lacked =
    subst (λ (a : ArrayView). (m : MemberView) → IsMember a target m → (s : ℕ) → from ≤ s → s < to → IsLacked a m s) (sym same) lacked

-- ---- one step
pub rests_within : (target from to : ℕ) (m : MemberView) (old new : MirrorView) → IsMember old.array target m → Rests old new → FillsWithin target from to old new
rests_within target from to m old new there r = record {
  member = m;
  at = there;
  array = r.array;
  as_many = r.disks.same.as_many;
  others = λ j other d e was is. (r.disks.same.honest j d e was is, (r.disks.content j d e was is, r.disks.within j d e was is));
  stays = λ d e was is. r.disks.same.honest target d e was is;
  size = λ d e was is. ap (λ (c : List ℕ). length c) (r.disks.content target d e was is);
  beside = λ d e was is at n b. ap (λ (c : List ℕ). part c at n) (r.disks.content target d e was is);
  crashes = λ d e was is honest. leaves_less d.crashes e.crashes (λ left. left ≡ d.content) (IsSameBesideSectors m from to d.content)
      (λ left same. subst (IsSameBesideSectors m from to d.content) (sym same) (record { size = refl; beside = λ at n b. refl })) (r.disks.within target d e was is honest);
}

-- what a write that was done left at a crash within it
pub written_crashes : (k : ℕ) (w : Write) (before after : List Disk) → IsWritten k w before after → AtDevice k before after (λ d e. d.honest ≡ true → LeavesOn (IsAnyIn w d.content) d e)
written_crashes k w before after h d e was is honest =
    leaves_less d.crashes e.crashes (IsCutShort d.content (w ∷ [])) (IsAnyIn w d.content)
    (λ left cut. elim (cut_one d.content left w cut) [
      | inl done ↦ subst (IsAnyIn w d.content) (h.done d e was is honest ∙ sym done) (h.tried.outside d e was is)
      | inr mixed ↦ mixed.outside
    ])
    (h.within d e was is honest)

pub put_within : (target sector : ℕ) (bytes : List ℕ) (m : MemberView) (old new : MirrorView) → IsMember old.array target m → new.array ≡ old.array → length bytes % 512 ≡ 0
    → IsTried target (run_write m sector bytes) old.disks new.disks
    → AtDevice target old.disks new.disks (λ d e. d.honest ≡ true → LeavesOn (IsAnyIn (run_write m sector bytes) d.content) d e)
    → FillsWithin target sector (sector + length bytes / 512) old new
put_within target sector bytes m old new there same whole tried left_by = record {
  member = m;
  at = there;
  array = same;
  as_many = tried.as_many;
  others = λ j other d e was is.
      let alike : d ≡ e = same_Some d e (sym was ∙ sym (tried.others j other) ∙ is) in
      subst (λ (x : Disk). StaysHonest d x × IsLeftAlone d x) alike (stays_same d, (refl, λ honest. leaves_none d.crashes (λ left. left ≡ d.content)));
  stays = tried.stays;
  size = λ d e was is. (tried.outside d e was is).size;
  beside = λ d e was is. kept d.content e.content (tried.outside d e was is);
  crashes = λ d e was is honest. leaves_less d.crashes e.crashes (IsAnyIn (run_write m sector bytes) d.content) (IsSameBesideSectors m sector (sector + length bytes / 512) d.content)
      (λ left any. record { size = any.size; beside = kept d.content left any }) (left_by d e was is honest);
}
  where
    kept : (was left : List ℕ) → SameOutside (512 * (m.superblock.data_offset + sector)) (length bytes) was left → (at n : ℕ) → IsBesideFilled m sector (sector + length bytes / 512) at n → part left at n ≡ part was at n
    kept was left any at n b = elim b [
      | inl before ↦ part_before any at n before
      | inr after ↦ part_after any at n (omega (arith, after, whole))
    ]

pub within_wider : (target from to low high : ℕ) (old new : MirrorView) → low ≤ from → to ≤ high → FillsWithin target from to old new → FillsWithin target low high old new
within_wider target from to low high old new lower upper h = record {
  member = h.member;
  at = h.at;
  array = h.array;
  as_many = h.as_many;
  others = h.others;
  stays = h.stays;
  size = h.size;
  beside = λ d e was is at n b. h.beside d e was is at n (narrower at n b);
  crashes = λ d e was is honest. leaves_less d.crashes e.crashes (IsSameBesideSectors h.member from to d.content) (IsSameBesideSectors h.member low high d.content)
      (λ left same. record { size = same.size; beside = λ at n b. same.beside at n (narrower at n b) }) (h.crashes d e was is honest);
}
  where
    narrower : (at n : ℕ) → IsBesideFilled h.member low high at n → IsBesideFilled h.member from to at n
    narrower at n b = elim b [ inl before ↦ inl (omega (arith, before, lower)) | inr after ↦ inr (omega (arith, after, upper)) ]

-- ---- two steps
module _ (target from to : ℕ) (old mid new : MirrorView) (first : FillsWithin target from to old mid) (second : FillsWithin target from to mid new) where
  pub between : (k : ℕ) (d : Disk) → slice_get old.disks k ≡ Some d → (x : Disk) × (slice_get mid.disks k ≡ Some x)
  between k d was = let low = slice_get_within old.disks k d was in let many = first.as_many in got_within mid.disks k (omega (arith, low, many))

  same_member : first.member ≡ second.member
  same_member = same_Some first.member second.member (sym first.at ∙ sym (ap (λ (a : ArrayView). slice_get a.members target) first.array) ∙ second.at)

  pub within_then : FillsWithin target from to old new
  within_then = record {
    member = first.member;
    at = first.at;
    array = second.array ∙ first.array;
    as_many = second.as_many ∙ first.as_many;
    others = λ k other d e was is.
        let x = between k d was in
        let f = first.others k other d x.0 was x.1 in
        let s = second.others k other x.0 e x.1 is in (
          stays_then d x.0 e f.0 s.0,
          (
            s.1.0 ∙ f.1.0,
            λ honest. leaves_then d.crashes x.0.crashes e.crashes (λ left. left ≡ d.content) (f.1.1 honest)
                (subst (λ (c : List ℕ). LeavesMore x.0.crashes e.crashes (λ left. left ≡ c)) f.1.0 (s.1.1 (f.0.honest ∙ honest))),
          ),
        );
    stays = λ d e was is. let x = between target d was in stays_then d x.0 e (first.stays d x.0 was x.1) (second.stays x.0 e x.1 is);
    size = λ d e was is. let x = between target d was in second.size x.0 e x.1 is ∙ first.size d x.0 was x.1;
    beside = λ d e was is at n b.
        let x = between target d was in
        second.beside x.0 e x.1 is at n (subst (λ (m : MemberView). IsBesideFilled m from to at n) same_member b)
        ∙ first.beside d x.0 was x.1 at n b;
    crashes = λ d e was is honest.
        let x = between target d was in
        leaves_then d.crashes x.0.crashes e.crashes (IsSameBesideSectors first.member from to d.content) (first.crashes d x.0 was x.1 honest)
        (leaves_less x.0.crashes e.crashes (IsSameBesideSectors second.member from to x.0.content) (IsSameBesideSectors first.member from to d.content)
        (λ left same. record {
          size = same.size ∙ first.size d x.0 was x.1;
          beside = λ at n b. same.beside at n (subst (λ (m : MemberView). IsBesideFilled m from to at n) same_member b) ∙ first.beside d x.0 was x.1 at n b;
        })
        (second.crashes x.0 e x.1 is ((first.stays d x.0 was x.1).honest ∙ honest)));
  }

-- ---- what no member in sync gave
module _ (target from to : ℕ) (old mid new : MirrorView) (out : (m : MemberView) → IsMember old.array target m → is_in_sync m.state ≡ false) (s : ℕ) where
  other_than : (k : ℕ) (m : MemberView) → IsInSync old.array k m → k ≢ target
  other_than k m is same = true≢false (sym is.in_sync ∙ out m (ap (slice_get old.array.members) (sym same) ∙ is.member))

  at_mid : length mid.disks ≡ length old.disks → (k : ℕ) (d : Disk) → slice_get old.disks k ≡ Some d → (x : Disk) × (slice_get mid.disks k ≡ Some x)
  at_mid many k d was = let low = slice_get_within old.disks k d was in got_within mid.disks k (omega (arith, low, many))

  pub none_still : length mid.disks ≡ length old.disks → FillsWithin target from to mid new → NoneGives s old mid → NoneGives s old new
  none_still many second none k m is = elim (none k m is) [
    | inl lists ↦ inl lists
    | inr failed ↦ inr (λ d e was now.
        let x = at_mid many k d was in
        let f = failed d x.0 was x.1 in
        let stays = (second.others k (other_than k m is) x.0 e x.1 now).0 in
        let counted = stays.counted in (
          λ honest. let less = f.0 honest in omega (arith, less, counted),
          λ n there. fails_still d.faults x.0.faults e.faults (IsReadOfMember n s 1) _ (f.1 n there) stays.grown,
        ))
  ]

  pub none_since : FillsWithin target from to old mid → NoneGives s mid new → NoneGives s old new
  none_since first none k m is =
      let members = ap (λ (a : ArrayView). slice_get a.members k) first.array in
      elim (none k m (record { member = members ∙ is.member; in_sync = is.in_sync })) [
        | inl lists ↦ inl lists
        | inr failed ↦ inr (λ d e was now.
            let x = at_mid first.as_many k d was in
            let f = failed x.0 e x.1 now in
            let stays = (first.others k (other_than k m is) d x.0 was x.1).0 in
            let counted = stays.counted in (
              λ honest. let less = f.0 (stays.honest ∙ honest) in omega (arith, less, counted),
              λ n there. fails_since d.faults x.0.faults e.faults (IsReadOfMember n s 1) _ stays.grown (f.1 n (members ∙ there)),
            ))
      ]

-- ---- what the target holds
module _ (target from to : ℕ) (old new : MirrorView) (h : FillsWithin target from to old new) (s : ℕ) where
  was_disk : (k : ℕ) (e : Disk) → slice_get new.disks k ≡ Some e → (x : Disk) × (slice_get old.disks k ≡ Some x)
  was_disk k e now = let low = slice_get_within new.disks k e now in let many = h.as_many in got_within old.disks k (omega (arith, low, many))

  pub held_still : (s < from) ⊎ (to ≤ s) → IsSectorHeld old target s → IsSectorHeld new target s
  held_still apart held = record {
    at = held.at;
    member = held.member;
    other = held.other;
    in_sync = subst (λ (a : ArrayView). IsInSync a held.at held.member) (sym h.array) held.in_sync;
    unlisted = held.unlisted;
    same = λ m d e at_m at_d at_e honest_d honest_e.
        let x = was_disk held.at d at_d in
        let y = was_disk target e at_e in
        let others = h.others held.at held.other x.0 d x.1 at_d in
        let stays = h.stays y.0 e y.1 at_e in
        let there : IsMember old.array target m = sym (ap (λ (a : ArrayView). slice_get a.members target) h.array) ∙ at_m in
        let is : h.member ≡ m = same_Some h.member m (sym h.at ∙ there) in
        let beside = subst (λ (n : MemberView). (512 * (m.superblock.data_offset + s) + 512 ≤ 512 * (n.superblock.data_offset + from)) ⊎ (512 * (n.superblock.data_offset + to) ≤ 512 * (m.superblock.data_offset + s))) (sym is)
        (elim apart [ inl below ↦ inl (omega (arith, below)) | inr above ↦ inr (omega (arith, above)) ]) in
        h.beside y.0 e y.1 at_e (512 * (m.superblock.data_offset + s)) 512 beside
        ∙ held.same m x.0 y.0 there x.1 y.1 (sym others.0.honest ∙ honest_d) (sym stays.honest ∙ honest_e)
        ∙ ap (λ (c : List ℕ). part c (512 * (held.member.superblock.data_offset + s)) 512) (sym others.1.0);
  }
