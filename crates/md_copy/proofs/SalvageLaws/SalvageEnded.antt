-- What stands after a salvage that is refused, by what it left as it was.
use Rattle.std.proofs.Common.{◌≡◌, ◌≢◌, ◌∙◌, ℕ, ◌<◌, ◌≤◌, true, List, [], slice_get, Some, refl, sym, ap, subst, arith, inl, inr}
use Rattle.md_badblocks.specs.declared.run.Run.{Run}
use Rattle.md_badblocks.specs.Runs.{IsBad}
use Rattle.md_collect.specs.Reading.{CountsFailure}
use Rattle.md_device.proofs.Failing.{fails_still}
use Rattle.md_kept_members.specs.View.{MemberView}
use Rattle.md_read.specs.Reading.{IsReadOfMember, NoneGives}
use Rattle.md_state.specs.DiskWrites.{AtDevice}
use Rattle.md_state.specs.Members.{IsMember}
use Rattle.md_state.specs.View.{Disk, MirrorView, of_disks}
use Rattle.md_array.specs.Steps.Enrol.{KeepsData}
use Rattle.md_copy.specs.declared.beginning.fault.RebuildFault.{RebuildFault}
use Rattle.md_copy.specs.Salvaging.Refused.{AreLostSoFar, EndsSalvageSo, HasNotSalvaged, ListsGrowWithin}
use Rattle.md_copy.proofs.Failing.{HasGrown}
use Rattle.md_copy.proofs.Refusals.Refused.{KeepsRest, Lasts, StaysSo, lasts_none, rest_none, stays_same, target_on}
use Rattle.md_copy.proofs.SalvageLaws.SalvageMoves.{Moves}

-- what no member in sync gave up to some moment none gave in all
pub none_since : (s : ℕ) (u v w : MirrorView) → ((k : ℕ) (d : Disk) → slice_get u.disks k ≡ Some d → (x : Disk) × (slice_get v.disks k ≡ Some x))
    → ((k : ℕ) (d e : Disk) → slice_get v.disks k ≡ Some d → slice_get w.disks k ≡ Some e → d.failures ≤ e.failures) → ((k : ℕ) (d e : Disk) → slice_get v.disks k ≡ Some d → slice_get w.disks k ≡ Some e → HasGrown d e)
    → NoneGives s u v → NoneGives s u w
none_since s u v w then counted grown none k m is = elim (none k m is) [
  | inl lists ↦ inl lists
  | inr failed ↦ inr (λ d f was now.
      let x = then k d was in
      let before = failed d x.0 was x.1 in
      let more = counted k x.0 f x.1 now in (
        λ honest. let less = before.0 honest in omega (arith, less, more),
        λ n there. fails_still d.faults x.0.faults f.faults (IsReadOfMember n s 1) _ (before.1 n there) (grown k x.0 f x.1 now),
      ))
]

-- nothing was to be listed
pub none_lost : (target : ℕ) (m : MemberView) (old new : MirrorView) → AreLostSoFar target m [] [] old new
none_lost target m old new = record {
  none = λ s bad. absurd bad;
  gap = 0;
  to = 0;
  widest = omega arith;
  missing = old.array.marks;
  widened = record { lists = record { canonical = tt; all = λ s there. there.0; beside = λ s bad. absurd bad }; more = λ s bad. absurd bad };
  lacked = λ s bad. absurd bad;
}

-- a call on a device failed after that
pub fails_moved : (target k : ℕ) (listed : List Run) (old mid new : MirrorView) → Moves target listed old mid → AtDevice k mid.disks new.disks (λ d e. d.honest ≡ true → d.failures < e.failures) → AtDevice k old.disks new.disks (CountsFailure of_disks)
fails_moved target k listed old mid new x fails d f at_d at_f honest =
    let e = x.pre.disk_then k d at_d in
    let first = x.counted k d e.0 at_d e.1 in
    let less = fails e.0 f e.1 at_f (x.honest k d e.0 at_d e.1 ∙ honest) in
    omega (arith, first, less)

module _ (target : ℕ) (fault : RebuildFault) (lost listed : List Run) (old mid last new : MirrorView) (m : MemberView) (at : IsMember old.array target m) (x : Moves target listed old mid) (y : KeepsRest target mid last)
    (z : Lasts target fault last new) (same : StaysSo target fault mid.array last.array) where
  was_last : (k : ℕ) (n : MemberView) → IsMember new.array k n → IsMember last.array k n
  was_last k n there = sym (ap (λ (xs : List MemberView). slice_get xs k) z.members) ∙ there

  kept_last : (k : ℕ) (d e : Disk) (n : MemberView) → k ≢ target → slice_get old.disks k ≡ Some d → slice_get last.disks k ≡ Some e → IsMember old.array k n → KeepsData n d e
  kept_last k d f n other at_d at_f at_n i l from to =
      let e = x.pre.disk_then k d at_d in
      let o = x.pre.then k n at_n in
      let offset = x.pre.offset k n o.0 at_n o.1 in
      let size = x.pre.size k n o.0 at_n o.1 in
      y.keeps k e.0 f o.0 e.1 at_f o.1 i l (omega (arith, offset, from)) (omega (arith, offset, size, to)) ∙ x.pre.others k d e.0 n other at_d e.1 at_n i l from to

  -- the lists
  same_bad : (k : ℕ) (o n : MemberView) → IsMember mid.array k o → IsMember new.array k n → n.bad ≡ o.bad
  same_bad k o n at_o at_n = y.bad k o n at_o (was_last k n at_n)

  lists : ListsGrowWithin target listed old.array new.array
  lists = record {
    in_sync = λ k l n other on at_n sector bad.
        (let o = x.pre.then k l on.member in x.grown k l o.0 other on o.1 sector (subst (λ (runs : List Run). IsBad runs sector) (same_bad k o.0 n o.1 at_n) bad));
    kept = λ k l n other at_l at_n sector bad.
        (let o = x.pre.then k l at_l in subst (λ (runs : List Run). IsBad runs sector) (sym (same_bad k o.0 n o.1 at_n)) (x.kept k l o.0 other at_l o.1 sector bad));
    out = λ k l n other at_l isnt at_n. (let o = x.pre.then k l at_l in same_bad k o.0 n o.1 at_n ∙ x.out k l o.0 other at_l isnt o.1);
  }

  -- the devices
  disk_last : (k : ℕ) (d : Disk) → slice_get mid.disks k ≡ Some d → (e : Disk) × (slice_get last.disks k ≡ Some e)
  disk_last k d at_d = y.disk_then k d at_d

  none_then : (s : ℕ) → NoneGives s old mid → NoneGives s old new
  none_then s none =
      none_since s old last new (λ k d at_d. let e = x.pre.disk_then k d at_d in y.disk_then k e.0 e.1) (λ k d e at_d at_e. (z.stays k d e at_d at_e).counted) (λ k d e at_d at_e. (z.stays k d e at_d at_e).grown)
      (none_since s old mid last x.pre.disk_then y.counted y.grown none)

  pub not_salvaged : (far : AreLostSoFar target m lost listed old mid) → EndsSalvageSo target fault m far.missing lost listed old new → HasNotSalvaged target fault old new
  not_salvaged far so =
      let between = x.pre.then target m at in
      let now = y.then target between.0 between.1 in
      let own = target_on m between.0 now.0 (x.pre.own m between.0 at between.1) (y.own between.0 now.0 between.1 now.1) in
      record {
        member = m;
        at = at;
        now = now.0;
        there = ap (λ (xs : List MemberView). slice_get xs target) z.members ∙ now.1;
        state = own.state;
        offset = own.offset;
        list = own.list;
        beside = λ d f at_d at_f i n h.
            (let e = x.pre.disk_then target d at_d in
            let offset = x.pre.offset target m between.0 at between.1 in
            let size = x.pre.size target m between.0 at between.1 in
            let from = h.from in
            let to = h.to in
            y.keeps target e.0 f between.0 e.1 (sym z.own ∙ at_f) between.1 i n (omega (arith, offset, from)) (omega (arith, offset, size, to)) ∙ x.pre.beside d e.0 m at_d e.1 at i n h);
        others = λ j d f n other runs at_d at_f at_n. kept_last j d f n other at_d (sym (z.keeps j other runs) ∙ at_f) at_n;
        lost = lost;
        listed = listed;
        so_far = record { none = λ s bad. (let was = far.none s bad in (was.0, none_then s was.1)); gap = far.gap; to = far.to; widest = far.widest; missing = far.missing; widened = far.widened; lacked = far.lacked };
        lists = lists;
        still = λ k n w other apart at_n at_w. (let o = x.pre.then k n at_n in same.states k o.0 w other apart o.1 (was_last k w at_w) ∙ x.states k n o.0 other at_n o.1);
        marks = z.marks ∙ same.marks ∙ x.pre.marks;
        resynced = z.resynced ∙ same.resynced ∙ x.resynced;
        so = so;
      }

-- all is left as it was up to the end
pub not_salvaged_moved : (target : ℕ) (fault : RebuildFault) (lost listed : List Run) (old new : MirrorView) (m : MemberView) → IsMember old.array target m → Moves target listed old new
    → (far : AreLostSoFar target m lost listed old new) → EndsSalvageSo target fault m far.missing lost listed old new → HasNotSalvaged target fault old new
not_salvaged_moved target fault lost listed old new m at x far so =
    not_salvaged target fault lost listed old new new new m at x (rest_none target new) (lasts_none target fault new) (stays_same target fault new.array new.array refl) far so
