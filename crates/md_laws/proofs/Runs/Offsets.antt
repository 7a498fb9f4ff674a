-- The offset that a device tells of is no greater than the one that is kept of its member, if it was so at the opening.
use Rattle.std.proofs.Common.{◌≡◌, ◌≢◌, ◌⊎◌, ℕ, ◌≤◌, inl, inr, Bool, true, false, true≢false, cond, max, List, [], ◌∷◌, Some, None, refl, sym, ap, ◌∙◌, subst, arith}
use Rattle.std.specs.Prelude.{min}
use Rattle.std.proofs.lemmas.Option.{same_Some}
use Rattle.md_model.specs.Sectors.{Geometry, put}
use Rattle.md_model.specs.Devices.{Stored, Super, offset_in, offset_of}
use Rattle.md_model.specs.Worlds.{World}
use Rattle.md_model.specs.Counts.{risen, risen_if}
use Rattle.md_model.specs.States.{is_recovering}
use Rattle.md_model.specs.Steps.{first_sector, lowered, lowered_on, marked_device, recorded_device, super_for, sure_after, with_device, written_device}
use Rattle.md_model.specs.Resyncing.{copied_device}
use Rattle.md_model.specs.Membership.{Newcomer, former_member, is_spare, joined, joined_super, new_member, removed, skip}
use Rattle.md_model.specs.Rebuilding.{Taking, as_in_sync, as_recovering, with_role_taken, taking_device, with_offset}
use Rattle.md_model.specs.Events.{Event, Happens}
use Rattle.md_model.specs.Runs.{spoiled_after}
use Rattle.md_model.specs.Crashes as crashes
use Rattle.md_model.proofs.Cases.{none_some, not_below}
use Rattle.md_model.proofs.Puts.{by_same, put-at, put-hit, put-miss}
use Rattle.md_model.proofs.Steps.FailedWrites.{super_left}
use Rattle.md_state.specs.View.{Disk, MirrorView, geometry_of}
use Rattle.md_array.specs.Open.Opened.{IsOpenedFrom}
use Rattle.md_array.specs.Worlds.{AreHonest, none_in_flight, world_of}
use Rattle.md_laws.specs.Left.{IsLeftByCrash}
use Rattle.md_laws.specs.Recovering.{OffsetsAreKept, SaysNoMoreWithoutList}
use Rattle.md_laws.specs.Runs.{MirrorRun, Moment, history_of, opened_as, then_as}
use Rattle.md_laws.proofs.Openings.Found.{sure_same}
use Rattle.md_laws.proofs.Runs.Moments.{IsSoundAt, run_keeps, sound_when_opened}
use Rattle.md_laws.proofs.Runs.Rests.{history_rests, rests_does}
use Rattle.md_laws.proofs.Crashes.LeftAtCrashes.{IsSorted, sorted}
use Rattle.md_laws.proofs.Crashes.LeftContents.{read_in}

abbrev pub OffsetIn : World → ℕ → Type 0
OffsetIn w k = (own : Super) → (w.stored k).super ≡ Some own → own.offset ≤ w.offset k

-- so of each member whose offset is known
abbrev pub OffsetsIn : (ℕ → Bool) → World → Type 0
OffsetsIn unknown w = (k : ℕ) → unknown k ≡ false → OffsetIn w k

-- what a member's superblock is to have is no more than its offset
abbrev pub SuresIn : World → Type 0
SuresIn w = (k : ℕ) → w.sure_offset k ≤ w.offset k

-- at an opening so of each member whose offset it has not lessened
pub offsets_when_opened : (m : MirrorView) → OffsetsIn (opened_as m).offset_unknown (world_of m none_in_flight)
offsets_when_opened m k known own is =
    let w : World = world_of m none_in_flight in
    let low = not_below (w.offset k) (offset_of (w.stored k)) known in
    let same : offset_of (w.stored k) ≡ own.offset = ap offset_in is in
    omega arith

pub sures_when_opened : (before : List Disk) (m : MirrorView) → AreHonest before → IsOpenedFrom before m → SuresIn (world_of m none_in_flight)
sures_when_opened before m honest opened k =
    let w : World = world_of m none_in_flight in
    let least : w.offset k ≤ w.offset k = omega arith in
    subst (λ (n : ℕ). n ≤ w.offset k) (sym (sure_same before m honest opened k)) least

-- ---- one device changes
others_clear : (k : ℕ) (b : Bool) (spoiled : ℕ → Bool) (j : ℕ) → j ≢ k → put k b spoiled j ≡ false → spoiled j ≡ false
others_clear k b spoiled j apart clear = sym (put-miss k b spoiled j apart) ∙ clear

module _ (spoiled then : ℕ → Bool) (w : World) (k : ℕ) (d : Stored) (others : (j : ℕ) → j ≢ k → then j ≡ false → spoiled j ≡ false) (t : OffsetsIn spoiled w) where
  put_device : (then k ≡ false → (own : Super) → d.super ≡ Some own → own.offset ≤ w.offset k) → OffsetsIn then (with_device w k d)
  put_device this j clear own = put-at k d w.stored j (λ (x : Stored). x.super ≡ Some own → own.offset ≤ w.offset j)
      (λ here is. subst (λ (i : ℕ). own.offset ≤ w.offset i) (sym here) (this (subst (λ (i : ℕ). then i ≡ false) here clear) own is))
      (λ apart is. t j (others j apart clear) own is)

  -- and its offset
  put_both : (n : ℕ) → ((own : Super) → d.super ≡ Some own → own.offset ≤ n) → OffsetsIn then (record w { stored = put k d w.stored; offset = put k n w.offset })
  put_both n this j clear own is = by_same j k
      (λ here.
      let device : put k d w.stored j ≡ d = ap (put k d w.stored) here ∙ put-hit k d w.stored in
      let offset : put k n w.offset j ≡ n = ap (put k n w.offset) here ∙ put-hit k n w.offset in
      subst (λ (x : ℕ). own.offset ≤ x) (sym offset) (this own (sym (ap (λ (x : Stored). x.super) device) ∙ is)))
      (λ apart.
      subst (λ (x : ℕ). own.offset ≤ x) (sym (put-miss k n w.offset j apart))
      (t j (others j apart clear) own (sym (ap (λ (x : Stored). x.super) (put-miss k d w.stored j apart)) ∙ is)))

-- it has its superblock still
module _ (spoiled : ℕ → Bool) (w : World) (t : OffsetsIn spoiled w) (u : SuresIn w) (k : ℕ) (d : Stored) where
  still : d.super ≡ (w.stored k).super → OffsetsIn spoiled (with_device w k d)
  still same = put_device spoiled spoiled w k d (λ j apart clear. clear) t (λ clear own is. t k clear own (sym same ∙ is))

  -- or the one that is kept, or none
  abbrev IsLeftBySuper : Type 0
  IsLeftBySuper = (d.super ≡ (w.stored k).super) ⊎ ((d.super ≡ Some (super_for w k)) ⊎ (d.super ≡ None))

  by_super : IsLeftBySuper → OffsetIn w k → (own : Super) → d.super ≡ Some own → own.offset ≤ w.offset k
  by_super left had own is = elim left [
    | inl same ↦ had own (sym same ∙ is)
    | inr (inl new) ↦ subst (λ (v : Super). v.offset ≤ w.offset k) (same_Some (super_for w k) own (sym new ∙ is)) (u k)
    | inr (inr none) ↦ absurd (none_some own (sym none ∙ is))
  ]

  by_left : IsLeftBySuper → OffsetsIn spoiled (with_device w k d)
  by_left left = put_device spoiled spoiled w k d (λ j apart clear. clear) t (λ clear own is. by_super left (t k clear) own is)

-- ---- members come and go
module _ (g : Geometry) (spoiled : ℕ → Bool) (w : World) (t : OffsetsIn spoiled w) where
  when_risen : (rises full : Bool) → OffsetsIn spoiled (risen_if g w rises full)
  when_risen true full = t
  when_risen false full = t

  when_removed : (k : ℕ) (spare full : Bool) → OffsetsIn (λ j. spoiled (skip k j)) (removed g w k spare full)
  when_removed k true full j clear = t (skip k j) clear
  when_removed k false full j clear = t (skip k j) clear

  when_joined : (n : Newcomer) → ((own : Super) → n.device.super ≡ Some own → own.offset ≤ n.offset) → OffsetsIn (put w.members false spoiled) (joined w n)
  when_joined n = put_both spoiled (put w.members false spoiled) w w.members n.device (others_clear w.members false spoiled) t n.offset

  when_taking : (k : ℕ) (x : Taking) → OffsetsIn (put k false spoiled) (with_role_taken w k x)
  when_taking k x = put_both spoiled (put k false spoiled) w k (taking_device w k x) (others_clear k false spoiled) t x.offset
      (λ own is. let least : x.offset ≤ x.offset = omega arith in subst (λ (v : Super). v.offset ≤ x.offset) (same_Some (joined_super w (w.number k) x.role x.recovering x.offset) own is) least)

offset_step : (g : Geometry) (w : World) (spoiled : ℕ → Bool) → OffsetsIn spoiled w → SuresIn w → (e : Event) (w' : World) → Happens g w e w' → OffsetsIn (spoiled_after e w spoiled) w'
offset_step g w s t u (Event.Begin n p) w' h = subst (OffsetsIn s) (sym h.5) (when_risen g s w t h.0 h.1)
offset_step g w s t u (Event.Record k) w' h = subst (OffsetsIn (put k false s)) (sym h.3)
    (put_device s (put k false s) w k (recorded_device w k h.0) (others_clear k false s) t
    (λ _ own is. subst (λ (v : Super). v.offset ≤ w.offset k) (same_Some (super_for w k) own is) (u k)))
offset_step g w s t u (Event.StoreMarks k b) w' h = subst (OffsetsIn s) (sym h.1) (still s w t u k (marked_device w k b) refl)
offset_step g w s t u (Event.WriteMember n k) w' h = subst (OffsetsIn s) (sym h.2) (still s w t u k (written_device w k h.0) refl)
offset_step g w s t u (Event.Finish n) w' h = subst (OffsetsIn s) (sym h.2) t
offset_step g w s t u (Event.ClearIdle c) w' h = subst (OffsetsIn s) (sym h.1) t
offset_step g w s t u (Event.Fail k) w' h = subst (OffsetsIn s) (sym h.1.3) (still s w t u k (w.stored k) refl)
offset_step g w s t u (Event.WriteFails k part) w' h = subst (OffsetsIn s) (sym h.2.3) (by_left s w t u k h.0 (super_left g w k part h.0 h.1))
offset_step g w s t u (Event.Copy from k x) w' h = subst (OffsetsIn s) (sym h.1) (still s w t u k (copied_device w from k x) refl)
offset_step g w s t u Event.Resynced w' h = subst (OffsetsIn s) (sym h.1) t
offset_step g w s t u Event.Unresynced w' h = subst (OffsetsIn s) (sym h.1) t
offset_step g w s t u Event.MakeClean w' h = subst (OffsetsIn s) (sym h.3) t
offset_step g w s t u (Event.Remove k) w' h = subst (OffsetsIn (λ j. s (skip k j))) (sym h.3) (when_removed g s w t k (is_spare (w.state k)) h.0)
offset_step g w s t u (Event.Add d left) w' h = subst (OffsetsIn (put w.members false s)) (sym h.4)
    (when_joined g s (risen g w h.0) t (new_member d left)
    (λ own is. let least : 0 ≤ 0 = omega arith in subst (λ (v : Super). v.offset ≤ 0) (same_Some (joined_super (risen g w h.0) d 65535 false 0) own (sym h.2.super ∙ is)) least))
offset_step g w s t u (Event.ReAdd own offset device left) w' h = subst (OffsetsIn (put w.members false s)) (sym h.4)
    (when_joined g s (risen g w h.0) t (former_member own offset left)
    (λ v is. subst (λ n. n ≤ offset) (ap (λ (x : Super). x.offset) (same_Some (joined_super (risen g w h.0) own.number (own.role own.number) true h.2.sure_offset) v (sym (ap (λ (d : Stored). d.super) h.2.rest) ∙ is))) h.2.within))
offset_step g w s t u (Event.LowerOffset k x) w' h = subst (OffsetsIn s) (sym h.1) t
offset_step g w s t u (Event.Fill k) w' h = subst (OffsetsIn s) (sym h.3) (still s w t u k h.0 (ap (λ (d : Stored). d.super) h.2.rest))
offset_step g w s t u (Event.Prepare k) w' h = subst (OffsetsIn s) (sym h.3) (still s w t u k h.0 (ap (λ (d : Stored). d.super) h.2.rest))
offset_step g w s t u (Event.RecordTargetFails k) w' h = subst (OffsetsIn s) (sym h.1.2) (by_left s w t u k h.0 h.1.1.super)
offset_step g w s t u (Event.SpoilTarget k) w' h = subst (OffsetsIn (put k true s)) (sym h.1.2)
    (put_device s (put k true s) w k h.0 (others_clear k true s) t (λ clear. absurd (true≢false (sym (put-hit k true s) ∙ clear))))
offset_step g w s t u (Event.Enrol k role listed) w' h = subst (OffsetsIn (put k false s)) (sym h.3) (when_taking g s (risen g w h.0) t k (as_in_sync (risen g w h.0) role listed))
offset_step g w s t u (Event.Admit k role listed) w' h = subst (OffsetsIn (put k false s)) (sym h.3) (when_taking g s (risen g w h.0) t k (as_recovering (risen g w h.0) k role listed))
offset_step g w s t u (Event.Checkpoint k sure listed) w' h = subst (OffsetsIn (put k false s)) (sym h.1)
    (put_both s (put k false s) w k (recorded_device (with_offset w k sure) k listed) (others_clear k false s) t (max (w.offset k) sure)
    (λ own is.
    let most : sure ≤ max (w.offset k) sure = omega arith in
    subst (λ (v : Super). v.offset ≤ max (w.offset k) sure) (same_Some (super_for (with_offset w k sure) k) own is)
    (subst (λ (x : ℕ). x ≤ max (w.offset k) sure) (sym (put-hit k sure w.sure_offset)) most)))
offset_step g w s t u (Event.NoteBad k more) w' h = subst (OffsetsIn s) (sym h.1) t
offset_step g w s t u (Event.StoreLog k listed) w' h = subst (OffsetsIn s) (sym h.2) (still s w t u k (record (w.stored k) { listed = listed }) refl)

-- ---- what superblocks are to have
sure_low : (b : Bool) (x s y : ℕ) → x ≤ y → cond b (min x s) x ≤ y
sure_low true x s y low = omega arith
sure_low false x s y low = low

module _ (w : World) (u : SuresIn w) where
  put_sures : (k sure offset : ℕ) → sure ≤ offset → SuresIn (record w { sure_offset = put k sure w.sure_offset; offset = put k offset w.offset })
  put_sures k sure offset low j = by_same j k
      (λ here.
      let x : put k sure w.sure_offset j ≡ sure = ap (put k sure w.sure_offset) here ∙ put-hit k sure w.sure_offset in
      let y : put k offset w.offset j ≡ offset = ap (put k offset w.offset) here ∙ put-hit k offset w.offset in
      omega arith)
      (λ apart.
      let x : put k sure w.sure_offset j ≡ w.sure_offset j = put-miss k sure w.sure_offset j apart in
      let y : put k offset w.offset j ≡ w.offset j = put-miss k offset w.offset j apart in
      let had = u j in
      omega arith)

  sures_risen : (g : Geometry) (rises full : Bool) → SuresIn (risen_if g w rises full)
  sures_risen g true full = u
  sures_risen g false full = u

  sures_removed : (g : Geometry) (k : ℕ) (spare full : Bool) → SuresIn (removed g w k spare full)
  sures_removed g k true full j = u (skip k j)
  sures_removed g k false full j = u (skip k j)

  sures_lowered : (s : ℕ) → SuresIn (lowered w s)
  sures_lowered s k = sure_low (is_recovering (w.state k)) (w.sure_offset k) s (w.offset k) (u k)

  sures_lowered_on : (k s : ℕ) → SuresIn (lowered_on w k s)
  sures_lowered_on k s j = put-at k (sure_after w s k) w.sure_offset j (λ (n : ℕ). n ≤ w.offset j)
      (λ here. subst (λ (i : ℕ). sure_after w s k ≤ w.offset i) (sym here) (sures_lowered s k))
      (λ _. u j)

sure_step : (g : Geometry) (w : World) → SuresIn w → (e : Event) (w' : World) → Happens g w e w' → SuresIn w'
sure_step g w u (Event.Begin n p) w' h = subst SuresIn (sym h.5) (sures_lowered (risen_if g w h.0 h.1) (sures_risen w u g h.0 h.1) (first_sector g p))
sure_step g w u (Event.Record k) w' h = subst SuresIn (sym h.3) u
sure_step g w u (Event.StoreMarks k b) w' h = subst SuresIn (sym h.1) u
sure_step g w u (Event.WriteMember n k) w' h = subst SuresIn (sym h.2) u
sure_step g w u (Event.Finish n) w' h = subst SuresIn (sym h.2) u
sure_step g w u (Event.ClearIdle c) w' h = subst SuresIn (sym h.1) u
sure_step g w u (Event.Fail k) w' h = subst SuresIn (sym h.1.3) u
sure_step g w u (Event.WriteFails k part) w' h = subst SuresIn (sym h.2.3) u
sure_step g w u (Event.Copy from k x) w' h = subst SuresIn (sym h.1) u
sure_step g w u Event.Resynced w' h = subst SuresIn (sym h.1) u
sure_step g w u Event.Unresynced w' h = subst SuresIn (sym h.1) u
sure_step g w u Event.MakeClean w' h = subst SuresIn (sym h.3) u
sure_step g w u (Event.Remove k) w' h = subst SuresIn (sym h.3) (sures_removed w u g k (is_spare (w.state k)) h.0)
sure_step g w u (Event.Add d left) w' h = subst SuresIn (sym h.4) (put_sures w u w.members 0 0 (omega arith))
sure_step g w u (Event.ReAdd own offset device left) w' h =
    let sure : offset_of left ≡ h.2.sure_offset = ap offset_of h.2.rest in
    let low = h.2.within in
    subst SuresIn (sym h.4) (put_sures w u w.members (offset_of left) offset (omega arith))
sure_step g w u (Event.LowerOffset k x) w' h = subst SuresIn (sym h.1) (sures_lowered_on w u k x)
sure_step g w u (Event.Fill k) w' h = subst SuresIn (sym h.3) u
sure_step g w u (Event.Prepare k) w' h = subst SuresIn (sym h.3) u
sure_step g w u (Event.RecordTargetFails k) w' h = subst SuresIn (sym h.1.2) u
sure_step g w u (Event.SpoilTarget k) w' h = subst SuresIn (sym h.1.2) u
sure_step g w u (Event.Enrol k role listed) w' h = subst SuresIn (sym h.3) (put_sures w u k 0 0 (omega arith))
sure_step g w u (Event.Admit k role listed) w' h = subst SuresIn (sym h.3) (put_sures w u k 0 0 (omega arith))
sure_step g w u (Event.Checkpoint k sure listed) w' h = subst SuresIn (sym h.1) (put_sures w u k sure (max (w.offset k) sure) (omega arith))
sure_step g w u (Event.NoteBad k more) w' h = subst SuresIn (sym h.1) u
sure_step g w u (Event.StoreLog k listed) w' h = subst SuresIn (sym h.2) u

-- ---- over runs, and at crashes
pub offsets_run : (es : List Event) (t last : Moment) → MirrorRun t es last → OffsetsIn t.offset_unknown (world_of t.mirror t.requests) → SuresIn (world_of t.mirror t.requests)
    → OffsetsIn last.offset_unknown (world_of last.mirror last.requests) × SuresIn (world_of last.mirror last.requests)
offsets_run [] t last r kept sures =
    let now : world_of last.mirror last.requests ≡ world_of t.mirror t.requests = ap (λ h. h.now) (history_rests t last r) in (
      subst (λ (x : Moment). OffsetsIn x.offset_unknown (world_of last.mirror last.requests)) (sym r.is) (subst (OffsetsIn t.offset_unknown) (sym now) kept),
      subst SuresIn (sym now) sures,
    )
offsets_run (e ∷ es) t last r kept sures =
    let g = geometry_of t.mirror.array in
    let w : World = world_of t.mirror t.requests in
    let did = (rests_does t.mirror r.0 t.requests r.1 e r.2).step.1 in
    offsets_run es (then_as t e r.0 r.1) last r.3 (offset_step g w t.offset_unknown kept sures e (world_of r.0 r.1) did) (sure_step g w sures e (world_of r.0 r.1) did)

-- a crash leaves the superblocks
cut_super : (g : Geometry) (w : World) (cut : ℕ → Stored) → crashes.MayStandAtCrash g w cut → (k : ℕ) → (cut k).super ≡ (w.stored k).super
cut_super g w cut is k = elim is [
  | inl whole ↦ ap (λ (f : ℕ → Stored). (f k).super) whole
  | inr torn ↦ by_same k torn.on
      (λ here. ap (λ (i : ℕ). (cut i).super) here ∙ ap (λ (d : Stored). d.super) torn.rest ∙ sym (ap (λ (i : ℕ). (w.stored i).super) here))
      (λ apart. ap (λ (d : Stored). d.super) (torn.others k apart))
]

-- so does what it left of a device
pub offset_at_crash : (t : Moment) → IsSoundAt t → OffsetsIn t.offset_unknown (world_of t.mirror t.requests) × SuresIn (world_of t.mirror t.requests) → (left : List Disk) → IsLeftByCrash t left → (k : ℕ) → t.offset_unknown k ≡ false
    → (own : Super) → (read_in t.mirror.array left k).super ≡ Some own → own.offset ≤ (world_of t.mirror t.requests).offset k
offset_at_crash t sound held left is k known own told =
    let s : IsSorted t left = sorted t sound left is in
    let now : World = (history_of s.moment).now in
    let kept = (offsets_run s.events t s.moment s.run held.0 held.1).0 in
    elim (s.read k) [
      | inl same ↦
          let super : (now.stored k).super ≡ Some own = sym (cut_super (geometry_of t.mirror.array) now s.cut s.is_cut k) ∙ sym (ap (λ (d : Stored). d.super) same) ∙ told in
          subst (λ (n : ℕ). own.offset ≤ n) (s.memory.offset k) (kept k (s.offset_known k known) own super)
      | inr none ↦ absurd (none_some own (sym none ∙ told))
    ]

pub offsets_are_kept : OffsetsAreKept
offsets_are_kept before m start es t r left is k known own told =
    offset_at_crash t (run_keeps es (opened_as m) t r (sound_when_opened before m start.honest start.opened))
    (offsets_run es (opened_as m) t r (offsets_when_opened m) (sures_when_opened before m start.honest start.opened)) left is k known own told

pub says_no_more_without_list : SaysNoMoreWithoutList
says_no_more_without_list before m start es t r left is k known none =
    inl (record { offset = λ own told. offsets_are_kept before m start es t r left is k known own told; listed = λ s off. none s })
