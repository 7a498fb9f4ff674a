-- What a device tells of crashes after a call that is a list of events, it tells of one of them.
use Rattle.std.proofs.Common.{◌≡◌, ◌∙◌, ◌⊎◌, inl, inr, ℕ, zero, suc, true, List, [], ◌∷◌, ◌++◌, drop, length, slice_get, Option, Some, refl, sym, ap, subst, arith}
use Rattle.std.proofs.lemmas.List.{append-nil, append_assoc, drop_at}
use Rattle.std.proofs.lemmas.Option.{slice_get_within}
use Rattle.md_model.specs.Events.{Event}
use Rattle.md_model.proofs.Puts.{by_same}
use Rattle.md_state.specs.DeviceChanges.{LeavesOn}
use Rattle.md_state.specs.DiskWrites.{AtDevice, IsTried}
use Rattle.md_state.specs.View.{Disk, MirrorView}
use Rattle.md_members.specs.DeviceWrites.Writes.{Write}
use Rattle.md_array.specs.Events.{IsChangedAlone, WritesOnce}
use Rattle.md_array.specs.InTurn.{AllLeftWhole, AllOf, Leads, Requests}
use Rattle.md_array.specs.Worlds.{AreHonest}
use Rattle.md_assembly.proofs.Indices.{got_same, got_within}
use Rattle.md_laws.specs.CallCrashes.{IsLeftInOne, IsToldOf, CrashesAreTold}
use Rattle.md_laws.specs.CrashesWithin.{MayBeLeft}
use Rattle.md_laws.proofs.Crashes.AtSteps.{none_new}

-- device k is there still, and has told of more crashes, or of none
record GrowsAt (k : ℕ) (after : List Disk) (d : Disk) : Type 0 where
  now : Disk
  at : slice_get after k ≡ Some now
  more : List (List ℕ)
  all : now.crashes ≡ d.crashes ++ more

abbrev Grows : List Disk → List Disk → Type 0
Grows before after = (k : ℕ) (d : Disk) → slice_get before k ≡ Some d → GrowsAt k after d

grows_same : (before after : List Disk) → after ≡ before → Grows before after
grows_same before after same k d was = record { now = d; at = ap (λ (xs : List Disk). slice_get xs k) same ∙ was; more = []; all = sym (append-nil d.crashes) }

module _ (before after : List Disk) (as_many : length after ≡ length before) where
  there : (k : ℕ) (d : Disk) → slice_get before k ≡ Some d → (x : Disk) × (slice_get after k ≡ Some x)
  there k d was = let low = slice_get_within before k d was in got_within after k (omega arith)

  grown : (k : ℕ) (d : Disk) → slice_get before k ≡ Some d → (P : List ℕ → Type 0) → ((x : Disk) → slice_get after k ≡ Some x → LeavesOn P d x) → GrowsAt k after d
  grown k d was P leaves = let x = there k d was in let l = leaves x.0 x.1 in record { now = x.0; at = x.1; more = l.more; all = l.all }

grows_tried : (j : ℕ) (w : Write) (before after : List Disk) → AreHonest before → IsTried j w before after → (P : Disk → List ℕ → Type 0)
    → AtDevice j before after (λ d e. d.honest ≡ true → LeavesOn (P d) d e) → Grows before after
grows_tried j w before after honest tried P within k d was = by_same k j
    (λ here. grown before after tried.as_many k d was (P d) (λ x is. within d x (sym (ap (slice_get before) here) ∙ was) (sym (ap (slice_get after) here) ∙ is) (honest k d was)))
    (λ apart. record { now = d; at = tried.others k apart ∙ was; more = []; all = sym (append-nil d.crashes) })

grows_alone : (j : ℕ) (Related : List ℕ → List ℕ → Type 0) (before after : List Disk) → AreHonest before → IsChangedAlone j Related before after → Grows before after
grows_alone j Related before after honest alone k d was = by_same k j
    (λ here. grown before after alone.as_many k d was (Related d.content)
    (λ x is. alone.within d x (sym (ap (slice_get before) here) ∙ was) (sym (ap (slice_get after) here) ∙ is) (honest k d was)))
    (λ apart. grown before after alone.as_many k d was (λ left. left ≡ d.content) (λ x is. (alone.others k apart d x was is).1.1 (honest k d was)))

-- so after each event that is told of
module _ (before after : List Disk) (honest : AreHonest before) where
  grows : (e : Event) → IsToldOf e → WritesOnce e before after → Grows before after
  grows (Event.Record k) told w = grows_tried k w.0 before after honest w.1.tried _ w.1.within
  grows (Event.StoreMarks k b) told w = grows_tried k w.0 before after honest w.2.tried _ w.2.within
  grows (Event.WriteMember n k) told w = grows_tried k w.0 before after honest w.1.tried _ w.1.within
  grows (Event.WriteFails k part) told w = grows_tried k w.0 before after honest w.1.tried _ w.1.within
  grows (Event.RecordTargetFails k) told w = grows_tried k w.0 before after honest w.1.tried _ w.1.within
  grows (Event.Admit k role listed) told w = grows_tried k w.0 before after honest w.1.tried _ w.1.within
  grows (Event.Checkpoint k sure listed) told w = grows_tried k w.0 before after honest w.1.tried _ w.1.within
  grows (Event.StoreLog k listed) told (inl same) = grows_same before after same
  grows (Event.StoreLog k listed) told (inr w) = grows_tried k w.0 before after honest w.1.tried _ w.1.within
  grows (Event.Fill k) told w = grows_alone k _ before after honest w.2
  grows (Event.Prepare k) told w = grows_alone k _ before after honest w.1
  grows Event.Resynced told same = grows_same before after same
  grows Event.Unresynced told same = grows_same before after same
  grows Event.MakeClean told same = grows_same before after same
  grows (Event.Begin n p) told same = grows_same before after same
  grows (Event.Finish n) told same = grows_same before after same
  grows (Event.ClearIdle c) told same = grows_same before after same
  grows (Event.Fail k) told same = grows_same before after same
  grows (Event.LowerOffset k s) told same = grows_same before after same
  grows (Event.NoteBad k more) told same = grows_same before after same
  grows e told w = absurd told

-- ---- along a list
-- what stands in two lists, one behind the other
in_two : {X : Type 0} (xs ys : List X) (i : ℕ) (c : X) → slice_get (xs ++ ys) i ≡ Some c → (slice_get xs i ≡ Some c) ⊎ ((j : ℕ) × (slice_get ys j ≡ Some c))
in_two [] ys i c is = inr (i, is)
in_two (x ∷ xs) ys zero c is = inl is
in_two (x ∷ xs) ys (suc i) c is = in_two xs ys i c is

behind : (past more now : List (List ℕ)) → now ≡ past ++ more → drop (length past) now ≡ more
behind past more now all = ap (drop (length past)) all ∙ drop_at past more (length past) refl

record FoundAt (es : List Event) (previous : Option Event) (old new : MirrorView) (before after : Requests) (leads : Leads previous old before es new after) (k : ℕ) (d : Disk) : Type 0 where
  end : GrowsAt k new.disks d
  found : (i : ℕ) (c : List ℕ) → slice_get end.more i ≡ Some c → IsLeftInOne es previous old before (λ m r. (m ≡ new) × (r ≡ after)) leads k c

found_at : (es : List Event) (previous : Option Event) (old new : MirrorView) (before after : Requests) (leads : Leads previous old before es new after) → AllOf IsToldOf es
    → AreHonest old.disks → AllLeftWhole es previous old before (λ m r. (m ≡ new) × (r ≡ after)) leads → (k : ℕ) (d : Disk) → slice_get old.disks k ≡ Some d
    → FoundAt es previous old new before after leads k d
found_at [] previous old new before after leads told honest whole k d was = record {
  end = record { now = d; at = ap (λ (v : MirrorView). slice_get v.disks k) (sym leads.0) ∙ was; more = []; all = sym (append-nil d.crashes) };
  found = λ i c is. absurd (none_new [] i c is);
}
found_at (e ∷ es) previous old new before after leads told honest whole k d was =
    let Then : MirrorView → Requests → Type 0 = λ m r. (m ≡ new) × (r ≡ after) in
    let mid = leads.0 in
    let does = leads.4 honest whole.0 in
    let first = grows old.disks mid.disks honest e told.0 does.writes k d was in
    let rest = found_at es (Some e) mid new leads.1 after leads.5 told.1 does.honest whole.1 k first.now first.at in
    let here : (i : ℕ) (c : List ℕ) → slice_get first.more i ≡ Some c → AtDevice k old.disks mid.disks (λ x y. MayBeLeft x y c) =
    λ i c is x y at_x at_y.
    subst (λ (z : Disk). MayBeLeft z y c) (got_same old.disks k d x was at_x)
    (subst (λ (z : Disk). MayBeLeft d z c) (got_same mid.disks k first.now y first.at at_y)
    (inr (i, ap (λ (xs : List (List ℕ)). slice_get xs i) (behind d.crashes first.more first.now.crashes first.all) ∙ is))) in
    record {
      end = record {
        now = rest.end.now;
        at = rest.end.at;
        more = first.more ++ rest.end.more;
        all = rest.end.all ∙ ap (λ (xs : List (List ℕ)). xs ++ rest.end.more) first.all ∙ append_assoc d.crashes first.more rest.end.more;
      };
      found = λ i c is. elim (in_two first.more rest.end.more i c is) [
        | inl one ↦ inl (here i c one)
        | inr later ↦ inr (rest.found later.0 c later.1)
      ];
    }

pub crashes_are_told : CrashesAreTold
crashes_are_told es previous old new before after leads told honest whole k i d x c was is there =
    let f = found_at es previous old new before after leads told honest whole k d was in
    let same : f.end.now ≡ x = got_same new.disks k f.end.now x f.end.at is in
    let all : x.crashes ≡ d.crashes ++ f.end.more = subst (λ (y : Disk). y.crashes ≡ d.crashes ++ f.end.more) same f.end.all in
    f.found i c (sym (ap (λ (xs : List (List ℕ)). slice_get xs i) (behind d.crashes f.end.more x.crashes all)) ∙ there)
