-- A member has other offsets in memory: the mirror stays consistent, an opening reads what is kept, and its world has those offsets.
use Rattle.std.proofs.Common.{◌≡◌, ℕ, ◌+◌, ◌*◌, Bool, true, false, true≢false, ◌&&◌, nat_lt, List, [], set, max, slice_get, zero, suc, ◌∷◌, Option, Some, refl, sym, ap, ◌∙◌, subst, arith}
use Rattle.std.proofs.lemmas.Option.{same_Some, slice_get_within}
use Rattle.md_assembly.specs.declared.state.MemberState.{MemberState}
use Rattle.md_assembly.specs.declared.state.MemberState.TheVariants.{InSync, Recovering, Stale, Spare, Faulty}
use Rattle.md_assembly.specs.States.{has_recovery_offset, is_in_sync, is_recovering}
use Rattle.md_assembly.proofs.Indices.{got_within}
use Rattle.md_bitmap.specs.Marks.{is_set}
use Rattle.md_device.specs.Splice.{SameOutside}
use Rattle.md_kept_members.specs.TakingBack.{with_offsets}
use Rattle.md_kept_members.specs.View.{MemberView}
use Rattle.md_members.specs.Areas.{BitmapIsPlaced, AreAreasPlaced, LogIsPlaced}
use Rattle.md_model.specs.Devices.{Stored}
use Rattle.md_model.specs.Rebuilding as model
use Rattle.md_model.specs.Sectors.{put}
use Rattle.md_model.specs.Worlds.{Request, World}
use Rattle.md_model.proofs.Puts.{put-self}
use Rattle.md_inflight.specs.Requests.Pending.{PendingView}
use Rattle.md_state.specs.Steps.Checkpoint.{checked, with_member_at}
use Rattle.md_state.specs.DiskWrites.{IsTried}
use Rattle.md_state.specs.Members.{IsMember}
use Rattle.md_state.specs.Requests.{IsPending}
use Rattle.md_state.specs.View.{ArrayView, Disk, MirrorView}
use Rattle.md_super.specs.declared.superblock.Superblock.{Superblock}
use Rattle.md_members.specs.DeviceWrites.Writes.{Write}
use Rattle.md_array.specs.Steps.Checkpoint.{MovesOffsets}
use Rattle.md_array.specs.Consistency.{IsConsistent}
use Rattle.md_array.specs.ReadAsKept.{AreReadAsKept, HasOwnSuper, IsReadAsKept}
use Rattle.md_array.specs.Worlds.{lists_of, stored_of, world_of}
use Rattle.md_array.proofs.General.Indices.{at_set_same, set_itself}
use Rattle.md_array.proofs.General.Replaced.{of_set}
use Rattle.md_array.proofs.StepLemmas.OneMember.{ChangesOwn, IsNear, member_there, own_is_consistent, own_is_pending, own_world, stored_there}
use Rattle.md_array.proofs.Worlds.Listed.{listed_at_offset}
use Rattle.md_state.specs.DeviceChanges.{StaysHonest}
use Rattle.md_state.proofs.Stays.{stays_same}

pub recovering_out : (s : MemberState) → is_recovering s ≡ true → is_in_sync s ≡ false
recovering_out (InSync role) on = absurd cc
recovering_out (Recovering role) on = refl
recovering_out (Stale role) on = absurd cc
recovering_out Spare on = absurd cc
recovering_out Faulty on = absurd cc

-- ---- no device is written
abbrev pub nothing : Write
nothing = record { sector = 0; bytes = [] }

pub untried : (k : ℕ) (disks : List Disk) → IsTried k nothing disks disks
untried k disks = record {
  as_many = refl;
  others = λ _ _. refl;
  stays = λ d e was is. let same : d ≡ e = cc in subst (StaysHonest d) same (stays_same d);
  outside = λ d e was is. let same : d ≡ e = cc in subst (λ (x : Disk). SameOutside (512 * 0) 0 d.content x.content) same (record { size = refl; before = refl; after = refl });
}

-- ---- the offset places nothing
module _ (offset : ℕ) (v : Superblock) where
  log_at_offset : (sectors : ℕ) → LogIsPlaced sectors v → LogIsPlaced sectors (record v { recovery_offset = offset })
  log_at_offset sectors p = record { short = p.short; within = p.within; from_super = p.from_super; from_data = p.from_data }

  bitmap_at_offset : (sectors width : ℕ) → BitmapIsPlaced sectors v width → BitmapIsPlaced sectors (record v { recovery_offset = offset }) width
  bitmap_at_offset sectors width p = record { within = p.within; from_super = p.from_super; from_data = p.from_data; from_log = p.from_log }

  placed_at_offset : (sectors width : ℕ) → AreAreasPlaced sectors v width → AreAreasPlaced sectors (record v { recovery_offset = offset }) width
  placed_at_offset sectors width p = record {
    some_size = p.some_size;
    data_holds = p.data_holds;
    data_within = p.data_within;
    data_apart = p.data_apart;
    log = λ has. log_at_offset sectors (p.log has);
    bitmap = λ has. bitmap_at_offset sectors width (p.bitmap has);
  }

-- an opening reads it as before
pub own_at_offset : (sure : ℕ) (shared own : Superblock) (content : List ℕ) → HasOwnSuper shared own content → HasOwnSuper shared (record own { recovery_offset = sure }) content
own_at_offset sure shared own content has v on = let x = has v on in record {
  set_uuid = x.set_uuid;
  size = x.size;
  raid_disks = x.raid_disks;
  data_offset = x.data_offset;
  bitmap_offset = x.bitmap_offset;
  bblog_size = x.bblog_size;
  bblog_offset = x.bblog_offset;
  bblog_shift = x.bblog_shift;
  listed = λ sector. x.listed sector ∙ sym (listed_at_offset sure own content sector);
  no_newer = x.no_newer;
}

-- a member with other offsets in memory, and a superblock that is due or not
abbrev pub with_kept : (offset sure : ℕ) → Bool → MemberView → MemberView
with_kept offset sure due m = record m { superblock = record m.superblock { recovery_offset = sure }; offset = offset; due = due }

pub near_kept : (offset sure : ℕ) (due : Bool) (m : MemberView) → IsNear m (with_kept offset sure due m)
near_kept offset sure due m = record {
  places = record { number = refl; size = refl; has = refl; placed = placed_at_offset sure m.superblock; header = refl; chunks = refl; told = λ tells. tells };
  state = refl;
}

module _ (k offset sure : ℕ) (due : Bool) (old new : MirrorView) (c : IsConsistent old) (m : MemberView) (at : IsMember old.array k m)
    (moved : new ≡ record old { array = with_member_at old.array k (with_kept offset sure due m) }) where
  abbrev a : ArrayView
  a = old.array

  abbrev n : MemberView
  n = with_kept offset sure due m

  same_disks : new.disks ≡ old.disks
  same_disks = ap (λ (v : MirrorView). v.disks) moved

  changes : ChangesOwn k m n nothing old new
  changes = record {
    at = at;
    near = near_kept offset sure due m;
    disks = subst (λ (xs : List Disk). IsTried k nothing old.disks xs) (sym same_disks) (untried k old.disks);
    array = ap (λ (v : MirrorView). v.array) moved;
  }

  pub moved_is_consistent : is_recovering m.state ≡ true → IsConsistent new
  moved_is_consistent on = own_is_consistent k m n nothing old new changes c
      (λ d e before after in_sync honest had. absurd (true≢false (sym in_sync ∙ recovering_out m.state on)))

  pub moved_is_pending : (p : PendingView) → IsPending old.array p → IsPending new.array p
  moved_is_pending = own_is_pending k m n nothing old new changes

  -- an opening reads it as before
  pub moved_read : (failed_at : ℕ) (spoiled : ℕ → Bool) → AreReadAsKept old failed_at spoiled → AreReadAsKept new failed_at spoiled
  moved_read failed_at spoiled are = subst (λ (v : MirrorView). AreReadAsKept v failed_at spoiled) (sym moved)
      (λ j e x found member. of_set a.members k j n x member
      (λ here x_is.
      let had = are j e m found (ap (slice_get a.members) here ∙ at) in
      subst (λ (z : MemberView). IsReadAsKept (with_member_at a k n) z failed_at (spoiled j) e.content) (sym x_is)
      (record { super = λ un. own_at_offset sure a.shared m.superblock e.content (had.super un); header = had.header }))
      (λ apart there. let had = are j e x found there in record { super = had.super; header = had.header }))

  -- ---- its world
  module _ (requests : ℕ → Option Request) where
    abbrev w : World
    w = world_of old requests

    same_content : (content : List ℕ) → stored_of a n content ≡ stored_of a m content
    same_content content = λ i. record (stored_of a m content) { listed = λ s. nat_lt s a.chunks.size && listed_at_offset sure m.superblock content (m.superblock.data_offset + s) i }

    pub world_kept : world_of new requests ≡ record w { due = put k due w.due; offset = put k offset w.offset; sure_offset = put k sure w.sure_offset }
    world_kept =
        let low = slice_get_within a.members k m at in
        let many = c.fits.as_many in
        let d = got_within old.disks k (omega arith) in
        let there : slice_get new.disks k ≡ Some d.0 = ap (λ (xs : List Disk). slice_get xs k) same_disks ∙ d.1 in
        let stored : put k (stored_of a n d.0.content) w.stored ≡ w.stored =
        ap (λ (x : Stored). put k x w.stored) (same_content d.0.content ∙ sym (stored_there old.disks a k m d.0 at d.1)) ∙ put-self k w.stored in
        let known : put k (λ s. nat_lt s a.marks.chunks && is_set m.stored.bytes s) w.known ≡ w.known =
        ap (λ (f : ℕ → Bool). put k f w.known) (λ i s. sym (member_there a k m false (λ x. nat_lt s a.marks.chunks && is_set x.stored.bytes s) at) i) ∙ put-self k w.known in
        let bad : put k (lists_of a n) w.bad ≡ w.bad =
        ap (λ (f : ℕ → Bool). put k f w.bad) (λ i s. sym (member_there a k m false (λ x. lists_of a x s) at) i) ∙ put-self k w.bad in
        let told : put k m.stored_offset w.stored_offset ≡ w.stored_offset =
        ap (λ o. put k o w.stored_offset) (sym (member_there a k m 0 (λ x. x.stored_offset) at)) ∙ put-self k w.stored_offset in
        let recovering : put k (has_recovery_offset n.superblock) w.recovering ≡ w.recovering =
        ap (λ b. put k b w.recovering) (sym (member_there a k m false (λ x. has_recovery_offset x.superblock) at)) ∙ put-self k w.recovering in
        own_world k m n nothing old new changes d.0 there requests
        ∙ (λ i. record w { stored = stored i; due = put k due w.due; known = known i; bad = bad i; offset = put k offset w.offset; sure_offset = put k sure w.sure_offset; stored_offset = told i; recovering = recovering i })

-- ---- its superblock is due as it was
pub world_moved : (k sure : ℕ) (old new : MirrorView) (c : IsConsistent old) (m : MemberView) (at : IsMember old.array k m)
    → new ≡ record old { array = with_member_at old.array k (checked sure m) } → (requests : ℕ → Option Request) → world_of new requests ≡ model.with_offset (world_of old requests) k sure
world_moved k sure old new c m at moved requests =
    let w : World = world_of old requests in
    let due : put k m.due w.due ≡ w.due = ap (λ b. put k b w.due) (sym (member_there old.array k m false (λ x. x.due) at)) ∙ put-self k w.due in
    let offset : put k (max m.offset sure) w.offset ≡ put k (max (w.offset k) sure) w.offset =
    ap (λ o. put k (max o sure) w.offset) (sym (member_there old.array k m 0 (λ x. x.offset) at)) in
    world_kept k (max m.offset sure) sure m.due old new c m at moved requests
    ∙ (λ i. record w { due = due i; offset = offset i; sure_offset = put k sure w.sure_offset })

-- ---- and back
pub set_again : {A : Type 0} (xs : List A) (k : ℕ) (x y : A) → set (set xs k x) k y ≡ set xs k y
set_again [] k x y = refl
set_again (z ∷ xs) zero x y = refl
set_again (z ∷ xs) (suc k) x y = ap (λ (ys : List _). z ∷ ys) (set_again xs k x y)

pub moved_back : (k offset sure : ℕ) (old mid late new : MirrorView) (m : MemberView) → IsMember old.array k m → mid.array ≡ with_member_at old.array k (with_offsets offset sure m)
    → late.array ≡ mid.array → MovesOffsets k m.offset m.superblock.recovery_offset late new → new.array ≡ old.array
moved_back k offset sure old mid late new m at moved same back =
    let a = old.array in
    let n = with_offsets offset sure m in
    let low = slice_get_within a.members k m at in
    let mid_is : late.array ≡ with_member_at a k n = same ∙ moved in
    let there : IsMember (with_member_at a k n) k n = at_set_same a.members k n low in
    let member : back.member ≡ n = same_Some back.member n (sym back.at ∙ ap (λ (x : ArrayView). slice_get x.members k) mid_is ∙ there) in
    let restored : with_offsets m.offset m.superblock.recovery_offset back.member ≡ m = ap (with_offsets m.offset m.superblock.recovery_offset) member in
    ap (λ (v : MirrorView). v.array) back.moved
    ∙ ap (λ (x : ArrayView). with_member_at x k (with_offsets m.offset m.superblock.recovery_offset back.member)) mid_is
    ∙ ap (λ (x : MemberView). record a { members = set (set a.members k n) k x }) restored
    ∙ ap (λ (xs : List MemberView). record a { members = xs }) (set_again a.members k n m ∙ set_itself a.members k m at)
