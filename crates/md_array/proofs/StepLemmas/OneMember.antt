-- A write goes to one device of a mirror, and its member is changed in memory: what stays of the mirror, and its world.
use Rattle.std.proofs.Common.{◌≡◌, ℕ, ◌+◌, ◌/◌, ◌<◌, ◌≤◌, Bool, true, false, ◌&&◌, eqb, nat_lt, not, List, length, set, slice_get, count_by, Option, Some, None, refl, sym, ap, ◌∙◌, subst, arith, ◌^◌}
use Rattle.std.specs.Prelude.{option_map, unwrap_or}
use Rattle.std.specs.List.{list_any}
use Rattle.std.proofs.lemmas.List.{length-set}
use Rattle.std.proofs.lemmas.Option.{same_Some, slice_get_within}
use Rattle.md_super.specs.declared.superblock.Superblock.{Superblock}
use Rattle.md_bitmap.specs.declared.header.BitmapHeader.{BitmapHeader}
use Rattle.md_bitmap.specs.Marks.{is_set}
use Rattle.md_bitmap.specs.Sound.{IsSoundHeader}
use Rattle.md_badblocks.specs.declared.run.Run.{Run}
use Rattle.md_members.specs.Areas.{AreAreasPlaced, bitmap_sectors, has_bitmap}
use Rattle.md_members.specs.Members.{reads_log, sectors_of_device}
use Rattle.md_assembly.specs.States.{has_recovery_offset, is_in_sync, role_in, takes_role}
use Rattle.md_assembly.proofs.Indices.{got_within}
use Rattle.md_model.specs.Sectors.{put}
use Rattle.md_model.specs.States as model
use Rattle.md_model.specs.Worlds.{Request, World}
use Rattle.md_model.proofs.Puts.{by_same, put-at, put-self}
use Rattle.md_members.specs.DeviceWrites.Writes.{Write}
use Rattle.md_inflight.specs.Requests.Pending.{PendingView}
use Rattle.md_kept_members.specs.View.{MemberView}
use Rattle.md_state.specs.View.{ArrayView, Disk, MirrorView}
use Rattle.md_state.specs.Members.{IsInSync, IsMember}
use Rattle.md_state.specs.Missing.{is_rebuilt}
use Rattle.md_state.specs.InMemory.{HasMarksOfSize, HasRoles}
use Rattle.md_state.specs.DiskWrites.{IsTried}
use Rattle.md_state.specs.Requests.{AreInFlight, IsPending, lacks}
use Rattle.md_array.specs.Fits.{Fits, FitsMember, TellsOfList}
use Rattle.md_array.specs.Consistency.{HasSuper, HaveSupers, IsConsistent}
use Rattle.md_array.specs.Worlds.{at_member, kind_of, lies_in, lists_of, stored_of, stored_on, world_on, world_of}
use Rattle.md_array.proofs.General.Indices.{any_kept, at_set_same, counted_kept, got_other, got_put}

-- Two members have the same number, places and header, and as many chunks. What else their own fields say may differ.
pub record HasPlacesOf (m n : MemberView) : Type 0 where
  pub number : n.superblock.dev_number ≡ m.superblock.dev_number
  pub size : n.superblock.size ≡ m.superblock.size
  pub has : has_bitmap n.superblock ≡ has_bitmap m.superblock
  pub placed : (sectors width : ℕ) → AreAreasPlaced sectors m.superblock width → AreAreasPlaced sectors n.superblock width
  pub header : n.header ≡ m.header
  pub chunks : n.stored.chunks ≡ m.stored.chunks
  pub told : TellsOfList m → TellsOfList n

-- and one state
pub record IsNear (m n : MemberView) : Type 0 where
  pub places : HasPlacesOf m n
  pub state : n.state ≡ m.state

near_itself : (m : MemberView) → IsNear m m
near_itself m = record { places = record { number = refl; size = refl; has = refl; placed = λ _ _ p. p; header = refl; chunks = refl; told = λ tells. tells }; state = refl }

-- two members have the same superblock, list, header and offset, as many chunks, and one state
pub record IsLike (m n : MemberView) : Type 0 where
  pub superblock : n.superblock ≡ m.superblock
  pub bad : n.bad ≡ m.bad
  pub offset : n.offset ≡ m.offset
  pub header : n.header ≡ m.header
  pub chunks : n.stored.chunks ≡ m.stored.chunks
  pub state : n.state ≡ m.state

pub like_itself : (m : MemberView) → IsLike m m
like_itself m = record { superblock = refl; bad = refl; offset = refl; header = refl; chunks = refl; state = refl }

near_like : (m n : MemberView) → IsLike m n → IsNear m n
near_like m n like = record {
  places = record {
    number = ap (λ (v : Superblock). v.dev_number) like.superblock;
    size = ap (λ (v : Superblock). v.size) like.superblock;
    has = ap has_bitmap like.superblock;
    placed = λ sectors width p. subst (λ (v : Superblock). AreAreasPlaced sectors v width) (sym like.superblock) p;
    header = like.header;
    chunks = like.chunks;
    told = λ tells rebuilt sector bad.
        ap reads_log like.superblock ∙ tells (sym (ap is_rebuilt like.state) ∙ rebuilt) sector (sym (ap (λ (runs : List Run). lies_in runs sector) like.bad) ∙ bad);
  };
  state = like.state;
}

-- member k, which was m, is n, and its device was written
pub record ChangesOwn (k : ℕ) (m n : MemberView) (w : Write) (old new : MirrorView) : Type 0 where
  pub at : IsMember old.array k m
  pub near : IsNear m n
  pub disks : IsTried k w old.disks new.disks
  pub array : new.array ≡ record old.array { members = set old.array.members k n }

-- so with the same own fields and the same list
pub record ChangesMember (k : ℕ) (m n : MemberView) (w : Write) (old new : MirrorView) : Type 0 where
  pub at : IsMember old.array k m
  pub like : IsLike m n
  pub disks : IsTried k w old.disks new.disks
  pub array : new.array ≡ record old.array { members = set old.array.members k n }

-- a member with the places of another fits a device as long as the other's
pub fits_places : (a b : ArrayView) (m n : MemberView) (d e : Disk) → b.shared.size ≡ a.shared.size → HasPlacesOf m n → length e.content ≡ length d.content → FitsMember a m d → FitsMember b n e
fits_places a b m n d e size near long fit =
    let sectors : sectors_of_device d.content ≡ sectors_of_device e.content = ap (λ (x : ℕ). x / 512) (sym long) in
    record {
      long = subst (λ (x : ℕ). 16 ≤ x) sectors fit.long;
      short = subst (λ (x : ℕ). x ≤ 2 ^ 54) sectors fit.short;
      has = near.has ∙ fit.has;
      placed = subst (λ (x : ℕ). AreAreasPlaced (sectors_of_device e.content) n.superblock (bitmap_sectors x)) (sym near.chunks)
          (near.placed (sectors_of_device e.content) (bitmap_sectors m.stored.chunks) (subst (λ (x : ℕ). AreAreasPlaced x m.superblock (bitmap_sectors m.stored.chunks)) sectors fit.placed));
      few_chunks = subst (λ (x : ℕ). x ≤ 1048576) (sym near.chunks) fit.few_chunks;
      sound = subst (λ (x : ℕ). IsSoundHeader x n.header.chunksize) (sym size) (subst (λ (h : BitmapHeader). IsSoundHeader a.shared.size h.chunksize) (sym near.header) fit.sound);
      told = near.told fit.told;
    }

pub fits_like : (a b : ArrayView) (m n : MemberView) (d e : Disk) → b.shared.size ≡ a.shared.size → IsLike m n → length e.content ≡ length d.content → FitsMember a m d → FitsMember b n e
fits_like a b m n d e size like = fits_places a b m n d e size (near_like m n like).places

-- the world of member k, where it is there
pub member_there : {A : Type 0} (a : ArrayView) (k : ℕ) (m : MemberView) (none : A) (of : MemberView → A) → IsMember a k m → at_member a k none of ≡ of m
member_there a k m none of at = ap (λ o. unwrap_or (option_map of o) none) at

pub stored_there : (disks : List Disk) (a : ArrayView) (k : ℕ) (m : MemberView) (d : Disk) → IsMember a k m → slice_get disks k ≡ Some d → stored_on a (slice_get a.members k) (slice_get disks k) ≡ stored_of a m d.content
stored_there disks a k m d at there = ap (λ o. stored_on a o (slice_get disks k)) at ∙ ap (stored_on a (Some m)) there

module _ (k : ℕ) (m n : MemberView) (w : Write) (old new : MirrorView) (c : ChangesOwn k m n w old new) where
  abbrev a : ArrayView
  a = old.array

  abbrev b : ArrayView
  b = record old.array { members = set old.array.members k n }

  within : k < length a.members
  within = slice_get_within a.members k m c.at

  -- ---- what each member and each device was
  member_was : (j : ℕ) (x : MemberView) → IsMember b j x → (y : MemberView) × IsMember a j y × IsNear y x
  member_was j x is = by_same j k
      (λ same. let e : n ≡ x = same_Some n x (sym (at_set_same a.members k n within) ∙ sym (ap (slice_get b.members) same) ∙ is) in
      (m, ap (slice_get a.members) same ∙ c.at, subst (IsNear m) e c.near))
      (λ apart. (x, sym (got_other a.members k j n apart) ∙ is, near_itself x))

  record WasDisk (j : ℕ) (e : Disk) : Type 0 where
    disk : Disk
    is : slice_get old.disks j ≡ Some disk
    long : length e.content ≡ length disk.content
    honest : e.honest ≡ disk.honest

  disk_was : (j : ℕ) (e : Disk) → slice_get new.disks j ≡ Some e → WasDisk j e
  disk_was j e is = by_same j k
      (λ same.
      let at : slice_get new.disks k ≡ Some e = sym (ap (slice_get new.disks) same) ∙ is in
      let many = c.disks.as_many in
      let low = slice_get_within new.disks k e at in
      let d = got_within old.disks k (omega arith) in
      record { disk = d.0; is = ap (slice_get old.disks) same ∙ d.1; long = (c.disks.outside d.0 e d.1 at).size; honest = (c.disks.stays d.0 e d.1 at).honest })
      (λ apart. record { disk = e; is = sym (c.disks.others j apart) ∙ is; long = refl; honest = refl })

  -- ---- it stays consistent
  fits_changed : Fits old.disks a → Fits new.disks b
  fits_changed f = record {
    as_many = c.disks.as_many ∙ f.as_many ∙ sym (length-set a.members k n);
    each = λ j e x at_disk at_member.
        let y = member_was j x at_member in
        let d = disk_was j e at_disk in
        fits_places a b y.0 x d.disk e refl y.2.places d.long (f.each j d.disk y.0 d.is y.1);
  }

  number_was : (x y : MemberView) → IsNear y x → x.superblock.dev_number ≡ y.superblock.dev_number
  number_was x y near = near.places.number

  takes_was : (role : ℕ) (x y : MemberView) → IsNear y x → takes_role role x.state ≡ true → takes_role role y.state ≡ true
  takes_was role x y near takes = sym (ap (takes_role role) near.state) ∙ takes

  serving_changed : (j : ℕ) (x : MemberView) → IsInSync a j x → (i : ℕ) × (y : MemberView) × IsInSync b i y
  serving_changed j x is = by_same j k
      (λ same. let e : m ≡ x = same_Some m x (sym c.at ∙ sym (ap (slice_get a.members) same) ∙ is.member) in
      (k, n, record { member = at_set_same a.members k n within; in_sync = ap is_in_sync c.near.state ∙ ap (λ (y : MemberView). is_in_sync y.state) e ∙ is.in_sync }))
      (λ apart. (j, x, record { member = got_other a.members k j n apart ∙ is.member; in_sync = is.in_sync }))

  roles_changed : HasRoles a → HasRoles b
  roles_changed r = record {
    few = subst (λ (x : ℕ). x ≤ 64) (sym (length-set a.members k n)) r.few;
    numbers = λ i j x y at_i at_j same.
        let x' = member_was i x at_i in
        let y' = member_was j y at_j in
        r.numbers i j x'.0 y'.0 x'.1 y'.1 (sym (number_was x x'.0 x'.2) ∙ same ∙ number_was y y'.0 y'.2);
    shared = λ j role x at takes. let y = member_was j x at in ap (role_in a.shared) (number_was x y.0 y.2) ∙ r.shared j role y.0 y.1 (takes_was role x y.0 y.2 takes);
    below = λ j role x at takes. let y = member_was j x at in r.below j role y.0 y.1 (takes_was role x y.0 y.2 takes);
    one_each = λ i j role x y at_i at_j takes_x takes_y.
        let x' = member_was i x at_i in
        let y' = member_was j y at_j in
        r.one_each i j role x'.0 y'.0 x'.1 y'.1 (takes_was role x x'.0 x'.2 takes_x) (takes_was role y y'.0 y'.2 takes_y);
    serving = λ running. let s = r.serving running in serving_changed s.0 s.1 s.2;
  }

  chunks_changed : HasMarksOfSize a → HasMarksOfSize b
  chunks_changed h = record {
    size = h.size;
    count = h.count;
    wide = h.wide;
    none_past = h.none_past;
    member_size = λ j x at. let y = member_was j x at in y.2.places.size ∙ h.member_size j y.0 y.1;
    member_width = λ j x at. let y = member_was j x at in ap (λ (v : BitmapHeader). v.chunksize / 512) y.2.places.header ∙ h.member_width j y.0 y.1;
    member_count = λ j x at. let y = member_was j x at in y.2.places.chunks ∙ h.member_count j y.0 y.1;
  }

  -- member k's device has a superblock if it had one
  abbrev pub KeepsSuper : Type 0
  KeepsSuper = (d e : Disk) → slice_get old.disks k ≡ Some d → slice_get new.disks k ≡ Some e → is_in_sync m.state ≡ true → d.honest ≡ true → HasSuper m d → HasSuper n e

  supers_changed : KeepsSuper → HaveSupers old → HaveSupers (record { disks = new.disks; array = b })
  supers_changed keeps have j e x at_disk at_member in_sync honest =
      let d = disk_was j e at_disk in
      let was : d.disk.honest ≡ true = sym d.honest ∙ honest in
      by_same j k
      (λ same.
      let is : n ≡ x = same_Some n x (sym (at_set_same a.members k n within) ∙ sym (ap (slice_get b.members) same) ∙ at_member) in
      let stays : is_in_sync m.state ≡ true = ap is_in_sync (sym c.near.state) ∙ ap (λ (y : MemberView). is_in_sync y.state) is ∙ in_sync in
      let at : slice_get old.disks k ≡ Some d.disk = sym (ap (slice_get old.disks) same) ∙ d.is in
      subst (λ (y : MemberView). HasSuper y e) is
      (keeps d.disk e at (sym (ap (slice_get new.disks) same) ∙ at_disk) stays was (have k d.disk m at c.at stays was)))
      (λ apart. have j e x (sym (c.disks.others j apart) ∙ at_disk) (sym (got_other a.members k j n apart) ∙ at_member) in_sync honest)

  pub own_is_consistent : IsConsistent old → KeepsSuper → IsConsistent new
  own_is_consistent is keeps =
      subst (λ (x : ArrayView). IsConsistent (record { disks = new.disks; array = x })) (sym c.array)
      (record {
        fits = fits_changed is.fits;
        roles = roles_changed is.roles;
        chunks = chunks_changed is.chunks;
        inside = is.inside;
        supers = λ running. supers_changed keeps (is.supers running);
      })

  -- ---- requests in flight stay so
  lacks_changed : (p : PendingView) → count_by (lacks p) b.members ≡ count_by (lacks p) a.members
  lacks_changed p = counted_kept (lacks p) a.members k m n c.at
      (λ i. is_in_sync (c.near.state i) && not (list_any (eqb (c.near.places.number i)) p.written))

  pub own_is_pending : (p : PendingView) → IsPending a p → IsPending new.array p
  own_is_pending p is = subst (λ (x : ArrayView). IsPending x p) (sym c.array)
      (record { belongs = is.belongs; extent = is.extent; whole = is.whole; room = subst (λ (x : ℕ). length p.written + x ≤ 64) (sym (lacks_changed p)) is.room })

  pub own_in_flight : (requests : ℕ → Option Request) → AreInFlight a requests → AreInFlight new.array requests
  own_in_flight requests are = subst (λ (x : ArrayView). AreInFlight x requests) (sym c.array) are

  -- ---- the world
  kept_in : {A : Type 0} (none : A) (of : MemberView → A) → of n ≡ of m → (j : ℕ) → at_member b j none of ≡ at_member a j none of
  kept_in none of same j =
      ap (λ o. unwrap_or (option_map of o) none) (got_put a.members k n within j)
      ∙ put-at k (Some n) (slice_get a.members) j (λ o. unwrap_or (option_map of o) none ≡ at_member a j none of)
      (λ here. same ∙ sym (member_there a j m none of (ap (slice_get a.members) here ∙ c.at)))
      (λ _. refl)

  put_in : {A : Type 0} (none : A) (of : MemberView → A) (j : ℕ) → at_member b j none of ≡ put k (of n) (λ i. at_member a i none of) j
  put_in none of j = put-at k (of n) (λ i. at_member a i none of) j (λ x. at_member b j none of ≡ x)
      (λ here. ap (λ o. unwrap_or (option_map of o) none) (ap (slice_get b.members) here ∙ at_set_same a.members k n within))
      (λ apart. ap (λ o. unwrap_or (option_map of o) none) (got_other a.members k j n apart))

  same_parts : (x : Option MemberView) (d : Option Disk) → stored_on b x d ≡ stored_on a x d
  same_parts (Some x) (Some d) = refl
  same_parts (Some x) None = refl
  same_parts None (Some d) = refl
  same_parts None None = refl

  module _ (e : Disk) (there : slice_get new.disks k ≡ Some e) (requests : ℕ → Option Request) where
    abbrev before : World
    before = world_on old.disks a requests

    put_stored : (j : ℕ) → stored_on b (slice_get b.members j) (slice_get new.disks j) ≡ put k (stored_of a n e.content) before.stored j
    put_stored j = put-at k (stored_of a n e.content) before.stored j (λ x. stored_on b (slice_get b.members j) (slice_get new.disks j) ≡ x)
        (λ here. same_parts (slice_get b.members j) (slice_get new.disks j)
        ∙ ap (λ i. stored_on a (slice_get b.members i) (slice_get new.disks i)) here
        ∙ ap (λ o. stored_on a o (slice_get new.disks k)) (at_set_same a.members k n within) ∙ ap (stored_on a (Some n)) there)
        (λ apart. same_parts (slice_get b.members j) (slice_get new.disks j)
        ∙ ap (λ o. stored_on a o (slice_get new.disks j)) (got_other a.members k j n apart) ∙ ap (stored_on a (slice_get a.members j)) (c.disks.others j apart))

    -- no more than the member's own is changed
    abbrev pub with_own : World
    with_own =
        record before {
          stored = put k (stored_of a n e.content) before.stored;
          due = put k n.due before.due;
          known = put k (λ s. nat_lt s a.marks.chunks && is_set n.stored.bytes s) before.known;
          bad = put k (lists_of a n) before.bad;
          offset = put k n.offset before.offset;
          sure_offset = put k n.superblock.recovery_offset before.sure_offset;
          stored_offset = put k n.stored_offset before.stored_offset;
          recovering = put k (has_recovery_offset n.superblock) before.recovering;
        }

    put_known : (j s : ℕ) → at_member b j false (λ x. nat_lt s a.marks.chunks && is_set x.stored.bytes s) ≡ put k (λ t. nat_lt t a.marks.chunks && is_set n.stored.bytes t) before.known j s
    put_known j s = put-at k (λ t. nat_lt t a.marks.chunks && is_set n.stored.bytes t) before.known j
        (λ x. at_member b j false (λ y. nat_lt s a.marks.chunks && is_set y.stored.bytes s) ≡ x s)
        (λ here. ap (λ o. unwrap_or (option_map (λ (y : MemberView). nat_lt s a.marks.chunks && is_set y.stored.bytes s) o) false) (ap (slice_get b.members) here ∙ at_set_same a.members k n within))
        (λ apart. ap (λ o. unwrap_or (option_map (λ (y : MemberView). nat_lt s a.marks.chunks && is_set y.stored.bytes s) o) false) (got_other a.members k j n apart))

    put_bad : (j s : ℕ) → at_member b j false (λ x. lists_of a x s) ≡ put k (lists_of a n) before.bad j s
    put_bad j s = put-at k (lists_of a n) before.bad j
        (λ x. at_member b j false (λ y. lists_of a y s) ≡ x s)
        (λ here. ap (λ o. unwrap_or (option_map (λ (y : MemberView). lists_of a y s) o) false) (ap (slice_get b.members) here ∙ at_set_same a.members k n within))
        (λ apart. ap (λ o. unwrap_or (option_map (λ (y : MemberView). lists_of a y s) o) false) (got_other a.members k j n apart))

    changed_on : world_on new.disks b requests ≡ with_own
    changed_on = λ i. record {
      members = length-set a.members k n i;
      stored = λ j. put_stored j i;
      number = λ j. kept_in 0 (λ x. x.superblock.dev_number) c.near.places.number j i;
      state = λ j. kept_in model.State.Faulty (λ x. kind_of x.state) (ap kind_of c.near.state) j i;
      due = λ j. put_in false (λ x. x.due) j i;
      known = λ j s. put_known j s i;
      bad = λ j s. put_bad j s i;
      offset = λ j. put_in 0 (λ x. x.offset) j i;
      sure_offset = λ j. put_in 0 (λ x. x.superblock.recovery_offset) j i;
      stored_offset = λ j. put_in 0 (λ x. x.stored_offset) j i;
      recovering = λ j. put_in false (λ x. has_recovery_offset x.superblock) j i;
      role = before.role;
      entries = before.entries;
      present = λ d. any_kept (λ x. eqb x.superblock.dev_number d) a.members k m n c.at (ap (λ number. eqb number d) c.near.places.number) i;
      events = before.events;
      cleared_at = before.cleared_at;
      clean = before.clean;
      resynced = before.resynced;
      halted = before.halted;
      marks = before.marks;
      request = requests;
    }

    pub own_world : world_of new requests ≡ with_own
    own_world = ap (λ (x : ArrayView). world_on new.disks x requests) c.array ∙ changed_on

-- ---- the same own fields, and the same list
module _ (k : ℕ) (m n : MemberView) (w : Write) (old new : MirrorView) (c : ChangesMember k m n w old new) where
  pub as_own : ChangesOwn k m n w old new
  as_own = record { at = c.at; near = near_like m n c.like; disks = c.disks; array = c.array }

  pub changed_is_consistent : IsConsistent old → KeepsSuper k m n w old new as_own → IsConsistent new
  changed_is_consistent = own_is_consistent k m n w old new as_own

  pub changed_is_pending : (p : PendingView) → IsPending old.array p → IsPending new.array p
  changed_is_pending = own_is_pending k m n w old new as_own

  pub changed_in_flight : (requests : ℕ → Option Request) → AreInFlight old.array requests → AreInFlight new.array requests
  changed_in_flight = own_in_flight k m n w old new as_own

  module _ (e : Disk) (there : slice_get new.disks k ≡ Some e) (requests : ℕ → Option Request) where
    abbrev earlier : World
    earlier = world_on old.disks old.array requests

    -- no more than the member's own is changed
    abbrev pub with_member_at : World
    with_member_at =
        record earlier {
          stored = put k (stored_of old.array n e.content) earlier.stored;
          due = put k n.due earlier.due;
          known = put k (λ s. nat_lt s old.array.marks.chunks && is_set n.stored.bytes s) earlier.known;
          stored_offset = put k n.stored_offset earlier.stored_offset;
        }

    same_bad : put k (lists_of old.array n) earlier.bad ≡ earlier.bad
    same_bad =
        ap (λ (f : ℕ → Bool). put k f earlier.bad)
        (λ i s. (nat_lt s old.array.chunks.size && lies_in (c.like.bad i) ((c.like.superblock i).data_offset + s)))
        ∙ ap (λ (f : ℕ → Bool). put k f earlier.bad) (λ i s. sym (member_there old.array k m false (λ x. lists_of old.array x s) c.at) i)
        ∙ put-self k earlier.bad

    same_offset : put k n.offset earlier.offset ≡ earlier.offset
    same_offset = ap (λ x. put k x earlier.offset) (c.like.offset ∙ sym (member_there old.array k m 0 (λ x. x.offset) c.at)) ∙ put-self k earlier.offset

    same_sure : put k n.superblock.recovery_offset earlier.sure_offset ≡ earlier.sure_offset
    same_sure =
        ap (λ x. put k x earlier.sure_offset) (ap (λ (v : Superblock). v.recovery_offset) c.like.superblock ∙ sym (member_there old.array k m 0 (λ x. x.superblock.recovery_offset) c.at))
        ∙ put-self k earlier.sure_offset

    same_recovering : put k (has_recovery_offset n.superblock) earlier.recovering ≡ earlier.recovering
    same_recovering =
        ap (λ b. put k b earlier.recovering) (ap has_recovery_offset c.like.superblock ∙ sym (member_there old.array k m false (λ x. has_recovery_offset x.superblock) c.at))
        ∙ put-self k earlier.recovering

    pub changed_world : world_of new requests ≡ with_member_at
    changed_world =
        own_world k m n w old new as_own e there requests
        ∙ (λ i. record with_member_at { bad = same_bad i; offset = same_offset i; sure_offset = same_sure i; recovering = same_recovering i })
