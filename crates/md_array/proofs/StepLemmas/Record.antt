-- A member's superblock that is stored is the model's event, and the mirror stays consistent.
use Rattle.std.proofs.Common.{◌≡◌, ℕ, ◌+◌, ◌*◌, ◌/◌, inl, inr, Bool, true, false, true≢false, ◌&&◌, nat_lt, List, slice_get, Option, Some, refl, sym, ap, ◌∙◌, subst, arith}
use Rattle.std.proofs.lemmas.Option.{slice_get_within}
use Rattle.md_kept_members.specs.OnDevices.Superblocks.{IsReadable}
use Rattle.md_array.proofs.StepLemmas.ListGrown.{grows_by}
use Rattle.md_array.specs.Consistency.{HasPlaces, HasSuper, IsConsistent}
use Rattle.md_array.specs.ReadAsKept.{IsReadAsKept}
use Rattle.md_array.specs.Steps.Record.{Records, super_write}
use Rattle.md_array.specs.Events.{Happens}
use Rattle.md_array.specs.Worlds.{block_on, is_listed, is_listed_next, kind_of, stored_of, super_in, super_of, world_of, world_on}
use Rattle.md_array.proofs.General.Honesty.{tried_honest}
use Rattle.md_array.proofs.General.Indices.{at_set_same}
use Rattle.md_array.proofs.Worlds.Listed.{listed_as_next, next_kept, IsLogKept, still_known}
use Rattle.md_array.proofs.StepLemmas.ListStays.{lists_still}
use Rattle.md_array.proofs.StepLemmas.OneMember.{ChangesMember, changed_in_flight, changed_is_consistent, changed_is_pending, changed_world, member_there, stored_there}
use Rattle.md_array.proofs.Worlds.PartsApart.{header_beside_super, log_beside_super, parts_of, super_alone}
use Rattle.md_array.proofs.Worlds.ReadAsKept.{changed_read, own_written}
use Rattle.md_array.proofs.Worlds.InSync.{in_sync_of}
use Rattle.md_array.proofs.Worlds.States.{same_recorded}
use Rattle.md_array.proofs.Worlds.Supers.{super_shown}
use Rattle.md_device.specs.Splice.{SameOutside}
use Rattle.md_device.proofs.Splices.{part-spliced}
use Rattle.md_format.specs.Fields.{number_at}
use Rattle.md_super.specs.declared.superblock.Superblock.{Superblock}
use Rattle.md_super.specs.Faults.{NoSuperFault}
use Rattle.md_super.specs.Format.{IsSuper}
use Rattle.md_super.specs.Merge.{merged}
use Rattle.md_bitmap.specs.Marks.{is_set}
use Rattle.md_assembly.specs.States.{has_recovery_offset, is_in_sync}
use Rattle.md_assembly.proofs.Indices.{got_within}
use Rattle.md_model.specs.Sectors.{put}
use Rattle.md_model.specs.States as model
use Rattle.md_model.specs.Worlds.{Request, World}
use Rattle.md_model.specs.Steps.{KeepsList, recorded, recorded_device, super_for}
use Rattle.md_model.specs.Events.{Event, Step}
use Rattle.md_model.proofs.Steps.Between.{between_step, in_flight_step}
use Rattle.md_model.proofs.Puts.{put-miss, put-self}
use Rattle.md_inflight.specs.Requests.Pending.{PendingView}
use Rattle.md_kept_members.specs.Members.{recorded_member}
use Rattle.md_kept_members.specs.View.{MemberView}
use Rattle.md_state.specs.View.{ArrayView, Disk, MirrorView, geometry_of}
use Rattle.md_state.specs.Members.{IsMember}
use Rattle.md_state.specs.Requests.{IsPending}

-- ---- a superblock that is read back
abbrev as_read : (v : Superblock) → IsReadable v → Superblock
as_read v r = record v { sb_csum = r.sum }

-- what the bytes of a member's superblock say
pub readable_super : (a : ArrayView) (m : MemberView) (r : IsReadable (merged a.shared m.superblock)) → super_in (super_write a m).bytes ≡ Some (super_of (merged a.shared m.superblock))
readable_super a m r = super_shown (super_write a m).bytes (as_read (merged a.shared m.superblock) r) r.fields r.sound

-- once it stands on the device, what is listed there is what was to be listed next
pub listed_written : (a : ArrayView) (m : MemberView) (content : List ℕ) → IsReadable (merged a.shared m.superblock) → block_on content ≡ (super_write a m).bytes
    → (sector : ℕ) → is_listed m.superblock content sector ≡ is_listed_next m.superblock content sector
listed_written a m content r block =
    let v = as_read (merged a.shared m.superblock) r in
    listed_as_next m.superblock v content (subst (λ (b : List ℕ). IsSuper b v) (sym block) r.fields) (subst NoSuperFault (sym block) r.sound) refl

-- the world's list of a member whose log lists the same
pub lists_alike : (a : ArrayView) (m : MemberView) (old new : List ℕ) → ((sector : ℕ) → is_listed m.superblock new sector ≡ is_listed m.superblock old sector)
    → (stored_of a m new).listed ≡ (stored_of a m old).listed
lists_alike a m old new same = λ i s. nat_lt s a.chunks.size && same (m.superblock.data_offset + s) i

-- it is what the model stores, whatever stands on the device
pub super_is_for : (disks : List Disk) (a : ArrayView) (requests : ℕ → Option Request) (k : ℕ) (m : MemberView) → slice_get a.members k ≡ Some m
    → super_of (merged a.shared m.superblock) ≡ super_for (world_on disks a requests) k
super_is_for disks a requests k m at =
    let number = member_there a k m 0 (λ x. x.superblock.dev_number) at in
    let bit = member_there a k m false (λ x. has_recovery_offset x.superblock) at in
    λ i. record {
      number = sym number i;
      events = a.shared.events;
      role = (super_of (merged a.shared m.superblock)).role;
      recovering = sym bit i;
      offset = sym (member_there a k m 0 (λ x. x.superblock.recovery_offset) at) i;
    }

module _ (k : ℕ) (old new : MirrorView) (is : IsConsistent old) (r : Records k old new) where
  abbrev m : MemberView
  m = r.member

  abbrev n : MemberView
  n = recorded_member r.member

  abbrev a : ArrayView
  a = old.array

  abbrev block : List ℕ
  block = (super_write a m).bytes

  changes : ChangesMember k m n (super_write a m) old new
  changes = record {
    at = r.may.at;
    like = record { superblock = refl; bad = refl; offset = refl; header = refl; chunks = refl; state = refl };
    disks = r.disks.tried;
    array = r.array;
  }

  on_disk : (d e : Disk) → slice_get old.disks k ≡ Some d → slice_get new.disks k ≡ Some e → d.honest ≡ true → block_on e.content ≡ block
  on_disk d e before after honest =
      let long = (is.fits.each k d m before r.may.at).long in
      ap block_on (r.disks.done d e before after honest) ∙ part-spliced d.content (512 * 8) block 4096 (sym r.may.readable.size) (omega arith)

  super_outside : (d e : Disk) → slice_get old.disks k ≡ Some d → slice_get new.disks k ≡ Some e → SameOutside (512 * 8) 4096 d.content e.content
  super_outside d e before after = subst (λ (x : ℕ). SameOutside (512 * 8) x d.content e.content) r.may.readable.size (r.disks.tried.outside d e before after)

  log_kept : (d e : Disk) → slice_get old.disks k ≡ Some d → slice_get new.disks k ≡ Some e → IsLogKept m.superblock d.content e.content
  log_kept d e before after = log_beside_super a m d.content e.content (parts_of old is k d m before r.may.at) (super_outside d e before after)

  at_new : IsMember new.array k n
  at_new = ap (λ (x : ArrayView). slice_get x.members k) r.array ∙ at_set_same a.members k n (slice_get_within a.members k m r.may.at)

  -- the log lists what was to be listed next
  lists_next : (d e : Disk) → slice_get old.disks k ≡ Some d → slice_get new.disks k ≡ Some e → d.honest ≡ true
      → (sector : ℕ) → is_listed m.superblock e.content sector ≡ is_listed_next m.superblock d.content sector
  lists_next d e before after honest sector =
      listed_written a m e.content r.may.readable (on_disk d e before after honest) sector ∙ next_kept m.superblock d.content e.content (log_kept d e before after) sector

  has_super : (d e : Disk) → slice_get old.disks k ≡ Some d → slice_get new.disks k ≡ Some e → is_in_sync m.state ≡ true → d.honest ≡ true → HasSuper m d → HasSuper n e
  has_super d e before after _ honest had =
      let on = on_disk d e before after honest in
      let spelled = r.may.readable.fields in
      record {
        super = super_of (merged a.shared m.superblock);
        is = ap super_in on ∙ readable_super a m r.may.readable;
        number = refl;
        recovering = refl;
        places = subst (HasPlaces n) (sym on) (record {
          data_offset = sym spelled.data_offset;
          bitmap_offset = sym spelled.bitmap_offset;
          bblog_size = sym spelled.bblog_size;
          bblog_offset = sym spelled.bblog_offset;
        });
        listed = λ sector listed. sym (listed_written a m e.content r.may.readable on sector) ∙ listed;
        known = still_known m.superblock d.content e.content (log_kept d e before after) had.known;
      }

  pub recorded_is_consistent : IsConsistent new
  recorded_is_consistent = changed_is_consistent k m n (super_write a m) old new changes is has_super

  pub recorded_is_pending : (p : PendingView) → IsPending old.array p → IsPending new.array p
  recorded_is_pending = changed_is_pending k m n (super_write a m) old new changes

  read_recorded : (failed_at : ℕ) (was_spoiled is_spoiled : Bool) → (d e : Disk) → slice_get old.disks k ≡ Some d → slice_get new.disks k ≡ Some e → d.honest ≡ true
      → IsReadAsKept a m failed_at was_spoiled d.content → IsReadAsKept a m failed_at is_spoiled e.content
  read_recorded failed_at was_spoiled is_spoiled d e before after honest was =
      let outside = super_outside d e before after in
      record {
        super = λ _. own_written a m e.content r.may.readable (on_disk d e before after honest);
        header = λ un. elim (was.header un) [
          | inl width ↦ inl (ap (λ (h : List ℕ). number_at 4 52 h / 512) (header_beside_super a m d.content e.content (parts_of old is k d m before r.may.at) outside) ∙ width)
          | inr gone ↦ absurd (true≢false (sym r.may.active ∙ gone.0))
        ];
      }

  -- ---- the event
  module _ (d e : Disk) (before : slice_get old.disks k ≡ Some d) (after : slice_get new.disks k ≡ Some e) (honest : d.honest ≡ true) (requests : ℕ → Option Request) where
    abbrev w : World
    w = world_of old requests

    abbrev listed : ℕ → Bool
    listed = (stored_of a n e.content).listed

    -- a member in sync lists what it listed, and no more than its list in memory has
    keeps_list : KeepsList w k listed
    keeps_list on =
        let in_sync = in_sync_of old.disks a requests k m r.may.at on in
        let has = is.supers r.may.running k d m before r.may.at in_sync honest in
        grows_by old.disks a requests k m d r.may.at before (is_listed m.superblock e.content)
        (λ sector was. lists_next d e before after honest sector ∙ has.listed sector was)
        (λ sector now. has.known sector (sym (lists_next d e before after honest sector) ∙ now))

    stored_recorded : stored_of a n e.content ≡ recorded_device w k listed
    stored_recorded =
        let super : super_in (block_on e.content) ≡ Some (super_for w k) =
        ap super_in (on_disk d e before after honest) ∙ readable_super a m r.may.readable ∙ ap Some (super_is_for old.disks a requests k m r.may.at) in
        super_alone a m d.content e.content (parts_of old is k d m before r.may.at) (super_outside d e before after)
        ∙ (λ i. record (sym (stored_there old.disks a k m d r.may.at before) i) { super = super i; listed = listed })

    world_recorded : world_of new requests ≡ recorded w k listed
    world_recorded =
        let known : put k (λ s. nat_lt s a.marks.chunks && is_set m.stored.bytes s) w.known ≡ w.known =
        ap (λ (f : ℕ → Bool). put k f w.known) (λ i s. sym (member_there a k m false (λ x. nat_lt s a.marks.chunks && is_set x.stored.bytes s) r.may.at) i) ∙ put-self k w.known in
        let told : put k m.superblock.recovery_offset w.stored_offset ≡ put k (w.sure_offset k) w.stored_offset =
        ap (λ o. put k o w.stored_offset) (sym (member_there a k m 0 (λ x. x.superblock.recovery_offset) r.may.at)) in
        changed_world k m n (super_write a m) old new changes e after requests
        ∙ (λ i. record w { stored = put k (stored_recorded i) w.stored; due = put k false w.due; known = known i; stored_offset = told i })

    step : Step (geometry_of a) w (Event.Record k) (world_of new requests)
    step =
        let active = ap model.is_recorded (member_there a k m model.State.Faulty (λ x. kind_of x.state) r.may.at) ∙ same_recorded m.state ∙ r.may.active in
        (r.may.running, (listed, keeps_list, active, world_recorded))

  pub record_happens : Happens old (Event.Record k) new
  record_happens honest requests in_flight =
      let low = slice_get_within a.members k m r.may.at in
      let as_many = is.fits.as_many in
      let many = r.disks.tried.as_many in
      let d = got_within old.disks k (omega arith) in
      let e = got_within new.disks k (omega arith) in
      let happens = step d.0 e.0 d.1 e.1 (honest k d.0 d.1) requests in
      record {
        honest = tried_honest k (super_write a m) old.disks new.disks r.disks.tried honest;
        writes = (super_write a m, r.disks);
        in_flight = changed_in_flight k m n (super_write a m) old new changes requests in_flight;
        geometry = ap geometry_of r.array;
        step = happens;
        content = λ x y holds becomes. between_step (geometry_of a) (world_of old requests) (Event.Record k) (world_of new requests) x y happens becomes holds;
        written = in_flight_step (geometry_of a) (world_of old requests) (Event.Record k) (world_of new requests) happens;
        sound = recorded_is_consistent;
        lists = lists_still k old new is m n r.may.at at_new d.0 e.0 d.1 e.1 requests
            (ap (λ (x : ArrayView). x.chunks.size) r.array) refl refl (λ sector _ next. lists_next d.0 e.0 d.1 e.1 (honest k d.0 d.1) sector ∙ next);
        read = λ failed_at spoiled. changed_read k m n (super_write a m) old new failed_at spoiled (put k false spoiled) changes (put-miss k false spoiled)
            (λ d' e' before after. read_recorded failed_at (spoiled k) (put k false spoiled k) d' e' before after (honest k d' before));
      }
