-- A member is prepared, and comes into sync by the write of its superblock: those are the model's events.
use Rattle.std.proofs.Common.{◌≡◌, ◌≢◌, ℕ, ◌+◌, ◌*◌, ◌/◌, ◌<◌, inl, inr, Bool, true, false, true≢false, cond, ◌&&◌, nat_lt, List, [], ◌∷◌, length, map, set, slice_get, Option, Some, refl, sym, ap, ◌∙◌, subst, arith, eq-eqb, length-set}
use Rattle.std.proofs.lemmas.Bool.{cases_lt, and_parts}
use Rattle.std.proofs.lemmas.Option.{slice_get_within}
use Rattle.md_kept_members.specs.OnDevices.Superblocks.{IsReadable, write_of}
use Rattle.md_kept_members.specs.OnDevices.Storing.{sector_from_super}
use Rattle.md_state.specs.Missing.{is_missing}
use Rattle.md_state.specs.Steps.CopyData.{IsDone}
use Rattle.md_state.specs.DeviceChanges.{StaysHonest}
use Rattle.md_state.specs.Steps.Enrol.{enrolled}
use Rattle.md_state.specs.Members.{IsInSync, IsMember}
use Rattle.md_state.specs.Requests.{AreInFlight}
use Rattle.md_state.specs.View.{ArrayView, Disk, MirrorView, geometry_of, of_disks}
use Rattle.md_badblocks.specs.Runs.{IsBad}
use Rattle.md_assembly.proofs.Indices.{got_same, got_within}
use Rattle.md_assembly.specs.declared.state.MemberState.TheVariants.{Recovering}
use Rattle.md_assembly.specs.States.{is_in_sync, role_in, takes_role}
use Rattle.md_bitmap.specs.declared.header.BitmapHeader.{BitmapHeader}
use Rattle.md_bitmap.specs.Marks.{Bitmap, is_set}
use Rattle.md_device.specs.Device.{written}
use Rattle.md_device.specs.Splice.{SameOutside, part}
use Rattle.md_format.specs.Fields.{number_at}
use Rattle.md_kept_members.specs.Members.{made_due}
use Rattle.md_kept_members.specs.View.{MemberView}
use Rattle.md_model.specs.Content.{Content}
use Rattle.md_model.specs.Devices.{AgreeAt, Stored}
use Rattle.md_model.specs.Events.{Event, Step}
use Rattle.md_model.specs.Rebuilding as model
use Rattle.md_model.specs.States as states
use Rattle.md_model.specs.Worlds as worlds
use Rattle.md_model.specs.Worlds.{Request, World}
use Rattle.md_model.proofs.Cases.{below-nat_lt, is_below, not_below-nat_lt}
use Rattle.md_model.proofs.Puts.{by_same, put-miss}
use Rattle.md_model.proofs.Steps.Between.{between_step, in_flight_step}
use Rattle.md_model.specs.Sectors.{put}
use Rattle.md_super.specs.declared.superblock.Superblock.{Superblock}
use Rattle.md_super.specs.Merge.{merged}
use Rattle.md_super.proofs.Order.{sound_without_fault}
use Rattle.md_super.proofs.RoleLists.{length-roles_in}
use Rattle.md_array.specs.Consistency.{IsConsistent}
use Rattle.md_array.specs.Steps.Enrol.{Enrols, MayEnrolSectors}
use Rattle.md_array.specs.Steps.EnrolEvents.{IsHeldBy, enrol_event, prepared}
use Rattle.md_array.specs.Events.{Does}
use Rattle.md_array.specs.InTurn.{Leads, Requests}
use Rattle.md_array.specs.ReadAsKept.{AreReadAsKept, IsReadAsKept}
use Rattle.md_array.specs.Worlds.{AreHonest, header_on, is_listed, kind_of, stored_of, world_of, world_on, lists_of}
use Rattle.md_array.proofs.General.Indices.{at_map, at_set_same, got_in_map, got_other}
use Rattle.md_array.proofs.General.Replaced.{of_set}
use Rattle.md_array.proofs.General.Tests.{and_same}
use Rattle.md_array.proofs.Rebuilding.EnrolledWorld as enrolled_world
use Rattle.md_array.proofs.Rebuilding.FilledEvent.{may_rebuild, same_missing}
use Rattle.md_array.proofs.Rebuilding.HeldContent.{another, chunk_low, had_content, it_holds, one_has_it, was_missing}
use Rattle.md_array.proofs.Rebuilding.InBetween.{may_rebuild_it, prepared_is, prepares, superblock, then_at, then_disk, then_holds}
use Rattle.md_array.proofs.Rebuilding.PreparedEvent.{prepare_happens}
use Rattle.md_array.proofs.StepLemmas.OneMember.{member_there, stored_there}
use Rattle.md_array.proofs.StepLemmas.ReAddEvent.{takes_own}
use Rattle.md_array.proofs.Worlds.Bad.{bad_from_test}
use Rattle.md_array.proofs.Worlds.InSync.{in_sync_is, in_sync_there}
use Rattle.md_array.proofs.Worlds.Member.{header_fits_there}
use Rattle.md_array.proofs.Worlds.PartsApart.{header_beside_super}
use Rattle.md_state.proofs.Stays.{stays_written}
use Rattle.md_array.proofs.Worlds.ReadAsKept.{IsSameArray, kept_in, own_written}
use Rattle.md_array.proofs.Worlds.Risen.{past_is_high}
use Rattle.md_array.proofs.Worlds.Shown.{at_is, at_past, by_member}
use Rattle.md_array.proofs.Worlds.States.{same_active}

module _ (k : ℕ) (copied lost : ℕ → Bool) (old new : MirrorView) (c : IsConsistent old) (sound : IsConsistent new) (r : Enrols k copied lost old new) where
  abbrev array : ArrayView
  array = old.array

  abbrev it : MemberView
  it = r.comes.member

  abbrev n : MemberView
  n = r.member

  state_is : it.state ≡ Recovering r.role
  state_is = subst (λ (x : MemberView). x.state ≡ Recovering r.role) (got_same array.members k r.may.member it r.may.at r.comes.at) r.may.recovering

  pub out : is_in_sync it.state ≡ false
  out = ap is_in_sync state_is

  its_number : n.superblock.dev_number ≡ it.superblock.dev_number
  its_number = ap (λ (v : Superblock). v.dev_number) (superblock k copied lost old new c r)

  pub there : IsMember new.array k n
  there =
      ap (λ (x : ArrayView). slice_get x.members k) r.array
      ∙ at_set_same (map made_due array.members) k n (slice_get_within (map made_due array.members) k (made_due it) (got_in_map made_due array.members k it r.comes.at))

  takes : takes_role r.role n.state ≡ true
  takes = ap (takes_role r.role) r.comes.comes.state ∙ eq-eqb r.role r.role refl

  low_role : r.role < array.shared.raid_disks
  low_role = subst (λ (x : ArrayView). r.role < x.shared.raid_disks) r.array (sound.roles.below k r.role n there takes)

  pub small : n.superblock.dev_number < 1920
  small =
      let given : role_in new.array.shared n.superblock.dev_number ≡ r.role = sound.roles.shared k r.role n there takes in
      let most = (sound_without_fault _ r.readable.sound).few_roles in
      let count : length new.array.shared.roles ≡ _ = ap (λ (xs : List ℕ). length xs) r.readable.fields.roles ∙ length-roles_in _ _ in
      elim (cases_lt n.superblock.dev_number (length new.array.shared.roles)) [
        | inl low ↦ omega arith
        | inr past ↦
            let high = past_is_high new.array n.superblock.dev_number past in
            let low = sound.roles.below k r.role n there takes in
            absurd (true≢false (sym (below-nat_lt r.role new.array.shared.raid_disks low) ∙ sym (ap (λ x. nat_lt x new.array.shared.raid_disks) given) ∙ high))
      ]

  module _ (may : MayEnrolSectors k copied lost old) (honest : AreHonest old.disks) (d : Disk) (was : slice_get old.disks k ≡ Some d) (e : Disk) (is : slice_get new.disks k ≡ Some e) where
    abbrev then : Disk
    then = then_disk k copied lost old new c r d was

    abbrev now : List Disk
    now = set old.disks k then

    abbrev mid : MirrorView
    mid = record old { disks = now }

    abbrev listed : ℕ → Bool
    listed = lists_of array n

    then_there : slice_get now k ≡ Some then
    then_there = then_at k copied lost old new c r d was

    module _ (requests : ℕ → Option Request) (in_flight : AreInFlight array requests) where
      abbrev w : World
      w = world_on now array requests

      number_k : w.number k ≡ it.superblock.dev_number
      number_k = member_there array k it 0 (λ x. x.superblock.dev_number) r.comes.at

      stored_k : w.stored k ≡ stored_of array it then.content
      stored_k = stored_there now array k it then r.comes.at then_there

      -- ---- its role
      own_role : w.role (w.number k) ≡ r.role
      own_role = ap (role_in array.shared) number_k ∙ c.roles.shared k r.role it r.comes.at (ap (takes_role r.role) state_is ∙ eq-eqb r.role r.role refl)

      recovers : states.is_recovering (w.state k) ≡ true
      recovers = ap states.is_recovering (member_there array k it states.State.Faulty (λ x. kind_of x.state) r.comes.at ∙ ap kind_of state_is)

      role_free : (j : ℕ) → j ≢ k → states.is_active (w.state j) ≡ true → w.role (w.number j) ≢ r.role
      role_free j apart active same = by_member array j
          (λ y at_y.
          let own = takes_own y.state (sym (same_active y.state) ∙ sym (ap states.is_active (at_is array j states.State.Faulty (λ x. kind_of x.state) y at_y)) ∙ active) in
          let has = c.roles.shared j own.0 y at_y own.1 in
          let here : own.0 ≡ r.role = sym has ∙ sym (ap (role_in array.shared) (at_is array j 0 (λ x. x.superblock.dev_number) y at_y)) ∙ same in
          let after : IsMember new.array j (made_due y) =
          ap (λ (x : ArrayView). slice_get x.members j) r.array ∙ got_other (map made_due array.members) k j n apart ∙ got_in_map made_due array.members j y at_y in
          apart (sound.roles.one_each j k r.role (made_due y) n after there (subst (λ x. takes_role x y.state ≡ true) here own.1) takes))
          (λ past. true≢false (sym active ∙ ap states.is_active (at_past array j states.State.Faulty (λ x. kind_of x.state) past)))

      number_apart : (j : ℕ) → worlds.IsInSync w j → w.number j ≢ w.number k
      number_apart j on same =
          let y = in_sync_is now array requests j on in
          another k copied lost old new c r may honest d was j y.0 y.1
          (c.roles.numbers j k y.0 it y.1.member r.comes.at (sym (member_there array j y.0 0 (λ x. x.superblock.dev_number) y.1.member) ∙ same ∙ number_k))

      -- ---- its bitmap
      its_bits : (x : ℕ) → (w.stored k).bits x ≡ w.marks x
      its_bits x =
          let holds = then_holds k copied lost old new c r d was in
          ap (λ (s : Stored). s.bits x) stored_k
          ∙ and_same (nat_lt x array.marks.chunks) _ (is_set array.marks.bytes x)
          (λ low.
          let inside = is_below x array.marks.chunks low in
          holds.bits x (subst (λ (y : ℕ). x < y) (sym r.comes.comes.stored.chunks) inside) ∙ r.comes.comes.stored.bits x inside)

      its_events : (w.stored k).bitmap_events ≡ w.events + 1
      its_events =
          let holds = then_holds k copied lost old new c r d was in
          ap (λ (s : Stored). s.bitmap_events) stored_k ∙ sym holds.header.events ∙ r.are.header_is.events ∙ ap (λ (x : ArrayView). x.shared.events) r.array

      its_fit : (w.stored k).bitmap_fits ≡ true
      its_fit =
          let holds = then_holds k copied lost old new c r d was in
          let h = r.are.header_is in
          ap (λ (s : Stored). s.bitmap_fits) stored_k
          ∙ header_fits_there array r.are.header (header_on then.content (sector_from_super it.superblock.bitmap_offset)) holds.header
          (h.uuid ∙ ap (λ (x : ArrayView). x.shared.set_uuid) r.array) (h.sync_size ∙ ap (λ (x : ArrayView). x.shared.size) r.array) h.state

      -- ---- its data
      module _ (content : Content) (held : IsHeldBy k listed content mid) where
        -- another member, and its device
        record IsOther (j : ℕ) (y : MemberView) : Type 0 where
          disk : Disk
          at_now : slice_get now j ≡ Some disk
          at_old : slice_get old.disks j ≡ Some disk
          stored : w.stored j ≡ stored_of array y disk.content

        other : (j : ℕ) (y : MemberView) → IsInSync array j y → IsOther j y
        other j y on =
            let low = slice_get_within array.members j y on.member in
            let many = c.fits.as_many in
            let z = got_within old.disks j (omega arith) in
            let at = got_other old.disks k j then (another k copied lost old new c r may honest d was j y on) ∙ z.1 in
            record {
              disk = z.0;
              at_now = at;
              at_old = z.1;
              stored = stored_there now array j y z.0 on.member at;
            }

        agrees : (j s : ℕ) → worlds.IsInSync w j → AgreeAt (w.stored j) (record (w.stored k) { listed = listed }) s
        agrees j s on off unlisted =
            let y = in_sync_is now array requests j on in
            let o = other j y.0 y.1 in
            elim (cases_lt s array.chunks.size) [
              | inl low ↦
                  let test = below-nat_lt s array.chunks.size low in
                  let clear : is_listed y.0.superblock o.disk.content (y.0.superblock.data_offset + s) ≡ false =
                  ap (λ b. b && is_listed y.0.superblock o.disk.content (y.0.superblock.data_offset + s)) (sym test) ∙ sym (ap (λ (x : Stored). x.listed s) o.stored) ∙ off in
                  ap (λ (x : Stored). x.content s) o.stored
                  ∙ ap (λ b. cond b (part o.disk.content (512 * (y.0.superblock.data_offset + s)) 512) []) test
                  ∙ held.in_sync.held j o.disk y.0 o.at_now y.1 s low clear
                  ∙ sym (it_holds k copied lost old new c r may honest d was content held s low unlisted)
                  ∙ sym (ap (λ b. cond b (part then.content (512 * (it.superblock.data_offset + s)) 512) []) test)
                  ∙ sym (ap (λ (x : Stored). x.content s) stored_k)
              | inr past ↦
                  let test = not_below-nat_lt s array.chunks.size past in
                  ap (λ (x : Stored). x.content s) o.stored
                  ∙ ap (λ b. cond b (part o.disk.content (512 * (y.0.superblock.data_offset + s)) 512) []) test
                  ∙ sym (ap (λ b. cond b (part then.content (512 * (it.superblock.data_offset + s)) 512) []) test)
                  ∙ sym (ap (λ (x : Stored). x.content s) stored_k)
            ]

        -- some member in sync does not list a sector that is not listed any more
        abbrev HasIt : ℕ → Type 0
        HasIt s = (j : ℕ) × worlds.IsInSync w j × ((w.stored j).listed s ≡ false)

        not_listed : (s : ℕ) → s < array.chunks.size → is_missing array it (s / array.chunks.sectors) ≡ true → listed s ≡ false → HasIt s
        not_listed s low here unlisted =
            let x = one_has_it k copied lost old new c r may honest d was content (had_content k copied lost old new c r may honest d was content held.in_sync) s low here unlisted in
            let o = other x.index x.member x.in_sync in
            let same : x.disk ≡ o.disk = got_same old.disks x.index x.disk o.disk x.at_disk o.at_old in (
              x.index,
              in_sync_there now array requests x.index x.member x.in_sync,
              ap (λ (y : Stored). y.listed s) o.stored
                  ∙ ap (λ b. b && is_listed x.member.superblock o.disk.content (x.member.superblock.data_offset + s)) (below-nat_lt s array.chunks.size low)
                  ∙ ap (λ (z : Disk). is_listed x.member.superblock z.content (x.member.superblock.data_offset + s)) (sym same) ∙ x.unlisted,
            )

        was_copied : (s : ℕ) → s < array.chunks.size → model.is_missing (geometry_of array) w k (s / array.chunks.sectors) ≡ true → listed s ≡ false → HasIt s
        was_copied s low missing unlisted =
            not_listed s low (sym (same_missing k mid requests (may_rebuild_it k copied lost old new c r may) (s / array.chunks.sectors) (chunk_low k copied lost old new c r may honest d was s low)) ∙ missing) unlisted

        was_listed : (s : ℕ) → s < array.chunks.size → w.bad k s ≡ true → listed s ≡ false → HasIt s
        was_listed s low bad unlisted =
            let had : lists_of array it s ≡ true = sym (member_there array k it false (λ x. lists_of array x s) r.comes.at) ∙ bad in
            let is : IsBad it.bad (it.superblock.data_offset + s) = bad_from_test it.bad (it.superblock.data_offset + s) (and_parts (nat_lt s array.chunks.size) _ had).1 in
            not_listed s low (was_missing k copied lost old new c r may honest d was s low is unlisted) unlisted

        may_enrol : model.MayEnrol (geometry_of array) w k r.role listed
        may_enrol = record {
          rebuild = may_rebuild k mid requests (may_rebuild_it k copied lost old new c r may) in_flight;
          recovering = recovers;
          resynced = may.resynced;
          below = low_role;
          own = own_role;
          free = role_free;
          small = subst (λ x. x < 1920) (its_number ∙ sym number_k) small;
          apart = number_apart;
          bits = its_bits;
          bitmap_events = its_events;
          bitmap_fits = its_fit;
          agrees = agrees;
          copied = was_copied;
          unlisted = was_listed;
        }

        step : Step (geometry_of array) w (Event.Enrol k r.role listed) (world_of new requests)
        step = (
          r.may.running,
          (
            enrolled_world.full k copied lost old new c sound r out small d was e is (honest k d was),
            may_enrol,
            enrolled_world.full_after k copied lost old new c sound r out small d was e is (honest k d was) requests,
            enrolled_world.world_enrolled k copied lost old new c sound r out small d was e is (honest k d was) requests,
          ),
        )

    -- ---- what an opening would read
    readable : IsReadable (merged (enrolled array k n r.role).shared n.superblock)
    readable = subst (λ (x : ArrayView). IsReadable (merged x.shared n.superblock)) r.array r.readable

    read_k : (failed_at : ℕ) (is_spoiled : Bool) → IsReadAsKept (enrolled array k n r.role) n failed_at is_spoiled e.content
    read_k failed_at is_spoiled =
        let holds = then_holds k copied lost old new c r d was in
        let block = enrolled_world.block_is k copied lost old new c sound r out small d was e is (honest k d was) in
        let kept = header_beside_super (enrolled array k n r.role) n then.content e.content (enrolled_world.parts_then k copied lost old new c sound r out small d was e is (honest k d was))
        (enrolled_world.outside k copied lost old new c sound r out small d was e is (honest k d was)) in
        record {
          super = λ _. own_written (enrolled array k n r.role) n e.content readable (block ∙ ap (λ (x : ArrayView). (write_of x.shared n).bytes) r.array);
          header = λ _. inl (ap (λ (h : List ℕ). number_at 4 52 h / 512) kept
              ∙ ap (λ (v : Superblock). number_at 4 52 (header_on then.content (sector_from_super v.bitmap_offset)) / 512) (superblock k copied lost old new c r)
              ∙ ap (λ (x : ℕ). x / 512) (sym holds.header.chunksize ∙ r.are.header_is.chunksize ∙ ap (λ (h : BitmapHeader). h.chunksize) r.comes.comes.header)
              ∙ c.chunks.member_width k it r.comes.at);
        }

    enrolled_read : (failed_at : ℕ) (spoiled : ℕ → Bool) → AreReadAsKept mid failed_at spoiled → AreReadAsKept new failed_at (put k false spoiled)
    enrolled_read failed_at spoiled are =
        let then_spoiled = put k false spoiled in
        let b = enrolled array k n r.role in
        let same_fields : IsSameArray array b = record { set_uuid = refl; size = refl; raid_disks = refl; sectors = refl; events = omega arith } in
        subst (λ (x : ArrayView). AreReadAsKept (record { disks = new.disks; array = x }) failed_at then_spoiled) (sym r.array)
        (λ j x y found member. of_set (map made_due array.members) k j n y member
        (λ here y_is.
        let same : e ≡ x = got_same new.disks k e x is (sym (ap (slice_get new.disks) here) ∙ found) in
        subst (λ (z : MemberView). IsReadAsKept b z failed_at (then_spoiled j) x.content) (sym y_is)
        (subst (λ (z : Disk). IsReadAsKept b n failed_at (then_spoiled j) z.content) same (read_k failed_at (then_spoiled j))))
        (λ apart is_there.
        let z = at_map made_due array.members j y is_there in
        kept_in array b z.0 y failed_at (then_spoiled j) x.content same_fields
        (record { superblock = ap (λ (v : MemberView). v.superblock) z.2; state = ap (λ (v : MemberView). v.state) z.2 })
        (subst (λ (s : Bool). IsReadAsKept array z.0 failed_at s x.content) (sym (put-miss k false spoiled j apart))
        (are j x z.0 (got_other old.disks k j then apart ∙ sym (r.disks.others j apart) ∙ found) z.1))))

    -- ---- the write
    done : IsDone k (write_of new.array.shared n) now new.disks
    done =
        let world = enrolled_world.outside k copied lost old new c sound r out small d was e is (honest k d was) in
        let does = (r.disks.change d e was is).0 in
        let is_then : (x : Disk) → slice_get now k ≡ Some x → then ≡ x = λ x at. got_same now k then x then_there at in
        let is_new : (x : Disk) → slice_get new.disks k ≡ Some x → e ≡ x = λ x at. got_same new.disks k e x is at in
        record {
          tried = record {
            as_many = r.disks.as_many ∙ sym (length-set old.disks k then);
            others = λ j apart. r.disks.others j apart ∙ sym (got_other old.disks k j then apart);
            stays = λ x y before after. subst (λ (z : Disk). StaysHonest z y) (is_then x before) (subst (λ (z : Disk). StaysHonest then z) (is_new y after) (let s = stays_written of_disks d e does.kept in record { honest = s.honest; counted = s.counted; grown = s.grown }));
            outside = λ x y before after. subst (λ (z : Disk). SameOutside (512 * 8) (length (write_of new.array.shared n).bytes) z.content y.content) (is_then x before)
                (subst (λ (z : Disk). SameOutside (512 * 8) (length (write_of new.array.shared n).bytes) then.content z.content) (is_new y after)
                (subst (λ (l : ℕ). SameOutside (512 * 8) l then.content e.content) (sym r.readable.size) world));
          };
          done = λ x y before after _. sym (ap (λ (z : Disk). z.content) (is_new y after)) ∙ enrolled_world.written_then k copied lost old new c sound r out small d was e is (honest k d was)
              ∙ ap (λ (z : Disk). written z.content 8 (write_of new.array.shared n).bytes) (is_then x before);
        }

    honest_new : AreHonest new.disks
    honest_new j x found = by_same j k
        (λ here.
        let same : e ≡ x = got_same new.disks k e x is (sym (ap (slice_get new.disks) here) ∙ found) in
        ap (λ (z : Disk). z.honest) (sym same) ∙ (r.disks.change d e was is).0.kept.honest_kept ∙ honest k d was)
        (λ apart. honest j x (sym (r.disks.others j apart) ∙ found))

    pub does_enrol : (requests : ℕ → Option Request) → AreInFlight array requests → (content : Content) → IsHeldBy k listed content mid
        → Does mid requests (Event.Enrol k r.role listed) new requests
    does_enrol requests in_flight content held =
        let s = step requests in_flight content held in
        let ev : Event = Event.Enrol k r.role listed in
        record {
          honest = honest_new;
          writes = (write_of new.array.shared n, done);
          in_flight = subst (λ (x : ArrayView). AreInFlight x requests) (sym r.array) in_flight;
          geometry = ap geometry_of r.array;
          step = s;
          content = λ x y holds becomes. between_step (geometry_of array) (world_of mid requests) ev (world_of new requests) x y s becomes holds;
          written = in_flight_step (geometry_of array) (world_of mid requests) ev (world_of new requests) s;
          sound = sound;
          lists = tt;
          read = enrolled_read;
        }

-- ---- the two events
module _ (k : ℕ) (copied lost : ℕ → Bool) (old new : MirrorView) (c : IsConsistent old) (sound : IsConsistent new) (may : MayEnrolSectors k copied lost old)
    (r : Enrols k copied lost old new) where
  honest_before : (d : Disk) → slice_get old.disks k ≡ Some d → AreHonest (prepared r).disks → AreHonest old.disks
  honest_before d was all j x found =
      let now = set old.disks k (then_disk k copied lost old new c r d was) in
      let here : AreHonest now = subst (λ (v : MirrorView). AreHonest v.disks) (prepared_is k copied lost old new c r d was) all in
      by_same j k
      (λ same.
      let one : d ≡ x = got_same old.disks k d x was (sym (ap (slice_get old.disks) same) ∙ found) in
      ap (λ (z : Disk). z.honest) (sym one) ∙ here k (then_disk k copied lost old new c r d was) (then_at k copied lost old new c r d was))
      (λ apart. here j x (got_other old.disks k j (then_disk k copied lost old new c r d was) apart ∙ found))

  comes_in : (requests : ℕ → Option Request) → AreInFlight old.array requests → AreHonest (prepared r).disks → (held : (content : Content) × IsHeldBy k (lists_of old.array r.member) content (prepared r))
      → Does (prepared r) requests (enrol_event r) new requests
  comes_in requests in_flight all held =
      let low = slice_get_within old.array.members k r.comes.member r.comes.at in
      let many = c.fits.as_many in
      let more = r.disks.as_many in
      let d = got_within old.disks k (omega arith) in
      let e = got_within new.disks k (omega arith) in
      let same = prepared_is k copied lost old new c r d.0 d.1 in
      subst (λ (v : MirrorView). Does v requests (enrol_event r) new requests) (sym same)
      (does_enrol k copied lost old new c sound r may (honest_before d.0 d.1 all) d.0 d.1 e.0 e.1 requests in_flight held.0
      (subst (IsHeldBy k (lists_of old.array r.member) held.0) same held.1))

  pub enrol_leads : (previous : Option Event) (requests : Requests) → AreInFlight old.array requests → Leads previous old requests (Event.Prepare k ∷ enrol_event r ∷ []) new requests
  enrol_leads previous requests in_flight =
      let first = prepares k copied lost old new c r may in (
        prepared r,
        requests,
        tt,
        (refl, first),
        λ honest _. prepare_happens k old (prepared r) c first honest requests in_flight,
        (
          new,
          requests,
          tt,
          (refl, record { index = k; copied = copied; lost = lost; old = old; enrols = r; prepared = refl; event = refl }),
          λ honest held. comes_in requests in_flight honest held,
          (refl, refl),
        ),
      )
