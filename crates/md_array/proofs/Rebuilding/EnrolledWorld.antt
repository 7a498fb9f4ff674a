-- A member comes into sync by the write of its superblock: its device and the array's world then.
use Rattle.std.proofs.Common.{◌≡◌, ℕ, ◌+◌, ◌*◌, ◌/◌, ◌<◌, ◌≤◌, ◌↔◌, Bool, true, false, cond, not, ◌&&◌, ◌||◌, ◌==◌, eqb, leb, nat_lt, List, [], ◌∷◌, ◌++◌, length, length-set, set, slice_get, Option, Some, None, option_map, unwrap_or, refl, sym, ap, ◌∙◌, subst, arith}
use Rattle.std.specs.Int.Bits.{and_zero_r}
use Rattle.std.specs.List.{list_any, range_with_len}
use Rattle.std.proofs.lemmas.List.FromFn.{length-map-range_with_len}
use Rattle.std.proofs.lemmas.Nat.{and_assoc}
use Rattle.std.proofs.lemmas.Option.{slice_get_within}
use Rattle.md_kept_members.specs.OnDevices.Storing.{log_writes}
use Rattle.md_kept_members.specs.OnDevices.Superblocks.{write_of}
use Rattle.md_array.proofs.Rebuilding.MemberEnrolled.{lists_now}
use Rattle.md_array.specs.Consistency.{IsConsistent}
use Rattle.md_array.specs.Steps.Enrol.{Enrols}
use Rattle.md_array.specs.Worlds.{block_on, is_listed, kind_of, lies_in, stored_of, stored_on, super_in, super_of, world_of, world_on, lists_of}
use Rattle.md_array.proofs.General.Indices.{any_kept, at_set_same, got_in_map, got_other}
use Rattle.md_array.proofs.General.Replaced.{read_changed, read_kept}
use Rattle.md_array.proofs.General.Tests.{and_same}
use Rattle.md_array.proofs.Openings.OwnFields as own_fields
use Rattle.md_array.proofs.Rebuilding.InBetween.{in_two, superblock, then_at, then_disk, then_long}
use Rattle.md_array.proofs.Rebuilding.MemberStored.{whole}
use Rattle.md_array.proofs.StepLemmas.OneMember.{member_there}
use Rattle.md_array.proofs.StepLemmas.Record.{readable_super}
use Rattle.md_array.proofs.Worlds.Bad.{bad_from_test, same_test, test_from_bad}
use Rattle.md_array.proofs.Worlds.Joined.{count_roles, grew, role_joined}
use Rattle.md_array.proofs.Worlds.PartsApart.{HasParts, parts_of, super_alone}
use Rattle.md_array.proofs.Worlds.Risen.{full_as_told, same_filled, world_risen}
use Rattle.md_assembly.specs.States.{has_recovery_offset, is_in_sync, role_in}
use Rattle.md_bitmap.specs.Marks.{Bitmap, is_set}
use Rattle.md_device.specs.Device.{written}
use Rattle.md_device.specs.Splice.{SameOutside}
use Rattle.md_device.proofs.Splices.{part-spliced, spliced_outside}
use Rattle.md_kept_members.specs.Enrolling.{in_sync_superblock}
use Rattle.md_kept_members.specs.Members.{made_due}
use Rattle.md_kept_members.specs.View.{MemberView}
use Rattle.md_members.specs.Areas.{BitmapIsPlaced, AreAreasPlaced, bitmap_sectors}
use Rattle.md_members.specs.Members.{sectors_of_device}
use Rattle.md_model.specs.Counts as counts
use Rattle.md_model.specs.Membership.{joined_super}
use Rattle.md_model.specs.Rebuilding as model
use Rattle.md_model.specs.Sectors.{Geometry, put}
use Rattle.md_model.specs.States as states
use Rattle.md_model.specs.Worlds.{Request, World}
use Rattle.md_model.proofs.Cases.{is_below}
use Rattle.md_model.proofs.Puts.{put-at}
use Rattle.md_kept_members.specs.Membership.Numbers.{is_absent}
use Rattle.md_state.proofs.Members.Filled.{filled_with}
use Rattle.md_state.specs.Steps.Enrol.{enrolled, is_full_with}
use Rattle.md_state.specs.Members.{IsMember, is_degraded, is_filled}
use Rattle.md_state.specs.Steps.Rise.{risen}
use Rattle.md_state.specs.View.{ArrayView, Disk, MirrorView, of_disks, geometry_of}
use Rattle.md_super.specs.declared.superblock.Superblock.{Superblock}
use Rattle.md_super.specs.Merge.{merged}
use Rattle.md_members.specs.DeviceWrites.Bitmaps.{bitmap_writes}
use Rattle.md_members.specs.DeviceWrites.Writes.{DoesWrites, Write, after}
use Rattle.md_members.proofs.DeviceWriteLemmas.Runs.{after-append}

module _ (k : ℕ) (copied lost : ℕ → Bool) (old new : MirrorView) (c : IsConsistent old) (sound : IsConsistent new) (r : Enrols k copied lost old new)
    (out : is_in_sync r.comes.member.state ≡ false) (small : r.member.superblock.dev_number < 1920)
    (d : Disk) (was : slice_get old.disks k ≡ Some d) (e : Disk) (is : slice_get new.disks k ≡ Some e) (honest : d.honest ≡ true) where
  abbrev array : ArrayView
  array = old.array

  abbrev it : MemberView
  it = r.comes.member

  abbrev n : MemberView
  n = r.member

  abbrev role : ℕ
  role = r.role

  abbrev b : ArrayView
  b = enrolled array k n role

  abbrev pub full : Bool
  full = is_full_with array k n

  abbrev up : ArrayView
  up = risen array full

  abbrev then : Disk
  then = then_disk k copied lost old new c r d was

  abbrev now : List Disk
  now = set old.disks k then

  abbrev bytes : List ℕ
  bytes = (write_of new.array.shared n).bytes

  same_super : n.superblock ≡ in_sync_superblock r.comes.list it.superblock
  same_super = superblock k copied lost old new c r

  up_at : IsMember up k (made_due it)
  up_at = got_in_map made_due array.members k it r.comes.at

  b_at : IsMember b k n
  b_at = at_set_same up.members k n (slice_get_within up.members k (made_due it) up_at)

  pub new_at : IsMember new.array k n
  new_at = ap (λ (x : ArrayView). slice_get x.members k) r.array ∙ b_at

  -- ---- its device
  does : DoesWrites of_disks r.writes d e
  does = (r.disks.change d e was is).0

  pub written_then : e.content ≡ written then.content 8 bytes
  written_then =
      let first : List Write = bitmap_writes r.are.start r.are.header n.stored (bitmap_sectors n.stored.chunks) in
      let log : List Write = log_writes n.superblock n.bad in
      does.all_done honest
      ∙ ap (after d.content) r.are.are
      ∙ after-append d.content first (log ++ write_of new.array.shared n ∷ [])
      ∙ after-append (after d.content first) log (write_of new.array.shared n ∷ [])
      ∙ sym (ap (λ (xs : List ℕ). written xs 8 bytes) (in_two k copied lost old new c r d was))

  room : 512 * 8 + 4096 ≤ length then.content
  room =
      let long = (c.fits.each k d it was r.comes.at).long in
      let same = then_long k copied lost old new c r d was in
      omega arith

  pub outside : SameOutside (512 * 8) 4096 then.content e.content
  outside = subst (SameOutside (512 * 8) 4096 then.content) (sym written_then)
      (spliced_outside then.content (512 * 8) bytes 4096 (sym r.readable.size) (let size = r.readable.size in let fits = room in omega arith))

  pub block_is : block_on e.content ≡ bytes
  block_is = ap block_on written_then ∙ part-spliced then.content (512 * 8) bytes 4096 (sym r.readable.size) (let fits = room in omega arith)

  pub parts_then : HasParts b n then.content
  parts_then =
      let p : HasParts b n e.content = subst (λ (x : ArrayView). HasParts x n e.content) r.array (parts_of new sound k e n is new_at) in
      let sectors : sectors_of_device e.content ≡ sectors_of_device then.content = ap (λ (x : ℕ). x / 512) outside.size in
      record {
        placed = subst (λ (x : ℕ). AreAreasPlaced x n.superblock (bitmap_sectors n.stored.chunks)) sectors p.placed;
        bitmap = subst (λ (x : ℕ). BitmapIsPlaced x n.superblock (bitmap_sectors n.stored.chunks)) sectors p.bitmap;
        size = p.size;
        count = p.count;
      }

  -- what it lists is its list
  listed_is : (sector : ℕ) → is_listed n.superblock e.content sector ≡ lies_in n.bad sector
  listed_is sector = same_test (is_listed n.superblock e.content sector) (lies_in n.bad sector) (lists_now k copied lost old new c r d e was is honest sector) (bad_from_test n.bad sector, test_from_bad n.bad sector)

  same_number : n.superblock.dev_number ≡ it.superblock.dev_number
  same_number = ap (λ (v : Superblock). v.dev_number) same_super

  bit : has_recovery_offset n.superblock ≡ false
  bit =
      ap has_recovery_offset same_super
      ∙ own_fields.recovery_same r.comes.list (whole it.superblock r.comes.list)
      ∙ ap (λ (x : ℕ). not (x == 0)) (and_assoc 2 it.superblock.feature_map 0xffff_fffd ∙ and_zero_r it.superblock.feature_map)

  none_left : n.superblock.recovery_offset ≡ 0
  none_left = ap (λ (v : Superblock). v.recovery_offset) same_super

  -- ---- its world
  module _ (requests : ℕ → Option Request) where
    abbrev w : World
    w = world_on now array requests

    abbrev u : World
    u = world_on now up requests

    abbrev listed : ℕ → Bool
    listed = lists_of array n

    u_number : u.number k ≡ it.superblock.dev_number
    u_number = member_there up k (made_due it) 0 (λ x. x.superblock.dev_number) up_at

    number_is : n.superblock.dev_number ≡ u.number k
    number_is = same_number ∙ sym u_number

    role_is : (x : ℕ) → role_in b.shared x ≡ put (u.number k) role u.role x
    role_is x = role_joined array n role small x ∙ ap (λ number. put number role u.role x) number_is

    super_is : super_of (merged new.array.shared n.superblock) ≡ joined_super u (u.number k) role false 0
    super_is =
        ap (λ (x : ArrayView). super_of (merged x.shared n.superblock)) r.array
        ∙ (λ i. record { number = number_is i; events = array.shared.events + 1; role = λ x. role_is x i; recovering = bit i; offset = none_left i })

    stored_up : u.stored k ≡ stored_of array it then.content
    stored_up =
        ap (λ o. stored_on up o (slice_get now k)) up_at
        ∙ ap (stored_on up (Some (made_due it))) (then_at k copied lost old new c r d was)

    device_is : stored_of b n e.content ≡ model.enrolled_device u k role listed
    device_is =
        let super : super_in (block_on e.content) ≡ Some (joined_super u (u.number k) role false 0) =
        ap super_in block_is ∙ readable_super new.array n r.readable ∙ ap Some super_is in
        let lists : (s : ℕ) → (nat_lt s array.chunks.size && is_listed n.superblock e.content (n.superblock.data_offset + s)) ≡ listed s =
        λ s. ap (λ t. nat_lt s array.chunks.size && t) (listed_is (n.superblock.data_offset + s)) in
        let same : stored_of b n then.content ≡ stored_of b (record n { superblock = in_sync_superblock r.comes.list it.superblock }) then.content =
        ap (λ (v : Superblock). stored_of b (record n { superblock = v }) then.content) same_super in
        super_alone b n then.content e.content parts_then outside
        ∙ (λ i. record (same i) { super = super i; listed = λ s. lists s i })
        ∙ (λ i. record (sym stored_up i) { super = Some (joined_super u (u.number k) role false 0); listed = listed })

    stored_b : (o : Option MemberView) (x : Option Disk) → stored_on b o x ≡ stored_on up o x
    stored_b None None = refl
    stored_b None (Some x) = refl
    stored_b (Some y) None = refl
    stored_b (Some y) (Some x) = refl

    stored_put : (j : ℕ) → stored_on b (slice_get b.members j) (slice_get new.disks j) ≡ put k (model.enrolled_device u k role listed) u.stored j
    stored_put j = put-at k (model.enrolled_device u k role listed) u.stored j (λ x. stored_on b (slice_get b.members j) (slice_get new.disks j) ≡ x)
        (λ here. ap (λ i. stored_on b (slice_get b.members i) (slice_get new.disks i)) here
        ∙ ap (λ o. stored_on b o (slice_get new.disks k)) b_at ∙ ap (stored_on b (Some n)) is ∙ device_is)
        (λ apart. ap (λ o. stored_on b o (slice_get new.disks j)) (got_other up.members k j n apart)
        ∙ ap (stored_on b (slice_get up.members j)) (r.disks.others j apart ∙ sym (got_other old.disks k j then apart))
        ∙ stored_b (slice_get up.members j) (slice_get now j))

    known_put : (j x : ℕ) → unwrap_or (option_map (λ (y : MemberView). nat_lt x array.marks.chunks && is_set y.stored.bytes x) (slice_get b.members j)) false ≡ put k u.marks u.known j x
    known_put j x = put-at k u.marks u.known j
        (λ h. unwrap_or (option_map (λ (y : MemberView). nat_lt x array.marks.chunks && is_set y.stored.bytes x) (slice_get b.members j)) false ≡ h x)
        (λ here. ap (λ o. unwrap_or (option_map (λ (y : MemberView). nat_lt x array.marks.chunks && is_set y.stored.bytes x) o) false) (ap (slice_get b.members) here ∙ b_at)
        ∙ and_same (nat_lt x array.marks.chunks) (is_set n.stored.bytes x) (is_set array.marks.bytes x) (λ low. r.comes.comes.stored.bits x (is_below x array.marks.chunks low)))
        (λ apart. ap (λ o. unwrap_or (option_map (λ (y : MemberView). nat_lt x array.marks.chunks && is_set y.stored.bytes x) o) false) (got_other up.members k j n apart))

    bad_put : (j x : ℕ) → unwrap_or (option_map (λ (y : MemberView). lists_of array y x) (slice_get b.members j)) false ≡ put k listed u.bad j x
    bad_put j x = put-at k listed u.bad j
        (λ h. unwrap_or (option_map (λ (y : MemberView). lists_of array y x) (slice_get b.members j)) false ≡ h x)
        (λ here. ap (λ o. unwrap_or (option_map (λ (y : MemberView). lists_of array y x) o) false) (ap (slice_get b.members) here ∙ b_at))
        (λ apart. ap (λ o. unwrap_or (option_map (λ (y : MemberView). lists_of array y x) o) false) (got_other up.members k j n apart))

    world_b : world_on new.disks b requests ≡ model.come_into_sync u k role listed
    world_b = λ i. record {
      members = length-set up.members k n i;
      stored = λ j. stored_put j i;
      number = λ j. read_kept (λ o. unwrap_or (option_map (λ (x : MemberView). x.superblock.dev_number) o) 0) up.members k (made_due it) n up_at same_number j i;
      state = λ j. (read_changed (λ o. unwrap_or (option_map (λ (x : MemberView). kind_of x.state) o) states.State.Faulty) up.members k (made_due it) n up_at j
          ∙ ap (λ s. put k s u.state j) (ap kind_of r.comes.comes.state)) i;
      due = λ j. (read_changed (λ o. unwrap_or (option_map (λ (x : MemberView). x.due) o) false) up.members k (made_due it) n up_at j
          ∙ ap (λ t. put k t u.due j) r.comes.comes.due) i;
      known = λ j x. known_put j x i;
      bad = λ j x. bad_put j x i;
      offset = λ j. (read_changed (λ o. unwrap_or (option_map (λ (x : MemberView). x.offset) o) 0) up.members k (made_due it) n up_at j
          ∙ ap (λ t. put k t u.offset j) r.comes.comes.offset) i;
      sure_offset = λ j. (read_changed (λ o. unwrap_or (option_map (λ (x : MemberView). x.superblock.recovery_offset) o) 0) up.members k (made_due it) n up_at j
          ∙ ap (λ t. put k t u.sure_offset j) none_left) i;
      stored_offset = λ j. (read_changed (λ o. unwrap_or (option_map (λ (x : MemberView). x.stored_offset) o) 0) up.members k (made_due it) n up_at j
          ∙ ap (λ t. put k t u.stored_offset j) r.comes.comes.stored_offset) i;
      recovering = λ j. (read_changed (λ o. unwrap_or (option_map (λ (x : MemberView). has_recovery_offset x.superblock) o) false) up.members k (made_due it) n up_at j
          ∙ ap (λ t. put k t u.recovering j) bit) i;
      role = λ x. role_is x i;
      entries = entries_is i;
      present = λ x. any_kept (λ (y : MemberView). eqb y.superblock.dev_number x) up.members k (made_due it) n up_at (ap (λ number. eqb number x) same_number) i;
      events = u.events;
      cleared_at = u.cleared_at;
      clean = u.clean;
      resynced = u.resynced;
      halted = u.halted;
      marks = u.marks;
      request = requests;
    }
      where
        roles_many : length up.shared.roles ≡ length array.shared.roles
        roles_many = length-map-range_with_len (λ x. cond (is_absent array.shared array.members x) 0xfffe (role_in array.shared x)) 0 (length array.shared.roles)

        entries_is : length b.shared.roles ≡ cond (nat_lt (u.number k) u.entries || leb 1920 (u.number k)) u.entries (u.number k + 1)
        entries_is =
            count_roles array n role small
            ∙ grew array n role small (length array.shared.roles)
            ∙ ap (λ j. cond (nat_lt n.superblock.dev_number j || leb 1920 n.superblock.dev_number) j (n.superblock.dev_number + 1)) (sym roles_many)
            ∙ ap (λ number. cond (nat_lt number u.entries || leb 1920 number) u.entries (number + 1)) number_is

    pub world_enrolled : world_of new requests ≡ model.enrolled (geometry_of array) w k role listed full
    world_enrolled =
        ap (λ (x : ArrayView). world_on new.disks x requests) r.array
        ∙ world_b
        ∙ ap (λ (x : World). model.come_into_sync x k role listed) (world_risen array full now requests)

  -- ---- whether the array is full
  degraded_b : is_degraded b ≡ is_degraded (record array { members = set array.members k n })
  degraded_b = ap (λ (f : ℕ → Bool). list_any (λ wanted. not (f wanted)) (range_with_len 0 array.shared.raid_disks)) (λ i wanted. filled wanted i)
    where
      filled : (wanted : ℕ) → is_filled b wanted ≡ is_filled (record array { members = set array.members k n }) wanted
      filled wanted =
          filled_with up k (made_due it) n role wanted up_at out r.comes.comes.state
          ∙ ap (λ t. role == wanted || t) (same_filled array full wanted)
          ∙ sym (filled_with array k it n role wanted r.comes.at out r.comes.comes.state)

  pub full_after : (requests : ℕ → Option Request) → (full ≡ true) ↔ counts.IsFull (geometry_of array) (world_of new requests)
  full_after requests =
      subst (λ (g : Geometry). (full ≡ true) ↔ counts.IsFull g (world_of new requests)) (ap geometry_of r.array)
      (subst (λ t. (not t ≡ true) ↔ counts.IsFull (geometry_of new.array) (world_of new requests)) (ap is_degraded r.array ∙ degraded_b)
      (full_as_told new.disks new.array requests sound.roles))
