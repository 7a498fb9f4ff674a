-- A spare is admitted by the write of its superblock: the mirror stays consistent, an opening reads what is kept, and that is the model's event.
use Rattle.std.proofs.Common.{◌≡◌, ◌≢◌, ℕ, ◌+◌, ◌*◌, ◌/◌, ◌<◌, Bool, true, false, not, true≢false, cond, ◌&&◌, ◌||◌, ◌==◌, eqb, nat_lt, length, count_by, slice_get, Option, Some, None, refl, sym, ap, ◌∙◌, subst, arith, eq-eqb, eqb-true, length-set}
use Rattle.std.specs.Prelude.{leb, option_map, unwrap_or}
use Rattle.std.specs.List.{list_any}
use Rattle.std.proofs.lemmas.List.FromFn.{length-map-range_with_len}
use Rattle.std.proofs.lemmas.Nat.{and_or_self}
use Rattle.std.proofs.lemmas.Option.{same_Some, slice_get_within}
use Rattle.md_assembly.proofs.Indices.{got_within}
use Rattle.md_assembly.specs.declared.state.MemberState.{MemberState}
use Rattle.md_assembly.specs.declared.state.MemberState.TheVariants.{InSync, Recovering, Stale, Spare, Faulty}
use Rattle.md_assembly.specs.States.{has_recovery_offset, is_active, is_in_sync, is_recorded, is_spare, role_in, takes_role}
use Rattle.md_bitmap.specs.Marks.{is_set}
use Rattle.md_device.specs.Splice.{SameOutside}
use Rattle.md_device.proofs.Splices.{part-spliced}
use Rattle.md_kept_members.specs.Members.{made_due}
use Rattle.md_kept_members.specs.TakingBack.{admitted_member}
use Rattle.md_kept_members.specs.View.{MemberView}
use Rattle.md_members.specs.Areas.{BitmapIsPlaced, AreAreasPlaced, bitmap_sectors}
use Rattle.md_members.specs.Members.{sectors_of_device}
use Rattle.md_model.specs.Counts as counts
use Rattle.md_model.specs.Devices.{Stored}
use Rattle.md_model.specs.Events.{Event, Step}
use Rattle.md_model.specs.Membership as membership
use Rattle.md_model.specs.Membership.{joined_super}
use Rattle.md_model.specs.Rebuilding as model
use Rattle.md_model.specs.Sectors.{put}
use Rattle.md_model.specs.States as states
use Rattle.md_model.specs.Worlds.{Request, World}
use Rattle.md_model.proofs.Puts.{put-at, put-miss, put-self}
use Rattle.md_model.proofs.Steps.Between.{between_step, in_flight_step}
use Rattle.md_inflight.specs.Requests.Pending.{PendingView}
use Rattle.md_kept_members.specs.Membership.Numbers.{is_absent}
use Rattle.md_kept_members.specs.OnDevices.Superblocks.{IsReadable}
use Rattle.md_kept_members.specs.OnDevices.Storing.{sector_from_super}
use Rattle.md_state.specs.Steps.Admit.{admitted}
use Rattle.md_state.specs.Members.{IsInSync, IsMember}
use Rattle.md_state.specs.Missing.{is_rebuilt}
use Rattle.md_state.specs.Requests.{AreInFlight, IsPending, lacks}
use Rattle.md_state.specs.Steps.Rise.{risen}
use Rattle.md_state.specs.View.{ArrayView, Disk, MirrorView, geometry_of}
use Rattle.md_super.specs.Merge.{merged}
use Rattle.md_array.specs.Steps.Admit.{Admits}
use Rattle.md_array.specs.Consistency.{IsConsistent}
use Rattle.md_array.specs.Events.{Happens, listed_on}
use Rattle.md_array.specs.ReadAsKept.{AreReadAsKept, IsReadAsKept}
use Rattle.md_array.specs.Steps.Record.{super_write}
use Rattle.md_array.specs.Worlds.{AreHonest, block_on, is_listed, is_listed_next, is_logged, kind_of, lists_of, stored_of, stored_on, super_in, super_of, world_of, world_on}
use Rattle.md_array.proofs.General.Honesty.{tried_honest}
use Rattle.md_array.proofs.General.Indices.{any_at, any_kept, at_map, at_set_same, count_map, counted_kept, got_in_map, got_other}
use Rattle.md_array.proofs.General.Replaced.{of_set, read_changed, read_kept}
use Rattle.md_array.proofs.Openings.ListTold.{recovering_log_bit}
use Rattle.md_array.proofs.Rebuilding.RoleTaken as taken
use Rattle.md_array.proofs.Rebuilding.RoleTaken.{TakesRole}
use Rattle.md_array.proofs.StepLemmas.ReAdd.{recovering_bitmap, recovering_placed}
use Rattle.md_array.proofs.StepLemmas.OneMember.{HasPlacesOf, member_there, stored_there}
use Rattle.md_array.proofs.StepLemmas.ListStays.{lists_still}
use Rattle.md_array.proofs.StepLemmas.Record.{listed_written, readable_super}
use Rattle.md_array.proofs.StepLemmas.ReAddEvent.{takes_own}
use Rattle.md_array.proofs.Worlds.InSync.{in_sync_is}
use Rattle.md_array.proofs.Worlds.Joined.{count_roles, grew, role_joined}
use Rattle.md_array.proofs.Worlds.Listed.{next_kept}
use Rattle.md_array.proofs.Worlds.PartsApart.{HasParts, log_beside_super, parts_of, super_alone}
use Rattle.md_array.proofs.Worlds.ReadAsKept.{IsSameArray, kept_in, own_written}
use Rattle.md_array.proofs.Worlds.Risen.{risen_is_consistent, world_risen}
use Rattle.md_array.proofs.Worlds.Shown.{at_is, at_past, by_member}
use Rattle.md_array.proofs.Worlds.States.{same_active}

spare_out : (s : MemberState) → is_spare s ≡ true → is_in_sync s ≡ false
spare_out (InSync role) e = absurd cc
spare_out (Recovering role) e = refl
spare_out (Stale role) e = refl
spare_out Spare e = refl
spare_out Faulty e = refl

pub spare_recorded : (s : MemberState) → is_spare s ≡ true → is_recorded s ≡ true
spare_recorded (InSync role) e = refl
spare_recorded (Recovering role) e = refl
spare_recorded (Stale role) e = absurd cc
spare_recorded Spare e = refl
spare_recorded Faulty e = absurd cc

spare_rebuilt : (s : MemberState) → is_spare s ≡ true → is_rebuilt s ≡ true
spare_rebuilt (InSync role) e = absurd cc
spare_rebuilt (Recovering role) e = refl
spare_rebuilt (Stale role) e = absurd cc
spare_rebuilt Spare e = refl
spare_rebuilt Faulty e = absurd cc

spare_there : (s : MemberState) → is_spare s ≡ true → membership.is_spare (kind_of s) ≡ true
spare_there (InSync role) e = absurd cc
spare_there (Recovering role) e = absurd cc
spare_there (Stale role) e = absurd cc
spare_there Spare e = refl
spare_there Faulty e = absurd cc

in_sync_active : (s : MemberState) → is_in_sync s ≡ true → is_active s ≡ true
in_sync_active (InSync role) e = refl
in_sync_active (Recovering role) e = absurd cc
in_sync_active (Stale role) e = absurd cc
in_sync_active Spare e = absurd cc
in_sync_active Faulty e = absurd cc

module _ (k : ℕ) (old new : MirrorView) (c : IsConsistent old) (r : Admits k old new) (spare : is_spare r.may.member.state ≡ true) where
  abbrev a : ArrayView
  a = old.array

  abbrev m : MemberView
  m = r.may.member

  abbrev role : ℕ
  role = r.role

  abbrev n : MemberView
  n = admitted_member role m

  abbrev b : ArrayView
  b = admitted a k m role

  abbrev up : ArrayView
  up = risen a false

  takes : TakesRole a k m role
  takes = record {
    below = r.may.gets.least.below;
    small = r.may.gets.small;
    alone = λ j x there too. absurd (true≢false (sym (any_at (λ (y : MemberView). takes_role role y.state) a.members j x there too) ∙ r.may.gets.least.free));
    out = spare_out m.state spare;
  }

  places : HasPlacesOf m n
  places = record {
    number = refl;
    size = refl;
    has = recovering_bitmap 0 m.superblock;
    placed = recovering_placed 0 m.superblock;
    header = refl;
    chunks = refl;
    told = λ tells rebuilt sector bad. recovering_log_bit 0 m.superblock ∙ tells (spare_rebuilt m.state spare) sector bad;
  }

  own : (wanted : ℕ) → takes_role wanted n.state ≡ true → role ≡ wanted
  own wanted is = eqb-true role wanted is

  up_at : IsMember up k (made_due m)
  up_at = got_in_map made_due a.members k m r.may.at

  b_at : IsMember b k n
  b_at = at_set_same up.members k n (slice_get_within up.members k (made_due m) up_at)

  pub admitted_at : IsMember new.array k n
  admitted_at = ap (λ (x : ArrayView). slice_get x.members k) r.array ∙ b_at

  -- a member in sync stays, which is another
  serves : (j : ℕ) × (y : MemberView) × IsInSync b j y
  serves =
      let s = c.roles.serving r.may.running in
      let apart : s.0 ≢ k = λ here. true≢false (sym s.2.in_sync ∙ ap (λ (x : MemberView). is_in_sync x.state) (same_Some s.1 m (sym s.2.member ∙ ap (slice_get a.members) here ∙ r.may.at)) ∙ spare_out m.state spare) in
      (s.0, made_due s.1, record { member = got_other up.members k s.0 n apart ∙ got_in_map made_due a.members s.0 s.1 s.2.member; in_sync = s.2.in_sync })

  pub admitted_is_consistent : IsConsistent new
  admitted_is_consistent =
      let u = risen_is_consistent old false c in
      subst (λ (x : ArrayView). IsConsistent (record { disks = new.disks; array = x })) (sym r.array) (record {
        fits = taken.fits_taken old.disks new.disks a c k role m n r.may.at takes places own a.events_cleared r.disks.tried.as_many r.disks.tried.others
            (λ d e was is. (r.disks.tried.outside d e was is).size);
        roles = taken.roles_taken old.disks new.disks a c k role m n r.may.at takes places own a.events_cleared serves;
        chunks = taken.chunks_taken old.disks new.disks a c k role m n r.may.at takes places own a.events_cleared;
        inside = c.inside;
        supers = λ running j e x found member in_sync honest. of_set up.members k j n x member
            (λ here x_is. let now = ap (λ (y : MemberView). is_in_sync y.state) x_is in absurd (true≢false (sym in_sync ∙ now)))
            (λ apart here. u.supers running j e x (sym (r.disks.tried.others j apart) ∙ found) here in_sync honest);
      })

  pub admitted_is_pending : (p : PendingView) → IsPending old.array p → IsPending new.array p
  admitted_is_pending p is =
      let out : lacks p (made_due m) ≡ false = ap (λ t. t && not (list_any (eqb m.superblock.dev_number) p.written)) (spare_out m.state spare) in
      let kept : count_by (lacks p) b.members ≡ count_by (lacks p) up.members = counted_kept (lacks p) up.members k (made_due m) n up_at (sym out) in
      let same = count_map (lacks p) made_due a.members in
      let room = is.room in
      subst (λ (x : ArrayView). IsPending x p) (sym r.array) (record { belongs = is.belongs; extent = is.extent; whole = is.whole; room = omega arith })

  -- ---- what stands on its device
  readable : IsReadable (merged b.shared n.superblock)
  readable = subst (λ (x : ArrayView). IsReadable (merged x.shared n.superblock)) r.array r.readable

  module _ (d e : Disk) (was : slice_get old.disks k ≡ Some d) (is : slice_get new.disks k ≡ Some e) where
    outside : SameOutside (512 * 8) 4096 d.content e.content
    outside = subst (λ (l : ℕ). SameOutside (512 * 8) l d.content e.content) r.readable.size (r.disks.tried.outside d e was is)

    parts : HasParts a m d.content
    parts = parts_of old c k d m was r.may.at

    block_is : d.honest ≡ true → block_on e.content ≡ (super_write b n).bytes
    block_is honest =
        let long = (c.fits.each k d m was r.may.at).long in
        ap block_on (r.disks.done d e was is honest)
        ∙ part-spliced d.content (512 * 8) (super_write new.array n).bytes 4096 (sym r.readable.size) (omega arith)
        ∙ ap (λ (x : ArrayView). (super_write x n).bytes) r.array

    read_k : d.honest ≡ true → (failed_at : ℕ) (was_spoiled is_spoiled : Bool) → IsReadAsKept a m failed_at was_spoiled d.content → IsReadAsKept b n failed_at is_spoiled e.content
    read_k honest failed_at was_spoiled is_spoiled had = record {
      super = λ _. own_written b n e.content readable (block_is honest);
      header = λ un. absurd (true≢false un);
    }

  same_fields : IsSameArray a b
  same_fields = record { set_uuid = refl; size = refl; raid_disks = refl; sectors = refl; events = omega arith }

  disk_was : (e : Disk) → slice_get new.disks k ≡ Some e → (d : Disk) × (slice_get old.disks k ≡ Some d)
  disk_was e is =
      let inside = slice_get_within new.disks k e is in
      let many = r.disks.tried.as_many in
      got_within old.disks k (omega arith)

  admitted_read : AreHonest old.disks → (failed_at : ℕ) (spoiled : ℕ → Bool) → AreReadAsKept old failed_at spoiled → AreReadAsKept new failed_at (put k false spoiled)
  admitted_read honest failed_at spoiled are = subst (λ (x : ArrayView). AreReadAsKept (record { disks = new.disks; array = x }) failed_at (put k false spoiled)) (sym r.array)
      (λ j e x found member. of_set up.members k j n x member
      (λ here x_is.
      let now : slice_get new.disks k ≡ Some e = sym (ap (slice_get new.disks) here) ∙ found in
      let d = disk_was e now in
      subst (λ (z : MemberView). IsReadAsKept b z failed_at (put k false spoiled j) e.content) (sym x_is)
      (read_k d.0 e d.1 now (honest k d.0 d.1) failed_at (spoiled k) (put k false spoiled j) (are k d.0 m d.1 r.may.at)))
      (λ apart here.
      let z = at_map made_due a.members j x here in
      kept_in a b z.0 x failed_at (put k false spoiled j) e.content same_fields
      (record { superblock = ap (λ (y : MemberView). y.superblock) z.2; state = ap (λ (y : MemberView). y.state) z.2 })
      (subst (λ (s : Bool). IsReadAsKept a z.0 failed_at s e.content) (sym (put-miss k false spoiled j apart)) (are j e z.0 (sym (r.disks.tried.others j apart) ∙ found) z.1))))

  -- ---- its world
  bit : has_recovery_offset n.superblock ≡ true
  bit = ap (λ x. not (x == 0)) (and_or_self 2 m.superblock.feature_map)

  module _ (d e : Disk) (was : slice_get old.disks k ≡ Some d) (is : slice_get new.disks k ≡ Some e) (honest : d.honest ≡ true) (requests : ℕ → Option Request) where
    abbrev w : World
    w = world_of old requests

    abbrev u : World
    u = world_on old.disks up requests

    abbrev listed : ℕ → Bool
    listed = listed_on new k

    listed_is : (stored_of b n e.content).listed ≡ listed
    listed_is =
        ap (λ (x : ArrayView). (stored_of x n e.content).listed) (sym r.array)
        ∙ sym (ap (λ (x : Stored). x.listed) (stored_there new.disks new.array k n e admitted_at is))

    abbrev taking : model.Taking
    taking = model.as_recovering w k role listed

    number_is : m.superblock.dev_number ≡ u.number k
    number_is = sym (member_there up k (made_due m) 0 (λ x. x.superblock.dev_number) up_at)

    role_is : (x : ℕ) → role_in b.shared x ≡ put (u.number k) role u.role x
    role_is x = role_joined a n role takes.small x ∙ ap (λ number. put number role u.role x) number_is

    super_is : super_of (merged b.shared n.superblock) ≡ joined_super u (u.number k) role true 0
    super_is = λ i. record { number = number_is i; events = a.shared.events + 1; role = λ x. role_is x i; recovering = bit i; offset = 0 }

    parts_then : HasParts b n d.content
    parts_then =
        let p : HasParts b n e.content = subst (λ (x : ArrayView). HasParts x n e.content) r.array (parts_of new admitted_is_consistent k e n is admitted_at) in
        let sectors : sectors_of_device e.content ≡ sectors_of_device d.content = ap (λ (x : ℕ). x / 512) (outside d e was is).size in
        record {
          placed = subst (λ (x : ℕ). AreAreasPlaced x n.superblock (bitmap_sectors n.stored.chunks)) sectors p.placed;
          bitmap = subst (λ (x : ℕ). BitmapIsPlaced x n.superblock (bitmap_sectors n.stored.chunks)) sectors p.bitmap;
          size = p.size;
          count = p.count;
        }

    -- its log lists what it was to list next
    still_listed : (sector : ℕ) → is_listed n.superblock e.content sector ≡ is_listed_next m.superblock d.content sector
    unfolding is_listed_next
    still_listed sector =
        listed_written b n e.content readable (block_is d e was is honest) sector
        ∙ next_kept n.superblock d.content e.content (log_beside_super b n d.content e.content parts_then (outside d e was is)) sector
        ∙ ap (λ x. x && is_logged d.content (sector_from_super m.superblock.bblog_offset) m.superblock.bblog_size m.superblock.bblog_shift sector) (recovering_log_bit 0 m.superblock)

    stored_up : u.stored k ≡ stored_of a m d.content
    stored_up = ap (λ o. stored_on up o (slice_get old.disks k)) up_at ∙ ap (stored_on up (Some (made_due m))) was

    device_is : stored_of b n e.content ≡ model.taking_device u k taking
    device_is =
        let super : super_in (block_on e.content) ≡ Some (joined_super u (u.number k) role true 0) =
        ap super_in (block_is d e was is honest) ∙ readable_super b n readable ∙ ap Some super_is in
        super_alone b n d.content e.content parts_then (outside d e was is)
        ∙ (λ i. record (stored_of a m d.content) { super = super i; listed = listed_is i })
        ∙ (λ i. record (sym stored_up i) { super = Some (joined_super u (u.number k) role true 0); listed = listed })

    stored_b : (o : Option MemberView) (x : Option Disk) → stored_on b o x ≡ stored_on up o x
    stored_b None None = refl
    stored_b None (Some x) = refl
    stored_b (Some y) None = refl
    stored_b (Some y) (Some x) = refl

    stored_put : (j : ℕ) → stored_on b (slice_get b.members j) (slice_get new.disks j) ≡ put k (model.taking_device u k taking) u.stored j
    stored_put j = put-at k (model.taking_device u k taking) u.stored j (λ x. stored_on b (slice_get b.members j) (slice_get new.disks j) ≡ x)
        (λ here. ap (λ i. stored_on b (slice_get b.members i) (slice_get new.disks i)) here
        ∙ ap (λ o. stored_on b o (slice_get new.disks k)) b_at ∙ ap (stored_on b (Some n)) is ∙ device_is)
        (λ apart. ap (λ o. stored_on b o (slice_get new.disks j)) (got_other up.members k j n apart)
        ∙ ap (stored_on b (slice_get up.members j)) (r.disks.tried.others j apart)
        ∙ stored_b (slice_get up.members j) (slice_get old.disks j))

    known_here : w.known k ≡ u.known k
    known_here = λ i x. (member_there a k m false (λ y. nat_lt x a.marks.chunks && is_set y.stored.bytes x) r.may.at
        ∙ sym (member_there up k (made_due m) false (λ y. nat_lt x a.marks.chunks && is_set y.stored.bytes x) up_at)) i

    bad_here : w.bad k ≡ u.bad k
    bad_here = λ i x. (member_there a k m false (λ y. lists_of a y x) r.may.at ∙ sym (member_there up k (made_due m) false (λ y. lists_of a y x) up_at)) i

    known_put : put k (w.known k) u.known ≡ u.known
    known_put = ap (λ (f : ℕ → Bool). put k f u.known) known_here ∙ put-self k u.known

    bad_put : put k (w.bad k) u.bad ≡ u.bad
    bad_put = ap (λ (f : ℕ → Bool). put k f u.bad) bad_here ∙ put-self k u.bad

    world_b : world_on new.disks b requests ≡ model.with_role_taken u k taking
    world_b = λ i. record {
      members = length-set up.members k n i;
      stored = λ j. stored_put j i;
      number = λ j. read_kept (λ o. unwrap_or (option_map (λ (x : MemberView). x.superblock.dev_number) o) 0) up.members k (made_due m) n up_at refl j i;
      state = λ j. read_changed (λ o. unwrap_or (option_map (λ (x : MemberView). kind_of x.state) o) states.State.Faulty) up.members k (made_due m) n up_at j i;
      due = λ j. read_changed (λ o. unwrap_or (option_map (λ (x : MemberView). x.due) o) false) up.members k (made_due m) n up_at j i;
      known = λ j x. (read_kept (λ o. unwrap_or (option_map (λ (y : MemberView). nat_lt x a.marks.chunks && is_set y.stored.bytes x) o) false) up.members k (made_due m) n up_at refl j
          ∙ ap (λ (f : ℕ → ℕ → Bool). f j x) (sym known_put)) i;
      bad = λ j x. (read_kept (λ o. unwrap_or (option_map (λ (y : MemberView). lists_of a y x) o) false) up.members k (made_due m) n up_at refl j
          ∙ ap (λ (f : ℕ → ℕ → Bool). f j x) (sym bad_put)) i;
      offset = λ j. read_changed (λ o. unwrap_or (option_map (λ (x : MemberView). x.offset) o) 0) up.members k (made_due m) n up_at j i;
      sure_offset = λ j. read_changed (λ o. unwrap_or (option_map (λ (x : MemberView). x.superblock.recovery_offset) o) 0) up.members k (made_due m) n up_at j i;
      stored_offset = λ j. read_changed (λ o. unwrap_or (option_map (λ (x : MemberView). x.stored_offset) o) 0) up.members k (made_due m) n up_at j i;
      recovering = λ j. (read_changed (λ o. unwrap_or (option_map (λ (x : MemberView). has_recovery_offset x.superblock) o) false) up.members k (made_due m) n up_at j
          ∙ ap (λ t. put k t u.recovering j) bit) i;
      role = λ x. role_is x i;
      entries = entries_is i;
      present = λ x. any_kept (λ (y : MemberView). eqb y.superblock.dev_number x) up.members k (made_due m) n up_at refl i;
      events = u.events;
      cleared_at = u.cleared_at;
      clean = u.clean;
      resynced = u.resynced;
      halted = u.halted;
      marks = u.marks;
      request = requests;
    }
      where
        roles_many : length up.shared.roles ≡ length a.shared.roles
        roles_many = length-map-range_with_len (λ x. cond (is_absent a.shared a.members x) 0xfffe (role_in a.shared x)) 0 (length a.shared.roles)

        entries_is : length b.shared.roles ≡ cond (nat_lt (u.number k) u.entries || leb 1920 (u.number k)) u.entries (u.number k + 1)
        entries_is =
            count_roles a n role takes.small
            ∙ grew a n role takes.small (length a.shared.roles)
            ∙ ap (λ j. cond (nat_lt m.superblock.dev_number j || leb 1920 m.superblock.dev_number) j (m.superblock.dev_number + 1)) (sym roles_many)
            ∙ ap (λ number. cond (nat_lt number u.entries || leb 1920 number) u.entries (number + 1)) number_is

    world_admitted : world_of new requests ≡ model.admitted (geometry_of a) w k role listed false
    world_admitted =
        ap (λ (x : ArrayView). world_on new.disks x requests) r.array
        ∙ world_b
        ∙ ap (λ (x : World). model.with_role_taken x k taking) (world_risen a false old.disks requests)

    -- its role has no member in sync, so that the array is not full
    not_full : counts.IsFull (geometry_of a) (world_of new requests) → ⊥
    not_full full =
        let x = full role takes.below in
        let y = in_sync_is new.disks new.array requests x.0 x.1 in
        let sound = admitted_is_consistent in
        let active = takes_own y.0.state (in_sync_active y.0.state y.1.in_sync) in
        let has = sound.roles.shared x.0 active.0 y.0 y.1.member active.1 in
        let here : active.0 ≡ role = sym has ∙ sym (ap (role_in new.array.shared) (member_there new.array x.0 y.0 0 (λ z. z.superblock.dev_number) y.1.member)) ∙ x.2 in
        let at : x.0 ≡ k = sound.roles.one_each x.0 k role y.0 n y.1.member admitted_at (subst (λ i. takes_role i y.0.state ≡ true) here active.1) (eq-eqb role role refl) in
        let same : y.0 ≡ n = same_Some y.0 n (sym y.1.member ∙ ap (slice_get new.array.members) at ∙ admitted_at) in
        let out : is_in_sync y.0.state ≡ false = ap (λ (z : MemberView). is_in_sync z.state) same in
        true≢false (sym y.1.in_sync ∙ out)

    role_free : (j : ℕ) → states.is_active (w.state j) ≡ true → w.role (w.number j) ≢ role
    role_free j active same = by_member a j
        (λ x at.
        let takes_x = takes_own x.state (sym (same_active x.state) ∙ sym (ap states.is_active (at_is a j states.State.Faulty (λ y. kind_of y.state) x at)) ∙ active) in
        let has = c.roles.shared j takes_x.0 x at takes_x.1 in
        let here : takes_x.0 ≡ role = sym has ∙ sym (ap (role_in a.shared) (at_is a j 0 (λ y. y.superblock.dev_number) x at)) ∙ same in
        true≢false (sym (any_at (λ (y : MemberView). takes_role role y.state) a.members j x at (subst (λ i. takes_role i x.state ≡ true) here takes_x.1)) ∙ r.may.gets.least.free))
        (λ past. true≢false (sym active ∙ ap states.is_active (at_past a j states.State.Faulty (λ y. kind_of y.state) past)))

    may_admit : model.MayAdmit (geometry_of a) w k role
    may_admit = record {
      spare = ap membership.is_spare (member_there a k m states.State.Faulty (λ x. kind_of x.state) r.may.at) ∙ spare_there m.state spare;
      below = takes.below;
      free = role_free;
      small = subst (λ x. x < 1920) (sym (member_there a k m 0 (λ x. x.superblock.dev_number) r.may.at)) takes.small;
    }

    step : Step (geometry_of a) w (Event.Admit k role listed) (world_of new requests)
    step = (r.may.running, (false, may_admit, ((λ no. absurd (true≢false (sym no))), (λ full. absurd (not_full full))), world_admitted))

  pub admit_happens : Happens old (Event.Admit k role (listed_on new k)) new
  admit_happens honest requests in_flight =
      let low = slice_get_within a.members k m r.may.at in
      let as_many = c.fits.as_many in
      let many = r.disks.tried.as_many in
      let d = got_within old.disks k (omega arith) in
      let e = got_within new.disks k (omega arith) in
      let event : Event = Event.Admit k role (listed_on new k) in
      let happens = step d.0 e.0 d.1 e.1 (honest k d.0 d.1) requests in
      record {
        honest = tried_honest k (super_write new.array n) old.disks new.disks r.disks.tried honest;
        writes = (super_write new.array n, r.disks);
        in_flight = subst (λ (x : ArrayView). AreInFlight x requests) (sym r.array) in_flight;
        geometry = ap geometry_of r.array;
        step = happens;
        content = λ x y holds becomes. between_step (geometry_of a) (world_of old requests) event (world_of new requests) x y happens becomes holds;
        written = in_flight_step (geometry_of a) (world_of old requests) event (world_of new requests) happens;
        sound = admitted_is_consistent;
        lists = lists_still k old new c m n r.may.at admitted_at d.0 e.0 d.1 e.1 requests
            (ap (λ (x : ArrayView). x.chunks.size) r.array) refl refl (λ sector _ next. still_listed d.0 e.0 d.1 e.1 (honest k d.0 d.1) requests sector ∙ next);
        read = admitted_read honest;
      }
