-- A device that left comes in again: that is the model's event.
use Rattle.std.proofs.Common.{◌≡◌, ◌≢◌, ◌↔◌, eq-eqb, true≢false, ℕ, ◌+◌, ◌*◌, ◌/◌, ◌<◌, Bool, true, not, ◌==◌, ◌&&◌, nat_lt, List, [], ◌∷◌, ◌++◌, length, map, slice_get, Option, Some, Result, Ok, Err, refl, sym, ap, ◌∙◌, subst, arith, cond, drop, inl, inr, ⊎_elim, ◌⊎◌, false}
use Rattle.std.proofs.lemmas.Option.{same_Some}
use Rattle.std.proofs.lemmas.Bool.{and_from, and_parts}
use Rattle.std.specs.Prelude.{MatchResult}
use Rattle.std.proofs.lemmas.List.{length-map}
use Rattle.std.proofs.lemmas.Grind.{div_ceil_times}
use Rattle.std.proofs.lemmas.Nat.{and_or_self, div_below}
use Rattle.std.proofs.Math.Bool.{and-false}
use Rattle.std.specs.Int.{div_ceil}
use Rattle.std.specs.List.{range_with_len}
use Rattle.md_super.specs.declared.superblock.Superblock.{Superblock}
use Rattle.md_super.specs.Merge.{merged}
use Rattle.md_model.proofs.Cases.{by_test, is_below}
use Rattle.md_model.specs.Counts as counts
use Rattle.md_model.specs.Counts.{IsFull, role_at_rise}
use Rattle.md_model.specs.Devices.{Super, Stored, is_accepted, offset_of}
use Rattle.md_model.specs.Events.{Event, Step}
use Rattle.md_model.specs.Membership as membership
use Rattle.md_model.specs.Sectors.{Geometry, put}
use Rattle.md_model.specs.States as model
use Rattle.md_model.specs.Worlds.{Request, World}
use Rattle.md_model.proofs.Steps.Between.{between_step, in_flight_step}
use Rattle.md_kept_members.specs.OnDevices.Superblocks.{IsReadable}
use Rattle.md_kept_members.specs.OnDevices.Storing.{sector_from_super}
use Rattle.md_state.specs.Steps.ReAdd.{HasNoOtherMarks}
use Rattle.md_state.specs.DiskWrites.{IsWritten}
use Rattle.md_state.specs.Steps.NoteJoined.{joined}
use Rattle.md_state.specs.Members.{IsMember, is_degraded}
use Rattle.md_state.specs.Requests.{AreInFlight}
use Rattle.md_state.specs.View.{ArrayView, Disk, MirrorView, geometry_of}
use Rattle.md_device.specs.Splice.{SameOutside}
use Rattle.md_device.proofs.Splices.{part-spliced}
use Rattle.md_bitmap.specs.Marks.{is_set, Bitmap}
use Rattle.md_members.specs.declared.info.MemberInfo.{MemberInfo}
use Rattle.md_members.specs.Members as members
use Rattle.md_assembly.specs.declared.state.MemberState.{MemberState}
use Rattle.md_assembly.specs.declared.state.MemberState.TheVariants.{InSync, Recovering, Stale, Spare, Faulty}
use Rattle.md_assembly.specs.States.{has_recovery_offset, is_active, is_stale, role_in, state_of, takes_role}
use Rattle.md_kept_members.specs.OwnFields.{kept_superblock}
use Rattle.md_kept_members.specs.Members.{made_due}
use Rattle.md_kept_members.specs.Membership.FormerMember.{came_since}
use Rattle.md_kept_members.specs.TakingBack.{IsKeptTakenBack, own_role}
use Rattle.md_kept_members.specs.View.{MemberView}
use Rattle.md_faults.specs.declared.re_add_fault.ReAddFault.{ReAddFault}
use Rattle.md_array.specs.Consistency.{IsConsistent}
use Rattle.md_array.specs.Events.{Does, Happens}
use Rattle.md_array.specs.Fits.{FitsMember}
use Rattle.md_array.specs.Steps.ReAdd.{ComesBackReAdded, ReAddHappens, ReAdds, RefusesReAdd, re_add_event}
use Rattle.md_array.specs.ReadAsKept.{AreReadAsKept}
use Rattle.md_array.specs.Steps.Record.{super_write}
use Rattle.md_array.specs.Worlds.{AreHonest, block_on, kind_of, stored_of, super_in, super_of, world_of, lists_of}
use Rattle.md_array.proofs.General.Appended.{got_last}
use Rattle.md_array.proofs.General.Indices.{any_at, got_in_range}
use Rattle.md_array.proofs.StepLemmas.DeviceTakenBack.{cleared_there, known_now, read_now, stored_now, accepted_taken, bits_there, listed_is_bad}
use Rattle.md_array.proofs.Worlds.States.{same_active, same_state}
use Rattle.md_array.proofs.StepLemmas.ReAdd.{after, count_kept, fits_taken, is_after, number_there, room, short_device, size_kept, small, taken_back_is_consistent, width_kept}
use Rattle.md_array.proofs.StepLemmas.WrittenLast.{honest_last, written_last}
use Rattle.md_array.proofs.Worlds.Joined.{degraded_joined, newcomer, read_joined, recovers_alone, role_joined, world_joined}
use Rattle.md_array.proofs.Worlds.PartsApart.{HasParts}
use Rattle.md_array.proofs.Worlds.Risen.{full_as_told, risen_role}
use Rattle.md_array.proofs.Worlds.Shown.{at_is, at_past, by_member}
use Rattle.md_array.proofs.Worlds.Supers.{device_super}

pub takes_own : (s : MemberState) → is_active s ≡ true → (role : ℕ) × (takes_role role s ≡ true)
takes_own (InSync role) e = (role, eq-eqb role role refl)
takes_own (Recovering role) e = (role, eq-eqb role role refl)
takes_own (Stale role) e = absurd cc
takes_own Spare e = absurd cc
takes_own Faulty e = absurd cc

stale_kind : (s : MemberState) → model.has_missed_writes (kind_of s) ≡ is_stale s
stale_kind (InSync role) = refl
stale_kind (Recovering role) = refl
stale_kind (Stale role) = refl
stale_kind Spare = refl
stale_kind Faulty = refl

module _ (k : ℕ) (device : Disk) (old new : MirrorView) (c : IsConsistent old) (r : ReAdds k device old new) (honest : device.honest ≡ true) where
  abbrev a : ArrayView
  a = old.array

  abbrev info : MemberInfo
  info = r.info

  abbrev m : MemberView
  m = r.recorded.takes.member

  abbrev offset : ℕ
  offset = r.recorded.takes.offset

  abbrev taken : IsKeptTakenBack offset info m
  taken = r.recorded.takes.taken

  abbrev now : Disk
  now = r.recorded.now

  abbrev role : ℕ
  role = own_role info.superblock

  abbrev b : ArrayView
  b = joined a m role

  abbrev full : Bool
  full = not (is_degraded a)

  abbrev own : Super
  own = super_of info.superblock

  abbrev g : Geometry
  g = geometry_of a

  same_array : new.array ≡ b
  same_array = r.recorded.takes.array

  its_read : members.IsReadMember device.content true info
  its_read = subst (λ h. members.IsReadMember device.content h info) honest r.read

  was : super_in (block_on device.content) ≡ Some own
  was = device_super device.content info.superblock its_read.superblock

  its_number : m.superblock.dev_number ≡ own.number
  its_number = number_there a offset info m taken r.recorded.takes.may device.content device.honest r.read

  small_number : m.superblock.dev_number < 1920
  small_number = small k device old new c r

  -- ---- what is written
  readable : IsReadable (merged b.shared m.superblock)
  readable = subst (λ (x : ArrayView). IsReadable (merged x.shared m.superblock)) same_array r.recorded.readable

  written : IsWritten (length old.disks) (super_write b m) (old.disks ++ device ∷ []) (old.disks ++ now ∷ [])
  written =
      written_last old.disks device r.after_reading now (super_write b m) r.only_read
      (subst (λ (x : ArrayView). IsWritten 0 (super_write x m) (r.after_reading ∷ []) (now ∷ [])) same_array r.recorded.written)

  outside : SameOutside (512 * 8) 4096 device.content now.content
  outside =
      subst (λ (n : ℕ). SameOutside (512 * 8) n device.content now.content) readable.size
      (written.tried.outside device now (got_last old.disks device) (got_last old.disks now))

  fit : FitsMember a m device
  fit = fits_taken a offset info m taken r.recorded.takes.may device.content device.honest r.read device refl (short_device k device old new c r)

  on_device : block_on now.content ≡ (super_write b m).bytes
  on_device =
      let long = fit.long in
      ap block_on (written.done device now (got_last old.disks device) (got_last old.disks now) honest)
      ∙ part-spliced device.content (512 * 8) (super_write b m).bytes 4096 (sym readable.size) (omega arith)

  parts : HasParts b m device.content
  parts = record {
    placed = fit.placed;
    bitmap = fit.placed.bitmap fit.has;
    size = size_kept a offset info m taken r.recorded.takes.may device.content device.honest r.read ∙ sym c.chunks.size;
    count = count_kept a offset info m taken r.recorded.takes.may device.content device.honest r.read c.chunks.size c.chunks.count;
  }

  width : m.header.chunksize / 512 ≡ a.chunks.sectors
  width = width_kept a offset info m taken r.recorded.takes.may device.content device.honest r.read

  stored_here : stored_of b m now.content ≡ record (stored_of b m device.content) { super = Some (super_of (merged b.shared m.superblock)) }
  stored_here = stored_now device.content offset info m taken its_read b readable now.content parts outside on_device

  bit : has_recovery_offset m.superblock ≡ true
  bit =
      ap has_recovery_offset taken.superblock
      ∙ ap (λ n. not (n == 0)) (and_or_self 2 (kept_superblock info).feature_map)

  its_sure : m.superblock.recovery_offset ≡ 0
  its_sure = ap (λ (v : Superblock). v.recovery_offset) taken.superblock

  -- it says so by then
  told : m.stored_offset ≡ m.superblock.recovery_offset
  told = taken.stored_offset ∙ sym its_sure

  -- each chunk that its accepted bitmap marks is marked in the array, or its offset is 0
  module _ (requests : ℕ → Option Request) where
    abbrev world : World
    world = world_of old requests

    no_others : HasNoOtherMarks a info → membership.HasNoOtherMarks g world (stored_of b m device.content)
    no_others h s low marked =
        let chunk : ℕ = s / a.chunks.sectors in
        let count = count_kept a offset info m taken r.recorded.takes.may device.content device.honest r.read c.chunks.size c.chunks.count in
        let accepted : is_accepted (stored_of b m device.content) ≡ true = its_bitmap h in
        let bit : (nat_lt chunk a.marks.chunks && is_set (drop (512 * sector_from_super m.superblock.bitmap_offset + 256) device.content) chunk) ≡ true =
        sym (ap (λ t. cond t ((stored_of b m device.content).bits chunk) true) accepted) ∙ marked in
        let parts = and_parts (nat_lt chunk a.marks.chunks) _ bit in
        let below : chunk < a.marks.chunks = is_below chunk a.marks.chunks parts.0 in
        let stored : is_set m.stored.bytes chunk ≡ true =
        sym (bits_there device.content offset info m taken its_read chunk (subst (λ n. chunk < n) (sym count) below)) ∙ parts.1 in
        let same : h.marks ≡ m.stored = same_Some h.marks m.stored (sym h.has_marks ∙ taken.stored) in
        and_from (nat_lt chunk a.marks.chunks) (is_set a.marks.bytes chunk) parts.0
        (h.among chunk below (ap (λ (x : Bitmap). is_set x.bytes chunk) same ∙ stored))
      where
        its_bitmap : HasNoOtherMarks a info → is_accepted (stored_of b m device.content) ≡ true
        its_bitmap h = accepted_taken device.content offset info m taken its_read b h.header h.has_header h.accepted was
            (r.recorded.takes.may.fits.of_array.set_uuid) (r.recorded.takes.may.fits.of_array.size)

    -- nor were marks cleared on one of the two alone, as far as that is told
    unused : HasNoOtherMarks a info → membership.HasNoOtherUse g world own (stored_of b m device.content)
    unused h = record {
      marks = no_others h;
      cleared =
          let same = cleared_there device.content offset info m taken its_read b h.header h.has_header in
          let low = h.cleared.cleared in
          omega arith;
      no_copy = ap model.has_missed_writes (sym (same_state a info.superblock)) ∙ stale_kind (state_of a.shared info.superblock) ∙ h.cleared.no_copy;
      no_newcomer = λ d low. by_test (came_since (role_in a.shared d) (role_in info.superblock d))
          (λ came. absurd (true≢false (sym (any_at (λ e. came_since (role_in a.shared e) (role_in info.superblock e)) (range_with_len 0 (length a.shared.roles)) d d (got_in_range (length a.shared.roles) d low) came) ∙ h.cleared.no_newcomer)))
          (λ none. none);
    }

    passes : ((offset ≡ g.size) × membership.HasNoOtherUse g world own (stored_of b m device.content)) ⊎ (offset ≡ 0)
    passes = ⊎_elim
        (λ (x : HasNoOtherMarks a info × (offset ≡ a.chunks.size)). inl (x.1, unused x.0))
        (λ (x : (HasNoOtherMarks a info → ⊥) × (offset ≡ 0)). inr x.1)
        r.recorded.takes.offset_is

  -- ---- the mirror's world
  module _ (requests : ℕ → Option Request) where
    abbrev w : World
    w = world_of old requests

    -- an active member has a role, and not this one
    role_free : (j : ℕ) → model.is_active (w.state j) ≡ true → w.role (w.number j) ≢ own.role own.number
    role_free j active same = by_member a j
        (λ x is.
        let takes = takes_own x.state (sym (same_active x.state) ∙ sym (ap model.is_active (at_is a j model.State.Faulty (λ y. kind_of y.state) x is)) ∙ active) in
        let has = c.roles.shared j takes.0 x is takes.1 in
        let here : takes.0 ≡ own.role own.number = sym has ∙ sym (ap (role_in a.shared) (at_is a j 0 (λ y. y.superblock.dev_number) x is)) ∙ same in
        true≢false (sym (any_at (λ (y : MemberView). takes_role role y.state) a.members j x is (subst (λ n. takes_role n x.state ≡ true) here takes.1)) ∙ r.recorded.takes.may.free))
        (λ past. true≢false (sym active ∙ ap model.is_active (at_past a j model.State.Faulty (λ y. kind_of y.state) past)))

    may : membership.MayReAdd g w own
    may = record {
      room = room k device old new c r;
      absent = r.recorded.takes.may.fits.role.absent;
      small = subst (λ n. n < 1920) its_number small_number;
      whole = r.recorded.takes.may.fits.role.whole;
      late = r.recorded.takes.may.fits.in_time.late;
      no_newer = r.recorded.takes.may.fits.in_time.no_newer;
      has_role = r.recorded.takes.may.fits.role.has_role;
      free = role_free;
    }

    its_roles : (d : ℕ) → role_in b.shared d ≡ put own.number role (role_at_rise g w) d
    its_roles d =
        role_joined a m role small_number d
        ∙ ap (λ (f : ℕ → ℕ). put m.superblock.dev_number role f d) (λ i e. risen_role a full e i)
        ∙ ap (λ n. put n role (role_at_rise g w) d) its_number

    its_super : super_of (merged b.shared m.superblock) ≡ membership.joined_super (counts.risen g w full) own.number (own.role own.number) true 0
    its_super = λ i. record { number = its_number i; events = a.shared.events + 1; role = λ d. its_roles d i; recovering = bit i; offset = its_sure i }

    device_taken : membership.IsTakenBack g w (counts.risen g w full) own m.offset (stored_of b m device.content) (stored_of b m now.content)
    device_taken = record {
      was = was;
      passes = subst (λ (o : ℕ). ((o ≡ g.size) × membership.HasNoOtherUse g w own (stored_of b m device.content)) ⊎ (o ≡ 0)) (sym taken.offset_is) (passes requests);
      sure_offset = 0;
      within = omega arith;
      unmarked = λ s low before. absurd (omega arith);
      rest = stored_here ∙ (λ i. record (stored_of b m device.content) { super = Some (its_super i) });
    }

    known : (n : ℕ) → (nat_lt n a.marks.chunks && is_set m.stored.bytes n) ≡ (stored_of b m now.content).bits n
    known = known_now device.content offset info m taken its_read b readable now.content parts outside on_device

    lists : (s : ℕ) → lists_of b m s ≡ (stored_of b m now.content).listed s
    lists s =
        sym (ap (λ t. nat_lt s a.chunks.size && t) (listed_is_bad device.content offset info m taken its_read (m.superblock.data_offset + s)))
        ∙ sym (ap (λ (x : Stored). x.listed s) stored_here)

    its_newcomer : newcomer a m role small_number now.content
        ≡ record { number = own.number; role = own.role own.number; state = model.State.Recovering; recovering = true; offset = m.offset; sure_offset = offset_of (stored_of b m now.content); device = stored_of b m now.content }
    its_newcomer = λ i. record {
      number = its_number i;
      role = role;
      state = ap kind_of taken.state i;
      recovering = bit i;
      offset = m.offset;
      sure_offset = sym (ap offset_of stored_here) i;
      device = stored_of b m now.content;
    }

    world_back : world_of new requests ≡ membership.re_added g w own m.offset (stored_of b m now.content) full
    unfolding after
    world_back =
        ap (λ (v : MirrorView). world_of v requests) (is_after k device old new c r)
        ∙ world_joined a m role small_number old.disks now requests c.fits.as_many taken.due told known lists
        ∙ ap (λ (n : membership.Newcomer). membership.joined (counts.risen g w full) n) its_newcomer

    still_full : is_degraded new.array ≡ is_degraded a
    still_full =
        ap is_degraded same_array
        ∙ degraded_joined a m role small_number (recovers_alone a m role taken.state r.recorded.takes.may.free r.recorded.takes.may.fits.role.has_role)

    full_after : (full ≡ true) ↔ IsFull g (world_of new requests)
    full_after =
        subst (λ (x : Geometry). (full ≡ true) ↔ IsFull x (world_of new requests)) (ap geometry_of same_array)
        (subst (λ t. (not t ≡ true) ↔ IsFull (geometry_of new.array) (world_of new requests)) still_full
        (full_as_told new.disks new.array requests (taken_back_is_consistent k device old new c r).roles))

    step : Step g w (Event.ReAdd own m.offset (stored_of b m device.content) (stored_of b m now.content)) (world_of new requests)
    step = (r.running, (full, may, device_taken, full_after, world_back))

  re_add_read : (failed_at : ℕ) (spoiled : ℕ → Bool) → AreReadAsKept old failed_at spoiled → AreReadAsKept new failed_at (put (length a.members) false spoiled)
  unfolding after
  re_add_read failed_at spoiled are =
      subst (λ (v : MirrorView). AreReadAsKept v failed_at (put (length a.members) false spoiled)) (sym (is_after k device old new c r))
      (read_joined a m role small_number old.disks now failed_at spoiled c.fits.as_many
      (λ s. read_now device.content offset info m taken its_read b readable now.content parts outside on_device failed_at s width)
      are)

  honest_now : AreHonest old.disks → AreHonest new.disks
  honest_now all =
      subst AreHonest (sym r.recorded.disks)
      (honest_last old.disks now all ((written.tried.stays device now (got_last old.disks device) (got_last old.disks now)).honest ∙ honest))

  does : AreHonest old.disks → (requests : ℕ → Option Request) → AreInFlight a requests
      → Does old requests (Event.ReAdd own m.offset (stored_of b m device.content) (stored_of b m now.content)) new requests
  does all requests listed =
      let e : Event = Event.ReAdd own m.offset (stored_of b m device.content) (stored_of b m now.content) in
      record {
        honest = honest_now all;
        writes = record {
          was = device;
          super = was;
          honest = honest;
          write = super_write b m;
          written = subst (λ (disks : List Disk). IsWritten (length old.disks) (super_write b m) (old.disks ++ device ∷ []) disks) (sym r.recorded.disks) written;
        };
        in_flight = subst (λ (x : ArrayView). AreInFlight x requests) (sym same_array) listed;
        geometry = ap geometry_of same_array;
        step = step requests;
        content = λ x y holds becomes. between_step g (world_of old requests) e (world_of new requests) x y (step requests) becomes holds;
        written = in_flight_step g (world_of old requests) e (world_of new requests) (step requests);
        sound = taken_back_is_consistent k device old new c r;
        lists = tt;
        read = re_add_read;
      }

  pub re_add_happens : Happens old (re_add_event k device old new r) new
  re_add_happens all requests listed =
      subst (λ (x : ArrayView). Does old requests (Event.ReAdd own m.offset (stored_of x m device.content) (stored_of x m now.content)) new requests) (sym same_array)
      (does all requests listed)

  last_member : IsMember new.array k m
  last_member =
      ap (λ (x : ArrayView). slice_get x.members k) same_array
      ∙ ap (slice_get (map made_due a.members ++ m ∷ [])) (r.recorded.last ∙ sym (length-map a.members made_due))
      ∙ got_last (map made_due a.members) m

  last_disk : slice_get new.disks k ≡ Some now
  last_disk =
      ap (λ (disks : List Disk). slice_get disks k) r.recorded.disks
      ∙ ap (slice_get (old.disks ++ now ∷ [])) (r.recorded.last ∙ sym c.fits.as_many)
      ∙ got_last old.disks now

  comes_back : ComesBackReAdded k device old new
  comes_back = record { own = own; was = was; member = m; at = last_member; now = now; is = last_disk; happens = re_add_happens }

-- whatever it answers
pub re_add_is_event : {D : Type 0} (of : D → Disk) (device : Disk) (old new : MirrorView) (c : IsConsistent old) (result : Result ℕ (D × ReAddFault))
    → MatchResult result (λ k. ReAdds k device old new) (λ e. RefusesReAdd device (of e.0) old new e.1) → ReAddHappens device old new result
re_add_is_event of device old new c (Ok k) r = λ honest. comes_back k device old new c r honest
re_add_is_event of device old new c (Err e) r = tt
