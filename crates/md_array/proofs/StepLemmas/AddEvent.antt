-- A new device comes in as a spare: that is the model's event.
use Rattle.std.proofs.Common.{◌≡◌, ◌↔◌, ℕ, ◌+◌, ◌/◌, ◌<◌, ◌≤◌, inl, inr, Bool, true, false, not, ◌&&◌, ◌==◌, bit_and, nat_lt, List, [], ◌∷◌, ◌++◌, get_or, length, map, slice_get, Option, Some, Result, Ok, Err, refl, sym, ap, ◌∙◌, subst, arith, lt-ltb}
use Rattle.std.specs.Prelude.{MatchResult}
use Rattle.std.proofs.lemmas.List.{length-map}
use Rattle.md_bitmap.specs.Marks.{is_set}
use Rattle.md_bitmap.specs.Sound.{chunk_count}
use Rattle.md_create.specs.declared.params.NewMember.{NewMember}
use Rattle.md_create.specs.Layout.{IsLaidOutAs, writes_of}
use Rattle.md_members.specs.Members.{sectors_of_device}
use Rattle.md_assembly.specs.States.{has_recovery_offset, role_in}
use Rattle.md_model.specs.Counts as counts
use Rattle.md_model.specs.Counts.{IsFull, role_at_rise}
use Rattle.md_model.specs.Events.{Event, Step}
use Rattle.md_model.specs.Membership as membership
use Rattle.md_model.specs.Sectors.{Geometry, chunk_of, put}
use Rattle.md_model.specs.States as model
use Rattle.md_model.specs.Worlds.{Request, World}
use Rattle.md_model.proofs.Steps.Between.{between_step, in_flight_step}
use Rattle.md_kept_members.specs.Members.{made_due}
use Rattle.md_kept_members.specs.View.{MemberView}
use Rattle.md_faults.specs.declared.add_fault.AddFault.{AddFault}
use Rattle.md_kept_members.specs.Membership.Joining.{joined_roles}
use Rattle.md_kept_members.specs.Membership.Numbers.{IsFree, IsNumber, spare_role}
use Rattle.md_state.specs.Steps.Add.{added}
use Rattle.md_state.specs.Members.{IsMember, is_degraded}
use Rattle.md_state.specs.Requests.{AreInFlight}
use Rattle.md_state.specs.View.{ArrayView, Disk, MirrorView, geometry_of}
use Rattle.md_array.specs.Steps.Add.{AddHappens, Adds, ComesIn, RefusesAdd, add_event, kept_of}
use Rattle.md_array.specs.Consistency.{IsConsistent}
use Rattle.md_array.specs.Events.{Does, Happens}
use Rattle.md_array.specs.ReadAsKept.{AreReadAsKept}
use Rattle.md_array.specs.Worlds.{AreHonest, stored_of, super_of, world_of, lists_of}
use Rattle.md_array.proofs.General.Appended.{got_last}
use Rattle.md_array.proofs.StepLemmas.Add.{added_is_consistent, after, as_long, count_there, is_after, its_number, room, small, width_there}
use Rattle.md_array.proofs.StepLemmas.SpareLaidOut.{all_marked, known_there, none_listed, read_there, super_there}
use Rattle.md_array.proofs.StepLemmas.WrittenLast.{honest_last}
use Rattle.md_array.proofs.Worlds.Joined.{degraded_joined, newcomer, read_joined, role_joined, spare_alone, world_joined}
use Rattle.md_array.proofs.Worlds.ReadMember.{chunk_within as sector_within}
use Rattle.md_array.proofs.Worlds.Risen.{full_as_told, risen_role}

-- ---- its number
module _ (old : MirrorView) (requests : ℕ → Option Request) where
  abbrev a : ArrayView
  a = old.array

  abbrev g : Geometry
  g = geometry_of a

  abbrev w : World
  w = world_of old requests

  as_free : (d : ℕ) → IsFree a.shared a.members d → membership.IsFree g w d
  as_free d free = (free.room, free.unused, free.not_failed)

  as_kept : (d : ℕ) → membership.IsFree g w d → IsFree a.shared a.members d
  as_kept d free = record { room = free.0; unused = free.1; not_failed = free.2 }

  pub numbered : (d : ℕ) → IsNumber a.shared a.members d → membership.IsNumber g w d
  numbered d (inl free) = inl (record { fits = as_free d free.fits; least = λ e other. free.least e (as_kept e other) })
  numbered d (inr least) = inr ((λ e other. least.0 e (as_kept e other)), record { fits = least.1.fits; least = λ e unused. least.1.least e unused })

and_false : (x : Bool) → (x && false) ≡ false
and_false true = refl
and_false false = refl

module _ (k : ℕ) (device : Disk) (old new : MirrorView) (c : IsConsistent old) (r : Adds k device old new) (honest : device.honest ≡ true) where
  abbrev laid : NewMember
  laid = r.comes.laid

  abbrev m : MemberView
  m = kept_of laid

  abbrev now : Disk
  now = r.comes.now

  abbrev sectors : ℕ
  sectors = sectors_of_device device.content

  abbrev b : ArrayView
  b = added old.array laid

  abbrev full : Bool
  full = not (is_degraded old.array)

  same_array : new.array ≡ b
  same_array = r.comes.array

  done : IsLaidOutAs device.content laid now.content
  done = r.comes.laid_out honest

  is_number : laid.superblock.dev_number ≡ r.number
  is_number = its_number old.array r.number sectors laid r.may r.comes.spare

  low_number : laid.superblock.dev_number < 1920
  low_number = small old.array r.number sectors laid r.may r.comes.spare

  long : 2048 ≤ length now.content / 512
  long = let enough = r.may.long in let same = as_long k device old new c r in omega arith

  width : laid.header.chunksize / 512 ≡ old.array.chunks.sectors
  width = width_there old.array r.number sectors laid r.may r.comes.spare c.chunks

  count : laid.marks.chunks ≡ old.array.marks.chunks
  count = count_there old.array r.number sectors laid r.may r.comes.spare c.chunks

  -- bit 2 of its feature map
  bit : has_recovery_offset laid.superblock ≡ false
  bit = ap (λ n. not (bit_and n 2 == 0)) laid.new.places.feature_map

  none_done : laid.superblock.recovery_offset ≡ 0
  none_done = r.comes.spare.spare.superblock.recovery_offset

  -- ---- the mirror's world
  module _ (requests : ℕ → Option Request) where
    may : membership.MayAdd (g old requests) (w old requests) r.number
    may = record { room = room old.array r.number sectors laid r.may r.comes.spare; number = numbered old requests r.number r.may.number }

    its_roles : (d : ℕ) → role_in laid.superblock d ≡ put r.number spare_role (role_at_rise (g old requests) (w old requests)) d
    its_roles d =
        ap (λ (roles : List ℕ). get_or roles d 0xffff) (r.comes.spare.spare.superblock.roles ∙ ap (λ n. joined_roles old.array.shared old.array.members n spare_role) (sym is_number))
        ∙ role_joined old.array m spare_role low_number d
        ∙ ap (λ (f : ℕ → ℕ). put laid.superblock.dev_number spare_role f d) (λ i e. risen_role old.array full e i)
        ∙ ap (λ n. put n spare_role (role_at_rise (g old requests) (w old requests)) d) is_number

    its_super : super_of laid.superblock ≡ membership.joined_super (counts.risen (g old requests) (w old requests) full) r.number 65535 false 0
    its_super = λ i. record { number = is_number i; events = r.comes.spare.spare.superblock.events i; role = λ d. its_roles d i; recovering = bit i; offset = none_done i }

    laid_out : membership.IsLaidOut (g old requests) (counts.risen (g old requests) (w old requests) full) r.number (stored_of b m now.content)
    laid_out = record {
      super = super_there old.array r.number sectors laid r.comes.spare r.comes.readable device.content now.content done ∙ ap Some its_super;
      listed = λ s. unlisted (nat_lt s old.array.chunks.size) _ (none_listed old.array r.number sectors laid r.comes.spare r.comes.readable device.content now.content done (laid.superblock.data_offset + s));
      bits = λ s low.
          let within = chunk_within s low in
          both (lt-ltb (chunk_of (g old requests) s) old.array.marks.chunks within)
          (all_marked old.array r.number sectors laid r.comes.spare r.comes.readable device.content now.content done long (chunk_of (g old requests) s) (subst (λ n. chunk_of (g old requests) s < n) (sym count) within));
    }
      where
        unlisted : (x y : Bool) → y ≡ false → (x && y) ≡ false
        unlisted true y none = none
        unlisted false y none = refl

        both : {x y : Bool} → x ≡ true → y ≡ true → (x && y) ≡ true
        both e f = rw (e, f) refl

        counted : laid.marks.chunks ≡ chunk_count old.array.chunks.size laid.header.chunksize
        counted = r.comes.spare.spare.marks.chunks_are ∙ ap (λ (n : ℕ). chunk_count n laid.header.chunksize) (sym c.chunks.size)

        chunk_within : (s : ℕ) → s < old.array.chunks.size → s / old.array.chunks.sectors < old.array.marks.chunks
        chunk_within s low = sector_within old.array.chunks.size old.array.chunks.sectors laid.header.chunksize old.array.marks.chunks s laid.header.sound.chunk_size (sym width) (sym count ∙ counted) low

    known : (n : ℕ) → (nat_lt n old.array.marks.chunks && is_set m.stored.bytes n) ≡ (stored_of b m now.content).bits n
    known = known_there old.array r.number sectors laid r.comes.spare r.comes.readable device.content now.content done long count

    lists : (s : ℕ) → lists_of b m s ≡ (stored_of b m now.content).listed s
    lists s = and_false (nat_lt s old.array.chunks.size) ∙ sym (laid_out.listed s)

    its_newcomer : newcomer old.array m spare_role low_number now.content
        ≡ record { number = r.number; role = 65535; state = model.State.Spare; recovering = false; offset = 0; sure_offset = 0; device = stored_of b m now.content }
    its_newcomer = λ i. record { number = is_number i; role = 65535; state = model.State.Spare; recovering = bit i; offset = none_done i; sure_offset = none_done i; device = stored_of b m now.content }

    world_added : world_of new requests ≡ membership.added (g old requests) (w old requests) r.number (stored_of b m now.content) full
    unfolding after
    world_added =
        ap (λ (v : MirrorView). world_of v requests) (is_after k device old new c r)
        ∙ world_joined old.array m spare_role low_number old.disks now requests c.fits.as_many refl refl known lists
        ∙ ap (λ (n : membership.Newcomer). membership.joined (counts.risen (g old requests) (w old requests) full) n) its_newcomer

    still_full : is_degraded new.array ≡ is_degraded old.array
    still_full = ap is_degraded same_array ∙ degraded_joined old.array m spare_role low_number (spare_alone old.array m spare_role refl)

    full_after : (full ≡ true) ↔ IsFull (g old requests) (world_of new requests)
    full_after =
        subst (λ (x : Geometry). (full ≡ true) ↔ IsFull x (world_of new requests)) (ap geometry_of same_array)
        (subst (λ t. (not t ≡ true) ↔ IsFull (geometry_of new.array) (world_of new requests)) still_full
        (full_as_told new.disks new.array requests (added_is_consistent k device old new c r).roles))

    step : Step (g old requests) (w old requests) (Event.Add r.number (stored_of b m now.content)) (world_of new requests)
    step = (r.may.running, (full, may, laid_out, full_after, world_added))

  add_read : (failed_at : ℕ) (spoiled : ℕ → Bool) → AreReadAsKept old failed_at spoiled → AreReadAsKept new failed_at (put (length old.array.members) false spoiled)
  unfolding after
  add_read failed_at spoiled are =
      subst (λ (v : MirrorView). AreReadAsKept v failed_at (put (length old.array.members) false spoiled)) (sym (is_after k device old new c r))
      (read_joined old.array m spare_role low_number old.disks now failed_at spoiled c.fits.as_many
      (λ s. read_there old.array r.number sectors laid r.comes.spare r.comes.readable device.content now.content done long failed_at s width)
      are)

  honest_now : AreHonest old.disks → AreHonest new.disks
  honest_now all = subst AreHonest (sym r.comes.disks) (honest_last old.disks now all (r.comes.writes.kept.honest_kept ∙ honest))

  does : AreHonest old.disks → (requests : ℕ → Option Request) → AreInFlight old.array requests → Does old requests (Event.Add r.number (stored_of b m now.content)) new requests
  does all requests listed =
      let e : Event = Event.Add r.number (stored_of b m now.content) in
      record {
        honest = honest_now all;
        writes = record { was = device; honest = honest; now = now; writes = writes_of laid; done = r.comes.writes; disks = r.comes.disks };
        in_flight = subst (λ (x : ArrayView). AreInFlight x requests) (sym same_array) listed;
        geometry = ap geometry_of same_array;
        step = step requests;
        content = λ x y holds becomes. between_step (g old requests) (world_of old requests) e (world_of new requests) x y (step requests) becomes holds;
        written = in_flight_step (g old requests) (world_of old requests) e (world_of new requests) (step requests);
        sound = added_is_consistent k device old new c r;
        lists = tt;
        read = add_read;
      }

  pub add_happens : Happens old (add_event k device old new r) new
  add_happens all requests listed =
      subst (λ (x : ArrayView). Does old requests (Event.Add r.number (stored_of x m now.content)) new requests) (sym same_array)
      (does all requests listed)

  last_member : IsMember new.array k m
  last_member =
      ap (λ (x : ArrayView). slice_get x.members k) same_array
      ∙ ap (slice_get (map made_due old.array.members ++ m ∷ [])) (r.comes.last ∙ sym (length-map old.array.members made_due))
      ∙ got_last (map made_due old.array.members) m

  last_disk : slice_get new.disks k ≡ Some now
  last_disk =
      ap (λ (disks : List Disk). slice_get disks k) r.comes.disks
      ∙ ap (slice_get (old.disks ++ now ∷ [])) (r.comes.last ∙ sym c.fits.as_many)
      ∙ got_last old.disks now

  comes_in : ComesIn k old new
  comes_in = record { number = r.number; member = m; at = last_member; now = now; is = last_disk; happens = add_happens }

-- whatever it answers
pub add_is_event : {D : Type 0} (of : D → Disk) (device : Disk) (old new : MirrorView) (c : IsConsistent old) (result : Result ℕ (D × AddFault))
    → MatchResult result (λ k. Adds k device old new) (λ e. RefusesAdd device (of e.0) old new e.1) → AddHappens device old new result
add_is_event of device old new c (Ok k) r = λ honest. comes_in k device old new c r honest
add_is_event of device old new c (Err e) r = tt
