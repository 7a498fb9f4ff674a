-- A recovering member records how far it is rebuilt: that is the model's event.
use Rattle.std.proofs.Common.{◌≡◌, ℕ, ◌+◌, ◌*◌, ◌/◌, ◌<◌, ◌≤◌, inl, inr, Bool, true, false, cond, ◌&&◌, List, [], set, slice_get, Option, sym, ap, ◌∙◌, subst, arith}
use Rattle.std.specs.Int.{div_ceil}
use Rattle.std.proofs.lemmas.Bool.{cases_lt}
use Rattle.std.proofs.lemmas.Grind.{div_ceil_times}
use Rattle.std.proofs.lemmas.Nat.{div_below}
use Rattle.std.proofs.lemmas.Option.{same_Some, slice_get_within}
use Rattle.std.proofs.Math.Nat.{div-mul-le_self, mul-le-mul_right}
use Rattle.md_assembly.proofs.Indices.{got_within}
use Rattle.md_bitmap.specs.Marks.{Bitmap, is_set}
use Rattle.md_device.specs.Splice.{part}
use Rattle.md_kept_members.specs.Members.{recorded_member}
use Rattle.md_kept_members.specs.View.{MemberView}
use Rattle.md_model.specs.Content.{Content}
use Rattle.md_model.specs.Devices.{Stored}
use Rattle.md_model.specs.Events.{Event, Step}
use Rattle.md_model.specs.Rebuilding as model
use Rattle.md_model.specs.Sectors.{Geometry}
use Rattle.md_model.specs.States as states
use Rattle.md_model.specs.Steps as steps
use Rattle.md_model.specs.Worlds.{Request, World}
use Rattle.md_model.proofs.Cases.{below-nat_lt, by_test}
use Rattle.md_model.proofs.Puts.{put-hit}
use Rattle.md_model.proofs.Steps.Between.{between_step, in_flight_step}
use Rattle.md_kept_members.specs.OnDevices.Superblocks.{IsReadable}
use Rattle.md_state.specs.Steps.Checkpoint.{EndsCheckpoint, IsFirstEnd, checked, with_member_at}
use Rattle.md_state.specs.Missing.{is_missing}
use Rattle.md_state.specs.Requests.{AreInFlight}
use Rattle.md_state.specs.View.{ArrayView, Disk, MirrorView, geometry_of}
use Rattle.md_state.specs.DiskWrites.{IsWritten}
use Rattle.md_array.specs.Steps.Checkpoint.{Checkpoints, MayCheckpoint}
use Rattle.md_array.specs.Consistency.{IsConsistent}
use Rattle.md_array.specs.Steps.Enrol.{HoldsContent}
use Rattle.md_array.specs.Events.{Happens, ListsStill, listed_on}
use Rattle.md_array.specs.Steps.Fill.{MayRebuild}
use Rattle.md_array.specs.Steps.Record.{Records, super_write}
use Rattle.md_array.specs.Worlds.{AreHonest, is_listed, kind_of, world_of}
use Rattle.md_array.proofs.General.Indices.{at_set_same}
use Rattle.md_array.proofs.Rebuilding.CopiedContent as some
use Rattle.md_array.proofs.Rebuilding.FilledEvent.{same_missing}
use Rattle.md_array.proofs.Rebuilding.HeldContent.{its_chunk}
use Rattle.md_array.proofs.Rebuilding.InBetween.{recovers_rebuilt}
use Rattle.md_array.proofs.Rebuilding.OffsetMoved.{moved_read, set_again, world_moved}
use Rattle.md_array.proofs.StepLemmas.OneMember.{member_there, stored_there}
use Rattle.md_array.proofs.Worlds.InSync.{in_sync_there}
use Rattle.md_array.proofs.Worlds.SectorCopied.{none_there}
use Rattle.md_array.proofs.Worlds.States.{same_recovering}
use Rattle.md_super.specs.Merge.{merged}
use Rattle.md_members.specs.DeviceWrites.Writes.{Write}

module _ (k : ℕ) (copied : Bitmap) (old : MirrorView) (c : IsConsistent old) (may : MayCheckpoint k copied old) (sure : ℕ) (first : IsFirstEnd old.array may.member copied sure)
    (honest : AreHonest old.disks) (content : Content) (has : HoldsContent old.disks old.array content) (running : old.array.halted ≡ false) (requests : ℕ → Option Request) (in_flight : AreInFlight old.array requests) where
  abbrev a : ArrayView
  a = old.array

  abbrev m : MemberView
  m = may.member

  abbrev w : World
  w = world_of old requests

  abbrev g : Geometry
  g = geometry_of a

  rebuild : MayRebuild k a
  rebuild = record { idle = may.idle; member = m; at = may.at; rebuilt = recovers_rebuilt m.state may.recovering }

  recovers : states.is_recovering (w.state k) ≡ true
  recovers = ap states.is_recovering (member_there a k m states.State.Faulty (λ x. kind_of x.state) may.at) ∙ same_recovering m.state ∙ may.recovering

  module _ (s : ℕ) (low : s < g.size) (missing : model.is_missing g w k (s / g.width) ≡ true) (before : s < sure) where
    abbrev chunk : ℕ
    chunk = s / g.width

    chunk_low : chunk < a.marks.chunks
    chunk_low =
        let bounds = div_ceil_times a.chunks.size a.chunks.sectors c.chunks.wide in
        subst (λ (x : ℕ). chunk < x) (sym c.chunks.count) (div_below s a.chunks.sectors (div_ceil a.chunks.size a.chunks.sectors) c.chunks.wide (omega (arith, bounds.0)))

    lacked : is_missing a m chunk ≡ true
    unfolding rebuild
    lacked = sym (same_missing k old requests rebuild chunk chunk_low) ∙ missing

    -- ---- it was copied
    copied_at : is_set copied.bytes chunk ≡ true → model.IsCopiedAt w k s
    copied_at set =
        let within = slice_get_within a.members k m may.at in
        let many = c.fits.as_many in
        let d = got_within old.disks k (omega arith) in
        let inside = its_chunk a.chunks.size a.chunks.sectors s c.chunks.wide low in
        let holds : (other : Content) → HoldsContent old.disks a other → part d.0.content (512 * (m.superblock.data_offset + s)) 512 ≡ other s =
        λ other held. may.holds honest other held d.0 m d.1 may.at chunk s (subst (λ x. chunk < x) (sym may.copied_chunks) chunk_low) set inside in
        let x = some.one_has_it old.disks a s content (part d.0.content (512 * (m.superblock.data_offset + s)) 512) has holds in
        let test = below-nat_lt s a.chunks.size low in
        let from_is = stored_there old.disks a x.index x.member x.disk x.in_sync.member x.at_disk in
        record {
          from = x.index;
          in_sync = in_sync_there old.disks a requests x.index x.member x.in_sync;
          unlisted = ap (λ (y : Stored). y.listed s) from_is
              ∙ ap (λ b. b && is_listed x.member.superblock x.disk.content (x.member.superblock.data_offset + s)) test ∙ x.unlisted;
          same = ap (λ (y : Stored). y.content s) (stored_there old.disks a k m d.0 may.at d.1)
              ∙ ap (λ b. cond b (part d.0.content (512 * (m.superblock.data_offset + s)) 512) []) test
              ∙ holds content has
              ∙ sym (has.held x.index x.disk x.member x.at_disk x.in_sync s low x.unlisted)
              ∙ sym (ap (λ b. cond b (part x.disk.content (512 * (x.member.superblock.data_offset + s)) 512) []) test)
              ∙ sym (ap (λ (y : Stored). y.content s) from_is);
        }

    -- ---- it stops the offset otherwise, at its start or before it
    stopped : is_set copied.bytes chunk ≡ false → ⊥
    stopped clear =
        let stops : EndsCheckpoint a m copied chunk = inl (lacked, clear) in
        let start = div-mul-le_self s a.chunks.sectors in
        elim first [
          | inl x ↦
              let early : x.0 ≤ chunk = (elim (cases_lt chunk x.0) [ inl earlier ↦ absurd (x.3 chunk earlier stops) | inr late ↦ late ]) in
              let least = mul-le-mul_right a.chunks.sectors early in
              let is = x.4 in
              omega (arith, start, least, is, before)
          | inr none ↦ none.0 chunk chunk_low stops
        ]

    was_copied : model.IsCopiedAt w k s
    was_copied = by_test (is_set copied.bytes chunk) (λ set. copied_at set) (λ clear. absurd (stopped clear))

  pub may_checkpoint : model.MayCheckpoint g w k sure
  may_checkpoint = record {
    idle = none_there a requests in_flight may.idle.none;
    recovering = recovers;
    resynced = may.resynced;
    copied = was_copied;
  }

-- ---- its superblock is stored with that offset
module _ (k : ℕ) (copied : Bitmap) (old mid new : MirrorView) (c : IsConsistent old) (may : MayCheckpoint k copied old) (sure : ℕ) (first : IsFirstEnd old.array may.member copied sure)
    (moved : mid ≡ record old { array = with_member_at old.array k (checked sure may.member) }) (r : Records k mid new) (sound : IsConsistent new) (happens : Happens mid (Event.Record k) new) where
  abbrev was : ArrayView
  was = old.array

  abbrev n : MemberView
  n = checked sure may.member

  mid_array : mid.array ≡ with_member_at was k n
  mid_array = ap (λ (v : MirrorView). v.array) moved

  recorded_is : r.member ≡ n
  recorded_is = same_Some r.member n (sym r.may.at ∙ ap (λ (x : ArrayView). slice_get x.members k) mid_array ∙ at_set_same was.members k n (slice_get_within was.members k may.member may.at))

  pub checkpoints : Checkpoints k copied old new
  checkpoints = record {
    may = may;
    sure = sure;
    first = first;
    readable = subst (λ (x : MemberView). IsReadable (merged was.shared x.superblock)) recorded_is (subst (λ (x : ArrayView). IsReadable (merged x.shared r.member.superblock)) mid_array r.may.readable);
    array =
        r.array
        ∙ ap (λ (m : MemberView). with_member_at mid.array k (recorded_member m)) recorded_is
        ∙ ap (λ (x : ArrayView). with_member_at x k (recorded_member n)) mid_array
        ∙ ap (λ (xs : List MemberView). record was { members = xs }) (set_again was.members k n (recorded_member n));
    disks = subst (λ (x : MemberView). IsWritten k (super_write was x) old.disks new.disks) recorded_is
        (subst (λ (x : ArrayView). IsWritten k (super_write x r.member) old.disks new.disks) mid_array
        (subst (λ (xs : List Disk). IsWritten k (super_write mid.array r.member) xs new.disks) (ap (λ (v : MirrorView). v.disks) moved) r.disks));
  }

  pub checkpoint_happens : (content : Content) → HoldsContent old.disks was content → Happens old (Event.Checkpoint k sure (listed_on new k)) new
  checkpoint_happens content has honest requests in_flight =
      let same_disks : mid.disks ≡ old.disks = ap (λ (v : MirrorView). v.disks) moved in
      let then_flying : AreInFlight mid.array requests = subst (λ (x : ArrayView). AreInFlight x requests) (sym mid_array) in_flight in
      let did = happens (subst AreHonest (sym same_disks) honest) requests then_flying in
      let event : Event = Event.Checkpoint k sure (listed_on new k) in
      let w : World = world_of old requests in
      let listed : ℕ → Bool = did.step.1.0 in
      let is = did.step.1.3 in
      let between : world_of mid requests ≡ model.with_offset w k sure = world_moved k sure old mid c may.member may.at moved requests in
      let lists : listed ≡ listed_on new k =
      sym (ap (λ (x : World). (x.stored k).listed) is ∙ ap (λ (d : Stored). d.listed) (put-hit k (steps.recorded_device (world_of mid requests) k listed) (world_of mid requests).stored)) in
      let world : world_of new requests ≡ model.checkpointed w k sure (listed_on new k) =
      is ∙ (λ i. steps.recorded (between i) k (lists i)) in
      let step : Step (geometry_of was) w event (world_of new requests) = (may.idle.running, (may_checkpoint k copied old c may sure first honest content has may.idle.running requests in_flight, world)) in
      let array = checkpoints.array in
      record {
        honest = did.honest;
        writes = subst (λ (xs : List Disk). (w : Write) × IsWritten k w xs new.disks) same_disks did.writes;
        in_flight = did.in_flight;
        geometry = ap geometry_of array;
        step = step;
        content = λ x y holds becomes. between_step (geometry_of was) w event (world_of new requests) x y step becomes holds;
        written = in_flight_step (geometry_of was) w event (world_of new requests) step;
        sound = sound;
        lists = subst (λ (x : World). ListsStill k x (world_of new requests)) between did.lists;
        read = λ failed_at spoiled are. did.read failed_at spoiled (moved_read k n.offset sure n.due old mid c may.member may.at moved failed_at spoiled are);
      }
