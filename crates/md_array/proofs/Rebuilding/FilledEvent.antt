-- A member that is rebuilt gets data in chunks that it lacks: that is the model's event.
use Rattle.std.proofs.Common.{◌≡◌, ◌≢◌, ℕ, ◌+◌, ◌*◌, ◌/◌, ◌<◌, ◌≤◌, ◌⊎◌, inl, inr, true, false, true≢false, cond, ◌&&◌, nat_lt, List, [], drop, length, slice_get, Option, Some, refl, sym, ap, ◌∙◌, subst, arith, get_or-drop}
use Rattle.std.proofs.lemmas.Bool.{and_from, and_parts, cases_lt}
use Rattle.std.proofs.lemmas.Nat.{div_below, le-div}
use Rattle.std.proofs.lemmas.Option.{same_Some, slice_get_within}
use Rattle.std.proofs.Math.Nat.{add-mul, div-mul-le_self}
use Rattle.md_model.specs.Sectors.{is_passed}
use Rattle.md_model.specs.Devices.{Stored}
use Rattle.md_model.specs.Events.{Event, Step}
use Rattle.md_model.specs.Rebuilding as model
use Rattle.md_model.specs.States as states
use Rattle.md_model.specs.Steps as steps
use Rattle.md_model.specs.Worlds.{Request, World}
use Rattle.md_model.proofs.Cases.{below-nat_lt, by_option, is_below, not_below-nat_lt}
use Rattle.md_model.proofs.Puts.{by_same}
use Rattle.md_kept_members.specs.OnDevices.Storing.{sector_from_super}
use Rattle.md_kept_members.proofs.OnDeviceLemmas.Beside.{sector_at_is}
use Rattle.md_array.proofs.Worlds.States.{same_in_sync, same_recovering}
use Rattle.md_array.proofs.Worlds.Noted.{noted_there}
use Rattle.md_array.specs.Consistency.{IsConsistent}
use Rattle.md_array.specs.Events.{Happens, IsSameBesideUnsaid}
use Rattle.md_array.specs.Steps.Fill.{Fills, MayRebuild}
use Rattle.md_array.specs.Steps.Lend.{ComesBackFromLoan, IsBesideChunk}
use Rattle.md_array.specs.Worlds.{AreHonest, header_fits, kind_of, stored_of, super_in, world_of}
use Rattle.md_array.proofs.General.Tests.{and_same}
use Rattle.md_array.proofs.Rebuilding.OneDevice.{IsOnlyAt, changed_only, only_does, only_left, only_world}
use Rattle.md_array.proofs.StepLemmas.Lend.{block_back, header_back, in_area, log_back, read_back}
use Rattle.md_array.proofs.StepLemmas.MakeClean.{none_listed}
use Rattle.md_array.proofs.StepLemmas.OneMember.{member_there, stored_there}
use Rattle.md_array.proofs.Worlds.Listed as lists
use Rattle.md_array.proofs.Worlds.Outside.{byte_of_part}
use Rattle.md_array.proofs.Worlds.PartsApart.{HasParts, parts_of}
use Rattle.md_array.proofs.Worlds.Writes.{is_set-same, within_area}
use Rattle.md_assembly.specs.declared.state.MemberState.{MemberState}
use Rattle.md_assembly.specs.declared.state.MemberState.TheVariants.{InSync, Recovering, Stale, Spare, Faulty}
use Rattle.md_assembly.specs.States.{is_in_sync, is_recovering}
use Rattle.md_assembly.proofs.Indices.{got_within}
use Rattle.md_bitmap.specs.declared.chunks.Chunks.{Chunks}
use Rattle.md_bitmap.specs.Marks.{is_set}
use Rattle.md_device.specs.Splice.{part}
use Rattle.md_format.specs.Fields.{number_at}
use Rattle.md_kept_members.specs.TakingBack.{member_says_of}
use Rattle.md_kept_members.specs.View.{MemberView}
use Rattle.md_members.specs.Areas.{bitmap_area, bitmap_sectors}
use Rattle.md_state.specs.Members.{IsMember}
use Rattle.md_state.specs.Missing.{is_missing, is_rebuilt}
use Rattle.md_state.specs.Requests.{AreInFlight}
use Rattle.md_state.specs.View.{ArrayView, Disk, MirrorView, geometry_of}

-- ---- a chunk that a sector is not of lies beside it
other_chunk : (chunks : Chunks) (offset s c : ℕ) → 0 < chunks.sectors → s / chunks.sectors ≢ c → IsBesideChunk chunks offset (512 * (offset + s)) 512 c
other_chunk chunks offset s c wide other =
    let w : ℕ = chunks.sectors in
    let expand : (c + 1) * w ≡ c * w + 1 * w = add-mul c 1 w in
    elim (cases_lt (s / w) c) [
      | inl before ↦ inl (elim (cases_lt s (c * w)) [
        | inl low ↦ omega arith
        | inr high ↦ let reaches : c ≤ s / w = le-div c s w wide high in absurd (omega (arith, before))
      ])
      | inr behind ↦ inr (elim (cases_lt s ((c + 1) * w)) [
        | inl low ↦ let short : s / w < c + 1 = div_below s w (c + 1) wide low in absurd (other (omega arith))
        | inr high ↦ omega arith
      ])
    ]

-- ---- the model's chunks that a member lacks are those of the array
rebuilt_out : (s : MemberState) → is_rebuilt s ≡ true → (states.is_in_sync (kind_of s) ≡ false) × (is_in_sync s ≡ false)
rebuilt_out (InSync role) h = absurd cc
rebuilt_out (Recovering role) h = (refl, refl)
rebuilt_out (Stale role) h = absurd cc
rebuilt_out Spare h = (refl, refl)
rebuilt_out Faulty h = absurd cc

pub rebuilt_target : (s : MemberState) → is_rebuilt s ≡ true → model.is_target (kind_of s) ≡ true
rebuilt_target (InSync role) h = absurd cc
rebuilt_target (Recovering role) h = refl
rebuilt_target (Stale role) h = absurd cc
rebuilt_target Spare h = refl
rebuilt_target Faulty h = absurd cc

module _ (k : ℕ) (v : MirrorView) (requests : ℕ → Option Request) (may : MayRebuild k v.array) where
  abbrev target : MemberView
  target = may.member

  state_is : (world_of v requests).state k ≡ kind_of target.state
  state_is = member_there v.array k target states.State.Faulty (λ x. kind_of x.state) may.at

  in_sync_is : states.is_in_sync ((world_of v requests).state k) ≡ is_in_sync target.state
  in_sync_is = ap states.is_in_sync state_is ∙ same_in_sync target.state

  pub recovering_is : states.is_recovering ((world_of v requests).state k) ≡ is_recovering target.state
  recovering_is = ap states.is_recovering state_is ∙ same_recovering target.state

  offset_is : (world_of v requests).offset k ≡ target.offset
  offset_is = member_there v.array k target 0 (λ x. x.offset) may.at

  pub same_missing : (c : ℕ) → c < v.array.marks.chunks → model.is_missing (geometry_of v.array) (world_of v requests) k c ≡ is_missing v.array target c
  same_missing c low =
      let marked : (nat_lt c v.array.marks.chunks && is_set v.array.marks.bytes c) ≡ is_set v.array.marks.bytes c = ap (λ b. b && is_set v.array.marks.bytes c) (below-nat_lt c v.array.marks.chunks low) in
      λ i. model.lacks (in_sync_is i) (recovering_is i) (marked i) (is_passed (geometry_of v.array) (offset_is i) c)

  pub may_rebuild : AreInFlight v.array requests → model.MayRebuild (world_of v requests) k
  may_rebuild in_flight = record {
    idle = λ n. by_option (requests n) (λ none. none) (λ q is. absurd (none_listed v.array.requests.entries n (record { start = q.start; sectors = q.sectors }) may.idle.none (in_flight n q is)));
    target = ap model.is_target state_is ∙ rebuilt_target target.state may.rebuilt;
  }

-- ---- beside the data nothing changes
module _ (old : MirrorView) (sound : IsConsistent old) (m : MemberView) (d e : Disk) (back : ComesBackFromLoan old.array m d e) (has : HasParts old.array m d.content) where
  bits_back : (c : ℕ) → c < old.array.marks.chunks
      → is_set (drop (512 * sector_from_super m.superblock.bitmap_offset + 256) e.content) c ≡ is_set (drop (512 * sector_from_super m.superblock.bitmap_offset + 256) d.content) c
  bits_back c low =
      let start : ℕ = sector_from_super m.superblock.bitmap_offset in
      let width : ℕ = bitmap_sectors m.stored.chunks in
      let inside : 256 + c / 8 < 512 * width = within_area m.stored.chunks c (subst (λ n. c < n) (sym has.count) low) in
      let p : ℕ = 512 * start + 256 + c / 8 in
      is_set-same (drop (512 * start + 256) e.content) (drop (512 * start + 256) d.content) c
      (get_or-drop (512 * start + 256) e.content (c / 8) 0
      ∙ byte_of_part p d.content e.content
      (in_area old sound m d e back has (bitmap_area m.superblock width) start (sector_at_is (bitmap_area m.superblock width).start has.bitmap.within.from) has.bitmap.from_data p 1 (omega arith) (omega arith))
      ∙ sym (get_or-drop (512 * start + 256) d.content (c / 8) 0))

  pub data_back : stored_of old.array m e.content ≡ record (stored_of old.array m d.content) { content = (stored_of old.array m e.content).content }
  data_back =
      let block = block_back old sound m d e back has in
      let log = log_back old sound m d e back has in
      let header = header_back old sound m d e back has in
      λ i. record {
        super = super_in (block i);
        content = (stored_of old.array m e.content).content;
        listed = λ s. (nat_lt s old.array.chunks.size && lists.listed_kept m.superblock d.content e.content log (m.superblock.data_offset + s) block i);
        bits = λ c. and_same (nat_lt c old.array.marks.chunks) (is_set (drop (512 * sector_from_super m.superblock.bitmap_offset + 256) e.content) c)
            (is_set (drop (512 * sector_from_super m.superblock.bitmap_offset + 256) d.content) c) (λ low. bits_back c (is_below c old.array.marks.chunks low)) i;
        bitmap_events = number_at 8 24 (header i);
        bitmap_cleared = number_at 8 32 (header i);
        bitmap_fits = header_fits old.array (header i);
      }

-- ---- the event
module _ (k : ℕ) (old new : MirrorView) (c : IsConsistent old) (f : Fills k old new) (honest : AreHonest old.disks) where
  abbrev a : ArrayView
  a = old.array

  abbrev m : MemberView
  m = f.may.member

  back_at : (j : ℕ) (d e : Disk) (n : MemberView) → slice_get old.disks j ≡ Some d → slice_get new.disks j ≡ Some e → IsMember a j n → ComesBackFromLoan a n d e
  back_at j d e n was is at = by_same j k
      (λ here.
      let was_k : slice_get old.disks k ≡ Some d = sym (ap (slice_get old.disks) here) ∙ was in
      let is_k : slice_get new.disks k ≡ Some e = sym (ap (slice_get new.disks) here) ∙ is in
      let same : n ≡ m = same_Some n m (sym at ∙ ap (slice_get a.members) here ∙ f.may.at) in
      let changed = f.disks.changed d e was_k is_k (honest k d was_k) in
      subst (λ (x : MemberView). ComesBackFromLoan a x d e) (sym same) (record {
        stays = f.disks.stays d e was_k is_k;
        size = changed.size;
        beside = λ at n h. changed.beside at n (λ x low missing _. h x low missing);
        others = λ h. absurd (true≢false (sym f.may.rebuilt ∙ h));
      }))
      (λ apart. let o = f.disks.others j apart d e was is in record {
        stays = o.0;
        size = ap (λ (x : List ℕ). length x) o.1.0;
        beside = λ at n _. ap (λ (x : List ℕ). part x at n) o.1.0;
        others = λ _. o.1.0;
      })

  only : IsOnlyAt k old.disks new.disks
  only = changed_only k (IsSameBesideUnsaid a m) old.disks new.disks f.disks

  module _ (requests : ℕ → Option Request) (in_flight : AreInFlight a requests) (d e : Disk) (was : slice_get old.disks k ≡ Some d) (is : slice_get new.disks k ≡ Some e) where
    abbrev w : World
    w = world_of old requests

    abbrev left : Stored
    left = only_left k m old new c f.may.at f.may.rebuilt f.array only requests

    parts : HasParts a m d.content
    parts = parts_of old c k d m was f.may.at

    was_stored : w.stored k ≡ stored_of a m d.content
    was_stored = stored_there old.disks a k m d f.may.at was

    is_stored : left ≡ stored_of a m e.content
    is_stored = stored_there new.disks a k m e f.may.at is

    -- a sector of a chunk that it does not lack stays, and one of a chunk that its superblock says that it has
    sector_stays : (s : ℕ) → (model.is_missing (geometry_of a) w k (s / a.chunks.sectors) ≡ false) ⊎ (member_says_of (s / a.chunks.sectors * a.chunks.sectors) m ≡ true)
        → part e.content (512 * (m.superblock.data_offset + s)) 512 ≡ part d.content (512 * (m.superblock.data_offset + s)) 512
    sector_stays s has = (f.disks.changed d e was is (honest k d was)).beside (512 * (m.superblock.data_offset + s)) 512
        (λ x low missing unsaid. other_chunk a.chunks m.superblock.data_offset s x c.chunks.wide
        (λ same. elim has [
          | inl here ↦ true≢false (sym missing ∙ sym (same_missing k old requests f.may x low) ∙ sym (ap (model.is_missing (geometry_of a) w k) same) ∙ here)
          | inr said ↦ true≢false (sym said ∙ ap (λ (b : ℕ). member_says_of (b * a.chunks.sectors) m) same ∙ unsaid)
        ]))

    content_stays : (s : ℕ) → (model.is_missing (geometry_of a) w k (s / a.chunks.sectors) ≡ false) ⊎ (member_says_of (s / a.chunks.sectors * a.chunks.sectors) m ≡ true)
        → left.content s ≡ (w.stored k).content s
    content_stays s has =
        ap (λ (x : Stored). x.content s) is_stored
        ∙ ap (λ (x : List ℕ). cond (nat_lt s a.chunks.size) x []) (sector_stays s has)
        ∙ sym (ap (λ (x : Stored). x.content s) was_stored)

    -- whose superblock says that it has a sector says so of the chunk's start
    said_start : (s : ℕ) → steps.says_of w s k ≡ true → member_says_of (s / a.chunks.sectors * a.chunks.sectors) m ≡ true
    said_start s on =
        let parts = and_parts (states.is_recovering (w.state k)) (nat_lt s (w.stored_offset k)) on in
        let stored : w.stored_offset k ≡ m.stored_offset = member_there a k m 0 (λ x. x.stored_offset) f.may.at in
        let low = is_below s (w.stored_offset k) parts.1 in
        let start = div-mul-le_self s a.chunks.sectors in
        and_from (is_recovering m.state) (nat_lt (s / a.chunks.sectors * a.chunks.sectors) m.stored_offset)
        (sym (recovering_is k old requests f.may) ∙ parts.0)
        (below-nat_lt (s / a.chunks.sectors * a.chunks.sectors) m.stored_offset (omega (arith, start, low, stored)))

    by_filling : model.LeftByFilling (geometry_of a) w k left
    by_filling = record {
      rest = is_stored ∙ data_back old c m d e (back_at k d e m was is f.may.at) parts
          ∙ (λ i. record (sym was_stored i) { content = ap (λ (x : Stored). x.content) (sym is_stored) i });
      outside = λ s has. content_stays s (inl has);
      past = λ s past.
          let none : nat_lt s a.chunks.size ≡ false = not_below-nat_lt s a.chunks.size past in
          ap (λ (x : Stored). x.content s) is_stored
          ∙ ap (λ b. cond b (part e.content (512 * (m.superblock.data_offset + s)) 512) []) none
          ∙ sym (ap (λ b. cond b (part d.content (512 * (m.superblock.data_offset + s)) 512) []) none)
          ∙ sym (ap (λ (x : Stored). x.content s) was_stored);
      said = λ s on. content_stays s (inr (said_start s on));
    }

    may_fill : model.MayFill w k
    may_fill = record {
      rebuild = may_rebuild k old requests f.may in_flight;
      noted = λ on. noted_there old requests (f.noted (sym (recovering_is k old requests f.may) ∙ on));
    }

    fill_step : Step (geometry_of a) w (Event.Fill k) (world_of new requests)
    fill_step = (f.may.idle.running, (left, may_fill, by_filling, only_world k m old new c f.may.at f.may.rebuilt f.array only requests))

pub fill_happens : (k : ℕ) (old new : MirrorView) → IsConsistent old → Fills k old new → Happens old (Event.Fill k) new
fill_happens k old new c f honest requests in_flight =
    let low = slice_get_within old.array.members k f.may.member f.may.at in
    let as_many = c.fits.as_many in
    let many = f.disks.as_many in
    let d = got_within old.disks k (omega arith) in
    let e = got_within new.disks k (omega arith) in
    only_does k f.may.member old new c f.may.at f.may.rebuilt f.array (only k old new c f honest) requests (Event.Fill k) honest
    (old.array, f.may.member, f.disks) in_flight
    (fill_step k old new c f honest requests in_flight d.0 e.0 d.1 e.1)
    tt (λ _. refl) (λ spoiled j apart. refl)
    (λ failed_at spoiled b x was is. read_back old c f.may.member b x (back_at k old new c f honest k b x f.may.member was is f.may.at)
    (parts_of old c k b f.may.member was f.may.at) failed_at (spoiled k))
