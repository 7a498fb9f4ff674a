-- A request that is in flight is one of the mirror's list: so its sectors lie within the array, and what is asked of a write of its bytes, the model
-- asks.
use Rattle.std.proofs.Common.{◌≡◌, ◌∙◌, ℕ, ◌+◌, ◌-◌, ◌*◌, ◌/◌, ◌%◌, ◌<◌, ◌≤◌, false, ◌&&◌, nat_lt, List, [], length, drop, take, min, Option, Some, sym, ap, subst, arith}
use Rattle.std.proofs.lemmas.Bool.{and_from}
use Rattle.std.proofs.lemmas.List.{drop_all, length-drop, length-take}
use Rattle.md_bitmap.specs.Marks.{is_set}
use Rattle.md_bitmap.proofs.Limits.{div-lt-div_ceil}
use Rattle.md_device.specs.Splice.{part}
use Rattle.md_inflight.specs.Inflight.{lookup}
use Rattle.md_kept_members.specs.View.{MemberView}
use Rattle.md_model.specs.States as model
use Rattle.md_model.specs.Steps as steps
use Rattle.md_model.specs.Worlds.{Request}
use Rattle.md_model.proofs.Cases.{below-nat_lt}
use Rattle.md_model.proofs.Puts.{put-hit}
use Rattle.md_inflight.specs.Requests.Pending.{PendingView, extent_of, has_written, request_sectors}
use Rattle.md_state.specs.Requests.{AreInFlight, among, request_of}
use Rattle.md_state.specs.View.{MirrorView, geometry_of}
use Rattle.md_state.specs.Members.{IsMember}
use Rattle.md_state.specs.Steps.Begin.{first_sector}
use Rattle.md_state.specs.Steps.WriteMember.{IsUnsaid, MayWrite}
use Rattle.md_array.specs.Consistency.{IsConsistent}
use Rattle.md_array.specs.Worlds.{kind_of, world_of}
use Rattle.md_array.proofs.StepLemmas.InFlight.{is_touched}
use Rattle.md_array.proofs.StepLemmas.OneMember.{member_there}
use Rattle.md_array.proofs.Worlds.InSync.{in_sync_is, in_sync_there, number_at}
use Rattle.md_array.proofs.Worlds.Shown.{at_is, at_past, by_member}
use Rattle.md_array.proofs.Worlds.States.{same_recovering}
use Rattle.md_laws.specs.CallCrashes.{HasWholeSectors}

pub whole_sectors : (p : PendingView) → length p.bytes % 512 ≡ 0 → length p.bytes ≡ 512 * request_sectors p
whole_sectors p whole = omega arith

-- past its last sector it has no bytes
none_past : (bytes : List ℕ) (at : ℕ) → part bytes at 512 ≡ [] → length bytes ≤ at
unfolding part
none_past bytes at none =
    let long : min 512 (length (drop at bytes)) ≡ 0 = sym (length-take 512 (drop at bytes)) ∙ ap length none in
    let rest : length (drop at bytes) ≡ length bytes - at = length-drop at bytes in
    omega arith

pub is_whole : (p : PendingView) → HasWholeSectors (request_of p) → length p.bytes % 512 ≡ 0
is_whole p whole =
    let at : 512 * ((p.sector + request_sectors p) - p.sector) ≡ 512 * request_sectors p = omega arith in
    let past = none_past p.bytes (512 * request_sectors p) (subst (λ (n : ℕ). part p.bytes n 512 ≡ []) at whole) in
    omega arith

pub has_whole : (p : PendingView) → length p.bytes % 512 ≡ 0 → HasWholeSectors (request_of p)
unfolding part
has_whole p whole =
    let long : length p.bytes ≤ 512 * ((p.sector + request_sectors p) - p.sector) = omega arith in
    ap (take 512) (drop_all (512 * ((p.sector + request_sectors p) - p.sector)) p.bytes long)

-- no recovering member's superblock says that it has the request's chunks
unsaid_there : (v : MirrorView) (p : PendingView) (others : ℕ → Option Request) → ((i : ℕ) (m : MemberView) → IsMember v.array i m → IsUnsaid v.array p m)
    → (j : ℕ) → steps.says_of (world_of v (among p others)) (first_sector v.array p.sector) j ≡ false
unsaid_there v p others unsaid j =
    let start : ℕ = first_sector v.array p.sector in
    by_member v.array j
    (λ x is. (λ i. model.is_recovering (at_is v.array j model.State.Faulty (λ y. kind_of y.state) x is i) && nat_lt start (at_is v.array j 0 (λ y. y.stored_offset) x is i))
    ∙ ap (λ b. b && nat_lt start x.stored_offset) (same_recovering x.state)
    ∙ unsaid j x is)
    (λ past. ap (λ s. model.is_recovering s && nat_lt start ((world_of v (among p others)).stored_offset j)) (at_past v.array j model.State.Faulty (λ y. kind_of y.state) past))

module _ (v : MirrorView) (requests others : ℕ → Option Request) (p : PendingView) (c : IsConsistent v) (listed : AreInFlight v.array requests) (is : requests ≡ among p others) where
  extent_there : lookup v.array.requests.entries p.ticket.number ≡ Some (extent_of p)
  extent_there =
      listed p.ticket.number (request_of p) (ap (λ (f : ℕ → Option Request). f p.ticket.number) is ∙ put-hit p.ticket.number (Some (request_of p)) others)

  pub inside_array : p.sector + request_sectors p ≤ v.array.chunks.size
  inside_array = (c.inside p.ticket.number (extent_of p) extent_there).1

  pub may_write_on : (k : ℕ) (m : MemberView) → MayWrite k v.array p m → steps.MayWrite (geometry_of v.array) (world_of v (among p others)) p.ticket.number (request_of p) k
  may_write_on k m may = record {
    in_flight = put-hit p.ticket.number (Some (request_of p)) others;
    in_sync = in_sync_there v.disks v.array (among p others) k m may.intent.in_sync;
    marked = λ j s on at_s.
        let x = in_sync_is v.disks v.array (among p others) j on in
        let there = is_touched (request_of p) s at_s in
        let to = there.1 in
        let in_array = inside_array in
        member_there v.array j x.0 false (λ y. nat_lt (s / v.array.chunks.sectors) v.array.marks.chunks && is_set y.stored.bytes (s / v.array.chunks.sectors)) x.1.member
        ∙ and_from (nat_lt (s / v.array.chunks.sectors) v.array.marks.chunks) (is_set x.0.stored.bytes (s / v.array.chunks.sectors))
        (below-nat_lt (s / v.array.chunks.sectors) v.array.marks.chunks
        (subst (λ (y : ℕ). s / v.array.chunks.sectors < y) (sym c.chunks.count) (div-lt-div_ceil v.array.chunks.size v.array.chunks.sectors s c.chunks.wide (omega arith))))
        (may.intent.marked j x.0 x.1 s there.0 there.1);
    recorded = λ j on. let x = in_sync_is v.disks v.array (among p others) j on in member_there v.array j x.0 false (λ y. y.due) x.1.member ∙ may.intent.recorded j x.0 x.1;
    unsaid = unsaid_there v p others may.intent.unsaid;
    unwritten = ap (has_written p) (number_at v.disks v.array (among p others) k m may.intent.in_sync.member) ∙ may.unwritten;
  }
