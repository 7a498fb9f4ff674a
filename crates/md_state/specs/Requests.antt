-- Requests in flight: the mirror's list of them, what their callers have, and what the model says of both.
use Rattle.std.specs.Prelude.{◌≡◌, ℕ, ◌+◌, ◌-◌, ◌*◌, ◌%◌, ◌<◌, ◌≤◌, Bool, not, ◌&&◌, length, count_by, Option, Some}
use Rattle.md_model.specs.Sectors.{put}
use Rattle.md_model.specs.Worlds.{Request}
use Rattle.md_device.specs.Splice.{part}
use Rattle.md_inflight.specs.Inflight.{BelongsTo, lookup}
use Rattle.md_assembly.specs.States.{is_in_sync}
use Rattle.md_inflight.specs.Requests.Pending.{PendingView, extent_of, has_written, request_sectors}
use Rattle.md_inflight.specs.declared.requests.extent.Extent.{Extent}
use Rattle.md_kept_members.specs.View.{MemberView}
use Rattle.md_state.specs.View.{ArrayView}

-- the member is in sync, and lacks the request's bytes
abbrev pub lacks : PendingView → MemberView → Bool
lacks p m = is_in_sync m.state && not (has_written p m.superblock.dev_number)

-- The request is one of this mirror's. There is room for the numbers of all members that still lack it.
pub record IsPending (a : ArrayView) (p : PendingView) : Type 0 where
  pub belongs : BelongsTo a.requests p.ticket
  pub extent : lookup a.requests.entries p.ticket.number ≡ Some (extent_of p)
  pub whole : length p.bytes % 512 ≡ 0
  pub room : length p.written + count_by (lacks p) a.members ≤ 64

-- each request of the list lies within the array
abbrev pub AreInside : ArrayView → Type 0
AreInside a = (n : ℕ) (e : Extent) → lookup a.requests.entries n ≡ Some e → (0 < e.sectors) × (e.start + e.sectors ≤ a.chunks.size)

-- the model's request
abbrev pub request_of : PendingView → Request
request_of p =
    record {
      start = p.sector;
      sectors = request_sectors p;
      bytes = λ s. part p.bytes (512 * (s - p.sector)) 512;
      written = has_written p;
    }

-- Requests of the model that are in the mirror's list. The list may have more: one that was dropped is known to it alone.
abbrev pub AreInFlight : ArrayView → (ℕ → Option Request) → Type 0
AreInFlight a requests = (n : ℕ) (p : Request) → requests n ≡ Some p → lookup a.requests.entries n ≡ Some (record { start = p.start; sectors = p.sectors })

-- the others, and this one under its number
abbrev pub among : PendingView → (ℕ → Option Request) → ℕ → Option Request
among p others = put p.ticket.number (Some (request_of p)) others
