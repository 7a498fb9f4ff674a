-- A request in flight, as its caller has it.
use Rattle.std.specs.Prelude.{ℕ, ◌/◌, Bool, eqb, List, length}
use Rattle.std.specs.List.{list_any}
use Rattle.md_inflight.specs.Inflight.{TicketView}
use Rattle.md_inflight.specs.declared.requests.extent.Extent.{Extent}

pub record PendingView : Type 0 where
  pub ticket : TicketView
  pub sector : ℕ  -- the first, of the array
  pub bytes : List ℕ
  pub written : List ℕ  -- the dev_numbers of the members that have them

-- a device has the request's bytes
abbrev pub has_written : PendingView → ℕ → Bool
has_written p dev_number = list_any (eqb dev_number) p.written

abbrev pub request_sectors : PendingView → ℕ
request_sectors p = length p.bytes / 512

abbrev pub extent_of : PendingView → Extent
extent_of p = record { start = p.sector; sectors = request_sectors p }
