use Rattle.std.proofs.Common.{◌/◌, [], length, refl}
use Rattle.std.proofs.lemmas.Result.{err_from_is_err_and}
use Rattle.md_state.proofs.Changes.RequestEntered.{refused, still_in_range, still_marked, still_rises, with_request_is}
use Rattle.md_state.proofs.array.Array.begin.Goals as goal

pub returns-in_err-check_begin : goal.returns-in_err-check_begin
returns-in_err-check_begin c disks =
    let p = err_from_is_err_and c.from_residual.result c.from_residual.ensures.1 in
    rw (p.1, p.2) (c.in_err-check_begin.ensures disks)

pub returns-in_err-ticket : goal.returns-in_err-ticket
returns-in_err-ticket c disks =
    let p = err_from_is_err_and c.from_residual-in_err-ticket.result c.from_residual-in_err-ticket.ensures.1 in
    let fault = c.in_err-ticket.field-0.0 in
    rw (p.1, p.2) (refused c.args.self.now c.enter.new.self c.args.sector (length c.args.bytes.now / 512) fault disks c.in_err-ticket.ensures.err (c.in_ok-check_begin.ensures disks) c.in_err-ticket.ensures.why)

pub count_request-requires : goal.count_request-requires
count_request-requires c rises spent =
    let a = c.args.self.now in
    let n = length c.args.bytes.now / 512 in
    let may = c.in_ok-check_begin.ensures [] in
    may.rises (still_rises a c.enter.new.self c.args.sector n c.in_ok-ticket.ensures.entered rises) (rw c.in_ok-ticket.ensures.entered at spent)

pub mark_sectors-requires-clause-range : goal.mark_sectors-requires-clause-range
mark_sectors-requires-clause-range c =
    let n = length c.args.bytes.now / 512 in
    let may = c.in_ok-check_begin.ensures [] in
    still_in_range c.args.self.now c.enter.new.self c.args.sector n c.in_ok-ticket.ensures.entered c.count_request.new.self c.lower_offsets_from.new.self c.become_active.new.self c.count_request.ensures c.lower_offsets_from.ensures c.become_active.ensures may.range

pub returns : goal.returns
returns c disks =
    let a = c.args.self.now in
    let e = c.enter.new.self in
    let n = length c.args.bytes.now / 512 in
    let marks = c.mark_sectors.new.self.marks in
    record {
      may = c.in_ok-check_begin.ensures disks;
      fresh = c.in_ok-ticket.ensures.fresh;
      disks = refl;
      marked = still_marked a e c.args.sector n c.in_ok-ticket.ensures.entered c.count_request.new.self c.lower_offsets_from.new.self c.become_active.new.self c.count_request.ensures c.lower_offsets_from.ensures c.become_active.ensures marks c.mark_sectors.ensures.marked;
      array = with_request_is a e c.args.sector n c.in_ok-ticket.ensures.entered c.count_request.new.self c.lower_offsets_from.new.self c.become_active.new.self c.count_request.ensures c.lower_offsets_from.ensures c.become_active.ensures c.mark_sectors.new.self marks c.mark_sectors.ensures.others;
      pending = rw (c.pending_of.ensures, c.in_ok-ticket.ensures.ticket) refl;
    }
