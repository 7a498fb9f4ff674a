use Rattle.std.proofs.Common.{refl}
use Rattle.md_inflight.proofs.Numbers.{belongs_without}
use Rattle.md_inflight.proofs.Entries.{belonging, ticket_stands, looked_up, kept_removed}
use Rattle.md_inflight.proofs.inflight.Inflight.remove.Goals as goal

pub remove-requires-clause-place : goal.remove-requires-clause-place
remove-requires-clause-place g c = (ticket_stands c.ticket.inside.page.addresses c.self.invariant (belonging c.self.view_is c.ticket.view_is c.requires) c.ticket.invariant c.agrees.ensures).0

pub invariant_of-self : goal.invariant_of-self
invariant_of-self g c =
    let stands = ticket_stands c.ticket.inside.page.addresses c.self.invariant (belonging c.self.view_is c.ticket.view_is c.requires) c.ticket.invariant c.agrees.ensures in let at = stands.0 in
    (kept_removed c.self.invariant at stands.1 c.remove.ensures.chain (c.remove.ensures.entries at.before at.value at.after at.cut).0).0

pub returns-clause-item : goal.returns-clause-item
returns-clause-item g c =
    let stands = ticket_stands c.ticket.inside.page.addresses c.self.invariant (belonging c.self.view_is c.ticket.view_is c.requires) c.ticket.invariant c.agrees.ensures in let at = stands.0 in
    rw (← c.self.view_is, ← c.ticket.view_is, (c.remove.ensures.entries at.before at.value at.after at.cut).1) (looked_up c.self.invariant at stands.1)

pub returns-clause-entries : goal.returns-clause-entries
returns-clause-entries g c =
    let stands = ticket_stands c.ticket.inside.page.addresses c.self.invariant (belonging c.self.view_is c.ticket.view_is c.requires) c.ticket.invariant c.agrees.ensures in let at = stands.0 in
    rw (← c.self.view_is, ← c.ticket.view_is) (kept_removed c.self.invariant at stands.1 c.remove.ensures.chain (c.remove.ensures.entries at.before at.value at.after at.cut).0).1

pub returns-clause-kept : goal.returns-clause-kept
returns-clause-kept g c = belongs_without c.args.self.now _ _ (rw (← c.self.view_is) refl) (returns-clause-entries g c) (rw (← c.self.view_is) refl)
