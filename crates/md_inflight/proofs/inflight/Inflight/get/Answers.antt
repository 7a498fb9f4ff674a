use Rattle.md_inflight.proofs.Entries.{belonging, ticket_stands, looked_up}
use Rattle.md_inflight.proofs.inflight.Inflight.get.Goals as goal

pub node-requires : goal.node-requires
node-requires g c = (ticket_stands c.ticket.inside.page.addresses c.self.invariant (belonging c.self.view_is c.ticket.view_is c.requires) c.ticket.invariant c.agrees.ensures).0

pub returns : goal.returns
returns g c =
    let stands = ticket_stands c.ticket.inside.page.addresses c.self.invariant (belonging c.self.view_is c.ticket.view_is c.requires) c.ticket.invariant c.agrees.ensures in let at = stands.0 in
    rw (← c.self.view_is, ← c.ticket.view_is, c.node.ensures at.before at.value at.after at.cut) (looked_up c.self.invariant at stands.1)
