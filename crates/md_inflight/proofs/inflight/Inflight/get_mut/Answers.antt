use Rattle.std.proofs.Common.{refl, ap}
use Rattle.md_inflight.specs.Inflight.{next_number}
use Rattle.md_inflight.proofs.Numbers.{belongs_with}
use Rattle.md_inflight.proofs.Entries.{belonging, ticket_stands, looked_up, written_back, kept_written}
use Rattle.md_inflight.proofs.inflight.Inflight.get_mut.Goals as goal

pub node_mut-requires : goal.node_mut-requires
node_mut-requires g c = (ticket_stands c.ticket.inside.page.addresses c.self.invariant (belonging c.self.view_is c.ticket.view_is c.requires) c.ticket.invariant c.agrees.ensures).0

pub invariant_of-self-lent : goal.invariant_of-self-lent
invariant_of-self-lent g c w =
    let stands = ticket_stands c.ticket.inside.page.addresses c.self.invariant (belonging c.self.view_is c.ticket.view_is c.requires) c.ticket.invariant c.agrees.ensures in let at = stands.0 in
    (kept_written c.self.invariant at stands.1 w (written_back c.self.inside.chain.apart at (c.node_mut.ensures.node at.before at.value at.after at.cut) w)).0

pub returns : goal.returns
returns g c =
    let stands = ticket_stands c.ticket.inside.page.addresses c.self.invariant (belonging c.self.view_is c.ticket.view_is c.requires) c.ticket.invariant c.agrees.ensures in let at = stands.0 in
    let read = c.node_mut.ensures.node at.before at.value at.after at.cut in (
      (
        refl,
        λ w. rw (← c.self.view_is, ← c.ticket.view_is) (ap (λ es. record { name = c.self.inside.book.name; entries = es; next = next_number c.self.inside.next })
            (kept_written c.self.invariant at stands.1 w (written_back c.self.inside.chain.apart at read w)).1),
      ),
      record {
        writes_back = tt;
        item = rw (← c.self.view_is, ← c.ticket.view_is, read) (looked_up c.self.invariant at stands.1);
        kept = λ other written old. belongs_with c.args.self.now c.args.ticket.now.number written other old;
      },
    )
