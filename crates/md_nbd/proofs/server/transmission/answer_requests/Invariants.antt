use Rattle.std.proofs.Common.{◌≡◌, ◌*◌, ◌≤◌}
use Rattle.md_nbd.specs.Export.{sector_bytes}
use Rattle.md_nbd.proofs.ServerLemmas.Exchanged.{SoManyAnswered}
use Rattle.md_nbd.proofs.server.transmission.answer_requests.Given as goal

abbrev pub invariant-loop-answered : goal.invariant-loop-answered
invariant-loop-answered g l = record {
  so_many : SoManyAnswered g.S.Store g.I.Source g.O.Sink l.service.export.now (g.W.ClientWatch.has_refused l.service.watch.now) l.answered (l.fn.store, l.fn.lent) (l.store, l.lent) l.fn.input l.input l.fn.out l.out;
  size : l.service.export.now.size ≤ sector_bytes * g.S.Store.sectors (l.store, l.lent);
  sound : g.S.Store.is_sound (l.store, l.lent);
  sectors : g.S.Store.sectors (l.store, l.lent) ≡ g.S.Store.sectors (l.fn.store, l.fn.lent);
}
