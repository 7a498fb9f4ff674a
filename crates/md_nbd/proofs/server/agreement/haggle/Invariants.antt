use Rattle.std.proofs.Common.{◌≤◌, length}
use Rattle.md_nbd.proofs.ServerLemmas.OptionsInTurn.{SoManyOptions}
use Rattle.md_nbd.proofs.server.agreement.haggle.Given as goal

abbrev pub invariant-loop-answered : goal.invariant-loop-answered
invariant-loop-answered g l = record {
  so_many : SoManyOptions g.I.Source g.O.Sink l.export l.no_zeroes l.answered l.fn.input l.input l.fn.out l.out;
  room : 65536 ≤ length l.buf;
}
