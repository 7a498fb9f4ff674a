use Rattle.std.proofs.Common.{◌≡◌, ℕ, ◌<◌, true, get_or}
use Rattle.md_cert.specs.Sources.{has}
use Rattle.md_plan.proofs.search.heavy.Given as goal

abbrev pub invariant-loop-source : goal.invariant-loop-source
invariant-loop-source l = record {
  above : (s : ℕ) → has l.sources s ≡ true → l.bound < get_or l.loads s 0;
  all : (s : ℕ) → s < l.source → l.bound < get_or l.loads s 0 → has l.sources s ≡ true;
}
