use Rattle.std.proofs.Common.{◌≡◌, suc, ◌+◌, ◌≤◌, ◌++◌, ◌∷◌, [], Option, length, length-append, ap, ◌∙◌, arith, vec_capacity}
use Rattle.std.specs.Option.{option_to_list}
use Rattle.md_collect.specs.Reports.{ReportView}
use Rattle.md_collect.proofs.Memory.{all_but_first, memory_enough}
use Rattle.md_collect.proofs.WorkerLemmas.Workers.{pushed}
use Rattle.md_collect.proofs.workers.reports.Reports.retire.Goals as goal

pub invariant_of-self : goal.invariant_of-self
invariant_of-self c =
    let had = c.self.invariant in
    let report = c.in-Some.report in
    let rest = c.pop_front.new.self.items in
    let first : c.self.inside.waiting.items ≡ report ∷ rest = c.pop_front.ensures.items ∙ ap (λ (o : Option ReportView). option_to_list o ++ rest) c.in-Some.is in
    let n : length c.self.inside.waiting.items ≡ suc (length rest) = ap length first in
    let memory = c.unwrap_or-memory.result in
    let spares = c.self.inside.spares.items in
    let more = c.push_reserved.ensures.items in
    let m : length c.push_reserved.new.self.items ≡ length spares + 1 = ap length more ∙ (let l = length-append spares (memory ∷ []) in omega (arith, l)) in
    let enough : c.self.inside.longest ≤ vec_capacity memory
    = rw c.unwrap_or-memory.ensures (memory_enough c.into_memory-memory.result c.new.result report.room c.self.inside.longest c.into_memory-memory.ensures.room c.into_memory-memory.ensures.none
    (let is = had.used 0 report (omega (arith, n)) in rw first at is)) in
    record {
      used = all_but_first (λ (r : ReportView). c.self.inside.longest ≤ r.room) report c.self.inside.waiting.items rest first had.used;
      unused = rw more (pushed (λ _ spare. c.self.inside.longest ≤ vec_capacity spare) spares memory had.unused enough);
      waits = let a = had.waits in omega (arith, a, n, m, c.pop_front.ensures.capacity);
      fits = let a = had.fits in omega (arith, a, n, m, c.push_reserved.ensures.capacity);
    }
