use Rattle.std.proofs.Common.{◌≡◌, ap, Ok, Some, None, refl, ◌∙◌, arith, rules}
use Rattle.std.specs.List.{slice_get}
use Rattle.md_collect.specs.Workers.Queues.{slots_read}
use Rattle.md_collect.specs.Workers.Tally.{noted}
use Rattle.md_collect.specs.Workers.Waiting.{WaitingView}
use Rattle.md_collect.proofs.WorkerLemmas.Gates.{told_next}
use Rattle.md_collect.proofs.WorkerLemmas.OnlyReads.{reads_failed, reads_only, reads_report}
use Rattle.md_collect.proofs.WorkerLemmas.Workers.{some_at, none_at}
use Rattle.md_collect.proofs.workers.queue.read_next.Goals as goal

pub returns-in_default-clause-told : goal.returns-in_default-clause-told
returns-in_default-clause-told g c = λ j from below. absurd (omega (arith, from, below))

pub returns-in_default-clause-reads : goal.returns-in_default-clause-reads
returns-in_default-clause-reads g c =
    let queue = c.args.queue.now in
    let none : slice_get queue.chunks.items (slots_read queue) ≡ None = search rules in
    (refl, none_at queue.chunks.items (slots_read queue) none)

pub read-delivered-requires-clause-chunk : goal.read-delivered-requires-clause-chunk
read-delivered-requires-clause-chunk g c =
    let queue = c.args.queue.now in
    let some : slice_get queue.chunks.items (slots_read queue) ≡ Some c.in-Some.chunk = search rules in
    let there = some_at queue.chunks.items (slots_read queue) c.in-Some.chunk some in
    rw there.1 (c.requires.may.chunk (slots_read queue) there.0)

pub read-delivered-requires-clause-spare : goal.read-delivered-requires-clause-spare
read-delivered-requires-clause-spare g c =
    let queue = c.args.queue.now in
    let some : slice_get queue.chunks.items (slots_read queue) ≡ Some c.in-Some.chunk = search rules in
    let there = some_at queue.chunks.items (slots_read queue) c.in-Some.chunk some in
    omega (arith, there.0, c.requires.memory.room)

pub read-delivered-requires-clause-long : goal.read-delivered-requires-clause-long
read-delivered-requires-clause-long g c =
    let queue = c.args.queue.now in
    let some : slice_get queue.chunks.items (slots_read queue) ≡ Some c.in-Some.chunk = search rules in
    let there = some_at queue.chunks.items (slots_read queue) c.in-Some.chunk some in
    c.requires.memory.long c.in-Some.chunk (rw there.1 (c.requires.may.chunk (slots_read queue) there.0))

pub note-requires : goal.note-requires
note-requires g c =
    let queue = c.args.queue.now in
    let some : slice_get queue.chunks.items (slots_read queue) ≡ Some c.in-Some.chunk = search rules in
    let there = some_at queue.chunks.items (slots_read queue) c.in-Some.chunk some in
    omega (arith, c.requires.may.left, there.0)

pub returns-clause-told : goal.returns-clause-told
returns-clause-told g c =
    let queue = c.args.queue.now in
    let some : slice_get queue.chunks.items (slots_read queue) ≡ Some c.in-Some.chunk = search rules in
    let there = some_at queue.chunks.items (slots_read queue) c.in-Some.chunk some in
    let more = c.read-delivered.ensures in
    told_next g.G.Gate c.args.gate.now queue (record queue { device = c.read-delivered.new.device; share = c.note.new.share; reports = c.read-delivered.new.self }) more.report (ap (λ (w : WaitingView). w.waiting) more.waits) refl
    (rw (← there.1) (record { begins = c.before_read.ensures; ended = c.after_read.ensures }))

pub returns-clause-reads : goal.returns-clause-reads
returns-clause-reads g c =
    let queue = c.args.queue.now in
    let some : slice_get queue.chunks.items (slots_read queue) ≡ Some c.in-Some.chunk = search rules in
    let there = some_at queue.chunks.items (slots_read queue) c.in-Some.chunk some in
    let more = c.read-delivered.ensures in
    record {
      kept = rw more.waits refl;
      only_read = reads_only more.reads;
      within = there.0;
      report = more.report;
      reports = ap (λ (w : WaitingView). w.waiting) more.waits;
      share = c.note.ensures ∙ ap (λ b. noted queue.share b) more.told;
      only = rw (← there.1) (reads_failed (Ok more.report) more.report refl more.reads);
      is = rw (← there.1) (reads_report (Ok more.report) more.report refl more.reads);
    }
