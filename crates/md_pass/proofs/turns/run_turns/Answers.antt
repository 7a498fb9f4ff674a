use Rattle.std.proofs.Common.{◌≡◌, ◌*◌, ◌<◌, ◌≤◌, Bool, length, get_or, ap, sym, ◌∙◌, arith, subst}
use Rattle.std.specs.List.{All}
use Rattle.std.proofs.Math.Nat.{mul-le-mul_right}
use Rattle.md_collect.specs.Reports.{Copying}
use Rattle.md_collect.specs.Collecting.{copying}
use Rattle.md_collect.specs.declared.workers.queue.Queue.{Queue}
use Rattle.md_pass.specs.Beside.{KeepsBeside}
use Rattle.md_collect.specs.Workers.Queues.{IsReadyForTurn, slots_read}
use Rattle.md_pass.specs.Handing.{HaveMemory, all_with_reports}
use Rattle.md_pass.specs.TakingReports.{books}
use Rattle.md_pass.specs.Passes.{IsPassing}
use Rattle.md_pass.proofs.Besides.{fails_later, keeps_then}
use Rattle.md_pass.proofs.Handings.{all_taken, handing, memory_then, no_reports, now_handed}
use Rattle.md_pass.proofs.Sweeps.{on_both, on_err, on_fault, on_one}
use Rattle.md_collect.proofs.WorkerLemmas.Gates.{told_still, told_then}
use Rattle.md_collect.proofs.WorkerLemmas.Workers.{chunks_kept, role_kept}
use Rattle.md_pass.proofs.Rounds.{all_ready, all_within, next_read, none_wait, sources_read, sources_turned, told_handed, turned}
use Rattle.md_pass.proofs.turns.run_turns.Goals as goal

pub hand_over-requires-clause-as_many : goal.hand_over-requires-clause-as_many
hand_over-requires-clause-as_many g c = c.loop-turn.invariant.memory.as_many

pub hand_over-requires-clause-within : goal.hand_over-requires-clause-within
hand_over-requires-clause-within g c = all_within c.loop-turn.invariant.passing

pub take_and_read-requires-clause-ready : goal.take_and_read-requires-clause-ready
take_and_read-requires-clause-ready g c κs within =
    let inv = c.loop-turn.invariant in
    let same : c.args.turns.now.chunks ≡ c.loop-turn.collector.chunks = c.requires.chunks ∙ sym (ap (λ (v : Copying). v.chunks) inv.passing.books.same_copy) in
    subst (λ v. All (λ (queue : Queue _ _ _). IsReadyForTurn g.D.Device v c.args.turns.now.most queue) c.hand_over.new.queues.items) (sym same)
    (all_ready inv.passing (subst (λ v. HaveMemory v c.args.turns.now.most c.loop-turn.queues.items c.loop-turn.waiting.items) same inv.memory) c.hand_over.ensures)

pub take_and_read-requires-clause-passing : goal.take_and_read-requires-clause-passing
take_and_read-requires-clause-passing g c κs within =
    let inv = c.loop-turn.invariant in (
      c.args.queues.now.items,
      c.hand_over.new.queues.items,
      books c.args.collector.now (g.D.Device.content c.args.target.now) c.args.copied.now,
      now_handed c.hand_over.ensures inv.memory.as_many,
      rw inv.target.honest_kept (handing inv.passing c.hand_over.ensures inv.memory.as_many),
    )

pub loop-turn-preserved : goal.loop-turn-preserved
loop-turn-preserved g c =
    let inv = c.loop-turn.invariant in
    let firsts = c.args.queues.now.items in
    let olds = c.loop-turn.queues.items in
    let mids = c.hand_over.new.queues.items in
    let news = c.take_and_read.new.queues.items in
    let start = books c.args.collector.now (g.D.Device.content c.args.target.now) c.args.copied.now in
    let next = books c.take_and_read.new.collector (g.D.Device.content c.take_and_read.new.target) c.take_and_read.new.copied in
    let over = c.hand_over.ensures in
    let read = c.take_and_read.ensures.read in
    let taken = c.in_ok-take_and_read.ensures.reports_taken in
    let none = none_wait inv.memory over in
    let passing : IsPassing g.D.Device (g.D.Device.honest c.args.target.now) firsts mids start next
    = all_taken c.take_and_read.new.waiting.items (subst (λ (b : Bool). IsPassing g.D.Device b firsts (all_with_reports mids c.take_and_read.new.waiting.items) start next) inv.target.honest_kept
    (taken.passing firsts mids start (now_handed over inv.memory.as_many) (rw inv.target.honest_kept (handing inv.passing over inv.memory.as_many))))
    (taken.as_many ∙ over.waits_as_many ∙ inv.memory.as_many ∙ sym over.as_many) c.in_ok-take_and_read.ensures.taken none in
    let same : c.take_and_read.new.collector.chunks ≡ c.args.turns.now.chunks = ap (λ (v : Copying). v.chunks) passing.books.same_copy ∙ sym c.requires.chunks in
    let after = turned {most = c.args.turns.now.most} news passing none read.as_many (λ k d below. rw same (read.worked k d below)) in
    record {
      passing = after;
      read = λ k d below.
          let there : k < length mids = omega (arith, below, read.as_many) in
          let here : k < length olds = omega (arith, there, over.as_many) in
          next_read g.D.Device c.args.turns.now.chunks c.loop-turn._turn c.args.turns.now.most (get_or olds k d) (get_or mids k d) (get_or news k d) (get_or c.loop-turn.waiting.items k no_reports)
          (over.queues_are k d no_reports here) (inv.memory.idle k no_reports (let m = inv.memory.as_many in omega (arith, m, here))) (read.worked k d there) (inv.read k d here);
      memory = memory_then g.D.Device c.args.turns.now.chunks c.args.turns.now.most olds mids news c.loop-turn.waiting.items c.hand_over.new.waiting.items c.take_and_read.new.waiting.items inv.memory over
          read.as_many read.worked taken.as_many taken.kept c.in_ok-take_and_read.ensures.taken;
      target = keeps_then (copying c.args.collector.now) c.args.target.now c.loop-turn.target c.take_and_read.new.target inv.target
          (subst (λ v. KeepsBeside g.D.Device v c.loop-turn.target c.take_and_read.new.target) inv.passing.books.same_copy c.take_and_read.ensures.writes.target);
      told = λ k d below.
          let here : k < length olds = omega (arith, below, inv.passing.as_many) in
          let there : k < length mids = omega (arith, here, over.as_many) in
          let first = get_or firsts k d in
          let mid = get_or mids k d in
          let now = (passing.each k d below).read in
          told_then g.G.Gate c.args.turns.now.gate.now first mid (get_or news k d) (role_kept now) (chunks_kept now)
          (told_still g.G.Gate c.args.turns.now.gate.now first (get_or olds k d) mid (told_handed over inv.memory k d here) (inv.told k d below)) (read.told k d there);
    }

pub returns-in_err-take_and_read-clause-failed : goal.returns-in_err-take_and_read-clause-failed
returns-in_err-take_and_read-clause-failed g c =
    on_err c.from_residual.result c.from_residual.ensures.0 (fails_later (copying c.args.collector.now) c.args.target.now c.loop-turn.target c.take_and_read.new.target c.loop-turn.invariant.target c.in_err-take_and_read.ensures.failed)

pub returns-in_err-take_and_read-clause-sources : goal.returns-in_err-take_and_read-clause-sources
returns-in_err-take_and_read-clause-sources g c =
    let read = c.take_and_read.ensures.read in
    sources_turned g.D.Device c.args.turns.now.chunks c.args.turns.now.most c.args.queues.now.items c.hand_over.new.queues.items c.take_and_read.new.queues.items (sources_read c.loop-turn.invariant.passing c.hand_over.ensures) read.as_many read.worked

pub returns-in_err-take_and_read-clause-target : goal.returns-in_err-take_and_read-clause-target
returns-in_err-take_and_read-clause-target g c =
    let inv = c.loop-turn.invariant in
    keeps_then (copying c.args.collector.now) c.args.target.now c.loop-turn.target c.take_and_read.new.target inv.target
    (subst (λ v. KeepsBeside g.D.Device v c.loop-turn.target c.take_and_read.new.target) inv.passing.books.same_copy c.take_and_read.ensures.writes.target)

pub hand_over-requires-2-clause-as_many : goal.hand_over-requires-2-clause-as_many
hand_over-requires-2-clause-as_many g c = c.loop-turn.invariant.memory.as_many

pub hand_over-requires-2-clause-within : goal.hand_over-requires-2-clause-within
hand_over-requires-2-clause-within g c = all_within c.loop-turn.invariant.passing

pub take_reports-requires : goal.take_reports-requires
take_reports-requires g c =
    let inv = c.loop-turn.invariant in (
      c.args.queues.now.items,
      c.hand_over-2.new.queues.items,
      books c.args.collector.now (g.D.Device.content c.args.target.now) c.args.copied.now,
      now_handed c.hand_over-2.ensures inv.memory.as_many,
      rw inv.target.honest_kept (handing inv.passing c.hand_over-2.ensures inv.memory.as_many),
    )

pub returns-clause-passed : goal.returns-clause-passed
returns-clause-passed g c =
    let inv = c.loop-turn.invariant in
    let over = c.hand_over-2.ensures in
    let firsts = c.args.queues.now.items in
    let news = c.hand_over-2.new.queues.items in
    let start = books c.args.collector.now (g.D.Device.content c.args.target.now) c.args.copied.now in
    let next = books c.take_reports.new.collector (g.D.Device.content c.take_reports.new.target) c.take_reports.new.copied in
    on_both c.take_reports.result c.take_reports.ensures.reports_taken c.take_reports.ensures.taken
    (λ taken idle. all_taken c.take_reports.new.waiting.items
    (subst (λ (b : Bool). IsPassing g.D.Device b firsts (all_with_reports news c.take_reports.new.waiting.items) start next) inv.target.honest_kept
    (taken.passing firsts news start (now_handed over inv.memory.as_many) (rw inv.target.honest_kept (handing inv.passing over inv.memory.as_many))))
    (taken.as_many ∙ over.waits_as_many ∙ inv.memory.as_many ∙ sym over.as_many) idle (none_wait inv.memory over))

pub returns-clause-done : goal.returns-clause-done
returns-clause-done g c =
    let inv = c.loop-turn.invariant in
    let over = c.hand_over-2.ensures in
    let news = c.hand_over-2.new.queues.items in
    let none = none_wait inv.memory over in
    on_one c.take_reports.result c.take_reports.ensures.taken
    (λ idle k d below.
    let here : k < length c.loop-turn.queues.items = omega (arith, below, over.as_many) in
    let there : k < length c.args.queues.now.items = omega (arith, here, inv.passing.as_many) in
    let way = (inv.passing.each k d there).read in
    let n = ap (λ (v : _). length v.items) (chunks_kept way) in
    let enough = c.requires.turns k d there in
    let least = inv.read k d here in
    let at = over.queues_are k d no_reports here in
    let long : length (get_or news k d).chunks.items ≡ length (get_or c.loop-turn.queues.items k d).chunks.items = ap (λ (l : Queue _ _ _). length l.chunks.items) at in
    let done : (get_or news k d).done ≡ slots_read (get_or c.loop-turn.queues.items k d) = ap (λ (l : Queue _ _ _). l.done) at in
    let turns : c.args.turns.now.count * c.args.turns.now.most ≤ c.loop-turn._turn * c.args.turns.now.most = mul-le-mul_right c.args.turns.now.most c.loop-turn-test.false in
    let within = way.within in
    (omega (arith, n, enough, least, long, done, turns, within), none k d below))

pub returns-clause-failed : goal.returns-clause-failed
returns-clause-failed g c =
    on_fault c.take_reports.result c.take_reports.ensures.failed
    (λ failed. fails_later (copying c.args.collector.now) c.args.target.now c.loop-turn.target c.take_reports.new.target c.loop-turn.invariant.target failed)

pub returns-clause-told : goal.returns-clause-told
returns-clause-told g c =
    let inv = c.loop-turn.invariant in
    on_one c.take_reports.result c.take_reports.ensures.taken
    (λ idle k d below.
    let here : k < length c.loop-turn.queues.items = omega (arith, below, inv.passing.as_many) in
    told_still g.G.Gate c.args.turns.now.gate.now (get_or c.args.queues.now.items k d) (get_or c.loop-turn.queues.items k d) (get_or c.hand_over-2.new.queues.items k d) (told_handed c.hand_over-2.ensures inv.memory k d here) (inv.told k d below))

pub returns-clause-sources : goal.returns-clause-sources
returns-clause-sources g c = sources_read c.loop-turn.invariant.passing c.hand_over-2.ensures

pub returns-clause-target : goal.returns-clause-target
returns-clause-target g c =
    let inv = c.loop-turn.invariant in
    keeps_then (copying c.args.collector.now) c.args.target.now c.loop-turn.target c.take_reports.new.target inv.target
    (subst (λ v. KeepsBeside g.D.Device v c.loop-turn.target c.take_reports.new.target) inv.passing.books.same_copy c.take_reports.ensures.writes.target)
