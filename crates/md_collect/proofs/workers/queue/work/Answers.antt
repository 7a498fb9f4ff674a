use Rattle.std.proofs.Common.{◌≡◌, length, ap, refl, ◌∙◌, arith, subst, sym}
use Rattle.md_device.specs.Failing.{EachNewFault}
use Rattle.md_device.proofs.Failing.{fails_none}
use Rattle.md_collect.specs.declared.workers.queue.Queue.{Queue}
use Rattle.md_collect.specs.Workers.Queues.{IsOfWaiting}
use Rattle.md_collect.proofs.WorkerLemmas.Gates.{told_then}
use Rattle.md_collect.proofs.WorkerLemmas.Workers.{chunks_kept, done_kept, may_go_on, memory_kept, none_more_read, none_read, one_more_read, one_more_waits, role_kept, went_on}
use Rattle.md_collect.proofs.workers.queue.work.Goals as goal

pub loop-slot-init : goal.loop-slot-init
loop-slot-init g c = record {
  read = none_read c.args.queue.now c.requires.goes c.requires.none_waits;
  done = refl;
  count = ap length c.requires.none_waits;
  only = fails_none (g.D.Device.faults c.args.queue.now.device) (IsOfWaiting c.args.chunks c.args.queue.now);
  told = λ j from below. absurd (omega (arith, from, below));
}

pub read_next-requires-clause-may : goal.read_next-requires-clause-may
read_next-requires-clause-may g c = may_go_on c.args.queue.now c.loop-slot.queue c.requires.goes c.loop-slot.invariant.read

pub read_next-requires-clause-memory : goal.read_next-requires-clause-memory
read_next-requires-clause-memory g c =
    let inv = c.loop-slot.invariant in
    let memory = memory_kept inv.read c.requires.memory in
    let room = memory.room in
    let n = ap (λ (v : _). length v.items) (chunks_kept inv.read) in
    record { room = omega (arith, room, n, inv.done, inv.count, c.loop-slot-test.true); long = memory.long }

pub loop-slot-preserved : goal.loop-slot-preserved
loop-slot-preserved g c =
    let inv = c.loop-slot.invariant in
    let one = one_more_read g.D.Device c.args.chunks c.loop-slot.queue c.read_next.new.queue c.read_next.result c.read_next.ensures.reads c.if-not-read_next.false in
    record {
      read = went_on c.args.queue.now c.loop-slot.queue c.read_next.new.queue c.read_next.result inv.read c.read_next.ensures.reads;
      done = done_kept g.D.Device c.args.chunks c.loop-slot.queue c.read_next.new.queue c.read_next.result c.read_next.ensures.reads ∙ inv.done;
      count = omega (arith, one, inv.count);
      only = one_more_waits g.D.Device c.args.chunks c.loop-slot.queue c.read_next.new.queue (g.D.Device.faults c.args.queue.now.device) c.read_next.result c.read_next.ensures.reads c.if-not-read_next.false inv.only;
      told = told_then g.G.Gate c.args.gate.now c.args.queue.now c.loop-slot.queue c.read_next.new.queue (role_kept inv.read) (chunks_kept inv.read) inv.told c.read_next.ensures.told;
    }

pub returns-then-not-read_next-clause-told : goal.returns-then-not-read_next-clause-told
returns-then-not-read_next-clause-told g c =
    let inv = c.loop-slot.invariant in
    told_then g.G.Gate c.args.gate.now c.args.queue.now c.loop-slot.queue c.read_next.new.queue (role_kept inv.read) (chunks_kept inv.read) inv.told c.read_next.ensures.told

pub returns-then-not-read_next-clause-worked : goal.returns-then-not-read_next-clause-worked
returns-then-not-read_next-clause-worked g c =
    let inv = c.loop-slot.invariant in
    let (same, past) = none_more_read g.D.Device c.args.chunks c.loop-slot.queue c.read_next.new.queue c.read_next.result c.read_next.ensures.reads c.if-not-read_next.true in
    let many : length c.read_next.new.queue.reports.waiting ≡ length c.loop-slot.queue.reports.waiting = ap (λ (l : Queue _ _ _). length l.reports.waiting) same in
    record {
      read = went_on c.args.queue.now c.loop-slot.queue c.read_next.new.queue c.read_next.result inv.read c.read_next.ensures.reads;
      done = ap (λ (l : Queue _ _ _). l.done) same ∙ inv.done;
      many = (let n = ap (λ (v : _). length v.items) (chunks_kept inv.read) in let within = inv.read.within in omega (arith, past, many, n, inv.done, inv.count, within, c.loop-slot-test.true));
      only = subst (λ (l : Queue _ _ _). EachNewFault (g.D.Device.faults c.args.queue.now.device) (g.D.Device.faults l.device) (IsOfWaiting c.args.chunks l)) (sym same) inv.only;
    }

pub returns-clause-told : goal.returns-clause-told
returns-clause-told g c = c.loop-slot.invariant.told

pub returns-clause-worked : goal.returns-clause-worked
returns-clause-worked g c =
    let inv = c.loop-slot.invariant in
    record {
      read = inv.read;
      done = inv.done;
      many = (let within = inv.read.within in omega (arith, inv.count, inv.done, within, c.loop-slot-test.false, c.loop-slot.auto._slot-end));
      only = inv.only;
    }
