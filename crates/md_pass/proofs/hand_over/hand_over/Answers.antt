use Rattle.std.proofs.Common.{◌≡◌, ◌<◌, length, get_or, sym, ◌∙◌, arith, inl, inr, length-set}
use Rattle.std.proofs.lemmas.List.{get_or_default, get_or-set_same, get_or-set_other}
use Rattle.md_collect.specs.declared.workers.queue.Queue.{Queue}
use Rattle.md_collect.specs.Workers.Waiting.{WaitingView}
use Rattle.md_pass.proofs.Sweeps.{same_or_other}
use Rattle.md_pass.proofs.hand_over.hand_over.Goals as goal

pub exchange-requires : goal.exchange-requires
exchange-requires g c =
    let inv = c.loop-k.invariant in
    let within : c.loop-k.k < length c.loop-k.queues.items = omega (arith, inv.as_many, c.len-k-end.ensures, c.loop-k-test.true) in
    let queue = c.index_mut-queue.result.now in
    let is : queue ≡ get_or c.args.queues.now.items c.loop-k.k queue = c.index_mut-queue.ensures.value ∙ inv.queues_untouched c.loop-k.k queue (omega arith) in
    rw is (c.requires.within c.loop-k.k queue (omega (arith, inv.as_many, within)))

pub loop-k-preserved : goal.loop-k-preserved
loop-k-preserved g c =
    let inv = c.loop-k.invariant in
    let queues = c.loop-k.queues.items in
    let waits = c.loop-k.waiting.items in
    let queue = c.index_mut-queue.result.now in
    let reports = c.index_mut-reports.result.now in
    let k = c.loop-k.k in
    let within : k < length queues = omega (arith, inv.as_many, c.len-k-end.ensures, c.loop-k-test.true) in
    let within_too : k < length waits = omega (arith, inv.waits_as_many, c.requires.as_many, inv.as_many, within) in
    let queue_is : (q : Queue _ _ _) → get_or c.args.queues.now.items k q ≡ queue = λ q. sym (inv.queues_untouched k q (omega arith)) ∙ get_or_default queues k q queue within ∙ sym c.index_mut-queue.ensures.value in
    let reports_are : (w : WaitingView) → get_or c.args.waiting.now.items k w ≡ reports = λ w. sym (inv.waits_untouched k w (omega arith)) ∙ get_or_default waits k w reports within_too ∙ sym c.index_mut-reports.ensures.value in
    record {
      as_many = length-set queues k c.exchange.new.queue ∙ inv.as_many;
      waits_as_many = length-set waits k c.exchange.new.reports ∙ inv.waits_as_many;
      queues_are = λ j q w below.
          elim (same_or_other j k) [
            | inl same ↦ rw (same, get_or-set_same queues k c.exchange.new.queue q within, queue_is q, reports_are w) c.exchange.ensures.queue
            | inr other ↦ get_or-set_other queues k j c.exchange.new.queue q other ∙ inv.queues_are j q w (omega (arith, below, other))
          ];
      waits_are = λ j q w below.
          elim (same_or_other j k) [
            | inl same ↦ rw (same, get_or-set_same waits k c.exchange.new.reports w within_too, queue_is q) c.exchange.ensures.reports
            | inr other ↦ get_or-set_other waits k j c.exchange.new.reports w other ∙ inv.waits_are j q w (omega (arith, below, other))
          ];
      queues_untouched = λ j q above. get_or-set_other queues k j c.exchange.new.queue q (λ e. absurd (omega (arith, e, above))) ∙ inv.queues_untouched j q (omega (arith, above));
      waits_untouched = λ j w above. get_or-set_other waits k j c.exchange.new.reports w (λ e. absurd (omega (arith, e, above))) ∙ inv.waits_untouched j w (omega (arith, above));
    }

pub returns : goal.returns
returns g c =
    let inv = c.loop-k.invariant in
    record {
      as_many = inv.as_many;
      waits_as_many = inv.waits_as_many;
      queues_are = λ k q w below. inv.queues_are k q w (omega (arith, below, inv.as_many, c.len-k-end.ensures, c.loop-k-test.false));
      waits_are = λ k q w below. inv.waits_are k q w (omega (arith, below, inv.as_many, c.len-k-end.ensures, c.loop-k-test.false));
    }
