-- Reports lie in the same memory, or in other.
use Rattle.std.proofs.Common.{ℕ, [], ◌⊎◌, Bool, inl, inr, ap, sym, ◌∙◌}
use Rattle.md_device.specs.declared.device.Device.{Ghosts}
use Rattle.md_device.proofs.Failing.{fails_weaker}
use Rattle.md_bitmap.specs.declared.chunks.Chunks.{Chunks}
use Rattle.md_collect.specs.declared.workers.queue.Queue.{Queue}
use Rattle.md_collect.specs.Workers.Queues.{HasRead, IsOfWaiting}
use Rattle.md_collect.specs.Workers.Waiting.{WaitingView}
use Rattle.md_pass.specs.TakingReports.{Books}
use Rattle.md_pass.specs.Passes.{IsOfTaken, IsUnderWay}

-- a queue as it was, with the memory that it has now
abbrev pub since : {D L M : Type 0} → Queue D L M → Queue D L M → Queue D L M
since first queue = record first { reports = record queue.reports { waiting = [] } }

module _ {D L M : Type 0} {g : Ghosts D} {chunks : Chunks} where
  pub remembered : {lost : ℕ} (first queue : Queue D L M) → HasRead g chunks lost first queue → HasRead g chunks lost (since first queue) queue
  remembered first queue read = record {
    kept = read.kept ∙ ap (λ rs. record first { device = queue.device; done = queue.done; share = queue.share; reports = rs }) (sym (ap (λ (l : Queue D L M). l.reports) read.kept));
    only_read = read.only_read;
    within = read.within;
    each = read.each;
    left = read.left;
    failed = read.failed;
    risen = read.risen;
    parts = read.parts;
  }

module _ {D L M : Type 0} {g : Ghosts D} {th : Bool} {now : Books} where
  -- what waits is put into other memory
  pub elsewhere : (first queue : Queue D L M) (other : WaitingView) → IsUnderWay g th now first queue → IsUnderWay g th now first (record queue { reports = record other { waiting = queue.reports.waiting } })
  elsewhere first queue other way = record {
    read = record {
      kept = ap (λ (l : Queue D L M). record l { reports = record other { waiting = queue.reports.waiting } }) way.read.kept;
      only_read = way.read.only_read;
      within = way.read.within;
      each = way.read.each;
      left = way.read.left;
      failed = way.read.failed;
      risen = way.read.risen;
      parts = way.read.parts;
    };
    landed = way.landed;
    failed = way.failed;
    only = fails_weaker (g.faults first.device) (g.faults queue.device) (λ f. IsOfTaken now first queue f ⊎ IsOfWaiting now.collector.chunks queue f)
        (λ f. IsOfTaken now first moved f ⊎ IsOfWaiting now.collector.chunks moved f)
        (λ f h. elim h [
          | inl t ↦ inl (record { slot = t.slot; taken = t.taken; uncopied = t.uncopied; there = t.there })
          | inr w ↦ inr (record { place = w.place; waits = w.waits; failed = w.failed; there = w.there })
        ]) way.only;
    waiting = way.waiting;
  }
    where
      moved : Queue D L M
      moved = record queue { reports = record other { waiting = queue.reports.waiting } }
