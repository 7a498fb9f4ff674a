-- What a gate is told of, over several calls.
use Rattle.std.proofs.Common.{◌≡◌, ◌+◌, ◌++◌, ◌∷◌, ◌∙◌, [], ap, arith, inl, inr, length, length-append, slice_index, subst}
use Rattle.std.proofs.lemmas.Bool.{cases_lt}
use Rattle.md_streams.specs.declared.gate.Gate.{Ghosts}
use Rattle.md_collect.specs.Reports.{ReportView}
use Rattle.md_collect.specs.declared.workers.queue.Queue.{Queue}
use Rattle.md_collect.specs.Workers.Gates.{IsTold, IsToldOfReads}
use Rattle.md_collect.specs.Workers.Queues.{slots_read}

-- no slot was read
pub told_none : {G D L M : Type 0} (t : Ghosts G) (gate : G) (queue : Queue D L M) → IsToldOfReads t gate queue queue
told_none t gate queue j from below = absurd (omega (arith, from, below))

-- of the slots that were read first, and of those that were read then
pub told_then : {G D L M : Type 0} (t : Ghosts G) (gate : G) (first queue new : Queue D L M) → queue.role ≡ first.role → queue.chunks ≡ first.chunks
    → IsToldOfReads t gate first queue → IsToldOfReads t gate queue new → IsToldOfReads t gate first new
told_then t gate first queue new role chunks before after j from below =
    elim (cases_lt j (slots_read queue)) [
      | inl early ↦ before j from early
      | inr late ↦
          subst (λ r. IsTold t gate r (slice_index first.chunks.items j)) role
          (subst (λ (v : _). IsTold t gate queue.role (slice_index v.items j)) chunks (after j late below))
    ]

-- of the next slot, which was read
pub told_next : {G D L M : Type 0} (t : Ghosts G) (gate : G) (queue new : Queue D L M) (report : ReportView) → new.reports.waiting ≡ queue.reports.waiting ++ report ∷ [] → new.done ≡ queue.done
    → IsTold t gate queue.role (slice_index queue.chunks.items (slots_read queue)) → IsToldOfReads t gate queue new
told_next t gate queue new report reports done is j from below =
    let n = length-append queue.reports.waiting (report ∷ []) in
    let one : length new.reports.waiting ≡ length queue.reports.waiting + 1 = ap length reports ∙ omega (arith, n) in
    let here : slots_read queue ≡ j = omega (arith, one, done, from, below) in
    subst (λ i. IsTold t gate queue.role (slice_index queue.chunks.items i)) here is

-- reports were taken, and no slot was read
pub told_still : {G D L M : Type 0} (t : Ghosts G) (gate : G) (first queue new : Queue D L M) → slots_read new ≡ slots_read queue → IsToldOfReads t gate first queue → IsToldOfReads t gate first new
told_still t gate first queue new same before j from below = before j from (omega (arith, same, below))
