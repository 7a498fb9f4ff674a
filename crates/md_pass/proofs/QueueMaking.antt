-- Queues are made, one of each reading.
use Rattle.std.proofs.Common.{◌≡◌, ℕ, ◌+◌, ◌<◌, ◌≤◌, ◌++◌, ◌∷◌, [], List, length, sum_by, get_or, ap, sym, ◌∙◌, arith, inl, inr}
use Rattle.std.proofs.lemmas.List.{get_or_append_left}
use Rattle.std.proofs.lemmas.List.Sums.{sum_by-cons}
use Rattle.std.proofs.Math.Seq.{get_or-append_seam}
use Rattle.std.proofs.Math.Nat.{eq-or-lt_of_le}
use Rattle.md_collect.specs.declared.workers.queue.Queue.{Queue}
use Rattle.md_pass.specs.declared.source_reading.Reading.{Reading}
use Rattle.md_pass.specs.Readings.{IsQueueOf, slot_count_of}

pub slots_next : (xs rest : List Reading) (x : Reading) → xs ≡ x ∷ rest → sum_by slot_count_of xs ≡ slot_count_of x + sum_by slot_count_of rest
slots_next xs rest x is = ap (λ ys. sum_by slot_count_of ys) is ∙ sum_by-cons slot_count_of x rest

pub queues_next : {D L M : Type 0} (all : List Reading) (queues : List (Queue D L M)) (k : ℕ) (x : Reading) (queue : Queue D L M) → length queues ≡ k → ((s : Reading) → get_or all k s ≡ x) → IsQueueOf x queue
    → ((i : ℕ) (s : Reading) (d : Queue D L M) → i < k → IsQueueOf (get_or all i s) (get_or queues i d))
    → (i : ℕ) (s : Reading) (d : Queue D L M) → i < k + 1 → IsQueueOf (get_or all i s) (get_or (queues ++ (queue ∷ [])) i d)
queues_next all queues k x queue count at is before i s d below =
    elim (eq-or-lt_of_le (let le : i ≤ k = omega arith in le)) [
      | inl same ↦
          let there : get_or (queues ++ (queue ∷ [])) i d ≡ queue = ap (λ n. get_or (queues ++ (queue ∷ [])) n d) (same ∙ sym count) ∙ get_or-append_seam queues queue [] d in
          rw (there, same, at s) is
      | inr lower ↦ rw (get_or_append_left queues (queue ∷ []) d i (omega arith)) (before i s d lower)
    ]
