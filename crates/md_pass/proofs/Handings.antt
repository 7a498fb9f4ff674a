-- What the collector has of each queue, and the queue as if it had none.
use Rattle.std.proofs.Common.{◌≡◌, ℕ, suc, zero, ◌+◌, ◌-◌, ◌<◌, ◌≤◌, ◌∷◌, [], Bool, List, length, min, set, get_or, refl, ap, sym, ◌∙◌, arith, subst}
use Rattle.std.specs.List.{All}
use Rattle.md_device.specs.declared.device.Device.{Ghosts}
use Rattle.md_bitmap.specs.declared.chunks.Chunks.{Chunks}
use Rattle.md_collect.specs.declared.workers.queue.Queue.{Queue}
use Rattle.md_collect.specs.Workers.Queues.{HasWorked, slots_read}
use Rattle.md_collect.specs.Workers.Waiting.{HasMemoryFor, WaitingView}
use Rattle.md_collect.proofs.WorkerLemmas.Workers.{chunks_kept, memory_kept}
use Rattle.md_pass.specs.TakingReports.{Books}
use Rattle.md_pass.specs.Passes.{IsPassing, IsUnderWay}
use Rattle.md_pass.specs.Handing.{AreHanded, HandsOver, HaveMemory, all_with_reports, handed, with_reports}
use Rattle.md_pass.proofs.Memories.{elsewhere}

-- reports of which none waits
pub no_reports : WaitingView
no_reports = record { waiting = []; room = 0; longest = 0 }

-- a list is as it was where an element is replaced by itself
pub set_same : {X : Type 0} (xs : List X) (k : ℕ) (x : X) → x ≡ get_or xs k x → set xs k x ≡ xs
set_same [] k x is = refl
set_same (y ∷ ys) zero x is = ap (λ z. z ∷ ys) is
set_same (y ∷ ys) (suc k) x is = ap (λ zs. y ∷ zs) (set_same ys k x is)

module _ {D L M : Type 0} where
  pub length_with : (queues : List (Queue D L M)) (waits : List WaitingView) → length waits ≡ length queues → length (all_with_reports queues waits) ≡ length queues
  length_with [] waits same = refl
  length_with (queue ∷ queues) [] same = absurd (omega (arith, same))
  length_with (queue ∷ queues) (reports ∷ waits) same = ap suc (length_with queues waits (omega (arith, same)))

  pub get_with : (queues : List (Queue D L M)) (waits : List WaitingView) (k : ℕ) (q d : Queue D L M) (w : WaitingView) → length waits ≡ length queues → k < length queues
      → get_or (all_with_reports queues waits) k d ≡ with_reports (get_or queues k q) (get_or waits k w)
  get_with [] waits k q d w same below = absurd (omega (arith, below))
  get_with (queue ∷ queues) [] k q d w same below = absurd (omega (arith, same))
  get_with (queue ∷ queues) (reports ∷ waits) zero q d w same below = refl
  get_with (queue ∷ queues) (reports ∷ waits) (suc k) q d w same below = get_with queues waits k q d w (omega (arith, same)) (omega (arith, below))

  pub set_with : (queues : List (Queue D L M)) (waits : List WaitingView) (k : ℕ) (q : Queue D L M) (new : WaitingView) → length waits ≡ length queues → k < length queues
      → all_with_reports queues (set waits k new) ≡ set (all_with_reports queues waits) k (with_reports (get_or queues k q) new)
  set_with [] waits k q new same below = absurd (omega (arith, below))
  set_with (queue ∷ queues) [] k q new same below = absurd (omega (arith, same))
  set_with (queue ∷ queues) (reports ∷ waits) zero q new same below = refl
  set_with (queue ∷ queues) (reports ∷ waits) (suc k) q new same below = ap (λ l. with_reports queue reports ∷ l) (set_with queues waits k q new (omega (arith, same)) (omega (arith, below)))

  -- the first of queues that are more than so many
  pub some_queue : (queues : List (Queue D L M)) (k : ℕ) → k < length queues → Queue D L M
  some_queue [] k below = absurd (omega (arith, below))
  some_queue (queue ∷ queues) k below = queue

  -- where the collector has none, a queue of which none waits is as it is
  none_with : (queue : Queue D L M) (reports : WaitingView) → reports.waiting ≡ [] → queue.reports.waiting ≡ [] → with_reports queue reports ≡ queue
  none_with queue reports idle none =
      ap (λ ws. record queue { done = queue.done - length ws; reports = record queue.reports { waiting = ws } }) idle
      ∙ ap (λ n. record queue { done = n; reports = record queue.reports { waiting = [] } }) (let z : queue.done - 0 ≡ queue.done = omega arith in z)
      ∙ ap (λ ws. record queue { reports = record queue.reports { waiting = ws } }) (sym none)

  pub all_none : (queues : List (Queue D L M)) (waits : List WaitingView) → length waits ≡ length queues → All (λ (reports : WaitingView). reports.waiting ≡ []) waits → All (λ (queue : Queue D L M). queue.reports.waiting ≡ []) queues
      → all_with_reports queues waits ≡ queues
  all_none [] waits same idle none = refl
  all_none (queue ∷ queues) [] same idle none = absurd (omega (arith, same))
  all_none (queue ∷ queues) (reports ∷ waits) same idle none =
      ap (λ q. q ∷ all_with_reports queues waits) (none_with queue reports (idle 0 reports (omega arith)) (none 0 queue (omega arith)))
      ∙ ap (λ qs. queue ∷ qs) (all_none queues waits (omega (arith, same)) (λ k d below. idle (suc k) d (omega (arith, below))) (λ k d below. none (suc k) d (omega (arith, below))))

  -- once it has fewer
  pub still_handed : (queues : List (Queue D L M)) (olds news : List WaitingView) → AreHanded queues olds → length news ≡ length olds
      → ((k : ℕ) (d : WaitingView) → k < length olds → length (get_or news k d).waiting ≤ length (get_or olds k d).waiting) → AreHanded queues news
  still_handed queues olds news has same fewer = record {
    as_many = same ∙ has.as_many;
    within = λ k q w below. let few = fewer k w (let many = has.as_many in omega (arith, many, below)) in let before = has.within k q w below in omega (arith, few, before);
  }

  module _ {queues queues' : List (Queue D L M)} {waits waits' : List WaitingView} where
    -- reports were handed over
    pub now_handed : HandsOver queues queues' waits waits' → length waits ≡ length queues → AreHanded queues' waits'
    now_handed is same = record {
      as_many = is.waits_as_many ∙ same ∙ sym is.as_many;
      within = λ k q w below.
          let here : k < length queues = (let many = is.as_many in omega (arith, many, below)) in
          rw (is.queues_are k q w here, is.waits_are k q w here) (omega arith);
    }

module _ {D L M : Type 0} {g : Ghosts D} {th : Bool} {firsts queues : List (Queue D L M)} {start now : Books} where
  -- a pass is under way as before where reports were handed over
  pub handing : {queues' : List (Queue D L M)} {waits waits' : List WaitingView} → IsPassing g th firsts queues start now → HandsOver queues queues' waits waits' → length waits ≡ length queues
      → IsPassing g th firsts (all_with_reports queues' waits') start now
  handing {queues' = queues'} {waits = waits} {waits' = waits'} p is same =
      let many : length waits' ≡ length queues' = is.waits_as_many ∙ same ∙ sym is.as_many in
      record {
        begins = p.begins;
        apart = p.apart;
        room = p.room;
        covers = p.covers;
        as_many = length_with queues' waits' many ∙ is.as_many ∙ p.as_many;
        each = λ k d below.
            let here : k < length queues = (let n = p.as_many in omega (arith, n, below)) in
            let there : k < length queues' = (let n = is.as_many in omega (arith, n, here)) in
            let queue = get_or queues k d in
            let other = get_or waits k no_reports in
            let back : slots_read queue - length queue.reports.waiting ≡ queue.done = omega arith in
            let at : get_or (all_with_reports queues' waits') k d ≡ record queue { reports = record other { waiting = queue.reports.waiting } }
            = get_with queues' waits' k d d no_reports many there
            ∙ ap (λ q. with_reports q (get_or waits' k no_reports)) (is.queues_are k d no_reports here)
            ∙ ap (λ w. with_reports (handed queue other) w) (is.waits_are k d no_reports here)
            ∙ ap (λ n. record queue { done = n; reports = record other { waiting = queue.reports.waiting } }) back in
            subst (λ q. IsUnderWay g th now (get_or firsts k d) q) (sym at) (elsewhere (get_or firsts k d) queue other (p.each k d below));
        books = p.books;
      }

  -- and where the collector has taken all of them
  pub all_taken : (waits : List WaitingView) → IsPassing g th firsts (all_with_reports queues waits) start now → length waits ≡ length queues → All (λ (reports : WaitingView). reports.waiting ≡ []) waits
      → All (λ (queue : Queue D L M). queue.reports.waiting ≡ []) queues → IsPassing g th firsts queues start now
  all_taken waits p same idle none = subst (λ qs. IsPassing g th firsts qs start now) (all_none queues waits same idle none) p

less_memory : {chunks : Chunks} {many : ℕ} (fewer : ℕ) (reports : WaitingView) → HasMemoryFor chunks many reports → fewer ≤ many → HasMemoryFor chunks fewer reports
less_memory fewer reports has less = record { room = (let r = has.room in omega (arith, r, less)); long = has.long }

-- the memory for the turns to come, after a turn
module _ {D L M : Type 0} (g : Ghosts D) (chunks : Chunks) (most : ℕ) where
  -- how many slots a worker leaves
  left_then : (queue new : Queue D L M) → HasWorked g chunks most queue new → queue.reports.waiting ≡ [] → slots_read new ≡ queue.done + min most (length queue.chunks.items - queue.done)
  left_then queue new has none = let d = has.done in let m = has.many in omega (arith, d, m)

  pub memory_then : (queues queues' queues'' : List (Queue D L M)) (waits waits' waits'' : List WaitingView) → HaveMemory chunks most queues waits → HandsOver queues queues' waits waits'
      → length queues'' ≡ length queues' → ((k : ℕ) (d : Queue D L M) → k < length queues' → HasWorked g chunks most (get_or queues' k d) (get_or queues'' k d))
      → length waits'' ≡ length waits' → ((k : ℕ) (d : WaitingView) → k < length waits' → get_or waits'' k d ≡ record (get_or waits' k d) { waiting = (get_or waits'' k d).waiting })
      → All (λ (reports : WaitingView). reports.waiting ≡ []) waits'' → HaveMemory chunks most queues'' waits''
  memory_then queues queues' queues'' waits waits' waits'' has is many worked waits_many kept idle = record {
    as_many = waits_many ∙ is.waits_as_many ∙ has.as_many ∙ sym is.as_many ∙ sym many;
    idle = idle;
    next = λ k q w below.
        let (here, there) = places k below in
        let queue = get_or queues k q in
        let one = worked k q there in
        let left = read_after k q below in
        let n = chunk_count k q below in
        let there_too : k < length waits' = (let a = is.waits_as_many in let b = has.as_many in omega (arith, a, b, here)) in
        rw (kept k w there_too, is.waits_are k q w here)
        (let old = less_memory (min most (length (get_or queues'' k q).chunks.items - slots_read (get_or queues'' k q))) queue.reports (has.later k q here) (omega (arith, left, n)) in record { room = old.room; long = old.long });
    later = λ k q below.
        let (here, there) = places k below in
        let one = worked k q there in
        let left = read_after k q below in
        let n = chunk_count k q below in
        memory_kept one.read (rw (ap (λ (l : Queue D L M). l.reports) (is.queues_are k q no_reports here))
        (less_memory (min most (length (get_or queues'' k q).chunks.items - slots_read (get_or queues'' k q) - most)) (get_or waits k no_reports) (has.next k q no_reports here) (omega (arith, left, n))));
  }
    where
      places : (k : ℕ) → k < length queues'' → (k < length queues) × (k < length queues')
      places k below = let m = is.as_many in (omega (arith, many, m, below), omega (arith, many, below))

      chunk_count : (k : ℕ) (q : Queue D L M) → k < length queues'' → length (get_or queues'' k q).chunks.items ≡ length (get_or queues k q).chunks.items
      chunk_count k q below =
          let (here, there) = places k below in
          ap (λ (v : _). length v.items) (chunks_kept (worked k q there).read) ∙ ap (λ (l : Queue D L M). length l.chunks.items) (is.queues_are k q no_reports here)

      read_after : (k : ℕ) (q : Queue D L M) → k < length queues'' → slots_read (get_or queues'' k q) ≡ slots_read (get_or queues k q) + min most (length (get_or queues k q).chunks.items - slots_read (get_or queues k q))
      read_after k q below =
          let (here, there) = places k below in
          let at = is.queues_are k q no_reports here in
          let none : (get_or queues' k q).reports.waiting ≡ [] = ap (λ (l : Queue D L M). l.reports.waiting) at ∙ has.idle k no_reports (let a = has.as_many in omega (arith, a, here)) in
          left_then (get_or queues' k q) (get_or queues'' k q) (worked k q there) none
          ∙ ap (λ (l : Queue D L M). l.done + min most (length l.chunks.items - l.done)) at
