-- What a worker leaves of its queue.
use Rattle.std.proofs.Common.{◌≡◌, ℕ, ◌+◌, ◌<◌, ◌≤◌, ◌++◌, ◌∷◌, [], Bool, true, false, inl, inr, List, length, Option, Some, None, is_none, count_by, slice_index, get_or, not, cond, refl, ap, sym, ◌∙◌, arith, subst, length-append}
use Rattle.std.specs.List.{slice_get}
use Rattle.std.proofs.lemmas.Bool.{cases_lt}
use Rattle.std.proofs.lemmas.Option.{slice_get_cases}
use Rattle.std.proofs.lemmas.Grind.{common_steps}
use Rattle.std.proofs.lemmas.List.{get_or_append_left}
use Rattle.std.proofs.lemmas.List.Sums.{sum_by_push}
use Rattle.std.proofs.Math.Seq.{get_or-append_seam}
use Rattle.md_device.specs.declared.device.Device.{Ghosts}
use Rattle.md_device.specs.declared.fault_list.Fault.{Fault}
use Rattle.md_device.specs.Failing.{EachNewFault}
use Rattle.md_device.proofs.Failing.{fails_since, fails_still, fails_then, fails_weaker}
use Rattle.md_bitmap.specs.declared.chunks.Chunks.{Chunks}
use Rattle.md_collect.specs.Reading.{IsReadOfChunk}
use Rattle.md_collect.specs.Reports.{ReportView}
use Rattle.md_collect.specs.declared.workers.queue.Queue.{Queue}
use Rattle.md_collect.specs.Workers.Tally.{Tally}
use Rattle.md_collect.specs.Workers.Queues.{ReadsNextSlot, HasRead, IsSlotRead, IsOfWaiting, IsReport, MayReadOn, OnlyRead, is_failed, slots_read}
use Rattle.md_collect.specs.Workers.Waiting.{HasMemoryFor}
use Rattle.md_collect.proofs.WorkerLemmas.OnlyReads.{Reads, not_read, read_then}

pub some_at : (xs : List ℕ) (i x : ℕ) → slice_get xs i ≡ Some x → (i < length xs) × (x ≡ slice_index xs i)
some_at xs i x e = grind (arith, common_steps, slice_get_cases xs i)

pub none_at : (xs : List ℕ) (i : ℕ) → slice_get xs i ≡ None → length xs ≤ i
none_at xs i e = grind (arith, common_steps, slice_get_cases xs i)

failed_or_not : (b : Bool) → ◌≡◌ {A = ℕ} (cond (not b) 0 1) (cond b 1 0)
failed_or_not true = refl
failed_or_not false = refl

pub none_given : (r : ReportView) → is_failed r ≡ true → r.bytes ≡ None
none_given r e = by r.bytes e
  where
    by : (o : Option (List ℕ)) → is_none o ≡ true → o ≡ None
    by None e' = refl
    by (Some bytes) e' = cc

-- an element of a list with one more at its end
pub pushed : {X : Type 0} (P : ℕ → X → Type 0) (xs : List X) (x : X) → ((i : ℕ) (d : X) → i < length xs → P i (get_or xs i d)) → P (length xs) x → (i : ℕ) (d : X) → i < length (xs ++ x ∷ []) → P i (get_or (xs ++ x ∷ []) i d)
pushed P xs x each last i d below =
    elim (cases_lt i (length xs)) [
      | inl before ↦ subst (P i) (sym (get_or_append_left xs (x ∷ []) d i before)) (each i d before)
      | inr from ↦
          let same : length xs ≡ i = let n = length-append xs (x ∷ []) in omega (arith, below, n) in
          subst (λ j. P j (get_or (xs ++ x ∷ []) j d)) same (subst (P (length xs)) (sym (get_or-append_seam xs x [] d)) last)
    ]

module _ {D : Type 0} {g : Ghosts D} where
  -- a report of a device that was read before, and one of a device that is read again
  report_since : {a b c : D} {offset : ℕ} {chunks : Chunks} {chunk role : ℕ} {r : ReportView} → OnlyRead g a b → IsReport g b c offset chunks chunk role r → IsReport g a c offset chunks chunk role r
  report_since {a = a} {b = b} {c = c} {offset = offset} {chunks = chunks} {chunk = chunk} first is = record {
    chunk_is = is.chunk_is;
    role_is = is.role_is;
    whole = is.whole;
    delivered = λ bytes e h. is.delivered bytes e (first.honest_kept ∙ h) ∙ rw first.content_kept refl;
    failed = λ e h. let up = is.failed e (first.honest_kept ∙ h) in let before = first.counted in omega arith;
    failed_there = λ e. fails_since (g.faults a) (g.faults b) (g.faults c) (IsReadOfChunk offset chunks chunk) Reads first.reads_alone (is.failed_there e);
  }

  report_stays : {a b c : D} {offset : ℕ} {chunks : Chunks} {chunk role : ℕ} {r : ReportView} → IsReport g a b offset chunks chunk role r → OnlyRead g b c → IsReport g a c offset chunks chunk role r
  report_stays {a = a} {b = b} {c = c} {offset = offset} {chunks = chunks} {chunk = chunk} is later = record {
    chunk_is = is.chunk_is;
    role_is = is.role_is;
    whole = is.whole;
    delivered = is.delivered;
    failed = λ e h. let up = is.failed e h in let more = later.counted in omega arith;
    failed_there = λ e. fails_still (g.faults a) (g.faults b) (g.faults c) (IsReadOfChunk offset chunks chunk) Reads (is.failed_there e) later.reads_alone;
  }

module _ {D L M : Type 0} {g : Ghosts D} {chunks : Chunks} where
  -- what no step of a pass changes
  pub chunks_kept : {first queue : Queue D L M} {lost : ℕ} → HasRead g chunks lost first queue → queue.chunks ≡ first.chunks
  chunks_kept read = ap (λ (l : Queue D L M). l.chunks) read.kept

  pub role_kept : {first queue : Queue D L M} {lost : ℕ} → HasRead g chunks lost first queue → queue.role ≡ first.role
  role_kept read = ap (λ (l : Queue D L M). l.role) read.kept

  pub offset_kept : {first queue : Queue D L M} {lost : ℕ} → HasRead g chunks lost first queue → queue.offset ≡ first.offset
  offset_kept read = ap (λ (l : Queue D L M). l.offset) read.kept

  -- nor the memory for reports
  pub memory_kept : {first queue : Queue D L M} {lost many : ℕ} → HasRead g chunks lost first queue → HasMemoryFor chunks many first.reports → HasMemoryFor chunks many queue.reports
  memory_kept {first = first} {queue = queue} {many = many} read memory =
      let same : queue.reports ≡ record first.reports { waiting = queue.reports.waiting } = ap (λ (l : Queue D L M). l.reports) read.kept in
      subst (HasMemoryFor chunks many) (sym same) (record { room = memory.room; long = memory.long })

  -- no report waits
  pub none_read : (queue : Queue D L M) → MayReadOn g chunks queue → queue.reports.waiting ≡ [] → HasRead g chunks 0 queue queue
  none_read queue goes none = record {
    kept = refl;
    only_read = not_read queue.device;
    within = goes.within;
    each = λ i r below. absurd (let n = ap length none in omega (arith, n, below));
    left = goes.left;
    failed = let n : count_by is_failed queue.reports.waiting ≡ 0 = ap (count_by is_failed) none in omega (arith, n);
    risen = λ h. omega arith;
    parts = refl;
  }

  -- the next slot may be read too
  pub may_go_on : {lost : ℕ} (first queue : Queue D L M) → MayReadOn g chunks first → HasRead g chunks lost first queue → MayReadOn g chunks queue
  may_go_on first queue may read =
      let same : queue.chunks ≡ first.chunks = chunks_kept read in
      record {
        room = rw (read.only_read.content_kept, offset_kept read) may.room;
        chunk = rw same may.chunk;
        within = rw same read.within;
        left = rw same read.left;
      }

  one_more : (first queue new : Queue D L M) → HasRead g chunks 0 first queue → new.done ≡ queue.done → OnlyRead g queue.device new.device → IsSlotRead g chunks queue new → HasRead g chunks 0 first new
  one_more first queue new read done later is =
      let same : queue.chunks ≡ first.chunks = chunks_kept read in
      let n = length-append queue.reports.waiting (is.report ∷ []) in
      let one : length new.reports.waiting ≡ length queue.reports.waiting + 1 = ap length is.reports ∙ omega (arith, n) in
      let below : slots_read queue < length first.chunks.items = subst (λ (v : _). slots_read queue < length v.items) same is.within in
      record {
        kept = is.kept ∙ ap (λ (l : Queue D L M). record l { device = new.device; share = new.share; reports = record l.reports { waiting = new.reports.waiting } }) read.kept ∙ rw done refl;
        only_read = read_then read.only_read later;
        within = omega (arith, one, done, below);
        each = rw (is.reports, done) (pushed Has queue.reports.waiting is.report before last);
        left = ap (λ (t : Tally). t.left) is.share ∙ (let e = read.left in omega (arith, one, done));
        failed = ap (λ (t : Tally). t.failed) is.share ∙ (let e = read.failed in let b = failed_or_not (is_failed is.report) in let more = sum_by_push (λ (r : ReportView). cond (is_failed r) 1 0) queue.reports.waiting is.report in omega (arith, e, b, more)) ∙ ap (λ rs. first.share.failed + (0 + count_by is_failed rs)) (sym is.reports);
        risen = λ h.
            let before = read.risen h in
            let since = rises (is_failed is.report) refl (read.only_read.honest_kept ∙ h) in
            let e : new.share.failed ≡ queue.share.failed + cond (not (is_failed is.report)) 0 1 = ap (λ (t : Tally). t.failed) is.share in
            omega (arith, before, since, e);
        parts = ap (λ (t : Tally). t.parts) is.share ∙ read.parts;
      }
    where
      Has : ℕ → ReportView → Type 0
      Has i r = IsReport g first.device new.device first.offset chunks (slice_index first.chunks.items (queue.done + i)) first.role r

      before : (i : ℕ) (r : ReportView) → i < length queue.reports.waiting → Has i (get_or queue.reports.waiting i r)
      before i r below = report_stays (read.each i r below) later

      rises : (b : Bool) → is_failed is.report ≡ b → g.honest queue.device ≡ true → g.failures queue.device + cond (not b) 0 1 ≤ g.failures new.device
      rises true e h = let up = is.is.failed (none_given is.report e) h in omega (arith, up)
      rises false e h = let up = later.counted in omega (arith, up)

      last : Has (length queue.reports.waiting) is.report
      last = rw (← chunks_kept read, ← offset_kept read, ← role_kept read) (report_since read.only_read is.is)

  -- one step of a worker after others
  pub went_on : (first queue new : Queue D L M) (more : Bool) → HasRead g chunks 0 first queue → ReadsNextSlot g chunks queue new more → HasRead g chunks 0 first new
  went_on first queue new true read goes = one_more first queue new read (ap (λ (l : Queue D L M). l.done) goes.kept) goes.only_read goes
  went_on first queue new false read goes = rw goes.0 read

  -- a worker of a queue of which no report waits, after all that the pass has done
  pub worked : {lost : ℕ} (first queue new : Queue D L M) → HasRead g chunks lost first queue → queue.reports.waiting ≡ [] → HasRead g chunks 0 queue new → new.done ≡ queue.done → HasRead g chunks lost first new
  worked {lost = lost} first queue new before none read done =
      let same : queue.chunks ≡ first.chunks = chunks_kept before in
      record {
        kept = read.kept ∙ ap (λ (l : Queue D L M). record l { device = new.device; done = new.done; share = new.share; reports = record l.reports { waiting = new.reports.waiting } }) before.kept;
        only_read = read_then before.only_read read.only_read;
        within = rw (← same) read.within;
        each = rw (← same, ← offset_kept before, ← role_kept before) (λ i r below. report_since before.only_read (read.each i r below));
        left = rw (← same) read.left;
        failed = let a = before.failed in let b = read.failed in let n : count_by is_failed queue.reports.waiting ≡ 0 = ap (count_by is_failed) none in omega (arith, a, b, n);
        risen = λ h. let a = before.risen h in let b = read.risen (before.only_read.honest_kept ∙ h) in omega (arith, a, b);
        parts = read.parts ∙ before.parts;
      }

module _ {D L M : Type 0} (chunks : Chunks) (queue new : Queue D L M) where
  -- the reports that wait tell of each call that failed
  still_waiting : (report : ReportView) → new.reports.waiting ≡ queue.reports.waiting ++ report ∷ [] → new.offset ≡ queue.offset → new.chunks ≡ queue.chunks → new.done ≡ queue.done → (f : Fault) → IsOfWaiting chunks queue f → IsOfWaiting chunks new f
  still_waiting report reports offset same done f is = record {
    place = is.place;
    waits = let n = length-append queue.reports.waiting (report ∷ []) in let one : length new.reports.waiting ≡ length queue.reports.waiting + 1 = ap length reports ∙ omega (arith, n) in let w = is.waits in omega (arith, one, w);
    failed = λ r. ap (λ rs. is_failed (get_or rs is.place r)) reports ∙ ap is_failed (get_or_append_left queue.reports.waiting (report ∷ []) r is.place is.waits) ∙ is.failed r;
    there = rw (offset, same, done) is.there;
  }

-- after a step of a worker
module _ {D L M : Type 0} (g : Ghosts D) (chunks : Chunks) (queue new : Queue D L M) where
  pub one_more_read : (more : Bool) → ReadsNextSlot g chunks queue new more → more ≡ true → length new.reports.waiting ≡ length queue.reports.waiting + 1
  one_more_read false goes e = absurd cc
  one_more_read true goes e = ap length goes.reports ∙ (let n = length-append queue.reports.waiting (goes.report ∷ []) in omega (arith, n))

  -- all slots were read
  pub none_more_read : (more : Bool) → ReadsNextSlot g chunks queue new more → more ≡ false → (new ≡ queue) × (length queue.chunks.items ≤ slots_read queue)
  none_more_read true goes e = absurd cc
  none_more_read false goes e = goes

  pub done_kept : (more : Bool) → ReadsNextSlot g chunks queue new more → new.done ≡ queue.done
  done_kept true goes = ap (λ (l : Queue D L M). l.done) goes.kept
  done_kept false goes = ap (λ (l : Queue D L M). l.done) goes.0

  pub one_more_waits : (past : List Fault) (more : Bool) → ReadsNextSlot g chunks queue new more → more ≡ true → EachNewFault past (g.faults queue.device) (IsOfWaiting chunks queue) → EachNewFault past (g.faults new.device) (IsOfWaiting chunks new)
  one_more_waits past false goes e before = absurd cc
  one_more_waits past true goes e before =
      let is = goes in
      let offset : new.offset ≡ queue.offset = ap (λ (l : Queue D L M). l.offset) goes.kept in
      let same : new.chunks ≡ queue.chunks = ap (λ (l : Queue D L M). l.chunks) goes.kept in
      let done : new.done ≡ queue.done = ap (λ (l : Queue D L M). l.done) goes.kept in
      let n = length-append queue.reports.waiting (is.report ∷ []) in
      let one : length new.reports.waiting ≡ length queue.reports.waiting + 1 = ap length is.reports ∙ omega (arith, n) in
      fails_then past (g.faults queue.device) (g.faults new.device) (IsOfWaiting chunks new)
      (fails_weaker past (g.faults queue.device) (IsOfWaiting chunks queue) (IsOfWaiting chunks new) (still_waiting chunks queue new is.report is.reports offset same done) before)
      (fails_weaker (g.faults queue.device) (g.faults new.device) (λ f. (is_failed is.report ≡ true) × IsReadOfChunk queue.offset chunks (slice_index queue.chunks.items (slots_read queue)) f) (IsOfWaiting chunks new)
      (λ f h. record {
        place = length queue.reports.waiting;
        waits = omega (arith, one);
        failed = λ r. ap (λ rs. is_failed (get_or rs (length queue.reports.waiting) r)) is.reports ∙ ap is_failed (get_or-append_seam queue.reports.waiting is.report [] r) ∙ h.0;
        there = rw (offset, same, done) h.1;
      }) is.only)
