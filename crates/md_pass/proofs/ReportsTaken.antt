-- What it does to a pass that a report is taken.
use Rattle.std.proofs.Common.{◌≡◌, ◌≢◌, ℕ, suc, zero, ◌+◌, ◌<◌, ◌||◌, ◌&&◌, ◌==◌, ◌∷◌, Bool, true, false, not, ◌⊎◌, inl, inr, List, length, Option, Some, None, is_none, cond, count_by, get_or, slice_index, refl, ap, sym, ◌∙◌, arith, subst}
use Rattle.std.proofs.lemmas.List.Sums.{sum_by-cons}
use Rattle.std.proofs.lemmas.Bool.{cases_lt, eqb-true}
use Rattle.std.proofs.lemmas.List.{get_or_default}
use Rattle.md_device.specs.Splice.{part}
use Rattle.md_device.specs.declared.device.Device.{Ghosts}
use Rattle.md_bitmap.specs.declared.chunks.Chunks.{Chunks}
use Rattle.md_bitmap.specs.Marks.{is_set}
use Rattle.md_collect.specs.Places.{IsChunk, HasRoom, bytes_of_chunk, chunk_on, with_chunk}
use Rattle.md_device.specs.declared.fault_list.Fault.{Fault}
use Rattle.md_device.specs.Failing.{EachNewFault}
use Rattle.md_device.proofs.Failing.{fails_weaker}
use Rattle.md_collect.specs.Reading.{FailsInChunk, IsReadOfChunk}
use Rattle.md_collect.specs.Reports.{ReportView, Copying, is_planned, has_length, with_report}
use Rattle.md_collect.specs.Collecting.{CollectorView, copying}
use Rattle.md_collect.specs.Targets.{ChangesChunk}
use Rattle.md_collect.specs.declared.workers.queue.Queue.{Queue}
use Rattle.md_pass.specs.Beside.{LiesBesideChunk, has_chunk}
use Rattle.md_pass.specs.TakingReports.{Books, IsAllowed, IsReportTaken}
use Rattle.md_collect.specs.Workers.Queues.{HasRead, IsOfWaiting, IsReport, is_failed, slots_read}
use Rattle.md_pass.specs.Passes.{HasBooks, IsAtStart, HasLanded, IsOfTaken, IsUnderWay, count_left, is_left}
use Rattle.md_collect.proofs.WorkerLemmas.Tests.{has_new, has_old, has_either, has_neither, same_number, other_number, or_right}
use Rattle.md_pass.proofs.ChunkPlaces.{chunk_beside, chunk_written, chunk_fits, part_beside}
use Rattle.md_pass.proofs.Besides.{planned_has}
use Rattle.md_collect.proofs.WorkerLemmas.Workers.{chunks_kept, none_given, offset_kept}
use Rattle.md_pass.proofs.Lefts.{count_more, same_counts}
use Rattle.md_pass.proofs.Memories.{remembered, since}

whole_length : (chunks : Chunks) (r : ReportView) → ((bytes : List ℕ) → r.bytes ≡ Some bytes → length bytes ≡ bytes_of_chunk chunks r.chunk) → has_length chunks r ≡ true
whole_length chunks r whole = by r.bytes refl
  where
    by : (o : Option (List ℕ)) → r.bytes ≡ o → has_length chunks r ≡ true
    by None e = rw e refl
    by (Some bytes) e = rw (e, whole bytes e) (same_number _)

-- the chunk of the target may differ
abbrev pub Changes : Books → Books → ℕ → Type 0
Changes old new c = ChangesChunk old.collector c old.target new.target

-- a queue before and after its report that waits first was taken, and these wait then
abbrev pub Advances : {D L M : Type 0} → Queue D L M → Queue D L M → List ReportView → Type 0
Advances queue queue' rest = queue' ≡ record queue { done = queue.done + 1; reports = record queue.reports { waiting = rest } }

-- the bytes of a delivered report
pub held : (v : CollectorView) (old new : List ℕ) (r : ReportView) (bytes : List ℕ) → r.bytes ≡ Some bytes → new ≡ with_report (copying v) old r → new ≡ with_chunk old v.offset v.chunks r.chunk bytes
held v old new r bytes e is = is ∙ by r.bytes e
  where
    by : (o : Option (List ℕ)) → o ≡ Some bytes → with_report (copying v) old (record r { bytes = o }) ≡ with_chunk old v.offset v.chunks r.chunk bytes
    by o e' = rw e' refl

-- a set in which this chunk may be new
pub still_set : (b e o : Bool) → o ≡ true → ((b && e) || o) ≡ true
still_set b e true is = or_right (b && e) true refl
still_set b e false is = cc

newly_set : (b e o : Bool) → ((b && e) || o) ≡ true → o ≡ false → (b ≡ true) × (e ≡ true)
newly_set true true o is none = (refl, refl)
newly_set true false o is none = absurd (falsum o is none)
  where
    falsum : (o : Bool) → o ≡ true → o ≡ false → ⊥
    falsum o t f = cc
newly_set false e o is none = absurd (falsum o is none)
  where
    falsum : (o : Bool) → o ≡ true → o ≡ false → ⊥
    falsum o t f = cc

set_or_not : (b : Bool) → (b ≡ true) ⊎ (b ≡ false)
set_or_not true = inl refl
set_or_not false = inr refl

both_ways : (b : Bool) → b ≡ true → b ≡ false → ⊥
both_ways b t f = cc

module _ {th : Bool} {old new : Books} {r : ReportView} where
  same_copy : IsReportTaken th old new r → copying new.collector ≡ copying old.collector
  same_copy is = ap copying is.counted.kept

  pub same_chunks : IsReportTaken th old new r → new.collector.chunks ≡ old.collector.chunks
  same_chunks is = ap (λ (c : Copying). c.chunks) (same_copy is)

  pub same_offset : IsReportTaken th old new r → new.collector.offset ≡ old.collector.offset
  same_offset is = ap (λ (c : Copying). c.offset) (same_copy is)

  -- the marks of other chunks
  pub other_mark : IsReportTaken th old new r → (c : ℕ) → c ≢ r.chunk → is_set new.copied.bytes c ≡ is_set old.copied.bytes c
  other_mark is c other = is.marked.bits c ∙ by (not (is_failed r)) (c == r.chunk) (is_set old.copied.bytes c) (other_number c r.chunk other)
    where
      by : (b e o : Bool) → e ≡ false → ((b && e) || o) ≡ o
      by true e o none = rw none refl
      by false e o none = refl

  -- and that of the chunk itself, where it was not marked before
  pub own_mark : IsReportTaken th old new r → is_set old.copied.bytes r.chunk ≡ false → is_set new.copied.bytes r.chunk ≡ not (is_failed r)
  own_mark is none = is.marked.bits r.chunk ∙ by (not (is_failed r)) (r.chunk == r.chunk) (is_set old.copied.bytes r.chunk) (same_number r.chunk) none
    where
      by : (b e o : Bool) → e ≡ true → o ≡ false → ((b && e) || o) ≡ b
      by true true o is' none' = refl
      by true false o is' none' = cc
      by false e o is' none' = none'

  -- as many chunks of another queue are left
  same_left : (xs : List ℕ) (n : ℕ) → IsReportTaken th old new r → ((j : ℕ) → j < n → j < length xs → slice_index xs j ≢ r.chunk) → count_left new.copied xs n ≡ count_left old.copied xs n
  same_left xs n is apart = same_counts (is_left new.copied) (is_left old.copied) xs n (λ j d below within.
      let at : get_or xs j d ≡ slice_index xs j = get_or_default xs j d 0 within in
      rw at (ap not (other_mark is (slice_index xs j) (apart j below within))))

  pub books_more : {start : Books} → IsReportTaken th old new r → Changes old new r.chunk → HasBooks start old → has_chunk start.collector.slots r.chunk ≡ true → is_set start.copied.bytes r.chunk ≡ false → is_set old.copied.bytes r.chunk ≡ false → HasBooks start new
  books_more {start = start} is out has planned first_none none =
      let chunks : old.collector.chunks ≡ start.collector.chunks = ap (λ (c : Copying). c.chunks) has.same_copy in
      let offset : old.collector.offset ≡ start.collector.offset = ap (λ (c : Copying). c.offset) has.same_copy in
      record {
        same_copy = same_copy is ∙ has.same_copy;
        whole = ap (λ (v : CollectorView). v.spoiled) is.counted.kept ∙ has.whole;
        size = out.size ∙ has.size;
        planned = λ c set. elim (has_either (is_set new.collector.reported.bytes) (is_set old.collector.reported.bytes) r.chunk is.counted.reported c set) [
          | inl same ↦ rw same planned
          | inr before ↦ has.planned c before
        ];
        count = is.marked.chunks ∙ has.count;
        kept = λ c set. is.marked.bits c ∙ still_set (not (is_failed r)) (c == r.chunk) (is_set old.copied.bytes c) (has.kept c set);
        marks = λ c set unset.
            elim (set_or_not (is_set old.copied.bytes c)) [
              | inl before ↦ has_old (is_set new.collector.reported.bytes) (is_set old.collector.reported.bytes) r.chunk is.counted.reported c (has.marks c before unset)
              | inr not_before ↦
                  let same : c ≡ r.chunk = eqb-true c r.chunk (newly_set (not (is_failed r)) (c == r.chunk) (is_set old.copied.bytes c) (sym (is.marked.bits c) ∙ set) not_before).1 in
                  rw same (has_new (is_set new.collector.reported.bytes) (is_set old.collector.reported.bytes) r.chunk is.counted.reported)
            ];
        beside = record { size = out.size ∙ has.size; beside = λ at n beside. here at n beside (set_or_not (is_failed r)) ∙ has.beside.beside at n (λ c set unset. beside c (is.marked.bits c ∙ still_set (not (is_failed r)) (c == r.chunk) (is_set old.copied.bytes c) set) unset) };
      }
    where
      here : (at n : ℕ) → ((c : ℕ) → is_set new.copied.bytes c ≡ true → is_set start.copied.bytes c ≡ false → LiesBesideChunk start.collector.chunks start.collector.offset at n c)
          → (is_failed r ≡ true) ⊎ (is_failed r ≡ false) → part new.target at n ≡ part old.target at n
      here at n beside (inl failed) = ap (λ xs. part xs at n) (is.unwritten failed)
      here at n beside (inr delivered) =
          let chunks : old.collector.chunks ≡ start.collector.chunks = ap (λ (c : Copying). c.chunks) has.same_copy in
          let offset : old.collector.offset ≡ start.collector.offset = ap (λ (c : Copying). c.offset) has.same_copy in
          let mark : is_set new.copied.bytes r.chunk ≡ true = own_mark is none ∙ ap not delivered in
          part_beside old.collector.chunks old.collector.offset r.chunk old.target new.target out at n (rw (chunks, offset) (beside r.chunk mark first_none))

module _ {D L M : Type 0} {g : Ghosts D} {chunks : Chunks} {taken taken' : Queue D L M} {r : ReportView} {rest : List ReportView} where
  -- what the queue has read stays, but for the report that was taken
  still_read : (first : Queue D L M) → Advances taken taken' rest → taken.reports.waiting ≡ r ∷ rest → (lost lost' : ℕ) → lost' ≡ lost + cond (is_failed r) 1 0 → HasRead g chunks lost first taken → HasRead g chunks lost' first taken'
  still_read first goes e lost lost' more read =
      let device : taken'.device ≡ taken.device = ap (λ (l : Queue D L M). l.device) goes in
      let share : taken'.share ≡ taken.share = ap (λ (l : Queue D L M). l.share) goes in
      let done : taken'.done ≡ taken.done + 1 = ap (λ (l : Queue D L M). l.done) goes in
      let reports : taken'.reports.waiting ≡ rest = ap (λ (l : Queue D L M). l.reports.waiting) goes in
      let n : length taken.reports.waiting ≡ suc (length rest) = ap length e in
      let same : slots_read taken' ≡ slots_read taken = ap (λ k. taken'.done + k) (ap length reports) ∙ omega (arith, done, n) in
      record {
        kept = goes ∙ ap (λ (l : Queue D L M). record l { done = taken.done + 1; reports = record l.reports { waiting = rest } }) read.kept ∙ rw (device, share, done, reports) refl;
        only_read = rw device read.only_read;
        within = rw same read.within;
        each = rw (device, reports, done) at;
        left = rw (share, same) read.left;
        failed = rw (share, reports) (read.failed ∙ (let all = ap (count_by is_failed) e in let one = sum_by-cons (λ (x : ReportView). cond (is_failed x) 1 0) r rest in omega (arith, all, one, more)));
        risen = rw (device, share) read.risen;
        parts = rw share read.parts;
      }
    where
      at : (i : ℕ) (x : ReportView) → i < length rest → IsReport g first.device taken.device first.offset chunks (slice_index first.chunks.items (taken.done + 1 + i)) first.role (get_or rest i x)
      at i x below =
          let n : length taken.reports.waiting ≡ suc (length rest) = ap length e in
          let next : taken.done + suc i ≡ taken.done + 1 + i = omega arith in
          subst (λ k. IsReport g first.device taken.device first.offset chunks (slice_index first.chunks.items k) first.role (get_or rest i x)) next
          (subst (λ rs. IsReport g first.device taken.device first.offset chunks (slice_index first.chunks.items (taken.done + suc i)) first.role (get_or rs (suc i) x)) e (read.each (suc i) x (omega (arith, n, below))))

module _ {D L M : Type 0} {g : Ghosts D} {th : Bool} where
  -- of the report that waits first
  pub first_waits : {now : Books} {first queue : Queue D L M} (r : ReportView) (rest : List ReportView) → IsUnderWay g th now first queue → queue.reports.waiting ≡ r ∷ rest
      → (queue.done < length first.chunks.items) × IsReport g first.device queue.device first.offset now.collector.chunks (slice_index first.chunks.items queue.done) first.role r
  first_waits {now = now} {first = first} {queue = queue} r rest way e =
      let n : length queue.reports.waiting ≡ suc (length rest) = ap length e in
      let within = way.read.within in
      let at : get_or queue.reports.waiting 0 r ≡ r = ap (λ rs. get_or rs 0 r) e in
      let is = way.read.each 0 r (omega (arith, n)) in (
        omega (arith, within, n),
        subst (λ x. IsReport g first.device queue.device first.offset now.collector.chunks (slice_index first.chunks.items queue.done) first.role x) at
            (subst (λ i. IsReport g first.device queue.device first.offset now.collector.chunks (slice_index first.chunks.items i) first.role (get_or queue.reports.waiting 0 r)) (let z : queue.done + 0 ≡ queue.done = omega arith in z) is),
      )

  pub planned_by : {start now : Books} {first queue : Queue D L M} (r : ReportView) (rest : List ReportView) → IsAtStart g start first → IsUnderWay g th now first queue → queue.reports.waiting ≡ r ∷ rest → is_planned start.collector.slots r.chunk r.source ≡ true
  planned_by {queue = queue} r rest begins way e = let (some, is) = first_waits r rest way e in rw (is.chunk_is, is.role_is) (begins.planned queue.done some)

  -- its chunk was not copied before the pass, nor in it
  pub first_uncopied : {start now : Books} {first queue : Queue D L M} (r : ReportView) (rest : List ReportView) → IsAtStart g start first → IsUnderWay g th now first queue → queue.reports.waiting ≡ r ∷ rest → is_set start.copied.bytes r.chunk ≡ false
  first_uncopied {queue = queue} r rest begins way e = let (some, is) = first_waits r rest way e in rw is.chunk_is (begins.uncopied queue.done some)

  pub now_uncopied : {start now : Books} {first queue : Queue D L M} (r : ReportView) (rest : List ReportView) → IsAtStart g start first → HasBooks start now → IsUnderWay g th now first queue → queue.reports.waiting ≡ r ∷ rest → is_set now.copied.bytes r.chunk ≡ false
  now_uncopied {start = start} {now = now} {first = first} {queue = queue} r rest begins has way e =
      elim (set_or_not (is_set now.copied.bytes r.chunk)) [
        | inl set ↦
            let (some, is) = first_waits r rest way e in
            let none : is_set now.collector.reported.bytes r.chunk ≡ false = rw is.chunk_is (way.waiting queue.done (omega arith) some) in
            absurd (both_ways (is_set now.collector.reported.bytes r.chunk) (has.marks r.chunk set (first_uncopied r rest begins way e)) none)
        | inr unset ↦ unset
      ]

  pub allowed : {start now : Books} {first queue : Queue D L M} → IsAtStart g start first → HasBooks start now → ((c : ℕ) → IsChunk start.collector.chunks c → c < start.copied.chunks)
      → IsUnderWay g th now first queue → IsAllowed now.collector now.copied queue.reports.waiting
  allowed {start = start} {now = now} {first = first} {queue = queue} begins has covers way =
      let slots : now.collector.slots ≡ start.collector.slots = ap (λ (c : Copying). c.slots) has.same_copy in
      record {
        counts = λ r rest e.
            let (some, is) = first_waits r rest way e in
            let new : is_set now.collector.reported.bytes r.chunk ≡ false = rw is.chunk_is (way.waiting queue.done (omega arith) some) in
            let whole : (bytes : List ℕ) → r.bytes ≡ Some bytes → length bytes ≡ bytes_of_chunk now.collector.chunks r.chunk = λ bytes b. is.whole bytes b ∙ ap (bytes_of_chunk now.collector.chunks) (sym is.chunk_is) in
            rw (has.whole, slots, planned_by r rest begins way e, new, whole_length now.collector.chunks r whole) refl;
        planned = λ r rest e. rw slots (planned_has start.collector.slots r.chunk r.source (planned_by r rest begins way e));
        within = λ r rest e. let (some, is) = first_waits r rest way e in let chunks : now.collector.chunks ≡ start.collector.chunks = ap (λ (c : Copying). c.chunks) has.same_copy in rw (is.chunk_is, chunks) (begins.chunk queue.done some);
        chunk = λ r rest e. let (some, is) = first_waits r rest way e in rw (has.count, is.chunk_is) (covers (slice_index first.chunks.items queue.done) (begins.chunk queue.done some));
      }

  module _ {old new : Books} {r : ReportView} where
    -- what landed stays
    landed_stays : IsReportTaken th old new r → Changes old new r.chunk → (first : Queue D L M) (c : ℕ) → c ≢ r.chunk → HasLanded g th old first c → HasLanded g th new first c
    landed_stays is out first c other has =
        record {
          reported = has_old (is_set new.collector.reported.bytes) (is_set old.collector.reported.bytes) r.chunk is.counted.reported c has.reported;
          holds = λ mark h ht. rw (same_chunks is, same_offset is) (chunk_beside old.collector.chunks old.collector.offset r.chunk c old.target new.target out other ∙ has.holds (sym (other_mark is c other) ∙ mark) h ht);
        }

    -- another queue goes on as before
    pub other_stays : (first queue : Queue D L M) → IsReportTaken th old new r → Changes old new r.chunk
        → ((j : ℕ) → j < length first.chunks.items → slice_index first.chunks.items j ≢ r.chunk)
        → IsUnderWay g th old first queue → IsUnderWay g th new first queue
    other_stays first queue is out apart way =
        let left : count_left new.copied first.chunks.items queue.done ≡ count_left old.copied first.chunks.items queue.done = same_left first.chunks.items queue.done is (λ j below within. apart j within) in
        record {
          read = rw (same_chunks is, left) way.read;
          landed = λ j below. landed_stays is out first _ (apart j (let w = way.read.within in omega (arith, w))) (way.landed j below);
          failed = λ j below unset. rw (same_chunks is) (way.failed j below (sym (other_mark is _ (apart j (let w = way.read.within in omega (arith, w)))) ∙ unset));
          only = fails_weaker (g.faults first.device) (g.faults queue.device) (λ f. IsOfTaken old first queue f ⊎ IsOfWaiting old.collector.chunks queue f) (λ f. IsOfTaken new first queue f ⊎ IsOfWaiting new.collector.chunks queue f)
              (λ f h. elim h [
                | inl t ↦ inl (record { slot = t.slot; taken = t.taken; uncopied = other_mark is _ (apart t.slot (let w = way.read.within in let b = t.taken in omega (arith, w, b))) ∙ t.uncopied; there = rw (same_chunks is) t.there })
                | inr w ↦ inr (rw (same_chunks is) w)
              ]) way.only;
          waiting = λ j from below. has_neither (is_set new.collector.reported.bytes) (is_set old.collector.reported.bytes) r.chunk is.counted.reported _ (apart j below) (way.waiting j from below);
        }

    more_landed : {device : D} → IsReportTaken th old new r → is_set old.copied.bytes r.chunk ≡ false → (first : Queue D L M) (c : ℕ) → IsReport g first.device device first.offset old.collector.chunks c first.role r → HasRoom old.target old.collector.offset old.collector.chunks → IsChunk old.collector.chunks c
        → HasLanded g th new first c
    more_landed is none first c a room chunk =
        record {
          reported = subst (λ x. is_set new.collector.reported.bytes x ≡ true) a.chunk_is (has_new (is_set new.collector.reported.bytes) (is_set old.collector.reported.bytes) r.chunk is.counted.reported);
          holds = λ mark h ht. by r.bytes refl mark h ht;
        }
      where
        by : (o : Option (List ℕ)) → r.bytes ≡ o → is_set new.copied.bytes c ≡ true → g.honest first.device ≡ true → th ≡ true
            → chunk_on new.target new.collector.offset new.collector.chunks c ≡ chunk_on (g.content first.device) first.offset new.collector.chunks c
        by None e mark h ht =
            let unmarked : is_set new.copied.bytes c ≡ false = ap (is_set new.copied.bytes) (sym a.chunk_is) ∙ own_mark is none ∙ ap (λ o. not (is_none o)) e in
            absurd (both_ways (is_set new.copied.bytes c) mark unmarked)
        by (Some bytes) e mark h ht = rw (same_chunks is, same_offset is, is.holds bytes e ht, a.chunk_is)
            (chunk_written old.collector.chunks old.collector.offset c old.target bytes (a.whole bytes e) (chunk_fits old.collector.chunks old.collector.offset c old.target room chunk) ∙ a.delivered bytes e h)

  module _ {old new : Books} {taken taken' : Queue D L M} {r : ReportView} {rest : List ReportView} where
    -- of the report that was taken, and of the others
    waits_on : {lost : ℕ} (first : Queue D L M) → IsReportTaken th old new r → Advances taken taken' rest → is_set old.copied.bytes r.chunk ≡ false → taken.reports.waiting ≡ r ∷ rest → HasRead g old.collector.chunks lost (since first taken) taken
        → IsReport g first.device taken.device first.offset old.collector.chunks (slice_index first.chunks.items taken.done) first.role r → taken'.done ≡ taken.done + 1
        → (f : Fault) (w : IsOfWaiting old.collector.chunks taken f) (p : ℕ) → w.place ≡ p → IsOfTaken new first taken' f ⊎ IsOfWaiting new.collector.chunks taken' f
    waits_on first is goes none e read a done f w zero at =
        let failed : is_failed r ≡ true = ap (λ rs. is_failed (get_or rs 0 r)) (sym e) ∙ ap (λ n. is_failed (get_or taken.reports.waiting n r)) (sym at) ∙ w.failed r in
        let here : taken.done + w.place ≡ taken.done = omega (arith, at) in
        inl (record {
          slot = taken.done;
          taken = omega (arith, done);
          uncopied = ap (is_set new.copied.bytes) (sym a.chunk_is) ∙ own_mark is none ∙ ap not failed;
          there = rw (same_chunks is, ← offset_kept read, ← chunks_kept read) (subst (λ n. IsReadOfChunk taken.offset old.collector.chunks (slice_index taken.chunks.items n) f) here w.there);
        })
    waits_on first is goes none e read a done f w (suc i) at =
        let reports : taken'.reports.waiting ≡ rest = ap (λ (l : Queue D L M). l.reports.waiting) goes in
        let offset : taken'.offset ≡ taken.offset = ap (λ (l : Queue D L M). l.offset) goes in
        let chunks : taken'.chunks ≡ taken.chunks = ap (λ (l : Queue D L M). l.chunks) goes in
        let n : length taken.reports.waiting ≡ suc (length rest) = ap length e in
        let long : length taken'.reports.waiting ≡ length rest = ap length reports in
        let here : taken.done + w.place ≡ taken.done + 1 + i = omega (arith, at) in
        inr (record {
          place = i;
          waits = (let b = w.waits in omega (arith, b, n, long, at));
          failed = λ x. ap (λ rs. is_failed (get_or rs i x)) reports ∙ ap (λ rs. is_failed (get_or rs (suc i) x)) (sym e) ∙ ap (λ m. is_failed (get_or taken.reports.waiting m x)) (sym at) ∙ w.failed x;
          there = rw (same_chunks is, offset, chunks, done) (subst (λ m. IsReadOfChunk taken.offset old.collector.chunks (slice_index taken.chunks.items m) f) here w.there);
        })

    -- and so does the queue itself
    pub same_stays : (first : Queue D L M) → IsReportTaken th old new r → Advances taken taken' rest → Changes old new r.chunk → is_set old.copied.bytes r.chunk ≡ false
        → ((i j : ℕ) → i < length first.chunks.items → j < length first.chunks.items → slice_index first.chunks.items i ≡ slice_index first.chunks.items j → i ≡ j)
        → HasRoom old.target old.collector.offset old.collector.chunks → IsChunk old.collector.chunks r.chunk
        → taken.reports.waiting ≡ r ∷ rest
        → IsUnderWay g th old first taken → IsUnderWay g th new first taken'
    same_stays first is goes out none apart room chunk e way =
        let (some, a) = first_waits r rest way e in
        let done : taken'.done ≡ taken.done + 1 = ap (λ (l : Queue D L M). l.done) goes in
        let same_device : taken'.device ≡ taken.device = ap (λ (l : Queue D L M). l.device) goes in
        let other : (j : ℕ) → j < length first.chunks.items → j ≢ taken.done → slice_index first.chunks.items j ≢ r.chunk = λ j within other e. other (apart j taken.done within some (e ∙ a.chunk_is)) in
        let own : is_left new.copied (slice_index first.chunks.items taken.done) ≡ is_failed r = ap (is_left new.copied) (sym a.chunk_is) ∙ ap not (own_mark is none) ∙ twice (is_failed r) in
        let before : count_left new.copied first.chunks.items taken.done ≡ count_left old.copied first.chunks.items taken.done = same_left first.chunks.items taken.done is (λ j below within. other j within (λ same. absurd (omega (arith, below, same)))) in
        let more : count_left new.copied first.chunks.items taken'.done ≡ count_left old.copied first.chunks.items taken.done + cond (is_failed r) 1 0
        = ap (count_left new.copied first.chunks.items) done ∙ count_more new.copied first.chunks.items taken.done some ∙ (let one : ◌≡◌ {A = ℕ} (cond (is_left new.copied (slice_index first.chunks.items taken.done)) 1 0) (cond (is_failed r) 1 0) = ap (λ (b : Bool). cond b 1 0) own in omega (arith, before, one)) in
        record {
          read = rw (same_chunks is) (remembered (since first taken) taken' (still_read (since first taken) goes e _ _ more way.read));
          landed = λ j below.
              elim (cases_lt j taken.done) [
                | inl before ↦ landed_stays is out first _ (other j (omega (arith, before, some)) (λ e. absurd (omega arith))) (way.landed j before)
                | inr from ↦
                    let last : taken.done ≡ j = omega (arith, done) in
                    subst (λ c. HasLanded g th new first c) (ap (slice_index first.chunks.items) last) (more_landed is none first (slice_index first.chunks.items taken.done) a room (subst (IsChunk old.collector.chunks) a.chunk_is chunk))
              ];
          failed = λ j below unset.
              elim (cases_lt j taken.done) [
                | inl before ↦ rw (same_chunks is, same_device) (way.failed j before (sym (other_mark is _ (other j (omega (arith, before, some)) (λ e. absurd (omega arith)))) ∙ unset))
                | inr from ↦
                    let last : taken.done ≡ j = omega (arith, done) in
                    rw (same_chunks is, same_device) (subst (λ i. FailsInChunk g first.device taken.device first.offset old.collector.chunks (slice_index first.chunks.items i)) last
                    (a.failed_there (none_given r (failed_then (is_failed r) (sym (own_mark is none) ∙ ap (is_set new.copied.bytes) a.chunk_is ∙ ap (λ i. is_set new.copied.bytes (slice_index first.chunks.items i)) last ∙ unset)))))
              ];
          only = subst (λ x. EachNewFault (g.faults first.device) (g.faults x) (λ f. IsOfTaken new first taken' f ⊎ IsOfWaiting new.collector.chunks taken' f)) (sym same_device)
              (fails_weaker (g.faults first.device) (g.faults taken.device) (λ f. IsOfTaken old first taken f ⊎ IsOfWaiting old.collector.chunks taken f) (λ f. IsOfTaken new first taken' f ⊎ IsOfWaiting new.collector.chunks taken' f)
              (λ f h. elim h [
                | inl t ↦ inl (record { slot = t.slot; taken = (let b = t.taken in omega (arith, b, done)); uncopied = other_mark is _ (other t.slot (let w = way.read.within in let b = t.taken in omega (arith, w, b)) (let b = t.taken in λ e. absurd (omega (arith, b, e)))) ∙ t.uncopied; there = rw (same_chunks is) t.there })
                | inr w ↦ waits_on first is goes none e way.read a done f w w.place refl
              ]) way.only);
          waiting = λ j from below. has_neither (is_set new.collector.reported.bytes) (is_set old.collector.reported.bytes) r.chunk is.counted.reported _ (other j below (λ e. absurd (omega (arith, done)))) (way.waiting j (omega (arith, done)) below);
        }
      where
        twice : (b : Bool) → not (not b) ≡ b
        twice true = refl
        twice false = refl

        failed_then : (b : Bool) → not b ≡ false → b ≡ true
        failed_then true e = refl
        failed_then false e = sym e
