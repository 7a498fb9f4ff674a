-- The collector takes the reports of all queues.
use Rattle.std.specs.Prelude.{IsErr, OnErr, OnOk}
use Rattle.std.proofs.Common.{Err, Ok, Result, ◌≡◌, ◌≢◌, ℕ, suc, ◌+◌, ◌-◌, ◌<◌, ◌≤◌, ◌∷◌, [], Bool, false, ◌⊎◌, inl, inr, List, length, set, slice_index, get_or, refl, ap, sym, ◌∙◌, arith, subst, length-set}
use Rattle.std.proofs.lemmas.List.{get_or_default, get_or-set_same, get_or-set_other}
use Rattle.std.proofs.lemmas.Bool.{cases_lt}
use Rattle.md_device.specs.declared.device.Device.{Ghosts}
use Rattle.md_bitmap.specs.Marks.{is_set}
use Rattle.md_collect.specs.Places.{IsChunk, HasRoom}
use Rattle.md_collect.specs.Reports.{ReportView, Copying}
use Rattle.md_collect.specs.declared.workers.queue.Queue.{Queue}
use Rattle.md_collect.specs.Workers.Waiting.{WaitingView}
use Rattle.md_pass.specs.TakingReports.{Books, IsAllowed, IsReportTaken, AreReportsTaken}
use Rattle.md_pass.specs.Handing.{AreHanded, all_with_reports, with_reports}
use Rattle.md_pass.specs.Passes.{IsUnderWay, IsPassing}
use Rattle.md_pass.proofs.Besides.{planned_has}
use Rattle.md_pass.proofs.Handings.{get_with, length_with, set_same, set_with, some_queue}
use Rattle.md_pass.proofs.ReportsTaken.{Advances, Changes, allowed, books_more, first_uncopied, first_waits, now_uncopied, other_stays, planned_by, same_stays}

pub same_or_other : (j k : ℕ) → (j ≡ k) ⊎ (j ≢ k)
same_or_other j k =
    elim (cases_lt j k) [
      | inl below ↦ inr (λ e. absurd (omega arith))
      | inr up ↦ elim (cases_lt k j) [ inl above ↦ inr (λ e. absurd (omega arith)) | inr under ↦ inl (omega arith) ]
    ]

-- a list with an element replaced, by what holds of the new one and of the others
pub each_set : {X Y : Type 0} (P : Y → X → Type 0) (ys : List Y) (xs : List X) (k : ℕ) (x : X) → k < length xs → length xs ≡ length ys
    → ((d : Y) → P (get_or ys k d) x) → ((j : ℕ) (d : Y) (e : X) → j < length ys → j ≢ k → P (get_or ys j d) (get_or xs j e))
    → (j : ℕ) (d : Y) (e : X) → j < length ys → P (get_or ys j d) (get_or (set xs k x) j e)
each_set P ys xs k x within same here others j d e below =
    elim (same_or_other j k) [
      | inl is ↦ rw (is, get_or-set_same xs k x e within) (here d)
      | inr other ↦ rw (get_or-set_other xs k j x e other) (others j d e below other)
    ]

module _ {D L M : Type 0} {g : Ghosts D} {th : Bool} {firsts queues : List (Queue D L M)} {start old : Books} where
  pub room_now : IsPassing g th firsts queues start old → HasRoom old.target old.collector.offset old.collector.chunks
  room_now p =
      let chunks : old.collector.chunks ≡ start.collector.chunks = ap (λ (c : Copying). c.chunks) p.books.same_copy in
      let offset : old.collector.offset ≡ start.collector.offset = ap (λ (c : Copying). c.offset) p.books.same_copy in
      let room = p.room in
      rw (chunks, offset, p.books.size) room

  way_of : IsPassing g th firsts queues start old → (k : ℕ) (d queue : Queue D L M) → k < length queues → queue ≡ get_or queues k queue → IsUnderWay g th old (get_or firsts k d) queue
  way_of p k d queue within is =
      let e : get_or queues k d ≡ queue = get_or_default queues k d queue within ∙ sym is in
      subst (λ l. IsUnderWay g th old (get_or firsts k d) l) e (p.each k d (omega (arith, p.as_many, within)))

  pub allowed_of : IsPassing g th firsts queues start old → (k : ℕ) (queue : Queue D L M) → k < length queues → queue ≡ get_or queues k queue → IsAllowed old.collector old.copied queue.reports.waiting
  allowed_of p k queue within is = allowed (p.begins k queue (omega (arith, p.as_many, within))) p.books p.covers (way_of p k queue queue within is)

  uncopied_of : IsPassing g th firsts queues start old → (k : ℕ) (queue : Queue D L M) → k < length queues → queue ≡ get_or queues k queue → (r : ReportView) (rest : List ReportView) → queue.reports.waiting ≡ r ∷ rest
      → (is_set start.copied.bytes r.chunk ≡ false) × (is_set old.copied.bytes r.chunk ≡ false)
  uncopied_of p k queue within is r rest e =
      let begins = p.begins k queue (omega (arith, p.as_many, within)) in
      let way = way_of p k queue queue within is in
      (first_uncopied r rest begins way e, now_uncopied r rest begins p.books way e)

  -- a report was taken, of queue k
  taken_one : {new : Books} (k : ℕ) (queue queue' : Queue D L M) (r : ReportView) (rest : List ReportView) → IsPassing g th firsts queues start old → k < length queues → queue ≡ get_or queues k queue
      → queue.reports.waiting ≡ r ∷ rest → IsReportTaken th old new r → Advances queue queue' rest → Changes old new r.chunk
      → IsPassing g th firsts (set queues k queue') start new
  taken_one {new = new} k queue queue' r rest p within is e taken goes out =
      let here : k < length firsts = omega (arith, p.as_many, within) in
      let first = get_or firsts k queue in
      let way = way_of p k queue queue within is in
      let begins = p.begins k queue here in
      let (some, a) = first_waits r rest way e in
      let chunks : old.collector.chunks ≡ start.collector.chunks = ap (λ (c : Copying). c.chunks) p.books.same_copy in
      let chunk : IsChunk old.collector.chunks r.chunk = rw (a.chunk_is, chunks) (begins.chunk queue.done some) in
      record {
        begins = p.begins;
        apart = p.apart;
        room = p.room;
        covers = p.covers;
        as_many = length-set queues k queue' ∙ p.as_many;
        each = λ j d below. each_set (λ f l. IsUnderWay g th new f l) firsts queues k queue' within p.as_many
            (λ d'. let same : get_or firsts k d' ≡ first = get_or_default firsts k d' queue here in
            rw same (same_stays first taken goes out (now_uncopied r rest begins p.books way e) (λ i m wi wm eq. (p.apart k k i m queue here here wi wm eq).1) (room_now p) chunk e way))
            (λ j' d' e' below' other. other_stays (get_or firsts j' d') (get_or queues j' e') taken out
            (λ i wi eq.
            let same : get_or firsts k d' ≡ first = get_or_default firsts k d' queue here in
            other (p.apart j' k i queue.done d' below' here wi (rw same some) (eq ∙ a.chunk_is ∙ ap (λ (f : Queue D L M). slice_index f.chunks.items queue.done) (sym same))).0)
            (subst (λ l. IsUnderWay g th old (get_or firsts j' d') l) (get_or_default queues j' d' e' (omega (arith, p.as_many, below'))) (p.each j' d' below')))
            j d d below;
        books = books_more taken out p.books (planned_has start.collector.slots r.chunk r.source (planned_by r rest begins way e)) (first_uncopied r rest begins way e) (now_uncopied r rest begins p.books way e);
      }

module _ {D L M : Type 0} {queues : List (Queue D L M)} {waits : List WaitingView} where
  -- queue k, as if the collector did not have its reports
  stands : (k : ℕ) (q : Queue D L M) (reports : WaitingView) → AreHanded queues waits → k < length waits → reports ≡ get_or waits k reports
      → with_reports (get_or queues k q) reports ≡ get_or (all_with_reports queues waits) k (with_reports (get_or queues k q) reports)
  stands k q reports has within is =
      let many = has.as_many in
      ap (λ w. with_reports (get_or queues k q) w) is ∙ sym (get_with queues waits k q (with_reports (get_or queues k q) reports) reports many (omega (arith, many, within)))

module _ {D L M : Type 0} {g : Ghosts D} {th : Bool} {firsts queues : List (Queue D L M)} {waits : List WaitingView} {start old : Books} where
  pub allowed_at : IsPassing g th firsts (all_with_reports queues waits) start old → AreHanded queues waits → (k : ℕ) (reports : WaitingView) → k < length waits → reports ≡ get_or waits k reports
      → IsAllowed old.collector old.copied reports.waiting
  allowed_at p has k reports within is =
      let many = has.as_many in
      let q = some_queue queues k (omega (arith, many, within)) in
      allowed_of p k (with_reports (get_or queues k q) reports) (let n = length_with queues waits many in omega (arith, many, n, within)) (stands k q reports has within is)

  -- the chunk that is reported next was copied neither before the pass nor in it
  pub uncopied_at : IsPassing g th firsts (all_with_reports queues waits) start old → AreHanded queues waits → (k : ℕ) (reports : WaitingView) → k < length waits → reports ≡ get_or waits k reports
      → (r : ReportView) (rest : List ReportView) → reports.waiting ≡ r ∷ rest → (is_set start.copied.bytes r.chunk ≡ false) × (is_set old.copied.bytes r.chunk ≡ false)
  uncopied_at p has k reports within is =
      let many = has.as_many in
      let q = some_queue queues k (omega (arith, many, within)) in
      uncopied_of p k (with_reports (get_or queues k q) reports) (let n = length_with queues waits many in omega (arith, many, n, within)) (stands k q reports has within is)

  pub one_taken : {new : Books} (k : ℕ) (reports reports' : WaitingView) → IsPassing g th firsts (all_with_reports queues waits) start old → AreHanded queues waits → k < length waits → reports ≡ get_or waits k reports
      → AreReportsTaken th old new reports reports' reports.waiting
      → IsPassing g th firsts (all_with_reports queues (set waits k reports')) start new
  one_taken {new = new} k reports reports' p has within is reports_taken = by reports.waiting refl reports_taken
    where
      by : (o : List ReportView) → reports.waiting ≡ o → AreReportsTaken th old new reports reports' o → IsPassing g th firsts (all_with_reports queues (set waits k reports')) start new
      by [] e s =
          subst (λ ws. IsPassing g th firsts (all_with_reports queues ws) start new) (sym (ap (set waits k) s.1 ∙ set_same waits k reports is))
          (subst (λ b. IsPassing g th firsts (all_with_reports queues waits) start b) (sym s.0) p)
      by (r ∷ rest) e s =
          let many = has.as_many in
          let below : k < length queues = omega (arith, many, within) in
          let q = some_queue queues k below in
          let queue = get_or queues k q in
          let next : reports'.waiting ≡ rest = ap (λ (w : WaitingView). w.waiting) s.1 in
          let goes : Advances (with_reports queue reports) (with_reports queue reports') rest
          = ap (λ ws. record queue { done = queue.done - length ws; reports = record queue.reports { waiting = ws } }) next
          ∙ ap (λ n. record queue { done = n; reports = record queue.reports { waiting = rest } })
          (let n : length reports.waiting ≡ suc (length rest) = ap length e in
          let due : length reports.waiting ≤ queue.done = subst (λ (w : WaitingView). length w.waiting ≤ queue.done) (sym is) (has.within k q reports below) in
          let z : queue.done - length rest ≡ queue.done - length reports.waiting + 1 = omega (arith, n, due) in z) in
          subst (λ qs. IsPassing g th firsts qs start new) (sym (set_with queues waits k q reports' many below))
          (taken_one k (with_reports queue reports) (with_reports queue reports') r rest p (let n = length_with queues waits many in omega (arith, many, n, within)) (stands k q reports has within is) e s.0 goes s.0.changes)

-- one report fewer waits, in the same memory
pub one_fewer : (th : Bool) (old new : Books) (reports reports' : WaitingView) → AreReportsTaken th old new reports reports' reports.waiting
    → (reports' ≡ record reports { waiting = reports'.waiting }) × (length reports'.waiting ≡ length reports.waiting - 1)
one_fewer th old new reports reports' is = by reports.waiting refl is
  where
    by : (o : List ReportView) → reports.waiting ≡ o → AreReportsTaken th old new reports reports' o → (reports' ≡ record reports { waiting = reports'.waiting }) × (length reports'.waiting ≡ length reports.waiting - 1)
    by [] e s = (
      s.1 ∙ ap (λ ws. record reports { waiting = ws }) (sym (ap (λ (w : WaitingView). w.waiting) s.1)),
      let n : length reports.waiting ≡ 0 = ap length e in ap (λ (w : WaitingView). length w.waiting) s.1 ∙ omega (arith, n),
    )
    by (r ∷ rest) e s = (
      s.1 ∙ ap (λ ws. record reports { waiting = ws }) (sym (ap (λ (w : WaitingView). w.waiting) s.1)),
      let n : length reports.waiting ≡ suc (length rest) = ap length e in ap (λ (w : WaitingView). length w.waiting) s.1 ∙ omega (arith, n),
    )

pub none_left : {X : Type 0} (xs : List X) → length xs ≡ 0 → xs ≡ []
none_left [] none = refl
none_left (x ∷ xs) none = absurd (omega (arith, none))

pub on_err : {A E P : Type 0} (r : Result A E) → IsErr r → P → OnErr r P
on_err (Ok x) is p = cc
on_err (Err e) is p = p

pub on_ok : {A E P : Type 0} (r : Result A E) → P → OnOk r P
on_ok (Ok x) p = p
on_ok (Err e) p = tt

-- what holds at an answer holds there for a reason
pub on_one : {A E P Q : Type 0} (r : Result A E) → OnOk r P → (P → Q) → OnOk r Q
on_one (Ok x) p f = f p
on_one (Err e) p f = tt

pub on_both : {A E P Q S : Type 0} (r : Result A E) → OnOk r P → OnOk r Q → (P → Q → S) → OnOk r S
on_both (Ok x) p q f = f p q
on_both (Err e) p q f = tt

pub on_fault : {A E P Q : Type 0} (r : Result A E) → OnErr r P → (P → Q) → OnErr r Q
on_fault (Ok x) p f = tt
on_fault (Err e) p f = f p
