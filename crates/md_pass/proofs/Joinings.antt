-- A pass that is under way while chunks wait to be written.
use Rattle.std.proofs.Common.{◌≡◌, ℕ, ◌+◌, ◌*◌, ◌<◌, ◌==◌, ◌⊎◌, ◌∷◌, [], Bool, true, false, not, List, length, set, get_or, inl, inr, refl, ap, sym, ◌∙◌, arith, subst}
use Rattle.std.proofs.lemmas.Bool.{cases_lt}
use Rattle.md_bitmap.specs.Marks.{Bitmap, is_set}
use Rattle.md_device.specs.Splice.{SameOutside, part}
use Rattle.md_device.specs.declared.device.Device.{Ghosts}
use Rattle.md_device.proofs.Failing.{fails_weaker}
use Rattle.md_device.proofs.Leaving.{leaves_less}
use Rattle.md_device.proofs.Splices.{part_after, part_before, spliced_outside}
use Rattle.md_collect.specs.Places.{HasRoom, bytes_of_chunk, start_of}
use Rattle.md_collect.specs.Targets.{KeepsCopy}
use Rattle.md_collect.specs.Reports.{Copying, ReportView}
use Rattle.md_collect.specs.Collecting.{CollectorView, copying}
use Rattle.md_collect.specs.declared.workers.queue.Queue.{Queue}
use Rattle.md_collect.specs.Workers.Queues.{IsOfWaiting}
use Rattle.md_collect.specs.Workers.Waiting.{WaitingView}
use Rattle.md_pass.specs.Beside.{LiesBesideChunk, SameBeside, WritesBeside, has_chunk}
use Rattle.md_pass.specs.Handing.{AreHanded, all_with_reports}
use Rattle.md_pass.specs.Joining.{AreOfCopied, FitsOn, GrowsByFirst, HaveJoinedReports, IsPassJoining, JoinedView, Stage, WritesWithin, as_if_written, books_of, none_joined, stage_of}
use Rattle.md_pass.specs.Passes.{IsOfTaken, IsPassing}
use Rattle.md_pass.specs.TakingReports.{AreReportsTaken, Books, books}
use Rattle.md_pass.proofs.Besides.{writes_one}
use Rattle.md_pass.proofs.Handings.{still_handed}
use Rattle.md_pass.proofs.Joins.{nothing_waits, outside_none, part_none, same_size}
use Rattle.md_pass.proofs.ReportsTaken.{own_mark, same_chunks, same_offset, still_set}
use Rattle.md_pass.proofs.Sweeps.{one_taken, room_now, uncopied_at}

-- what taking the report of a planned chunk leaves
pub one_written : {D : Type 0} {g : Ghosts D} (v w : CollectorView) (c : ℕ) (old new : D) → has_chunk v.slots c ≡ true → KeepsCopy v w → WritesWithin g (512 * (v.offset + start_of v.chunks c)) (bytes_of_chunk v.chunks c) old new
    → WritesBeside g v w old new
one_written v w c old new has kept within = writes_one v w c old new has kept within.outside within.honest_kept within.counted within.writes_alone within.crashes

module _ {D L M : Type 0} {g : Ghosts D} {th : Bool} {firsts queues : List (Queue D L M)} {start : Books} {now : Stage} where
  -- what changes where something waits changes chunks alone that were copied
  waits_copied : IsPassJoining g th firsts queues start now → (xs ys : List ℕ) → SameOutside (512 * now.joined.start) (length now.joined.run) xs ys
      → (at n : ℕ) → ((c : ℕ) → is_set now.copied.bytes c ≡ true → is_set start.copied.bytes c ≡ false → LiesBesideChunk now.collector.chunks now.collector.offset at n c)
      → part ys at n ≡ part xs at n
  waits_copied p xs ys same at n beside =
      elim (cases_lt 0 n) [
        | inl some ↦
            elim (cases_lt 0 (length now.joined.run)) [
              | inl waits ↦ elim (p.covered at n some beside waits) [ inl below ↦ part_before same at n below | inr above ↦ part_after same at n above ]
              | inr none ↦
                  let empty : length now.joined.run ≡ 0 = omega (arith, none) in
                  ap (λ zs. part zs at n) (outside_none (512 * now.joined.start) xs ys (subst (λ m. SameOutside (512 * now.joined.start) m xs ys) empty same))
            ]
        | inr none ↦ subst (λ m. part ys at m ≡ part xs at m) (let z : 0 ≡ n = omega (arith, none) in z) (part_none ys xs at)
      ]

  -- and they were planned
  waits_beside : IsPassJoining g th firsts queues start now → (xs ys : List ℕ) → SameOutside (512 * now.joined.start) (length now.joined.run) xs ys → SameBeside (copying now.collector) xs ys
  waits_beside p xs ys same =
      let has = p.passing.books in
      let slots : now.collector.slots ≡ start.collector.slots = ap (λ (c : Copying). c.slots) has.same_copy in
      record { size = same.size; beside = λ at n beside. waits_copied p xs ys same at n (λ c marked unmarked. beside c (rw slots (has.planned c (has.marks c marked unmarked)))) }

  pub room_there : IsPassJoining g th firsts queues start now → HasRoom now.target now.collector.offset now.collector.chunks
  room_there p =
      let room = room_now p.passing in
      let size = same_size now.target now.joined p.fits in
      omega (arith, room, size)

  -- it was written
  pub settled : (content : List ℕ) → IsPassJoining g th firsts queues start now → SameOutside (512 * now.joined.start) (length now.joined.run) now.target content → (th ≡ true → content ≡ as_if_written now.target now.joined)
      → IsPassing g th firsts queues start (books now.collector content now.copied)
  settled content p same is =
      let q = p.passing in
      let has = q.books in
      let chunks : now.collector.chunks ≡ start.collector.chunks = ap (λ (c : Copying). c.chunks) has.same_copy in
      let offset : now.collector.offset ≡ start.collector.offset = ap (λ (c : Copying). c.offset) has.same_copy in
      let size = same.size ∙ sym (same_size now.target now.joined p.fits) ∙ has.size in
      let placed = spliced_outside now.target (512 * now.joined.start) now.joined.run (length now.joined.run) refl p.fits in
      record {
        begins = q.begins;
        apart = q.apart;
        room = q.room;
        covers = q.covers;
        as_many = q.as_many;
        each = λ k d below.
            let first = get_or firsts k d in
            let queue = get_or queues k d in
            let way = q.each k d below in
            record {
              read = way.read;
              landed = λ j less. let one = way.landed j less in record { reported = one.reported; holds = λ mark h ht. rw (is ht) (one.holds mark h ht) };
              failed = way.failed;
              only = fails_weaker (g.faults first.device) (g.faults queue.device) (λ f. IsOfTaken (books_of now) first queue f ⊎ IsOfWaiting now.collector.chunks queue f)
                  (λ f. IsOfTaken (books now.collector content now.copied) first queue f ⊎ IsOfWaiting now.collector.chunks queue f)
                  (λ f h. elim h [ inl t ↦ inl (record { slot = t.slot; taken = t.taken; uncopied = t.uncopied; there = t.there }) | inr w ↦ inr w ]) way.only;
              waiting = way.waiting;
            };
        books = record {
          same_copy = has.same_copy;
          whole = has.whole;
          size = size;
          planned = has.planned;
          count = has.count;
          kept = has.kept;
          marks = has.marks;
          beside = record {
            size = size;
            beside = λ at n beside.
                let here : (c : ℕ) → is_set now.copied.bytes c ≡ true → is_set start.copied.bytes c ≡ false → LiesBesideChunk now.collector.chunks now.collector.offset at n c
                = λ c marked unmarked. rw (chunks, offset) (beside c marked unmarked) in
                waits_copied p now.target content same at n here ∙ sym (waits_copied p now.target (as_if_written now.target now.joined) placed at n here) ∙ has.beside.beside at n beside;
          };
        };
      }

module _ {D L M : Type 0} {g : Ghosts D} {th : Bool} {firsts queues : List (Queue D L M)} {start : Books} where
  -- nothing waits yet, or not any more
  pub none_waits_yet : (v : CollectorView) (content : List ℕ) (copied : Bitmap) (joined : JoinedView) → joined.run ≡ [] → FitsOn content joined → IsPassing g th firsts queues start (books v content copied)
      → IsPassJoining g th firsts queues start (stage_of v content joined copied)
  none_waits_yet v content copied joined none fits p = record {
    passing = subst (λ t. IsPassing g th firsts queues start (books v t copied)) (sym (nothing_waits content joined none)) p;
    covered = λ at m some beside waits. absurd (let empty = ap length none in omega (arith, empty, waits));
    fits = fits;
  }

  pub none_yet : (v : CollectorView) (content : List ℕ) (copied : Bitmap) → IsPassing g th firsts queues start (books v content copied) → IsPassJoining g th firsts queues start (stage_of v content none_joined copied)
  none_yet v content copied p = none_waits_yet v content copied none_joined refl (omega arith) p

  -- what a write of what waits leaves of the target
  pub writes_waiting : (v : CollectorView) (joined : JoinedView) (copied : Bitmap) (old new : D) → IsPassJoining g th firsts queues start (stage_of v (g.content old) joined copied)
      → WritesWithin g (512 * joined.start) (length joined.run) old new → WritesBeside g v v old new
  writes_waiting v joined copied old new p w = record {
    copy = refl;
    target = record {
      same = waits_beside p (g.content old) (g.content new) w.outside;
      honest_kept = w.honest_kept;
      counted = w.counted;
      writes_alone = w.writes_alone;
      crashes = λ h. leaves_less (g.crashes old) (g.crashes new) (SameOutside (512 * joined.start) (length joined.run) (g.content old)) (SameBeside (copying v) (g.content old))
          (λ left out. waits_beside p (g.content old) left out) (w.crashes h);
    };
  }

  -- where it was written, or goes on to wait
  pub still_joining : (v : CollectorView) (joined joined' : JoinedView) (copied : Bitmap) (old new : D) → IsPassJoining g th firsts queues start (stage_of v (g.content old) joined copied)
      → ((joined' ≡ joined) × (new ≡ old)) ⊎ (joined'.run ≡ []) → WritesWithin g (512 * joined.start) (length joined.run) old new
      → (th ≡ true → as_if_written (g.content new) joined' ≡ as_if_written (g.content old) joined) → FitsOn (g.content new) joined' → IsPassJoining g th firsts queues start (stage_of v (g.content new) joined' copied)
  still_joining v joined joined' copied old new p (inl same) w is fits = rw (same.0, same.1) p
  still_joining v joined joined' copied old new p (inr none) w is fits =
      none_waits_yet v (g.content new) copied joined' none fits (settled (g.content new) p w.outside (λ ht. sym (nothing_waits (g.content new) joined' none) ∙ is ht))

module _ {D L M : Type 0} {g : Ghosts D} {th : Bool} {firsts queues : List (Queue D L M)} {waits : List WaitingView} {start : Books} {old new : Stage} where
  -- a report was taken
  pub one_joined : (k : ℕ) (reports reports' : WaitingView) → IsPassJoining g th firsts (all_with_reports queues waits) start old → AreHanded queues waits → k < length waits → reports ≡ get_or waits k reports
      → AreReportsTaken th (books_of old) (books_of new) reports reports' reports.waiting → GrowsByFirst old.collector reports.waiting old.joined new.joined → FitsOn new.target new.joined
      → IsPassJoining g th firsts (all_with_reports queues (set waits k reports')) start new
  one_joined k reports reports' p has within is taken grows fits = record { passing = one_taken k reports reports' p.passing has within is taken; covered = by reports.waiting refl taken grows; fits = fits }
    where
      by : (o : List ReportView) → reports.waiting ≡ o → AreReportsTaken th (books_of old) (books_of new) reports reports' o → GrowsByFirst old.collector o old.joined new.joined
          → AreOfCopied new.collector.chunks new.collector.offset start.copied new.copied new.joined
      by [] e same grows' =
          let collector = ap (λ (b : Books). b.collector) same.0 in
          let copied = ap (λ (b : Books). b.copied) same.0 in
          rw (collector, copied, grows') p.covered
      by (r ∷ rest) e one grows' =
          let t = one.0 in
          let none = uncopied_at p.passing has k reports within is r rest e in
          λ at m some beside.
          grows' at m some
          (p.covered at m some (λ c marked unmarked. rw (← same_chunks t, ← same_offset t) (beside c (t.marked.bits c ∙ still_set _ (c == r.chunk) (is_set old.copied.bytes c) marked) unmarked)))
          (λ delivered. rw (← same_chunks t, ← same_offset t) (beside r.chunk (own_mark t none.1 ∙ delivered) none.0))

pub joined_then : {D L M : Type 0} {g : Ghosts D} (th : Bool) (a b c : Stage) (xs ys zs : List WaitingView) → HaveJoinedReports g L M th a b xs ys → HaveJoinedReports g L M th b c ys zs → HaveJoinedReports g L M th a c xs zs
joined_then th a b c xs ys zs first second = record {
  as_many = second.as_many ∙ first.as_many;
  kept = λ k d below. second.kept k d (between k below) ∙ ap (λ (w : WaitingView). record w { waiting = (get_or zs k d).waiting }) (first.kept k d below);
  fewer = λ k d below. let one = first.fewer k d below in let two = second.fewer k d (between k below) in omega (arith, one, two);
  joining = λ firsts queues start has p. second.joining firsts queues start (still_handed queues xs ys has first.as_many first.fewer) (first.joining firsts queues start has p);
}
  where
    between : (k : ℕ) → k < length xs → k < length ys
    between k below = let many = first.as_many in omega (arith, many, below)
