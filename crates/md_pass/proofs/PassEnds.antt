-- A pass ends: devices are back in their list.
use Rattle.std.proofs.Common.{◌≡◌, ℕ, suc, ◌+◌, ◌<◌, ◌≤◌, ◌⊎◌, Bool, true, false, inl, inr, [], ◌∷◌, List, length, map, count_by, sum_by, get_or, slice_index, Contains, refl, ap, sym, ◌∙◌, arith, subst}
use Rattle.std.specs.List.{All, Any}
use Rattle.std.proofs.lemmas.List.{get_or-map, length-map}
use Rattle.std.proofs.lemmas.List.Sums.{sum_by-cons}
use Rattle.std.proofs.lemmas.List.Elements.{All-filter, Contains-get_or}
use Rattle.std.proofs.lemmas.Bool.{cases_lt}
use Rattle.std.proofs.Math.Seq.{take-length}
use Rattle.md_cert.specs.declared.slots.Slot.{Slot}
use Rattle.md_device.specs.declared.device.Device.{Ghosts}
use Rattle.md_bitmap.specs.Marks.{Bitmap, is_set}
use Rattle.md_collect.specs.Places.{chunk_on}
use Rattle.md_collect.specs.Reading.{FailsInChunk}
use Rattle.md_collect.specs.Collecting.{CollectorView, copying}
use Rattle.md_collect.specs.Reports.{Copying, is_planned}
use Rattle.md_device.specs.Failing.{EachNewFault}
use Rattle.md_device.proofs.Failing.{fails_weaker}
use Rattle.md_collect.specs.declared.workers.queue.Queue.{Queue}
use Rattle.md_streams.specs.declared.gate.Gate.{Ghosts as GateGhosts}
use Rattle.md_collect.specs.Workers.Gates.{IsTold, IsToldOfReads}
use Rattle.md_collect.specs.Workers.Queues.{OnlyRead, AreOnlyRead, IsOfWaiting, is_failed}
use Rattle.md_collect.proofs.WorkerLemmas.OnlyReads.{not_read}
use Rattle.md_collect.proofs.WorkerLemmas.Workers.{chunks_kept}
use Rattle.md_pass.specs.declared.preparing.Preparation.{Preparation}
use Rattle.md_pass.specs.declared.source_reading.Reading.{Reading}
use Rattle.md_pass.specs.declared.source.Source.{Source}
use Rattle.md_pass.specs.Beside.{has_chunk}
use Rattle.md_pass.specs.Places.{AreInTurn, AreTaken}
use Rattle.md_pass.specs.Readings.{IsQueueOf, IsOrderOf, is_of, slot_count_of}
use Rattle.md_pass.specs.TakingReports.{Books, books}
use Rattle.md_pass.specs.Copied.{AreJoined, CountFailed, FailOnlyThere, FailThere, HasCopied, IsOfFailedSlot, PassState, failed_slots, is_failed_slot, pass_state}
use Rattle.md_pass.specs.Preparing.{CanCopy}
use Rattle.md_pass.specs.Sources.{MayRead}
use Rattle.md_pass.specs.Passes.{HasLanded, IsOfTaken, IsPassing, IsUnderWay, QueuesOnlyRead, count_left, is_left}
use Rattle.md_pass.proofs.Departures.{related}
use Rattle.md_pass.proofs.Orders.{order_covers}
use Rattle.md_pass.proofs.PassStarts.{all_fit, device_at, in_turn, reading_like, source_at}
use Rattle.md_pass.proofs.Lefts.{order_left}
use Rattle.md_pass.proofs.Totals.{all_counted, same_sums, same_totals, sum_none}

same_tests : (a b : Bool) → (a ≡ true → b ≡ true) → (b ≡ true → a ≡ true) → a ≡ b
same_tests true b f h = sym (f refl)
same_tests false true f h = h refl
same_tests false false f h = refl

both_ways : (b : Bool) → b ≡ true → b ≡ false → ⊥
both_ways b t f = cc

-- the devices of some sources have left for queues
pub record HaveLeft {D L M : Type 0} (g : Ghosts D) (start : Books) (devices rest : List D) (places : List ℕ) (rs : List Reading) (firsts : List (Queue D L M)) : Type 0 where
  pub may : MayRead g start.collector.chunks start.collector.slots (map (λ (r : Reading). r.source) rs) devices
  pub orders : All (λ (r : Reading). IsOrderOf start.collector.slots r.source.role r.chunks.items) rs
  pub turn : AreInTurn (map (λ (r : Reading). r.source.place) rs) places
  pub same : length firsts ≡ length rs
  pub taken : AreTaken devices places (map (λ (l : Queue D L M). l.device) firsts) rest
  pub are : (i : ℕ) (r : Reading) (d : Queue D L M) → i < length rs → IsQueueOf (get_or rs i r) (get_or firsts i d)

-- so of a pass that was prepared
pub have_left : {D L M : Type 0} {g : Ghosts D} (p : Preparation) (old : PassState D) (rest : List D) (places : List ℕ) (firsts : List (Queue D L M)) → CanCopy g p old → places ≡ p.places.items
    → length firsts ≡ length p.readings.items → AreTaken old.devices places (map (λ (l : Queue D L M). l.device) firsts) rest → ((i : ℕ) (r : Reading) (d : Queue D L M) → i < length p.readings.items → IsQueueOf (get_or p.readings.items i r) (get_or firsts i d))
    → HaveLeft g (books p.collector (g.content old.target) old.copied) old.devices rest places p.readings.items firsts
have_left p old rest places firsts can at same taken are = record { may = can.sources; orders = can.ordered.orders; turn = in_turn p places at can.ordered; same = same; taken = taken; are = are }

-- the slots of queues, by their shares
pub queues_parts : {D L M : Type 0} (rs : List Reading) (queues : List (Queue D L M)) → length queues ≡ length rs → ((i : ℕ) (r : Reading) (d : Queue D L M) → i < length rs → IsQueueOf (get_or rs i r) (get_or queues i d))
    → sum_by (λ (l : Queue D L M). l.share.parts) queues ≡ sum_by slot_count_of rs
queues_parts [] [] same are = refl
queues_parts [] (l ∷ ls) same are = absurd (omega (arith, same))
queues_parts (r ∷ rs) [] same are = absurd (omega (arith, same))
queues_parts (r ∷ rs) (l ∷ ls) same are =
    let rest = queues_parts rs ls (omega (arith, same)) (λ i r' d below. are (suc i) r' d (omega (arith, below))) in
    let first = (are 0 r l (omega arith)).parts in
    sum_by-cons (λ x. x.share.parts) l ls ∙ (let b = sum_by-cons slot_count_of r rs in omega (arith, rest, first, b))

module _ {D L M : Type 0} {g : Ghosts D} where
  -- the sources were only read
  pub devices_read : {chunks : _} {slots : _} (devices news rest : List D) (places : List ℕ) (rs : List Reading) (firsts queues : List (Queue D L M)) → MayRead g chunks slots (map (λ (r : Reading). r.source) rs) devices
      → AreInTurn (map (λ (r : Reading). r.source.place) rs) places → AreTaken devices places (map (λ (l : Queue D L M). l.device) firsts) rest → AreTaken news places (map (λ (l : Queue D L M). l.device) queues) rest → length news ≡ length devices
      → QueuesOnlyRead g firsts queues → AreOnlyRead g devices news
  devices_read devices news rest places rs firsts queues may turn taken taken' long read = record {
    as_many = long;
    each = related (OnlyRead g) not_read devices news places (map (λ (l : Queue D L M). l.device) firsts) (map (λ (l : Queue D L M). l.device) queues) rest (all_fit devices rs places may turn) long taken taken' (each firsts queues read);
  }
    where
      each : (fs ls : List (Queue D L M)) → QueuesOnlyRead g fs ls → (i : ℕ) (d : D) → i < length (map (λ (l : Queue D L M). l.device) fs) → OnlyRead g (get_or (map (λ (l : Queue D L M). l.device) fs) i d) (get_or (map (λ (l : Queue D L M). l.device) ls) i d)
      each [] ls read' i d below = absurd (omega (arith, below))
      each (f ∷ fs) ls read' i d below =
          let n = length-map (f ∷ fs) (λ (l : Queue D L M). l.device) in
          let wi : i < length (f ∷ fs) = omega (arith, below, n) in
          let many = read'.as_many in
          let a = get_or-map (λ (l : Queue D L M). l.device) (f ∷ fs) i f d wi in
          let b = get_or-map (λ (l : Queue D L M). l.device) ls i f d (omega (arith, wi, many)) in
          rw (a, b) (read'.each i f wi)

  -- the device of a queue, by its source
  first_device : {start : Books} {devices rest : List D} {places : List ℕ} {rs : List Reading} {firsts : List (Queue D L M)} → HaveLeft g start devices rest places rs firsts → (k : ℕ) (d : Queue D L M) (e : D) (s : Source) → k < length rs → (get_or firsts k d).device ≡ get_or devices (get_or (map (λ (r : Reading). r.source) rs) k s).place e
  first_device {devices = devices} {rest = rest} {places = places} {rs = rs} {firsts = firsts} t k d e s below =
      sym (get_or-map (λ (l : Queue D L M). l.device) firsts k d e (omega (arith, t.same, below))) ∙ device_at devices devices (map (λ (l : Queue D L M). l.device) firsts) rest rs places t.may t.turn refl t.taken k e e s below

  -- a slot of source k whose chunk was copied has landed
  slot_landed : {th : Bool} {start now : Books} {devices rest : List D} {places : List ℕ} {rs : List Reading} {firsts queues : List (Queue D L M)} → HaveLeft g start devices rest places rs firsts → IsPassing g th firsts queues start now
      → (slot : Slot) → Contains start.collector.slots slot → is_set now.copied.bytes slot.chunk ≡ true → (k : ℕ) (s : Source) (d : Queue D L M) → k < length rs → (get_or (map (λ (r : Reading). r.source) rs) k s).role ≡ slot.source → HasLanded g th now (get_or firsts k d) slot.chunk
  slot_landed {th = th} {start = start} {now = now} {rs = rs} {firsts = firsts} {queues = queues} t p slot there mark k s d below role =
      let r = get_or rs k (reading_like d) in
      let is : r.source.role ≡ slot.source = ap (λ (x : Source). x.role) (sym (source_at rs k (reading_like d) s below)) ∙ role in
      let (j, within, at) = order_covers (t.orders k (reading_like d) below) slot there (sym is) in
      let chunks : (get_or firsts k d).chunks ≡ r.chunks = (t.are k (reading_like d) d below).chunks in
      let here : k < length firsts = omega (arith, t.same, below) in
      let way = p.each k d here in
      let short : j < length (get_or firsts k d).chunks.items = rw chunks within in
      let place : slice_index (get_or firsts k d).chunks.items j ≡ slot.chunk = ap (λ (v : _). slice_index v.items j) chunks ∙ at in
      let unset : is_set start.copied.bytes slot.chunk ≡ false = subst (λ c. is_set start.copied.bytes c ≡ false) place ((p.begins k d here).uncopied j short) in
      elim (cases_lt j (get_or queues k d).done) [
        | inl less ↦ subst (λ c. HasLanded g th now (get_or firsts k d) c) place (way.landed j less)
        | inr from ↦ absurd (both_ways (is_set now.collector.reported.bytes slot.chunk) (p.books.marks slot.chunk mark unset) (subst (λ c. is_set now.collector.reported.bytes c ≡ false) place (way.waiting j from short)))
      ]

  -- planned chunks alone were marked
  all_joined : {th : Bool} {start now : Books} {firsts queues : List (Queue D L M)} → IsPassing g th firsts queues start now → AreJoined start.collector.slots start.copied now.copied
  all_joined {start = start} {now = now} p = record {
    chunks = p.books.count;
    kept = p.books.kept;
    planned = λ c none. same_tests (is_set now.copied.bytes c) (is_set start.copied.bytes c) (λ set. before c none set (is_set start.copied.bytes c) refl) (p.books.kept c);
  }
    where
      before : (c : ℕ) → has_chunk start.collector.slots c ≡ false → is_set now.copied.bytes c ≡ true → (b : Bool) → is_set start.copied.bytes c ≡ b → is_set start.copied.bytes c ≡ true
      before c none set true e = e
      before c none set false e = absurd (both_ways (has_chunk start.collector.slots c) (p.books.planned c (p.books.marks c set e)) none)

  -- what was copied is its source's
  all_copied : {th : Bool} {start now : Books} {devices rest : List D} {places : List ℕ} {rs : List Reading} {firsts queues : List (Queue D L M)} → HaveLeft g start devices rest places rs firsts → IsPassing g th firsts queues start now
      → (i : ℕ) (slot : Slot) → i < length start.collector.slots → (k : ℕ) (s : Source) → k < length (map (λ (r : Reading). r.source) rs) → (get_or (map (λ (r : Reading). r.source) rs) k s).role ≡ (get_or start.collector.slots i slot).source
      → is_set now.copied.bytes (get_or start.collector.slots i slot).chunk ≡ true
      → (e : D) → th ≡ true → g.honest (get_or devices (get_or (map (λ (r : Reading). r.source) rs) k s).place e) ≡ true
      → chunk_on now.target start.collector.offset start.collector.chunks (get_or start.collector.slots i slot).chunk
      ≡ chunk_on (g.content (get_or devices (get_or (map (λ (r : Reading). r.source) rs) k s).place e)) (get_or (map (λ (r : Reading). r.source) rs) k s).offset start.collector.chunks (get_or start.collector.slots i slot).chunk
  all_copied {th = th} {start = start} {now = now} {devices = devices} {rest = rest} {places = places} {rs = rs} {firsts = firsts} {queues = queues} t p i slot wi k s wk role mark e ht h = by firsts refl
    where
      by : (ls : List (Queue D L M)) → firsts ≡ ls
          → chunk_on now.target start.collector.offset start.collector.chunks (get_or start.collector.slots i slot).chunk
          ≡ chunk_on (g.content (get_or devices (get_or (map (λ (r : Reading). r.source) rs) k s).place e)) (get_or (map (λ (r : Reading). r.source) rs) k s).offset start.collector.chunks (get_or start.collector.slots i slot).chunk
      by [] none = absurd (let n = length-map rs (λ (r : Reading). r.source) in let z = ap length none in omega (arith, wk, n, t.same, z))
      by (f ∷ fs) some =
          let n = length-map rs (λ (r : Reading). r.source) in
          let below : k < length rs = omega (arith, wk, n) in
          let has = slot_landed t p (get_or start.collector.slots i slot) (Contains-get_or start.collector.slots i slot wi) mark k s f below role in
          let device = first_device t k f e s below in
          let offset : (get_or firsts k f).offset ≡ (get_or (map (λ (r : Reading). r.source) rs) k s).offset = (t.are k (reading_like f) f below).offset ∙ ap (λ (x : Source). x.offset) (sym (source_at rs k (reading_like f) s below)) in
          let chunks : now.collector.chunks ≡ start.collector.chunks = ap (λ (c : Copying). c.chunks) p.books.same_copy in
          let start_at : now.collector.offset ≡ start.collector.offset = ap (λ (c : Copying). c.offset) p.books.same_copy in
          rw (← chunks, ← start_at, ← device, ← offset) (has.holds mark (ap g.honest device ∙ h) ht)

  -- what was copied by now, whether the pass is done or not
  pub has_copied : (old new : D) (collector collector' : CollectorView) (copied copied' : Bitmap) {devices news rest : List D} {places : List ℕ} {rs : List Reading} {firsts queues : List (Queue D L M)}
      → HaveLeft g (books collector (g.content old) copied) devices rest places rs firsts
      → IsPassing g (g.honest old) firsts queues (books collector (g.content old) copied) (books collector' (g.content new) copied')
      → HasCopied g (copying collector) (map (λ (r : Reading). r.source) rs) (pass_state devices old copied) (pass_state news new copied')
  has_copied old new collector collector' copied copied' t p = record {
    joined = all_joined p;
    holds = λ i slot wi mark k s wk role e ht h. all_copied t p i slot wi k s wk role mark e ht h;
    beside = p.books.beside;
  }

  -- the slots of source k that failed, by the share of its queue
  queue_failed : {th : Bool} {start now : Books} {devices rest : List D} {places : List ℕ} {rs : List Reading} {firsts queues : List (Queue D L M)} → HaveLeft g start devices rest places rs firsts → IsPassing g th firsts queues start now → All (λ queue. (queue.done ≡ length queue.chunks.items) × (queue.reports.waiting ≡ [])) queues
      → (k : ℕ) (d : Queue D L M) (s : Source) → k < length rs → (get_or queues k d).share.failed ≡ count_by (is_of (get_or (map (λ (r : Reading). r.source) rs) k s).role) (failed_slots start.collector.slots now.copied)
  queue_failed {start = start} {now = now} {rs = rs} {firsts = firsts} {queues = queues} t p done k d s below =
      let here : k < length firsts = omega (arith, t.same, below) in
      let way = p.each k d here in
      let is = t.are k (reading_like d) d below in
      let queue = get_or queues k d in
      let first = get_or firsts k d in
      let there = done k d (omega (arith, p.as_many, here)) in
      let none : count_by is_failed queue.reports.waiting ≡ 0 = ap (count_by is_failed) there.1 in
      let zero : first.share.failed ≡ 0 = is.none_failed in
      let whole : queue.done ≡ length first.chunks.items = there.0 ∙ ap (λ (v : _). length v.items) (chunks_kept way.read) in
      let all : count_left now.copied first.chunks.items queue.done ≡ count_by (is_left now.copied) first.chunks.items
      = ap (count_left now.copied first.chunks.items) whole ∙ ap (count_by (is_left now.copied)) (take-length first.chunks.items) in
      let own : count_by (is_left now.copied) first.chunks.items ≡ count_by (is_of (get_or rs k (reading_like d)).source.role) (failed_slots start.collector.slots now.copied)
      = ap (λ (v : _). count_by (is_left now.copied) v.items) is.chunks ∙ order_left now.copied start.collector.slots (get_or rs k (reading_like d)).source.role (get_or rs k (reading_like d)).chunks.items (t.orders k (reading_like d) below) in
      let role = ap (λ (x : Source). count_by (is_of x.role) (failed_slots start.collector.slots now.copied)) (sym (source_at rs k (reading_like d) s below)) in
      way.read.failed ∙ (let z : first.share.failed + (count_left now.copied first.chunks.items queue.done + count_by is_failed queue.reports.waiting) ≡ count_left now.copied first.chunks.items queue.done = omega (arith, none, zero) in z) ∙ all ∙ own ∙ role

  -- the devices have counted them
  pub count_failed : {th : Bool} {start now : Books} {devices rest : List D} {places : List ℕ} {rs : List Reading} {firsts queues : List (Queue D L M)} → HaveLeft g start devices rest places rs firsts → IsPassing g th firsts queues start now → All (λ queue. (queue.done ≡ length queue.chunks.items) × (queue.reports.waiting ≡ [])) queues
      → (news : List D) → length news ≡ length devices → AreTaken news places (map (λ (l : Queue D L M). l.device) queues) rest
      → CountFailed g start.collector.slots now.copied (map (λ (r : Reading). r.source) rs) devices news
  count_failed {start = start} {now = now} {devices = devices} {rest = rest} {places = places} {rs = rs} {firsts = firsts} {queues = queues} t p done news long taken' k s wk e h = by firsts refl
    where
      by : (ls : List (Queue D L M)) → firsts ≡ ls
          → g.failures (get_or devices (get_or (map (λ (r : Reading). r.source) rs) k s).place e) + count_by (is_of (get_or (map (λ (r : Reading). r.source) rs) k s).role) (failed_slots start.collector.slots now.copied)
          ≤ g.failures (get_or news (get_or (map (λ (r : Reading). r.source) rs) k s).place e)
      by [] none = absurd (let n = length-map rs (λ (r : Reading). r.source) in let z = ap length none in omega (arith, wk, n, t.same, z))
      by (f ∷ fs) some =
          let n = length-map rs (λ (r : Reading). r.source) in
          let below : k < length rs = omega (arith, wk, n) in
          let here : k < length firsts = omega (arith, t.same, below) in
          let way = p.each k f here in
          let old = first_device t k f e s below in
          let new : (get_or queues k f).device ≡ get_or news (get_or (map (λ (r : Reading). r.source) rs) k s).place e
          = sym (get_or-map (λ (l : Queue D L M). l.device) queues k f e (omega (arith, here, p.as_many))) ∙ device_at devices news (map (λ (l : Queue D L M). l.device) queues) rest rs places t.may t.turn long taken' k e e s below in
          let up = way.read.risen (ap g.honest old ∙ h) in
          let zero : (get_or firsts k f).share.failed ≡ 0 = (t.are k (reading_like f) f below).none_failed in
          let all = queue_failed t p done k f s below in
          let a = ap g.failures old in
          let b = ap g.failures new in
          omega (arith, up, zero, all, a, b)

  -- a slot of source k whose chunk was not copied
  slot_failed : {th : Bool} {start now : Books} {devices rest : List D} {places : List ℕ} {rs : List Reading} {firsts queues : List (Queue D L M)} → HaveLeft g start devices rest places rs firsts → IsPassing g th firsts queues start now → All (λ queue. (queue.done ≡ length queue.chunks.items) × (queue.reports.waiting ≡ [])) queues
      → (slot : Slot) → Contains start.collector.slots slot → is_set now.copied.bytes slot.chunk ≡ false → (k : ℕ) (s : Source) (d : Queue D L M) → k < length rs → (get_or (map (λ (r : Reading). r.source) rs) k s).role ≡ slot.source
      → FailsInChunk g (get_or firsts k d).device (get_or queues k d).device (get_or firsts k d).offset now.collector.chunks slot.chunk
  slot_failed {now = now} {rs = rs} {firsts = firsts} {queues = queues} t p done slot there unset k s d below role =
      let r = get_or rs k (reading_like d) in
      let is : r.source.role ≡ slot.source = ap (λ (x : Source). x.role) (sym (source_at rs k (reading_like d) s below)) ∙ role in
      let (j, within, at) = order_covers (t.orders k (reading_like d) below) slot there (sym is) in
      let chunks : (get_or firsts k d).chunks ≡ r.chunks = (t.are k (reading_like d) d below).chunks in
      let here : k < length firsts = omega (arith, t.same, below) in
      let way = p.each k d here in
      let short : j < length (get_or firsts k d).chunks.items = rw chunks within in
      let whole : (get_or queues k d).done ≡ length (get_or firsts k d).chunks.items = (done k d (omega (arith, p.as_many, here))).0 ∙ ap (λ (v : _). length v.items) (chunks_kept way.read) in
      let place : slice_index (get_or firsts k d).chunks.items j ≡ slot.chunk = ap (λ (v : _). slice_index v.items j) chunks ∙ at in
      subst (λ c. FailsInChunk g (get_or firsts k d).device (get_or queues k d).device (get_or firsts k d).offset now.collector.chunks c) place
      (way.failed j (omega (arith, short, whole)) (ap (is_set now.copied.bytes) place ∙ unset))

  -- the devices failed reads there
  pub fail_there : {th : Bool} {start now : Books} {devices rest : List D} {places : List ℕ} {rs : List Reading} {firsts queues : List (Queue D L M)} → HaveLeft g start devices rest places rs firsts → IsPassing g th firsts queues start now → All (λ queue. (queue.done ≡ length queue.chunks.items) × (queue.reports.waiting ≡ [])) queues
      → (news : List D) → length news ≡ length devices → AreTaken news places (map (λ (l : Queue D L M). l.device) queues) rest
      → FailThere g (copying start.collector) now.copied (map (λ (r : Reading). r.source) rs) devices news
  fail_there {start = start} {now = now} {devices = devices} {rest = rest} {places = places} {rs = rs} {firsts = firsts} {queues = queues} t p done news long taken' i slot wi unset k s wk role e = by firsts refl
    where
      by : (ls : List (Queue D L M)) → firsts ≡ ls
          → FailsInChunk g (get_or devices (get_or (map (λ (r : Reading). r.source) rs) k s).place e) (get_or news (get_or (map (λ (r : Reading). r.source) rs) k s).place e)
          (get_or (map (λ (r : Reading). r.source) rs) k s).offset start.collector.chunks (get_or start.collector.slots i slot).chunk
      by [] none = absurd (let n = length-map rs (λ (r : Reading). r.source) in let z = ap length none in omega (arith, wk, n, t.same, z))
      by (f ∷ fs) some =
          let n = length-map rs (λ (r : Reading). r.source) in
          let below : k < length rs = omega (arith, wk, n) in
          let here : k < length firsts = omega (arith, t.same, below) in
          let old = first_device t k f e s below in
          let new : (get_or queues k f).device ≡ get_or news (get_or (map (λ (r : Reading). r.source) rs) k s).place e
          = sym (get_or-map (λ (l : Queue D L M). l.device) queues k f e (omega (arith, here, p.as_many))) ∙ device_at devices news (map (λ (l : Queue D L M). l.device) queues) rest rs places t.may t.turn long taken' k e e s below in
          let offset : (get_or firsts k f).offset ≡ (get_or (map (λ (r : Reading). r.source) rs) k s).offset = (t.are k (reading_like f) f below).offset ∙ ap (λ (x : Source). x.offset) (sym (source_at rs k (reading_like f) s below)) in
          let chunks : now.collector.chunks ≡ start.collector.chunks = ap (λ (c : Copying). c.chunks) p.books.same_copy in
          rw (← old, ← new, ← offset, ← chunks) (slot_failed t p done (get_or start.collector.slots i slot) (Contains-get_or start.collector.slots i slot wi) unset k s f below role)

  -- of the device of source k no other call failed
  queue_only : {th : Bool} {start now : Books} {devices rest : List D} {places : List ℕ} {rs : List Reading} {firsts queues : List (Queue D L M)} → HaveLeft g start devices rest places rs firsts → IsPassing g th firsts queues start now → All (λ queue. (queue.done ≡ length queue.chunks.items) × (queue.reports.waiting ≡ [])) queues
      → (k : ℕ) (d : Queue D L M) (s : Source) → k < length rs
      → EachNewFault (g.faults (get_or firsts k d).device) (g.faults (get_or queues k d).device) (IsOfFailedSlot (copying start.collector) now.copied (get_or (map (λ (r : Reading). r.source) rs) k s))
  queue_only {start = start} {now = now} {rs = rs} {firsts = firsts} {queues = queues} t p done k d s below =
      let first = get_or firsts k d in
      let queue = get_or queues k d in
      let source = get_or (map (λ (r : Reading). r.source) rs) k s in
      let here : k < length firsts = omega (arith, t.same, below) in
      let there : k < length queues = omega (arith, p.as_many, here) in
      let way = p.each k d here in
      let is = t.are k (reading_like d) d below in
      let from = source_at rs k (reading_like d) s below in
      let role : first.role ≡ source.role = is.role ∙ ap (λ (x : Source). x.role) (sym from) in
      let offset : first.offset ≡ source.offset = is.offset ∙ ap (λ (x : Source). x.offset) (sym from) in
      let chunks : now.collector.chunks ≡ start.collector.chunks = ap (λ (c : Copying). c.chunks) p.books.same_copy in
      fails_weaker (g.faults first.device) (g.faults queue.device) (λ f. IsOfTaken now first queue f ⊎ IsOfWaiting now.collector.chunks queue f) (IsOfFailedSlot (copying start.collector) now.copied source)
      (λ f h. elim h [
        | inl x ↦ record {
          chunk = slice_index first.chunks.items x.slot;
          planned = subst (λ n. is_planned start.collector.slots (slice_index first.chunks.items x.slot) n ≡ true) role ((p.begins k d here).planned x.slot (let w = way.read.within in let b = x.taken in omega (arith, w, b)));
          uncopied = x.uncopied;
          there = rw (← offset, ← chunks) x.there;
        }
        | inr w ↦ absurd (let n = ap length (done k d there).1 in let b = w.waits in omega (arith, n, b))
      ]) way.only

  -- so of each source
  fail_only : {th : Bool} {start now : Books} {devices rest : List D} {places : List ℕ} {rs : List Reading} {firsts queues : List (Queue D L M)} → HaveLeft g start devices rest places rs firsts → IsPassing g th firsts queues start now
      → ((k : ℕ) (d : Queue D L M) (s : Source) → k < length rs → EachNewFault (g.faults (get_or firsts k d).device) (g.faults (get_or queues k d).device) (IsOfFailedSlot (copying start.collector) now.copied (get_or (map (λ (r : Reading). r.source) rs) k s)))
      → (news : List D) → length news ≡ length devices → AreTaken news places (map (λ (l : Queue D L M). l.device) queues) rest
      → FailOnlyThere g (copying start.collector) now.copied (map (λ (r : Reading). r.source) rs) devices news
  fail_only {start = start} {now = now} {devices = devices} {rest = rest} {places = places} {rs = rs} {firsts = firsts} {queues = queues} t p each news long taken' k s wk has e = by firsts refl
    where
      by : (ls : List (Queue D L M)) → firsts ≡ ls
          → EachNewFault (g.faults (get_or devices (get_or (map (λ (r : Reading). r.source) rs) k s).place e)) (g.faults (get_or news (get_or (map (λ (r : Reading). r.source) rs) k s).place e))
          (IsOfFailedSlot (copying start.collector) now.copied (get_or (map (λ (r : Reading). r.source) rs) k s))
      by [] none = absurd (let n = length-map rs (λ (r : Reading). r.source) in let z = ap length none in omega (arith, wk, n, t.same, z))
      by (f ∷ fs) some =
          let n = length-map rs (λ (r : Reading). r.source) in
          let below : k < length rs = omega (arith, wk, n) in
          let here : k < length firsts = omega (arith, t.same, below) in
          let P = IsOfFailedSlot (copying start.collector) now.copied (get_or (map (λ (r : Reading). r.source) rs) k s) in
          let old = first_device t k f e s below in
          let new : (get_or queues k f).device ≡ get_or news (get_or (map (λ (r : Reading). r.source) rs) k s).place e
          = sym (get_or-map (λ (l : Queue D L M). l.device) queues k f e (omega (arith, here, p.as_many))) ∙ device_at devices news (map (λ (l : Queue D L M). l.device) queues) rest rs places t.may t.turn long taken' k e e s below in
          subst (λ x. EachNewFault (g.faults x) (g.faults (get_or news (get_or (map (λ (r : Reading). r.source) rs) k s).place e)) P) old
          (subst (λ x. EachNewFault (g.faults (get_or firsts k f).device) (g.faults x) P) new (each k f s below))

  pub fail_only_there : {th : Bool} {start now : Books} {devices rest : List D} {places : List ℕ} {rs : List Reading} {firsts queues : List (Queue D L M)} → HaveLeft g start devices rest places rs firsts → IsPassing g th firsts queues start now → All (λ queue. (queue.done ≡ length queue.chunks.items) × (queue.reports.waiting ≡ [])) queues
      → (news : List D) → length news ≡ length devices → AreTaken news places (map (λ (l : Queue D L M). l.device) queues) rest
      → FailOnlyThere g (copying start.collector) now.copied (map (λ (r : Reading). r.source) rs) devices news
  fail_only_there t p done news long taken' = fail_only t p (λ k d s below. queue_only t p done k d s below) news long taken'

  -- a slot of source k was read, and the gate told of it
  slot_told : {th : Bool} {start now : Books} {devices rest : List D} {places : List ℕ} {rs : List Reading} {firsts queues : List (Queue D L M)} → HaveLeft g start devices rest places rs firsts → IsPassing g th firsts queues start now → All (λ queue. (queue.done ≡ length queue.chunks.items) × (queue.reports.waiting ≡ [])) queues
      → {W : Type 0} (w : GateGhosts W) (gate : W) → ((k : ℕ) (d : Queue D L M) → k < length firsts → IsToldOfReads w gate (get_or firsts k d) (get_or queues k d))
      → (slot : Slot) → Contains start.collector.slots slot → (k : ℕ) (s : Source) (d : Queue D L M) → k < length rs → (get_or (map (λ (r : Reading). r.source) rs) k s).role ≡ slot.source → IsTold w gate slot.source slot.chunk
  slot_told {rs = rs} {firsts = firsts} {queues = queues} t p done w gate told slot there k s d below role =
      let r = get_or rs k (reading_like d) in
      let is : r.source.role ≡ slot.source = ap (λ (x : Source). x.role) (sym (source_at rs k (reading_like d) s below)) ∙ role in
      let (j, within, at) = order_covers (t.orders k (reading_like d) below) slot there (sym is) in
      let own = t.are k (reading_like d) d below in
      let here : k < length firsts = omega (arith, t.same, below) in
      let none : length (get_or firsts k d).reports.waiting ≡ 0 = ap length own.none_waits in
      let short : j < length (get_or firsts k d).chunks.items = rw own.chunks within in
      let ends = done k d (omega (arith, p.as_many, here)) in
      let n = ap (λ (v : _). length v.items) (chunks_kept (p.each k d here).read) in
      let before = own.none_done in
      let all = ends.0 in
      subst (λ c. IsTold w gate slot.source c) (ap (λ (v : _). slice_index v.items j) own.chunks ∙ at)
      (subst (λ x. IsTold w gate x (slice_index (get_or firsts k d).chunks.items j)) (own.role ∙ is)
      (told k d here j (omega (arith, before, none)) (omega (arith, short, n, all))))

  -- the gate was told of each slot
  pub all_told : {th : Bool} {start now : Books} {devices rest : List D} {places : List ℕ} {rs : List Reading} {firsts queues : List (Queue D L M)} → HaveLeft g start devices rest places rs firsts → IsPassing g th firsts queues start now → All (λ queue. (queue.done ≡ length queue.chunks.items) × (queue.reports.waiting ≡ [])) queues
      → {W : Type 0} (w : GateGhosts W) (gate : W) → ((k : ℕ) (d : Queue D L M) → k < length firsts → IsToldOfReads w gate (get_or firsts k d) (get_or queues k d))
      → All (λ (slot : Slot). IsTold w gate slot.source slot.chunk) start.collector.slots
  all_told {start = start} {rs = rs} {firsts = firsts} t p done w gate told i slot wi = found (t.may.serves i slot wi)
    where
      at : Slot
      at = get_or start.collector.slots i slot

      by : (k : ℕ) (s : Source) → k < length rs → (get_or (map (λ (r : Reading). r.source) rs) k s).role ≡ at.source → (ls : List (Queue D L M)) → firsts ≡ ls → IsTold w gate at.source at.chunk
      by k s below role [] none = absurd (let z = ap length none in omega (arith, below, t.same, z))
      by k s below role (f ∷ fs) some = slot_told t p done w gate told at (Contains-get_or start.collector.slots i slot wi) k s f below role

      found : Any (λ (s : Source). s.role ≡ at.source) (map (λ (r : Reading). r.source) rs) → IsTold w gate at.source at.chunk
      found (k, s, wk, is, role) = by k s (let n = length-map rs (λ (r : Reading). r.source) in omega (arith, wk, n)) (ap (λ (x : Source). x.role) is ∙ role) firsts refl

  -- the shares of queues that are done
  pub none_left : {th : Bool} {start now : Books} {devices rest : List D} {places : List ℕ} {rs : List Reading} {firsts queues : List (Queue D L M)} → HaveLeft g start devices rest places rs firsts → IsPassing g th firsts queues start now → All (λ queue. (queue.done ≡ length queue.chunks.items) × (queue.reports.waiting ≡ [])) queues
      → (sum_by (λ (l : Queue D L M). l.share.left) queues ≡ 0) × (sum_by (λ (l : Queue D L M). l.share.failed) queues ≡ length (failed_slots start.collector.slots now.copied)) × (sum_by (λ (l : Queue D L M). l.share.parts) queues ≡ sum_by (λ (l : Queue D L M). l.share.parts) firsts)
  none_left {th = th} {start = start} {now = now} {rs = rs} {firsts = firsts} {queues = queues} t p done = (
    sum_none (λ (l : Queue D L M). l.share.left) queues left,
    same_totals (λ (l : Queue D L M). l.share.failed) (λ (s : Source). count_by (is_of s.role) (failed_slots start.collector.slots now.copied)) queues (map (λ (r : Reading). r.source) rs) (p.as_many ∙ t.same ∙ sym (length-map rs (λ (r : Reading). r.source)))
        (λ k d s below. queue_failed t p done k d s (omega (arith, below, p.as_many, t.same)))
        ∙ all_counted (failed_slots start.collector.slots now.copied) (map (λ (r : Reading). r.source) rs) t.may.rising (All-filter (is_failed_slot now.copied) (λ (slot : Slot). Any (λ (s : Source). s.role ≡ slot.source) (map (λ (r : Reading). r.source) rs)) start.collector.slots t.may.serves),
    parts,
  )
    where
      way : (k : ℕ) (d : Queue D L M) → k < length queues → IsUnderWay g th now (get_or firsts k d) (get_or queues k d)
      way k d below = p.each k d (omega (arith, below, p.as_many))

      left : (k : ℕ) (d : Queue D L M) → k < length queues → (get_or queues k d).share.left ≡ 0
      left k d below =
          let z = (done k d below).0 in
          let none = ap length (done k d below).1 in
          let e = ap (λ (v : _). length v.items) (chunks_kept (way k d below).read) in
          (way k d below).read.left ∙ omega (arith, z, e, none)

      parts : sum_by (λ (l : Queue D L M). l.share.parts) queues ≡ sum_by (λ (l : Queue D L M). l.share.parts) firsts
      parts = same_sums (λ (l : Queue D L M). l.share.parts) queues firsts p.as_many (λ k d below. (way k d below).read.parts)
