-- A pass begins: devices have left for queues.
use Rattle.std.proofs.Common.{◌≡◌, ℕ, ◌-◌, ◌<◌, ◌≤◌, ◌⊎◌, Bool, true, false, inl, inr, [], List, length, map, min, get_or, slice_index, refl, ap, sym, ◌∙◌, arith, subst}
use Rattle.std.specs.List.{All}
use Rattle.std.specs.Int.{div_ceil}
use Rattle.std.proofs.lemmas.Bool.{cases_lt}
use Rattle.std.proofs.lemmas.List.{get_or_default, get_or-map, length-map}
use Rattle.std.proofs.lemmas.List.Elements.{All-contains}
use Rattle.std.proofs.lemmas.Simd.{map-map}
use Rattle.md_device.specs.declared.device.Device.{Ghosts}
use Rattle.md_bitmap.specs.declared.chunks.Chunks.{Chunks}
use Rattle.md_bitmap.specs.Marks.{is_set}
use Rattle.md_collect.specs.Places.{HasRoom}
use Rattle.md_collect.specs.Collecting.{ArePlanned, IsUnreported}
use Rattle.md_collect.specs.declared.workers.queue.Queue.{Queue}
use Rattle.md_device.proofs.Failing.{fails_none}
use Rattle.md_collect.specs.Workers.Queues.{HasRead, IsOfWaiting, slots_read}
use Rattle.md_collect.specs.Workers.Waiting.{HasMemoryFor, WaitingView}
use Rattle.md_pass.specs.Handing.{HaveMemory}
use Rattle.md_collect.proofs.WorkerLemmas.Workers.{none_read}
use Rattle.md_pass.specs.declared.preparing.Preparation.{Preparation}
use Rattle.md_pass.specs.declared.source_reading.Reading.{Reading}
use Rattle.md_pass.specs.declared.source.Source.{Source}
use Rattle.md_pass.specs.Places.{AreInTurn, AreTaken, FitPlaces, AreDistinct}
use Rattle.md_pass.specs.Readings.{HaveFirstMemory, IsQueueOf, IsOrderOf}
use Rattle.md_pass.specs.TakingReports.{Books}
use Rattle.md_pass.specs.Preparing.{IsOrdered}
use Rattle.md_pass.specs.Sources.{MayRead}
use Rattle.md_pass.specs.Passes.{HasBooks, IsAtStart, IsOfTaken, IsUnderWay, IsPassing, count_left}
use Rattle.md_pass.proofs.Memories.{remembered, since}
use Rattle.md_pass.proofs.InTurn.{taken_at, turns_fit}
use Rattle.md_pass.proofs.Orders.{one_slot, order_apart, order_chunk, order_planned, slot_at}
use Rattle.md_pass.proofs.Rounds.{first_goes}

no_source : Source
no_source = record { place = 0; role = 0; offset = 0 }

-- an element that a list has at a place, whatever stands for one that is missing
pub get_or_self : {X : Type 0} (xs : List X) (k : ℕ) (x d : X) → k < length xs → x ≡ get_or xs k x → get_or xs k d ≡ x
get_or_self xs k x d below is = get_or_default xs k d x below ∙ sym is

-- the source of a reading in the list of sources
pub source_at : (rs : List Reading) (k : ℕ) (r : Reading) (s : Source) → k < length rs → get_or (map (λ (x : Reading). x.source) rs) k s ≡ (get_or rs k r).source
source_at rs k r s below = get_or-map (λ (x : Reading). x.source) rs k r s below

place_at : (rs : List Reading) (k : ℕ) → k < length rs → slice_index (map (λ (r : Reading). r.source.place) rs) k ≡ (get_or (map (λ (r : Reading). r.source) rs) k no_source).place
place_at rs k below =
    ap (λ (xs : List ℕ). slice_index xs k) (sym (map-map (λ (s : Source). s.place) (λ (r : Reading). r.source) rs)) ∙ get_or-map (λ (s : Source). s.place) (map (λ (r : Reading). r.source) rs) k no_source 0 (omega (arith, below, length-map rs (λ (r : Reading). r.source)))

-- the places of a pass that was prepared
pub in_turn : (p : Preparation) (places : List ℕ) → places ≡ p.places.items → IsOrdered p → AreInTurn (map (λ (r : Reading). r.source.place) p.readings.items) places
in_turn p places at ordered = rw at ordered.places

module _ {D : Type 0} {g : Ghosts D} where
  pub places_apart : {chunks : _} {slots : _} {devices : List D} (rs : List Reading) → MayRead g chunks slots (map (λ (r : Reading). r.source) rs) devices → AreDistinct (map (λ (r : Reading). r.source.place) rs)
  places_apart rs may i j wi wj e =
      let n = length-map rs (λ (r : Reading). r.source.place) in
      let m = length-map rs (λ (r : Reading). r.source) in
      let pi = place_at rs i (omega (arith, wi, n)) in
      let pj = place_at rs j (omega (arith, wj, n)) in
      elim (cases_lt i j) [
        | inl less ↦ absurd (may.apart i j no_source less (omega (arith, wj, n, m)) (sym pi ∙ e ∙ pj))
        | inr up ↦ elim (cases_lt j i) [ inl less ↦ absurd (may.apart j i no_source less (omega (arith, wi, n, m)) (sym pj ∙ sym e ∙ pi)) | inr down ↦ omega arith ]
      ]

  pub places_within : {chunks : _} {slots : _} {devices : List D} (rs : List Reading) → MayRead g chunks slots (map (λ (r : Reading). r.source) rs) devices → (i : ℕ) → i < length (map (λ (r : Reading). r.source.place) rs)
      → slice_index (map (λ (r : Reading). r.source.place) rs) i < length devices
  places_within rs may i wi =
      let n = length-map rs (λ (r : Reading). r.source.place) in
      let m = length-map rs (λ (r : Reading). r.source) in
      let is = place_at rs i (omega (arith, wi, n)) in
      let inside = may.within i no_source (omega (arith, wi, n, m)) in
      omega (arith, is, inside)

  pub all_fit : {chunks : _} {slots : _} (devices : List D) (rs : List Reading) (places : List ℕ) → MayRead g chunks slots (map (λ (r : Reading). r.source) rs) devices → AreInTurn (map (λ (r : Reading). r.source.place) rs) places → FitPlaces (length devices) places
  all_fit devices rs places may turn = turns_fit (length devices) (map (λ (r : Reading). r.source.place) rs) places turn (places_apart rs may) (places_within rs may)

  -- the device that was taken for a reading
  pub device_at : {chunks : _} {slots : _} (devices news out rest : List D) (rs : List Reading) (places : List ℕ) → MayRead g chunks slots (map (λ (r : Reading). r.source) rs) devices → AreInTurn (map (λ (r : Reading). r.source.place) rs) places
      → length news ≡ length devices → AreTaken news places out rest → (k : ℕ) (d e : D) (s : Source) → k < length rs → get_or out k d ≡ get_or news (get_or (map (λ (r : Reading). r.source) rs) k s).place e
  device_at devices news out rest rs places may turn long taken k d e s below =
      let ps = map (λ (r : Reading). r.source.place) rs in
      let n = length-map rs (λ (r : Reading). r.source.place) in
      let inside = λ (i : ℕ) (wi : i < length ps). let w = places_within rs may i wi in (let z : slice_index ps i < length news = omega (arith, w, long) in z) in
      taken_at news ps places out rest turn (places_apart rs may) inside taken k d e (omega (arith, below, n))
      ∙ ap (λ p. get_or news p e) (ap (λ (xs : List ℕ). slice_index xs k) (sym (map-map (λ (x : Source). x.place) (λ (r : Reading). r.source) rs)) ∙ get_or-map (λ (x : Source). x.place) (map (λ (r : Reading). r.source) rs) k s 0 (omega (arith, below, length-map rs (λ (r : Reading). r.source))))

  -- sources of one role are one
  pub one_role : {chunks : _} {slots : _} {devices : List D} (ss : List Source) → MayRead g chunks slots ss devices → (i j : ℕ) (s : Source) → i < length ss → j < length ss → (get_or ss i s).role ≡ (get_or ss j s).role → i ≡ j
  one_role ss may i j s wi wj e =
      elim (cases_lt i j) [
        | inl less ↦ absurd (let up = may.rising i j s less wj in omega (arith, up, e))
        | inr up ↦ elim (cases_lt j i) [ inl less ↦ absurd (let low = may.rising j i s less wi in omega (arith, low, e)) | inr down ↦ omega arith ]
      ]

still : (start : Books) → IsUnreported start.collector → HasBooks start start
still start fresh = record {
  same_copy = refl;
  whole = fresh.whole;
  size = refl;
  planned = λ c e. absurd (impossible (is_set start.collector.reported.bytes c) e (fresh.none c));
  count = refl;
  kept = λ c e. e;
  marks = λ c set unset. absurd (impossible (is_set start.copied.bytes c) set unset);
  beside = record { size = refl; beside = λ at n beside. refl };
}
  where
    impossible : (b : Bool) → b ≡ true → b ≡ false → ⊥
    impossible b t f = cc

-- a reading as long as the queue's
pub reading_like : {D L M : Type 0} → Queue D L M → Reading
reading_like queue = record { source = no_source; chunks = queue.chunks; reports = record { waiting = []; room = 0; longest = 0 }; none_waits = refl }

module _ {D L M : Type 0} {g : Ghosts D} where
  begun : (th : Bool) (start : Books) (queue : Queue D L M) → IsAtStart g start queue → IsUnderWay g th start queue queue
  begun th start queue first = record {
    read = subst (λ n. HasRead g start.collector.chunks (count_left start.copied queue.chunks.items n) (since queue queue) queue) (sym first.none_done) (remembered queue queue (none_read queue (first_goes start start.collector.chunks queue first refl) first.none_waits));
    landed = λ j below. absurd (let z = first.none_done in omega (arith, z, below));
    failed = λ j below. absurd (let z = first.none_done in omega (arith, z, below));
    only = fails_none (g.faults queue.device) (λ f. IsOfTaken start queue queue f ⊎ IsOfWaiting start.collector.chunks queue f);
    waiting = λ j from below. first.unreported j below;
  }

  first_of : (start : Books) (r : Reading) (queue : Queue D L M) → IsUnreported start.collector → ArePlanned start.collector.chunks start.collector.slots → All (λ slot. is_set start.copied.bytes slot.chunk ≡ false) start.collector.slots → IsOrderOf start.collector.slots r.source.role r.chunks.items → IsQueueOf r queue
      → HasRoom (g.content queue.device) r.source.offset start.collector.chunks → IsAtStart g start queue
  first_of start r queue fresh planned uncopied order is room = record {
    room = rw is.offset room;
    planned = rw (is.chunks, is.role) (order_planned order);
    chunk = rw is.chunks (order_chunk order start.collector.chunks planned);
    unreported = λ j below. fresh.none (slice_index queue.chunks.items j);
    uncopied = rw is.chunks (λ j below. let at = slot_at order j below in subst (λ c. is_set start.copied.bytes c ≡ false) at.chunk_is (All-contains (λ (s : _). is_set start.copied.bytes s.chunk ≡ false) start.collector.slots at.slot uncopied at.there));
    none_done = is.none_done;
    none_waits = is.none_waits;
    left = is.left ∙ ap (λ (v : _). length v.items) (sym is.chunks);
    none_failed = is.none_failed;
  }

  -- queues that were made of readings
  pub starts : (th : Bool) (start : Books) (devices rest : List D) (places : List ℕ) (rs : List Reading) (queues : List (Queue D L M)) → IsUnreported start.collector → ArePlanned start.collector.chunks start.collector.slots → All (λ slot. is_set start.copied.bytes slot.chunk ≡ false) start.collector.slots
      → MayRead g start.collector.chunks start.collector.slots (map (λ (r : Reading). r.source) rs) devices → All (λ (r : Reading). IsOrderOf start.collector.slots r.source.role r.chunks.items) rs
      → AreInTurn (map (λ (r : Reading). r.source.place) rs) places → HasRoom start.target start.collector.offset start.collector.chunks → start.copied.chunks ≡ div_ceil start.collector.chunks.size start.collector.chunks.sectors
      → length queues ≡ length rs → AreTaken devices places (map (λ (l : Queue D L M). l.device) queues) rest
      → ((i : ℕ) (r : Reading) (d : Queue D L M) → i < length rs → IsQueueOf (get_or rs i r) (get_or queues i d))
      → IsPassing g th queues queues start start
  starts th start devices rest places rs queues fresh planned uncopied may orders turn room marks same taken are = record {
    begins = firsts;
    apart = apart;
    room = room;
    covers = λ c is. rw marks is;
    as_many = refl;
    each = λ k d below. begun th start (get_or queues k d) (firsts k d below);
    books = still start fresh;
  }
    where
      ss : List Source
      ss = map (λ (r : Reading). r.source) rs

      chunks_at : (k : ℕ) (d : Queue D L M) → k < length queues → (get_or queues k d).chunks ≡ (get_or rs k (reading_like d)).chunks
      chunks_at k d within = (are k (reading_like d) d (omega (arith, same, within))).chunks

      firsts : (k : ℕ) (d : Queue D L M) → k < length queues → IsAtStart g start (get_or queues k d)
      firsts k d within =
          let here : k < length rs = omega (arith, same, within) in
          let r = get_or rs k (reading_like d) in
          let from : get_or ss k no_source ≡ r.source = source_at rs k (reading_like d) no_source here in
          let at : (get_or queues k d).device ≡ get_or devices r.source.place d.device
          = sym (get_or-map (λ (l : Queue D L M). l.device) queues k d d.device within) ∙ device_at devices devices (map (λ (l : Queue D L M). l.device) queues) rest rs places may turn refl taken k d.device d.device no_source here ∙ ap (λ (s : Source). get_or devices s.place d.device) from in
          let wide : HasRoom (g.content (get_or devices r.source.place d.device)) r.source.offset start.collector.chunks
          = subst (λ (s : Source). HasRoom (g.content (get_or devices s.place d.device)) s.offset start.collector.chunks) from (may.room k no_source (omega (arith, here, length-map rs (λ (x : Reading). x.source))) d.device) in
          first_of start r (get_or queues k d) fresh planned uncopied (orders k (reading_like d) here) (are k (reading_like d) d here) (rw at wide)

      apart : (k m i j : ℕ) (d : Queue D L M) → k < length queues → m < length queues → i < length (get_or queues k d).chunks.items → j < length (get_or queues m d).chunks.items
          → slice_index (get_or queues k d).chunks.items i ≡ slice_index (get_or queues m d).chunks.items j → (k ≡ m) × (i ≡ j)
      apart k m i j d wk wm wi wj e =
          let hk : k < length rs = omega (arith, same, wk) in
          let hm : m < length rs = omega (arith, same, wm) in
          let ck = chunks_at k d wk in
          let cm = chunks_at m d wm in
          let rk = get_or rs k (reading_like d) in
          let rm = get_or rs m (reading_like d) in
          let wi' : i < length rk.chunks.items = rw (← ck) wi in
          let wj' : j < length rm.chunks.items = rw (← cm) wj in
          let e' : slice_index rk.chunks.items i ≡ slice_index rm.chunks.items j = ap (λ (v : _). slice_index v.items i) (sym ck) ∙ e ∙ ap (λ (v : _). slice_index v.items j) cm in
          let a = slot_at (orders k (reading_like d) hk) i wi' in
          let b = slot_at (orders m (reading_like d) hm) j wj' in
          let slot = one_slot start.collector.slots planned.rising a.slot b.slot a.there b.there (a.chunk_is ∙ e' ∙ sym b.chunk_is) in
          let n = length-map rs (λ (r : Reading). r.source) in
          let role : (get_or ss k no_source).role ≡ (get_or ss m no_source).role
          = ap (λ (s : Source). s.role) (source_at rs k (reading_like d) no_source hk) ∙ sym a.source_is ∙ ap (λ (s : _). s.source) slot ∙ b.source_is ∙ ap (λ (s : Source). s.role) (sym (source_at rs m (reading_like d) no_source hm)) in
          let one : k ≡ m = one_role ss may k m no_source (omega (arith, hk, n)) (omega (arith, hm, n)) role in
          let there : get_or rs m (reading_like d) ≡ rk = ap (λ x. get_or rs x (reading_like d)) (sym one) in
          (one, order_apart (orders k (reading_like d) hk) planned.rising i j wi' (subst (λ (r : Reading). j < length r.chunks.items) there wj') (e' ∙ ap (λ (r : Reading). slice_index r.chunks.items j) there))

pub turns_enough : {D L M : Type 0} (enough : ℕ) (rs : List Reading) (queues : List (Queue D L M)) → length queues ≡ length rs → All (λ (r : Reading). length r.chunks.items ≤ enough) rs
    → ((i : ℕ) (r : Reading) (d : Queue D L M) → i < length rs → IsQueueOf (get_or rs i r) (get_or queues i d)) → All (λ (queue : Queue D L M). length queue.chunks.items ≤ enough) queues
turns_enough enough rs queues same short are k d below =
    let here : k < length rs = omega (arith, same, below) in
    rw (are k (reading_like d) d here).chunks (short k (reading_like d) here)

-- memory for two turns of each queue
pub memory_enough : {D L M : Type 0} (chunks : Chunks) (most : ℕ) (rs : List Reading) (queues : List (Queue D L M)) (waits : List WaitingView) → length queues ≡ length rs → HaveFirstMemory chunks most rs waits
    → All (λ (r : Reading). HasMemoryFor chunks (min most (length r.chunks.items - most)) r.reports) rs
    → ((i : ℕ) (r : Reading) (d : Queue D L M) → i < length rs → IsQueueOf (get_or rs i r) (get_or queues i d)) → HaveMemory chunks most queues waits
memory_enough {D = D} {L = L} {M = M} chunks most rs queues waits same first later are = record {
  as_many = first.as_many ∙ sym same;
  idle = first.none;
  next = λ k q w below.
      let here : k < length rs = omega (arith, same, below) in
      let is = are k (reading_like q) q here in
      let has = first.memory k (reading_like q) w here in
      record { room = (let room = has.room in let n = read_none k q below in let long = chunk_count k q below in omega (arith, room, n, long)); long = has.long };
  later = λ k q below.
      let here : k < length rs = omega (arith, same, below) in
      let is = are k (reading_like q) q here in
      let has = later k (reading_like q) here in
      rw is.reports (record { room = (let room = has.room in let n = read_none k q below in let long = chunk_count k q below in omega (arith, room, n, long)); long = has.long });
}
  where
    read_none : (k : ℕ) (q : Queue D L M) → k < length queues → slots_read (get_or queues k q) ≡ 0
    read_none k q below =
        let here : k < length rs = omega (arith, same, below) in
        let is = are k (reading_like q) q here in
        let none : length (get_or queues k q).reports.waiting ≡ 0 = ap length is.none_waits in
        let done = is.none_done in
        omega (arith, none, done)

    chunk_count : (k : ℕ) (q : Queue D L M) → k < length queues → length (get_or queues k q).chunks.items ≡ length (get_or rs k (reading_like q)).chunks.items
    chunk_count k q below =
        let here : k < length rs = omega (arith, same, below) in
        ap (λ (v : _). length v.items) (are k (reading_like q) q here).chunks
