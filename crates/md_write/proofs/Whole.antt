-- A whole write is put together.
use Rattle.std.proofs.Common.{◌≡◌, ℕ, ◌+◌, ◌-◌, ◌/◌, ◌<◌, ◌≤◌, Bool, true, false, cond, nat_le, List, [], ◌∷◌, ◌++◌, length, slice_get, Option, None, Some, refl, sym, ap, ◌∙◌, subst, arith, inl}
use Rattle.std.proofs.lemmas.Bool.{and_from, le-leb, or_right}
use Rattle.std.proofs.lemmas.Option.{none-some}
use Rattle.md_model.specs.Sectors.{Geometry, put}
use Rattle.md_model.specs.Content.{Becomes, Content, HoldsBetween, with_request}
use Rattle.md_model.specs.Worlds as worlds
use Rattle.md_model.specs.Worlds.{Request, World}
use Rattle.md_model.specs.Events.{Event}
use Rattle.md_model.proofs.Cases.{by_option}
use Rattle.md_model.proofs.Puts.{put-self}
use Rattle.md_bitmap.specs.Marks.{is_set}
use Rattle.md_bitmap.specs.declared.chunks.Chunks.{Chunks}
use Rattle.md_bitmap.proofs.Limits.{div-lt-div_ceil}
use Rattle.md_inflight.specs.Inflight.{InflightList, lookup, entries_without}
use Rattle.md_inflight.specs.declared.requests.extent.Extent.{Extent}
use Rattle.md_inflight.specs.Requests.Pending.{PendingView}
use Rattle.md_faults.specs.declared.step_fault.BeginFault.{BeginFault}
use Rattle.md_faults.specs.declared.step_fault.BeginFault.TheVariants as begin
use Rattle.md_state.specs.View.{ArrayView, MirrorView, geometry_of}
use Rattle.md_state.specs.Steps.Begin.{Begins, HasMarked, RefusesBegin, has_sector_of, has_to_rise}
use Rattle.md_state.specs.Steps.Rise.{risen}
use Rattle.md_state.specs.Steps.Finish.{Finishes}
use Rattle.md_state.specs.Requests.{AreInFlight, among, request_of}
use Rattle.md_state.proofs.Changes.RequestChunks.{div_mono}
use Rattle.md_array.specs.Consistency.{IsConsistent}
use Rattle.md_array.specs.Events.{BeginHappens, Does, FinishHappens}
use Rattle.md_array.specs.InTurn.{AllLeftWhole, AllOf, InTurn, IsPut, Requests}
use Rattle.md_array.specs.Worlds.{AreHonest, world_of}
use Rattle.md_array.proofs.StepLemmas.InFlight.{found_with_last}
use Rattle.md_array.proofs.StepLemmas.Turns.{turn_on, turn_then, turn_through}
use Rattle.md_array.proofs.Worlds.InSync.{in_sync_is, number_at}
use Rattle.md_write.specs.Progress.{AreChunksOf, HaltsOn, IsEventOf, IsOfRequest, IsReadyToFinish, Part, end_chunk, first_chunk}
use Rattle.md_write.specs.Writing.{HaltsWrite, HasReceived, AreBytesWritten, RefusesWrite, Writes, events_of_write}
use Rattle.md_write.proofs.WrittenData.{put_under, under}
use Rattle.md_write.proofs.WrittenData as written
use Rattle.md_write.proofs.Entries.{without_last}
use Rattle.md_write.proofs.InRounds.{left_at}
use Rattle.md_write.proofs.Received.{HasBytes, IsReceiving, received, receives_begin, receives_step}
use Rattle.md_metadata.proofs.Going.{fly_on}

module _ (a : ArrayView) (full : Bool) where
  chunks_if : (rises : Bool) → (cond rises (risen a full) a).chunks ≡ a.chunks
  chunks_if true = refl
  chunks_if false = refl

  requests_if : (rises : Bool) → (cond rises (risen a full) a).requests ≡ a.requests
  requests_if true = refl
  requests_if false = refl

  resynced_if : (rises : Bool) → (cond rises (risen a full) a).resynced ≡ a.resynced
  resynced_if true = refl
  resynced_if false = refl

  halted_if : (rises : Bool) → (cond rises (risen a full) a).halted ≡ a.halted
  halted_if true = refl
  halted_if false = refl

-- ---- what each event of a request keeps
pub record IsOn (g : Geometry) (n : ℕ) (r : Request) (first : World) (m : MirrorView) (s : Requests) : Type 0 where
  pub receiving : IsReceiving n r first (world_of m s)
  pub geometry : geometry_of m.array ≡ g
  pub content : (a : Content) → HoldsBetween g a first → HoldsBetween g a (world_of m s)

becomes_same : (n low high : ℕ) (e : Event) → IsEventOf n low high e → (g : Geometry) (w : World) (a : Content) → Becomes g e w a a
becomes_same n low high (Event.Record k) of g w a = refl
becomes_same n low high (Event.LowerOffset k s) of g w a = refl
becomes_same n low high (Event.StoreMarks k b) of g w a = refl
becomes_same n low high (Event.WriteMember m k) of g w a = refl
becomes_same n low high (Event.WriteFails k part) of g w a = refl
becomes_same n low high e of g w a = absurd of

on_step : (g : Geometry) (n low high : ℕ) (r : Request) (first : World) (o : MirrorView) (s : Requests) (e : Event) (m : MirrorView) (y : Requests) → IsEventOf n low high e → Does o s e m y
    → IsOn g n r first o s → IsOn g n r first m y
on_step g n low high r first o s e m y of d is = record {
  receiving = receives_step n r first (world_of o s) is.receiving (geometry_of o.array) low high e (world_of m y) of d.step;
  geometry = d.geometry ∙ is.geometry;
  content = λ a holds.
      subst (λ (h : Geometry). HoldsBetween h a (world_of m y)) is.geometry
      (d.content a a (subst (λ (h : Geometry). HoldsBetween h a (world_of o s)) (sym is.geometry) (is.content a holds)) (becomes_same n low high e of (geometry_of o.array) (world_of o s) a));
}

on_begin : (n : ℕ) (r : Request) (old : MirrorView) (others : Requests) (m : MirrorView) (s : Requests) → Does old others (Event.Begin n r) m s
    → ((j k : ℕ) → worlds.IsInSync (world_of m s) j → worlds.IsInSync (world_of m s) k → (world_of m s).number j ≡ (world_of m s).number k → j ≡ k)
    → IsOn (geometry_of old.array) n r (world_of old others) m s
on_begin n r old others m s d distinct = record {
  receiving = receives_begin (geometry_of old.array) n r (world_of old others) (world_of m s) d.step distinct;
  geometry = d.geometry;
  content = λ a holds. d.content a a holds refl;
}

on_end : (n : ℕ) (r : Request) (old : MirrorView) (others : Requests) (m : MirrorView) (s : Requests) (new : MirrorView) → IsOn (geometry_of old.array) n r (world_of old others) m s
    → Does m s (Event.Finish n) new others → HasReceived r old new others
on_end n r old others m s new is d =
    let first = world_of old others in
    let q = d.step.1.0 in
    let may = d.step.1.1 in
    let has : HasBytes r first (world_of new others) = subst (HasBytes r first) (sym d.step.1.2) (received n r first (world_of m s) is.receiving q may) in
    let same : q ≡ record r { written = q.written } = is.receiving.request q may.in_flight in
    record {
      bytes = has.bytes;
      elsewhere = has.others;
      content = λ a holds.
          let becomes : with_request (Some r) a ≡ with_request ((world_of m s).request n) a =
          ap (λ (x : Request). with_request (Some x) a) (sym same) ∙ ap (λ (x : Option Request). with_request x a) (sym may.in_flight) in
          subst (λ (h : Geometry). HoldsBetween h (with_request (Some r) a) (world_of new others)) is.geometry
          (d.content a (with_request (Some r) a) (subst (λ (h : Geometry). HoldsBetween h a (world_of m s)) (sym is.geometry) (is.content a holds)) becomes);
    }

-- ---- a request that begins
module _ (sector : ℕ) (bytes : List ℕ) (old begun : MirrorView) (p : PendingView) (b : Begins sector bytes old begun p) (before : IsConsistent old) (sound : IsConsistent begun) where
  abbrev n : ℕ
  n = p.ticket.number

  number_is : n ≡ old.array.requests.next
  number_is = ap (λ (x : PendingView). x.ticket.number) b.pending

  sector_is : p.sector ≡ sector
  sector_is = ap (λ (x : PendingView). x.sector) b.pending

  bytes_are : length p.bytes ≡ length bytes
  bytes_are = ap (λ (x : PendingView). length x.bytes) b.pending

  abbrev sectors : ℕ
  sectors = length bytes / 512

  chunks_are : begun.array.chunks ≡ old.array.chunks
  chunks_are = ap (λ (x : ArrayView). x.chunks) b.array ∙ chunks_if old.array _ (has_to_rise old.array)

  resynced_is : begun.array.resynced ≡ old.array.resynced
  resynced_is = ap (λ (x : ArrayView). x.resynced) b.array ∙ resynced_if old.array _ (has_to_rise old.array)

  pub running_begun : begun.array.halted ≡ false
  running_begun = ap (λ (x : ArrayView). x.halted) b.array ∙ halted_if old.array _ (has_to_rise old.array) ∙ b.may.running

  entries_are : begun.array.requests.entries ≡ old.array.requests.entries ++ (old.array.requests.next, record { start = sector; sectors = sectors }) ∷ []
  entries_are = ap (λ (x : ArrayView). x.requests.entries) b.array
      ∙ ap (λ (x : InflightList Extent). x.entries ++ (x.next, record { start = sector; sectors = sectors }) ∷ []) (requests_if old.array _ (has_to_rise old.array))

  -- its chunks
  pub chunks_begun : (first end : ℕ) → first ≡ sector / begun.array.chunks.sectors → end ≡ ((sector + sectors) - 1) / begun.array.chunks.sectors + 1 → AreChunksOf begun.array p first end
  chunks_begun first end first_is end_is =
      let w = begun.array.chunks.sectors in
      let same : begun.array.chunks.sectors ≡ old.array.chunks.sectors = ap (λ (c : Chunks). c.sectors) chunks_are in
      let size : begun.array.chunks.size ≡ old.array.chunks.size = ap (λ (c : Chunks). c.size) chunks_are in
      let some = b.may.range.some in
      let inside = b.may.range.inside in
      let at = sector_is in
      let many : length p.bytes / 512 ≡ length bytes / 512 = ap (λ m. m / 512) bytes_are in
      let order = div_mono w sector ((sector + sectors) - 1) sound.chunks.wide (omega arith) in
      let last : ((sector + sectors) - 1) / w < begun.array.marks.chunks =
      subst (λ (m : ℕ). ((sector + sectors) - 1) / w < m) (sym sound.chunks.count)
      (div-lt-div_ceil begun.array.chunks.size w ((sector + sectors) - 1) sound.chunks.wide (omega arith)) in
      record {
        are = record {
          some = omega arith;
          within = omega arith;
          marked = λ c low high.
              b.marked.bits c
              ∙ or_right (is_set old.array.marks.bytes c) (has_sector_of old.array sector sectors c)
              (and_from (nat_le (sector / old.array.chunks.sectors) c) (nat_le c (((sector + sectors) - 1) / old.array.chunks.sectors))
              (le-leb _ _ (subst (λ (v : ℕ). sector / v ≤ c) same (omega arith)))
              (le-leb _ _ (subst (λ (v : ℕ). c ≤ ((sector + sectors) - 1) / v) same (omega arith))));
        };
        first_is = first_is ∙ ap (λ s. s / w) (sym at);
        end_is = end_is ∙ ap (λ s. ((s + sectors) - 1) / w + 1) (sym at) ∙ ap (λ m. ((p.sector + m) - 1) / w + 1) (sym many);
      }

  -- the number is new
  none_under : (m : ℕ) → m ≡ n → lookup old.array.requests.entries m ≡ None
  none_under m same = ap (lookup old.array.requests.entries) (same ∙ number_is) ∙ b.fresh

  pub new_number : (others : Requests) → AreInFlight old.array others → others n ≡ None
  new_number others in_flight = by_option (others n) (λ e. e) (λ q e. absurd (none-some _ (sym (none_under n refl) ∙ in_flight n q e)))

  -- and the others are in flight still
  beside : (others : Requests) → AreInFlight old.array others → AreInFlight begun.array others
  beside others in_flight m q e = ap (λ xs. lookup xs m) entries_are ∙ found_with_last old.array.requests.next _ old.array.requests.entries m _ (in_flight m q e)

  distinct : (others : Requests) (j k : ℕ) → worlds.IsInSync (world_of begun (among p others)) j → worlds.IsInSync (world_of begun (among p others)) k
      → (world_of begun (among p others)).number j ≡ (world_of begun (among p others)).number k → j ≡ k
  distinct others j k at_j at_k same =
      let x = in_sync_is begun.disks begun.array (among p others) j at_j in
      let y = in_sync_is begun.disks begun.array (among p others) k at_k in
      sound.roles.numbers j k x.0 y.0 x.1.member y.1.member
      (sym (number_at begun.disks begun.array (among p others) j x.0 x.1.member) ∙ same ∙ number_at begun.disks begun.array (among p others) k y.0 y.1.member)

  module _ (begins : BeginHappens old begun p) where
    -- the first event, and then a list
    abbrev first_turn : (es : List Event) (Then : MirrorView → Requests → Type 0) (previous : Option Event) (others : Requests) → AreInFlight old.array others
        → InTurn (Some (Event.Begin n (request_of p))) begun (among p others) es Then → InTurn previous old others (Event.Begin n (request_of p) ∷ es) Then
    first_turn es Then previous others in_flight t =
        (begun, among p others, tt, (sector, bytes, p, under n p others refl, put_under n p others others refl (λ m apart. refl), b), λ honest whole. begins honest others in_flight, t)

    pub halts_write : (q : PendingView) (new : MirrorView) → HaltsOn Part.Marks p q begun new → HaltsWrite sector bytes old new
    halts_write q new h = record {
      begun = begun;
      request = p;
      begins = b;
      events = h.halts.goes.events;
      steps = subst (λ (c : Chunks). AllOf (IsOfRequest c p) h.halts.goes.events) chunks_are h.halts.goes.steps;
      mid = h.halts.mid;
      last = q;
      happens = λ previous others in_flight.
          first_turn h.halts.goes.events _ previous others in_flight (h.halts.goes.leads (Some (Event.Begin n (request_of p))) others (beside others in_flight));
      failing = h.halts.failing;
      of = subst (λ (c : Chunks). IsOfRequest c p h.halts.failing) chunks_are h.halts.of;
      rounds = h.rounds;
      halts = h.halts.halts;
    }

    module _ (q : PendingView) (mid new : MirrorView) (g : IsReadyToFinish p q begun mid) (f : Finishes mid new q) (finishes : FinishHappens mid new q) where
      same_n : q.ticket.number ≡ n
      same_n = ap (λ (x : PendingView). x.ticket.number) g.advances.later.request

      module _ (others : Requests) (in_flight : AreInFlight old.array others) where
        abbrev r : Request
        r = request_of p

        abbrev Ends : MirrorView → Requests → Type 0
        Ends m s = (m ≡ new) × (s ≡ others)

        none : others n ≡ None
        none = new_number others in_flight

        there : AreInFlight mid.array others
        there = fly_on begun.array mid.array g.advances.goes.array others (beside others in_flight)

        taken_out : IsPut n None (among q others) others
        taken_out = record { at = none; others = λ m apart. sym (written.beside q others m (λ here. apart (here ∙ same_n))) }

        last_does : AreHonest mid.disks → Does mid (among q others) (Event.Finish n) new others
        last_does honest =
            let rest : put n None others ≡ others = ap (λ (x : Option Request). put n x others) (sym none) ∙ put-self n others in
            subst (λ (x : Requests). Does mid (among q others) (Event.Finish n) new x) rest
            (subst (λ (i : ℕ). Does mid (among q others) (Event.Finish i) new (put i None others)) same_n (finishes honest others there))

        ends : (m : MirrorView) (s : Requests) → (m ≡ mid) × (s ≡ among q others) → (last : Option Event) → InTurn last m s (Event.Finish n ∷ []) Ends
        ends m s at last =
            subst (λ (x : MirrorView). InTurn last x s (Event.Finish n ∷ []) Ends) (sym at.0)
            (subst (λ (x : Requests). InTurn last mid x (Event.Finish n ∷ []) Ends) (sym at.1)
            (new, others, tt, (q, under n q others same_n, taken_out, f), λ honest whole. last_does honest, (refl, refl)))

        middle : InTurn (Some (Event.Begin n r)) begun (among p others) g.advances.goes.events (λ m s. (last : Option Event) → InTurn last m s (Event.Finish n ∷ []) Ends)
        middle = turn_then g.advances.goes.events (Some (Event.Begin n r)) begun (among p others) _ _ ends (g.advances.goes.leads (Some (Event.Begin n r)) others (beside others in_flight))

        abbrev in_turn : (previous : Option Event) → InTurn previous old others (events_of_write p g.advances.goes.events) Ends
        in_turn previous =
            first_turn (g.advances.goes.events ++ Event.Finish n ∷ []) Ends previous others in_flight
            (turn_on g.advances.goes.events (Event.Finish n ∷ []) (Some (Event.Begin n r)) begun (among p others) Ends middle)

        all_received : (previous : Option Event) → AreHonest old.disks → AllLeftWhole (events_of_write p g.advances.goes.events) previous old others Ends (in_turn previous) → HasReceived r old new others
        all_received previous honest whole =
            let shape = geometry_of old.array in
            let first = world_of old others in
            let does : Does old others (Event.Begin n r) begun (among p others) = begins honest others in_flight in
            let x = turn_through (IsOn shape n r first) (IsOfRequest begun.array.chunks p)
            (λ o s e m y of d is. on_step shape n (first_chunk begun.array.chunks p) (end_chunk begun.array.chunks p) r first o s e m y of d is)
            g.advances.goes.events (Event.Finish n ∷ []) (Some (Event.Begin n r)) begun (among p others) Ends middle g.advances.goes.steps does.honest
            (on_begin n r old others begun (among p others) does (distinct others)) whole.1 in
            subst (λ (m : MirrorView). HasReceived r old m others) x.rest.5.0
            (on_end n r old others x.mirror x.requests x.rest.0 x.kept
            (subst (λ (y : Requests). Does x.mirror x.requests (Event.Finish n) x.rest.0 y) x.rest.5.1 (x.rest.4 x.honest tt)))

        is_written : (previous : Option Event) → AreBytesWritten p g.advances.goes.events previous others old new
        is_written previous = record { done = in_turn previous; received = all_received previous }

      pub writes : Writes sector bytes old new
      writes = record {
        begun = begun;
        request = p;
        begins = b;
        events = g.advances.goes.events;
        steps = subst (λ (c : Chunks). AllOf (IsOfRequest c p) g.advances.goes.events) chunks_are g.advances.goes.steps;
        rounds = left_at Part.Marks Part.Bytes g.advances.goes.events g.advances.rounds;
        happens = λ previous others in_flight. is_written others in_flight previous;
        entries = ap (λ (x : ArrayView). x.requests.entries) f.array
            ∙ ap (λ xs. entries_without xs q.ticket.number) (ap (λ (x : InflightList Extent). x.entries) g.advances.goes.array.requests ∙ entries_are)
            ∙ ap (λ m. entries_without (old.array.requests.entries ++ (old.array.requests.next, record { start = sector; sectors = sectors }) ∷ []) m) (same_n ∙ number_is)
            ∙ without_last old.array.requests.next _ old.array.requests.entries b.fresh;
        resynced = ap (λ (x : ArrayView). x.resynced) f.array ∙ g.advances.goes.array.resynced ∙ resynced_is;
        recorded = λ i m at. g.recorded i m (ap (λ (x : ArrayView). slice_get x.members i) (sym f.array) ∙ at);
        marked = subst (HasMarked old.array sector sectors) (sym (ap (λ (x : ArrayView). x.marks) f.array ∙ g.advances.goes.array.marks)) b.marked;
      }

pub refused : (sector : ℕ) (bytes : List ℕ) (old new : MirrorView) (f : BeginFault) → RefusesBegin sector (length bytes / 512) old new f → RefusesWrite sector bytes old new f
refused sector bytes old new begin.Halted r = inl r
refused sector bytes old new begin.OutOfRange r = r
refused sector bytes old new (begin.Overlaps i) r = r
refused sector bytes old new begin.NotResynced r = r
refused sector bytes old new begin.EventsFull r = r
refused sector bytes old new begin.NumbersSpent r = r
refused sector bytes old new begin.NoMemory r = r
