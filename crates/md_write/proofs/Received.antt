-- What a write's events leave on the members.
use Rattle.std.proofs.Common.{◌≡◌, ◌≢◌, ℕ, Bool, true, false, cond, List, Option, Some, refl, sym, ap, ◌∙◌, subst}
use Rattle.md_model.specs.Sectors.{Geometry, put}
use Rattle.md_model.specs.States as model
use Rattle.md_model.specs.Devices.{Stored}
use Rattle.md_model.specs.Worlds.{Request, touches, World, IsInSync, IsInFlight}
use Rattle.md_model.specs.Steps.{begun, finished, marked_device, marks_stored, member_written, recorded, recorded_device, written_device, MayFinish}
use Rattle.md_model.specs.Failures.{failed}
use Rattle.md_model.specs.Events.{Event, MemberPart, Step}
use Rattle.md_model.proofs.Cases.{some-injective}
use Rattle.md_model.proofs.Puts.{by_same, put-at, put-hit, put-miss}
use Rattle.md_write.specs.Progress.{IsEventOf}

-- the members in sync have the bytes, and other sectors are as before
pub record HasBytes (p : Request) (before after : World) : Type 0 where
  pub bytes : (k s : ℕ) → IsInSync after k → touches p s ≡ true → (after.stored k).content s ≡ p.bytes s
  pub others : (k s : ℕ) → touches p s ≡ false → (after.stored k).content s ≡ (before.stored k).content s

-- so far
pub record IsReceiving (n : ℕ) (p : Request) (first w : World) : Type 0 where
  pub request : (q : Request) → IsInFlight w n q → q ≡ record p { written = q.written }
  pub written : (q : Request) → IsInFlight w n q → (k s : ℕ) → IsInSync w k → q.written (w.number k) ≡ true → touches p s ≡ true → (w.stored k).content s ≡ p.bytes s
  pub others : (k s : ℕ) → touches p s ≡ false → (w.stored k).content s ≡ (first.stored k).content s
  pub distinct : (j k : ℕ) → IsInSync w j → IsInSync w k → w.number j ≡ w.number k → j ≡ k

module _ (n : ℕ) (p : Request) (first w : World) (is : IsReceiving n p first w) where
  -- the devices' contents, the requests and who is in sync are as before, but perhaps for a member that is out now
  same_content : (u : World) → ((k s : ℕ) → IsInSync u k → (u.stored k).content s ≡ (w.stored k).content s) → ((k s : ℕ) → touches p s ≡ false → (u.stored k).content s ≡ (w.stored k).content s)
      → u.request ≡ w.request → u.number ≡ w.number → ((k : ℕ) → IsInSync u k → IsInSync w k) → IsReceiving n p first u
  same_content u content outside request number fewer = record {
    request = λ q flight. is.request q (sym (ap (λ (f : ℕ → Option Request). f n) request) ∙ flight);
    written = λ q flight k s in_sync has there.
        content k s in_sync ∙ is.written q (sym (ap (λ (f : ℕ → Option Request). f n) request) ∙ flight) k s (fewer k in_sync) (sym (ap (λ (f : ℕ → ℕ). q.written (f k)) number) ∙ has) there;
    others = λ k s out. outside k s out ∙ is.others k s out;
    distinct = λ j k a b e. is.distinct j k (fewer j a) (fewer k b) (sym (ap (λ (f : ℕ → ℕ). f j) number) ∙ e ∙ ap (λ (f : ℕ → ℕ). f k) number);
  }

  -- a device whose content stays
  kept : (k : ℕ) (d : Stored) → d.content ≡ (w.stored k).content → (j s : ℕ) → (put k d w.stored j).content s ≡ (w.stored j).content s
  kept k d same j s = put-at k d w.stored j (λ (x : Stored). x.content s ≡ (w.stored j).content s)
      (λ here. ap (λ (f : ℕ → List ℕ). f s) same ∙ ap (λ i. (w.stored i).content s) (sym here)) (λ apart. refl)

  pub receives_marks : (k b : ℕ) → IsReceiving n p first (marks_stored w k b)
  receives_marks k b = same_content (marks_stored w k b) (λ j s in_sync. kept k (marked_device w k b) refl j s) (λ j s out. kept k (marked_device w k b) refl j s) refl refl (λ j x. x)

  pub receives_record : (k : ℕ) (listed : ℕ → Bool) → IsReceiving n p first (recorded w k listed)
  receives_record k listed =
      same_content (recorded w k listed) (λ j s in_sync. kept k (recorded_device w k listed) refl j s) (λ j s out. kept k (recorded_device w k listed) refl j s) refl refl (λ j x. x)

  -- member k failed, with its data as they were outside of the request's sectors
  still_in_sync : (k j : ℕ) → model.is_in_sync (put k model.State.Faulty w.state j) ≡ true → (j ≢ k) × (IsInSync w j)
  still_in_sync k j in_sync = by_same j k
      (λ same. absurd (let hit = put-hit k model.State.Faulty w.state in
      let there : model.is_in_sync model.State.Faulty ≡ true = subst (λ (x : model.State). model.is_in_sync x ≡ true) hit (subst (λ (i : ℕ). model.is_in_sync (put k model.State.Faulty w.state i) ≡ true) same in_sync) in
      cc))
      (λ apart. (apart, subst (λ (x : model.State). model.is_in_sync x ≡ true) (put-miss k model.State.Faulty w.state j apart) in_sync))

  pub receives_failure : (g : Geometry) (k : ℕ) (left : Stored) (full : Bool) → ((s : ℕ) → touches p s ≡ false → left.content s ≡ (w.stored k).content s)
      → IsReceiving n p first (failed g (record w { stored = put k left w.stored }) k full)
  receives_failure g k left full outside =
      same_content (failed g (record w { stored = put k left w.stored }) k full)
      (λ j s in_sync. let there = still_in_sync k j in_sync in ap (λ (x : Stored). x.content s) (put-miss k left w.stored j there.0))
      (λ j s out. put-at k left w.stored j (λ (x : Stored). x.content s ≡ (w.stored j).content s)
      (λ here. outside s out ∙ ap (λ i. (w.stored i).content s) (sym here)) (λ apart. refl))
      refl refl (λ j in_sync. (still_in_sync k j in_sync).1)

  touched : (b : Bool) (x y z : List ℕ) → (b ≡ true → x ≡ z) → (b ≡ false → y ≡ z) → cond b x y ≡ z
  touched true x y z f g = f refl
  touched false x y z f g = g refl

  same_touch : (q : Request) → q ≡ record p { written = q.written } → (s : ℕ) → touches q s ≡ touches p s
  same_touch q e s = ap (λ (x : Request). touches x s) e

  pub receives_data : (q : Request) (k : ℕ) → IsInFlight w n q → IsInSync w k → IsReceiving n p first (member_written w n q k)
  receives_data q k flight here =
      let e = is.request q flight in
      let r : Request = record q { written = put (w.number k) true q.written } in
      let is_r : (x : Request) → IsInFlight (member_written w n q k) n x → r ≡ x = λ x f. some-injective r x (sym (put-hit n (Some r) w.request) ∙ f) in
      record {
        request = λ x f. sym (is_r x f) ∙ ap (λ (y : Request). record y { written = r.written }) e ∙ ap (λ (y : Request). record p { written = y.written }) (is_r x f);
        written = λ x f j s in_sync has there.
            let has_r : put (w.number k) true q.written (w.number j) ≡ true = ap (λ (y : Request). y.written (w.number j)) (is_r x f) ∙ has in
            put-at k (written_device w k q) w.stored j (λ (d : Stored). d.content s ≡ p.bytes s)
            (λ same. ap (λ (b : Bool). cond b (q.bytes s) ((w.stored k).content s)) (same_touch q e s ∙ there) ∙ ap (λ (y : Request). y.bytes s) e)
            (λ apart. is.written q flight j s in_sync
            (sym (put-miss (w.number k) true q.written (w.number j) (λ alike. apart (is.distinct j k in_sync here alike))) ∙ has_r) there);
        others = λ j s out.
            put-at k (written_device w k q) w.stored j (λ (d : Stored). d.content s ≡ (w.stored j).content s)
            (λ same. ap (λ (b : Bool). cond b (q.bytes s) ((w.stored k).content s)) (same_touch q e s ∙ out) ∙ ap (λ i. (w.stored i).content s) (sym same))
            (λ apart. refl)
            ∙ is.others j s out;
        distinct = is.distinct;
      }

  pub receives_step : (g : Geometry) (low high : ℕ) (e : Event) (u : World) → IsEventOf n low high e → Step g w e u → IsReceiving n p first u
  receives_step g low high (Event.Record k) u of step = subst (IsReceiving n p first) (sym step.1.3) (receives_record k step.1.0)
  receives_step g low high (Event.LowerOffset k s) u of step =
      subst (IsReceiving n p first) (sym step.1.1) (record { request = is.request; written = is.written; others = is.others; distinct = is.distinct })
  receives_step g low high (Event.StoreMarks k b) u of step = subst (IsReceiving n p first) (sym step.1.1) (receives_marks k b)
  receives_step g low high (Event.WriteMember m k) u of step =
      let may = step.1.1 in
      subst (IsReceiving n p first) (sym (step.1.2 ∙ ap (λ (i : ℕ). member_written w i step.1.0 k) of))
      (receives_data step.1.0 k (ap w.request (sym of) ∙ may.in_flight) may.in_sync)
  receives_step g low high (Event.WriteFails k MemberPart.Superblock) u of step =
      let left = step.1.0 in
      subst (IsReceiving n p first) (sym step.1.2.3)
      (receives_failure g k left step.1.2.0 (λ s out. ap (λ (x : Stored). x.content s) step.1.1.rest))
  receives_step g low high (Event.WriteFails k (MemberPart.BitmapSector b)) u of step =
      let left = step.1.0 in
      subst (IsReceiving n p first) (sym step.1.2.3)
      (receives_failure g k left step.1.2.0 (λ s out. ap (λ (x : Stored). x.content s) step.1.1.1.rest))
  receives_step g low high (Event.WriteFails k (MemberPart.RequestData m)) u of step =
      let left = step.1.0 in
      let q = step.1.1.0 in
      let may = step.1.1.1 in
      let e = is.request q (ap w.request (sym of) ∙ may.in_flight) in
      subst (IsReceiving n p first) (sym step.1.2.3)
      (receives_failure g k left step.1.2.0 (λ s out. step.1.1.2.outside s (same_touch q e s ∙ out)))
  receives_step g low high e u of step = absurd of

  -- it is finished
  pub received : (q : Request) → MayFinish w n q → HasBytes p first (finished w n)
  received q may = record {
    bytes = λ k s in_sync there. is.written q may.in_flight k s in_sync (may.written k in_sync) there;
    others = is.others;
  }

stored_begun : (g : Geometry) (w : World) (n : ℕ) (p : Request) (rises full : Bool) → (begun g w n p rises full).stored ≡ w.stored
stored_begun g w n p true full = refl
stored_begun g w n p false full = refl

request_begun : (g : Geometry) (w : World) (n : ℕ) (p : Request) (rises full : Bool) → (begun g w n p rises full).request n ≡ Some p
request_begun g w n p true full = put-hit n (Some p) w.request
request_begun g w n p false full = put-hit n (Some p) w.request

-- it begins
pub receives_begin : (g : Geometry) (n : ℕ) (p : Request) (w u : World) → Step g w (Event.Begin n p) u → ((j k : ℕ) → IsInSync u j → IsInSync u k → u.number j ≡ u.number k → j ≡ k)
    → IsReceiving n p w u
receives_begin g n p w u step distinct =
    let it : u ≡ begun g w n p step.1.0 step.1.1 = step.1.5 in
    let is_p : (q : Request) → IsInFlight u n q → p ≡ q =
    λ q f. some-injective p q (sym (request_begun g w n p step.1.0 step.1.1) ∙ ap (λ (x : World). x.request n) (sym it) ∙ f) in
    record {
      request = λ q f. sym (is_p q f) ∙ ap (λ (x : Request). record p { written = x.written }) (is_p q f);
      written = λ q f k s in_sync has there.
          let none = step.1.2.unwritten (u.number k) in
          let same : p.written (u.number k) ≡ q.written (u.number k) = ap (λ (x : Request). x.written (u.number k)) (is_p q f) in
          absurd cc;
      others = λ k s out. ap (λ (x : World). (x.stored k).content s) it ∙ ap (λ (f : ℕ → Stored). (f k).content s) (stored_begun g w n p step.1.0 step.1.1);
      distinct = distinct;
    }
