-- Once resynced, each member in sync has the marks of memory stored, but for chunks of requests in flight; and every event keeps that.
use Rattle.std.proofs.Common.{◌≡◌, ◌≢◌, ℕ, ◌<◌, ◌≤◌, ◌+◌, ◌-◌, ◌*◌, ◌/◌, Bool, true, false, cond, ◌||◌, ⊎_elim, leb, refl, sym, ap, ◌∙◌, subst, true≢false, eqb, arith, List, [], ◌∷◌}
use Rattle.std.specs.Prelude.{Some, None, nat_lt}
use Rattle.std.proofs.lemmas.Bool.{leb-true, le-leb, and_from, and_parts}
use Rattle.std.proofs.Math.Nat.{div-mul-le_self, mul-div_cancel, mul-le-mul_right}
use Rattle.std.proofs.lemmas.Nat.{le-div}
use Rattle.md_model.specs.Sectors.{Geometry, chunk_of, block_of, put}
use Rattle.md_model.specs.States.{is_in_sync}
use Rattle.md_model.specs.Devices.{Super, Stored}
use Rattle.md_model.specs.Worlds.{Request, touches, World, IsInSync, IsInFlight}
use Rattle.md_model.specs.Counts.{risen}
use Rattle.md_model.specs.Steps.{begun, bits_after, entered, finished, marks_stored, member_written, recorded, touches_chunk, unmarked, with_device, MayBegin, MayFinish}
use Rattle.md_model.specs.Failures.{failed}
use Rattle.md_model.specs.Membership.{former_member, is_spare, joined, new_member, removed, skip, Newcomer}
use Rattle.md_model.specs.Rebuilding.{admitted, checkpointed, enrolled, is_target, MayEnrol}
use Rattle.md_model.specs.Listing.{log_stored, noted_bad}
use Rattle.md_model.specs.Events.{Event, Fails, Happens}
use Rattle.md_model.specs.Runs.{History, then_in, opening, Run, IsStart}
use Rattle.md_model.specs.Lives.{Always, IsNoted}
use Rattle.md_model.proofs.Cases.{by_test, never, none_some, some-injective, below-nat_lt, is_above}
use Rattle.md_model.proofs.Puts.{by_same, put-at, put-hit, put-miss}
use Rattle.md_model.proofs.Steps.Tracked.{IsFewer, IsTracked}
use Rattle.md_model.proofs.Steps.TrackedSteps.{fewer_recorded, fewer_failed, flights, other_flights}
use Rattle.md_model.proofs.Steps.Membership.{was_member}
use Rattle.md_model.proofs.Steps.Rebuilding.{fewer_admitted, fewer_checkpointed, fewer_log_stored, fewer_noted_bad, fewer_target, recovering_target, spare_target, was_in_sync}
use Rattle.md_model.proofs.Steps.Keeps.{kept_run, kept_step, IsKept}
use Rattle.md_model.proofs.Lives.Opened.{kept_opened}
use Rattle.md_model.proofs.Lives.Lives.{start_again}

-- a chunk that a request touches has a sector of it
sector_in : (g : Geometry) → 0 < g.width → (p : Request) → 0 < p.sectors → (c : ℕ) → touches_chunk g p c ≡ true → (s : ℕ) × (touches p s ≡ true) × (chunk_of g s ≡ c)
sector_in g wide p some c at = by_test (leb p.start (c * g.width)) whole first
  where
    end : ℕ
    end = (p.start + p.sectors) - 1

    from : p.start / g.width ≤ c
    from = leb-true (p.start / g.width) c (and_parts (leb (p.start / g.width) c) (leb c (((p.start + p.sectors) - 1) / g.width)) at).0

    to : c ≤ ((p.start + p.sectors) - 1) / g.width
    to = leb-true c (((p.start + p.sectors) - 1) / g.width) (and_parts (leb (p.start / g.width) c) (leb c (((p.start + p.sectors) - 1) / g.width)) at).1

    within : c * g.width < p.start + p.sectors
    within =
        let x = mul-le-mul_right g.width to in
        let y = div-mul-le_self ((p.start + p.sectors) - 1) g.width in
        omega arith

    whole : leb p.start (c * g.width) ≡ true → (s : ℕ) × (touches p s ≡ true) × (chunk_of g s ≡ c)
    whole low = (
      c * g.width,
      and_from (leb p.start (c * g.width)) (nat_lt (c * g.width) (p.start + p.sectors)) low (below-nat_lt (c * g.width) (p.start + p.sectors) within),
      mul-div_cancel c wide,
    )

    first : leb p.start (c * g.width) ≡ false → (s : ℕ) × (touches p s ≡ true) × (chunk_of g s ≡ c)
    first high =
        let above : c * g.width < p.start = is_above p.start (c * g.width) high in
        let most : c ≤ p.start / g.width = le-div c p.start g.width wide (omega arith) in
        let least = from in (
          p.start,
          and_from (leb p.start p.start) (nat_lt p.start (p.start + p.sectors)) (le-leb p.start p.start (omega arith)) (below-nat_lt p.start (p.start + p.sectors) (omega arith)),
          (let e : p.start / g.width ≡ c = omega arith in e),
        )

-- no request in flight touches the chunk
abbrev IsQuietChunk : Geometry → World → ℕ → Type 0
IsQuietChunk g w c = (n : ℕ) (p : Request) → IsInFlight w n p → touches_chunk g p c ≡ false

pub record HasNoted (g : Geometry) (w : World) : Type 0 where
  pub some : (n : ℕ) (p : Request) → IsInFlight w n p → 0 < p.sectors
  pub noted : w.resynced ≡ true → (c : ℕ) → w.marks c ≡ true → IsQuietChunk g w c → (i : ℕ) → IsInSync w i → w.known i c ≡ true

module _ (g : Geometry) (wide : 0 < g.width) where
  noted_fewer : (w w' : World) → IsFewer w w' → HasNoted g w → HasNoted g w'
  noted_fewer w w' f t = record {
    some = λ n p e. t.some n p (sym (ap (λ h. h n) f.request) ∙ e);
    noted = λ r c m q i on. ap (λ h. h i c) f.known
        ∙ t.noted (sym f.resynced ∙ r) c (sym (ap (λ h. h c) f.marks) ∙ m) (λ n p e. q n p (ap (λ h. h n) f.request ∙ e)) i (f.in_sync i on);
  }

  noted_fails : (w : World) (k : ℕ) (left : Stored) (w' : World) → Fails g w k left w' → HasNoted g w → HasNoted g w'
  noted_fails w k left w' f t = subst (HasNoted g) (sym f.3) (noted_fewer w (failed g (with_device w k left) k f.0) (fewer_failed g w k left f.0) t)

  noted_target : (w : World) (k : ℕ) (left : Stored) → is_target (w.state k) ≡ true → (w' : World) → w' ≡ with_device w k left → HasNoted g w → HasNoted g w'
  noted_target w k left out w' is t = subst (HasNoted g) (sym is) (noted_fewer w (with_device w k left) (fewer_target w k left out) t)

  noted_entered : (w : World) (n : ℕ) (p : Request) → MayBegin g w n p → HasNoted g w → HasNoted g (entered g w n p)
  noted_entered w n p may t = record {
    some = λ m q e. ⊎_elim (λ (x : (m ≡ n) × (p ≡ q)). subst (λ (o : Request). 0 < o.sectors) x.1 may.some) (λ (x : (m ≢ n) × IsInFlight w m q). t.some m q x.1) (flights w n p m q e);
    noted = λ r c m q i on. t.noted may.resynced c (marked c m q)
        (λ o x e. q o x (put-miss n (Some p) w.request o (λ same. none_some x (sym may.new ∙ sym (ap w.request same) ∙ e)) ∙ e)) i on;
  }
    where
      was_on : (a b : Bool) → (a || b) ≡ true → b ≡ false → a ≡ true
      was_on true b e off = refl
      was_on false b e off = absurd (true≢false (sym e ∙ off))

      marked : (c : ℕ) → (w.marks c || touches_chunk g p c) ≡ true → IsQuietChunk g (entered g w n p) c → w.marks c ≡ true
      marked c m q = was_on (w.marks c) (touches_chunk g p c) m (q n p (put-hit n (Some p) w.request))

  noted_begun : (w : World) (n : ℕ) (p : Request) (rises full : Bool) → MayBegin g w n p → HasNoted g w → HasNoted g (begun g w n p rises full)
  noted_begun w n p true full may t =
      let x = noted_entered w n p may t in record { some = x.some; noted = x.noted }
  noted_begun w n p false full may t =
      let x = noted_entered w n p may t in record { some = x.some; noted = x.noted }

  noted_marks_stored : (w : World) (k b : ℕ) → HasNoted g w → HasNoted g (marks_stored w k b)
  noted_marks_stored w k b t = record {
    some = t.some;
    noted = λ r c m q i on. put-at k (bits_after w b (w.known k)) w.known i (λ (f : ℕ → Bool). f c ≡ true)
        (λ here. by_test (eqb (block_of c) b)
        (λ at. ap (λ x. cond x (w.marks c) (w.known k c)) at ∙ m)
        (λ off. ap (λ x. cond x (w.marks c) (w.known k c)) off ∙ ap (λ j. w.known j c) (sym here) ∙ t.noted r c m q i on))
        (λ _. t.noted r c m q i on);
  }

  noted_written : (w : World) (n : ℕ) (p : Request) (k : ℕ) → IsInFlight w n p → HasNoted g w → HasNoted g (member_written w n p k)
  noted_written w n p k in_flight t = record {
    some = λ m q e. ⊎_elim
        (λ (x : (m ≡ n) × (now ≡ q)). subst (λ (o : Request). 0 < o.sectors) x.1 (t.some n p in_flight))
        (λ (x : (m ≢ n) × IsInFlight w m q). t.some m q x.1) (flights w n now m q e);
    noted = λ r c m q i on. t.noted r c m (λ o x e. by_same o n
        (λ same. subst (λ (y : Request). touches_chunk g y c ≡ false) (some-injective p x (sym in_flight ∙ sym (ap w.request same) ∙ e)) (q n now (put-hit n (Some now) w.request)))
        (λ apart. q o x (put-miss n (Some now) w.request o apart ∙ e))) i on;
  }
    where
      now : Request
      now = record p { written = put (w.number k) true p.written }

  noted_finished : (w : World) (n : ℕ) (p : Request) → IsTracked g w → MayFinish w n p → HasNoted g w → HasNoted g (finished w n)
  noted_finished w n p tracked may t = record {
    some = λ m q e. t.some m q (other_flights w n m q e).1;
    noted = λ r c m q i on. by_test (touches_chunk g p c)
        (λ at. let x = sector_in g wide p (t.some n p may.in_flight) c at in
        tracked.known i c on ∙ subst (λ y. (w.stored i).bits y ≡ true) x.2 (tracked.noted n p i x.0 may.in_flight on (may.written i on) x.1))
        (λ off. t.noted r c m (λ o x e. by_same o n
        (λ same. subst (λ (y : Request). touches_chunk g y c ≡ false) (some-injective p x (sym may.in_flight ∙ sym (ap w.request same) ∙ e)) off)
        (λ apart. q o x (put-miss n None w.request o apart ∙ e))) i on);
  }

  noted_unmarked : (w : World) (x : ℕ) → HasNoted g w → HasNoted g (unmarked w x)
  noted_unmarked w x t = record {
    some = t.some;
    noted = λ r c. put-at x false w.marks c (λ m. m ≡ true → IsQuietChunk g w c → (i : ℕ) → IsInSync w i → w.known i c ≡ true)
        (λ _ off. absurd (true≢false (sym off))) (λ _ m. t.noted r c m);
  }

  noted_removed : (w : World) (k : ℕ) (spare full : Bool) → HasNoted g w → HasNoted g (removed g w k spare full)
  noted_removed w k true full t = record { some = t.some; noted = λ r c m q i. t.noted r c m q (skip k i) }
  noted_removed w k false full t = record { some = t.some; noted = λ r c m q i. t.noted r c m q (skip k i) }

  noted_joined : (w : World) (n : Newcomer) (full : Bool) → is_in_sync n.state ≡ false → HasNoted g w → HasNoted g (joined (risen g w full) n)
  noted_joined w n full out t = record {
    some = t.some;
    noted = λ r c m q i on. let x = was_member (risen g w full) n out i on in
        ap (λ (f : ℕ → Bool). f c) (put-miss w.members n.device.bits w.known i x.0) ∙ t.noted r c m q i x.1;
  }

  noted_enrolled : (w : World) (k role : ℕ) (listed : ℕ → Bool) (full : Bool) → MayEnrol g w k role listed → HasNoted g w → HasNoted g (enrolled g w k role listed full)
  noted_enrolled w k role listed full may t = record {
    some = t.some;
    noted = λ r c m q i on. by_same i k
        (λ here. ap (λ j. put k w.marks w.known j c) here ∙ ap (λ (f : ℕ → Bool). f c) (put-hit k w.marks w.known) ∙ m)
        (λ apart. ap (λ (f : ℕ → Bool). f c) (put-miss k w.marks w.known i apart) ∙ t.noted r c m q i (was_in_sync g w k role listed full may i apart on));
  }

  noted_step : (w : World) (e : Event) (w' : World) → IsTracked g w → HasNoted g w → Happens g w e w' → HasNoted g w'
  noted_step w (Event.Begin n p) w' _ t s = subst (HasNoted g) (sym s.5) (noted_begun w n p s.0 s.1 s.2 t)
  noted_step w (Event.Record k) w' _ t s = subst (HasNoted g) (sym s.3) (noted_fewer w (recorded w k s.0) (fewer_recorded w k s.0 s.1) t)
  noted_step w (Event.StoreMarks k b) w' _ t s = subst (HasNoted g) (sym s.1) (noted_marks_stored w k b t)
  noted_step w (Event.WriteMember n k) w' _ t s = subst (HasNoted g) (sym s.2) (noted_written w n s.0 k s.1.in_flight t)
  noted_step w (Event.Finish n) w' tracked t s = subst (HasNoted g) (sym s.2) (noted_finished w n s.0 tracked s.1 t)
  noted_step w (Event.ClearIdle c) w' _ t s = subst (HasNoted g) (sym s.1) (noted_unmarked w c t)
  noted_step w (Event.Fail k) w' _ t s = noted_fails w k (w.stored k) w' s.1 t
  noted_step w (Event.WriteFails k part) w' _ t s = noted_fails w k s.0 w' s.2 t
  noted_step w (Event.Copy from k x) w' _ t s = subst (HasNoted g) (sym s.1) (record { some = t.some; noted = t.noted })
  noted_step w Event.Resynced w' _ t s = subst (HasNoted g) (sym s.1) (record { some = t.some; noted = λ _ c m _ i on. s.0.stored i c on m })
  noted_step w Event.Unresynced w' _ t s = subst (HasNoted g) (sym s.1) (record { some = t.some; noted = λ r. absurd (true≢false (sym r)) })
  noted_step w Event.MakeClean w' _ t s = subst (HasNoted g) (sym s.3) (record { some = t.some; noted = t.noted })
  noted_step w (Event.Remove k) w' _ t s = subst (HasNoted g) (sym s.3) (noted_removed w k (is_spare (w.state k)) s.0 t)
  noted_step w (Event.Add d left) w' _ t s = subst (HasNoted g) (sym s.4) (noted_joined w (new_member d left) s.0 refl t)
  noted_step w (Event.ReAdd own offset device left) w' _ t s = subst (HasNoted g) (sym s.4) (noted_joined w (former_member own offset left) s.0 refl t)
  noted_step w (Event.LowerOffset k x) w' _ t s = subst (HasNoted g) (sym s.1) (record { some = t.some; noted = t.noted })
  noted_step w (Event.Fill k) w' _ t s = noted_target w k s.0 s.1.rebuild.target w' s.3 t
  noted_step w (Event.Prepare k) w' _ t s = noted_target w k s.0 s.1.target w' s.3 t
  noted_step w (Event.RecordTargetFails k) w' _ t s = noted_target w k s.0 s.1.0 w' s.1.2 t
  noted_step w (Event.SpoilTarget k) w' _ t s = noted_target w k s.0 s.1.0 w' s.1.2 t
  noted_step w (Event.Enrol k role listed) w' _ t s = subst (HasNoted g) (sym s.3) (noted_enrolled w k role listed s.0 s.1 t)
  noted_step w (Event.Admit k role listed) w' _ t s = subst (HasNoted g) (sym s.3)
      (noted_fewer w (admitted g w k role listed s.0) (fewer_admitted g w k role listed s.0 (spare_target (w.state k) s.1.spare)) t)
  noted_step w (Event.Checkpoint k offset listed) w' _ t s = subst (HasNoted g) (sym s.1)
      (noted_fewer w (checkpointed w k offset listed) (fewer_checkpointed w k offset listed (recovering_target (w.state k) s.0.recovering)) t)
  noted_step w (Event.NoteBad k more) w' _ t s = subst (HasNoted g) (sym s.1) (noted_fewer w (noted_bad g w k more) (fewer_noted_bad g w k more) t)
  noted_step w (Event.StoreLog k listed) w' _ t s = subst (HasNoted g) (sym s.2) (noted_fewer w (log_stored w k listed) (fewer_log_stored w k listed s.1) t)

noted_opened : (g : Geometry) (first : Super) (w : World) → IsStart g first w → HasNoted g w
noted_opened g first w start = let o = start.opening in record {
  some = λ n p e. absurd (none_some p (sym (o.none_in_flight n) ∙ e));
  noted = λ r c m _ i on. ⊎_elim
      (λ (none : (c : ℕ) → w.marks c ≡ false). never (w.marks c) m (none c))
      (λ (one : (j k : ℕ) → IsInSync w j → IsInSync w k → j ≡ k).
      let x = (o.marks.union c).0 m in
      o.marks.known i c on ∙ subst (λ j. (w.stored j).bits c ≡ true) (one x.0 i x.1 on) x.2)
      (o.marks.resynced.0 r);
}

noted_run : (g : Geometry) (opened : Super) (w : World) → IsStart g opened w → (es : List Event) (h last : History) → IsKept g opened h → HasNoted g h.now → Run g h es last → HasNoted g last.now
noted_run g opened w start [] h last kept t r = subst (λ (x : History). HasNoted g x.now) (sym r) t
noted_run g opened w start (e ∷ es) h last kept t r =
    noted_run g opened w start es (then_in h e r.0) last (kept_step g start.small opened h e r.0 kept r.1)
    (noted_step g start.small.wide h.now e r.0 kept.tracked t r.1.1) r.2

pub always_noted : Always IsNoted
always_noted g opened w start es [] final last life = λ r idle i c on m.
    (noted_run g opened w start es (opening w) last (kept_opened g opened w start) (noted_opened g opened w start) life.1).noted r c m
    (λ n p e. absurd (none_some p (sym (idle n) ∙ e))) i on
always_noted g opened w start es (more ∷ rest) final last life =
    let kept = kept_run g start.small opened es (opening w) life.0 (kept_opened g opened w start) life.3 in
    always_noted g life.1 life.2 (start_again g opened life.0 life.1 life.2 start.small kept life.4) more rest final last life.5
