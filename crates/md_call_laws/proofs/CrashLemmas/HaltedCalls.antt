-- A write that halted the mirror, and that was left done or not done: what was left stands on the devices before it, or after the same step done.
use Rattle.std.proofs.Common.{◌≡◌, ◌⊎◌, ◌∙◌, inl, inr, ℕ, Bool, true, false, List, [], ◌∷◌, ◌++◌, Option, Some, None, refl, sym, ap, subst}
use Rattle.std.proofs.lemmas.List.{append-nil}
use Rattle.md_model.specs.Events.{Event, MemberPart}
use Rattle.md_state.specs.Requests.{among}
use Rattle.md_state.specs.View.{Disk, MirrorView}
use Rattle.md_array.specs.Events.{Happens, listed_on}
use Rattle.md_array.specs.InTurn.{AllLeftWhole, HaltsAt, InTurn, Requests}
use Rattle.md_laws.specs.Left.{IsLeftByCrash, contents_of}
use Rattle.md_laws.specs.Runs.{MirrorRun, Moment, then_as}
use Rattle.md_laws.specs.CallCrashes.{IsLeftHalting, IsCrashOf}
use Rattle.md_laws.specs.CopyCrashes.{copies_at}
use Rattle.md_laws.specs.CrashesWithin.{MayAllBeLeft}
use Rattle.md_laws.proofs.Runs.CallRuns.{call_is_run}
use Rattle.md_laws.proofs.Runs.Moments.{IsSoundAt, life_keeps, run_keeps, run_then, sound_when_opened}
use Rattle.md_laws.proofs.Runs.ReadTurns.{reading_call_is_run}
use Rattle.md_laws.proofs.Runs.Rests.{at_once, at_rest}
use Rattle.md_laws.proofs.Crashes.HaltedWrites.{crashes_at_halted_log, crashes_at_halted_marks}
use Rattle.md_laws.proofs.Crashes.CallCrashes.{crashes_at_halts}
use Rattle.md_laws.proofs.Crashes.CopyCrashes.{crashes_at_halted_copies}
use Rattle.md_metadata.specs.Storing.{IsStoring}
use Rattle.md_metadata.specs.Stopping.{IsStoringIf, clears_marks}
use Rattle.md_resync.specs.Resyncing.{IsOfResync}
use Rattle.md_resync.specs.Telling.{IsTelling}
use Rattle.md_resync.proofs.ToldRuns.{at_told, told_run, told_sound}
use Rattle.md_write.proofs.WriteCrashes.{crashes_halting_write}
use Rattle.md_write.specs.WriteCrashes.{begun_events}
use Rattle.md_write.specs.Writing.{HaltsWrite}
use Rattle.md_call_laws.specs.Crashes.HaltedCalls.{IsInstead, IsLeftByHalt, IsLeftSince, IsCrashAtHalt, CrashesAtEachHalt, CrashesAtHaltedResync, CrashesAtHaltedStop, CrashesAtHaltedWrite, CrashesAtUntoldResync}
use Rattle.md_call_laws.proofs.CrashLemmas.Agreement.{no_records}
use Rattle.md_call_laws.proofs.CrashLemmas.ToldAfter.{HasPair, halting_pair, member_of, told_asked, told_at, told_mirror, told_within}

-- nothing is asked of copies
copies_whole : (from k : ℕ) (ss : List ℕ) (previous : Option Event) (old : MirrorView) (before : Requests) (Then : MirrorView → Requests → Type 0)
    (t : InTurn previous old before (copies_at from k ss) Then) → AllLeftWhole (copies_at from k ss) previous old before Then t
copies_whole from k [] previous old before Then t = tt
copies_whole from k (s ∷ ss) previous old before Then t = (tt, copies_whole from k ss (Some (Event.Copy from k s)) t.0 t.1 Then t.5)

-- a write of a request's bytes
abbrev IsData : Event → Type 0
IsData (Event.WriteFails k (MemberPart.RequestData n)) = Unit {0}
IsData e = ⊥

-- ---- at the moment of the write
-- the step was done in its place, and what was left stands on the devices
record GoesInstead (failing : Event) (t : Moment) (left : List Disk) : Type 0 where
  instead : List Event
  is_instead : IsInstead failing instead
  at : Moment
  run : MirrorRun t instead at
  contents : contents_of left ≡ contents_of at.mirror.disks

module _ (t : Moment) (at : IsSoundAt t) (new : MirrorView) (left : List Disk) (within : MayAllBeLeft t.mirror.disks new.disks (contents_of left)) where
  one_step : (failing e : Event) → IsInstead failing (e ∷ []) → (other : MirrorView) → Happens t.mirror e other → contents_of other.disks ≡ contents_of left → GoesInstead failing t left
  one_step failing e is other happens same =
      let next = then_as t e other t.requests in
      record {
        instead = e ∷ [];
        is_instead = is;
        at = next;
        run = (other, t.requests, at_once t.mirror other t.requests t.requests e (happens at.honest t.requests at.in_flight), at_rest next);
        contents = sym same;
      }

  by_halt : (failing : Event) (h : HaltsAt t.mirror t.requests failing new) → IsLeftByHalt failing t.mirror new t.requests h left → IsData failing ⊎ (IsLeftByCrash t left ⊎ GoesInstead failing t left)
  by_halt (Event.WriteFails k MemberPart.Superblock) h asked = inr (inl (inr (inr (inr (inl (record { on = k; next = new; call = inr (inr (inl h)); within = within; super = asked }))))))
  by_halt (Event.WriteFails k (MemberPart.RequestData n)) h asked = inl tt
  by_halt (Event.WriteFails k (MemberPart.BitmapSector b)) h asked = elim (crashes_at_halted_marks k b t.mirror new (contents_of left) at.sound at.honest h.may.inside h within asked) [
    | inl same ↦ inr (inl (inl same))
    | inr after ↦ inr (inr (one_step (Event.WriteFails k (MemberPart.BitmapSector b)) (Event.StoreMarks k b) refl after.0 after.1.1 after.2))
  ]
  by_halt (Event.WriteFails k MemberPart.Log) h asked = elim (crashes_at_halted_log k t.mirror new (contents_of left) at.sound at.honest h h.canonical within asked) [
    | inl same ↦ inr (inl (inl same))
    | inr after ↦ inr (inr (one_step (Event.WriteFails k MemberPart.Log) (Event.StoreLog k (listed_on after.0 k)) (listed_on after.0 k, refl) after.0 after.1.1 after.2))
  ]
  by_halt (Event.WriteFails k (MemberPart.CopiedSectors s n)) h asked =
      let part = crashes_at_halted_copies k s n t.mirror new (contents_of left) at.sound at.honest h within asked in
      let es = copies_at part.from k part.sectors in
      let leads = part.leads None t.requests at.in_flight in
      let run = call_is_run es None t part.mid t.requests leads at.honest (copies_whole part.from k part.sectors None t.mirror t.requests (λ m q. (m ≡ part.mid) × (q ≡ t.requests)) leads) in
      inr (inr (record {
        instead = es;
        is_instead = (part.from, part.sectors, refl);
        at = run.0;
        run = run.1;
        contents = sym part.contents ∙ ap (λ (v : MirrorView). contents_of v.disks) (sym run.2.0);
      }))
  by_halt e h asked = absurd h

-- ---- behind a list of events
module _ (es : List Event) (t : Moment) (at : IsSoundAt t) (mid : MirrorView) (between : Requests)
    (reaches : (last : Moment) × MirrorRun t es last × ((last.mirror ≡ mid) × (last.requests ≡ between))) where
  abbrev last : Moment
  last = record reaches.0 { mirror = mid; requests = between }

  run : MirrorRun t es last
  run = subst (MirrorRun t es) (λ i. record reaches.0 { mirror = reaches.2.0 i; requests = reaches.2.1 i }) reaches.1

  sound : IsSoundAt last
  sound = run_keeps es t last run at

  -- a crash within that write
  within_halt : (failing : Event) (new : MirrorView) (h : HaltsAt mid between failing new) (left : List Disk) → MayAllBeLeft mid.disks new.disks (contents_of left)
      → IsLeftByHalt failing mid new between h left → (IsData failing → IsCrashOf es t left) → IsCrashAtHalt es failing t left
  within_halt failing new h left within asked stops = elim (by_halt last sound new left within failing h asked) [
    | inl is ↦ inl (stops is)
    | inr (inl is_left) ↦ inl (record { done = es; rest = []; order = sym (append-nil es); at = last; run = run; is_left = is_left })
    | inr (inr so) ↦ inr (record { instead = so.instead; is_instead = so.is_instead; at = so.at; run = run_then es so.instead t last so.at run so.run; is_left = inl so.contents })
  ]

  -- or one after it, as if the device told of what stands there then
  behind : (failing : Event) (new : MirrorView) (h : HaltsAt mid between failing new) (left : List Disk) → IsLeftSince mid.disks new.disks left → IsLeftByHalt failing mid new between h left
      → ((other : MirrorView) (g : HaltsAt mid between failing other) → MayAllBeLeft mid.disks other.disks (contents_of left) → IsData failing → IsCrashOf es t left) → IsCrashAtHalt es failing t left
  behind failing new h left (inl within) asked stops = within_halt failing new h left within asked (stops new h within)
  behind failing new h left (inr after) asked stops =
      let p = halting_pair mid new sound.sound failing between h in
      let g = told_at mid new failing p between h in
      let within = subst (MayAllBeLeft mid.disks (told_mirror (member_of failing) mid new p).disks) (sym after) (told_within mid new failing p between h) in
      within_halt failing (told_mirror (member_of failing) mid new p) g left within (told_asked mid new failing p between h left asked) (stops (told_mirror (member_of failing) mid new p) g within)

-- of data nothing is asked
data_any : (failing : Event) (v : MirrorView) (left : List Disk) → IsData failing → IsLeftHalting failing v left
data_any (Event.WriteFails k (MemberPart.RequestData n)) v left is = tt
data_any e v left is = absurd is

-- ---- at a moment of a life
pub crashes_at_each_halt : CrashesAtEachHalt
crashes_at_each_halt before m start events rest final t life es previous mid between leads all failing new h whole left since asked =
    let at = life_keeps m events rest final t (sound_when_opened before m start.honest start.opened) life in
    behind es t at mid between (call_is_run es previous t mid between leads at.honest all) failing new h left since asked
    (λ other g within is. crashes_at_halts before m start events rest final t life es previous mid between leads all failing other g whole left within (data_any failing mid left is))

-- a `write` that was halted, whose devices tell of what stands there after it
module _ (t : Moment) (sector : ℕ) (bytes : List ℕ) (new : MirrorView) (h : HaltsWrite sector bytes t.mirror new) (p : HasPair (member_of h.failing) h.mid.disks new.disks) where
  abbrev told_write : HaltsWrite sector bytes t.mirror (told_mirror (member_of h.failing) h.mid new p)
  told_write = record {
    begun = h.begun;
    request = h.request;
    begins = h.begins;
    events = h.events;
    steps = h.steps;
    mid = h.mid;
    last = h.last;
    happens = h.happens;
    failing = h.failing;
    of = h.of;
    rounds = h.rounds;
    halts = λ others. told_at h.mid new h.failing p (among h.last others) (h.halts others);
  }

pub crashes_at_halted_write : CrashesAtHaltedWrite
crashes_at_halted_write before m start events rest final t life sector bytes new whole h in_flight all left since asked =
    let at = life_keeps m events rest final t (sound_when_opened before m start.honest start.opened) life in
    let es = begun_events h in
    let between = among h.last t.requests in
    let reaches = call_is_run es None t h.mid between (h.happens None t.requests in_flight) at.honest all in
    elim since [
      | inl within ↦
          within_halt es t at h.mid between reaches h.failing new (h.halts t.requests) left within asked
          (λ is. crashes_halting_write before m start events rest final t life sector bytes new whole h in_flight all left within (data_any h.failing h.mid left is))
      | inr after ↦
          let p = halting_pair h.mid new (sound es t at h.mid between reaches).sound h.failing between (h.halts t.requests) in
          let then = told_mirror (member_of h.failing) h.mid new p in
          let within = subst (MayAllBeLeft h.mid.disks then.disks) (sym after) (told_within h.mid new h.failing p between (h.halts t.requests)) in
          within_halt es t at h.mid between reaches h.failing then (told_at h.mid new h.failing p between (h.halts t.requests)) left within
          (told_asked h.mid new h.failing p between (h.halts t.requests) left asked)
          (λ is. crashes_halting_write before m start events rest final t life sector bytes then whole (told_write t sector bytes new h p) in_flight all left within (data_any h.failing h.mid left is))
    ]

-- a `stop` writes no data,
no_data_stored : (e : Event) → IsStoring e → IsData e → ⊥
no_data_stored (Event.WriteFails k (MemberPart.RequestData n)) of is = of
no_data_stored e of is = is

no_data_if : (b : Bool) (e : Event) → IsStoringIf b e → IsData e → ⊥
no_data_if true e of is = no_data_stored e of is
no_data_if false (Event.WriteFails k (MemberPart.RequestData n)) of is = of
no_data_if false e of is = is

pub crashes_at_halted_stop : CrashesAtHaltedStop
crashes_at_halted_stop before m start events rest final t life new h in_flight all left since asked =
    let at = life_keeps m events rest final t (sound_when_opened before m start.honest start.opened) life in
    behind h.goes.events t at h.halts.mid t.requests (call_is_run h.goes.events None t h.halts.mid t.requests (h.goes.leads None t.requests in_flight) at.honest all)
    h.halts.failing new (h.halts.halts t.requests) left since asked
    (λ other g within is. absurd (no_data_if (clears_marks t.mirror.array) h.halts.failing h.halts.of is))

-- and neither does a resync
no_data_copied : (e : Event) → IsOfResync e → IsData e → ⊥
no_data_copied (Event.WriteFails k (MemberPart.RequestData n)) of is = of
no_data_copied e of is = is

pub crashes_at_halted_resync : CrashesAtHaltedResync
unfolding at_told
crashes_at_halted_resync before m start events rest final t life new h left since asked =
    let at = life_keeps m events rest final t (sound_when_opened before m start.honest start.opened) life in
    let there = at_told t at h.told h.tells in
    let sound_there = told_sound t at h.told h.tells in
    let es = h.then.goes.events in
    let reaches = reading_call_is_run es None there h.then.mid t.requests (h.then.goes.leads None t.requests sound_there.in_flight) (no_records es h.then.goes.steps) sound_there.honest in
    let whole = run_then h.tells.goes.events es t there reaches.0 (told_run t at h.told h.tells) reaches.1 in
    behind (h.tells.goes.events ++ es) t at h.then.mid t.requests (reaches.0, whole, reaches.2) h.then.failing new (h.then.halts t.requests) left since asked
    (λ other g within is. absurd (no_data_copied h.then.failing h.then.of is))

-- nor the superblocks before it
no_data_told : (e : Event) → IsTelling e → IsData e → ⊥
no_data_told (Event.WriteFails k (MemberPart.RequestData n)) of is = of
no_data_told e of is = is

pub crashes_at_untold_resync : CrashesAtUntoldResync
crashes_at_untold_resync before m start events rest final t life new h in_flight all left since asked =
    let at = life_keeps m events rest final t (sound_when_opened before m start.honest start.opened) life in
    let halts = h.halts.halts in
    behind halts.goes.events t at halts.mid t.requests (call_is_run halts.goes.events None t halts.mid t.requests (halts.goes.leads None t.requests in_flight) at.honest all)
    halts.failing new (halts.halts t.requests) left since asked
    (λ other g within is. absurd (no_data_told halts.failing halts.of is))
