-- A client is told of one content, which the members in sync hold.
use Rattle.std.proofs.Common.{◌≡◌, ◌∙◌, ◌⊎◌, inl, inr, ℕ, ◌+◌, ◌*◌, ◌%◌, Bool, true, false, List, [], ◌∷◌, ◌++◌, length, refl, sym, ap, subst, arith, true≢false}
use Rattle.std.proofs.lemmas.List.{append-nil, length-append}
use Rattle.std.proofs.lemmas.Option.{none-some}
use Rattle.md_model.specs.Content.{Content, HoldsAtRest}
use Rattle.md_model.specs.Devices.{Covered, Super}
use Rattle.md_model.specs.Events.{Event}
use Rattle.md_model.specs.Openings.{IsWithinLimits}
use Rattle.md_model.specs.Sectors.{Geometry}
use Rattle.md_model.specs.Worlds.{IsInSync, touches}
use Rattle.md_model.proofs.Lives.Safe.{covered_now}
use Rattle.md_faults.specs.declared.step_fault.BeginFault.{BeginFault}
use Rattle.md_faults.specs.declared.step_fault.BeginFault.TheVariants as begin
use Rattle.md_state.specs.Requests.{among}
use Rattle.md_state.specs.View.{MirrorView, geometry_of}
use Rattle.md_array.specs.InTurn.{Requests}
use Rattle.md_array.specs.Worlds.{AreHonest, none_in_flight, world_of}
use Rattle.md_array.proofs.StepLemmas.FailedParts.{halted_then}
use Rattle.md_laws.specs.Runs.{Moment, history_of}
use Rattle.md_laws.proofs.Runs.LeftBehind.{held_along}
use Rattle.md_laws.proofs.Runs.MirrorContents.{IsHeldAt}
use Rattle.md_metadata.specs.declared.stop_fault.StopFault.{StopFault}
use Rattle.md_metadata.specs.declared.stop_fault.StopFault.TheVariants as stop
use Rattle.md_metadata.specs.Stopping.{StopsMirror}
use Rattle.md_read.specs.declared.fault.UnreadFault.{UnreadFault}
use Rattle.md_read.specs.declared.fault.UnreadFault.TheVariants as unread
use Rattle.md_read.specs.Reading.{RefusesRead}
use Rattle.md_write.specs.Writing.{RefusesWrite}
use Rattle.md_nbd.specs.declared.export.Export.{Export}
use Rattle.md_nbd.specs.declared.reply.ErrorCode.TheVariants.{Io}
use Rattle.md_nbd.specs.declared.task.Task.{Task}
use Rattle.md_nbd.specs.declared.task.Task.TheVariants as task
use Rattle.md_nbd.specs.Export.{sector_bytes}
use Rattle.md_nbd.specs.NbdTasks.{task_of}
use Rattle.md_nbd.specs.SimpleReplies.{error_reply, success_reply}
use Rattle.md_nbd.specs.Server.Exchanges.{AnswersInTurn, AnswersRequest, DoesTask, Exchange, RepliesWithBytes}
use Rattle.md_serve_commands.specs.declared.writer.ArrayWriter.{ArrayWriter}
use Rattle.md_serve_commands.specs.Waiting.{ClearsMarks, FailsToClear, FailsToFlush, FailsToRead, FailsToTake, FailsWaiting, FlushesAll, JoinsWaiting, RunsOn, StillWaits, TakesWrite, WaitsAnew, WritesThrough, WritesWaiting, writer_store}
use Rattle.md_serve_commands.specs.Told.{IsForArray}
use Rattle.md_serve_commands.specs.Calls.{AreNone, GoesAlong, HaltsInCall, IsClearOf, IsClearOfHalt, SessionCall, calls_events, contents_after, none_there, request_with, with_write}
use Rattle.md_serve_commands.specs.Serving.{EndsCalls, IsDoneByCalls, MakesCalls, all_events, calls_of, clearing_call, done_at_once, done_behind, done_events, end_events, flushed_by, flushing_call, no_call, one_call, read_by, refused_by, running_call, task_by, through_by, uncleared_end, unflushed_by, ungiven_call, unread_by, unwritten_by, unwritten_end, waiting_call, written_by}
use Rattle.md_serve_commands.specs.Sessions.{AllServedWhole, AnswersAllAs, AnswersAs, HaltsInSession, HoldsTold, IsCoveredBetween, LeavesSector, ServedLeftWhole, TellsContent, WaitsBeside, WaitsWhole, session_events, with_waiting}
use Rattle.md_serve_commands.proofs.CallContents.{along_then, calls_along, same_along}
use Rattle.md_serve_commands.proofs.CrashedCalls.{AreWhole, IsWholeHalt, calls_settle}
use Rattle.md_serve_commands.proofs.Halted.{request_halted, session_halted}
use Rattle.md_serve_commands.proofs.HaltingRequests.{all_refused, halting_refused, refused_same}
use Rattle.md_serve_commands.proofs.JoinedWrites.{joined, joined_clear, none_clear, write_none}

abbrev pub Served : Type 0
Served = ArrayWriter × MirrorView

-- ---- what waits
waits_same : (old new : ArrayWriter) (a : Content) → StillWaits old new → with_waiting new a ≡ with_waiting old a
waits_same old new a h = ap (λ (l : List ℕ). with_write (new.start, l) a) h.run ∙ ap (λ (s : ℕ). with_write (s, old.run.items) a) h.start

pub waits_none : (w : ArrayWriter) (a : Content) → w.run.items ≡ [] → with_waiting w a ≡ a
waits_none w a none = ap (λ (l : List ℕ). with_write (w.start, l) a) none ∙ write_none w.start a

-- what waits then is this
waits_now : (w : ArrayWriter) (start : ℕ) (bytes : List ℕ) (a : Content) → w.start ≡ start → w.run.items ≡ bytes → with_waiting w a ≡ with_write (start, bytes) a
waits_now w start bytes a from run = ap (λ (l : List ℕ). with_write (w.start, l) a) run ∙ ap (λ (s : ℕ). with_write (s, bytes) a) from

beside_same : (old new : ArrayWriter) → StillWaits old new → (s : ℕ) → WaitsBeside old s → WaitsBeside new s
beside_same old new h s off =
    ap (λ (l : List ℕ). touches (request_with (new.start, l)) s) h.run ∙ ap (λ (n : ℕ). touches (request_with (n, old.run.items)) s) h.start ∙ off

beside_now : (w : ArrayWriter) (start : ℕ) (bytes : List ℕ) → w.start ≡ start → w.run.items ≡ bytes → (s : ℕ) → touches (request_with (start, bytes)) s ≡ false → WaitsBeside w s
beside_now w start bytes from run s off =
    ap (λ (l : List ℕ). touches (request_with (w.start, l)) s) run ∙ ap (λ (n : ℕ). touches (request_with (n, bytes)) s) from ∙ off

pub beside_none : (w : ArrayWriter) → w.run.items ≡ [] → (s : ℕ) → WaitsBeside w s
beside_none w none s = ap (λ (l : List ℕ). touches (request_with (w.start, l)) s) none ∙ none_clear w.start s

whole_same : (old new : ArrayWriter) → StillWaits old new → WaitsWhole old → WaitsWhole new
whole_same old new h whole = ap (λ (l : List ℕ). length l % 512) h.run ∙ whole

pub whole_none : (w : ArrayWriter) → w.run.items ≡ [] → WaitsWhole w
whole_none w none = ap (λ (l : List ℕ). length l % 512) none

-- what waited, as calls
abbrev pub run_calls : (w : ArrayWriter) (old mid : MirrorView) → WritesWaiting w old mid → List SessionCall
run_calls w old mid h = (waiting_call w old mid h).calls

pub run_content : (w : ArrayWriter) (old mid : MirrorView) (h : WritesWaiting w old mid) (a : Content) → contents_after (run_calls w old mid h) a ≡ with_waiting w a
run_content w old mid (inl h) a = sym (waits_none w a h.0)
run_content w old mid (inr h) a = refl

pub run_clear : (w : ArrayWriter) (old mid : MirrorView) (h : WritesWaiting w old mid) (s : ℕ) → WaitsBeside w s → IsClearOf (run_calls w old mid h) s
run_clear w old mid (inl h) s off = tt
run_clear w old mid (inr h) s off = (off, tt)

pub run_whole : (w : ArrayWriter) (old mid : MirrorView) (h : WritesWaiting w old mid) → WaitsWhole w → AreWhole (run_calls w old mid h)
run_whole w old mid (inl h) whole = tt
run_whole w old mid (inr h) whole = (whole, tt)

-- ---- calls that write nothing
record IsUnchanging (calls : List SessionCall) : Type 0 where
  same : (a : Content) → contents_after calls a ≡ a
  clear : (s : ℕ) → IsClearOf calls s
  whole : AreWhole calls

nothing_done : IsUnchanging []
nothing_done = record { same = λ a. refl; clear = λ s. tt; whole = tt }

only_read : IsUnchanging (SessionCall.Reading ∷ [])
only_read = record { same = λ a. refl; clear = λ s. tt; whole = tt }

only_cleared : IsUnchanging (SessionCall.Clearing ∷ [])
only_cleared = record { same = λ a. refl; clear = λ s. tt; whole = tt }

not_read : (fault : UnreadFault) (sector : ℕ) (bytes : List ℕ) (old new : MirrorView) (h : RefusesRead sector bytes old new fault) → IsUnchanging (ungiven_call fault sector bytes old new h).calls
not_read unread.Halted sector bytes old new h = nothing_done
not_read unread.OutOfRange sector bytes old new h = nothing_done
not_read unread.NotResynced sector bytes old new h = nothing_done
not_read (unread.Unreadable s) sector bytes old new h = only_read

runs_on : (fault : StopFault) (old new : MirrorView) (h : RunsOn old new fault) → IsUnchanging (running_call fault old new h).calls
runs_on stop.Halted old new h = absurd h
runs_on (stop.InFlight n) old new h = nothing_done
runs_on stop.EventsFull old new h = nothing_done
runs_on (stop.MemberFailed k) old new h = only_cleared

cleared : (old new : MirrorView) (h : StopsMirror old new ⊎ ((fault : StopFault) × RunsOn old new fault)) → IsUnchanging (clearing_call old new h).calls
cleared old new (inl h) = only_cleared
cleared old new (inr h) = runs_on h.0 old new h.1

flushing : (old new : MirrorView) (h : (new ≡ old) ⊎ ClearsMarks old new) → IsUnchanging (flushing_call old new h).calls
flushing old new (inl h) = nothing_done
flushing old new (inr h) = cleared old new h.stops

-- ---- calls that are refused, or halt the mirror
abbrev pub IsClearAtEnd : (mid new : MirrorView) → EndsCalls mid new → ℕ → Type 0
IsClearAtEnd mid new (inl same) s = Unit {0}
IsClearAtEnd mid new (inr h) s = IsClearOfHalt mid new h s

abbrev pub IsWholeAtEnd : (mid new : MirrorView) → EndsCalls mid new → Type 0
IsWholeAtEnd mid new (inl same) = Unit {0}
IsWholeAtEnd mid new (inr h) = IsWholeHalt mid new h

-- in which sectors no call writes, where none of these is touched, and that it writes whole sectors, where this is so
pub record EndsClear (mid new : MirrorView) (IsAside : ℕ → Type 0) (Whole : Type 0) (ends : EndsCalls mid new) : Type 0 where
  pub clear : (s : ℕ) → IsAside s → IsClearAtEnd mid new ends s
  pub whole : Whole → IsWholeAtEnd mid new ends

pub stays : (mid new : MirrorView) (IsAside : ℕ → Type 0) (Whole : Type 0) (same : new ≡ mid) → EndsClear mid new IsAside Whole (inl same)
stays mid new IsAside Whole same = record { clear = λ s off. tt; whole = λ w. tt }

pub not_written : (fault : BeginFault) (sector : ℕ) (bytes : List ℕ) (old new : MirrorView) (h : RefusesWrite sector bytes old new fault)
    → EndsClear old new (λ s. touches (request_with (sector, bytes)) s ≡ false) (length bytes % 512 ≡ 0) (unwritten_end fault sector bytes old new h)
not_written begin.Halted sector bytes old new (inl h) = stays old new _ _ h.unchanged
not_written begin.Halted sector bytes old new (inr h) = record { clear = λ s off. off; whole = λ w. w }
not_written begin.OutOfRange sector bytes old new h = stays old new _ _ h.unchanged
not_written (begin.Overlaps n) sector bytes old new h = stays old new _ _ h.unchanged
not_written begin.NotResynced sector bytes old new h = stays old new _ _ h.unchanged
not_written begin.EventsFull sector bytes old new h = stays old new _ _ h.unchanged
not_written begin.NumbersSpent sector bytes old new h = stays old new _ _ h.unchanged
not_written begin.NoMemory sector bytes old new h = stays old new _ _ h.unchanged

not_cleared : (old new : MirrorView) (IsAside : ℕ → Type 0) (Whole : Type 0) (h : FailsToClear old new) → EndsClear old new IsAside Whole (uncleared_end old new h)
not_cleared old new IsAside Whole (inl h, pending) = stays old new IsAside Whole h.unchanged
not_cleared old new IsAside Whole (inr (running, inl h), pending) = stays old new IsAside Whole h.unchanged
not_cleared old new IsAside Whole (inr (running, inr h), pending) = record { clear = λ _ _. tt; whole = λ _. tt }

pub halts : (mid new : MirrorView) → HaltsInCall mid new → new.array.halted ≡ true
halts mid new (inl h) = halted_then h.1.mid new (among h.1.last none_in_flight) h.1.failing (h.1.halts none_in_flight)
halts mid new (inr h) = halted_then h.halts.mid new none_in_flight h.halts.failing (h.halts.halts none_in_flight)

-- ---- a request that changes nothing of what is told of
-- no call writes in this sector, and nothing that waits then has a byte of it
abbrev pub IsClearBy : (old new : MirrorView) → IsDoneByCalls old new → ℕ → Type 0
IsClearBy old new by s = IsClearOf by.first s × IsClearOf by.asked s × IsClearAtEnd by.mid new by.ends s

abbrev pub IsClearServed : (p q : Served) → IsDoneByCalls p.1 q.1 → ℕ → Type 0
IsClearServed p q by s = (clear : IsClearBy p.1 q.1 by s) × WaitsBeside q.0 s

abbrev pub IsWholeBy : (old new : MirrorView) → IsDoneByCalls old new → Type 0
IsWholeBy old new by = AreWhole by.first × AreWhole by.asked × IsWholeAtEnd by.mid new by.ends

abbrev pub IsWholeServed : (p q : Served) → IsDoneByCalls p.1 q.1 → Type 0
IsWholeServed p q by = (whole : IsWholeBy p.1 q.1 by) × WaitsWhole q.0

record Keeps (IsToo : ℕ → Type 0) (Whole : Type 0) (p q : Served) (by : IsDoneByCalls p.1 q.1) : Type 0 where
  same : (a : Content) → with_waiting q.0 (contents_after by.asked (contents_after by.first a)) ≡ with_waiting p.0 a
  clear : (s : ℕ) → WaitsBeside p.0 s → IsToo s → IsClearServed p q by s
  whole : WaitsWhole p.0 → Whole → IsWholeServed p q by

module _ (IsToo : ℕ → Type 0) (Whole : Type 0) (p q : Served) where
  still : StillWaits p.0 q.0 → (ends : EndsCalls p.1 q.1) → EndsClear p.1 q.1 (WaitsBeside p.0) (WaitsWhole p.0) ends → Keeps IsToo Whole p q (done_at_once p.1 q.1 ends)
  still waits ends e = record {
    same = λ a. waits_same p.0 q.0 a waits;
    clear = λ s off too. ((tt, tt, e.clear s off), beside_same p.0 q.0 waits s off);
    whole = λ whole too. ((tt, tt, e.whole whole), whole_same p.0 q.0 waits whole);
  }

  refused : (h : FailsWaiting p q) → Keeps IsToo Whole p q (refused_by p q h)
  refused h =
      still h.still (unwritten_end h.fault p.0.start p.0.run.items p.1 q.1 h.refused.refused) (not_written h.fault p.0.start p.0.run.items p.1 q.1 h.refused.refused)

  module _ (mid : MirrorView) (waited : WritesWaiting p.0 p.1 mid) (none : q.0.run.items ≡ []) where
    abbrev first : List SessionCall
    first = run_calls p.0 p.1 mid waited

    behind : (asked : MakesCalls mid q.1) → IsUnchanging asked.calls → Keeps IsToo Whole p q (done_behind p.0 p.1 mid q.1 q.1 waited asked (inl refl))
    behind asked u = record {
      same = λ a. waits_none q.0 (contents_after asked.calls (contents_after first a)) none ∙ u.same (contents_after first a) ∙ run_content p.0 p.1 mid waited a;
      clear = λ s off too. ((run_clear p.0 p.1 mid waited s off, u.clear s, tt), beside_none q.0 none s);
      whole = λ whole too. ((run_whole p.0 p.1 mid waited whole, u.whole, tt), whole_none q.0 none);
    }

    behind_ended : (ends : EndsCalls mid q.1) → EndsClear mid q.1 IsToo Whole ends → Keeps IsToo Whole p q (done_behind p.0 p.1 mid mid q.1 waited (no_call mid mid refl) ends)
    behind_ended ends e = record {
      same = λ a. waits_none q.0 (contents_after first a) none ∙ run_content p.0 p.1 mid waited a;
      clear = λ s off too. ((run_clear p.0 p.1 mid waited s off, tt, e.clear s too), beside_none q.0 none s);
      whole = λ whole too. ((run_whole p.0 p.1 mid waited whole, tt, e.whole too), whole_none q.0 none);
    }

-- ---- a request
-- what it writes is whole sectors
abbrev pub IsWholeTask : Task → List ℕ → Type 0
IsWholeTask (task.Read sector sectors) payload = Unit {0}
IsWholeTask (task.Write sector sectors through) payload = length payload % 512 ≡ 0
IsWholeTask task.Flush payload = Unit {0}
IsWholeTask task.Disconnect payload = Unit {0}
IsWholeTask (task.Refuse error) payload = Unit {0}

pub record Serves (t : Task) (p q : Served) (x : Exchange) (by : IsDoneByCalls p.1 q.1) : Type 0 where
  pub tells : (a : Content) (requests : Requests) → AreNone requests → AreHonest by.between.disks
      → HoldsAtRest (geometry_of by.between.array) (contents_after by.first a) (world_of by.between requests)
      → AnswersAs t (with_waiting p.0 a) x (with_waiting q.0 (contents_after by.asked (contents_after by.first a)))
  pub clear : (s : ℕ) → WaitsBeside p.0 s → LeavesSector t x.payload s → IsClearServed p q by s
  pub whole : WaitsWhole p.0 → IsWholeTask t x.payload → IsWholeServed p q by

abbrev AnySector : ℕ → Type 0
AnySector s = Unit {0}

module _ (p q : Served) (x : Exchange) where
  read_served : (sector sectors : ℕ) (r : RepliesWithBytes writer_store p q sector sectors x.request.cookie x.reply) → Serves (task.Read sector sectors) p q x (read_by p q sector r.bytes r.read)
  read_served sector sectors r =
      let h = r.read in
      let reads = h.given.0 in
      let k : Keeps AnySector (Unit {0}) p q (read_by p q sector r.bytes r.read) =
      behind AnySector (Unit {0}) p q h.mid h.waited h.none (one_call SessionCall.Reading h.mid q.1 reads.rests) only_read in
      record {
        clear = k.clear;
        whole = k.whole;
        tells = λ a requests none honest holds. (
          inl (record {
            bytes = r.bytes;
            whole = r.whole;
            told = r.told;
            shown = λ i low.
                let long : length r.bytes ≡ sector_bytes * sectors = r.whole in
                reads.content honest requests (none_there requests none h.mid.array) (contents_after (run_calls p.0 p.1 h.mid h.waited) a) holds i (omega arith)
                (λ n request flight. absurd (none-some request (sym (none n) ∙ flight)))
                ∙ ap (λ (f : Content). f (sector + i)) (run_content p.0 p.1 h.mid h.waited a);
          }),
          k.same a,
        );
      }

  not_given : (sector sectors : ℕ) (h : FailsToRead p q sector sectors) → Keeps AnySector (Unit {0}) p q (unread_by p q sector sectors h)
  not_given sector sectors (inl h) = refused AnySector (Unit {0}) p q h
  not_given sector sectors (inr h) =
      behind AnySector (Unit {0}) p q h.mid h.waited h.none (ungiven_call h.refused.fault sector h.refused.bytes h.mid q.1 h.refused.refused)
      (not_read h.refused.fault sector h.refused.bytes h.mid q.1 h.refused.refused)

  module _ (sector sectors : ℕ) (through : Bool) (told : x.reply ≡ success_reply x.request.cookie) where
    abbrev This : IsDoneByCalls p.1 q.1 → Type 0
    This by = Serves (task.Write sector sectors through) p q x by

    through_served : (h : WritesThrough p q sector x.payload) → This (through_by p q sector x.payload h)
    through_served h =
        let first : List SessionCall = run_calls p.0 p.1 h.mid h.waited in
        record {
          tells = λ a requests none honest holds. inl (
            told,
            waits_none q.0 (with_write (sector, x.payload) (contents_after first a)) h.none
                ∙ ap (λ (f : Content). with_write (sector, x.payload) f) (run_content p.0 p.1 h.mid h.waited a),
          );
          clear = λ s off too. ((run_clear p.0 p.1 h.mid h.waited s off, (too, tt), tt), beside_none q.0 h.none s);
          whole = λ whole too. ((run_whole p.0 p.1 h.mid h.waited whole, (too, tt), tt), whole_none q.0 h.none);
        }

    joined_served : (h : JoinsWaiting p q sector x.payload) → This (done_at_once p.1 q.1 (inl h.mirror))
    joined_served h = record {
      tells = λ a requests none honest holds. inl (
        told,
        waits_now q.0 p.0.start (p.0.run.items ++ x.payload) a h.joined.start h.joined.run ∙ joined p.0.start sector p.0.run.items x.payload h.behind a,
      );
      clear = λ s off too. (
        (tt, tt, tt),
        beside_now q.0 p.0.start (p.0.run.items ++ x.payload) h.joined.start h.joined.run s (joined_clear p.0.start sector p.0.run.items x.payload h.behind s off too),
      );
      whole = λ whole too. (
        (tt, tt, tt),
        (let long = length-append p.0.run.items x.payload in
            let both : length (p.0.run.items ++ x.payload) % 512 ≡ 0 = omega (arith, long, whole, too) in
            ap (λ (l : List ℕ). length l % 512) h.joined.run ∙ both),
      );
    }

    anew_served : (h : WaitsAnew p q sector x.payload) → This (done_behind p.0 p.1 q.1 q.1 q.1 h.waited (no_call q.1 q.1 refl) (inl refl))
    anew_served h = record {
      tells = λ a requests none honest holds. inl (
        told,
        waits_now q.0 sector x.payload (contents_after (run_calls p.0 p.1 q.1 h.waited) a) h.start h.run
            ∙ ap (λ (f : Content). with_write (sector, x.payload) f) (run_content p.0 p.1 q.1 h.waited a),
      );
      clear = λ s off too. ((run_clear p.0 p.1 q.1 h.waited s off, tt, tt), beside_now q.0 sector x.payload h.start h.run s too);
      whole = λ whole too. ((run_whole p.0 p.1 q.1 h.waited whole, tt, tt), ap (λ (l : List ℕ). length l % 512) h.run ∙ too);
    }

  taken_served : (sector sectors : ℕ) (through : Bool) → x.reply ≡ success_reply x.request.cookie → (h : TakesWrite p q sector x.payload through)
      → Serves (task.Write sector sectors through) p q x (written_by p q sector x.payload through h)
  taken_served sector sectors true told h = through_served sector sectors true told h
  taken_served sector sectors false told (inl h) = joined_served sector sectors false told h
  taken_served sector sectors false told (inr (inl h)) = anew_served sector sectors false told h
  taken_served sector sectors false told (inr (inr h)) = through_served sector sectors false told h

  abbrev IsBesideWrite : ℕ → List ℕ → ℕ → Type 0
  IsBesideWrite sector bytes s = touches (request_with (sector, bytes)) s ≡ false

  not_taken : (sector : ℕ) (bytes : List ℕ) (h : FailsToTake p q sector bytes) → Keeps (IsBesideWrite sector bytes) (length bytes % 512 ≡ 0) p q (unwritten_by p q sector bytes h)
  not_taken sector bytes (inl h) =
      still (IsBesideWrite sector bytes) (length bytes % 512 ≡ 0) p q h.still (inl h.mirror) (stays p.1 q.1 (WaitsBeside p.0) (WaitsWhole p.0) h.mirror)
  not_taken sector bytes (inr (inl h)) = refused (IsBesideWrite sector bytes) (length bytes % 512 ≡ 0) p q h
  not_taken sector bytes (inr (inr (inl h))) =
      behind_ended (IsBesideWrite sector bytes) (length bytes % 512 ≡ 0) p q q.1 h.waited h.none (inl refl) (stays q.1 q.1 (IsBesideWrite sector bytes) (length bytes % 512 ≡ 0) refl)
  not_taken sector bytes (inr (inr (inr h))) =
      behind_ended (IsBesideWrite sector bytes) (length bytes % 512 ≡ 0) p q h.mid h.waited h.none (unwritten_end h.refused.fault sector bytes h.mid q.1 h.refused.refused)
      (not_written h.refused.fault sector bytes h.mid q.1 h.refused.refused)

  flushed : (h : FlushesAll p q) → Keeps AnySector (Unit {0}) p q (flushed_by p q h)
  flushed h = behind AnySector (Unit {0}) p q h.mid h.waited h.none (flushing_call h.mid q.1 h.marks) (flushing h.mid q.1 h.marks)

  not_flushed : (h : FailsToFlush p q) → Keeps AnySector (Unit {0}) p q (unflushed_by p q h)
  not_flushed (inl h) = still AnySector (Unit {0}) p q h.still (inl h.mirror) (stays p.1 q.1 (WaitsBeside p.0) (WaitsWhole p.0) h.mirror)
  not_flushed (inr (inl h)) = refused AnySector (Unit {0}) p q h
  not_flushed (inr (inr h)) =
      behind_ended AnySector (Unit {0}) p q h.mid h.waited h.none (uncleared_end h.mid q.1 h.refused) (not_cleared h.mid q.1 AnySector (Unit {0}) h.refused)

  unchanged : (same : q ≡ p) → Keeps AnySector (Unit {0}) p q (done_at_once p.1 q.1 (inl (λ i. (same i).1)))
  unchanged same = still AnySector (Unit {0}) p q
      (record { start = ap (λ (r : Served). r.0.start) same; run = ap (λ (r : Served). r.0.run.items) same }) (inl (λ i. (same i).1))
      (stays p.1 q.1 (WaitsBeside p.0) (WaitsWhole p.0) (λ i. (same i).1))

task_serves : (t : Task) (p q : Served) (x : Exchange) (h : DoesTask writer_store t x.request.cookie x.payload p q x.reply)
    → Serves t p q x (task_by p q t x.request.cookie x.payload x.reply h)
task_serves (task.Read sector sectors) p q x (inl h) = read_served p q x sector sectors h
task_serves (task.Read sector sectors) p q x (inr h) =
    let k : Keeps AnySector (Unit {0}) p q (unread_by p q sector sectors h.0) = not_given p q x sector sectors h.0 in
    record { tells = λ a requests none honest holds. (inr h.1, k.same a); clear = k.clear; whole = k.whole }
task_serves (task.Write sector sectors through) p q x (inl h) = taken_served p q x sector sectors through h.1 h.0
task_serves (task.Write sector sectors through) p q x (inr h) =
    let k : Keeps (IsBesideWrite p q x sector x.payload) (length x.payload % 512 ≡ 0) p q (unwritten_by p q sector x.payload h.0) = not_taken p q x sector x.payload h.0 in
    record { tells = λ a requests none honest holds. inr (h.1, k.same a); clear = k.clear; whole = k.whole }
task_serves task.Flush p q x (inl h) =
    let k : Keeps AnySector (Unit {0}) p q (flushed_by p q h.0) = flushed p q x h.0 in
    record { tells = λ a requests none honest holds. (inl h.1, k.same a); clear = k.clear; whole = k.whole }
task_serves task.Flush p q x (inr h) =
    let k : Keeps AnySector (Unit {0}) p q (unflushed_by p q h.0) = not_flushed p q x h.0 in
    record { tells = λ a requests none honest holds. (inr h.1, k.same a); clear = k.clear; whole = k.whole }
task_serves task.Disconnect p q x h = absurd h
task_serves (task.Refuse error) p q x h =
    let k : Keeps AnySector (Unit {0}) p q (done_at_once p.1 q.1 (inl (λ i. (h.0 i).1))) = unchanged p q x h.0 in
    record { tells = λ a requests none honest holds. (h.1, k.same a); clear = k.clear; whole = k.whole }

pub served_one : (e : Export) (p q : Served) (x : Exchange) (answers : AnswersRequest writer_store e p q x) → Serves (task_of e x.request) p q x (calls_of p q e x answers)
served_one e p q x answers = task_serves (task_of e x.request) p q x answers.does

-- ---- once the mirror is halted
halted_as : (t : Task) (p q : Served) (x : Exchange) (a : Content) → (IsForArray t → x.reply ≡ error_reply Io x.request.cookie)
    → DoesTask writer_store t x.request.cookie x.payload p q x.reply → AnswersAs t a x a
halted_as (task.Read sector sectors) p q x a error h = (inr (error tt), refl)
halted_as (task.Write sector sectors through) p q x a error h = inr (error tt, refl)
halted_as task.Flush p q x a error h = (inr (error tt), refl)
halted_as task.Disconnect p q x a error h = absurd h
halted_as (task.Refuse code) p q x a error h = (h.1, refl)

halted_all : (e : Export) (p q : Served) (xs : List Exchange) (a : Content) → p.1.array.halted ≡ true → AnswersInTurn writer_store e p xs q → AnswersAllAs e a xs a
halted_all e p q [] a halted answers = refl
halted_all e p q (x ∷ xs) a halted answers =
    let stays = request_halted e p answers.0 x halted answers.1 in (
      a,
      halted_as (task_of e x.request) p answers.0 x a stays.1 answers.1.does,
      halted_all e answers.0 q xs a (ap (λ (v : MirrorView). v.array.halted) stays.0 ∙ halted) answers.2,
    )

-- ---- a session
pub rests_there : (g : Geometry) (opened : Super) (t : Moment) (a : Content) → IsHeldAt g opened t a → HoldsAtRest (geometry_of t.mirror.array) a (world_of t.mirror t.requests)
rests_there g opened t a is = subst (λ (x : Geometry). HoldsAtRest x a (world_of t.mirror t.requests)) (sym is.geometry) is.held.holds.at_rest

pub covered_there : (g : Geometry) (small : IsWithinLimits g) (opened : Super) (t : Moment) (a : Content) → IsHeldAt g opened t a → IsCoveredBetween t.mirror t.requests
covered_there g small opened t a is =
    subst (λ (x : Geometry). Covered x (world_of t.mirror t.requests).stored (IsInSync (world_of t.mirror t.requests))) (sym is.geometry)
    (covered_now g small opened (history_of t) is.held.kept)

-- where the mirror goes on after what was done, or is halted
pub went_on : (es : List Event) (t : Moment) (a c : Content) (mid new : MirrorView) (ends : EndsCalls mid new) → GoesAlong es t a mid c → (t.mirror.array.resynced ≡ true → mid.array.resynced ≡ true)
    → ((along : GoesAlong (es ++ end_events mid new ends) t a new c) × (t.mirror.array.resynced ≡ true → new.array.resynced ≡ true)) ⊎ (new.array.halted ≡ true)
went_on es t a c mid new (inl same) goes settled = inl (
  subst (λ (l : List Event). GoesAlong l t a new c) (sym (append-nil es)) (subst (λ (v : MirrorView). GoesAlong es t a v c) (sym same) goes),
  λ was. ap (λ (v : MirrorView). v.array.resynced) same ∙ settled was,
)
went_on es t a c mid new (inr h) goes settled = inr (halts mid new h)

module _ (g : Geometry) (small : IsWithinLimits g) (opened : Super) (e : Export) where
  pub held_there : (es : List Event) (t : Moment) (a b : Content) (new : MirrorView) (x : GoesAlong es t a new b) → IsHeldAt g opened t a
      → IsHeldAt g opened (record x.past { mirror = new; requests = t.requests }) b
  held_there es t a b new x is = held_along g small opened es t a (record x.past { mirror = new; requests = t.requests }) b x.run is

  told_here : (t : Moment) (w : ArrayWriter) (a : Content) → IsHeldAt g opened t a → HoldsTold [] t a (w, t.mirror) (with_waiting w a)
  told_here t w a is = record {
    content = a;
    goes = same_along t t.mirror a refl;
    held = rests_there g opened t a is;
    covered = covered_there g small opened t a is;
    resynced = λ was. was;
    waits = refl;
    flushed = λ none. waits_none w a none;
  }

  -- one request, and then those after it
  module _ (x : Exchange) (t : Moment) (w : ArrayWriter) (a : Content) (is : IsHeldAt g opened t a) (none : AreNone t.requests) (mid : Served)
      (answers : AnswersRequest writer_store e (w, t.mirror) mid x) (whole : ServedLeftWhole t.requests none t.mirror mid.1 (calls_of (w, t.mirror) mid e x answers)) where
    abbrev by : IsDoneByCalls t.mirror mid.1
    by = calls_of (w, t.mirror) mid e x answers

    abbrev between : Content
    between = contents_after by.first a

    abbrev after : Content
    after = contents_after by.asked between

    abbrev first_events : List Event
    first_events = calls_events by.first t.mirror by.between by.waited

    pub waited : GoesAlong first_events t a by.between between
    waited = calls_along by.first t is.sound none by.between by.waited whole.0 a

    abbrev there : Moment
    there = record waited.past { mirror = by.between; requests = t.requests }

    pub held_there_too : IsHeldAt g opened there between
    held_there_too = held_there first_events t a between by.between waited is

    tells : AnswersAs (task_of e x.request) (with_waiting w a) x (with_waiting mid.0 after)
    tells = (served_one e (w, t.mirror) mid x answers).tells a t.requests none held_there_too.sound.honest (rests_there g opened there between held_there_too)

    pub goes : GoesAlong (done_events t.mirror mid.1 by) t a by.mid after
    goes = along_then first_events (calls_events by.asked by.between by.mid by.done) t a between after by.between by.mid waited
        (calls_along by.asked there held_there_too.sound none by.mid by.done whole.1 between)

    settles : t.mirror.array.resynced ≡ true → by.mid.array.resynced ≡ true
    settles was =
        calls_settle by.asked there held_there_too.sound none by.mid by.done whole.1 between
        (calls_settle by.first t is.sound none by.between by.waited whole.0 a was)

    -- it goes on from there
    abbrev pub GoesOn : Type 0
    GoesOn = (along : GoesAlong (all_events t.mirror mid.1 by) t a mid.1 after) × (t.mirror.array.resynced ≡ true → mid.1.array.resynced ≡ true)

    comes : GoesOn ⊎ (mid.1.array.halted ≡ true)
    comes = elim (went_on (done_events t.mirror mid.1 by) t a after by.mid mid.1 by.ends goes settles) [ inl on ↦ inl on | inr halted ↦ inr halted ]

    -- and what those after it hold
    held_later : (xs : List Exchange) (q : Served) (more : AnswersInTurn writer_store e mid xs q) (on : GoesOn) (b : Content)
        → HoldsTold (session_events e mid xs q more) (record (on.0).past { mirror = mid.1; requests = t.requests }) after q b
        → HoldsTold (session_events e (w, t.mirror) (x ∷ xs) q (mid, answers, more)) t a q b
    held_later xs q more on b h = record {
      content = h.content;
      goes = along_then (all_events t.mirror mid.1 by) (session_events e mid xs q more) t a after h.content mid.1 q.1 on.0 h.goes;
      held = h.held;
      covered = h.covered;
      resynced = λ was. h.resynced (on.1 was);
      waits = h.waits;
      flushed = h.flushed;
    }

    halts_later : (xs : List Exchange) (q : Served) (on : GoesOn) (b : Content) → HaltsInSession (record (on.0).past { mirror = mid.1; requests = t.requests }) after e mid.0 xs q b
        → HaltsInSession t a e w (x ∷ xs) q b
    halts_later xs q on b h = record {
      before = x ∷ h.before;
      failing = h.failing;
      after = h.after;
      order = ap (λ (l : List Exchange). x ∷ l) h.order;
      at = h.at;
      ran = (mid, answers, h.ran);
      running = h.running;
      holds = held_later h.before h.at h.ran on b h.holds;
      waits = h.waits;
      halts = h.halts;
      refused = h.refused;
    }

    tells_then : (xs : List Exchange) (q : Served) (more : AnswersInTurn writer_store e mid xs q) (on : GoesOn) → mid.1.array.halted ≡ false
        → TellsContent (record (on.0).past { mirror = mid.1; requests = t.requests }) after e mid.0 xs q more
        → TellsContent t a e w (x ∷ xs) q (mid, answers, more)
    tells_then xs q more on there rest = record {
      told = rest.told;
      answered = (with_waiting mid.0 after, tells, rest.answered);
      holds = λ running. held_later xs q more on rest.told (rest.holds running);
      halts = λ ran halted. halts_later xs q on rest.told (rest.halts there halted);
    }

    -- it halted the mirror
    module _ (halted : mid.1.array.halted ≡ true) (xs : List Exchange) (q : Served) (more : AnswersInTurn writer_store e mid xs q) where
      failing_refused : IsForArray (task_of e x.request) → x.reply ≡ error_reply Io x.request.cookie
      failing_refused = halting_refused (w, t.mirror) mid halted (task_of e x.request) x.request.cookie x.payload x.reply answers.does

      halts_here : t.mirror.array.halted ≡ false → HaltsInSession t a e w (x ∷ xs) q (with_waiting mid.0 after)
      halts_here ran = record {
        before = [];
        failing = x;
        after = xs;
        order = refl;
        at = (w, t.mirror);
        ran = refl;
        running = ran;
        holds = subst (λ (b : Content). HoldsTold [] t a (w, t.mirror) b) (sym (refused_same (task_of e x.request) x (with_waiting w a) (with_waiting mid.0 after) failing_refused tells))
            (told_here t w a is);
        waits = mid.0;
        halts = subst (λ (v : MirrorView). AnswersRequest writer_store e (w, t.mirror) (mid.0, v) x) (sym (session_halted e mid q xs halted more)) answers;
        refused = (failing_refused, all_refused e mid xs q halted more);
      }

      tells_halted : TellsContent t a e w (x ∷ xs) q (mid, answers, more)
      tells_halted = record {
        told = with_waiting mid.0 after;
        answered = (with_waiting mid.0 after, tells, halted_all e mid q xs (with_waiting mid.0 after) halted more);
        holds = λ running. absurd (true≢false (sym (ap (λ (v : MirrorView). v.array.halted) (session_halted e mid q xs halted more) ∙ halted) ∙ running));
        halts = λ ran _. halts_here ran;
      }

    went_on_there : mid.1.array.halted ≡ false → GoesOn
    went_on_there running = elim comes [ inl on ↦ on | inr halted ↦ absurd (true≢false (sym halted ∙ running)) ]

    tells_on : (xs : List Exchange) (q : Served) (more : AnswersInTurn writer_store e mid xs q)
        → ((running : mid.1.array.halted ≡ false) → TellsContent (record ((went_on_there running).0).past { mirror = mid.1; requests = t.requests }) after e mid.0 xs q more)
        → TellsContent t a e w (x ∷ xs) q (mid, answers, more)
    tells_on xs q more rest = by (mid.1.array.halted) refl
      where
        by : (b : Bool) → mid.1.array.halted ≡ b → TellsContent t a e w (x ∷ xs) q (mid, answers, more)
        by true halted = tells_halted halted xs q more
        by false running = tells_then xs q more (went_on_there running) running (rest running)

  pub tells_all : (xs : List Exchange) (t : Moment) (w : ArrayWriter) (a : Content) → IsHeldAt g opened t a → (none : AreNone t.requests) → (q : Served)
      → (answers : AnswersInTurn writer_store e (w, t.mirror) xs q) → AllServedWhole t.requests none e (w, t.mirror) xs q answers
      → TellsContent t a e w xs q answers
  tells_all [] t w a is none q answers whole = record {
    told = with_waiting q.0 a;
    answered = ap (λ (p : Served). with_waiting p.0 a) answers;
    holds = λ _. subst (λ (p : Served). HoldsTold [] t a p (with_waiting p.0 a)) (sym answers) (told_here t w a is);
    halts = λ ran halted. absurd (true≢false (sym halted ∙ ap (λ (p : Served). p.1.array.halted) answers ∙ ran));
  }
  tells_all (x ∷ xs) t w a is none q answers whole =
      tells_on x t w a is none answers.0 answers.1 whole.0 xs q answers.2
      (λ running.
      let on = went_on_there x t w a is none answers.0 answers.1 whole.0 running in
      let c : Content = after x t w a is none answers.0 answers.1 whole.0 in
      tells_all xs (record (on.0).past { mirror = answers.0.1; requests = t.requests }) answers.0.0 c
      (held_there (all_events t.mirror answers.0.1 (calls_of (w, t.mirror) answers.0 e x answers.1)) t a c answers.0.1 on.0 is)
      none q answers.2 whole.1)
