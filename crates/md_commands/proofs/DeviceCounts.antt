-- Of the commands of this crate that don't rebuild, only `add` wins a device, and only `remove` loses one.
use Rattle.std.proofs.Common.{◌≡◌, ◌∙◌, ◌⊎◌, inl, inr, ⊎_elim, ℕ, ◌+◌, ◌-◌, ◌/◌, Bool, true, false, List, [], ◌∷◌, ◌++◌, length, arith, Option, Some, None, Result, Ok, Err, MatchResult, refl, sym, ap}
use Rattle.std.proofs.lemmas.Bool.{cases_lt}
use Rattle.std.proofs.lemmas.List.{length-append}
use Rattle.std.proofs.lemmas.List.Edits.{length-remove}
use Rattle.std.proofs.lemmas.Option.{none-some, slice_get_within}
use Rattle.md_bitmap.specs.declared.chunks.Chunks.{Chunks}
use Rattle.md_model.specs.Devices.{Stored, Super}
use Rattle.md_model.specs.Events.{Event}
use Rattle.md_inflight.specs.Requests.Pending.{PendingView}
use Rattle.md_faults.specs.declared.add_fault.AddFault.{AddFault}
use Rattle.md_faults.specs.declared.add_fault.AddFault.TheVariants as add
use Rattle.md_faults.specs.declared.step_fault.BeginFault.{BeginFault}
use Rattle.md_faults.specs.declared.step_fault.BeginFault.TheVariants as begin
use Rattle.md_faults.specs.declared.step_fault.FailFault.{FailFault}
use Rattle.md_faults.specs.declared.step_fault.FailFault.TheVariants as fail
use Rattle.md_faults.specs.declared.step_fault.RemoveFault.{RemoveFault}
use Rattle.md_faults.specs.declared.step_fault.RemoveFault.TheVariants as remove
use Rattle.md_kept_members.specs.OnDevices.Storing.{log_writes}
use Rattle.md_state.specs.Steps.Fail.{FailsMember, RefusesFail}
use Rattle.md_state.specs.Steps.Remove.{RefusesRemove, Removes}
use Rattle.md_state.specs.Requests.{AreInFlight, among, request_of}
use Rattle.md_state.specs.Trying.{Refuses}
use Rattle.md_state.specs.View.{ArrayView, Disk, MirrorView}
use Rattle.md_array.specs.Steps.Add.{Adds, RefusesAdd}
use Rattle.md_array.specs.InTurn.{AllOf, Did, HaltsAt, Leads, Requests}
use Rattle.md_array.specs.Steps.StoreLog.{AreWritten}
use Rattle.md_array.proofs.StepLemmas.FailedParts.{failed_write, halting_write}
use Rattle.md_array.proofs.StepLemmas.Turns.{all_on, all_such}
use Rattle.md_members.specs.DeviceWrites.Writes.{Write as DiskWrite}
use Rattle.md_laws.specs.ReadInTurn.{LeadsReading}
use Rattle.md_metadata.specs.declared.stop_fault.StopFault.{StopFault}
use Rattle.md_metadata.specs.declared.stop_fault.StopFault.TheVariants as stop
use Rattle.md_metadata.specs.Going.{GoesOn, LeadsBy, only_others}
use Rattle.md_metadata.specs.Stopping.{IsStopping, RefusesStop, StopsMirror}
use Rattle.md_check.specs.declared.fault.CheckFault.{CheckFault}
use Rattle.md_check.specs.declared.fault.CheckFault.TheVariants as check
use Rattle.md_check.specs.Checking.{RefusesCheck}
use Rattle.md_collect.specs.declared.found.Comparison.{Comparison}
use Rattle.md_resync.specs.declared.fault.ResyncFault.{ResyncFault}
use Rattle.md_resync.specs.declared.fault.ResyncFault.TheVariants as resync
use Rattle.md_resync.specs.Resyncing.{GoesUnresynced, HaltsResync, IsOfResync, LosesMember, ReadingFails, RefusesResync, ResyncGoesOn, Resyncs, ResyncsTold}
use Rattle.md_resync.specs.Telling.{AfterTelling, IsTelling}
use Rattle.md_write.specs.Progress.{IsOfRequest}
use Rattle.md_write.specs.Writing.{RefusesWrite, Writes, events_of_write}
use Rattle.md_streams.specs.declared.sink.Sink.{Ghosts as SinkGhosts}
use Rattle.md_refusals.specs.declared.fault.CommandFault.{CommandFault}
use Rattle.md_refusals.specs.declared.fault.CommandFault.TheVariants.{BadLength, BadMember, Check, Fail, InputFault, NoPieceMemory, OutOfRange, OutputFault, Remove, Resync, Stop, Write}
use Rattle.md_streams.specs.declared.source.Source.{Ghosts as SourceGhosts}
use Rattle.md_commands.specs.Adding.{KeepsDevice}
use Rattle.md_commands.specs.Checking.{ChecksMembers, ListsMismatches, RefusesToCheck, RefusesToList}
use Rattle.md_commands.specs.Failing.{RefusesToFail}
use Rattle.md_commands.specs.Removing.{HandsBack, RefusesRemoving}
use Rattle.md_commands.specs.Resyncing.{RefusesNeededResync, RefusesToResync, ResyncsIfNeeded, needs_resync}
use Rattle.md_commands.specs.Stopping.{FailsToStop, FailsToStopArray, RefusesToStop, StopsAfter, StopsArray, StopsArrayAfter}
use Rattle.md_commands.specs.ToldLength.{known_length}
use Rattle.md_commands.specs.Writing.{FailsInput, RefusesInMemory, RefusesToldInput, RefusesToWrite, RefusesWriting, WritesArray, WritesBytes, WritesReadied}
use Rattle.md_commands.specs.WritingPieces.{HasWritten, RefusesPieces, WritesFront, WritesPieces}

-- as many devices after as before
abbrev pub AsMany : MirrorView → MirrorView → Type 0
AsMany old new = length new.disks ≡ length old.disks

pub same : (old new : MirrorView) → new ≡ old → AsMany old new
same old new e = ap (λ (v : MirrorView). length v.disks) e

pub refused : (old new : MirrorView) (Reason : Type 0) → Refuses old new Reason → AsMany old new
refused old new Reason r = same old new r.unchanged

-- ---- events
-- no member leaves, comes in, or comes into sync by one of this kind
pub record KeepsMembers (IsOf : Event → Type 0) : Type 0 where
  pub removes : (k : ℕ) → IsOf (Event.Remove k) → ⊥
  pub adds : (d : ℕ) (left : Stored) → IsOf (Event.Add d left) → ⊥
  pub re_adds : (own : Super) (offset : ℕ) (device left : Stored) → IsOf (Event.ReAdd own offset device left) → ⊥
  pub enrols : (k role : ℕ) (listed : ℕ → Bool) → IsOf (Event.Enrol k role listed) → ⊥

-- a log's write, where there is one
log_written : (k : ℕ) (writes : List DiskWrite) (before after : List Disk) → AreWritten k writes before after → length after ≡ length before
log_written k [] before after h = ap length h
log_written k (w ∷ ws) before after h = h.1.tried.as_many

did : (IsOf : Event → Type 0) → KeepsMembers IsOf → (e : Event) (old new : MirrorView) (before after : Requests) → IsOf e → Did old before e new after → AsMany old new
did IsOf keeps (Event.Begin n p) old new before after of h = ap length h.5.disks
did IsOf keeps (Event.Record k) old new before after of h = h.1.disks.tried.as_many
did IsOf keeps (Event.StoreMarks k b) old new before after of h = h.1.disks.tried.as_many
did IsOf keeps (Event.WriteMember n k) old new before after of h = h.5.disks.tried.as_many
did IsOf keeps (Event.Finish n) old new before after of h = ap length h.3.disks
did IsOf keeps (Event.ClearIdle c) old new before after of h = ap length h.1.disks
did IsOf keeps (Event.Fail k) old new before after of h = ap length h.1.disks
did IsOf keeps (Event.WriteFails k part) old new before after of h = (failed_write k old new before part after h).1.disks.tried.as_many
did IsOf keeps (Event.Copy from k s) old new before after of h = h.1.disks.tried.as_many
did IsOf keeps Event.Resynced old new before after of h = ap length h.1.marks.disks
did IsOf keeps Event.Unresynced old new before after of h = ap length h.1.disks
did IsOf keeps Event.MakeClean old new before after of h = ap length h.1.disks
did IsOf keeps (Event.Remove k) old new before after of h = absurd (keeps.removes k of)
did IsOf keeps (Event.Add d left) old new before after of h = absurd (keeps.adds d left of)
did IsOf keeps (Event.ReAdd own offset device left) old new before after of h = absurd (keeps.re_adds own offset device left of)
did IsOf keeps (Event.LowerOffset k s) old new before after of h = ap length h.1.disks
did IsOf keeps (Event.Fill k) old new before after of h = h.1.disks.as_many
did IsOf keeps (Event.Prepare k) old new before after of h = h.1.disks.as_many
did IsOf keeps (Event.RecordTargetFails k) old new before after of h = h.1.leaves.disks.tried.as_many
did IsOf keeps (Event.SpoilTarget k) old new before after of h = h.1.disks.tried.as_many
did IsOf keeps (Event.Enrol k role listed) old new before after of h = absurd (keeps.enrols k role listed of)
did IsOf keeps (Event.Admit k role listed) old new before after of h = h.1.admits.disks.tried.as_many
did IsOf keeps (Event.Checkpoint k sure listed) old new before after of h = h.1.checkpoints.disks.tried.as_many
did IsOf keeps (Event.NoteBad k more) old new before after of h = ap length h.1.disks
did IsOf keeps (Event.StoreLog k listed) old new before after of h = log_written k (log_writes h.1.member.superblock h.1.member.bad) old.disks new.disks h.1.disks

pub halts : (e : Event) (old new : MirrorView) (before : Requests) → HaltsAt old before e new → AsMany old new
halts (Event.WriteFails k part) old new before h = (halting_write k old new before part h).3.disks.tried.as_many
halts e old new before h = absurd h

-- ---- lists of events
module _ (IsOf : Event → Type 0) (keeps : KeepsMembers IsOf) where
  pub led : (es : List Event) (previous : Option Event) (old new : MirrorView) (before after : Requests) → AllOf IsOf es → Leads previous old before es new after → AsMany old new
  led [] previous old new before after all t = same old new (sym t.0)
  led (e ∷ es) previous old new before after all t = led es (Some e) t.0 new t.1 after all.1 t.5 ∙ did IsOf keeps e old t.0 before t.1 all.0 t.3

  led_reading : (es : List Event) (previous : Option Event) (old new : MirrorView) (before after : Requests) → AllOf IsOf es → LeadsReading previous old before es new after → AsMany old new
  led_reading [] previous old new before after all t = same t.0 new (sym t.2.0) ∙ t.1.disks.same.as_many
  led_reading (e ∷ es) previous old new before after all t =
      led_reading es (Some e) t.1 new t.2 after all.1 t.7 ∙ (did IsOf keeps e t.0 t.1 before t.2 all.0 t.5 ∙ t.3.disks.same.as_many)

-- one that stands at an end of a list
abbrev IsAtEnd : Event → Type 0
IsAtEnd (Event.Begin n p) = Unit {0}
IsAtEnd (Event.Finish n) = Unit {0}
IsAtEnd Event.Unresynced = Unit {0}
IsAtEnd e = ⊥

abbrev IsOrEnds : (Event → Type 0) → Event → Type 0
IsOrEnds IsOf e = IsOf e ⊎ IsAtEnd e

or_ends : (IsOf : Event → Type 0) (es : List Event) → AllOf IsOf es → AllOf (IsOrEnds IsOf) es
or_ends IsOf = all_such IsOf (IsOrEnds IsOf) (λ e is. inl is)

with_end : (IsOf : Event → Type 0) (es : List Event) (e : Event) → AllOf IsOf es → IsAtEnd e → AllOf (IsOrEnds IsOf) (es ++ e ∷ [])
with_end IsOf es e all at = all_on (IsOrEnds IsOf) es (e ∷ []) (or_ends IsOf es all) (inr at, tt)

keeps_or_ends : (IsOf : Event → Type 0) → KeepsMembers IsOf → KeepsMembers (IsOrEnds IsOf)
keeps_or_ends IsOf keeps = record {
  removes = λ k. ⊎_elim (λ (of : IsOf (Event.Remove k)). keeps.removes k of) (λ (no : ⊥). no);
  adds = λ d left. ⊎_elim (λ (of : IsOf (Event.Add d left)). keeps.adds d left of) (λ (no : ⊥). no);
  re_adds = λ own offset device left. ⊎_elim (λ (of : IsOf (Event.ReAdd own offset device left)). keeps.re_adds own offset device left of) (λ (no : ⊥). no);
  enrols = λ k role listed. ⊎_elim (λ (of : IsOf (Event.Enrol k role listed)). keeps.enrols k role listed of) (λ (no : ⊥). no);
}

stopping_keeps : KeepsMembers IsStopping
stopping_keeps = record { removes = λ k of. of; adds = λ d left of. of; re_adds = λ own offset device left of. of; enrols = λ k role listed of. of }

resync_keeps : KeepsMembers IsOfResync
resync_keeps = record { removes = λ k of. of; adds = λ d left of. of; re_adds = λ own offset device left of. of; enrols = λ k role listed of. of }

telling_keeps : KeepsMembers IsTelling
telling_keeps = record { removes = λ k of. of; adds = λ d left of. of; re_adds = λ own offset device left of. of; enrols = λ k role listed of. of }

request_keeps : (chunks : Chunks) (p : PendingView) → KeepsMembers (IsOfRequest chunks p)
request_keeps chunks p = record { removes = λ k of. of; adds = λ d left of. of; re_adds = λ own offset device left of. of; enrols = λ k role listed of. of }

-- no request of the model
pub nothing : Requests
nothing n = None

pub none_in_flight : (a : ArrayView) → AreInFlight a nothing
unfolding nothing
none_in_flight a n p is = absurd (none-some p is)

led_by : (IsOf : Event → Type 0) → KeepsMembers IsOf → (old new : MirrorView) → LeadsBy IsOf old new → AsMany old new
led_by IsOf keeps old new by = led IsOf keeps by.events None old new nothing nothing by.steps (by.leads None nothing (none_in_flight old.array))

gone_on : (old new : MirrorView) → ResyncGoesOn old new → AsMany old new
gone_on old new goes = led_reading IsOfResync resync_keeps goes.events None old new nothing nothing goes.steps (goes.leads None nothing (none_in_flight old.array))

gone_unresynced : (old new : MirrorView) → GoesUnresynced old new → AsMany old new
gone_unresynced old new goes =
    led_reading (IsOrEnds IsOfResync) (keeps_or_ends IsOfResync resync_keeps) (goes.events ++ Event.Unresynced ∷ []) None old new nothing nothing
    (with_end IsOfResync goes.events Event.Unresynced goes.steps tt) (goes.leads None nothing (none_in_flight old.array))

-- ---- the calls
pub stopped : (old new : MirrorView) → StopsMirror old new → AsMany old new
stopped old new s = led_by IsStopping stopping_keeps old new s.goes

not_stopped : (fault : StopFault) (old new : MirrorView) → RefusesStop old new fault → AsMany old new
not_stopped stop.Halted old new h =
    ⊎_elim (λ r. refused old new _ r)
    (λ r. halts r.halts.failing r.halts.mid new nothing (r.halts.halts nothing) ∙ led_by IsStopping stopping_keeps old r.halts.mid r.goes)
    h
not_stopped (stop.InFlight n) old new h = refused old new _ h
not_stopped stop.EventsFull old new h = refused old new _ h
not_stopped (stop.MemberFailed k) old new h = led_by IsStopping stopping_keeps old new h.goes

by_telling : (old new : MirrorView) → GoesOn only_others only_others IsTelling old new → AsMany old new
by_telling old new g = led IsTelling telling_keeps g.events None old new nothing nothing g.steps (g.leads None nothing (none_in_flight old.array))

after_telling : (Then : MirrorView → MirrorView → Type 0) (old new : MirrorView) → ((told : MirrorView) → Then told new → AsMany told new) → AfterTelling Then old new → AsMany old new
after_telling Then old new by h = by h.told h.then ∙ by_telling old h.told h.tells.goes

resynced : (old new : MirrorView) → Resyncs old new → AsMany old new
resynced old new = after_telling ResyncsTold old new (λ told r. gone_on told new r.goes)

not_resynced : (fault : ResyncFault) (old new : MirrorView) → RefusesResync old new fault → AsMany old new
not_resynced resync.Halted old new h =
    ⊎_elim (λ r. refused old new _ r)
    (⊎_elim
    (λ r. halts r.halts.halts.failing r.halts.halts.mid new nothing (r.halts.halts.halts nothing) ∙ by_telling old r.halts.halts.mid r.halts.halts.goes)
    (after_telling HaltsResync old new (λ told r. halts r.failing r.mid new nothing (r.halts nothing) ∙ gone_on told r.mid r.goes)))
    h
not_resynced (resync.InFlight n) old new h = refused old new _ h
not_resynced resync.NoMemory old new h = gone_unresynced old new h.goes
not_resynced (resync.ReadFault k c) old new h = after_telling (ReadingFails k c) old new (λ told r. gone_unresynced told new r.stops.goes) h
not_resynced (resync.MemberFailed k) old new h =
    ⊎_elim
    (λ r. ap length r.unresyncs.marks.disks ∙ by_telling old r.lost r.loses.loses.goes)
    (after_telling (LosesMember k) old new (λ told r. gone_unresynced told new r.stops.goes))
    h

wrote : (sector : ℕ) (bytes : List ℕ) (old new : MirrorView) → Writes sector bytes old new → AsMany old new
wrote sector bytes old new w =
    let Of = IsOfRequest old.array.chunks w.request in
    led (IsOrEnds Of) (keeps_or_ends Of (request_keeps old.array.chunks w.request)) (events_of_write w.request w.events) None old new nothing nothing
    (inr tt, with_end Of w.events (Event.Finish w.request.ticket.number) w.steps tt) (w.happens None nothing (none_in_flight old.array)).done

not_written : (fault : BeginFault) (sector : ℕ) (bytes : List ℕ) (old new : MirrorView) → RefusesWrite sector bytes old new fault → AsMany old new
not_written begin.Halted sector bytes old new h =
    ⊎_elim (λ r. refused old new _ r)
    (λ r.
    let Of = IsOfRequest old.array.chunks r.request in
    halts r.failing r.mid new (among r.last nothing) (r.halts nothing)
    ∙ led (IsOrEnds Of) (keeps_or_ends Of (request_keeps old.array.chunks r.request)) (Event.Begin r.request.ticket.number (request_of r.request) ∷ r.events) None old r.mid
    nothing (among r.last nothing) (inr tt, or_ends Of r.events r.steps) (r.happens None nothing (none_in_flight old.array)))
    h
not_written begin.OutOfRange sector bytes old new h = refused old new _ h
not_written (begin.Overlaps n) sector bytes old new h = refused old new _ h
not_written begin.NotResynced sector bytes old new h = refused old new _ h
not_written begin.EventsFull sector bytes old new h = refused old new _ h
not_written begin.NumbersSpent sector bytes old new h = refused old new _ h
not_written begin.NoMemory sector bytes old new h = refused old new _ h

-- ---- the commands
pub readied : (old new : MirrorView) → ResyncsIfNeeded old new → AsMany old new
readied old new r = by (needs_resync old.array) refl
  where
    by : (needs : Bool) → needs_resync old.array ≡ needs → AsMany old new
    by true is = resynced old new (r.resynced is)
    by false is = same old new (r.untouched is)

pub not_readied : (fault : ResyncFault) (old new : MirrorView) → RefusesNeededResync old new fault → AsMany old new
not_readied fault old new r = not_resynced fault old new r.refused

pub stopped_after : (Through : MirrorView → Type 0) (old new : MirrorView) → ((mid : MirrorView) → Through mid → AsMany old mid) → StopsAfter Through new → AsMany old new
stopped_after Through old new through s = stopped s.mid new s.stops ∙ through s.mid s.through

pub fails_after : (Through : MirrorView → Type 0) (old new : MirrorView) (fault : StopFault) → ((mid : MirrorView) → Through mid → AsMany old mid) → FailsToStop Through new fault → AsMany old new
fails_after Through old new fault through s = not_stopped fault s.mid new s.refused ∙ through s.mid s.through

not_checked : (fault : CheckFault) (old new : MirrorView) → RefusesCheck old new fault → AsMany old new
not_checked check.Halted old new h = refused old new _ h
not_checked (check.InFlight n) old new h = refused old new _ h
not_checked (check.ReadFault j c) old new h = h.rests.disks.same.as_many
not_checked check.NoMemory old new h = refused old new _ h

wrote_readied : (sector : ℕ) (bytes : List ℕ) (old new : MirrorView) → WritesReadied sector bytes old new → AsMany old new
wrote_readied sector bytes old new w = wrote sector bytes w.ready new w.writes ∙ readied old w.ready w.readied

-- ---- an input that is written piece by piece
pieces_wrote : (sector left : ℕ) (pieces : List (List ℕ)) (old new : MirrorView) → WritesPieces sector left pieces old new → AsMany old new
pieces_wrote sector left [] old new h = same old new h
pieces_wrote sector left (piece ∷ pieces) old new h =
    pieces_wrote (sector + length piece / 512) (left - length piece / 512) pieces h.0 new h.3 ∙ wrote sector piece old h.0 h.2

front_wrote : (sector count : ℕ) (bytes : List ℕ) (old new : MirrorView) → WritesFront sector count bytes old new → AsMany old new
front_wrote sector count bytes old new w = pieces_wrote sector count w.pieces w.ready new w.each ∙ readied old w.ready w.readied.readied

some_wrote : (sector count written : ℕ) (bytes : List ℕ) (old new : MirrorView) → HasWritten sector count written bytes old new → AsMany old new
some_wrote sector count written bytes old new h = elim (cases_lt 0 written) [
  | inl some ↦ front_wrote sector count bytes old new (h.some some)
  | inr none ↦ same old new (h.none (omega arith))
]

bytes_wrote : (told : Option ℕ) (sector : ℕ) (bytes : List ℕ) (old new : MirrorView) → WritesBytes told sector bytes old new → AsMany old new
bytes_wrote None sector bytes old new w = wrote_readied sector bytes old new w
bytes_wrote (Some len) sector bytes old new w = front_wrote sector (len / 512) bytes old new w.1

module _ {I : Type 0} (i : SourceGhosts I) (sector : ℕ) (old new : MirrorView) (input rest : I) where
  pieces_refused : (len written : ℕ) (fault : CommandFault) → RefusesPieces i sector len written old new input rest fault → AsMany old new
  pieces_refused len written InputFault h = some_wrote sector (len / 512) written h.bytes old new h.stands
  pieces_refused len written NoPieceMemory h = same old new h.1
  pieces_refused len written BadLength h = some_wrote sector (len / 512) written h.bytes old new h.stands
  pieces_refused len written (Resync fault) h = not_readied fault old new h.refused
  pieces_refused len written (Write begin.OutOfRange) h = readied old new h.readied
  pieces_refused len written (Write fault) h =
      not_written fault (sector + written) h.piece h.mid new h.refused ∙ front_wrote sector (len / 512) h.bytes old h.mid h.stands
  pieces_refused len written fault h = absurd h

  in_memory_refused : (fault : CommandFault) → RefusesInMemory i sector old new input rest fault → AsMany old new
  in_memory_refused (Resync fault) h = not_readied fault old new h.refused
  in_memory_refused (Write fault) h = not_written fault sector h.bytes h.refused.ready new h.refused.refused ∙ readied old h.refused.ready h.refused.readied
  in_memory_refused fault h = same old new h.1

  writing_refused : (written : ℕ) (told : Option ℕ) (fault : CommandFault) → RefusesWriting i sector old new input rest told written fault → AsMany old new
  writing_refused written None fault h = in_memory_refused fault h.1
  writing_refused written (Some len) fault h = pieces_refused len written fault h

module _ {S : Type 0} (s : SinkGhosts S) (old new : MirrorView) (before after : S) where
  pub stops_as_many : (fault : CommandFault) → RefusesToStop s old new before after fault → AsMany old new
  stops_as_many (Stop fault) h = not_stopped fault old new h.0
  stops_as_many OutputFault h = stopped old new h.0
  stops_as_many fault h = absurd h

  pub resyncs_as_many : (fault : CommandFault) → RefusesToResync s old new before after fault → AsMany old new
  resyncs_as_many (Resync fault) h = not_resynced fault old new h.0
  resyncs_as_many (Stop fault) h = fails_after (Resyncs old) old new fault (resynced old) h.0
  resyncs_as_many OutputFault h = stopped_after (Resyncs old) old new (resynced old) h.0
  resyncs_as_many fault h = absurd h

  pub done_check : (count : ℕ) → ChecksMembers s count old new before after → AsMany old new
  done_check count h = h.checks.rests.disks.same.as_many

  pub checks_as_many : (fault : CommandFault) → RefusesToCheck s old new before after fault → AsMany old new
  checks_as_many (Check fault) h = not_checked fault old new h.0
  checks_as_many OutputFault h = h.checks.rests.disks.same.as_many
  checks_as_many fault h = absurd h

  pub done_list : (text_of : Comparison → List ℕ) (count : ℕ) → ListsMismatches s text_of count old new before after → AsMany old new
  done_list text_of count h = h.compares.finds.rests.disks.same.as_many

  pub lists_as_many : (fault : CommandFault) → RefusesToList s old new before after fault → AsMany old new
  lists_as_many (Check fault) h = not_checked fault old new h.0
  lists_as_many OutputFault h = h.compares.finds.rests.disks.same.as_many
  lists_as_many fault h = absurd h

  module _ {I : Type 0} (i : SourceGhosts I) (sector : ℕ) (count : Option ℕ) (input rest : I) (written : ℕ) where
    abbrev known : Option ℕ
    known = known_length count (i.told input)

    unread : (fault : CommandFault) → RefusesToldInput i s sector count old new input rest before after fault → AsMany old new
    unread fault h = same old new h.unchanged

    not_all_written : (fault : CommandFault) → FailsInput i s sector count old new input rest before after written fault → AsMany old new
    not_all_written fault h = writing_refused i sector old new input rest written known fault h.refused

    pub writes_as_many : (fault : CommandFault) → RefusesToWrite i s sector count old new input rest before after written fault → AsMany old new
    writes_as_many InputFault h = not_all_written InputFault h
    writes_as_many NoPieceMemory h = not_all_written NoPieceMemory h
    writes_as_many OutOfRange h = ⊎_elim (unread OutOfRange) (not_all_written OutOfRange) h
    writes_as_many BadLength h = ⊎_elim (unread BadLength) (not_all_written BadLength) h
    writes_as_many (Resync fault) h = not_all_written (Resync fault) h
    writes_as_many (Write fault) h = ⊎_elim
        (λ r. refused old new _ r.refused)
        (⊎_elim (unread (Write fault)) (not_all_written (Write fault)))
        h
    writes_as_many (Stop fault) h = fails_after (WritesBytes known sector h.bytes old) old new fault (bytes_wrote known sector h.bytes old) h.refused
    writes_as_many OutputFault h = stopped_after (WritesBytes known sector h.bytes old) old new (bytes_wrote known sector h.bytes old) h.done
    writes_as_many fault h = absurd h

-- where the command is done
pub done_resync : (old new : MirrorView) → StopsAfter (Resyncs old) new → AsMany old new
done_resync old new = stopped_after (Resyncs old) old new (resynced old)

pub done_write : {I S : Type 0} (i : SourceGhosts I) (s : SinkGhosts S) (sector : ℕ) (count : Option ℕ) (old new : MirrorView) (input rest : I) (before after : S)
    → WritesArray i s sector count old new input rest before after → AsMany old new
done_write i s sector count old new input rest before after h =
    stopped_after (WritesBytes (known_length count (i.told input)) sector h.bytes old) old new (bytes_wrote (known_length count (i.told input)) sector h.bytes old) h.done

-- ---- a member fails
failed : (k : ℕ) (old new : MirrorView) → FailsMember k old new → AsMany old new
failed k old new f = ap length f.disks

not_failed : (fault : FailFault) (k : ℕ) (old new : MirrorView) → RefusesFail k old new fault → AsMany old new
not_failed fail.Halted k old new h = refused old new _ h
not_failed fail.NotActive k old new h = refused old new _ h
not_failed fail.LastMember k old new h = refused old new _ h
not_failed fail.EventsFull k old new h = refused old new _ h

module _ {S : Type 0} (s : SinkGhosts S) (k : ℕ) (old new : MirrorView) (before after : S) where
  pub done_fail : {text_of : ArrayView → List ℕ} → StopsArrayAfter s text_of (FailsMember k old) new before after → AsMany old new
  done_fail h = stopped h.mid new h.stops.stops ∙ failed k old h.mid h.through

  not_stopped_after : (fault : CommandFault) → FailsToStopArray s (FailsMember k old) new before after fault → AsMany old new
  not_stopped_after fault h = stops_as_many s h.mid new before after fault h.refused ∙ failed k old h.mid h.through

  pub fails_as_many : (fault : CommandFault) → RefusesToFail s k old new before after fault → AsMany old new
  fails_as_many BadMember h = refused old new _ h.0
  fails_as_many (Fail fault) h = not_failed fault k old new h.0.1
  fails_as_many fault h = not_stopped_after fault h

-- ---- a member is removed
not_removed : (fault : RemoveFault) (k : ℕ) (old new : MirrorView) → RefusesRemove k old new fault → AsMany old new
not_removed remove.Halted k old new h = refused old new _ h
not_removed remove.StillActive k old new h = refused old new _ h
not_removed remove.EventsFull k old new h = refused old new _ h

pub stays : (k : ℕ) (old new : MirrorView) (fault : CommandFault) → RefusesRemoving k old new fault → AsMany old new
stays k old new BadMember h = refused old new _ h
stays k old new (Remove fault) h = not_removed fault k old new h.1
stays k old new fault h = absurd h

-- the array is stopped after it, or not
as_many_stopped : {S : Type 0} (text_of : ArrayView → List ℕ) (s : SinkGhosts S) (old new : MirrorView) (before after : S) (result : Result (Unit {0}) CommandFault)
    → MatchResult result (λ _. StopsArray s text_of old new before after) (RefusesToStop s old new before after) → AsMany old new
as_many_stopped text_of s old new before after (Ok x) h = stopped old new h.stops
as_many_stopped text_of s old new before after (Err fault) h = stops_as_many s old new before after fault h

pub leaves : {S : Type 0} (text_of : ArrayView → List ℕ) (s : SinkGhosts S) (k : ℕ) (d : Disk) (old mid new : MirrorView) (before after : S) (result : Result (Unit {0}) CommandFault)
    → Removes k d old mid → MatchResult result (λ _. StopsArray s text_of mid new before after) (RefusesToStop s mid new before after) → HandsBack k old.disks new.disks (Some d)
leaves text_of s k d old mid new before after result r h = (
  r.device,
  ap (λ (n : ℕ). n + 1) (as_many_stopped text_of s mid new before after result h ∙ ap length r.disks) ∙ length-remove old.disks k (slice_get_within old.disks k d r.device),
)

-- ---- a device is added
added : (k : ℕ) (device : Disk) (old new : MirrorView) → Adds k device old new → length new.disks ≡ length old.disks + 1
added k device old new a = ap length a.comes.disks ∙ length-append old.disks (a.comes.now ∷ [])

not_added : (fault : AddFault) (device given : Disk) (old new : MirrorView) → RefusesAdd device given old new fault → AsMany old new
not_added add.Halted device given old new h = same old new h.unchanged
not_added add.TooSmall device given old new h = same old new h.unchanged
not_added add.Full device given old new h = same old new h.unchanged
not_added add.EventsFull device given old new h = same old new h.unchanged
not_added add.WriteFault device given old new h = same old new h.fails.unchanged
not_added add.NoMemory device given old new h = same old new h.unchanged

pub joins : {S : Type 0} (text_of : ArrayView → List ℕ) (s : SinkGhosts S) (k : ℕ) (device : Disk) (old mid new : MirrorView) (before after : S) (result : Result (Unit {0}) CommandFault)
    → Adds k device old mid → MatchResult result (λ _. StopsArray s text_of mid new before after) (RefusesToStop s mid new before after) → KeepsDevice old.disks new.disks None
joins text_of s k device old mid new before after result a h = as_many_stopped text_of s mid new before after result h ∙ added k device old mid a

pub comes_back : (fault : AddFault) (device given : Disk) (old new : MirrorView) → RefusesAdd device given old new fault → KeepsDevice old.disks new.disks (Some given)
comes_back = not_added
