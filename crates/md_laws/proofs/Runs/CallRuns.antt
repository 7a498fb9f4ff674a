-- A call's events are a run of the mirror.
use Rattle.std.proofs.Common.{◌≡◌, ◌∙◌, ℕ, List, [], ◌∷◌, Option, Some, refl, sym, ap}
use Rattle.std.proofs.lemmas.Option.{slice_get_within}
use Rattle.md_bitmap.specs.Marks.{Bitmap}
use Rattle.md_kept_members.specs.Members.{recorded_member}
use Rattle.md_kept_members.specs.View.{MemberView}
use Rattle.md_model.specs.Content.{Content}
use Rattle.md_model.specs.Events.{Event}
use Rattle.md_state.specs.Steps.Checkpoint.{checked, with_member_at}
use Rattle.md_state.specs.View.{ArrayView, MirrorView}
use Rattle.md_array.specs.Steps.Checkpoint.{Checkpoints, checkpoint_event}
use Rattle.md_array.specs.Consistency.{IsConsistent}
use Rattle.md_array.specs.Steps.Enrol.{HoldsContent}
use Rattle.md_array.specs.Events.{Happens}
use Rattle.md_array.specs.Steps.Record.{Records}
use Rattle.md_array.specs.InTurn.{AllLeftWhole, InTurn, Requests}
use Rattle.md_array.specs.Worlds.{AreHonest}
use Rattle.md_array.proofs.General.Indices.{at_set_same}
use Rattle.md_array.proofs.Rebuilding.Admit.{admit_spoils}
use Rattle.md_array.proofs.Rebuilding.AdmitEvent.{admit_happens}
use Rattle.md_array.proofs.Rebuilding.NoteBad.{note_happens, notes_within}
use Rattle.md_array.proofs.Rebuilding.Checkpoint.{checkpoint_spoils}
use Rattle.md_array.proofs.Rebuilding.CheckpointEvent.{checkpoint_happens}
use Rattle.md_array.proofs.Rebuilding.EnrolSpoils.{unenrol_leads}
use Rattle.md_array.proofs.Rebuilding.EnrolEvent.{enrol_leads}
use Rattle.md_array.proofs.Rebuilding.FilledEvent.{fill_happens}
use Rattle.md_array.proofs.Rebuilding.StoreLog.{log_happens, store_log_fails_happens}
use Rattle.md_array.proofs.Rebuilding.OffsetMoved.{moved_is_consistent, set_again}
use Rattle.md_array.proofs.Rebuilding.PreparedEvent.{prepare_happens}
use Rattle.md_array.proofs.Rebuilding.SpoiledEvent.{spoil_happens}
use Rattle.md_array.proofs.Rebuilding.RecordTargetEvent.{target_fails_happens}
use Rattle.md_array.proofs.StepLemmas.Fail.{fail_happens}
use Rattle.md_array.proofs.StepLemmas.Remove.{remove_happens}
use Rattle.md_array.proofs.StepLemmas.AddEvent.{add_happens}
use Rattle.md_array.proofs.StepLemmas.Record.{record_happens, recorded_is_consistent}
use Rattle.md_array.proofs.StepLemmas.ReAddEvent.{re_add_happens}
use Rattle.md_laws.proofs.Crashes.WithinTarget.{recovering_recorded}
use Rattle.md_laws.specs.Runs.{MirrorRun, Moment, then_as}
use Rattle.md_laws.specs.WholeCalls.{AddIsACall, AdmitIsACall, CallsAreRuns, CheckpointIsACall, EnrolIsACall, FailIsACall, FailedAdmitIsACall, FailedCheckpointIsACall, FailedEnrolIsACall, FillIsACall, NoteBadIsACall, PrepareIsACall, ReAddIsACall, RemoveIsACall, RunsGoOn, SpoilIsACall, StoreLogFailureIsACall, StoreLogIsACall, TargetFailureIsACall}
use Rattle.md_laws.proofs.Runs.MirrorRuns.{rests_run}
use Rattle.md_laws.proofs.Runs.Rests.{at_once, at_rest}

-- a call's events go on with a mirror's run
pub then_run : (es : List Event) (previous : Option Event) (h : Moment) (Then : MirrorView → Requests → Type 0) (t : InTurn previous h.mirror h.requests es Then)
    → AreHonest h.mirror.disks → AllLeftWhole es previous h.mirror h.requests Then t → (last : Moment) × MirrorRun h es last × Then last.mirror last.requests
then_run [] previous h Then t honest whole = (h, at_rest h, t)
then_run (e ∷ es) previous h Then t honest whole =
    let does = t.4 honest whole.0 in
    let rest = then_run es (Some e) (then_as h e t.0 t.1) Then t.5 does.honest whole.1 in
    (rest.0, (t.0, t.1, at_once h.mirror t.0 h.requests t.1 e does, rest.1), rest.2)

pub run_on : RunsGoOn
run_on [] fs h mid last r s = rests_run fs h mid last r s
run_on (e ∷ es) fs h mid last r s = (r.0, r.1, r.2, run_on es fs (then_as h e r.0 r.1) mid last r.3 s)

pub call_is_run : CallsAreRuns
call_is_run es previous h new after t honest whole = then_run es previous h (λ m r. (m ≡ new) × (r ≡ after)) t honest whole

-- one event
pub fail_is_a_call : FailIsACall
fail_is_a_call k old new sound fails previous requests listed =
    (new, requests, tt, (refl, fails), λ honest whole. fail_happens k old new sound fails honest requests listed, (refl, refl))

pub remove_is_a_call : RemoveIsACall
remove_is_a_call k disk old new sound leaves previous requests listed =
    (new, requests, tt, (refl, (disk, leaves)), λ honest whole. remove_happens k disk old new sound leaves honest requests listed, (refl, refl))

pub re_add_is_a_call : ReAddIsACall
re_add_is_a_call k device old new sound own r previous requests listed =
    (new, requests, tt, (refl, record { index = k; device = device; re_adds = r; event = refl }), λ honest whole. re_add_happens k device old new sound r own honest requests listed, (refl, refl))

pub add_is_a_call : AddIsACall
add_is_a_call k device old new sound own r previous requests listed =
    (new, requests, tt, (refl, record { index = k; device = device; adds = r; event = refl }), λ honest whole. add_happens k device old new sound r own honest requests listed, (refl, refl))

-- ---- a rebuild
pub fill_is_a_call : FillIsACall
fill_is_a_call k old new sound fills previous requests listed =
    (new, requests, tt, (refl, fills), λ honest whole. fill_happens k old new sound fills honest requests listed, (refl, refl))

pub target_failure_is_a_call : TargetFailureIsACall
target_failure_is_a_call k old new sound fails previous requests listed =
    let m = fails.leaves.member in
    let at = fails.leaves.may.at in
    (new, requests, tt, (refl, fails), λ honest whole. target_fails_happens k old new sound fails m at (whole m at) honest requests listed, (refl, refl))

pub prepare_is_a_call : PrepareIsACall
prepare_is_a_call k old new sound prepares previous requests listed =
    (new, requests, tt, (refl, prepares), λ honest whole. prepare_happens k old new sound prepares honest requests listed, (refl, refl))

pub enrol_is_a_call : EnrolIsACall
enrol_is_a_call k copied orphans old new before after may r previous requests listed = enrol_leads k copied orphans old new before after may r previous requests listed

pub failed_enrol_is_a_call : FailedEnrolIsACall
failed_enrol_is_a_call k copied orphans old new sound may f super previous requests listed = unenrol_leads k copied orphans old new sound f super may previous requests listed

pub spoil_is_a_call : SpoilIsACall
spoil_is_a_call k old new sound spoils previous requests listed =
    (new, requests, tt, (refl, spoils), λ honest whole. spoil_happens k old new sound spoils honest requests listed, (refl, refl))

-- ---- a member that is recovering
pub admit_is_a_call : AdmitIsACall
admit_is_a_call k old new sound r spare previous requests listed =
    (new, requests, tt, (refl, record { index = k; admits = r; event = refl }), λ honest whole. admit_happens k old new sound r spare honest requests listed, (refl, refl))

pub failed_admit_is_a_call : FailedAdmitIsACall
failed_admit_is_a_call k old new sound f spare = spoil_is_a_call k old new sound (admit_spoils k old new sound f spare)

-- the offsets change in memory, and then the superblock is recorded
module _ (k : ℕ) (copied : Bitmap) (old new : MirrorView) (sound : IsConsistent old) (r : Checkpoints k copied old new) where
  abbrev a : ArrayView
  a = old.array

  abbrev m : MemberView
  m = r.may.member

  abbrev n : MemberView
  n = checked r.sure m

  abbrev mid : MirrorView
  mid = record old { array = with_member_at a k n }

  mid_sound : IsConsistent mid
  mid_sound = moved_is_consistent k n.offset r.sure n.due old mid sound m r.may.at refl r.may.recovering

  records : Records k mid new
  records = record {
    member = n;
    may = record {
      running = r.may.idle.running;
      at = at_set_same a.members k n (slice_get_within a.members k m r.may.at);
      active = recovering_recorded m.state r.may.recovering;
      readable = r.readable;
    };
    disks = r.disks;
    array = r.array ∙ ap (λ (xs : List MemberView). record a { members = xs }) (sym (set_again a.members k n (recorded_member n)));
  }

  checkpointed : (content : Content) → HoldsContent old.disks a content → Happens old (checkpoint_event r) new
  checkpointed = checkpoint_happens k copied old mid new sound r.may r.sure r.first refl records (recorded_is_consistent k mid new mid_sound records) (record_happens k mid new mid_sound records)

pub checkpoint_is_a_call : CheckpointIsACall
checkpoint_is_a_call k copied old new sound r previous requests listed =
    (new, requests, tt, (refl, record { index = k; copied = copied; checkpoints = r; event = refl }), λ honest whole. checkpointed k copied old new sound r whole.0 whole.1 honest requests listed, (refl, refl))

pub failed_checkpoint_is_a_call : FailedCheckpointIsACall
failed_checkpoint_is_a_call k copied old new sound f recovers = spoil_is_a_call k old new sound (checkpoint_spoils k copied old new sound f recovers)

-- ---- a list that grows
pub note_bad_is_a_call : NoteBadIsACall
note_bad_is_a_call k more old new sound notes in_sync resynced of all previous requests listed =
    (new, requests, tt, (refl, notes_within k more old new of notes), λ honest whole. note_happens k more old new sound notes (in_sync notes.notes.may.member notes.notes.may.at) resynced all more (λ s _. refl) honest requests listed, (refl, refl))

pub store_log_is_a_call : StoreLogIsACall
store_log_is_a_call k old new sound r canonical previous requests listed =
    (new, requests, tt, (refl, r), λ honest whole. log_happens k old new sound r canonical honest requests listed, (refl, refl))

pub store_log_failure_is_a_call : StoreLogFailureIsACall
store_log_failure_is_a_call k old new sound fails previous requests listed =
    (new, requests, tt, (refl, fails), λ honest whole. store_log_fails_happens k old new sound fails honest requests listed, (refl, refl))
