-- Steps of a mirror are a run of it.
use Rattle.std.proofs.Common.{◌≡◌, ℕ, zero, suc, ◌+◌, ◌/◌, List, [], ◌∷◌, ◌++◌, length, None, refl, sym, subst}
use Rattle.md_model.specs.Events.{Event}
use Rattle.md_state.specs.Steps.CopyData.{copies_of, run_write}
use Rattle.md_state.specs.View.{MirrorView}
use Rattle.md_array.specs.Consistency.{IsConsistent}
use Rattle.md_array.specs.InTurn.{AllOf, Requests}
use Rattle.md_array.specs.Worlds.{AreHonest}
use Rattle.md_array.proofs.General.Honesty.{same_honest}
use Rattle.md_array.proofs.General.Resting.{rests_sound}
use Rattle.md_array.proofs.StepLemmas.CopyData.{copied_run_is_consistent}
use Rattle.md_array.proofs.StepLemmas.Turns.{turn_then}
use Rattle.md_laws.specs.ReadInTurn.{IsNoFailedRecord}
use Rattle.md_laws.specs.Runs.{MirrorRun, Moment, then_as}
use Rattle.md_laws.proofs.Runs.CallRuns.{run_on}
use Rattle.md_laws.proofs.Runs.ReadTurns.{read_first, read_run, unread, left_whole}
use Rattle.md_laws.proofs.Runs.Rests.{rests_same}
use Rattle.md_resync.specs.StepRuns.{StepsAreRuns}
use Rattle.md_resync.specs.Steps.{MirrorStep, StepsInTurn, copies_in, events_of_steps}
use Rattle.md_resync.proofs.CopiedRuns.{tried_same}

-- the first of them lead to where the others begin
steps_apart : (steps more : List MirrorStep) (old : MirrorView) (before : Requests) (P : MirrorView → Requests → Type 0)
    → StepsInTurn old before (steps ++ more) P → StepsInTurn old before steps (λ m r. StepsInTurn m r more P)
steps_apart [] more old before P t = (old, rests_same old, t)
steps_apart (MirrorStep.Single e ∷ steps) more old before P t = (t.0, t.1, t.2, t.3, t.4, t.5, t.6, t.7, steps_apart steps more t.1 t.2 P t.8)
steps_apart (MirrorStep.CopyRun r ∷ steps) more old before P t = (t.0, t.1, t.2, t.3, t.4, steps_apart steps more t.1 before P t.5)

all_after : (Of : Event → Type 0) (es fs : List Event) → AllOf Of (es ++ fs) → AllOf Of fs
all_after Of [] fs all = all
all_after Of (e ∷ es) fs all = all_after Of es fs all.1

no_record : (from k s n : ℕ) → AllOf IsNoFailedRecord (copies_of from k s n)
no_record from k s zero = tt
no_record from k s (suc n) = (tt, no_record from k (s + 1) n)

steps_run : (steps : List MirrorStep) (h : Moment) (Then : MirrorView → Requests → Type 0) → StepsInTurn h.mirror h.requests steps Then → AllOf IsNoFailedRecord (events_of_steps steps)
    → AreHonest h.mirror.disks → IsConsistent h.mirror
    → (last : Moment) × MirrorRun h (events_of_steps steps) last × AreHonest last.mirror.disks × IsConsistent last.mirror × Then last.mirror last.requests
steps_run [] h Then t all honest sound =
    (record h { mirror = t.0 }, record { rests = t.1; is = refl }, same_honest h.mirror.disks t.0.disks t.1.disks.same honest, rests_sound h.mirror t.0 t.1 sound, t.2)
steps_run (MirrorStep.Single e ∷ steps) h Then t all honest sound =
    let does = t.6 (same_honest h.mirror.disks t.0.disks t.3.disks.same honest) (left_whole e t.0 t.1 all.0) in
    let rest = steps_run steps (then_as h e t.1 t.2) Then t.8 all.1 does.honest does.sound in
    (rest.0, (t.1, t.2, record { mid = t.0; rests = t.3; does = does }, rest.1), rest.2, rest.3, rest.4)
steps_run (MirrorStep.CopyRun r ∷ steps) h Then t all honest sound =
    let Here : MirrorView → Requests → Type 0 = λ m s. StepsInTurn m s steps Then × AreHonest m.disks × IsConsistent m in
    let tried = t.3.disks.tried in
    let honest_there = same_honest t.0.disks t.1.disks (tried_same r.to (run_write t.3.copy.may.target r.sector r.bytes) t.0.disks t.1.disks tried)
    (same_honest h.mirror.disks t.0.disks t.2.disks.same honest) in
    let sound_there = copied_run_is_consistent r.to r.sector r.bytes t.0 (rests_sound h.mirror t.0 t.2 sound) t.3.copy t.1 t.3 in
    let turn = turn_then (copies_in r) None t.0 h.requests (λ m s. (m ≡ t.1) × (s ≡ h.requests)) Here
    (λ m s at. subst (λ (x : MirrorView). Here x s) (sym at.0) (subst (λ (x : Requests). Here t.1 x) (sym at.1) (t.5, honest_there, sound_there)))
    (t.4 None) in
    let here = read_run (copies_in r) None h Here (read_first (copies_in r) None h.mirror t.0 h.requests Here t.2 (unread (copies_in r) None t.0 h.requests Here turn))
    (no_record r.from r.to r.sector (length r.bytes / 512)) honest in
    let rest = steps_run steps here.0 Then here.2.0 (all_after IsNoFailedRecord (copies_in r) (events_of_steps steps) all) here.2.1 here.2.2 in
    (rest.0, run_on (copies_in r) (events_of_steps steps) h here.0 rest.0 here.1 rest.1, rest.2, rest.3, rest.4)

pub steps_are_runs : StepsAreRuns
steps_are_runs steps more t new after leads = steps_run steps t (λ m r. StepsInTurn m r more (λ m r. (m ≡ new) × (r ≡ after))) (steps_apart steps more t.mirror t.requests (λ m r. (m ≡ new) × (r ≡ after)) leads)
