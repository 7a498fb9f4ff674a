-- A rebuild wins and loses no device, and of the commands that rebuild only the one that takes a device back wins it.
use Rattle.std.proofs.Common.{◌≡◌, ◌∙◌, ⊎_elim, ℕ, ◌+◌, List, [], ◌∷◌, length, None, Some, Result, Ok, Err, MatchResult, ap}
use Rattle.std.proofs.lemmas.List.{length-append}
use Rattle.md_bitmap.specs.Marks.{Bitmap}
use Rattle.md_cert.specs.declared.slots.Slot.{Slot}
use Rattle.md_kept_members.specs.View.{MemberView}
use Rattle.md_copy.specs.PassLaws.Passes.{PassView, failed_chunks, slots_of_pass}
use Rattle.md_faults.specs.declared.re_add_fault.ReAddFault.{ReAddFault}
use Rattle.md_metadata.specs.Going.{GoesOn, only_others}
use Rattle.md_metadata.specs.Storing.{IsStoring}
use Rattle.md_resync.specs.declared.fault.ResyncFault.{ResyncFault}
use Rattle.md_state.specs.View.{ArrayView, Disk, MirrorView}
use Rattle.md_array.specs.Steps.ReAdd.{ReAdds}
use Rattle.md_copy.specs.declared.beginning.fault.RebuildFault.{RebuildFault}
use Rattle.md_copy.specs.declared.beginning.fault.RebuildFault.TheVariants as rebuild
use Rattle.md_copy.specs.Table.Sources.{missing_chunks}
use Rattle.md_copy.specs.declared.rebuilt.Rebuilt.{Rebuilt}
use Rattle.md_copy.specs.Ending.Leaving.{RecordsAtEnd, LeavesAfter}
use Rattle.md_copy.specs.Passes.Listing.{EndsListing}
use Rattle.md_copy.specs.Passes.Passing.{AreListedPasses, BreaksOffPass, CopiesAll, EndsBetween, FailsListing, FailsRecording, LacksMemoryToPass, MakesPart, RecordsPass}
use Rattle.md_copy.specs.Passes.Stretches.{AreRecorded, slots_after}
use Rattle.md_copy.specs.Readying.Admission.{AdmitsAfter, AdmitsFirst, EndsAdmitted, LowersTarget}
use Rattle.md_copy.specs.Rebuilding.{BeginsRebuild, EndsFilled, EndsReadied, FillsBy, LacksMemoryToRebuild, LacksRoom, LosesSource, LosesTarget, Rebuilds, RefusesRebuild}
use Rattle.md_copy.specs.Readying.Storing.{HaltsUntilDone, StoresUntilDone, EndsAtOther}
use Rattle.md_streams.specs.declared.sink.Sink.{Ghosts}
use Rattle.md_metadata.specs.declared.coming_back.extent_of_rebuild.RebuildExtent.{RebuildExtent}
use Rattle.md_metadata.specs.declared.coming_back.extent_of_rebuild.RebuildExtent.TheVariants.{All, Marked}
use Rattle.md_refusals.specs.declared.fault.CommandFault.{CommandFault}
use Rattle.md_refusals.specs.declared.fault.CommandFault.TheVariants.{BadMember, OutputFault, Rebuild, Resync, Stop}
use Rattle.md_commands.specs.Adding.{KeepsDevice}
use Rattle.md_metadata.specs.ComingBack.{ComesBack, HandsBackAsWas}
use Rattle.md_commands.specs.ReAdding.{ComesBackReadied, RebuildsMember, RefusesRebuilding}
use Rattle.md_commands.specs.Rebuilding.{RebuildsArray, RebuildsResynced, RefusesToRebuild}
use Rattle.md_commands.specs.Resyncing.{RefusesNeededResync, ResyncsIfNeeded}
use Rattle.md_commands.specs.Stopping.{StopsArrayAfter}
use Rattle.md_commands.proofs.DeviceCounts.{AsMany, KeepsMembers, fails_after, halts, led, none_in_flight, not_readied, nothing, readied, same, stopped, stopped_after, stops_as_many}

storing_keeps : KeepsMembers IsStoring
storing_keeps = record { removes = λ k of. of; adds = λ d left of. of; re_adds = λ own offset device left of. of; enrols = λ k role listed of. of }

pub gone_on : (old new : MirrorView) → GoesOn only_others only_others IsStoring old new → AsMany old new
gone_on old new goes = led IsStoring storing_keeps goes.events None old new nothing nothing goes.steps (goes.leads None nothing (none_in_flight old.array))

halted_after : (old new : MirrorView) → HaltsUntilDone old new → AsMany old new
halted_after old new h = halts h.failing h.mid new nothing (h.halts nothing) ∙ gone_on old h.mid h.goes

pub settled : (old new : MirrorView) → StoresUntilDone old new → AsMany old new
settled old new s = ⊎_elim (λ all. gone_on old new all.goes) (λ h. halted_after old new h) s

admitted : (k : ℕ) (old new : MirrorView) → AdmitsAfter k old new → AsMany old new
admitted k old new a = a.admits.disks.tried.as_many ∙ gone_on old a.stored a.first.stores.goes

admitted_first : (k : ℕ) (old ready : MirrorView) → AdmitsFirst k old ready → AsMany old ready
admitted_first k old ready a = gone_on a.admitted ready a.then.stores.goes ∙ admitted k old a.admitted a.after

pub lowered : (k : ℕ) (none : Bitmap) (old mid : MirrorView) → LowersTarget k none old mid → AsMany old mid
lowered k none old mid h = ⊎_elim (λ l. ap length l.lowers.disks) (λ is. same old mid is.0) h

pub begun : (k : ℕ) (old ready : MirrorView) (none : Bitmap) → BeginsRebuild k old ready none → AsMany old ready
begun k old ready none b =
    ⊎_elim (λ r. gone_on b.lowered ready r.1.stores.goes) (λ a. admitted_first k b.lowered ready a.1) b.first ∙ lowered k none old b.lowered b.lowers

pub stopped_at : (k j : ℕ) (old new : MirrorView) → EndsAtOther k j old new → AsMany old new
stopped_at k j old new s =
    ⊎_elim (λ lost. gone_on old new lost.loses.goes) (λ at. halts at.failing at.mid new nothing (at.halts nothing) ∙ gone_on old at.mid at.stores.goes) s.ends

pub stopped_admitted : (k j : ℕ) (old new : MirrorView) → EndsAdmitted k j old new → AsMany old new
stopped_admitted k j old new s = stopped_at k j s.admitted new s.ends ∙ admitted k old s.admitted s.after

-- ---- passes
stretched : (k : ℕ) (rounds : List ℕ) (slots left : List Slot) (before after : Bitmap) (old new : MirrorView) → AreRecorded k rounds slots left before after old new → AsMany old new
stretched k [] slots left before after old new h = same old new h.2
stretched k (round ∷ rounds) slots left before after old new h =
    stretched k rounds (slots_after round slots) left h.0 after h.1 new h.3 ∙ (h.2.checkpoints.disks.tried.as_many ∙ h.2.makes.copies.filling.as_many)

in_part : (k : ℕ) (chunks : List ℕ) (before after : Bitmap) (old new : MirrorView) → MakesPart k chunks before after old new → AsMany old new
in_part k chunks before after old new p = stretched k p.rounds (slots_of_pass p.pass) p.left before after old new p.stretches

pub recorded : (k : ℕ) (chunks : List ℕ) (p : PassView) (before after : Bitmap) (old new : MirrorView) → RecordsPass k chunks p before after old new → AsMany old new
recorded k chunks p before after old new r = stretched k r.stretches.rounds (slots_of_pass p) [] before after old new r.stretches.all

listed : (k : ℕ) (passes : List PassView) (chunks left : List ℕ) (before after : Bitmap) (old new : MirrorView)
    → AreListedPasses k passes chunks left before after old new → AsMany old new
listed k [] chunks left before after old new h = same old new h.2
listed k (p ∷ ps) chunks left before after old new h =
    listed k ps (failed_chunks p) left h.0 after h.1 new h.3 ∙ (h.2.lists.writes.as_many ∙ recorded k chunks p before h.0 old h.2.recorded h.2.records)

copied_all : (k : ℕ) (m : MemberView) (passes : List PassView) (before after : Bitmap) (old new : MirrorView)
    → CopiesAll k m passes before after old new → AsMany old new
copied_all k m passes before after old new c =
    recorded k c.left c.last c.mid after c.now new c.records ∙ listed k c.listed (missing_chunks old.array m) c.left before c.mid old c.now c.passed

between : (k : ℕ) (m : MemberView) (before : Bitmap) (old new : MirrorView) (Why : List ℕ → Bitmap → MirrorView → Type 0)
    → ((left : List ℕ) (copied : Bitmap) (now : MirrorView) → Why left copied now → AsMany now new) → EndsBetween k m before old Why → AsMany old new
between k m before old new Why after e =
    after e.left e.copied e.now e.why ∙ listed k e.passes (missing_chunks old.array m) e.left before e.copied old e.now e.passed

pub broken_off : (k : ℕ) (chunks : List ℕ) (before : Bitmap) (old new : MirrorView) → BreaksOffPass k chunks before old new → AsMany old new
broken_off k chunks before old new b = b.why.breaks.filling.as_many ∙ in_part k chunks before b.copied old b.begun b.part

pub unrecorded : (k : ℕ) (chunks : List ℕ) (before : Bitmap) (old new : MirrorView) → FailsRecording k chunks before old new → AsMany old new
unrecorded k chunks before old new f = f.why.fails.disks.tried.as_many ∙ (f.why.makes.copies.filling.as_many ∙ in_part k chunks before f.copied old f.begun f.part)

pub lacks_in_pass : (k : ℕ) (chunks : List ℕ) (before after : Bitmap) (old new : MirrorView) → LacksMemoryToPass k chunks before after old new → AsMany old new
lacks_in_pass k chunks before after old new h = ⊎_elim (λ is. same old new is.1) (λ part. in_part k chunks before after old new part) h

stopped_listing : (fault : RebuildFault) (failed : List Slot) (old new : MirrorView) → EndsListing failed old new fault → AsMany old new
stopped_listing (rebuild.LogFull j) failed old new s = ap length s.notes.disks
stopped_listing rebuild.NoMemory failed old new s = ap length s.notes.disks
stopped_listing (rebuild.MetadataFault j) failed old new s = s.2.writes.as_many ∙ ap length s.1.disks
stopped_listing fault failed old new s = absurd s

not_listed : (fault : RebuildFault) (k : ℕ) (chunks : List ℕ) (before after : Bitmap) (old new : MirrorView)
    → FailsListing k fault chunks before after old new → AsMany old new
not_listed fault k chunks before after old new f =
    stopped_listing fault f.pass.failed f.recorded new f.fails ∙ recorded k chunks f.pass before after old f.recorded f.records

-- ---- the whole call
filled : (k : ℕ) (m : MemberView) (passes : List PassView) (none copied kept orphans : Bitmap) (chunks : List ℕ) (ready now : MirrorView)
    → FillsBy k m passes none copied kept orphans chunks ready now → AsMany ready now
filled k m passes none copied kept orphans chunks ready now f = copied_all k m passes none copied ready now f.copies

rebuilt : (k : ℕ) (told : Rebuilt) (old new : MirrorView) → Rebuilds k told old new → AsMany old new
rebuilt k told old new r =
    let by = r.rebuilds.by in
    settled by.enrolled new by.stores_until_done
    ∙ (by.enrols.disks.as_many
    ∙ (filled k r.begins.now r.rebuilds.passes r.none r.rebuilds.copied r.rebuilds.kept r.rebuilds.orphans r.rebuilds.chunks r.ready by.filled by.fills
    ∙ begun k old r.ready r.none r.begins))

when_filled : (k : ℕ) (m : MemberView) (none : Bitmap) (ready new : MirrorView) (Why : Bitmap → Bitmap → MirrorView → Type 0)
    → ((kept orphans : Bitmap) (now : MirrorView) → Why kept orphans now → AsMany now new) → EndsFilled k m none ready Why → AsMany ready new
when_filled k m none ready new Why after e =
    after e.kept e.orphans e.filled e.why ∙ filled k m e.passes none e.copied e.kept e.orphans e.chunks ready e.filled e.fills

lacks_memory : (k : ℕ) (m : MemberView) (none after : Bitmap) (ready stopped : MirrorView) → LacksMemoryToRebuild k m none after ready stopped → AsMany ready stopped
lacks_memory k m none after ready stopped h =
    ⊎_elim (λ e. between k m none ready stopped _ (λ left copied now why. lacks_in_pass k left copied after now stopped why) e)
    (λ rest.
    ⊎_elim (λ e. between k m none ready stopped _ (λ left copied now why. not_listed rebuild.NoMemory k left copied after now stopped why) e)
    (λ e. when_filled k m none ready stopped _ (λ kept orphans now why. same now stopped why.unchanged) e)
    rest)
    h

lacks_room : (j k : ℕ) (m : MemberView) (none after : Bitmap) (ready stopped : MirrorView) → LacksRoom j k m none after ready stopped → AsMany ready stopped
lacks_room j k m none after ready stopped h =
    ⊎_elim (λ e. between k m none ready stopped _ (λ left copied now why. not_listed (rebuild.LogFull j) k left copied after now stopped why) e)
    (λ e. when_filled k m none ready stopped _ (λ kept orphans now why. same now stopped why.unchanged) e.1)
    h

loses_source : (j k : ℕ) (m : MemberView) (none : Bitmap) (ready stopped : MirrorView) → LosesSource j k m none ready stopped → AsMany ready stopped
loses_source j k m none ready stopped h =
    between k m none ready stopped _ (λ left copied now why. not_listed (rebuild.MetadataFault j) k left copied why.0 now stopped why.1) h

loses_target : (k : ℕ) (m : MemberView) (none : Bitmap) (ready new : MirrorView) → LosesTarget k m none ready new → AsMany ready new
loses_target k m none ready new h =
    ⊎_elim (λ e. between k m none ready new _ (λ left copied now why. broken_off k left copied now new why) e)
    (λ rest.
    ⊎_elim (λ e. between k m none ready new _ (λ left copied now why. unrecorded k left copied now new why) e)
    (λ e. when_filled k m none ready new _ (λ kept orphans now why. why.disks.as_many) e)
    rest)
    h

-- how far it came was recorded, or could not be
pub left : (k : ℕ) (copied : Bitmap) (stopped new : MirrorView) → RecordsAtEnd k copied stopped new → AsMany stopped new
left k copied stopped new l =
    ⊎_elim (λ h. same stopped new h.1) (λ c. ⊎_elim (λ done. done.disks.tried.as_many) (λ fails. fails.disks.tried.as_many) c) l

left_after : (k : ℕ) (old new : MirrorView) (Why : Bitmap → MirrorView → Type 0)
    → ((copied : Bitmap) (stopped : MirrorView) → Why copied stopped → AsMany old stopped) → LeavesAfter k Why new → AsMany old new
left_after k old new Why before l = left k l.copied l.stopped new l.leaves ∙ before l.copied l.stopped l.why

when_ready : (k : ℕ) (old new : MirrorView) (Why : MemberView → Bitmap → MirrorView → Type 0)
    → ((m : MemberView) (none : Bitmap) (ready : MirrorView) → Why m none ready → AsMany ready new) → EndsReadied k old Why → AsMany old new
when_ready k old new Why after e = after e.begins.now e.none e.ready e.why ∙ begun k old e.ready e.none e.begins

not_rebuilt : (fault : RebuildFault) (k : ℕ) (old new : MirrorView) → RefusesRebuild k old new fault → AsMany old new
not_rebuilt rebuild.Halted k old new h = same old new h.unchanged
not_rebuilt rebuild.NotSpare k old new h = same old new h.unchanged
not_rebuilt rebuild.Dirty k old new h = same old new h.unchanged
not_rebuilt (rebuild.InFlight number) k old new h = same old new h.unchanged
not_rebuilt rebuild.EventsFull k old new h = same old new h.unchanged
not_rebuilt (rebuild.MetadataFault j) k old new h =
    ⊎_elim (λ e. stopped_at k j e.lowered new e.why ∙ lowered k e.none old e.lowered e.lowers)
    (λ rest.
    ⊎_elim (λ e. stopped_admitted k j e.lowered new e.why ∙ lowered k e.none old e.lowered e.lowers)
    (λ l. left_after k old new _ (λ nothing stopped e. when_ready k old stopped _ (λ m none ready why. loses_source j k m none ready stopped why) e.1) l)
    rest)
    h
not_rebuilt rebuild.TargetFault k old new h =
    ⊎_elim (λ f. f.why.fails.disks.tried.as_many ∙ (gone_on f.lowered f.why.mid f.why.stores.goes ∙ lowered k f.none old f.lowered f.lowers))
    (λ rest.
    ⊎_elim (λ f. f.why.fails.disks.tried.as_many ∙ (gone_on f.lowered f.why.stored f.why.first.stores.goes ∙ lowered k f.none old f.lowered f.lowers))
    (λ e. when_ready k old new _ (λ m none ready why. loses_target k m none ready new why) e)
    rest)
    h
not_rebuilt rebuild.NoMemory k old new h =
    ⊎_elim (λ n. same old new n.unchanged)
    (λ rest.
    ⊎_elim (λ n. gone_on n.lowered new n.why.first.stores.goes ∙ lowered k n.none old n.lowered n.lowers)
    (λ l. left_after k old new _ (λ copied stopped e. when_ready k old stopped _ (λ m none ready why. lacks_memory k m none copied ready stopped why) e) l)
    rest)
    h
not_rebuilt (rebuild.LogFull j) k old new h =
    left_after k old new _ (λ copied stopped e. when_ready k old stopped _ (λ m none ready why. lacks_room j k m none copied ready stopped why) e) h

-- ---- the command that rebuilds a member
rebuilt_readied : (k : ℕ) (told : Rebuilt) (old new : MirrorView) → RebuildsResynced k told old new → AsMany old new
rebuilt_readied k told old new r = rebuilt k told r.ready new r.rebuilds ∙ readied old r.ready r.readied

module _ {S : Type 0} (s : Ghosts S) (k : ℕ) (old new : MirrorView) (before after : S) where
  pub done_rebuild : (text_of : Rebuilt → List ℕ) → RebuildsArray s k old new before after text_of → AsMany old new
  done_rebuild text_of h = stopped_after (RebuildsResynced k h.told old) old new (rebuilt_readied k h.told old) h.done

  pub rebuilds_as_many : (fault : CommandFault) → RefusesToRebuild s k old new before after fault → AsMany old new
  rebuilds_as_many BadMember h = same old new h.0.unchanged
  rebuilds_as_many (Resync fault) h = not_readied fault old new h.refused
  rebuilds_as_many (Rebuild fault) h = not_rebuilt fault k h.refused.ready new h.refused.refused ∙ readied old h.refused.ready h.refused.readied
  rebuilds_as_many (Stop fault) h =
      fails_after (λ mid. (told : Rebuilt) × RebuildsResynced k told old mid) old new fault (λ mid r. rebuilt_readied k r.0 old mid r.1) h.refused
  rebuilds_as_many OutputFault h = stopped_after (RebuildsResynced k h.told old) old new (rebuilt_readied k h.told old) h.done
  rebuilds_as_many fault h = absurd h

-- ---- the command that takes a device back
re_added : (k : ℕ) (device : Disk) (old new : MirrorView) → ReAdds k device old new → length new.disks ≡ length old.disks + 1
re_added k device old new r = ap length r.recorded.disks ∙ length-append old.disks (r.recorded.now ∷ [])

come_back : (extent : RebuildExtent) (k : ℕ) (device : Disk) (old new : MirrorView) → ComesBack extent k device old new → length new.disks ≡ length old.disks + 1
come_back Marked k device old new r = re_added k device old new r
come_back All k device old new r = re_added k r.comes.stale old new r.comes.re_adds

-- a member was rebuilt, or not, and the array stopped after it, or not
shown_as_many : {S : Type 0} (text_of : ArrayView → List ℕ) (s : Ghosts S) (k : ℕ) (old new : MirrorView) (before after : S) (result : Result (Unit {0}) CommandFault)
    → MatchResult result (λ _. StopsArrayAfter s text_of (RebuildsMember k old) new before after) (RefusesRebuilding s k old new before after) → AsMany old new
shown_as_many text_of s k old new before after (Ok x) h = stopped h.mid new h.stops.stops ∙ rebuilt k h.through.0 old h.mid h.through.1
shown_as_many text_of s k old new before after (Err (Rebuild fault)) h = not_rebuilt fault k old new h.0
shown_as_many text_of s k old new before after (Err fault) h =
    stops_as_many s h.mid new before after fault h.refused ∙ rebuilt k h.through.0 old h.mid h.through.1

pub joins_rebuilt : {S : Type 0} (text_of : ArrayView → List ℕ) (s : Ghosts S) (extent : RebuildExtent) (k : ℕ) (device : Disk) (old joined new : MirrorView) (before after : S) (result : Result (Unit {0}) CommandFault)
    → ComesBackReadied extent k device old joined
    → MatchResult result (λ _. StopsArrayAfter s text_of (RebuildsMember k joined) new before after) (RefusesRebuilding s k joined new before after)
    → KeepsDevice old.disks new.disks None
joins_rebuilt text_of s extent k device old joined new before after result comes h =
    shown_as_many text_of s k joined new before after result h
    ∙ (come_back extent k device comes.ready joined comes.comes ∙ ap (λ (n : ℕ). n + 1) (readied old comes.ready comes.readied))

pub stays_away : (fault : ReAddFault) (device given : Disk) (old ready new : MirrorView) → ResyncsIfNeeded old ready → HandsBackAsWas device given ready new fault
    → KeepsDevice old.disks new.disks (Some given)
stays_away fault device given old ready new readied_is h = same ready new h.mirror ∙ readied old ready readied_is

pub stays_untried : (fault : ResyncFault) (given : Disk) (old new : MirrorView) → RefusesNeededResync old new fault → KeepsDevice old.disks new.disks (Some given)
stays_untried fault given old new h = not_readied fault old new h
