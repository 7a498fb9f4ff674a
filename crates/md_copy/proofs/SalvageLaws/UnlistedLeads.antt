-- A salvage for which a log has no room is a list of events by which no list of a member changes.
use Rattle.std.proofs.Common.{◌≡◌, ◌⊎◌, ℕ, Bool, List, [], ◌∷◌, ◌++◌, sym, subst, inl, inr}
use Rattle.md_badblocks.specs.declared.run.Run.{Run}
use Rattle.md_bitmap.specs.Marks.{Bitmap}
use Rattle.md_model.specs.Events.{Event, MemberPart}
use Rattle.md_state.specs.View.{MirrorView}
use Rattle.md_array.specs.Consistency.{IsConsistent}
use Rattle.md_array.specs.InTurn.{AllOf}
use Rattle.md_array.specs.Steps.Checkpoint.{checkpoint_event}
use Rattle.md_array.proofs.Rebuilding.Checkpoint.{checkpoint_spoils}
use Rattle.md_array.proofs.StepLemmas.Turns.{all_on, all_such}
use Rattle.md_metadata.specs.Storing.{IsStoring}
use Rattle.md_copy.specs.Ending.Leaving.{RecordsAtEnd}
use Rattle.md_copy.specs.PassLaws.Passes.{PassView, slots_of_pass}
use Rattle.md_copy.specs.Passes.Passing.{RecordsPass}
use Rattle.md_copy.specs.RebuildEvents.{AreOfAdmission, AreOfLowering, AreOfStretches, AreStored}
use Rattle.md_copy.specs.Rebuilding.{BeginsRebuild}
use Rattle.md_copy.specs.Salvaging.Filling.{AreSalvaged}
use Rattle.md_copy.specs.Salvaging.SalvageEvents.{IsFillingTarget, LeadsUnlisted, LeavesLists}
use Rattle.md_copy.specs.Salvaging.Steps.{EndsSalvageReadied, RefusesSalvage}
use Rattle.md_copy.specs.Table.Sources.{missing_chunks}
use Rattle.md_copy.specs.declared.beginning.fault.RebuildFault.{RebuildFault}
use Rattle.md_copy.specs.declared.beginning.fault.RebuildFault.TheVariants.{LogFull}
use Rattle.md_copy.proofs.Leads.RebuildLeads.{Before, LeadsIn, begin_events, begin_holds, begin_leads, both_lead, checkpoint_leads, either, either_list, events_either, lowering, lowering_list, recorded_events, recorded_leads, stretches_list, stretches_offsets}
use Rattle.md_copy.proofs.Leads.RefusedLeads.{LeadsTo, leads_spoiled, leads_there, none}
use Rattle.md_copy.proofs.Passing.PassesTold.{HoldsSoFar}
use Rattle.md_copy.proofs.SalvageLaws.ChunkRuns.{GoesSoFar, salvaged_events, salvaged_filling, salvaged_go, salvaged_lead}
use Rattle.md_copy.proofs.SalvageLaws.SalvageLeads.{passed_goes}

-- ---- events that leave lists
storing_leaves : (e : Event) → IsStoring e → LeavesLists e
storing_leaves (Event.Record k) is = tt
storing_leaves (Event.StoreMarks k b) is = tt
storing_leaves (Event.WriteFails k MemberPart.Superblock) is = tt
storing_leaves (Event.WriteFails k (MemberPart.BitmapSector b)) is = tt
storing_leaves e is = absurd is

stored_leave : (es : List Event) → AreStored es → AllOf LeavesLists es
stored_leave es are = all_such IsStoring LeavesLists storing_leaves es are.stores

module _ (target : ℕ) where
  filling_leaves : (e : Event) → IsFillingTarget target e → LeavesLists e
  filling_leaves (Event.Fill k) is = tt
  filling_leaves (Event.Checkpoint k sure listed) is = tt
  filling_leaves e is = absurd is

  lowering_leaves : (es : List Event) → AreOfLowering target es → AllOf LeavesLists es
  lowering_leaves es (inl empty) = subst (AllOf LeavesLists) (sym empty) tt
  lowering_leaves es (inr lowers) = subst (AllOf LeavesLists) (sym lowers.1) (tt, tt)

  first_leave : (es : List Event) → AreStored es ⊎ AreOfAdmission target es → AllOf LeavesLists es
  first_leave es (inl are) = stored_leave es are
  first_leave es (inr are) =
      subst (AllOf LeavesLists) (sym are.list)
      (all_on LeavesLists are.before (Event.Admit target are.role are.listed ∷ are.after) (stored_leave are.before are.first) (tt, stored_leave are.after are.then))

  stretches_leave : (stretches : List (ℕ × (ℕ → Bool))) (es : List Event) → AreOfStretches target stretches es → AllOf LeavesLists es
  stretches_leave [] es empty = subst (AllOf LeavesLists) (sym empty) tt
  stretches_leave (stretch ∷ stretches) es are = subst (AllOf LeavesLists) (sym are.2) (tt, (tt, stretches_leave stretches are.0 are.1))

-- ---- up to where a log has no room
module _ (target : ℕ) (old ready : MirrorView) (clear : Bitmap) (b : BeginsRebuild target old ready clear) (pass : PassView) (whole : Bitmap) (passed : MirrorView)
    (r : RecordsPass target (missing_chunks ready.array b.now) pass clear whole ready passed) (cs : List ℕ) (copied : Bitmap) (lost : List Run) (filled : MirrorView)
    (h : AreSalvaged target cs whole copied [] lost passed filled) where
  abbrev opening : List Event
  opening = begin_events target old ready clear b

  abbrev made : List Event
  made = recorded_events target (missing_chunks ready.array b.now) pass clear whole ready passed r

  abbrev runs : List Event
  runs = salvaged_events target cs whole copied [] lost passed filled h

  abbrev events : List Event
  events = opening ++ (made ++ runs)

  so : HoldsSoFar target ready clear (missing_chunks ready.array b.now)
  so = begin_holds target old ready clear b

  go : GoesSoFar target passed whole
  go = passed_goes target b.now pass clear whole ready passed r so

  lead : LeadsIn (Before target) events old filled
  lead =
      both_lead (Before target) opening (made ++ runs) old ready filled (begin_leads target old ready clear b)
      (both_lead (Before target) made runs ready passed filled (recorded_leads target (missing_chunks ready.array b.now) pass clear whole ready passed so r)
      (salvaged_lead target cs whole copied [] lost passed filled h go))

  unlisted : AllOf LeavesLists events
  unlisted =
      all_on LeavesLists opening (made ++ runs)
      (all_on LeavesLists (lowering target old ready clear b) (events_either target (either target old ready clear b))
      (lowering_leaves target (lowering target old ready clear b) (lowering_list target clear old b.lowered b.lowers))
      (first_leave target (events_either target (either target old ready clear b)) (either_list target b.lowered ready (either target old ready clear b))))
      (all_on LeavesLists made runs
      (stretches_leave target (stretches_offsets target r.stretches.rounds (slots_of_pass pass) [] clear whole ready passed r.stretches.all) made
      (stretches_list target r.stretches.rounds (slots_of_pass pass) [] clear whole ready passed r.stretches.all))
      (all_such (IsFillingTarget target) LeavesLists (filling_leaves target) runs (salvaged_filling target cs whole copied [] lost passed filled h)))

  -- and how far the target came is recorded, or not
  full_left : (after : Bitmap) (new : MirrorView) → RecordsAtEnd target after filled new → IsConsistent new → LeadsTo target old new (AllOf LeavesLists)
  full_left after new (inl same) sound = leads_there target old new (AllOf LeavesLists) unlisted (subst (LeadsIn (Before target) events old) (sym same.1) lead)
  full_left after new (inr (inl c)) sound =
      leads_there target old new (AllOf LeavesLists) (all_on LeavesLists events (checkpoint_event c ∷ []) unlisted (tt, tt))
      (both_lead (Before target) events (checkpoint_event c ∷ []) old filled new lead (checkpoint_leads target after filled new lead.sound c sound))
  full_left after new (inr (inr f)) sound =
      leads_spoiled target old filled new (AllOf LeavesLists) (all_on LeavesLists events (Event.SpoilTarget target ∷ []) unlisted (tt, tt)) lead
      (checkpoint_spoils target after filled new lead.sound f ((salvaged_go target cs whole copied [] lost passed filled h go).ready.recovering f.member f.at)) sound

-- ---- all of it
abbrev IsFull : RebuildFault → Type 0
IsFull (LogFull k) = Unit {0}
IsFull fault = ⊥

module _ (target k : ℕ) (old new : MirrorView) (sound : IsConsistent old) (after_sound : IsConsistent new) where
  as_unlisted : LeadsTo target old new (AllOf LeavesLists) → LeadsUnlisted target old new
  as_unlisted x = record { goes = x.goes; last = x.tells.0; list = x.list; unlisted = x.tells.1 }

  nothing_done : new ≡ old → LeadsUnlisted target old new
  nothing_done same =
      let x = none target old new sound same in
      as_unlisted (record { goes = x.goes; list = x.list; tells = (x.tells.0, subst (AllOf LeavesLists) (sym x.tells.1) tt) })

  readied_leads : (ready : MirrorView) (clear : Bitmap) (b : BeginsRebuild target old ready clear) (after : Bitmap) (stopped : MirrorView) → EndsSalvageReadied target b.now clear after ready stopped (LogFull k)
      → RecordsAtEnd target after stopped new → LeadsUnlisted target old new
  readied_leads ready clear b after stopped (inl f) leaves = absurd f
  readied_leads ready clear b after stopped (inr (inl h)) leaves = elim h.4.2 [
    | inl refused ↦ absurd (subst IsFull refused.0 tt)
    | inr at ↦ elim at.fails [ inl x ↦ absurd x.5 | inr x ↦ absurd (subst IsFull x.5.0 tt) ]
  ]
  readied_leads ready clear b after stopped (inr (inr h)) leaves = elim h.7 [
    | inl refused ↦ absurd (subst IsFull refused.0 tt)
    | inr w ↦
        as_unlisted (full_left target old ready clear b h.0 h.5.whole h.5.passed h.5.records h.5.salvages.chunks h.1 h.3 h.4 h.5.salvages.salvaged after new
        (subst (λ (v : MirrorView). RecordsAtEnd target after v new) w.4.0 leaves) after_sound)
  ]

  pub unlisted_leads : RefusesSalvage target old new (LogFull k) → LeadsUnlisted target old new
  unlisted_leads (inl cannot) = nothing_done cannot.3
  unlisted_leads (inr (inl lacks)) = absurd (subst IsFull lacks.0 tt)
  unlisted_leads (inr (inr (inl e))) = absurd e.why
  unlisted_leads (inr (inr (inr h))) = readied_leads h.0 h.1 h.2 h.3.0 h.3.1 h.3.2 h.3.3
