-- What stands after a salvage that is refused, by its steps.
use Rattle.std.proofs.Common.{◌≡◌, ◌≢◌, ◌∙◌, ◌⊎◌, ℕ, ◌/◌, ◌^◌, ◌<◌, Bool, true, false, List, [], slice_get, refl, sym, ap, subst, arith, inl, inr}
use Rattle.std.proofs.lemmas.Bool.{both_ways, cases_Bool}
use Rattle.std.proofs.lemmas.Option.{same_Some}
use Rattle.md_assembly.specs.States.{is_in_sync, is_recorded}
use Rattle.md_badblocks.specs.declared.run.Run.{Run}
use Rattle.md_badblocks.specs.Runs.{IsBad}
use Rattle.md_bitmap.specs.declared.chunks.Chunks.{Chunks}
use Rattle.md_bitmap.specs.Marks.{Bitmap}
use Rattle.md_copy.specs.PassLaws.Passes.{PassView, slots_of_pass}
use Rattle.md_kept_members.specs.Enrolling.{HasRoomFor}
use Rattle.md_kept_members.specs.Members.{recorded_member}
use Rattle.md_kept_members.specs.SectorLists.{IsListOf, in_chunks_but, in_runs}
use Rattle.md_kept_members.specs.View.{MemberView}
use Rattle.md_super.specs.declared.superblock.Superblock.{Superblock}
use Rattle.md_metadata.specs.Storing.{IsStoring, Stores}
use Rattle.md_state.specs.DiskWrites.{AtDevice}
use Rattle.md_state.specs.Members.{IsInSync, IsMember}
use Rattle.md_state.specs.Missing.{AreMissing, is_missing}
use Rattle.md_state.specs.Steps.Checkpoint.{checked}
use Rattle.md_state.specs.Steps.Enrol.{HasFullLog}
use Rattle.md_state.specs.View.{ArrayView, MirrorView}
use Rattle.md_state.proofs.Stays.{stays_grown}
use Rattle.md_array.proofs.Worlds.States.{in_sync_recorded}
use Rattle.md_array.specs.Consistency.{IsConsistent}
use Rattle.md_array.specs.Steps.Enrol.{FailsToEnrol}
use Rattle.md_copy.specs.Ending.Leaving.{LeavesSo, RecordsAtEnd}
use Rattle.md_copy.specs.Passes.Listing.{EndsAtList}
use Rattle.md_copy.specs.Passes.Passing.{RecordsPass}
use Rattle.md_copy.specs.Readying.Admission.{RefusesToReady}
use Rattle.md_copy.specs.Rebuilding.{BeginsRebuild, EndsStoring}
use Rattle.md_copy.specs.Refused.{HasHalted, IsLost}
use Rattle.md_copy.specs.Salvaging.Filling.{BreaksFilling, EndsAtChunk, FillsWithin, IsTargetLeft}
use Rattle.md_copy.specs.Salvaging.Fitting.{HaveRoomFor, IsFitting, LacksRoomAt, LacksRoomForMore}
use Rattle.md_copy.specs.Salvaging.Losing.{EndsNotingLost, EndsWithout, FailsWithout, NotesLost, every_role}
use Rattle.md_copy.specs.Salvaging.Refused.{AreLostSoFar, EndsSalvageSo, HasNotSalvaged, ListsStay}
use Rattle.md_copy.specs.Salvaging.Sectors.{AreLackedChunks, IsLacked}
use Rattle.md_copy.specs.Salvaging.Steps.{CannotSalvage, EndsSalvageReadied, FailsWhole, FillsBut, RefusesSalvage}
use Rattle.md_copy.specs.Salvaging.Widened.{IsWidened, TakesFewest}
use Rattle.md_copy.specs.Readying.Storing.{EndsAtOther}
use Rattle.md_copy.specs.Passes.Stretches.{slots_before}
use Rattle.md_copy.specs.Table.Sources.{missing_chunks}
use Rattle.md_copy.specs.declared.beginning.fault.RebuildFault.{RebuildFault}
use Rattle.md_copy.specs.declared.beginning.fault.RebuildFault.TheVariants.{Halted, NotSpare, Dirty, InFlight, LogFull, NoMemory, TargetFault, MetadataFault, EventsFull}
use Rattle.md_copy.proofs.Held.HeldRecorded.{other_is, out_of_sync}
use Rattle.md_copy.proofs.Leads.RebuildLeads.{begin_holds}
use Rattle.md_copy.proofs.Passing.PassesTold.{HoldsSoFar}
use Rattle.md_copy.proofs.Ready.Lowered.{lowered_others, lowered_sound, lowered_then, starts_lowered}
use Rattle.md_copy.proofs.Ready.Readied.{after_so, may_lowered}
use Rattle.md_copy.proofs.Ready.StartedAs.{IsAs}
use Rattle.md_copy.proofs.Ready.StartsReadied.{starts_of}
use Rattle.md_copy.proofs.Refusals.Refused.{KeepsRest, StaysSo, lasts_none, rest_alone, rest_on, stays_same}
use Rattle.md_copy.proofs.Refusals.RefusedPasses.{fails_rest}
use Rattle.md_copy.proofs.Refusals.RefusedSteps.{StopsSo, halted_left, halts_list, list_marks, list_resynced, own_is, preserves_admitted, preserves_lowered, rest_left, rest_list, rest_stores, rest_unadmitted, rest_unrecorded, starts_after, states_admitted, states_lowered, stops_so, was_spare}
use Rattle.md_copy.proofs.SalvageLaws.ChunkFills.{breaks_within, filled_ready}
use Rattle.md_copy.proofs.SalvageLaws.ChunkRuns.{GoesSoFar, chunk_ready, salvaged_go}
use Rattle.md_copy.proofs.SalvageLaws.FilledSoFar.{filled_goes, listed_lacked, listed_still, lost_gives, lost_lacked, low_of}
use Rattle.md_copy.proofs.SalvageLaws.SalvageEnded.{fails_moved, none_lost, none_since, not_salvaged, not_salvaged_moved}
use Rattle.md_copy.proofs.SalvageLaws.SalvageLeads.{lists_lead, passed_goes}
use Rattle.md_copy.proofs.SalvageLaws.SalvageMoves.{Moves, all_noted, all_stored, chunks_move, fill_moves, left_moves, moves_begun, moves_none, moves_on, moves_part, moves_passed, moves_started, moves_stretch, part_holds, some_noted}
use Rattle.md_copy.proofs.SalvageLaws.SalvagedFrom.{none_started}
use Rattle.md_copy.proofs.SalvageLaws.UnsalvagedLeads.{AreRecovering, all_noted_recovers}
use Rattle.md_copy.proofs.SalvageLemmas.ChunkFilled.{IsRangeOf}
use Rattle.md_copy.proofs.SalvageLemmas.SameRoom.{any_same}

-- ---- how far the target is rebuilt is recorded, or not
module _ (target : ℕ) (copied : Bitmap) (stopped new : MirrorView) where
  left_running : stopped.array.halted ≡ false → RecordsAtEnd target copied stopped new → new.array.halted ≡ false
  left_running runs (inl same) = absurd (both_ways stopped.array.halted runs same.0)
  left_running runs (inr (inl r)) = ap (λ (a : ArrayView). a.halted) r.array ∙ runs
  left_running runs (inr (inr f)) = ap (λ (a : ArrayView). a.halted) f.array ∙ runs

  left_array : RecordsAtEnd target copied stopped new → (new.array.marks ≡ stopped.array.marks) × (new.array.resynced ≡ stopped.array.resynced)
  left_array (inl same) = (ap (λ (v : MirrorView). v.array.marks) same.1, ap (λ (v : MirrorView). v.array.resynced) same.1)
  left_array (inr (inl r)) = (ap (λ (a : ArrayView). a.marks) r.array, ap (λ (a : ArrayView). a.resynced) r.array)
  left_array (inr (inr f)) = (ap (λ (a : ArrayView). a.marks) f.array, ap (λ (a : ArrayView). a.resynced) f.array)

  left_other : (stopped.array.halted ≡ false → IsConsistent stopped) → RecordsAtEnd target copied stopped new → (j : ℕ) → j ≢ target → slice_get new.array.members j ≡ slice_get stopped.array.members j
  left_other sound (inl same) j other = ap (λ (v : MirrorView). slice_get v.array.members j) same.1
  left_other sound (inr (inl r)) j other = other_is target copied stopped new (sound r.may.idle.running) r j other
  left_other sound (inr (inr f)) j other = ap (λ (a : ArrayView). slice_get a.members j) f.array

  left_full : (but lost : ℕ → Bool) → IsConsistent stopped → RecordsAtEnd target copied stopped new → HasFullLog target but lost stopped.array → HasFullLog target but lost new.array
  left_full but lost sound (inl same) full = subst (λ (v : MirrorView). HasFullLog target but lost v.array) (sym same.1) full
  left_full but lost sound (inr (inr f)) full = subst (HasFullLog target but lost) (sym f.array) full
  left_full but lost sound (inr (inl r)) full =
      let n = (rest_left target copied stopped new (λ running. sound) (inr (inl r))).then target full.member full.at in
      let is = own_is target copied stopped new sound r full.member n.0 full.at n.1 in
      let list : IsListOf but lost (recorded_member (checked r.sure full.member)) full.list = record { canonical = full.list_is.canonical; bad = full.list_is.bad } in
      record {
        member = n.0;
        at = n.1;
        list = full.list;
        list_is = subst (λ (l : MemberView). IsListOf but lost l full.list) (sym is) list;
        full = subst (λ (l : MemberView). HasRoomFor l.superblock full.list → ⊥) (sym is) full.full;
      }

-- the target does not come into sync
unenrolled_rest : (target : ℕ) (but lost : ℕ → Bool) (v w : MirrorView) → FailsToEnrol target but lost v w → KeepsRest target v w
unenrolled_rest target but lost v w f =
    rest_alone target target v w (ap (λ (a : ArrayView). a.members) f.array) f.disks.as_many f.disks.others (λ d e at_d at_e. (let kept = (f.disks.change d e at_d at_e).0.kept in stays_grown d e (λ f. f.writes ≡ true) kept.honest_kept kept.counted kept.grown))
    (λ d e m at_d at_e at_m i n from to.
    (let was = same_Some f.comes.member m (sym f.comes.at ∙ at_m) in
    let offset = ap (λ (s : Superblock). s.data_offset) f.comes.comes.superblock ∙ ap (λ (z : MemberView). z.superblock.data_offset) was in
    let size = ap (λ (s : Superblock). s.data_size) f.comes.comes.superblock ∙ ap (λ (z : MemberView). z.superblock.data_size) was in
    (f.disks.change d e at_d at_e).1 i n (omega (arith, offset, from)) (omega (arith, offset, size, to))))

stored_stays : (target : ℕ) (fault : RebuildFault) (old mid new : MirrorView) → Stores IsStoring old mid → new.array ≡ mid.array → StaysSo target fault old.array new.array
stored_stays target fault old mid new s is = record {
  states = λ k m n other apart at there.
      (let x = s.ready.each k n (ap (λ (a : ArrayView). slice_get a.members k) (sym is) ∙ there) in
      ap (λ (z : MemberView). z.state) x.same ∙ ap (λ (z : MemberView). z.state) (same_Some x.before m (sym x.member ∙ at)));
  marks = ap (λ (a : ArrayView). a.marks) is ∙ s.goes.array.marks;
  resynced = ap (λ (a : ArrayView). a.resynced) is ∙ s.goes.array.resynced;
}

-- nothing was listed
lists_stay : (target : ℕ) (old new : MirrorView) → Moves target [] old new → ListsStay target old.array new.array
lists_stay target old new x k l n other at_l at_n sector = (
  λ bad. elim (cases_Bool (is_in_sync l.state)) [
    | inl on ↦ elim (x.grown k l n other (record { member = at_l; in_sync = on }) at_n sector bad) [ inl was ↦ was | inr more ↦ absurd more.1 ]
    | inr off ↦ subst (λ (runs : List Run). IsBad runs sector) (x.out k l n other at_l (λ (is : IsInSync old.array k l). both_ways (is_in_sync l.state) off is.in_sync) at_n) bad
  ],
  λ bad. x.kept k l n other at_l at_n sector bad,
)

-- Up to a mirror that runs all is left as it was but for this.
record IsAt (target : ℕ) (listed : List Run) (old v : MirrorView) : Type 0 where
  moves : Moves target listed old v
  sound : IsConsistent v
  running : v.array.halted ≡ false

module _ (target : ℕ) where
  -- ---- at once
  at_once : (old new : MirrorView) (m : MemberView) → IsMember old.array target m → new ≡ old → (fault : RebuildFault) → EndsSalvageSo target fault m (none_lost target m old new).missing [] [] old new → HasNotSalvaged target fault old new
  at_once old new m at same fault so =
      let moves : Moves target [] old new = subst (Moves target [] old) (sym same) (moves_none target [] old) in
      not_salvaged_moved target fault [] [] old new m at moves (none_lost target m old new) so

  cannot : (old new : MirrorView) (m : MemberView) → IsMember old.array target m → new ≡ old → (fault : RebuildFault) → CannotSalvage target old.array m fault → HasNotSalvaged target fault old new
  cannot old new m at same Halted c = at_once old new m at same Halted (record { unchanged = same; halted_is = c })
  cannot old new m at same NotSpare c = at_once old new m at same NotSpare (record { unchanged = same; halted_is = c.running })
  cannot old new m at same Dirty c = at_once old new m at same Dirty (record { unchanged = same; halted_is = c.has_target.running })
  cannot old new m at same (InFlight n) c = at_once old new m at same (InFlight n) (record { unchanged = same; halted_is = c.resynced_target.has_target.running })
  cannot old new m at same EventsFull c = at_once old new m at same EventsFull (record { unchanged = same; halted_is = c.resynced_target.has_target.running })
  cannot old new m at same (LogFull k) c = at_once old new m at same (LogFull k) (inl (record { own = c.0; none = c.2; unchanged = same }))
  cannot old new m at same NoMemory c = absurd c
  cannot old new m at same TargetFault c = absurd c
  cannot old new m at same (MetadataFault k) c = absurd c

  -- ---- memory is refused, and how far the target is rebuilt is recorded
  no_memory : (copied : Bitmap) (lost listed : List Run) (old stopped new : MirrorView) (m : MemberView) → IsMember old.array target m → IsAt target listed old stopped → RecordsAtEnd target copied stopped new
      → (Moves target listed stopped new → AreLostSoFar target m lost listed old new) → HasNotSalvaged target NoMemory old new
  no_memory copied lost listed old stopped new m at a leaves far =
      let left = left_moves target listed copied stopped new (λ running. a.sound) leaves in
      not_salvaged_moved target NoMemory lost listed old new m at (moves_on target listed old stopped new a.moves left) (far left) (left_running target copied stopped new a.running leaves)

  -- the target's device fails
  target_fails : (old begun new : MirrorView) (m : MemberView) → IsMember old.array target m → Moves target [] old begun → Moves target [] old new → new.array.halted ≡ false
      → AtDevice target begun.disks new.disks (λ d e. d.honest ≡ true → d.failures < e.failures) → HasNotSalvaged target TargetFault old new
  target_fails old begun new m at before x runs failed =
      not_salvaged_moved target TargetFault [] [] old new m at x (none_lost target m old new) (runs, fails_moved target target [] old begun new before failed)

  -- ---- a member fails, and is faulty or has halted the mirror
  other_stops : (k : ℕ) (old v new : MirrorView) (m : MemberView) → IsMember old.array target m → Moves target [] old v → v.array.halted ≡ false → EndsAtOther target k v new → HasNotSalvaged target (MetadataFault k) old new
  other_stops k old v new m at x runs ends =
      let st : StopsSo target k v new = stops_so target k v new runs ends in
      not_salvaged target (MetadataFault k) [] [] old v st.last new m at x st.rest st.lasts
      (record { states = λ j a b beside apart at_a at_b. st.states j a b (λ same. apart (ap (λ i. MetadataFault i) (sym same))) at_a at_b; marks = st.marks; resynced = st.resynced }) (none_lost target m old v) (ends.other, lost)
    where
      lost : IsLost k old.array new.array ⊎ HasHalted k old new
      lost = elim (stops_so target k v new runs ends).lost [
        | inl is ↦
            inl (record {
              was = λ l at_l. (let o = x.pre.then k l at_l in sym (ap is_recorded (x.states k l o.0 ends.other at_l o.1)) ∙ is.was o.0 o.1);
              running = is.running;
              member = is.member;
              at = is.at;
              faulty = is.faulty;
            })
        | inr h ↦
            inr (record {
              failed = fails_moved target k [] old v new x (fails_rest target k v (stops_so target k v new runs ends).last new (stops_so target k v new runs ends).rest h.on.failed);
              halted = h.on.halted;
              member = h.member;
              in_sync = h.in_sync;
              alone = h.alone;
            })
      ]

  -- ---- before a pass may be planned
  module _ (old new : MirrorView) (sound : IsConsistent old) (Why : MirrorView → Type 0) (e : EndsStoring target old Why) where
    abbrev mid : MirrorView
    mid = e.lowered

    then : (n : MemberView) × IsMember mid.array target n
    then = (let n = lowered_then target e.none old mid sound e.lowers target e.member e.at in (n.0, n.1))

    mid_sound : IsConsistent mid
    mid_sound = lowered_sound target e.none old mid sound e.lowers

    moves_mid : Moves target [] old mid
    moves_mid =
        moves_started target [] old mid (starts_lowered target e.none old mid sound e.lowers) (preserves_lowered target e.none old mid sound e.lowers) (states_lowered target e.none old mid sound e.lowers)
        (ap (λ (a : ArrayView). a.resynced) (lowered_others target e.none old mid sound e.lowers))

    mid_runs : mid.array.halted ≡ false
    mid_runs = ap (λ (a : ArrayView). a.halted) (lowered_others target e.none old mid sound e.lowers) ∙ e.may.idle.running

    early : (fault : RebuildFault) → RefusesToReady target mid new fault → HasNotSalvaged target fault old new
    early (MetadataFault k) (inl at) = other_stops k old mid new e.member e.at moves_mid mid_runs at
    early (MetadataFault k) (inr h) =
        let may = may_lowered target e.none old mid sound e.lowers e.member e.at e.may then.0 then.1 in
        let spare = was_spare target mid h.admitted mid_sound then.0 then.1 may h.after in
        let so = after_so target mid h.admitted h.after then.0 spare may in
        let moves =
        moves_on target [] old mid h.admitted moves_mid
        (moves_started target [] mid h.admitted (starts_after target mid h.admitted mid_sound then.0 then.1 may h.after) (preserves_admitted target mid h.admitted mid_sound then.0 then.1 may h.after) (states_admitted target mid h.admitted h.after)
        (so.resynced ∙ sym may.resynced_target.resynced)) in
        other_stops k old h.admitted new e.member e.at moves so.idle.running h.ends
    early TargetFault (inl f) =
        not_salvaged target TargetFault [] [] old mid new new e.member e.at moves_mid (rest_unrecorded target mid new f) (lasts_none target TargetFault new) (stored_stays target TargetFault mid f.mid new f.stores f.fails.array)
        (none_lost target e.member old mid)
        (ap (λ (a : ArrayView). a.halted) f.fails.array ∙ (f.stores.ready.halted ∙ mid_runs), fails_moved target target [] old mid new moves_mid (fails_rest target target mid f.mid new (rest_stores target mid f.mid f.stores) f.fails.disks.failed))
    early TargetFault (inr f) =
        not_salvaged target TargetFault [] [] old mid new new e.member e.at moves_mid (rest_unadmitted target mid new f) (lasts_none target TargetFault new) (stored_stays target TargetFault mid f.stored new f.first.stores f.fails.array)
        (none_lost target e.member old mid) (
          ap (λ (a : ArrayView). a.halted) f.fails.array ∙ (f.first.stores.ready.halted ∙ mid_runs),
          fails_moved target target [] old mid new moves_mid (fails_rest target target mid f.stored new (rest_stores target mid f.stored f.first.stores) f.fails.disks.failed),
        )
    early NoMemory f =
        not_salvaged target NoMemory [] [] old mid new new e.member e.at moves_mid (rest_stores target mid new f.first.stores) (lasts_none target NoMemory new) (stored_stays target NoMemory mid new new f.first.stores refl)
        (none_lost target e.member old mid) (f.first.stores.ready.halted ∙ mid_runs)
    early Halted f = absurd f
    early NotSpare f = absurd f
    early Dirty f = absurd f
    early (InFlight n) f = absurd f
    early EventsFull f = absurd f
    early (LogFull k) f = absurd f

  -- ---- from where a pass may be planned
  module _ (old ready : MirrorView) (clear : Bitmap) (b : BeginsRebuild target old ready clear) where
    abbrev m : MemberView
    m = b.member

    abbrev chunks : List ℕ
    chunks = missing_chunks ready.array b.now

    so : HoldsSoFar target ready clear (missing_chunks ready.array b.now)
    so = begin_holds target old ready clear b

    ready_at : (listed : List Run) → IsAt target listed old ready
    ready_at listed = record { moves = moves_begun target listed old ready clear b so; sound = so.ready.sound; running = so.ready.goes.idle.running }

    as_left : (after : Bitmap) (stopped new : MirrorView) → LeavesSo target after stopped new TargetFault → HasNotSalvaged target TargetFault old stopped → HasNotSalvaged target TargetFault old new
    as_left after stopped new leaves h = subst (HasNotSalvaged target TargetFault old) (sym leaves) h

    none_listed : (new : MirrorView) → AreLostSoFar target m [] [] old new
    none_listed new = none_lost target m old new

    whole_fails : (after : Bitmap) (stopped new : MirrorView) (fault : RebuildFault) → FailsWhole target b.now clear after ready stopped fault → LeavesSo target after stopped new fault → HasNotSalvaged target fault old new
    whole_fails after stopped new NoMemory (inl same) leaves = no_memory after [] [] old stopped new m b.at (subst (IsAt target [] old) (sym same.1) (ready_at [])) leaves (λ left. none_listed new)
    whole_fails after stopped new NoMemory (inr some) leaves =
        let holds = part_holds target [] old ready clear b so some.rounds (slots_of_pass some.pass) some.left after stopped some.stretches in
        no_memory after [] [] old stopped new m b.at
        (record { moves = moves_part target [] old ready clear b so some.rounds (slots_of_pass some.pass) some.left after stopped some.stretches; sound = holds.ready.sound; running = holds.ready.goes.idle.running }) leaves (λ left. none_listed new)
    whole_fails after stopped new TargetFault (inl t) leaves =
        let p = t.part in
        let holds = part_holds target [] old ready clear b so p.rounds (slots_of_pass p.pass) p.left t.copied t.begun p.stretches in
        as_left after stopped new leaves
        (target_fails old t.begun stopped m b.at (moves_part target [] old ready clear b so p.rounds (slots_of_pass p.pass) p.left t.copied t.begun p.stretches)
        (moves_stretch target [] old ready clear b so p.rounds (slots_of_pass p.pass) p.left t.copied t.begun p.stretches (slots_before t.round p.left) t.why.may stopped t.why.breaks.filling)
        (ap (λ (a : ArrayView). a.halted) t.why.breaks.filling.array ∙ holds.ready.goes.idle.running) t.why.breaks.failed)
    whole_fails after stopped new TargetFault (inr t) leaves =
        let p = t.part in
        let f = t.why in
        let holds = part_holds target [] old ready clear b so p.rounds (slots_of_pass p.pass) p.left t.copied t.begun p.stretches in
        let moves =
        moves_stretch target [] old ready clear b so p.rounds (slots_of_pass p.pass) p.left t.copied t.begun p.stretches (slots_before t.round p.left) f.makes.may f.filled f.makes.copies.filling in
        as_left after stopped new leaves
        (target_fails old f.filled stopped m b.at moves (moves_on target [] old f.filled stopped moves (left_moves target [] f.after f.filled stopped (λ running. f.makes.sound) (inr (inr f.fails))))
        (ap (λ (a : ArrayView). a.halted) f.fails.array ∙ (ap (λ (a : ArrayView). a.halted) f.makes.copies.filling.array ∙ holds.ready.goes.idle.running)) f.fails.disks.failed)
    whole_fails after stopped new Halted f leaves = absurd f
    whole_fails after stopped new NotSpare f leaves = absurd f
    whole_fails after stopped new Dirty f leaves = absurd f
    whole_fails after stopped new (InFlight n) f leaves = absurd f
    whole_fails after stopped new EventsFull f leaves = absurd f
    whole_fails after stopped new (LogFull k) f leaves = absurd f
    whole_fails after stopped new (MetadataFault k) f leaves = absurd f

    -- ---- once the pass is made
    module _ (pass : PassView) (whole : Bitmap) (passed : MirrorView) (r : RecordsPass target (missing_chunks ready.array b.now) pass clear whole ready passed) where
      go_p : GoesSoFar target passed whole
      go_p = passed_goes target b.now pass clear whole ready passed r so

      passed_at : (listed : List Run) → IsAt target listed old passed
      passed_at listed = record { moves = moves_passed target listed old ready clear b so pass whole passed r go_p; sound = go_p.ready.sound; running = go_p.ready.goes.idle.running }

      at_chunk : (tp : MemberView) (after : Bitmap) (stopped new : MirrorView) (fault : RebuildFault) → EndsAtChunk target tp whole after passed stopped fault → LeavesSo target after stopped new fault → HasNotSalvaged target fault old new
      at_chunk tp after stopped new fault e leaves = elim e.fails [
        | inl x ↦ breaks x.0 x.1 x.2 x.3 fault x.5 leaves
        | inr x ↦
            let fills = x.3 in
            let here = chunk_ready target e.next e.copied after x.0 x.1 e.begun x.2 fills go in
            let moves = moves_on target [] old e.begun x.2 moves_e (fill_moves target [] e.next fills.start fills.end e.begun x.2 go.ready fills.range e.copied fills.left fills.fills.within) in
            subst (λ (q : RebuildFault). HasNotSalvaged target q old new) (sym x.5.0)
            (as_left after stopped new (subst (LeavesSo target after stopped new) x.5.0 leaves)
            (target_fails old x.2 stopped m b.at moves (moves_on target [] old x.2 stopped moves (left_moves target [] after x.2 stopped (λ running. here.sound) (inr (inr x.5.1))))
            (ap (λ (a : ArrayView). a.halted) x.5.1.array ∙ here.goes.idle.running) x.5.1.disks.failed))
      ]
        where
          go : GoesSoFar target e.begun e.copied
          go = salvaged_go target e.chunks whole e.copied [] e.lost passed e.begun e.salvaged go_p

          moves_e : Moves target [] old e.begun
          moves_e = moves_on target [] old passed e.begun (passed_at []).moves (chunks_move target [] e.chunks whole e.copied [] e.lost passed e.begun e.salvaged go_p)

          within : (left : IsTargetLeft target e.begun e.copied e.next) (start end : ℕ) → IsRangeOf e.begun e.next start end → FillsWithin target start end e.begun stopped → IsAt target [] old stopped
          within left start end range f = record {
            moves = moves_on target [] old e.begun stopped moves_e (fill_moves target [] e.next start end e.begun stopped go.ready range e.copied left f);
            sound = (filled_ready target e.next start end e.begun stopped go.ready range e.copied left f).sound;
            running = ap (λ (a : ArrayView). a.halted) f.array ∙ go.ready.goes.idle.running;
          }

          breaks : (left : IsTargetLeft target e.begun e.copied e.next) (start end : ℕ) → IsRangeOf e.begun e.next start end → (q : RebuildFault) → BreaksFilling target start end e.begun stopped q → LeavesSo target after stopped new q
              → HasNotSalvaged target q old new
          breaks left start end range NoMemory f leaving = no_memory after [] [] old stopped new m b.at (within left start end range f) leaving (λ then. none_listed new)
          breaks left start end range TargetFault f leaving =
              let a = within left start end range (breaks_within target start end e.begun stopped f) in
              let first = fill_moves target [] e.next start end e.begun f.last go.ready range e.copied left f.within in
              as_left after stopped new leaving (target_fails old f.last stopped m b.at (moves_on target [] old e.begun f.last moves_e first) a.moves a.running f.fails.disks.failed)
          breaks left start end range Halted f leaving = absurd f
          breaks left start end range NotSpare f leaving = absurd f
          breaks left start end range Dirty f leaving = absurd f
          breaks left start end range (InFlight n) f leaving = absurd f
          breaks left start end range EventsFull f leaving = absurd f
          breaks left start end range (LogFull k) f leaving = absurd f
          breaks left start end range (MetadataFault k) f leaving = absurd f

    -- ---- once all chunks are filled
    module _ (pass : PassView) (copied kept : Bitmap) (lost : List Run) (filled : MirrorView) (fl : FillsBut target b.now pass clear copied kept lost ready filled) where
      go_f : GoesSoFar target filled copied
      go_f = filled_goes target b.now pass clear copied kept lost ready filled fl b.there so

      passes : GoesSoFar target fl.passed fl.whole
      passes = passed_goes target b.now pass clear fl.whole ready fl.passed fl.records so

      filled_at : (listed : List Run) → IsAt target listed old filled
      filled_at listed = record {
        moves = moves_on target listed old fl.passed filled (moves_passed target listed old ready clear b so pass fl.whole fl.passed fl.records passes)
            (chunks_move target listed fl.salvages.chunks fl.whole copied [] lost fl.passed filled fl.salvages.salvaged passes);
        sound = go_f.ready.sound;
        running = go_f.ready.goes.idle.running;
      }

      recovers : AreRecovering target filled
      recovers = go_f.ready.recovering

      lacked_old : (listed : List Run) (s : ℕ) → IsLacked filled.array fl.now s → IsLacked old.array m s
      lacked_old listed s l =
          let x = (filled_at listed).moves.pre in
          record {
            inside = subst (λ (q : Chunks). s < q.size) x.chunks l.inside;
            missing = subst (λ (q : Chunks). is_missing old.array m (s / q.sectors) ≡ true) x.chunks
                (x.missing m fl.now b.at fl.there (s / filled.array.chunks.sectors)
                (subst (λ (q : Bitmap). s / filled.array.chunks.sectors < q.chunks) x.marks (low_of target b.now pass clear copied kept lost ready filled fl b.there so s l.inside)) l.missing);
          }

      module _ (missing : Bitmap) (are_of : (l : MemberView) → IsMember filled.array target l → AreMissing filled.array l missing) (listed : List Run) (fits : IsFitting target missing lost filled.array listed) where
        abbrev far : (w : MirrorView) → Moves target listed filled w → AreLostSoFar target m lost listed old w
        far w then = record {
          none = λ s bad. (
            lacked_old listed s (lost_lacked target b.now pass clear copied kept lost ready filled fl b.there so s bad),
            none_since s old filled w (filled_at listed).moves.pre.disk_then then.counted then.since
                (none_started target s old ready filled (starts_of target old ready clear b) (lost_gives target b.now pass clear copied kept lost ready filled fl b.there so s bad)),
          );
          gap = fits.gap;
          to = fits.to;
          widest = fits.widest;
          missing = missing;
          widened = subst (λ (q : Chunks). IsWidened fits.gap fits.to q missing lost listed) (filled_at listed).moves.pre.chunks fits.fewest.widened;
          lacked = λ s bad. lacked_old listed s (listed_lacked target b.now pass clear copied kept lost ready filled fl b.there so missing (are_of fl.now fl.there) fits.gap fits.to listed fits.fewest.widened s bad);
        }

        -- some members list them
        module _ (stopped : MirrorView) (fault : RebuildFault) (n : EndsNotingLost listed filled stopped fault) where
          some_moves : Moves target listed filled stopped
          some_moves = some_noted target listed filled stopped recovers n.index n.notes

          some_at : IsAt target listed old stopped
          some_at = record {
            moves = moves_on target listed old filled stopped (filled_at listed).moves some_moves;
            sound = n.notes.goes.sound;
            running = ap (λ (a : ArrayView). a.halted) n.notes.others ∙ go_f.ready.goes.idle.running;
          }

        -- all of them do, on the devices
        module _ (Why : (ℕ → Bool) → MirrorView → Type 0) (w : EndsWithout target missing listed filled Why) where
          all_moves : Moves target listed filled w.stored
          all_moves = elim w.lists [
            | inl none ↦ subst (Moves target listed filled) (sym none.1) (moves_none target listed filled)
            | inr both ↦ moves_on target listed filled w.noted w.stored (all_noted target listed filled w.noted recovers both.0) (all_stored target listed w.noted w.stored (all_noted_recovers target listed filled w.noted both.0 recovers) both.1)
          ]

          all_runs : w.stored.array.halted ≡ false
          all_runs = elim w.lists [
            | inl none ↦ ap (λ (v : MirrorView). v.array.halted) none.1 ∙ go_f.ready.goes.idle.running
            | inr both ↦ ap (λ (a : ArrayView). a.halted) both.1.others ∙ (ap (λ (a : ArrayView). a.halted) both.0.others ∙ go_f.ready.goes.idle.running)
          ]

          all_at : IsAt target listed old w.stored
          all_at = record {
            moves = moves_on target listed old filled w.stored (filled_at listed).moves all_moves;
            sound = (lists_lead target listed filled w.noted w.stored go_f.ready.sound w.lists).sound;
            running = all_runs;
          }

        lacked_chunks : AreLackedChunks old.array m missing
        lacked_chunks =
            let x = (filled_at listed).moves.pre in
            let are = are_of fl.now fl.there in
            record {
              chunks = are.chunks ∙ ap (λ (q : Bitmap). q.chunks) x.marks;
              lacked = λ c low set.
                  (let early = subst (λ n. c < n) (sym (are.chunks ∙ ap (λ (q : Bitmap). q.chunks) x.marks)) low in
                  x.missing m fl.now b.at fl.there c low (sym (are.bits c early) ∙ set));
              listed = λ c low lacks lists.
                  (let st = starts_of target old ready clear b in
                  let n = st.then target m b.at in
                  let alike = subst (IsAs m) (same_Some n.0 b.now (sym n.1 ∙ b.there)) n.2 in
                  listed_still target b.now pass clear copied kept lost ready filled fl b.there so missing are c (subst (λ (q : Bitmap). c < q.chunks) (sym st.marks) low)
                  (st.missing m b.now b.at b.there c low ∙ lacks) (any_same old.array.chunks ready.array.chunks c m b.now st.chunks alike.bad alike.offset lists));
            }

        -- a log has no room, and nothing was listed
        module _ (k : ℕ) (lacks : LacksRoomAt target missing listed filled.array k) where
          no_room : HaveRoomFor target missing filled.array listed → ⊥
          no_room room = elim lacks [
            | inl own ↦ own.1.full (room.own own.1.member own.1.list own.1.at own.1.list_is)
            | inr more ↦ more.full (room.in_sync k more.some more.member more.list more.in_sync more.list_is)
          ]

          wide : (fits.gap ≡ 510) × (fits.to ≡ 2 ^ 54)
          wide = elim fits.fits [ inl widest ↦ (widest.0, widest.1) | inr just ↦ absurd (no_room just.room) ]

          fewest_then : TakesFewest 510 (2 ^ 54) old.array.chunks missing lost listed
          fewest_then =
              subst (λ (q : Chunks). TakesFewest 510 (2 ^ 54) q missing lost listed) (filled_at listed).moves.pre.chunks
              (subst (λ (n : ℕ). TakesFewest 510 n filled.array.chunks missing lost listed) wide.1
              (subst (λ (n : ℕ). TakesFewest n fits.to filled.array.chunks missing lost listed) wide.0 fits.fewest))

          still_full : (after : Bitmap) (new : MirrorView) → RecordsAtEnd target after filled new
              → ((k ≡ target) × HasFullLog k (in_chunks_but old.array.chunks missing listed) (in_runs listed) new.array) ⊎ LacksRoomForMore k new.array listed
          still_full after new leaves = elim lacks [
            | inl own ↦
                let full = left_full target after filled new (in_chunks_but filled.array.chunks missing listed) (in_runs listed) go_f.ready.sound leaves own.1 in
                let now : HasFullLog target (in_chunks_but old.array.chunks missing listed) (in_runs listed) new.array =
                subst (λ (q : Chunks). HasFullLog target (in_chunks_but q missing listed) (in_runs listed) new.array) (filled_at listed).moves.pre.chunks full in
                inl (own.0, subst (λ (j : ℕ). HasFullLog j (in_chunks_but old.array.chunks missing listed) (in_runs listed) new.array) (sym own.0) now)
            | inr more ↦
                let other : k ≢ target = λ same.
                both_ways (is_in_sync more.member.state) (out_of_sync more.member.state (recovers more.member (ap (slice_get filled.array.members) (sym same) ∙ more.in_sync.member))) more.in_sync.in_sync in
                inr (record {
                  some = more.some;
                  member = more.member;
                  in_sync = record { member = left_other target after filled new (λ running. go_f.ready.sound) leaves k other ∙ more.in_sync.member; in_sync = more.in_sync.in_sync };
                  list = more.list;
                  list_is = more.list_is;
                  full = more.full;
                })
          ]

          log_full : (after : Bitmap) (stopped new : MirrorView) → stopped ≡ filled → RecordsAtEnd target after stopped new → HasNotSalvaged target (LogFull k) old new
          log_full after stopped new same leaves =
              let leaving : RecordsAtEnd target after filled new = subst (λ (v : MirrorView). RecordsAtEnd target after v new) same leaves in
              let a = filled_at listed in
              let left = left_moves target listed after filled new (λ running. a.sound) leaving in
              let none : Moves target [] old new = moves_on target [] old filled new (filled_at []).moves (left_moves target [] after filled new (λ running. a.sound) leaving) in
              not_salvaged_moved target (LogFull k) lost listed old new m b.at (moves_on target listed old filled new a.moves left) (far new left)
              (inr (record {
                running = left_running target after filled new a.running leaving;
                missing_are = lacked_chunks;
                fewest = fewest_then;
                lists = lists_stay target old new none;
                full = still_full after new leaving;
              }))

        -- a list can't be stored
        module _ (k : ℕ) (nothing : Bitmap) (noted stopped new : MirrorView) (notes : NotesLost listed filled noted) (stops : EndsAtList every_role k noted stopped) (leaves : RecordsAtEnd target nothing stopped new) where
          rec_noted : AreRecovering target noted
          rec_noted = all_noted_recovers target listed filled noted notes recovers

          other : k ≢ target
          other same = both_ways (is_in_sync stops.member.state) (out_of_sync stops.member.state (rec_noted stops.member (ap (slice_get noted.array.members) (sym same) ∙ stops.was.member))) stops.was.in_sync

          moves_fn : Moves target listed filled noted
          moves_fn = all_noted target listed filled noted recovers notes

          moves_n : Moves target listed old noted
          moves_n = moves_on target listed old filled noted (filled_at listed).moves moves_fn

          noted_runs : noted.array.halted ≡ false
          noted_runs = ap (λ (a : ArrayView). a.halted) notes.others ∙ go_f.ready.goes.idle.running

          sound_lost : stopped.array.halted ≡ false → IsConsistent stopped
          sound_lost running = elim stops.ends [
            | inl is ↦ is.loses.goes.sound
            | inr at ↦ absurd (both_ways stopped.array.halted running (halts_list k noted stopped at))
          ]

          rest_lost : KeepsRest target noted new
          rest_lost = rest_on target noted stopped new (rest_list target k every_role noted stopped rec_noted stops) (rest_left target nothing stopped new sound_lost leaves)

          lost_so : IsLost k old.array new.array ⊎ HasHalted k old new
          lost_so = elim stops.ends [
            | inl is ↦
                inl (record {
                  was = λ l at_l. in_sync_recorded l.state (sym (ap is_in_sync (moves_n.states k l stops.member other at_l stops.was.member)) ∙ stops.was.in_sync);
                  running = left_running target nothing stopped new (is.loses.halted ∙ noted_runs) leaves;
                  member = is.faulty.member;
                  at = left_other target nothing stopped new sound_lost leaves k other ∙ is.faulty.at;
                  faulty = is.faulty.faulty;
                })
            | inr at ↦
                let same : new ≡ stopped = halted_left target nothing stopped new (halts_list k noted stopped at) leaves in
                inr (record {
                  failed = fails_moved target k listed old noted new moves_n (subst (λ (v : MirrorView). AtDevice k noted.disks v.disks (λ d g. d.honest ≡ true → d.failures < g.failures)) (sym same) stops.counted);
                  halted = ap (λ (v : MirrorView). v.array.halted) same ∙ halts_list k noted stopped at;
                  member = at.member;
                  in_sync = subst (λ (v : MirrorView). IsInSync v.array k at.member) (sym same) at.in_sync;
                  alone = subst (λ (v : MirrorView). (j : ℕ) (n : MemberView) → IsInSync v.array j n → j ≡ k) (sym same) at.alone;
                })
          ]

          stays_lost : StaysSo target (MetadataFault k) noted.array new.array
          stays_lost = record {
            states = λ j x y beside apart at_x at_y.
                (stops.members j x y at_x (sym (left_other target nothing stopped new sound_lost leaves j beside) ∙ at_y)).1 (λ same. apart (ap (λ i. MetadataFault i) (sym same)));
            marks = (left_array target nothing stopped new leaves).0 ∙ list_marks target k every_role noted stopped stops;
            resynced = (left_array target nothing stopped new leaves).1 ∙ list_resynced target k every_role noted stopped stops;
          }

          list_stops : HasNotSalvaged target (MetadataFault k) old new
          list_stops = not_salvaged target (MetadataFault k) lost listed old noted new new m b.at moves_n rest_lost (lasts_none target (MetadataFault k) new) stays_lost (far noted moves_fn) (other, lost_so)

        without : (after : Bitmap) (stopped new : MirrorView) (fault : RebuildFault) → FailsWithout target missing listed filled stopped fault → LeavesSo target after stopped new fault → HasNotSalvaged target fault old new
        without after stopped new (LogFull k) x leaves = log_full k x.1 after stopped new x.0 leaves
        without after stopped new NoMemory (inl same) leaves =
            no_memory after lost listed old stopped new m b.at (subst (IsAt target listed old) (sym same) (filled_at listed)) leaves
            (λ left. far new (subst (λ (v : MirrorView). Moves target listed v new) same left))
        without after stopped new NoMemory (inr (inl n)) leaves =
            no_memory after lost listed old stopped new m b.at (some_at stopped NoMemory n) leaves (λ left. far new (moves_on target listed filled stopped new (some_moves stopped NoMemory n) left))
        without after stopped new NoMemory (inr (inr w)) leaves =
            let is = w.why in
            no_memory after lost listed old stopped new m b.at (subst (IsAt target listed old) (sym is) (all_at (λ but stored. stopped ≡ stored) w)) leaves
            (λ left. far new (moves_on target listed filled stopped new (subst (Moves target listed filled) (sym is) (all_moves (λ but stored. stopped ≡ stored) w)) left))
        without after stopped new (MetadataFault k) f leaves = list_stops k leaves.0 f.0 stopped new f.1 f.2 leaves.2
        without after stopped new TargetFault w leaves =
            let a = all_at (λ but stored. FailsToEnrol target but (in_runs listed) stored stopped) w in
            let f = w.why in
            as_left after stopped new leaves
            (not_salvaged target TargetFault lost listed old w.stored stopped stopped m b.at a.moves (unenrolled_rest target (in_chunks_but filled.array.chunks missing listed) (in_runs listed) w.stored stopped f) (lasts_none target TargetFault stopped)
            (stays_same target TargetFault w.stored.array stopped.array f.array) (far w.stored (all_moves (λ but stored. FailsToEnrol target but (in_runs listed) stored stopped) w))
            (ap (λ (v : ArrayView). v.halted) f.array ∙ a.running, fails_moved target target listed old w.stored stopped a.moves (λ d g at_d at_g. (f.disks.change d g at_d at_g).0.failed)))
        without after stopped new Halted f leaves = absurd f
        without after stopped new NotSpare f leaves = absurd f
        without after stopped new Dirty f leaves = absurd f
        without after stopped new (InFlight n) f leaves = absurd f
        without after stopped new EventsFull f leaves = absurd f

    -- ---- all of these
    later : (after : Bitmap) (stopped new : MirrorView) (fault : RebuildFault) → EndsSalvageReadied target b.now clear after ready stopped fault → LeavesSo target after stopped new fault → HasNotSalvaged target fault old new
    later after stopped new fault (inl f) leaves = whole_fails after stopped new fault f leaves
    later after stopped new fault (inr (inl h)) leaves = elim h.4.2 [
      | inl none ↦
          subst (λ (q : RebuildFault). HasNotSalvaged target q old new) (sym none.0)
          (no_memory after [] [] old stopped new m b.at (subst (IsAt target [] old) (sym none.2) (passed_at h.0 h.1 h.2 h.3 [])) (subst (LeavesSo target after stopped new) none.0 leaves) (λ left. none_listed new))
      | inr at ↦ at_chunk h.0 h.1 h.2 h.3 h.4.0 after stopped new fault at leaves
    ]
    later after stopped new fault (inr (inr h)) leaves = elim h.7 [
      | inl none ↦
          subst (λ (q : RebuildFault). HasNotSalvaged target q old new) (sym none.0)
          (no_memory after [] [] old stopped new m b.at (subst (IsAt target [] old) (sym none.1) (filled_at h.0 h.1 h.2 h.3 h.4 h.5 [])) (subst (LeavesSo target after stopped new) none.0 leaves) (λ left. none_listed new))
      | inr w ↦ without h.0 h.1 h.2 h.3 h.4 h.5 w.0 w.1 w.2 w.3 after stopped new fault w.4 leaves
    ]

pub not_salvaged_by : (target : ℕ) (fault : RebuildFault) (old new : MirrorView) → IsConsistent old → RefusesSalvage target old new fault → HasNotSalvaged target fault old new
not_salvaged_by target fault old new sound (inl c) = cannot target old new c.0 c.1 c.3 fault c.2
not_salvaged_by target fault old new sound (inr (inl lacks)) =
    let h = lacks.1 in
    subst (λ (q : RebuildFault). HasNotSalvaged target q old new) (sym lacks.0)
    (at_once target old new h.member h.at h.unchanged NoMemory (ap (λ (v : MirrorView). v.array.halted) h.unchanged ∙ h.may.resynced_target.has_target.running))
not_salvaged_by target fault old new sound (inr (inr (inl e))) = early target old new sound (λ lowered. RefusesToReady target lowered new fault) e fault e.why
not_salvaged_by target fault old new sound (inr (inr (inr h))) = later target old h.0 h.1 h.2 h.3.0 h.3.1 new fault h.3.2 h.3.3
