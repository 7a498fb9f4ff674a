-- A pass that was planned and made, and is recorded.
use Rattle.std.proofs.Common.{◌≡◌, ◌∙◌, ◌↔◌, ℕ, ◌<◌, false, List, [], length, Contains, All, get_or, refl, sym, ap, subst, arith, inl, inr}
use Rattle.std.specs.Int.{bit_at, div_ceil}
use Rattle.std.proofs.lemmas.Bool.{both_ways}
use Rattle.std.proofs.lemmas.List.Elements.{All-contains_itself, All-filter}
use Rattle.std.proofs.lemmas.List.Kept.{AllPairs-filter}
use Rattle.md_assembly.proofs.Indices.{got_within}
use Rattle.md_bitmap.specs.Marks.{Bitmap, is_set}
use Rattle.md_cert.specs.declared.plan.Certificate.{Certificate}
use Rattle.md_cert.specs.declared.plan.Plan.{Plan}
use Rattle.md_cert.specs.declared.slots.Slot.{Slot}
use Rattle.md_cert.specs.declared.table.Row.{Row}
use Rattle.md_cert.specs.Assignments.{Least}
use Rattle.md_cert.specs.Plans.{IsCertified}
use Rattle.md_cert.specs.Sources.{has}
use Rattle.md_cert.specs.Tables.{chunks_of_rows, mask_of_chunk, orphans_of}
use Rattle.md_cert.proofs.Bits.{has_zero}
use Rattle.md_cert.proofs.Masks.{row_of}
use Rattle.md_kept_members.specs.View.{MemberView}
use Rattle.md_pass.specs.Copied.{AreUncopied, failed_slots, is_failed_slot}
use Rattle.md_copy.specs.PassLaws.Listed.{IsArrayPass, MayServe}
use Rattle.md_copy.specs.PassLaws.Passes.{PassView}
use Rattle.md_cert.specs.declared.planned.Planned.{Planned}
use Rattle.md_state.specs.Members.{IsMember}
use Rattle.md_state.specs.View.{ArrayView, MirrorView}
use Rattle.md_array.specs.Consistency.{IsConsistent}
use Rattle.md_copy.specs.declared.beginning.fault.RebuildFault.{RebuildFault}
use Rattle.md_copy.specs.declared.beginning.fault.RebuildFault.TheVariants.{Halted, NotSpare, Dirty, InFlight, LogFull, NoMemory, TargetFault, MetadataFault, EventsFull}
use Rattle.md_copy.specs.Table.Sources.{IsTableIn}
use Rattle.md_copy.specs.declared.passes.all_passes.Passed.{Passed}
use Rattle.md_copy.specs.Passes.Held.{AreHeld}
use Rattle.md_copy.specs.Passes.Passing.{FailsOne, IsTableFor, MakesOne, MakesPart}
use Rattle.md_copy.specs.Preparing.{IsNoMemory}
use Rattle.md_copy.specs.Readying.Ready.{IsReadyToCopy}
use Rattle.md_copy.specs.Passes.RebuildSources.{IsPlanOf}
use Rattle.md_copy.specs.Passes.Stretches.{FailsWithin, RecordsStretches}
use Rattle.md_copy.proofs.Passing.StretchesTold.{stretches_joined}
use Rattle.md_copy.proofs.Plans.Planned.{plan_slots}

-- each slot's chunk is a row's
uncopied_slots : (rows : List Row) (plan : Plan) (certificate : Certificate) (copied : Bitmap) → IsCertified rows plan certificate → All (λ (row : Row). is_set copied.bytes row.chunk ≡ false) rows → AreUncopied plan.slots copied
uncopied_slots rows plan certificate copied certified fresh k d below =
    let slot = get_or plan.slots k d in
    let r : Row = record { chunk = 0; mask = 0 } in
    let row = row_of rows slot.chunk (λ none. both_ways (has (mask_of_chunk rows slot.chunk) slot.source) (ap (λ n. has n slot.source) none ∙ has_zero slot.source) (certified.allowed k d below)) in
    ap (λ n. is_set copied.bytes n) (sym (row.is r)) ∙ fresh row.at r row.within

module _ (target : ℕ) (v : MirrorView) (ready : IsReadyToCopy target v) (within : target < length v.array.members) (rows : List Row) (before : Bitmap) (held : AreHeld v target before) (table : IsTableFor v target before rows) (planned : Planned)
    (certified : IsCertified rows planned.plan planned.certificate) where
  abbrev a : ArrayView
  a = v.array

  pub plan_of : (m : MemberView) → IsMember a target m → IsPlanOf a m planned.plan
  plan_of m at = plan_slots a m rows planned.plan planned.certificate (table.table m at) certified

  pub uncopied : AreUncopied planned.plan.slots before
  uncopied = uncopied_slots rows planned.plan planned.certificate before certified table.fresh

  pub marks_count : before.chunks ≡ div_ceil a.chunks.size a.chunks.sectors
  marks_count = held.chunks ∙ ready.sound.chunks.count

  -- once its stretches are made the marks are as many as before
  pub slots_low : (after : Bitmap) (x : MirrorView) → RecordsStretches target planned.plan.slots before after v x → All (λ (s : Slot). s.chunk < after.chunks) planned.plan.slots
  slots_low after x made k d below =
      let at = got_within a.members target within in
      let low = ((plan_of at.0 at.1).each k d below).lacks.low in
      let count = marks_count in
      let same = (stretches_joined target made.rounds planned.plan.slots [] before after v x made.all).chunks in
      omega (arith, low, count, same)

  -- the pass with its failed slots
  module _ (least : Least rows planned.plan.rounds) (orphans : planned.orphans ≡ orphans_of rows) where
    abbrev pub pass_of : Bitmap → PassView
    pass_of after = record { planned = planned; failed = failed_slots planned.plan.slots after }

    serves_row : (m : MemberView) → IsTableIn a m rows → All (λ (row : Row). (role : ℕ) → role < 32 → (bit_at row.mask role ≡ 1) ↔ MayServe a row.chunk role) rows
    serves_row m is k d below role small = (
      λ bit. (small, (is.lacking k d below).low, (is.sources k d below role small).0 bit),
      λ serves. (is.sources k d below role small).1 serves.2,
    )

    pub is_pass : (after : Bitmap) → IsArrayPass a (chunks_of_rows rows) (pass_of after)
    is_pass after =
        let at = got_within a.members target within in
        record {
          rows = rows;
          chunks_are = refl;
          sources = serves_row at.0 (table.table at.0 at.1);
          certified = certified;
          least = least;
          orphans = orphans;
          failed = All-filter (is_failed_slot after) (Contains planned.plan.slots) planned.plan.slots (All-contains_itself planned.plan.slots);
          failed_rise = AllPairs-filter (λ (s t : Slot). s.chunk < t.chunk) (is_failed_slot after) planned.plan.slots certified.rising;
        }

    -- ---- it is made
    module _ (after : Bitmap) (x : MirrorView) (sound : IsConsistent x) where
      pub made_one : RecordsStretches target planned.plan.slots before after v x → (told : Passed) → told.planned ≡ planned → told.failed ≡ length (failed_slots planned.plan.slots after)
          → MakesOne target rows before after v x told
      made_one stretches told plan_is failed_is =
          let at = got_within a.members target within in
          record {
            pass = pass_of after;
            planned = plan_is;
            failed = failed_is;
            records = record { is = is_pass after; member = at.0; at = at.1; uncopied = uncopied; failed = refl; stretches = stretches; sound = sound };
          }

      abbrev Within : RebuildFault → Type 0
      Within fault = FailsWithin target planned.plan.slots before after v x fault

      -- so far as it came
      abbrev part : (fault : RebuildFault) (e : Within fault) → MakesPart target (chunks_of_rows rows) before e.copied v e.begun
      part fault e = record { pass = pass_of after; is = is_pass after; uncopied = uncopied; rounds = e.rounds; left = e.left; stretches = e.stretches }

      pub ends_in : (fault : RebuildFault) → Within fault → FailsOne target rows before after v x fault
      ends_in NoMemory e =
          inr (subst (λ (b : Bitmap). MakesPart target (chunks_of_rows rows) before b v x) (sym e.why.0)
          (subst (λ (y : MirrorView). MakesPart target (chunks_of_rows rows) before e.copied v y) (sym e.why.1) (part NoMemory e)))
      ends_in TargetFault e = elim e.why [
        | inl breaks ↦ inl (record { copied = e.copied; begun = e.begun; part = part TargetFault e; round = e.round; why = breaks })
        | inr fails ↦ inr (record { copied = e.copied; begun = e.begun; part = part TargetFault e; round = e.round; why = fails })
      ]
      ends_in Halted e = absurd e.why
      ends_in NotSpare e = absurd e.why
      ends_in Dirty e = absurd e.why
      ends_in (InFlight n) e = absurd e.why
      ends_in (LogFull k) e = absurd e.why
      ends_in (MetadataFault k) e = absurd e.why
      ends_in EventsFull e = absurd e.why

pub unplanned : (target : ℕ) (v : MirrorView) (rows : List Row) (before : Bitmap) (fault : RebuildFault) → IsNoMemory fault → FailsOne target rows before before v v fault
unplanned target v rows before NoMemory is = inl (refl, refl)
unplanned target v rows before Halted is = absurd is
unplanned target v rows before NotSpare is = absurd is
unplanned target v rows before Dirty is = absurd is
unplanned target v rows before (InFlight n) is = absurd is
unplanned target v rows before (LogFull k) is = absurd is
unplanned target v rows before TargetFault is = absurd is
unplanned target v rows before (MetadataFault k) is = absurd is
unplanned target v rows before EventsFull is = absurd is
