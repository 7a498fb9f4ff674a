-- What a rebuild answers, by the step that ends it.
use Rattle.std.proofs.Common.{◌∙◌, ℕ, false, List, length, refl, sym, ap, subst, inl, inr}
use Rattle.std.proofs.lemmas.List.{length-map}
use Rattle.md_bitmap.specs.Marks.{Bitmap}
use Rattle.md_kept_members.specs.View.{MemberView}
use Rattle.md_copy.specs.PassLaws.Passes.{PassView}
use Rattle.md_cert.specs.declared.planned.Planned.{Planned}
use Rattle.md_state.specs.Members.{IsMember}
use Rattle.md_state.specs.View.{MirrorView}
use Rattle.md_array.specs.Consistency.{IsConsistent}
use Rattle.md_copy.specs.declared.beginning.fault.RebuildFault.{RebuildFault}
use Rattle.md_copy.specs.declared.beginning.fault.RebuildFault.TheVariants.{Halted, NotSpare, Dirty, InFlight, LogFull, NoMemory, TargetFault, MetadataFault, EventsFull}
use Rattle.md_copy.specs.Table.Orphans.{IsSetOf}
use Rattle.md_copy.specs.Table.Beginning.{CannotRebuild, MayBeginRebuild}
use Rattle.md_copy.specs.declared.rebuilt.Rebuilt.{Rebuilt}
use Rattle.md_copy.specs.Ending.Enrolled.{EnrolsCopied, FailsCopied, HasSets}
use Rattle.md_copy.specs.Ending.Leaving.{LeavesSo}
use Rattle.md_copy.specs.Passes.Passing.{EndsBetween, FailsListing, PassesAll, PassesFail}
use Rattle.md_copy.specs.Readying.Ready.{IsReadyToCopy}
use Rattle.md_copy.specs.Readying.Admission.{EndsAdmitted, FailsAdmission, LacksAdmission, LowersTarget, RefusesToReady}
use Rattle.md_copy.specs.Rebuilding.{BeginsRebuild, EndsReadied, EndsStoring, FillsBy, LacksMemoryToRebuild, LacksRoom, LosesSource, LosesTarget, Rebuilds, RebuildsReadied, RefusesRebuild, EndsAfterReady}
use Rattle.md_copy.specs.Readying.Storing.{EndsAtOther, FailsToRecordTarget, StoresUntilDone}
use Rattle.md_copy.proofs.Passing.PassesLack.{all_lacks, orphans_same}

-- ---- before anything is done
pub refused_at_once : (target : ℕ) (v : MirrorView) (m : MemberView) → IsMember v.array target m → (fault : RebuildFault) → CannotRebuild v.array m fault → RefusesRebuild target v v fault
refused_at_once target v m at Halted h = record { unchanged = refl; member = m; at = at; cannot = h }
refused_at_once target v m at NotSpare h = record { unchanged = refl; member = m; at = at; cannot = h }
refused_at_once target v m at Dirty h = record { unchanged = refl; member = m; at = at; cannot = h }
refused_at_once target v m at (InFlight n) h = record { unchanged = refl; member = m; at = at; cannot = h }
refused_at_once target v m at (LogFull k) h = absurd h
refused_at_once target v m at NoMemory h = absurd h
refused_at_once target v m at TargetFault h = absurd h
refused_at_once target v m at (MetadataFault k) h = absurd h
refused_at_once target v m at EventsFull h = record { unchanged = refl; member = m; at = at; cannot = h }

-- ---- while it is readied
module _ (target : ℕ) (old mid : MirrorView) (m : MemberView) (at : IsMember old.array target m) (may : MayBeginRebuild old.array m) (none : Bitmap) (is_none : IsSetOf old.array (λ c. false) none) (lowers : LowersTarget target none old mid) where
  storing : (Why : MirrorView → Type 0) → Why mid → EndsStoring target old Why
  storing Why why = record { member = m; at = at; may = may; none = none; is_none = is_none; lowered = mid; lowers = lowers; why = why }

  pub refused_ready : (new : MirrorView) (fault : RebuildFault) → RefusesToReady target mid new fault → RefusesRebuild target old new fault
  refused_ready new (MetadataFault k) h = elim h [
    | inl stops ↦ inl (storing (λ lowered. EndsAtOther target k lowered new) stops)
    | inr left ↦ inr (inl (storing (λ lowered. EndsAdmitted target k lowered new) left))
  ]
  refused_ready new TargetFault h = elim h [
    | inl fails ↦ inl (storing (λ lowered. FailsToRecordTarget target lowered new) fails)
    | inr fails ↦ inr (inl (storing (λ lowered. FailsAdmission target lowered new) fails))
  ]
  refused_ready new NoMemory h = inr (inl (storing (λ lowered. LacksAdmission target lowered new) h))
  refused_ready new Halted h = absurd h
  refused_ready new NotSpare h = absurd h
  refused_ready new Dirty h = absurd h
  refused_ready new (InFlight n) h = absurd h
  refused_ready new (LogFull k) h = absurd h
  refused_ready new EventsFull h = absurd h

-- memory was refused for the set of the chunks
pub refused_set : (target : ℕ) (v : MirrorView) (m : MemberView) → IsMember v.array target m → MayBeginRebuild v.array m → RefusesRebuild target v v NoMemory
refused_set target v m at may = inl (record { member = m; at = at; may = may; unchanged = refl })

-- ---- while passes are made
module _ (target : ℕ) (m : MemberView) (none : Bitmap) (ready : MirrorView) where
  -- the set after the last pass is some set
  abbrev pub with_set : (Why : Bitmap → List ℕ → Bitmap → MirrorView → Type 0) (after : Bitmap) → EndsBetween target m none ready (λ left copied now. Why after left copied now)
      → EndsBetween target m none ready (λ left copied now. (b : Bitmap) × Why b left copied now)
  with_set Why after e = record { passes = e.passes; left = e.left; copied = e.copied; now = e.now; passed = e.passed; why = (after, e.why) }

  pub passes_stop : (after : Bitmap) (new : MirrorView) (fault : RebuildFault) → PassesFail target m none after ready new fault → EndsAfterReady target m none after ready new fault
  passes_stop after new NoMemory h = elim h [
    | inl same ↦ inl same
    | inr listing ↦ inr (inl listing)
  ]
  passes_stop after new (LogFull k) h = inl h
  passes_stop after new (MetadataFault k) h = with_set (λ b left copied now. FailsListing target (MetadataFault k) left copied b now new) after h
  passes_stop after new TargetFault h = elim h [
    | inl off ↦ inl off
    | inr fails ↦ inr (inl fails)
  ]
  passes_stop after new Halted h = absurd h
  passes_stop after new NotSpare h = absurd h
  passes_stop after new Dirty h = absurd h
  passes_stop after new (InFlight n) h = absurd h
  passes_stop after new EventsFull h = absurd h

  -- ---- once they are made
  module _ (at : IsMember ready.array target m) (is_ready : IsReadyToCopy target ready) (copied : Bitmap) (filled : MirrorView) (plans : List Planned) (all : PassesAll target m none copied ready filled plans) where
    fills_by : (kept orphans : Bitmap) (chunks : List ℕ) → HasSets target copied kept orphans chunks filled → FillsBy target m all.passes none copied kept orphans chunks ready filled
    fills_by kept orphans chunks has = record {
      copies = all.copies;
      chunks_are = has.sets.chunks_are
          ∙ orphans_same target none copied ready filled (all_lacks target m all.passes none copied ready filled all.copies) m has.may.member at has.may.at (is_ready.recovering m at) is_ready.sound.chunks.count;
      has = has;
      sound = all.ready.sound;
    }

    pub enrol_stops : (after : Bitmap) (new : MirrorView) (fault : RebuildFault) → FailsCopied target copied after filled new fault → EndsAfterReady target m none after ready new fault
    enrol_stops after new NoMemory h =
        inr (inr (record { passes = all.passes; copied = copied; kept = h.kept; orphans = h.orphans; chunks = h.chunks; filled = filled; fills = fills_by h.kept h.orphans h.chunks h.has; why = h.why }))
    enrol_stops after new (LogFull k) h =
        inr (h.0, record { passes = all.passes; copied = copied; kept = h.1.kept; orphans = h.1.orphans; chunks = h.1.chunks; filled = filled; fills = fills_by h.1.kept h.1.orphans h.1.chunks h.1.has; why = h.1.why })
    enrol_stops after new TargetFault h =
        inr (inr (record { passes = all.passes; copied = copied; kept = h.kept; orphans = h.orphans; chunks = h.chunks; filled = filled; fills = fills_by h.kept h.orphans h.chunks h.has; why = h.why }))
    enrol_stops after new Halted h = absurd h
    enrol_stops after new NotSpare h = absurd h
    enrol_stops after new Dirty h = absurd h
    enrol_stops after new (InFlight n) h = absurd h
    enrol_stops after new (MetadataFault k) h = absurd h
    enrol_stops after new EventsFull h = absurd h

    pub rebuilds_readied : (enrolled new : MirrorView) (told : Rebuilt) → EnrolsCopied target plans copied filled enrolled told → IsConsistent enrolled → StoresUntilDone enrolled new → RebuildsReadied target m none ready new told
    rebuilds_readied enrolled new told h sound stores_until_done = record {
      passes = all.passes;
      copied = copied;
      kept = h.kept;
      orphans = h.orphans;
      chunks = told.orphans.items;
      tells = record {
        passes_are = h.passes_are ∙ ap length all.plans_are ∙ length-map all.passes (λ (p : PassView). p.planned);
        plans = h.plans_are ∙ all.plans_are;
        orphans_are = refl;
      };
      by = record {
        filled = filled;
        fills = fills_by h.kept h.orphans told.orphans.items h.has;
        enrolled = enrolled;
        enrols = h.enrols;
        sound = sound;
        stores_until_done = stores_until_done;
      };
    }

-- ---- the whole call
module _ (target : ℕ) (old ready : MirrorView) (none : Bitmap) (begins : BeginsRebuild target old ready none) where
  pub rebuilds : (new : MirrorView) (told : Rebuilt) → RebuildsReadied target begins.now none ready new told → Rebuilds target told old new
  rebuilds new told h = record { ready = ready; none = none; begins = begins; rebuilds = h }

  readied : (Why : MemberView → Bitmap → MirrorView → Type 0) → Why begins.now none ready → EndsReadied target old Why
  readied Why why = record { ready = ready; none = none; begins = begins; why = why }

  pub refused_readied : (after : Bitmap) (stopped new : MirrorView) (fault : RebuildFault) → EndsAfterReady target begins.now none after ready stopped fault → LeavesSo target after stopped new fault
      → RefusesRebuild target old new fault
  refused_readied after stopped new NoMemory h left = inr (inr (record { copied = after; stopped = stopped; why = readied (λ m n r. LacksMemoryToRebuild target m n after r stopped) h; leaves = left }))
  refused_readied after stopped new (LogFull k) h left = record { copied = after; stopped = stopped; why = readied (λ m n r. LacksRoom k target m n after r stopped) h; leaves = left }
  refused_readied after stopped new (MetadataFault k) h left =
      inr (inr (record { copied = left.0; stopped = stopped; why = (left.1, readied (λ m n r. LosesSource k target m n r stopped) h); leaves = left.2 }))
  refused_readied after stopped new TargetFault h left = inr (inr (readied (λ m n r. LosesTarget target m n r new) (subst (λ (v : MirrorView). LosesTarget target begins.now none ready v) (sym left) h)))
  refused_readied after stopped new Halted h left = absurd h
  refused_readied after stopped new NotSpare h left = absurd h
  refused_readied after stopped new Dirty h left = absurd h
  refused_readied after stopped new (InFlight n) h left = absurd h
  refused_readied after stopped new EventsFull h left = absurd h
