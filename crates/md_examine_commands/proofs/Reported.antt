-- A report that was put out, an output that failed under it, and a part that was not read.
use Rattle.std.proofs.Common.{◌≡◌, ℕ, Bool, List, Result, Ok, Err, IfOk, subst, sym}
use Rattle.md_device.specs.declared.fault_list.Fault.{Fault}
use Rattle.md_streams.specs.declared.sink.Sink.{Ghosts}
use Rattle.md_raw_reports.specs.declared.raw_members.fault.RawFault.{RawFault}
use Rattle.md_raw_reports.specs.declared.raw_members.fault.RawFault.TheVariants.{NoBitmap, Region, TooShort}
use Rattle.md_words.specs.Asks.{Ask}
use Rattle.md_refusals.specs.Output.{ShowsText}
use Rattle.md_refusals.specs.declared.fault.CommandFault.{CommandFault}
use Rattle.md_examine_commands.specs.Examining.{Examines, RefusesOrFails, Reports, of_raw}

module _ {S : Type 0} (s : Ghosts S) (Shown : List ℕ → Type 0) (Refused : CommandFault → Type 0) (old new : S) where
  pub reported : (text : List ℕ) (result : Result (Unit {0}) CommandFault) → Shown text → ShowsText s text old new result → Reports s Shown Refused old new result
  reported text (Ok v) shown h = (text, shown, h)
  reported text (Err f) shown h = subst (λ (e : CommandFault). RefusesOrFails s Shown Refused old new e) (sym h.is) (h.failed, text, shown)

  pub flushed : (result : Result (Unit {0}) CommandFault) → Reports s Shown Refused old new result → IfOk result (λ _. s.is_flushed new)
  flushed (Ok v) h = h.2.flushed
  flushed (Err f) h = tt

  by_fault : (f : RawFault) → new ≡ old → Refused (of_raw f) → RefusesOrFails s Shown Refused old new (of_raw f)
  by_fault TooShort same refused = (same, refused)
  by_fault NoBitmap same refused = (same, refused)
  by_fault Region same refused = (same, refused)

  pub refused_raw : (f : RawFault) (fault : CommandFault) → fault ≡ of_raw f → new ≡ old → Refused (of_raw f) → RefusesOrFails s Shown Refused old new fault
  refused_raw f fault is same refused =
      subst (λ (e : CommandFault). RefusesOrFails s Shown Refused old new e) (sym is) (by_fault f same refused)

-- what a command gives is what its words ask for
module _ {S : Type 0} (s : Ghosts S) (content : List ℕ) (honest : Bool) (Failed : (Fault → Type 0) → Type 0) (old new : S) (result : Result (Unit {0}) CommandFault) where
  pub as_asked : {asked ask : Ask} → asked ≡ ask → Examines ask s content honest Failed old new result → Examines asked s content honest Failed old new result
  as_asked e h = subst (λ (a : Ask). Examines a s content honest Failed old new result) (sym e) h
