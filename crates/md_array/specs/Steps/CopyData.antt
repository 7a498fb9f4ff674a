-- A copy of a run of sectors is the model's events, one a sector.
use Rattle.std.specs.Prelude.{◌≡◌, ℕ, ◌*◌, ◌/◌, List, length, Option, ⊤, Result, MatchResult}
use Rattle.md_model.specs.Events.{Event, MemberPart}
use Rattle.md_faults.specs.declared.copy_fault.CopyFault.{CopyFault}
use Rattle.md_faults.specs.declared.copy_fault.CopyFault.TheVariants.{Halted, MemberFailed}
use Rattle.md_state.specs.Steps.CopyData.{copies_of}
use Rattle.md_state.specs.Requests.{AreInFlight}
use Rattle.md_state.specs.View.{MirrorView}
use Rattle.md_array.specs.Events.{Happens}
use Rattle.md_array.specs.InTurn.{Leads, Requests}

-- The run is copied sector by sector, through mirrors that no caller sees: the device is written once.
pub record CopiesInTurn (k sector : ℕ) (bytes : List ℕ) (old new : MirrorView) : Type 0 where
  pub from : ℕ
  pub sectors : ℕ
  pub long : length bytes ≡ 512 * sectors
  pub leads : (previous : Option Event) (requests : Requests) → AreInFlight old.array requests → Leads previous old requests (copies_of from k sector sectors) new requests

-- where the fault is the member's failure
abbrev pub IfCopyingFailed : Type 0 → CopyFault → Type 0
IfCopyingFailed P (MemberFailed j) = P
IfCopyingFailed P Halted = ⊤

abbrev pub CopyHappens : ℕ → ℕ → List ℕ → MirrorView → MirrorView → {T : Type 0} → Result T CopyFault → Type 0
CopyHappens k sector bytes old new result =
    MatchResult result (λ _. CopiesInTurn k sector bytes old new)
    (IfCopyingFailed (Happens old (Event.WriteFails k (MemberPart.CopiedSectors sector (length bytes / 512))) new))
