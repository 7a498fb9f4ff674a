-- The command that plans the rebuild of a member.
use Rattle.std.specs.Prelude.{◌≡◌, ℕ, true, List}
use Rattle.md_cert.specs.declared.table.Row.{Row}
use Rattle.md_cert.specs.declared.verdict.Verdict.{Verdict}
use Rattle.md_cert.specs.declared.verdict.Verdict.TheVariants.{Yes}
use Rattle.md_cert.specs.Assignments.{Least}
use Rattle.md_cert.specs.Plans.{IsCertified}
use Rattle.md_cert.specs.Tables.{orphans_of}
use Rattle.md_cert.specs.Verdicts.{IsVerdict}
use Rattle.md_cert.specs.declared.planned.Planned.{Planned}
use Rattle.md_kept_members.specs.View.{MemberView}
use Rattle.md_state.specs.View.{ArrayView}
use Rattle.md_state.specs.Members.{IsMember}
use Rattle.md_copy.specs.Table.Sources.{IsTableOf}
use Rattle.md_copy.specs.Table.Targets.{IsTarget}
use Rattle.md_copy.specs.declared.beginning.fault.RebuildFault.{RebuildFault}
use Rattle.md_copy.specs.Table.Beginning.{RefusesTable}
use Rattle.md_streams.specs.declared.sink.Sink.{Ghosts}
use Rattle.md_refusals.specs.declared.fault.CommandFault.{CommandFault}
use Rattle.md_refusals.specs.declared.fault.CommandFault.TheVariants.{BadMember, OutputFault, Rebuild}
use Rattle.md_commands.specs.Failing.{LacksMember}
use Rattle.md_streams.specs.Putting.{PutsOut}

-- A plan of the table of the chunks that the member lacks, in the fewest rounds, with a certificate for them. Whatever the
-- checker may answer to it is `Yes`.
pub record PlansFor (a : ArrayView) (m : MemberView) (planned : Planned) : Type 0 where
  pub table : List Row
  pub table_is : IsTableOf a m table
  pub certified : IsCertified table planned.plan planned.certificate
  pub least : Least table planned.plan.rounds
  pub orphans : planned.orphans ≡ orphans_of table
  pub yes : (v : Verdict) → IsVerdict table planned.plan planned.certificate v → v ≡ Yes

-- the plan of a rebuild of member k, which may be rebuilt
pub record IsRebuildPlan (a : ArrayView) (k : ℕ) (planned : Planned) : Type 0 where
  pub member : MemberView
  pub listed : IsMember a k member
  pub target : IsTarget a member
  pub plans : PlansFor a member planned

-- why there is none: the array has no member k; the member may not be rebuilt; or there is no memory
abbrev pub RefusesPlanTarget : ArrayView → ℕ → RebuildFault → Type 0
RefusesPlanTarget a k fault = (m : MemberView) × IsMember a k m × RefusesTable a m fault

abbrev pub RefusesPlan : ArrayView → ℕ → CommandFault → Type 0
RefusesPlan a k BadMember = LacksMember a k
RefusesPlan a k (Rebuild fault) = RefusesPlanTarget a k fault
RefusesPlan a k fault = ⊥

module _ {S : Type 0} (s : Ghosts S) (a : ArrayView) (k : ℕ) (before after : S) where
  -- the plan is put out, in a text that is made of it
  pub record ShowsPlan (text_of : Planned → List ℕ) : Type 0 where
    pub planned : Planned
    pub is : IsRebuildPlan a k planned
    pub shown : PutsOut s before after (text_of planned)

  -- there is none, and nothing is put out; or there is one, and the output failed
  abbrev pub RefusesToPlan : CommandFault → Type 0
  RefusesToPlan OutputFault = ((planned : Planned) × IsRebuildPlan a k planned) × (s.failed after ≡ true)
  RefusesToPlan fault = RefusesPlan a k fault × (after ≡ before)
