use Rattle.std.proofs.Common.{ap, sym, ◌∙◌}
use Rattle.std.specs.Prelude.{◌==◌}
use Rattle.std.specs.List.{list_any}
use Rattle.std.proofs.lemmas.Bool.{eq-eqb, eqb-true}
use Rattle.md_assembly.specs.Assembled.{superblocks, tells_otherwise}
use Rattle.md_assembly.specs.States.{is_in_sync, state_of}
use Rattle.md_assembly.proofs.Freshness.{any_superblock, both_hold}
use Rattle.md_assembly.proofs.freshest.disputes.Goals as goal
use Rattle.md_assembly.proofs.freshest.disputes.Goals.{then-other-superblock, else-other-superblock}

pub returns-then-is_in_sync : goal.returns-then-is_in_sync
returns-then-is_in_sync c =
    let v = c.args.superblock.now in
    let w = c.args.other.now in
    let members = c.args.members.now in
    let told = c.tells_otherwise_of_some.ensures ∙ sym (any_superblock (tells_otherwise v w) members) in
    elim c.if-other-superblock.branch [
      | then-other-superblock x ↦
          let in_sync = ap is_in_sync (sym x.state_of.ensures) ∙ sym x.is_in_sync.ensures ∙ sym x.value-is ∙ c.if-is_in_sync.true in
          told ∙ both_hold (w.events == v.events) (is_in_sync (state_of v w)) (list_any (tells_otherwise v w) (superblocks members))
          (eq-eqb w.events v.events x.if-other-superblock.true) in_sync
      | else-other-superblock x ↦ absurd (x.if-other-superblock.false (eqb-true w.events v.events (sym x.value-is ∙ c.if-is_in_sync.true)))
    ]
