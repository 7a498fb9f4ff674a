use Rattle.std.proofs.Common.{◌∙◌, set, ap, sym, subst}
use Rattle.md_kept_members.specs.Members.{made_due}
use Rattle.md_kept_members.specs.TakingBack.{admitted_member}
use Rattle.md_kept_members.proofs.Kept.Offsets.{mapped_there}
use Rattle.md_state.specs.Members.{IsMember}
use Rattle.md_state.specs.View.{ArrayView}
use Rattle.md_state.proofs.array.Array.note_admitted.Goals as goal

pub returns : goal.returns
returns c m at =
    let there = subst (λ (a : ArrayView). IsMember a c.args.k (made_due m)) (sym c.note_risen.ensures) (mapped_there made_due c.args.self.now.members c.args.k m at) in
    c.take_role.ensures (made_due m) there
    ∙ ap (λ (a : ArrayView). record a { members = set a.members c.args.k (admitted_member c.args.role m) }) c.note_risen.ensures
