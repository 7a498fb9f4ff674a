use Rattle.std.proofs.Common.{◌∙◌, ap, sym}
use Rattle.md_kept_members.specs.View.{MemberView}
use Rattle.md_assembly.specs.States.{is_recorded}
use Rattle.md_state.specs.View.{ArrayView}
use Rattle.md_state.proofs.Members.At.{member_read}
use Rattle.md_state.proofs.array.Array.check_active.Goals as goal

pub returns-else-is_recorded : goal.returns-else-is_recorded
returns-else-is_recorded c = record {
  running = sym (ap (λ (a : ArrayView). a.halted) c.self.view_is) ∙ c.if-self.false;
  member = c.index.result.now;
  at = member_read c.args.self.now _ c.args.k c.index.result.now c.self.view_is c.requires c.index.ensures;
  inactive = sym (ap (λ (m : MemberView). is_recorded m.state) c.behind-self.view_is) ∙ sym c.is_recorded.ensures ∙ c.if-is_recorded.false;
}
