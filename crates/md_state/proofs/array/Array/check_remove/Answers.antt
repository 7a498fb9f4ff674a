use Rattle.std.proofs.Common.{◌≡◌, ◌∙◌, true≢false, refl, sym, ap}
use Rattle.md_kept_members.specs.View.{MemberView}
use Rattle.md_assembly.specs.States.{is_active, is_spare}
use Rattle.md_state.specs.View.{ArrayView}
use Rattle.md_state.proofs.Members.At.{member_read, read_member}
use Rattle.md_state.proofs.array.Array.check_remove.Goals as goal
use Rattle.md_state.proofs.array.Array.check_remove.Goals.{else-is_spare-via-then-is_spare+else-self-2, else-is_spare-via-else-is_spare}

pub returns-then-is_active : goal.returns-then-is_active
returns-then-is_active c disks =
    let m = c.index.result.now in
    record {
      unchanged = refl;
      reason = record {
        running = sym (ap (λ (y : ArrayView). y.halted) c.self.view_is) ∙ c.if-self.false;
        member = m;
        at = member_read c.args.self.now _ c.args.k m c.self.view_is c.requires c.index.ensures;
        active = ap (λ (y : MemberView). is_active y.state) (sym c.behind-self.view_is) ∙ sym c.is_active.ensures ∙ c.if-is_active.true;
      };
    }

pub returns-then-self-2 : goal.returns-then-self-2
returns-then-self-2 c disks =
    let m = c.index.result.now in
    record {
      unchanged = refl;
      reason = record {
        running = sym (ap (λ (y : ArrayView). y.halted) c.self.view_is) ∙ c.if-self.false;
        member = m;
        at = member_read c.args.self.now _ c.args.k m c.self.view_is c.requires c.index.ensures;
        spare = ap (λ (y : MemberView). is_spare y.state) (sym c.behind-self.view_is) ∙ sym c.is_spare.ensures ∙ c.if-is_spare.true;
        spent = sym (ap (λ (y : ArrayView). y.shared.events) c.self.view_is) ∙ c.if-self-2.true;
      };
    }

pub returns : goal.returns
returns c disks m at =
    let x = c.index.result.now in
    let same : x ≡ m = read_member c.args.self.now _ c.args.k m x c.self.view_is c.requires at c.index.ensures in
    let told : is_spare m.state ≡ c.is_spare.result = ap (λ (y : MemberView). is_spare y.state) (sym (c.behind-self.view_is ∙ same)) ∙ sym c.is_spare.ensures in
    record {
      running = sym (ap (λ (y : ArrayView). y.halted) c.self.view_is) ∙ c.if-self.false;
      at = at;
      out = ap (λ (y : MemberView). is_active y.state) (sym (c.behind-self.view_is ∙ same)) ∙ sym c.is_active.ensures ∙ c.if-is_active.false;
      unspent = λ spare spent. elim c.else-is_spare.branch [
        | else-is_spare-via-then-is_spare+else-self-2 w ↦ w.if-self-2.false (ap (λ (y : ArrayView). y.shared.events) c.self.view_is ∙ spent)
        | else-is_spare-via-else-is_spare w ↦ true≢false (sym spare ∙ told ∙ w.if-is_spare.false)
      ];
    }
