use Rattle.std.proofs.Common.{◌∙◌, sym, ap}
use Rattle.md_state.specs.View.{ArrayView}
use Rattle.md_state.proofs.Members.At.{member_read}
use Rattle.md_state.proofs.array.Array.check_admit.Goals as goal

pub returns-in_default : goal.returns-in_default
returns-in_default c = record {
  running = sym (ap (λ (a : ArrayView). a.halted) c.self.view_is) ∙ c.if-self.false;
  member = c.index.result.now;
  at = member_read c.args.self.now _ c.args.k c.index.result.now c.self.view_is c.requires.within c.index.ensures;
  none = c.in_default.ensures;
}

pub returns-then-self-2 : goal.returns-then-self-2
returns-then-self-2 c = record {
  running = sym (ap (λ (a : ArrayView). a.halted) c.self.view_is) ∙ c.if-self.false;
  member = c.index.result.now;
  at = member_read c.args.self.now _ c.args.k c.index.result.now c.self.view_is c.requires.within c.index.ensures;
  role = c.in-Some.role;
  gets = c.in-Some.ensures;
  spent = sym (ap (λ (a : ArrayView). a.shared.events) c.self.view_is) ∙ c.if-self-2.true;
}

pub returns : goal.returns
returns c = record {
  running = sym (ap (λ (a : ArrayView). a.halted) c.self.view_is) ∙ c.if-self.false;
  member = c.index.result.now;
  at = member_read c.args.self.now _ c.args.k c.index.result.now c.self.view_is c.requires.within c.index.ensures;
  gets = c.in-Some.ensures;
  unspent = λ spent. c.if-self-2.false (ap (λ (a : ArrayView). a.shared.events) c.self.view_is ∙ spent);
}
