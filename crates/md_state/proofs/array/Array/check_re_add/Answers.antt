use Rattle.std.proofs.Common.{rules, ◌≡◌, ◌∙◌, ℕ, Bool, List, refl, sym, ap}
use Rattle.md_kept_members.specs.View.{MemberView}
use Rattle.md_kept_members.specs.Membership.Roles.{is_taken}
use Rattle.md_state.specs.View.{ArrayView}
use Rattle.md_state.proofs.array.Array.check_re_add.Goals as goal

told : (members kept : List MemberView) (role own : ℕ) (is answer : Bool) → kept ≡ members → role ≡ own → is ≡ is_taken kept role → is ≡ answer → is_taken members own ≡ answer
told members kept role own is answer same_members same ensures holds =
    ap (λ (ms : List MemberView). is_taken ms own) (sym same_members) ∙ ap (is_taken kept) (sym same) ∙ sym ensures ∙ holds

pub returns-then-is_taken : goal.returns-then-is_taken
returns-then-is_taken c = record {
  room = search rules;
  fits = c.if-not-is_re_addable.ensures.0 refl;
  taken = told _ _ _ _ _ _ (c.deref.ensures.value ∙ ap (λ (a : ArrayView). a.members) c.self.view_is) c.role_of.ensures c.is_taken.ensures c.if-is_taken.true;
}

pub returns-then-self : goal.returns-then-self
returns-then-self c = record {
  room = search rules;
  fits = c.if-not-is_re_addable.ensures.0 refl;
  free = told _ _ _ _ _ _ (c.deref.ensures.value ∙ ap (λ (a : ArrayView). a.members) c.self.view_is) c.role_of.ensures c.is_taken.ensures c.if-is_taken.false;
  spent = sym (ap (λ (y : ArrayView). y.shared.events) c.self.view_is) ∙ c.if-self.true;
}

pub returns : goal.returns
returns c = record {
  room = search rules;
  fits = c.if-not-is_re_addable.ensures.0 refl;
  free = told _ _ _ _ _ _ (c.deref.ensures.value ∙ ap (λ (a : ArrayView). a.members) c.self.view_is) c.role_of.ensures c.is_taken.ensures c.if-is_taken.false;
  unspent = λ spent. c.if-self.false (ap (λ (y : ArrayView). y.shared.events) c.self.view_is ∙ spent);
}
