use Rattle.std.proofs.Common.{◌≡◌, ◌∙◌, ℕ, ◌<◌, Bool, true, false, List, get_or, length, refl, sym, ap, subst}
use Rattle.md_kept_members.specs.View.{MemberView}
use Rattle.md_kept_members.specs.Members.{HasOtherInSync, IsLastInSync}
use Rattle.md_assembly.specs.States.{is_active}
use Rattle.md_state.specs.View.{ArrayView}
use Rattle.md_state.specs.Steps.Fail.{IsNotActive, IsRunningWith}
use Rattle.md_state.proofs.Members.At.{member_read}
use Rattle.md_state.proofs.array.Array.check_fail.Goals as goal

runs_with : (a b : ArrayView) (k : ℕ) (x inside : MemberView) (told : Bool) → b ≡ a → k < length a.members → x ≡ get_or b.members k x → b.halted ≡ false → inside ≡ x
    → told ≡ is_active inside.state → told ≡ true → IsRunningWith k a
runs_with a b k x inside told is within read running same as_told holds = record {
  running = sym (ap (λ (y : ArrayView). y.halted) is) ∙ running;
  member = x;
  at = member_read a b k x is within read;
  active = ap (λ (y : MemberView). is_active y.state) (sym same) ∙ sym as_told ∙ holds;
}

not_active : (a b : ArrayView) (k : ℕ) (x inside : MemberView) (told : Bool) → b ≡ a → k < length a.members → x ≡ get_or b.members k x → b.halted ≡ false → inside ≡ x
    → told ≡ is_active inside.state → told ≡ false → IsNotActive k a
not_active a b k x inside told is within read running same as_told fails = record {
  running = sym (ap (λ (y : ArrayView). y.halted) is) ∙ running;
  member = x;
  at = member_read a b k x is within read;
  out = ap (λ (y : MemberView). is_active y.state) (sym same) ∙ sym as_told ∙ fails;
}

pub returns-then-not-is_active : goal.returns-then-not-is_active
returns-then-not-is_active c disks = record {
  unchanged = refl;
  reason = not_active c.args.self.now _ c.args.k c.index.result.now _ _ c.self.view_is c.requires c.index.ensures c.if-self.false c.behind-self.view_is c.is_active.ensures c.if-not-is_active.true;
}

pub returns-then-not-has_other_in_sync : goal.returns-then-not-has_other_in_sync
returns-then-not-has_other_in_sync c disks =
    let same : c.deref.result.now ≡ c.args.self.now.members = c.deref.ensures.value ∙ ap (λ (y : ArrayView). y.members) c.self.view_is in
    record {
      unchanged = refl;
      reason = record {
        runs = runs_with c.args.self.now _ c.args.k c.index.result.now _ _ c.self.view_is c.requires c.index.ensures c.if-self.false c.behind-self.view_is c.is_active.ensures c.if-not-is_active.false;
        last = subst (λ (xs : List MemberView). IsLastInSync xs c.args.k) same c.if-not-has_other_in_sync.ensures;
      };
    }

pub returns-then-self-2 : goal.returns-then-self-2
returns-then-self-2 c disks =
    let same : c.deref.result.now ≡ c.args.self.now.members = c.deref.ensures.value ∙ ap (λ (y : ArrayView). y.members) c.self.view_is in
    record {
      unchanged = refl;
      reason = record {
        runs = runs_with c.args.self.now _ c.args.k c.index.result.now _ _ c.self.view_is c.requires c.index.ensures c.if-self.false c.behind-self.view_is c.is_active.ensures c.if-not-is_active.false;
        other = subst (λ (xs : List MemberView). HasOtherInSync xs c.args.k) same c.if-not-has_other_in_sync.ensures;
        spent = sym (ap (λ (y : ArrayView). y.shared.events) c.self.view_is) ∙ c.if-self-2.true;
      };
    }

pub returns : goal.returns
returns c disks =
    let same : c.deref.result.now ≡ c.args.self.now.members = c.deref.ensures.value ∙ ap (λ (y : ArrayView). y.members) c.self.view_is in
    record {
      runs = runs_with c.args.self.now _ c.args.k c.index.result.now _ _ c.self.view_is c.requires c.index.ensures c.if-self.false c.behind-self.view_is c.is_active.ensures c.if-not-is_active.false;
      may = record {
        other = subst (λ (xs : List MemberView). HasOtherInSync xs c.args.k) same c.if-not-has_other_in_sync.ensures;
        unspent = λ spent. c.if-self-2.false (ap (λ (y : ArrayView). y.shared.events) c.self.view_is ∙ spent);
      };
    }
