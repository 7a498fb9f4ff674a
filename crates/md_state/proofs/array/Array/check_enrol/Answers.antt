use Rattle.std.proofs.Common.{◌≡◌, ◌∙◌, ℕ, true, refl, sym, ap}
use Rattle.md_assembly.specs.States.{is_recovering}
use Rattle.md_assembly.specs.declared.state.MemberState.{MemberState}
use Rattle.md_assembly.specs.declared.state.MemberState.TheVariants.{InSync, Recovering, Stale, Spare, Faulty}
use Rattle.md_kept_members.specs.View.{MemberView}
use Rattle.md_state.specs.View.{ArrayView}
use Rattle.md_state.proofs.Members.At.{member_read}
use Rattle.md_state.proofs.array.Array.check_enrol.Goals as goal

-- one that recovers does so in a role
in_role : (s : MemberState) → is_recovering s ≡ true → (role : ℕ) × (s ≡ Recovering role)
in_role (Recovering role) on = (role, refl)
in_role (InSync role) on = absurd cc
in_role (Stale role) on = absurd cc
in_role Spare on = absurd cc
in_role Faulty on = absurd cc

pub unreachable-requires : goal.unreachable-requires
unreachable-requires c =
    let at = member_read c.args.self.now _ c.args.k c.index.result.now c.self.view_is c.requires.within c.index.ensures in
    let it = in_role c.behind-self.inside.state (ap (λ (x : MemberView). is_recovering x.state) c.behind-self.view_is ∙ c.requires.recovering c.index.result.now at) in
    c.in_default.not-Recovering it.0 it.1

pub returns : goal.returns
returns c = record {
  running = sym (ap (λ (a : ArrayView). a.halted) c.self.view_is) ∙ c.if-self.false;
  member = c.index.result.now;
  at = member_read c.args.self.now _ c.args.k c.index.result.now c.self.view_is c.requires.within c.index.ensures;
  recovering = sym (ap (λ (x : MemberView). x.state) c.behind-self.view_is) ∙ c.in-Recovering.is;
  unspent = λ spent. c.if-self-2.false (ap (λ (a : ArrayView). a.shared.events) c.self.view_is ∙ spent);
}
