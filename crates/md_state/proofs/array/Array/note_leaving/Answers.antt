use Rattle.std.proofs.Common.{◌≡◌, ◌∙◌, cond, sym, ap}
use Rattle.md_kept_members.specs.View.{MemberView}
use Rattle.md_assembly.specs.States.{is_spare}
use Rattle.md_state.specs.Steps.Remove.{without_spare}
use Rattle.md_state.proofs.Members.At.{member_read, read_member}
use Rattle.md_state.proofs.array.Array.note_leaving.Goals as goal

pub drop_spare_entry-requires-clause-unspent : goal.drop_spare_entry-requires-clause-unspent
drop_spare_entry-requires-clause-unspent c =
    let m = c.index.result.now in
    let at = member_read c.args.self.now _ c.args.k m c.self.view_is c.requires.within c.index.ensures in
    c.requires.unspent m at (ap (λ (y : MemberView). is_spare y.state) (sym c.behind-self.view_is) ∙ sym c.is_spare.ensures ∙ c.if-is_spare.true)

pub returns-then-is_spare : goal.returns-then-is_spare
returns-then-is_spare c m at =
    let x = c.index.result.now in
    let same : x ≡ m = read_member c.args.self.now _ c.args.k m x c.self.view_is c.requires.within at c.index.ensures in
    c.drop_spare_entry.ensures m at
    ∙ ap (λ b. cond b (without_spare c.args.self.now m) c.args.self.now)
    (sym (ap (λ (y : MemberView). is_spare y.state) (sym (c.behind-self.view_is ∙ same)) ∙ sym c.is_spare.ensures ∙ c.if-is_spare.true))

pub returns-else-is_spare : goal.returns-else-is_spare
returns-else-is_spare c m at =
    let x = c.index.result.now in
    let same : x ≡ m = read_member c.args.self.now _ c.args.k m x c.self.view_is c.requires.within at c.index.ensures in
    ap (λ b. cond b (without_spare c.args.self.now m) c.args.self.now)
    (sym (ap (λ (y : MemberView). is_spare y.state) (sym (c.behind-self.view_is ∙ same)) ∙ sym c.is_spare.ensures ∙ c.if-is_spare.false))
