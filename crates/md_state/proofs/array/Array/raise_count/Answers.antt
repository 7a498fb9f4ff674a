use Rattle.std.proofs.Common.{◌≡◌, ◌∙◌, ap, sym, map, length, List, true, false}
use Rattle.std.proofs.lemmas.List.{length-map, with_items_is}
use Rattle.md_kept_members.specs.View.{MemberView}
use Rattle.md_kept_members.specs.Members.{made_due}
use Rattle.md_super.specs.declared.superblock.Superblock.{Superblock}
use Rattle.md_kept_members.specs.Membership.Numbers.{roles_at_rise}
use Rattle.md_state.specs.Steps.Rise.{risen}
use Rattle.md_state.proofs.Changes.Raised.{raised}
use Rattle.md_state.proofs.array.Array.raise_count.Goals as goal

long : (xs ys : List MemberView) → ys ≡ map made_due xs → length ys ≡ length xs
long xs ys is = ap length is ∙ length-map xs made_due

dropped : (v w : Superblock) (xs ys : List MemberView) → w ≡ record v { roles = roles_at_rise v xs } → xs ≡ ys → w ≡ record v { roles = roles_at_rise v ys }
dropped v w xs ys is same = is ∙ ap (λ (ms : List MemberView). record v { roles = roles_at_rise v ms }) same

pub returns-then-full : goal.returns-then-full
returns-then-full c =
    let items = with_items_is c.self.inside.members c.make_due.new.members (long c.deref_mut.result.now c.make_due.new.members c.make_due.ensures ∙ c.deref_mut.ensures.len) in
    let due = items ∙ c.make_due.ensures ∙ ap (map made_due) c.deref_mut.ensures.value in
    raised c.args.self.now _ c.drop_absent_roles.new.shared _ true _ c.self.view_is (dropped _ _ _ _ c.drop_absent_roles.ensures c.deref.ensures.value) due ∙ ap (risen c.args.self.now) (sym c.if-full.true)

pub returns-else-full : goal.returns-else-full
returns-else-full c =
    let items = with_items_is c.self.inside.members c.make_due.new.members (long c.deref_mut.result.now c.make_due.new.members c.make_due.ensures ∙ c.deref_mut.ensures.len) in
    let due = items ∙ c.make_due.ensures ∙ ap (map made_due) c.deref_mut.ensures.value in
    raised c.args.self.now _ c.drop_absent_roles.new.shared _ false _ c.self.view_is (dropped _ _ _ _ c.drop_absent_roles.ensures c.deref.ensures.value) due ∙ ap (risen c.args.self.now) (sym c.if-full.false)
