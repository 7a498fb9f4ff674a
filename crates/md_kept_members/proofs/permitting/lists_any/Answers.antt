use Rattle.std.proofs.Common.{◌≡◌, ◌∙◌, ◌↔◌, ◌+◌, ◌^◌, ◌≤◌, true, false, length, ap, sym, subst, inl, inr}
use Rattle.std.proofs.lemmas.Bool.{cases_lt, eqb-true}
use Rattle.md_kept_members.specs.View.{MemberView}
use Rattle.md_kept_members.specs.Permitting.{ListsAny}
use Rattle.md_kept_members.proofs.Members.Roles.{empty_lists, meets_lists, past_lists}
use Rattle.md_kept_members.proofs.permitting.lists_any.Goals as goal

pub returns-then-is_empty : goal.returns-then-is_empty
returns-then-is_empty c =
    let none = ap length (sym c.runs.ensures.runs) ∙ eqb-true _ _ (sym c.if-is_empty.ensures) in
    subst (λ (m : MemberView). (false ≡ true) ↔ ListsAny c.args.chunks c.args.chunk m) c.member.view_is (empty_lists c.args.chunks c.args.chunk _ none)

pub returns-in_default : goal.returns-in_default
returns-in_default c =
    let past : 2 ^ 64 ≤ c.member.inside.superblock.data_offset + c.range-start.result.0 = elim (cases_lt (c.member.inside.superblock.data_offset + c.range-start.result.0) (2 ^ 64)) [ inl fits ↦ absurd (c.in_default.ensures fits) | inr past ↦ past ] in
    subst (λ (m : MemberView). (false ≡ true) ↔ ListsAny c.args.chunks c.args.chunk m) c.member.view_is (past_lists c.args.chunks c.args.chunk _ _ 0 _ c.range-start.ensures.sectors c.runs.ensures.canonical past)

pub returns : goal.returns
returns c =
    subst (λ (m : MemberView). (c.meets.result ≡ true) ↔ ListsAny c.args.chunks c.args.chunk m) c.member.view_is (meets_lists c.args.chunks c.args.chunk _ _ c.in-Some.first _ c.meets.result c.range-start.ensures.sectors c.in-Some.ensures.1 c.meets.ensures)
