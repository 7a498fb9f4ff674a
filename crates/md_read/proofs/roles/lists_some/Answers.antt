use Rattle.std.proofs.Common.{◌∙◌, ◌+◌, ◌^◌, ◌≤◌, length, ap, sym, inl, inr}
use Rattle.std.proofs.lemmas.Bool.{cases_lt, eqb-true}
use Rattle.md_super.specs.declared.superblock.Superblock.{Superblock}
use Rattle.md_read.proofs.InRoles.{empty_lists, meets_lists, past_lists}
use Rattle.md_read.proofs.roles.lists_some.Goals as goal
use Rattle.md_state.proofs.Members.At.{told}

pub returns-then-is_empty : goal.returns-then-is_empty
returns-then-is_empty g c m at =
    let bad = told (λ x. x.bad) c.args.mirror.now.array c.args.k m c.bad-bad.result.now c.bad-bad.ensures at in
    empty_lists m c.args.sector c.args.sectors (ap length (bad ∙ sym c.runs.ensures.runs) ∙ eqb-true _ _ (sym c.if-is_empty.ensures))

pub returns-in_default : goal.returns-in_default
returns-in_default g c m at =
    let bad = told (λ x. x.bad) c.args.mirror.now.array c.args.k m c.bad-bad.result.now c.bad-bad.ensures at in
    let own = told (λ x. x.superblock) c.args.mirror.now.array c.args.k m c.own.result.now c.own.ensures at in
    let offset = ap (λ (v : Superblock). v.data_offset) own in
    let past : 2 ^ 64 ≤ c.own.result.now.data_offset + c.args.sector = elim (cases_lt (c.own.result.now.data_offset + c.args.sector) (2 ^ 64)) [ inl fits ↦ absurd (c.in_default.ensures fits) | inr past ↦ past ] in
    past_lists m c.args.sector c.args.sectors 0 (rw bad c.runs.ensures.canonical) (rw offset past)

pub returns : goal.returns
returns g c m at =
    let bad = told (λ x. x.bad) c.args.mirror.now.array c.args.k m c.bad-bad.result.now c.bad-bad.ensures at in
    let own = told (λ x. x.superblock) c.args.mirror.now.array c.args.k m c.own.result.now c.own.ensures at in
    let offset = ap (λ (v : Superblock). v.data_offset) own in
    meets_lists m c.args.sector c.args.sectors c.in-Some.first c.meets.result (rw offset c.in-Some.ensures.1) (rw bad c.meets.ensures)
