use Rattle.std.proofs.Common.{◌+◌, ◌^◌, ◌≤◌, ap, sym, inl, inr}
use Rattle.std.proofs.lemmas.Bool.{cases_lt}
use Rattle.md_super.specs.declared.superblock.Superblock.{Superblock}
use Rattle.md_read.proofs.AllListed.{has_all_lists, past_not_all}
use Rattle.md_read.proofs.roles.lists_all.Goals as goal
use Rattle.md_state.proofs.Members.At.{told}

pub returns-in_default : goal.returns-in_default
returns-in_default g c m at =
    let bad = told (λ x. x.bad) c.args.mirror.now.array c.args.k m c.bad.result.now c.bad.ensures at in
    let own = told (λ x. x.superblock) c.args.mirror.now.array c.args.k m c.own.result.now c.own.ensures at in
    let offset = ap (λ (v : Superblock). v.data_offset) own in
    let past : 2 ^ 64 ≤ c.own.result.now.data_offset + c.args.sector = elim (cases_lt (c.own.result.now.data_offset + c.args.sector) (2 ^ 64)) [ inl fits ↦ absurd (c.in_default.ensures fits) | inr past ↦ past ] in
    past_not_all m c.args.sector c.args.sectors 0 (rw bad c.runs-runs.ensures.canonical) c.requires.some (rw offset past)

pub returns : goal.returns
returns g c m at =
    let bad = told (λ x. x.bad) c.args.mirror.now.array c.args.k m c.bad.result.now c.bad.ensures at in
    let own = told (λ x. x.superblock) c.args.mirror.now.array c.args.k m c.own.result.now c.own.ensures at in
    let offset = ap (λ (v : Superblock). v.data_offset) own in
    rw (c.one_has.ensures, c.runs-runs.ensures.runs, sym bad) (has_all_lists m c.args.sector c.args.sectors c.in-Some.first 0 (rw bad c.runs-runs.ensures.canonical) c.requires.some (rw offset c.in-Some.ensures.1))
