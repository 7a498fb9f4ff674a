use Rattle.std.proofs.Common.{◌+◌, ap, sym, ◌∙◌, arith}
use Rattle.md_kept_members.specs.Entries.{place_of}
use Rattle.md_kept_members.specs.View.{MemberView}
use Rattle.md_kept_members.proofs.ListedParts.{counts_copied, counts_orphan, counts_other}
use Rattle.md_kept_members.proofs.entries.count_chunk.Goals as goal

pub returns-then-is_marked-clause-counts : goal.returns-then-is_marked-clause-counts
returns-then-is_marked-clause-counts c =
    let chunks = c.args.chunks in
    let chunk = c.args.chunk in
    counts_orphan chunks c.args.member.now c.args.copied.now c.args.orphans.now _ (ap (λ (m : MemberView). m.bad) c.member.view_is) chunk c.place_of-start.result c.place_of-end.result c.args.counter c.push.result
    (c.place_of-start.ensures ∙ ap (λ (m : MemberView). place_of chunks m.superblock.data_offset chunk) c.member.view_is)
    (c.place_of-end.ensures ∙ ap (λ (m : MemberView). place_of chunks m.superblock.data_offset (chunk + 1)) c.member.view_is)
    (omega arith) (sym c.is_marked.ensures ∙ c.if-is_marked.true) c.push.ensures.counts

pub returns-then-is_marked-2-clause-counts : goal.returns-then-is_marked-2-clause-counts
returns-then-is_marked-2-clause-counts c =
    counts_copied c.args.chunks c.args.member.now c.args.copied.now c.args.orphans.now _ (ap (λ (m : MemberView). m.bad) c.member.view_is) c.args.chunk c.args.counter
    (omega arith) (sym c.is_marked-2.ensures ∙ c.if-is_marked-2.true) (sym c.is_marked.ensures ∙ c.if-is_marked.false)

pub returns-clause-counts : goal.returns-clause-counts
returns-clause-counts c =
    let chunks = c.args.chunks in
    let chunk = c.args.chunk in
    counts_other chunks c.args.member.now c.args.copied.now c.args.orphans.now c.runs.result.now (c.runs.ensures.runs ∙ ap (λ (m : MemberView). m.bad) c.member.view_is) chunk c.place_of-start.result c.place_of-end.result c.args.counter c.count_within.result
    (c.place_of-start.ensures ∙ ap (λ (m : MemberView). place_of chunks m.superblock.data_offset chunk) c.member.view_is)
    (c.place_of-end.ensures ∙ ap (λ (m : MemberView). place_of chunks m.superblock.data_offset (chunk + 1)) c.member.view_is)
    (sym c.is_marked-2.ensures ∙ c.if-is_marked-2.false) (sym c.is_marked.ensures ∙ c.if-is_marked.false) c.count_within.ensures.counts
