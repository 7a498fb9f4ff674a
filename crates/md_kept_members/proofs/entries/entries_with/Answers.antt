use Rattle.std.proofs.Common.{◌+◌, ap, ◌∙◌, subst}
use Rattle.md_badblocks.specs.Runs.{IsCanonical}
use Rattle.md_kept_members.specs.Entries.{place_of}
use Rattle.md_kept_members.specs.View.{MemberView}
use Rattle.md_kept_members.proofs.ListedParts.{counts_with}
use Rattle.md_kept_members.proofs.entries.entries_with.Goals as goal

pub returns : goal.returns
returns c =
    let chunks = c.args.chunks in
    let chunk = c.args.chunk in
    let bad = ap (λ (m : MemberView). m.bad) c.member.view_is in
    counts_with chunks chunk c.args.member.now c.runs-runs.result.now c.place_of-start.result c.place_of-end.result c.total.result c.new.result c.count_within-below.result c.push.result c.count_within.result
    (subst IsCanonical bad c.runs-runs.ensures.canonical) (c.runs-runs.ensures.runs ∙ bad)
    (c.place_of-start.ensures ∙ ap (λ (m : MemberView). place_of chunks m.superblock.data_offset chunk) c.member.view_is)
    (c.place_of-end.ensures ∙ ap (λ (m : MemberView). place_of chunks m.superblock.data_offset (chunk + 1)) c.member.view_is)
    c.new.ensures.counts c.count_within-below.ensures.counts c.push.ensures.counts c.count_within.ensures.counts c.total.ensures
