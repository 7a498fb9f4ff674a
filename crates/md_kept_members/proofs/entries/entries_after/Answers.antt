use Rattle.std.proofs.Common.{◌≡◌, ap, sym, ◌∙◌, subst, arith}
use Rattle.md_badblocks.specs.Runs.{IsCanonical}
use Rattle.md_bitmap.specs.Marks.{Bitmap}
use Rattle.md_kept_members.specs.Entries.{place_of}
use Rattle.md_kept_members.specs.View.{MemberView}
use Rattle.md_kept_members.proofs.ListedParts.{counts_after, counts_first}
use Rattle.md_kept_members.proofs.entries.entries_after.Goals as goal

pub loop-chunk-init : goal.loop-chunk-init
loop-chunk-init c =
    let chunks = c.args.chunks in
    let at = c.place_of-first.ensures ∙ ap (λ (m : MemberView). place_of chunks m.superblock.data_offset 0) c.member.view_is in
    record {
      end = omega arith;
      counts = counts_first chunks c.args.member.now c.args.copied.now c.args.orphans.now c.runs.result.now (c.runs.ensures.runs ∙ ap (λ (m : MemberView). m.bad) c.member.view_is)
          c.place_of-first.result c.new.result c.count_within-counter.result at c.new.ensures.counts c.count_within-counter.ensures.counts;
    }

pub returns : goal.returns
returns c =
    let chunks = c.args.chunks in
    let copied = c.args.copied.now in
    let bad = ap (λ (m : MemberView). m.bad) c.member.view_is in
    let n : c.loop-chunk.chunk ≡ Bitmap.chunks copied = omega arith in
    let at = c.place_of-past.ensures ∙ ap (λ k. place_of chunks c.member.inside.superblock.data_offset k) c.chunks.ensures ∙ ap (λ (m : MemberView). place_of chunks m.superblock.data_offset (Bitmap.chunks copied)) c.member.view_is in
    counts_after chunks c.args.member.now copied c.args.orphans.now c.runs-2.result.now (c.runs-2.ensures.runs ∙ bad) c.loop-chunk.chunk c.place_of-past.result c.total.result c.loop-chunk.counter c.count_within.result
    (subst IsCanonical bad c.runs-2.ensures.canonical) n (c.requires.copied ∙ sym c.requires.orphans) at c.loop-chunk.invariant.counts c.count_within.ensures.counts c.total.ensures
