use Rattle.std.proofs.Common.{◌≡◌, ◌+◌, refl, subst, arith}
use Rattle.md_check.specs.Differences.{DifferBetween}
use Rattle.md_check.specs.Readers.{ReaderShows, in_window}
use Rattle.md_check.proofs.Differing.{adds_here, adds_marked, adds_none}
use Rattle.md_check.proofs.compare.mark_pair.Goals as goal

pub returns-then-is_marked : goal.returns-then-is_marked
returns-then-is_marked g c =
    let P = ReaderShows (in_window c.args.lead.now c.args.from) c.args.readers.now in
    let pair = c.args.pair.now in
    record {
      one_kept = refl;
      other_kept = refl;
      adds = adds_marked (DifferBetween P pair.one pair.other) c.args.chunks c.args.sector c.chunk_of-chunk.result c.requires.below c.chunk_of-chunk.ensures.is pair.chunks (let is = c.is_marked.ensures in let yes = c.if-is_marked.true in cc);
    }

pub returns-then-differ_between : goal.returns-then-differ_between
returns-then-differ_between g c =
    let P = ReaderShows (in_window c.args.lead.now c.args.from) c.args.readers.now in
    let pair = c.args.pair.now in
    record {
      one_kept = refl;
      other_kept = refl;
      adds = adds_here (DifferBetween P pair.one pair.other) c.args.chunks c.args.sector c.chunk_of-chunk.result c.requires.below c.chunk_of-chunk.ensures.is pair.chunks c.mark.new.self c.mark.ensures.chunks c.mark.ensures.bits (c.differ_between.ensures.0 c.if-differ_between.true);
    }

pub returns-else-differ_between : goal.returns-else-differ_between
returns-else-differ_between g c =
    let P = ReaderShows (in_window c.args.lead.now c.args.from) c.args.readers.now in
    let pair = c.args.pair.now in
    record {
      one_kept = refl;
      other_kept = refl;
      adds = adds_none (DifferBetween P pair.one pair.other) c.args.chunks c.args.sector (c.args.sector + 1) pair.chunks
          (λ s up below d. let same : s ≡ c.args.sector = omega arith in let yes = c.differ_between.ensures.1 (subst (λ n. DifferBetween P pair.one pair.other n) same d) in let no = c.if-differ_between.false in absurd cc);
    }
