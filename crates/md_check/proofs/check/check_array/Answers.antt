use Rattle.std.proofs.Common.{◌∙◌, ap, length, arith}
use Rattle.std.specs.Int.{div_ceil}
use Rattle.md_bitmap.specs.declared.chunks.Chunks.{Chunks}
use Rattle.md_collect.specs.declared.found.Comparison.{Comparison}
use Rattle.md_check.proofs.MemberReaders.{counts_set, finds}
use Rattle.md_check.proofs.check.check_array.Goals as goal

pub compare-requires-clause-sized : goal.compare-requires-clause-sized
compare-requires-clause-sized g c κs within = record {
  sized = c.in_ok-chunks.ensures.chunks ∙ c.count.ensures.count ∙ ap (λ (x : Chunks). div_ceil x.size x.sectors) c.chunks.ensures;
  pairs_sized = λ p d below. absurd (let none = ap length c.new-pairs.ensures.items in omega arith);
}

pub compare-requires-clause-none : goal.compare-requires-clause-none
compare-requires-clause-none g c κs within = record {
  none = c.in_ok-chunks.ensures.bits;
  pairs_none = λ p d below. absurd (let none = ap length c.new-pairs.ensures.items in omega arith);
}

pub returns-clause-gives : goal.returns-clause-gives
returns-clause-gives g c =
    let old = c.args.mirror.now in
    let before : Comparison = record { chunks = c.in_ok-chunks.chunks; pairs = c.new-pairs.result } in
    counts_set old c.compare.new.mirror c.compare.new.found.chunks c.count-2.result
    (finds old c.compare.new.mirror before c.compare.new.found c.requires.sound c.in_ok-check_idle.ensures
    (record {
      sized = c.in_ok-chunks.ensures.chunks ∙ c.count.ensures.count ∙ ap (λ (x : Chunks). div_ceil x.size x.sectors) c.chunks.ensures;
      pairs_sized = λ p d below. absurd (let none = ap length c.new-pairs.ensures.items in omega arith);
    }) c.in_ok-compare.ensures.gives)
    c.count-2.ensures
