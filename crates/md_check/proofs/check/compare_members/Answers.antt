use Rattle.std.proofs.Common.{◌∙◌, ap}
use Rattle.std.specs.Int.{div_ceil}
use Rattle.md_bitmap.specs.declared.chunks.Chunks.{Chunks}
use Rattle.md_check.proofs.MemberReaders.{compares}
use Rattle.md_check.proofs.check.compare_members.Goals as goal

pub compare-requires-clause-sized : goal.compare-requires-clause-sized
compare-requires-clause-sized g c κs within = record {
  sized = c.in_ok-chunks.ensures.chunks ∙ c.count.ensures.count ∙ ap (λ (x : Chunks). div_ceil x.size x.sectors) c.chunks.ensures;
  pairs_sized = c.in_ok-pairs.ensures.sized;
}

pub compare-requires-clause-none : goal.compare-requires-clause-none
compare-requires-clause-none g c κs within = record { none = c.in_ok-chunks.ensures.bits; pairs_none = c.in_ok-pairs.ensures.empty }

pub returns-clause-gives : goal.returns-clause-gives
returns-clause-gives g c =
    compares c.args.mirror.now c.compare.new.mirror (record { chunks = c.in_ok-chunks.chunks; pairs = c.in_ok-pairs.pairs }) c.compare.new.found c.requires.sound c.in_ok-check_idle.ensures
    (record { sized = c.in_ok-chunks.ensures.chunks ∙ c.count.ensures.count ∙ ap (λ (x : Chunks). div_ceil x.size x.sectors) c.chunks.ensures; pairs_sized = c.in_ok-pairs.ensures.sized })
    c.in_ok-pairs.ensures.names c.in_ok-compare.ensures.gives
