use Rattle.std.proofs.Common.{◌∙◌, arith, rules, sym, subst}
use Rattle.md_metadata.specs.Grow.Places.{NoPlace, IsFirstPlace}
use Rattle.md_metadata.proofs.bitmap_grow.growth.place_of.Goals as goal

pub returns-then-not-is_chunk_size : goal.returns-then-not-is_chunk_size
returns-then-not-is_chunk_size c = (c.in-Some.first.now, sym c.in-Some.ensures.value, λ sound. let two = c.if-not-is_chunk_size.ensures.meaning.1 sound.chunk_size in cc)

pub returns-then-not-has_few_chunks : goal.returns-then-not-has_few_chunks
returns-then-not-has_few_chunks c = (c.in-Some.first.now, sym c.in-Some.ensures.value, λ sound. let few = sound.few_chunks in let none = c.if-not-has_few_chunks.ensures in grind (arith, few, none))

pub returns-in-Some-place_for : goal.returns-in-Some-place_for
returns-in-Some-place_for c = (
  record {
    first = c.in-Some.first.now;
    is_first = sym c.in-Some.ensures.value;
    sound = record { chunk_size = search rules; few_chunks = search rules };
    count = c.count-chunks.ensures.count ∙ c.new.ensures.count;
  },
  subst (λ n. IsFirstPlace n c.args.infos.now c.in-Some-place_for.start) c.reserved_for.ensures.is c.in-Some-place_for.ensures.some,
)

pub returns-in-None : goal.returns-in-None
returns-in-None c = (
  c.count-chunks.result,
  record {
    first = c.in-Some.first.now;
    is_first = sym c.in-Some.ensures.value;
    sound = record { chunk_size = search rules; few_chunks = search rules };
    count = c.count-chunks.ensures.count ∙ c.new.ensures.count;
  },
  subst (λ n. NoPlace n c.args.infos.now) c.reserved_for.ensures.is c.in-None.ensures.none,
)
