use Rattle.std.proofs.Common.{◌≡◌, ◌∙◌, ◌+◌, ◌/◌, ◌<◌, true, length, sym, ap, subst, arith}
use Rattle.md_bitmap.specs.Marks.{is_set}
use Rattle.md_bitmap.specs.declared.chunks.Chunks.{Chunks}
use Rattle.md_laws.proofs.Runs.Rests.{rests_same, rests_then}
use Rattle.md_resync.proofs.CopiedChunks.{in_range, range_of}
use Rattle.md_resync.specs.Copying.{IsInMarkedChunk}
use Rattle.md_state.specs.View.{ArrayView}
use Rattle.md_commands.proofs.SetAside.{found_more, found_none, run_marked}
use Rattle.md_commands.proofs.setting_aside.ask_if_marked.Goals as goal

pub returns-then-not-is_marked-clause-rests : goal.returns-then-not-is_marked-clause-rests
returns-then-not-is_marked-clause-rests g c = rests_same c.args.mirror.now

pub returns-then-not-is_marked-clause-above : goal.returns-then-not-is_marked-clause-above
returns-then-not-is_marked-clause-above g c =
    let old = c.args.mirror.now in
    let chunk = c.chunk_of-chunk.result in
    let range = range_of chunk c.range-start.result.0 c.range-start.result.1 c.chunks-chunks.result old.array c.chunks-chunks.ensures c.range-start.ensures.sectors in
    let is : c.args.sector / old.array.chunks.sectors ≡ chunk = sym (c.chunk_of-chunk.ensures.is ∙ ap (λ (x : Chunks). c.args.sector / x.sectors) c.chunks-chunks.ensures) in
    (in_range chunk c.range-start.result.0 c.range-start.result.1 old c.requires.sound range c.args.sector c.requires.inside is).1

pub returns-then-not-is_marked-clause-found : goal.returns-then-not-is_marked-clause-found
returns-then-not-is_marked-clause-found g c = found_none c.args.k c.args.not_given.now c.args.mirror.now c.args.mirror.now

pub returns-then-gives-clause-found : goal.returns-then-gives-clause-found
returns-then-gives-clause-found g c = found_none c.args.k c.args.not_given.now c.args.mirror.now c.gives.new.mirror

pub ask_alone-requires-clause-within : goal.ask_alone-requires-clause-within
ask_alone-requires-clause-within g c = subst (λ (a : ArrayView). c.args.k < length a.members) (sym c.gives.ensures.rests.array) c.requires.within

pub ask_alone-requires-clause-marked : goal.ask_alone-requires-clause-marked
ask_alone-requires-clause-marked g c s from below =
    let old = c.args.mirror.now in
    let chunk = c.chunk_of-chunk.result in
    let range = range_of chunk c.range-start.result.0 c.range-start.result.1 c.chunks-chunks.result old.array c.chunks-chunks.ensures c.range-start.ensures.sectors in
    let is : c.args.sector / old.array.chunks.sectors ≡ chunk = sym (c.chunk_of-chunk.ensures.is ∙ ap (λ (x : Chunks). c.args.sector / x.sectors) c.chunks-chunks.ensures) in
    let here = in_range chunk c.range-start.result.0 c.range-start.result.1 old c.requires.sound range c.args.sector c.requires.inside is in
    let marked : is_set old.array.marks.bytes chunk ≡ true =
    let tells = c.is_marked.ensures in
    let yes = c.if-not-is_marked.false in
    let marks = c.marks.ensures in
    cc in
    let least = c.min.ensures in
    let behind = here.1 in
    subst (λ (a : ArrayView). IsInMarkedChunk a s) (sym c.gives.ensures.rests.array)
    (run_marked chunk c.range-start.result.0 c.range-start.result.1 old c.requires.sound range marked c.args.sector (c.args.sector + c.min.result) here.0 (omega arith) s from below)

pub returns-in_err-ask_alone-clause-rests : goal.returns-in_err-ask_alone-clause-rests
returns-in_err-ask_alone-clause-rests g c = rests_then c.args.mirror.now c.gives.new.mirror c.ask_alone.new.mirror c.gives.ensures.rests c.ask_alone.ensures.rests

pub returns-in_err-ask_alone-clause-found : goal.returns-in_err-ask_alone-clause-found
returns-in_err-ask_alone-clause-found g c =
    found_more c.args.mirror.now c.gives.new.mirror c.ask_alone.new.mirror c.gives.ensures.rests c.ask_alone.ensures.rests c.args.k c.args.not_given.now c.args.not_given.now c.ask_alone.new.not_given
    (found_none c.args.k c.args.not_given.now c.args.mirror.now c.gives.new.mirror) c.ask_alone.ensures.found

pub returns-clause-rests : goal.returns-clause-rests
returns-clause-rests g c = rests_then c.args.mirror.now c.gives.new.mirror c.ask_alone.new.mirror c.gives.ensures.rests c.ask_alone.ensures.rests

pub returns-clause-found : goal.returns-clause-found
returns-clause-found g c =
    found_more c.args.mirror.now c.gives.new.mirror c.ask_alone.new.mirror c.gives.ensures.rests c.ask_alone.ensures.rests c.args.k c.args.not_given.now c.args.not_given.now c.ask_alone.new.not_given
    (found_none c.args.k c.args.not_given.now c.args.mirror.now c.gives.new.mirror) c.ask_alone.ensures.found
