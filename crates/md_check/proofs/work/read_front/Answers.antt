use Rattle.std.proofs.Common.{◌≡◌, ◌∙◌, ◌+◌, ◌*◌, ◌<◌, ◌≤◌, length, take, ap, arith, subst, sym}
use Rattle.std.proofs.lemmas.List.{length-take-le}
use Rattle.md_device.specs.Device.{held}
use Rattle.md_bitmap.specs.Chunks.{InChunk}
use Rattle.md_badblocks.specs.Runs.{IsBad}
use Rattle.md_check.proofs.ChunkSectors.{before_end, in_its_chunk}
use Rattle.md_check.proofs.ChunkFaults.{run_failed}
use Rattle.md_check.proofs.SectorsTold.{told_run}
use Rattle.md_check.proofs.SectorsRead.{front_read}
use Rattle.md_check.proofs.work.read_front.Goals as goal

pub clear_run-run-requires : goal.clear_run-run-requires
clear_run-run-requires g c =
    let chunks = c.args.chunks in
    let some = c.requires.some in
    let inside = c.requires.inside in
    let within : c.args.sector < chunks.size = omega arith in
    let start = c.range-start.result in
    let below : c.args.sector < start.0 + start.1 = before_end chunks.sectors chunks.size c.args.sector c.chunk_of-chunk.result (start.0 + start.1) chunks.chunking.some_sectors within c.chunk_of-chunk.ensures.is c.range-start.ensures.end in
    record { some = omega (arith, below, c.min-most.ensures) }

pub returns-in-Ok-clause-gave : goal.returns-in-Ok-clause-gave
returns-in-Ok-clause-gave g c = λ honest.
    let run = c.clear_run-run.result in
    let xs = c.args.buf.now in
    let ys = c.read_run-answer.new.buf in
    let most = c.clear_run-run.ensures.most in
    let few : 512 * run ≤ length xs = omega (arith, most, c.min-most.ensures) in
    let long : length (take (512 * run) xs) ≡ 512 * run = length-take-le (512 * run) xs few in
    front_read (g.D.Device.content c.args.device.now) c.args.member.now.offset c.args.member.now.listed.now c.args.sector run xs ys
    (c.in-Ok.ensures.gave honest ∙ ap (held (g.D.Device.content c.args.device.now) (c.args.member.now.offset + c.args.sector)) long)
    (c.read_run-answer.auto.buf ∙ long)

pub returns-in-Err-clause-missed : goal.returns-in-Err-clause-missed
returns-in-Err-clause-missed g c =
    let chunks = c.args.chunks in
    let sector = c.args.sector in
    let some = c.requires.some in
    let inside = c.requires.inside in
    let within : sector < chunks.size = omega arith in
    let first : sector + 0 ≡ sector = omega arith in
    record {
      sector = sector;
      not_before = omega arith;
      before = omega arith;
      inside = subst (λ n. InChunk chunks.sectors chunks.size n sector) (sym c.chunk_of-chunk.ensures.is) (in_its_chunk chunks.sectors chunks.size sector chunks.chunking.some_sectors within);
      unlisted = subst (λ n. IsBad c.args.member.now.listed.now n → ⊥) first (c.clear_run-run.ensures.clear 0 (let run = c.if-run-eq0.false in omega arith));
    }

pub returns-in-Err-clause-there : goal.returns-in-Err-clause-there
returns-in-Err-clause-there g c =
    let chunks = c.args.chunks in
    let sector = c.args.sector in
    let some = c.requires.some in
    let inside = c.requires.inside in
    let within : sector < chunks.size = omega arith in
    let run = c.clear_run-run.result in
    let xs = c.args.buf.now in
    let most = c.clear_run-run.ensures.most in
    let few : 512 * run ≤ length xs = omega (arith, most, c.min-most.ensures) in
    let long : length (take (512 * run) xs) ≡ 512 * run = length-take-le (512 * run) xs few in
    let chunk = c.chunk_of-chunk.result in
    let here : InChunk chunks.sectors chunks.size chunk sector = subst (λ n. InChunk chunks.sectors chunks.size n sector) (sym c.chunk_of-chunk.ensures.is) (in_its_chunk chunks.sectors chunks.size sector chunks.chunking.some_sectors within) in
    let ends = c.range-start.ensures.end in
    let at = c.range-start.ensures.start in
    let from = here.from in
    let least = c.min-most.ensures in
    let positive : 0 < run = (let not = c.if-run-eq0.false in omega arith) in
    run_failed (g.D.Device.faults c.args.device.now) (g.D.Device.faults c.read_run-answer.new.device) c.args.member.now.offset chunk chunks (IsBad c.args.member.now.listed.now) sector run (length (take (512 * run) xs))
    c.in-Err.ensures.there from (omega (arith, most, least, ends, at, from, positive)) positive long c.clear_run-run.ensures.clear

pub returns-in-Ok-clause-told : goal.returns-in-Ok-clause-told
returns-in-Ok-clause-told g c =
    let chunks = c.args.chunks in
    let sector = c.args.sector in
    let some = c.requires.some in
    let inside = c.requires.inside in
    let within : sector < chunks.size = omega arith in
    let chunk = c.chunk_of-chunk.result in
    let here : InChunk chunks.sectors chunks.size chunk sector = subst (λ n. InChunk chunks.sectors chunks.size n sector) (sym c.chunk_of-chunk.ensures.is) (in_its_chunk chunks.sectors chunks.size sector chunks.chunking.some_sectors within) in
    let from = (c.range-start.ensures.sectors sector).0 here in
    let most = c.clear_run-run.ensures.most in
    let least = c.min-most.ensures in
    told_run g.G.Gate c.args.gate.now c.args.member.now.role chunks c.args.member.now.listed.now sector c.clear_run-run.result chunk
    (λ s up below. (c.range-start.ensures.sectors s).1 (omega (arith, from.0, up), omega (arith, most, least, below)))
    (record { begins = c.before_read.ensures; ended = c.after_read.ensures })
