use Rattle.std.proofs.Common.{◌≡◌, ◌∙◌, ◌+◌, ◌*◌, ◌-◌, ◌<◌, ◌≤◌, ℕ, List, length, drop, take, arith, subst, sym, length-drop}
use Rattle.std.proofs.lemmas.List.{length-take-le}
use Rattle.md_state.specs.View.{ArrayView}
use Rattle.md_read_commands.specs.Holes.{gaps_of}
use Rattle.md_read_commands.proofs.Filled.{block_fits, front_filled, front_given, size_fits}
use Rattle.md_read_commands.proofs.Ways.{ends_there}
use Rattle.md_read_commands.proofs.filling.fill_front.Goals as goal

pub returns-in-Ok-clause-gives : goal.returns-in-Ok-clause-gives
returns-in-Ok-clause-gives g c =
    let same = c.read_by.auto.piece in
    let all = c.requires.whole in
    front_given c.args.way c.args.sector c.read_by.new.piece _ c.args.mirror.now c.read_by.new.mirror (omega arith) c.in-Ok.ensures.gives c.requires.clear _ (omega arith)

-- the sector that was not given
block_long : (piece : List ℕ) (given : ℕ) → 512 * given + 512 ≤ length piece → length (take (512 * given + 512 - 512 * given) (drop (512 * given) piece)) ≡ 512
block_long piece given within =
    let past = length-drop (512 * given) piece in
    length-take-le (512 * given + 512 - 512 * given) (drop (512 * given) piece) (omega arith) ∙ omega arith

pub fill_block-requires-clause-one : goal.fill_block-requires-clause-one
fill_block-requires-clause-one g c =
    let old = c.args.mirror.now in
    let there = ends_there old c.read_by.new.mirror c.requires.sound c.args.sector c.in-Err.unread.sector c.read_by.new.piece c.args.way c.in-Err.unread.fault c.in-Err.ensures.gives in
    let from = there.from in
    let below = there.below in
    block_long c.read_by.new.piece (c.in-Err.unread.sector - c.args.sector) (omega arith)

pub fill_block-requires-clause-inside : goal.fill_block-requires-clause-inside
fill_block-requires-clause-inside g c =
    let old = c.args.mirror.now in
    let s = c.in-Err.unread.sector in
    let there = ends_there old c.read_by.new.mirror c.requires.sound c.args.sector s c.read_by.new.piece c.args.way c.in-Err.unread.fault c.in-Err.ensures.gives in
    let below = there.below in
    let same = c.read_by.auto.piece in
    let inside = c.requires.may.may.range.inside in
    subst (λ (a : ArrayView). s < a.chunks.size) (sym there.rests.array) (omega arith)

pub returns-in-Err-clause-gives : goal.returns-in-Err-clause-gives
returns-in-Err-clause-gives g c =
    let old = c.args.mirror.now in
    let mid = c.read_by.new.mirror in
    let sector = c.args.sector in
    let s = c.in-Err.unread.sector in
    let piece = c.read_by.new.piece in
    let there = ends_there old mid c.requires.sound sector s piece c.args.way c.in-Err.unread.fault c.in-Err.ensures.gives in
    let from = there.from in
    let below = there.below in
    let same = c.read_by.auto.piece in
    front_filled old mid c.fill_block.new.mirror c.requires.sound sector s piece c.args.way c.in-Err.unread.fault c.in-Err.ensures.gives c.fill_block.new.block
    (c.fill_block.auto.block ∙ block_long piece (s - sector) (omega arith)) (gaps_of c.args.holes.now) (gaps_of c.fill_block.new.holes) c.requires.clear c.fill_block.ensures.gives
    _ _ _ (omega arith) (omega arith) (omega arith)

pub returns-in-Err-clause-fit : goal.returns-in-Err-clause-fit
returns-in-Err-clause-fit g c =
    let old = c.args.mirror.now in
    let mid = c.read_by.new.mirror in
    let s = c.in-Err.unread.sector in
    let piece = c.read_by.new.piece in
    let there = ends_there old mid c.requires.sound c.args.sector s piece c.args.way c.in-Err.unread.fault c.in-Err.ensures.gives in
    let below = there.below in
    let same = c.read_by.auto.piece in
    let may = c.requires.may.may in
    let inside = may.range.inside in
    let fits = size_fits old c.requires.sound may.running in
    block_fits c.in-Err.unread.fault s c.fill_block.new.block (gaps_of c.args.holes.now) (gaps_of c.fill_block.new.holes) mid c.fill_block.new.mirror c.fill_block.ensures.gives (omega arith) c.requires.fit
