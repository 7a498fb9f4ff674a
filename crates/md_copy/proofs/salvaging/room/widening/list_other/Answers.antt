use Rattle.std.proofs.Common.{◌∙◌, sym}
use Rattle.md_kept_members.proofs.ChunksListed.{on_ok}
use Rattle.md_copy.proofs.SalvageLemmas.LostWidened.{others_more, others_same}
use Rattle.md_copy.proofs.salvaging.room.widening.list_other.Goals as goal

pub returns-then-is_marked : goal.returns-then-is_marked
returns-then-is_marked c = others_same c.args.chunk c.args.chunks c.args.set.now c.args.list.now c.requires.before (sym c.is_marked.ensures ∙ c.if-is_marked.true)

pub returns : goal.returns
returns c =
    on_ok c.add.result
    (others_more c.args.chunk c.args.chunks c.args.set.now c.args.list.now c.add.new.self c.range-start.result.0 c.range-start.result.1 c.requires.before (sym c.is_marked.ensures ∙ c.if-is_marked.false)
    c.range-start.ensures.sectors c.add.ensures.canonical)
    c.add.ensures.ok
