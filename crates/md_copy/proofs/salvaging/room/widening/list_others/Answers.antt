use Rattle.md_copy.proofs.SalvageLemmas.LostWidened.{others_none}
use Rattle.md_copy.proofs.salvaging.room.widening.list_others.Goals as goal

pub loop-chunk-init : goal.loop-chunk-init
loop-chunk-init c = others_none c.args.chunks c.args.set.now c.new-list.result c.new-list.ensures
