use Rattle.std.proofs.Common.{◌<◌, Bool, inl, sym, subst}
use Rattle.md_state.specs.View.{ArrayView}
use Rattle.md_read_commands.specs.Others.{AsksInSync}
use Rattle.md_read_commands.proofs.OtherMembers.{none_rests, stand_ins_asked}
use Rattle.md_read_commands.proofs.others.read_other.Goals as goal

pub returns-then-read_in_sync-clause-gives : goal.returns-then-read_in_sync-clause-gives
returns-then-read_in_sync-clause-gives g c =
    inl (subst (λ (given : Bool). AsksInSync c.args.unread.now.fault c.args.unread.now.sector c.read_in_sync.new.block c.args.mirror.now c.read_in_sync.new.mirror given) c.if-read_in_sync.true c.read_in_sync.ensures.gives)

pub read_stand_ins-requires-clause-inside : goal.read_stand_ins-requires-clause-inside
read_stand_ins-requires-clause-inside g c =
    let none = subst (λ (given : Bool). AsksInSync c.args.unread.now.fault c.args.unread.now.sector c.read_in_sync.new.block c.args.mirror.now c.read_in_sync.new.mirror given) c.if-read_in_sync.false c.read_in_sync.ensures.gives in
    let rests = none_rests c.args.unread.now.fault c.args.unread.now.sector c.args.mirror.now c.read_in_sync.new.mirror none in
    subst (λ (a : ArrayView). c.args.unread.now.sector < a.chunks.size) (sym rests.array) c.requires.inside

pub returns-clause-gives : goal.returns-clause-gives
returns-clause-gives g c =
    let none = subst (λ (given : Bool). AsksInSync c.args.unread.now.fault c.args.unread.now.sector c.read_in_sync.new.block c.args.mirror.now c.read_in_sync.new.mirror given) c.if-read_in_sync.false c.read_in_sync.ensures.gives in
    stand_ins_asked c.args.unread.now.fault c.args.unread.now.sector c.read_stand_ins.new.block c.args.mirror.now c.read_in_sync.new.mirror c.read_stand_ins.new.mirror none c.read_stand_ins.result c.read_stand_ins.ensures.gives
