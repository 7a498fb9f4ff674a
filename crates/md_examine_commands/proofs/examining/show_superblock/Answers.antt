use Rattle.std.proofs.Common.{refl}
use Rattle.md_members.specs.Reading.{CallFails}
use Rattle.md_refusals.proofs.Wrapped.{own_ok}
use Rattle.md_examine_commands.specs.Examining.{IsSuperblockRefusal, IsSuperblockText, superblock_shown}
use Rattle.md_examine_commands.proofs.Reported.{reported}
use Rattle.md_examine_commands.proofs.examining.show_superblock.Goals as goal

pub returns-clause-gives : goal.returns-clause-gives
returns-clause-gives g c =
    let d = g.D.Device in
    let was = c.args.device.now in
    let Failed = CallFails d was c.read_super.new.device in
    let call = c.put_superblock in
    let own = own_ok _ _ _ c.read_super.result _ _ c.read_super.ensures.reads c.in_ok-v.ensures.cases c.in_ok-v.ensures.variant refl in
    reported g.S.Sink (IsSuperblockText (d.content was) (d.honest was) c.args.json) (IsSuperblockRefusal (d.content was) (d.honest was) Failed) c.args.out.now call.new.out (superblock_shown c.args.json c.in_ok-v.v) call.result (c.in_ok-v.v, own, refl) call.ensures
