use Rattle.std.proofs.Common.{subst, inl, inr}
use Rattle.md_copy.specs.Salvaging.Leaving.{MayLeaveSalvaged}
use Rattle.md_copy.proofs.Held.LeftRecorded.{may_none}
use Rattle.md_copy.proofs.SalvageLemmas.HeldSectors.{may_sectors}
use Rattle.md_copy.proofs.ending.last_record.leave.Goals as goal

pub record-requires-clause-may : goal.record-requires-clause-may
record-requires-clause-may g c =
    let target = c.args.target in
    let v = c.args.mirror.now in
    let copied = c.args.copied.now in
    elim c.in-NoMemory.is [
      | inl is ↦ may_sectors target v c.requires.sound c.requires.within copied (subst (MayLeaveSalvaged target copied v) is c.requires.may)
      | inr full ↦ may_sectors target v c.requires.sound c.requires.within copied (subst (MayLeaveSalvaged target copied v) full.1 c.requires.may)
    ]

pub record-requires-in-MetadataFault-clause-may : goal.record-requires-in-MetadataFault-clause-may
record-requires-in-MetadataFault-clause-may g c =
    let target = c.args.target in
    let v = c.args.mirror.now in
    may_none target v c.requires.sound c.requires.within c.forget.new.copied c.args.copied.now c.forget.ensures.chunks c.forget.ensures.none
    (subst (MayLeaveSalvaged target c.args.copied.now v) c.in-MetadataFault.is c.requires.may)
