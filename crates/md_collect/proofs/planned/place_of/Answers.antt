use Rattle.std.proofs.Common.{Bool, ltb, rules}
use Rattle.std.proofs.lemmas.List.Sorted.{IsPartitionPoint-from_clause}
use Rattle.md_cert.specs.declared.slots.Slot.{Slot}
use Rattle.md_collect.proofs.Search.{own_place, parted, place}
use Rattle.md_collect.proofs.planned.place_of.Goals as goal

pub returns : goal.returns
returns c =
    let p : Slot → Bool = λ slot. ltb slot.chunk c.args.chunk in
    place c.args.chunks c.args.slots.now c.args.chunk _ (IsPartitionPoint-from_clause p c.args.slots.now _ c.partition_point.ensures.partitioned (parted c.args.chunks c.args.slots.now c.args.chunk c.requires) (λ a r f' k. search rules))

pub returns-then-stands_at : goal.returns-then-stands_at
returns-then-stands_at c = own_place c.args.chunks c.args.slots.now c.args.chunk c.args.chunk c.requires (c.stands_at.ensures.within c.if-stands_at.true) (c.stands_at.ensures.chunk c.if-stands_at.true)
