use Rattle.std.proofs.Common.{inr, map}
use Rattle.std.proofs.lemmas.Result.{MatchResult-weaker}
use Rattle.md_state.specs.View.{disk_of}
use Rattle.md_metadata.proofs.GrowLemmas.Room.{have_room}
use Rattle.md_metadata.proofs.bitmap_grow.whole_grow.grow.Goals as goal

pub store_each-requires : goal.store_each-requires
store_each-requires g c =
    let disks = map (disk_of g.D.Device) in
    have_room c.args.chunk_bytes (disks c.args.devices.now) (disks c.find_growth.new.devices) c.in_ok-growth.growth c.in_ok-growth.ensures.gives

pub returns-clause-gives : goal.returns-clause-gives
returns-clause-gives g c =
    let disks = map (disk_of g.D.Device) in
    let seen = disks c.find_growth.new.devices in
    let found = c.in_ok-growth.ensures.gives in
    MatchResult-weaker c.store_each.result c.store_each.ensures
    (λ x stored. record { growth = c.in_ok-growth.growth; seen = seen; found = found; stored = stored })
    (λ f stopped. inr (record { growth = c.in_ok-growth.growth; seen = seen; found = found; stopped = stopped }))
