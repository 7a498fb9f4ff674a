use Rattle.md_array.proofs.Openings.StoredOn.{stays_made}
use Rattle.md_state.specs.View.{disk_of}
use Rattle.md_metadata.specs.Grow.Stored.{bitmap_part, sectors_of}
use Rattle.md_metadata.proofs.GrowLemmas.StoredOn.{fails_in_part, gets_bitmap, keeps_bitmap, made_as_disk}
use Rattle.md_metadata.proofs.bitmap_grow.store.put_bitmap.Goals as goal

pub returns-clause-stays : goal.returns-clause-stays
returns-clause-stays g c = stays_made g.D.Device (bitmap_part c.args.growth.now) c.args.device.now c.store_bitmap.new.device c.store_bitmap.result c.store_bitmap.ensures.writes

pub returns-clause-ok : goal.returns-clause-ok
returns-clause-ok g c =
    let w = c.args.growth.now in
    let old = c.args.device.now in
    let new = c.store_bitmap.new.device in
    let kept = keeps_bitmap w.start (sectors_of w) (g.D.Device.content old) (g.D.Device.content new) c.store_bitmap.ensures.outside in
    gets_bitmap w (disk_of g.D.Device old) (disk_of g.D.Device new) kept c.store_bitmap.result
    (made_as_disk g.D.Device (bitmap_part w) old new c.store_bitmap.result c.store_bitmap.ensures.writes)

pub returns-clause-fails : goal.returns-clause-fails
returns-clause-fails g c =
    let w = c.args.growth.now in
    let old = c.args.device.now in
    let new = c.store_bitmap.new.device in
    let kept = keeps_bitmap w.start (sectors_of w) (g.D.Device.content old) (g.D.Device.content new) c.store_bitmap.ensures.outside in
    fails_in_part w (disk_of g.D.Device old) (disk_of g.D.Device new) kept (bitmap_part w) c.store_bitmap.result
    (made_as_disk g.D.Device (bitmap_part w) old new c.store_bitmap.result c.store_bitmap.ensures.writes)
