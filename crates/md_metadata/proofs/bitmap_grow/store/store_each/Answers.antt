use Rattle.std.proofs.Common.{◌≡◌, ℕ, ◌<◌, ◌⊎◌, Err, inl, inr, arith, map, rules}
use Rattle.std.proofs.lemmas.Result.{MatchResult-weaker}
use Rattle.md_state.specs.View.{disk_of}
use Rattle.md_metadata.specs.Grow.Growing.{EndsInBitmaps, EndsInSuperblocks, EndsNaming}
use Rattle.md_metadata.specs.Grow.Stored.{sectors_of}
use Rattle.md_metadata.proofs.GrowLemmas.StoredEach.{all_grown, ends_in_superblocks, on_member, still_fits}
use Rattle.md_metadata.proofs.bitmap_grow.store.store_each.Goals as goal

pub put_superblocks-requires : goal.put_superblocks-requires
put_superblocks-requires g c =
    let disks = map (disk_of g.D.Device) in
    still_fits c.args.growth.now (disks c.args.devices.now) (disks c.put_bitmaps.new.devices) c.requires c.in_ok-put_bitmaps.ensures

pub returns-in_err-put_bitmaps : goal.returns-in_err-put_bitmaps
returns-in_err-put_bitmaps g c =
    let disks = map (disk_of g.D.Device) in
    let w = c.args.growth.now in
    let before = disks c.args.devices.now in
    let after = disks c.put_bitmaps.new.devices in
    let Ends : ℕ → Type 0 = λ k. EndsInBitmaps w before after k ⊎ EndsInSuperblocks w before after k in
    let is : c.from_residual.result ≡ Err c.in_err-put_bitmaps.field-0.0 = search rules in
    rw is (on_member (EndsInBitmaps w before after) Ends (λ k ends. inl ends) c.in_err-put_bitmaps.field-0.0 c.in_err-put_bitmaps.ensures)

pub returns : goal.returns
returns g c =
    let disks = map (disk_of g.D.Device) in
    let w = c.args.growth.now in
    let before = disks c.args.devices.now in
    let mid = disks c.put_bitmaps.new.devices in
    let after = disks c.put_superblocks.new.devices in
    let some : 0 < sectors_of w = omega arith in
    let Ends : ℕ → Type 0 = λ k. EndsInBitmaps w before after k ⊎ EndsInSuperblocks w before after k in
    MatchResult-weaker c.put_superblocks.result c.put_superblocks.ensures
    (λ x named. all_grown w before mid after c.requires c.in_ok-put_bitmaps.ensures some named)
    (λ f ends. on_member (EndsNaming w mid after) Ends (λ k at. inr (ends_in_superblocks w before mid after c.requires c.in_ok-put_bitmaps.ensures k some at)) f ends)
