use Rattle.std.proofs.Common.{◌≡◌, ◌∙◌, ◌+◌, ◌<◌, ◌++◌, ◌∷◌, [], length, map, subst, sym, arith}
use Rattle.std.specs.Prelude.{slice_index_or, slice_set}
use Rattle.std.proofs.lemmas.List.{length-map}
use Rattle.md_state.specs.View.{disk_of}
use Rattle.md_notices.proofs.HeldLemmas.Looked.{AreLookedAt, all_looked, disk_at, one_looked, with_disk}
use Rattle.md_notices.proofs.held.looking.held_on_each.Goals as goal

pub loop-place-preserved : goal.loop-place-preserved
loop-place-preserved g c =
    let disk = disk_of g.D.Device in
    let inv = c.loop-place.invariant in
    let n = c.loop-place.place in
    let before = map disk c.args.devices.now in
    let lt : n < length c.loop-place.devices = omega (arith, c.loop-place-test.true, c.loop-place.auto.devices) in
    let old = slice_index_or c.loop-place.devices n c.index-devices-place.result in
    let there = disk_at g.D.Device c.loop-place.devices n c.index-devices-place.result lt in
    let same = sym (with_disk g.D.Device c.loop-place.devices n c.held_on-one.new.device) in
    let more = one_looked before (map disk c.loop-place.devices) c.loop-place.held.items n (disk old) (disk c.held_on-one.new.device) c.held_on-one.result inv.looked there
    (record { only_read = c.held_on-one.ensures.only_read; holds = c.held_on-one.ensures.holds }) in
    record {
      looked =
          subst (λ held. AreLookedAt before (map disk (slice_set c.loop-place.devices n c.held_on-one.new.device)) held (n + 1)) (sym c.push_reserved.ensures.items)
          (subst (λ now. AreLookedAt before now (c.loop-place.held.items ++ c.held_on-one.result ∷ []) (n + 1)) same more);
      room = omega (arith, inv.room, c.push_reserved.ensures.capacity);
    }

pub returns-clause-looks : goal.returns-clause-looks
returns-clause-looks g c =
    let disk = disk_of g.D.Device in
    let inv = c.loop-place.invariant in
    let all : c.loop-place.place ≡ length c.args.devices.now = omega (arith, c.loop-place-test.false, c.loop-place.auto.devices, c.loop-place.auto.place-end) in
    all_looked (map disk c.args.devices.now) (map disk c.loop-place.devices) c.loop-place.held.items c.loop-place.place (all ∙ sym (length-map c.args.devices.now disk)) inv.looked
