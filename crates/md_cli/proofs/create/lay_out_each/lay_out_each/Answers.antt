use Rattle.std.proofs.Common.{◌≡◌, ◌∙◌, ◌+◌, ◌<◌, length, map, refl, sym, subst, arith}
use Rattle.std.specs.Prelude.{slice_index_or}
use Rattle.std.proofs.lemmas.Option.{slice_get_read}
use Rattle.md_state.specs.View.{disk_of}
use Rattle.md_cli.specs.Creating.{AreLaidOut, At, FailsInLayout}
use Rattle.md_cli.proofs.Laid.{IsLaidTo, all_laid, did, did_not, disk_at, does_on_disk, laid_up_to, one_laid, stopped_here, stops_on_disk, with_disk}
use Rattle.md_cli.proofs.create.lay_out_each.lay_out_each.Goals as goal

pub lay_out-requires : goal.lay_out-requires
lay_out-requires g c =
    let lt : c.loop-place.place < length c.loop-place.devices = omega (arith, c.loop-place-test.true, c.loop-place.auto.devices) in
    let there = disk_at g.D.Device c.loop-place.devices c.loop-place.place c.index-devices-place.result lt in
    c.requires.room c.loop-place.place _ (sym (c.loop-place.invariant.rest c.loop-place.place (omega arith)) ∙ there)

pub returns-then-is_err-clause-laid_out : goal.returns-then-is_err-clause-laid_out
returns-then-is_err-clause-laid_out g c =
    let disk = disk_of g.D.Device in
    let so = c.loop-place.invariant in
    let lt : c.loop-place.place < length c.loop-place.devices = omega (arith, c.loop-place-test.true, c.loop-place.auto.devices) in
    let inside : c.loop-place.place < length c.args.members.now = omega (arith, lt, c.loop-place.auto.devices, c.requires.as_many) in
    let old = slice_index_or c.loop-place.devices c.loop-place.place c.index-devices-place.result in
    let member = c.index-members-place.result in
    let there = disk_at g.D.Device c.loop-place.devices c.loop-place.place c.index-devices-place.result lt in
    let is_member = slice_get_read c.args.members.now (length c.args.members.now) c.loop-place.place c.index-members-place.result refl inside c.index-members-place.is in
    let same = sym (with_disk g.D.Device c.loop-place.devices c.loop-place.place c.lay_out.new.device) in
    subst (λ now. AreLaidOut (map disk c.args.devices.now) now c.args.members.now c.loop-place.place) same
    (laid_up_to (map disk c.args.devices.now) (map disk c.loop-place.devices) c.args.members.now c.loop-place.place (disk old) (disk c.lay_out.new.device) member so there is_member)

pub returns-then-is_err-clause-stopped : goal.returns-then-is_err-clause-stopped
returns-then-is_err-clause-stopped g c = λ _.
    let disk = disk_of g.D.Device in
    let so = c.loop-place.invariant in
    let lt : c.loop-place.place < length c.loop-place.devices = omega (arith, c.loop-place-test.true, c.loop-place.auto.devices) in
    let inside : c.loop-place.place < length c.args.members.now = omega (arith, lt, c.loop-place.auto.devices, c.requires.as_many) in
    let old = slice_index_or c.loop-place.devices c.loop-place.place c.index-devices-place.result in
    let member = c.index-members-place.result in
    let there = disk_at g.D.Device c.loop-place.devices c.loop-place.place c.index-devices-place.result lt in
    let is_member = slice_get_read c.args.members.now (length c.args.members.now) c.loop-place.place c.index-members-place.result refl inside c.index-members-place.is in
    let same = sym (with_disk g.D.Device c.loop-place.devices c.loop-place.place c.lay_out.new.device) in
    let stops = did_not c.lay_out.result c.is_err.result _ _ c.is_err.ensures.value c.if-is_err.true c.lay_out.ensures.writes in
    subst (λ now. At FailsInLayout (map disk c.args.devices.now) now c.args.members.now c.loop-place.place) same
    (stopped_here (map disk c.args.devices.now) (map disk c.loop-place.devices) c.args.members.now c.loop-place.place (disk old) (disk c.lay_out.new.device) member so there is_member
    (stops_on_disk g.D.Device old c.lay_out.new.device member stops))

pub loop-place-preserved : goal.loop-place-preserved
loop-place-preserved g c =
    let disk = disk_of g.D.Device in
    let so = c.loop-place.invariant in
    let lt : c.loop-place.place < length c.loop-place.devices = omega (arith, c.loop-place-test.true, c.loop-place.auto.devices) in
    let inside : c.loop-place.place < length c.args.members.now = omega (arith, lt, c.loop-place.auto.devices, c.requires.as_many) in
    let old = slice_index_or c.loop-place.devices c.loop-place.place c.index-devices-place.result in
    let member = c.index-members-place.result in
    let there = disk_at g.D.Device c.loop-place.devices c.loop-place.place c.index-devices-place.result lt in
    let is_member = slice_get_read c.args.members.now (length c.args.members.now) c.loop-place.place c.index-members-place.result refl inside c.index-members-place.is in
    let same = sym (with_disk g.D.Device c.loop-place.devices c.loop-place.place c.lay_out.new.device) in
    let does = did c.lay_out.result c.is_err.result _ _ c.is_err.ensures.value c.if-is_err.false c.lay_out.ensures.writes in
    subst (λ now. IsLaidTo (map disk c.args.devices.now) now c.args.members.now (c.loop-place.place + 1)) same
    (one_laid (map disk c.args.devices.now) (map disk c.loop-place.devices) c.args.members.now c.loop-place.place (disk old) (disk c.lay_out.new.device) member so there is_member
    (does_on_disk g.D.Device old c.lay_out.new.device member does))

pub returns-clause-laid_out : goal.returns-clause-laid_out
returns-clause-laid_out g c =
    let disk = disk_of g.D.Device in
    let all : c.loop-place.place ≡ length c.loop-place.devices = omega (arith, c.loop-place-test.false, c.loop-place.auto.devices, c.loop-place.auto.place-end) in
    subst (λ n. AreLaidOut (map disk c.args.devices.now) (map disk c.loop-place.devices) c.args.members.now n) all
    (all_laid (map disk c.args.devices.now) (map disk c.loop-place.devices) c.args.members.now c.loop-place.place c.loop-place.invariant)
