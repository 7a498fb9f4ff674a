use Rattle.std.proofs.Common.{◌≡◌, ◌∙◌, ℕ, List, Option, length, map, ap, sym, subst}
use Rattle.std.proofs.lemmas.Result.{err_from_is_err_and}
use Rattle.md_state.specs.View.{Disk, disk_of}
use Rattle.md_cli.specs.InMemory.{GetsBitmapInMemory, GetsNoBitmap}
use Rattle.md_cli.proofs.Created.{written_back}
use Rattle.md_cli.proofs.InMemory.{Answers, given, not_given}
use Rattle.md_cli.proofs.open.in_memory.with_bitmap.Goals as goal

pub returns-clause-gives : goal.returns-clause-gives
returns-clause-gives g c =
    let disk = disk_of g.D.Device in
    let before = map disk c.args.devices.items in
    let after = map disk c.grow.new.devices in
    let n = c.in-Some.chunk_bytes in
    let lent : map disk c.as_mut_slice.result.now ≡ before = ap (map disk) c.as_mut_slice.ensures.value in
    let as_long = c.grow.ensures.as_many ∙ ap length c.as_mut_slice.ensures.value in
    let back = ap (map disk) (written_back c.args.devices.len c.grow.new.devices c.args.devices.items c.args.devices.ok.0 as_long) in
    let answers = subst (λ (ds : List Disk). Answers n ds after c.grow.result) lent c.grow.ensures.gives in
    let gets = given n before after c.grow.result _ answers (sym c.given_or_had.ensures ∙ c.in_ok-given_or_had.was) in
    let asked = subst (λ (chunk : Option ℕ). GetsBitmapInMemory chunk before after) (sym c.in-Some.is) gets in
    subst (λ (ds : List Disk). GetsBitmapInMemory c.args.chunk before ds) (sym back) asked

pub returns-in_err-given_or_had-clause-gives : goal.returns-in_err-given_or_had-clause-gives
returns-in_err-given_or_had-clause-gives g c =
    let disk = disk_of g.D.Device in
    let before = map disk c.args.devices.items in
    let after = map disk c.grow.new.devices in
    let n = c.in-Some.chunk_bytes in
    let why = c.in_err-given_or_had.field-0.0 in
    let lent : map disk c.as_mut_slice.result.now ≡ before = ap (map disk) c.as_mut_slice.ensures.value in
    let answers = subst (λ (ds : List Disk). Answers n ds after c.grow.result) lent c.grow.ensures.gives in
    let none = not_given n before after c.grow.result why answers (sym c.given_or_had.ensures ∙ c.in_err-given_or_had.was) in
    let p = err_from_is_err_and c.from_residual.result c.from_residual.ensures.1 in
    rw (p.1, p.2) (subst (λ (chunk : Option ℕ). GetsNoBitmap chunk before why) (sym c.in-Some.is) none)
