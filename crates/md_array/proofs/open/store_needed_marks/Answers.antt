use Rattle.std.proofs.Common.{arith, ◌≡◌, ◌∙◌, ◌+◌, ◌<◌, ap, sym, map, length, List, ℕ, refl, subst, get_or, length-set}
use Rattle.std.proofs.lemmas.List.{length-map, map-set}
use Rattle.std.proofs.lemmas.Option.{slice_get_read}
use Rattle.md_kept_members.specs.View.{MemberView}
use Rattle.md_kept_members.specs.Members.{NeedsMarks}
use Rattle.md_state.specs.Members.{IsMember}
use Rattle.md_state.specs.View.{ArrayView, Disk, disk_of}
use Rattle.md_array.specs.Open.Marks.{FailsToStore, IsMarkedBy, EndsAtMember}
use Rattle.md_array.proofs.General.Answered.{err_gives, ok_gives}
use Rattle.md_array.proofs.Openings.DevicesInTurn.{disk_at}
use Rattle.md_array.proofs.Openings.MarksStored.{AreStoredTo, stored_all, stored_more, stored_none, stopped_at}
use Rattle.md_array.proofs.open.store_needed_marks.Goals as goal

-- the member at an index of the array
member_at : (a b : ArrayView) (k n : ℕ) (m : MemberView) → a ≡ b → n ≡ length b.members → k < n → m ≡ get_or a.members k m → IsMember b k m
member_at a b k n m same count within is =
    let count_a : n ≡ length a.members = count ∙ ap (λ (x : ArrayView). length x.members) (sym same) in
    subst (λ (x : ArrayView). IsMember x k m) same (slice_get_read a.members n k m count_a within is)

pub store_where_needed-requires : goal.store_where_needed-requires
store_where_needed-requires g c =
    let disk = disk_of g.D.Device in
    let d = disk (get_or c.loop-k.devices c.loop-k.k c.index-devices-k.result) in
    let here = disk_at disk c.loop-k.devices c.loop-k.k c.index-devices-k.result (omega arith) in
    let many = sym (length-map c.args.devices.now disk) ∙ c.requires.as_many in
    c.requires.each c.loop-k.k d c.index-member.result.now (c.loop-k.invariant.stored.rest c.loop-k.k d (omega arith) here)
    (member_at _ c.args.array.now c.loop-k.k (length c.args.devices.now) c.index-member.result.now c.array.view_is many c.loop-k-test.true c.index-member.ensures)

pub returns-then-is_err : goal.returns-then-is_err
returns-then-is_err g c =
    let disk = disk_of g.D.Device in
    let a = c.args.array.now in
    let m = c.index-member.result.now in
    let d = disk (get_or c.loop-k.devices c.loop-k.k c.index-devices-k.result) in
    let e = disk c.store_where_needed.new.device in
    let here = disk_at disk c.loop-k.devices c.loop-k.k c.index-devices-k.result (omega arith) in
    let many = sym (length-map c.args.devices.now disk) ∙ c.requires.as_many in
    subst (λ (after : List Disk). EndsAtMember a (map disk c.args.devices.now) after c.loop-k.k) (sym (map-set disk c.loop-k.devices c.loop-k.k c.store_where_needed.new.device))
    (stopped_at a (map disk c.args.devices.now) (map disk c.loop-k.devices) c.loop-k.k d e c.loop-k.invariant.stored here c.store_where_needed.ensures.stays m
    (member_at _ a c.loop-k.k (length c.args.devices.now) m c.array.view_is many c.loop-k-test.true c.index-member.ensures)
    (err_gives c.store_where_needed.result (NeedsMarks m) c.if-is_err.ensures.value c.store_where_needed.ensures.needs)
    (err_gives c.store_where_needed.result (FailsToStore a m d e) c.if-is_err.ensures.value c.store_where_needed.ensures.fails))

pub loop-k-preserved : goal.loop-k-preserved
loop-k-preserved g c =
    let disk = disk_of g.D.Device in
    let a = c.args.array.now in
    let m = c.index-member.result.now in
    let d = disk (get_or c.loop-k.devices c.loop-k.k c.index-devices-k.result) in
    let e = disk c.store_where_needed.new.device in
    let here = disk_at disk c.loop-k.devices c.loop-k.k c.index-devices-k.result (omega arith) in
    let many = sym (length-map c.args.devices.now disk) ∙ c.requires.as_many in
    record {
      stored = subst (λ (after : List Disk). AreStoredTo a (map disk c.args.devices.now) after (c.loop-k.k + 1)) (sym (map-set disk c.loop-k.devices c.loop-k.k c.store_where_needed.new.device))
          (stored_more a (map disk c.args.devices.now) (map disk c.loop-k.devices) c.loop-k.k d e c.loop-k.invariant.stored here c.store_where_needed.ensures.stays m
          (member_at _ a c.loop-k.k (length c.args.devices.now) m c.array.view_is many c.loop-k-test.true c.index-member.ensures)
          (ok_gives c.store_where_needed.result (IsMarkedBy a m d e) c.if-is_err.ensures.value c.store_where_needed.ensures.ok));
      size = length-set c.loop-k.devices c.loop-k.k c.store_where_needed.new.device ∙ c.loop-k.invariant.size;
    }

pub loop-k-init : goal.loop-k-init
loop-k-init g c = record { stored = stored_none c.args.array.now (map (disk_of g.D.Device) c.args.devices.now); size = refl }

pub returns : goal.returns
returns g c =
    let disk = disk_of g.D.Device in
    stored_all c.args.array.now (map disk c.args.devices.now) (map disk c.loop-k.devices) c.loop-k.k c.loop-k.invariant.stored (omega (arith, length-map c.loop-k.devices disk))
