use Rattle.std.proofs.Common.{◌≡◌, ◌∙◌, ◌<◌, true, Some, ap, length, map, slice_get, refl, sym, subst}
use Rattle.std.specs.Prelude.{is_err, option_map}
use Rattle.std.proofs.lemmas.List.{with_items_is}
use Rattle.std.proofs.lemmas.Option.{slice_get-map}
use Rattle.md_assembly.specs.States.{is_spare}
use Rattle.md_assembly.proofs.Indices.{got_same}
use Rattle.md_kept_members.specs.TakingBack.{recovering}
use Rattle.md_kept_members.specs.View.{MemberView}
use Rattle.md_kept_members.specs.OnDevices.OneOfMany.{WritesAlone}
use Rattle.md_kept_members.specs.OnDevices.Superblocks.{own_write}
use Rattle.md_state.specs.Steps.Admit.{MayAdmit}
use Rattle.md_state.specs.DiskWrites.{IsFailed}
use Rattle.md_state.specs.Members.{IsMember}
use Rattle.md_state.specs.View.{MirrorView, disk_of}
use Rattle.md_state.proofs.Members.At.{member_read}
use Rattle.md_array.specs.Steps.Admit.{Admits, FailsAsTarget, FailsToAdmit}
use Rattle.md_array.specs.Consistency.{IsConsistent}
use Rattle.md_array.proofs.General.Answered.{err_of, ok_of}
use Rattle.md_array.proofs.Rebuilding.Admit.{admits_by, fails_to_admit, unadmitted_happens, unadmitted_is_consistent}
use Rattle.md_array.proofs.Rebuilding.AdmitEvent.{admit_happens, admitted_is_consistent, admitted_is_pending}
use Rattle.md_array.proofs.StepLemmas.OneWrite.{failed_on, fits_now, within_devices, within_members, written_on}
use Rattle.md_array.proofs.mirror.Mirror.admit.Given as given
use Rattle.md_array.proofs.mirror.Mirror.admit.Goals as goal
use Rattle.md_array.proofs.mirror.Mirror.admit.Goals.{After-deref_mut, After-store_fields_on}

on_device : (g : given.Over) (c : After-deref_mut g) → c.args.k < length c.self.inside.devices.items
on_device g c = within_devices (disk_of g.D.Device) c.self.inside.devices.items c.self.inside.array c.args.self.now c.args.k c.self.view_is c.requires.sound c.requires.within

member : (g : given.Over) (c : After-deref_mut g) → IsMember c.self.inside.array c.args.k c.index-member.result.now
member g c =
    member_read c.self.inside.array _ c.args.k c.index-member.result.now c.array.view_is
    (within_members (disk_of g.D.Device) c.self.inside.devices.items c.self.inside.array c.args.self.now c.args.k c.self.view_is c.requires.sound c.requires.within)
    c.index-member.ensures

-- its superblock is that of any member that is there
own_of : (g : given.Over) (c : After-deref_mut g) (m : MemberView) → IsMember c.self.inside.array c.args.k m → c.in-Ok.own ≡ recovering 0 m.superblock
own_of g c m at =
    c.in-Ok.ensures ∙ ap (λ (x : MemberView). recovering 0 x.superblock) (got_same c.self.inside.array.members c.args.k c.index-member.result.now m (member g c) at)

own_is : (g : given.Over) (c : After-deref_mut g) (may : MayAdmit c.args.k c.self.inside.array c.in_ok-role.role) → c.in-Ok.own ≡ recovering 0 may.member.superblock
own_is g c may = own_of g c may.member may.at

spare : (g : given.Over) (c : After-deref_mut g) (may : MayAdmit c.args.k c.self.inside.array c.in_ok-role.role) → is_spare may.member.state ≡ true
spare g c may = c.requires.spare may.member (subst (λ (v : MirrorView). IsMember v.array c.args.k may.member) c.self.view_is may.at)

pub store_fields_on-requires-clause-within : goal.store_fields_on-requires-clause-within
store_fields_on-requires-clause-within g c = rw c.deref_mut.ensures.value (on_device g (goal.at.store_fields_on-requires-clause-within g c).After-deref_mut)

pub store_fields_on-requires-clause-long : goal.store_fields_on-requires-clause-long
store_fields_on-requires-clause-long g c d at =
    let disk = disk_of g.D.Device in
    let devices = c.self.inside.devices.items in
    let there : slice_get (map disk devices) c.args.k ≡ Some (disk d) = slice_get-map disk devices c.args.k ∙ ap (option_map disk) (rw c.deref_mut.ensures.value at at) in
    let fits = fits_now disk devices c.self.inside.array c.args.self.now c.args.k c.self.view_is c.requires.sound c.requires.within in
    (fits.each c.args.k (disk d) c.index-member.result.now there (member g (goal.at.store_fields_on-requires-clause-long g c).After-deref_mut)).long

-- the superblock was written on its device alone
alone : (g : given.Over) (c : After-store_fields_on g)
    → WritesAlone g.D.Device c.args.k (own_write c.in-Ok-shared_with.shared c.in-Ok.own) c.self.inside.devices.items c.store_fields_on.new.devices c.store_fields_on.result
alone g c = rw c.deref_mut.ensures.value at c.store_fields_on.ensures.writes

-- and that failed
failed : (g : given.Over) (c : After-store_fields_on g) → c.args.k < length c.self.inside.devices.items → true ≡ is_err c.store_fields_on.result
    → IsFailed c.args.k (own_write c.in-Ok-shared_with.shared c.in-Ok.own) (map (disk_of g.D.Device) c.self.inside.devices.items) (map (disk_of g.D.Device) c.store_fields_on.new.devices)
failed g c within is =
    failed_on g.D.Device c.args.k (own_write c.in-Ok-shared_with.shared c.in-Ok.own) c.self.inside.devices.items c.store_fields_on.new.devices c.store_fields_on.result (alone g c) within
    (err_of c.store_fields_on.result _ _ is (alone g c).makes)

pub returns-then-is_err-clause-gives : goal.returns-then-is_err-clause-gives
returns-then-is_err-clause-gives g c =
    let disk = disk_of g.D.Device in
    let devices = c.self.inside.devices.items in
    let at = (goal.at.returns-then-is_err-clause-gives g c).After-deref_mut in
    let on = (goal.at.returns-then-is_err-clause-gives g c).After-store_fields_on in
    let was : MirrorView = record { disks = map disk devices; array = c.self.inside.array } in
    let new : MirrorView = record { disks = map disk c.store_fields_on.new.devices; array = c.self.inside.array } in
    let same = with_items_is c.self.inside.devices c.store_fields_on.new.devices (c.store_fields_on.auto.devices ∙ c.deref_mut.ensures.len) in
    rw same (subst (λ (v : MirrorView). FailsToAdmit c.args.k v new) c.self.view_is
    (fails_to_admit c.args.k c.in_ok-role.role was new c.in_ok-role.ensures c.in-Ok.own c.in-Ok-shared_with.shared (own_is g at c.in_ok-role.ensures) c.in-Ok-shared_with.ensures c.store_fields_on.ensures.readable refl
    (failed g on (on_device g at) c.if-is_err.ensures.value)))

pub returns-then-is_err-clause-event : goal.returns-then-is_err-clause-event
returns-then-is_err-clause-event g c =
    let disk = disk_of g.D.Device in
    let devices = c.self.inside.devices.items in
    let at = (goal.at.returns-then-is_err-clause-event g c).After-deref_mut in
    let on = (goal.at.returns-then-is_err-clause-event g c).After-store_fields_on in
    let was : MirrorView = record { disks = map disk devices; array = c.self.inside.array } in
    let new : MirrorView = record { disks = map disk c.store_fields_on.new.devices; array = c.self.inside.array } in
    let same = with_items_is c.self.inside.devices c.store_fields_on.new.devices (c.store_fields_on.auto.devices ∙ c.deref_mut.ensures.len) in
    rw same (subst (λ (v : MirrorView). FailsAsTarget c.args.k v new) c.self.view_is
    (unadmitted_happens c.args.k c.in_ok-role.role was new c.in_ok-role.ensures c.in-Ok.own c.in-Ok-shared_with.shared (own_is g at c.in_ok-role.ensures) c.in-Ok-shared_with.ensures c.store_fields_on.ensures.readable refl
    (failed g on (on_device g at) c.if-is_err.ensures.value)
    (subst IsConsistent (sym c.self.view_is) c.requires.sound) (spare g at c.in_ok-role.ensures)))

pub returns-then-is_err-clause-sound : goal.returns-then-is_err-clause-sound
returns-then-is_err-clause-sound g c =
    let disk = disk_of g.D.Device in
    let devices = c.self.inside.devices.items in
    let at = (goal.at.returns-then-is_err-clause-sound g c).After-deref_mut in
    let on = (goal.at.returns-then-is_err-clause-sound g c).After-store_fields_on in
    let was : MirrorView = record { disks = map disk devices; array = c.self.inside.array } in
    let new : MirrorView = record { disks = map disk c.store_fields_on.new.devices; array = c.self.inside.array } in
    let same = with_items_is c.self.inside.devices c.store_fields_on.new.devices (c.store_fields_on.auto.devices ∙ c.deref_mut.ensures.len) in
    rw same (unadmitted_is_consistent c.args.k c.in_ok-role.role was new c.in_ok-role.ensures c.in-Ok.own c.in-Ok-shared_with.shared (own_is g at c.in_ok-role.ensures) c.in-Ok-shared_with.ensures c.store_fields_on.ensures.readable refl
    (failed g on (on_device g at) c.if-is_err.ensures.value)
    (subst IsConsistent (sym c.self.view_is) c.requires.sound) (spare g at c.in_ok-role.ensures))

pub note_admitted-requires-clause-own : goal.note_admitted-requires-clause-own
note_admitted-requires-clause-own g c = own_of g (goal.at.note_admitted-requires-clause-own g c).After-deref_mut

admits : goal.returns-clause-gives
admits g c =
    let disk = disk_of g.D.Device in
    let devices = c.self.inside.devices.items in
    let at = (goal.at.returns-clause-gives g c).After-deref_mut in
    let on = (goal.at.returns-clause-gives g c).After-store_fields_on in
    let may : MayAdmit c.args.k c.self.inside.array c.in_ok-role.role = c.in_ok-role.ensures in
    let was : MirrorView = record { disks = map disk devices; array = c.self.inside.array } in
    let new : MirrorView = record { disks = map disk c.store_fields_on.new.devices; array = c.note_admitted.new.self } in
    let same = with_items_is c.self.inside.devices c.store_fields_on.new.devices (c.store_fields_on.auto.devices ∙ c.deref_mut.ensures.len) in
    rw same (subst (λ (v : MirrorView). Admits c.args.k v new) c.self.view_is
    (admits_by c.args.k c.in_ok-role.role was new may c.in-Ok.own c.in-Ok-shared_with.shared (own_is g at may) c.in-Ok-shared_with.ensures c.store_fields_on.ensures.readable
    (c.note_admitted.ensures may.member may.at)
    (written_on g.D.Device c.args.k (own_write c.in-Ok-shared_with.shared c.in-Ok.own) devices c.store_fields_on.new.devices c.store_fields_on.result (alone g on) (on_device g at)
    (ok_of c.store_fields_on.result _ _ c.if-is_err.ensures.value (alone g on).makes))))

pub returns-clause-gives : goal.returns-clause-gives
returns-clause-gives g c = admits g c

pub returns-clause-event : goal.returns-clause-event
returns-clause-event g c =
    let r = admits g c in
    (r.role, admit_happens c.args.k c.args.self.now _ c.requires.sound r (c.requires.spare r.may.member r.may.at))

pub returns-clause-sound : goal.returns-clause-sound
returns-clause-sound g c = let r = admits g c in admitted_is_consistent c.args.k c.args.self.now _ c.requires.sound r (c.requires.spare r.may.member r.may.at)

pub returns-clause-pending : goal.returns-clause-pending
returns-clause-pending g c = let r = admits g c in admitted_is_pending c.args.k c.args.self.now _ c.requires.sound r (c.requires.spare r.may.member r.may.at)
