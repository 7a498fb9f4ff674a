use Rattle.std.proofs.Common.{◌≡◌, ◌∙◌, ℕ, ◌-◌, Bool, false, not, List, [], ◌∷◌, ◌++◌, cond, length, map, sym, ap, subst, arith}
use Rattle.std.proofs.lemmas.List.{length-map, length_push}
use Rattle.md_super.specs.declared.superblock.Superblock.{Superblock}
use Rattle.md_kept_members.specs.Members.{made_due}
use Rattle.md_kept_members.specs.TakingBack.{own_role}
use Rattle.md_kept_members.specs.View.{MemberView}
use Rattle.md_kept_members.specs.Membership.Joining.{joined_shared}
use Rattle.md_state.specs.Steps.NoteJoined.{joined}
use Rattle.md_state.specs.Steps.ReAdd.{MayReAdd}
use Rattle.md_state.specs.View.{ArrayView, MirrorView, disk_of}
use Rattle.md_array.specs.Consistency.{IsConsistent}
use Rattle.md_array.specs.declared.mirror.Mirror.TheInside.{Inside}
use Rattle.md_array.specs.Steps.ReAdd.{RecordsLast}
use Rattle.md_array.proofs.General.Answered.{err_of, ok_gives, ok_of}
use Rattle.md_array.proofs.StepLemmas.ReAdd.{has_marks_for, joined_is, not_recorded, recorded_last}
use Rattle.md_array.proofs.mirror.Mirror.take_back.Goals as goal
use Rattle.md_array.proofs.StepLemmas.Add.{told_short}

pub offset_back-offset-requires-clause-chunks : goal.offset_back-offset-requires-clause-chunks
offset_back-offset-requires-clause-chunks g c =
    let sound = subst IsConsistent (sym c.self.view_is) c.requires.sound in
    let may = subst (λ (v : MirrorView). MayReAdd v.array c.args.info) (sym c.self.view_is) c.requires.may in
    has_marks_for c.self.inside.array c.args.info may.fits c.requires.whole sound.chunks.size sound.chunks.count

pub push_reserved-requires : goal.push_reserved-requires
push_reserved-requires g c = let room = ok_gives c.reserve.result _ c.if-is_err.ensures.value c.reserve.ensures.ok in omega arith

pub push_reserved-requires-2 : goal.push_reserved-requires-2
push_reserved-requires-2 g c = let room = ok_gives c.reserve-2.result _ c.if-is_err-2.ensures.value c.reserve-2.ensures.ok in omega arith

pub returns-then-is_err-3 : goal.returns-then-is_err-3
returns-then-is_err-3 g c =
    let of = disk_of g.D.Device in
    let m = c.taken_back-member.result in
    let inside = c.self-inside.inside.0.1.0 in
    let array : ArrayView = record {
      members = inside.members.items;
      shared = inside.shared;
      chunks = inside.chunks;
      marks = inside.marks;
      events_cleared = inside.events_cleared;
      resynced = inside.resynced;
      halted = inside.halted;
      requests = inside.requests;
    } in
    let old = c.args.self.now in
    let new : MirrorView = record { disks = map of c.reserve-2.new.self.items; array = record array { members = c.reserve.new.self.items } } in
    let unchanged : new ≡ old =
    (λ i. record { disks = map of (c.reserve-2.ensures.items i); array = record array { members = c.reserve.ensures.items i } })
    ∙ ap (λ (x : Inside g.row.D.Denot). record { disks = map of x.devices.items; array = x.array }) c.self-inside.view_is
    ∙ c.self.view_is in
    let shared = c.in-Ok.ensures ∙ ap (λ role. joined_shared c.self.inside.array.shared c.self.inside.array.members c.args.info.superblock.dev_number role) c.role_of-role.ensures in
    not_recorded g.D.Device c.args.device c.store_superblock.new.device c.self.inside.array c.offset_back-offset.result c.args.info m c.offset_back-offset.ensures c.taken_back-member.ensures c.in-Ok.shared shared c.store_superblock.ensures.outside
    old new unchanged (ap (λ (v : MirrorView). v.array) (sym c.self.view_is))
    (err_of c.store_superblock.result _ _ c.if-is_err-3.ensures.value c.store_superblock.ensures.writes)

pub returns : goal.returns
returns g c =
    let of = disk_of g.D.Device in
    let m = c.taken_back-member.result in
    let before = c.self.inside.array in
    let devices = c.self.inside.devices.items in
    let role : ℕ = own_role c.args.info.superblock in
    let number : ℕ = c.args.info.superblock.dev_number in
    let shared : c.in-Ok.shared ≡ joined_shared before.shared before.members number role = c.in-Ok.ensures ∙ ap (joined_shared before.shared before.members number) c.role_of-role.ensures in
    let full : Bool = not c.is_degraded-full.result in
    let new : MirrorView = record { disks = map of c.push_reserved-2.new.self.items; array = c.note_joined.new.self } in
    let sound = subst IsConsistent (sym c.self.view_is) c.requires.sound in
    let as_many : length (map of devices) ≡ length before.members = sound.fits.as_many in
    let mapped = length-map devices of in
    let pushed : c.push_reserved.new.self.items ≡ c.self-inside.inside.0.1.0.members.items ++ m ∷ [] =
    c.push_reserved.ensures.items ∙ ap (λ (xs : List MemberView). xs ++ m ∷ []) c.reserve.ensures.items in
    let joins : c.note_joined.new.self ≡ record before { shared = c.in-Ok.shared; members = map made_due before.members ++ record m { due = false } ∷ []; events_cleared = cond full c.in-Ok.shared.events before.events_cleared } =
    subst (λ (x : ArrayView). c.note_joined.new.self ≡ record x { shared = c.in-Ok.shared; members = map made_due x.members ++ record m { due = false } ∷ []; events_cleared = cond full c.in-Ok.shared.events x.events_cleared })
    (ap (λ (x : Inside g.row.D.Denot). x.array) c.self-inside.view_is) (c.note_joined.ensures c.self-inside.inside.0.1.0.members.items m pushed) in
    let number_kept : number ≡ m.superblock.dev_number = sym (ap (λ (v : Superblock). v.dev_number) c.taken_back-member.ensures.superblock) in
    let array : c.note_joined.new.self ≡ joined before m role =
    joined_is before c.note_joined.new.self m c.in-Ok.shared full number role shared number_kept (ap not c.is_degraded-full.ensures) c.taken_back-member.ensures.due joins in
    let items : c.push_reserved-2.new.self.items ≡ devices ++ c.store_superblock.new.device ∷ [] =
    c.push_reserved-2.ensures.items ∙ ap (λ xs. xs ++ c.store_superblock.new.device ∷ []) (c.reserve-2.ensures.items ∙ ap (λ (x : Inside g.row.D.Denot). x.devices.items) c.self-inside.view_is) in
    let count = ap length items ∙ length_push devices c.store_superblock.new.device in
    let last : c.len.result - 1 ≡ length before.members = omega (arith, c.len.ensures, c.push_reserved-2.new.self.ok.0) in
    subst (λ (v : MirrorView). RecordsLast (c.len.result - 1) (of c.args.device) c.args.info v new) c.self.view_is
    (recorded_last g.D.Device c.args.device c.store_superblock.new.device before c.offset_back-offset.result c.args.info m c.offset_back-offset.ensures c.taken_back-member.ensures c.in-Ok.shared shared c.store_superblock.ensures.outside
    devices c.push_reserved-2.new.self.items c.note_joined.new.self (c.len.result - 1)
    (subst (λ (v : MirrorView). MayReAdd v.array c.args.info) (sym c.self.view_is) c.requires.may)
    array c.store_superblock.ensures.readable
    (ok_of c.store_superblock.result _ _ c.if-is_err-3.ensures.value c.store_superblock.ensures.writes)
    (told_short c.sectors-sectors.result (g.D.Device.content c.args.device) c.sectors-sectors.ensures.size c.sectors-sectors.ensures.limit)
    last items)
