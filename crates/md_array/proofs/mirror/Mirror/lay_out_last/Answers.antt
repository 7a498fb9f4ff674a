use Rattle.std.proofs.Common.{◌≡◌, ◌∙◌, ℕ, ◌-◌, Bool, false, not, List, [], ◌∷◌, ◌++◌, cond, length, map, refl, sym, ap, subst, arith}
use Rattle.std.proofs.lemmas.List.{length-map, length_push}
use Rattle.md_kept_members.specs.Members.{made_due}
use Rattle.md_kept_members.specs.View.{MemberView}
use Rattle.md_kept_members.specs.Membership.Joining.{joined_shared}
use Rattle.md_kept_members.specs.Membership.Numbers.{spare_role}
use Rattle.md_state.specs.Steps.Add.{IsSpareOf, added}
use Rattle.md_state.specs.View.{ArrayView, MirrorView, disk_of}
use Rattle.md_array.specs.Steps.Add.{LaysOutLast, kept_of}
use Rattle.md_array.specs.Consistency.{IsConsistent}
use Rattle.md_array.specs.declared.mirror.Mirror.TheInside.{Inside}
use Rattle.md_array.proofs.General.Answered.{err_of, ok_gives, ok_of}
use Rattle.md_array.proofs.StepLemmas.ReAdd.{joined_is}
use Rattle.md_array.proofs.StepLemmas.Add.{laid_last, not_laid, told, told_short}
use Rattle.md_array.proofs.mirror.Mirror.lay_out_last.Goals as goal

pub push_reserved-requires : goal.push_reserved-requires
push_reserved-requires g c = let room = ok_gives c.reserve.result _ c.if-is_err.ensures.value c.reserve.ensures.ok in omega arith

pub push_reserved-requires-2 : goal.push_reserved-requires-2
push_reserved-requires-2 g c = let room = ok_gives c.reserve-2.result _ c.if-is_err-2.ensures.value c.reserve-2.ensures.ok in omega arith

pub returns-then-is_err-3 : goal.returns-then-is_err-3
returns-then-is_err-3 g c =
    let of = disk_of g.D.Device in
    let inside = c.self-inside.inside.0.1.0 in
    let array : ArrayView = record {
      members = inside.members.items;
      shared = inside.shared;
      chunks = inside.chunks;
      marks = inside.marks;
      events_cleared = inside.events_cleared;
      resynced = inside.resynced;
      halted = inside.halted;
      requests = inside.requests;
    } in
    let old = c.args.self.now in
    let new : MirrorView = record { disks = map of c.reserve-2.new.self.items; array = record array { members = c.reserve.new.self.items } } in
    let unchanged : new ≡ old =
    (λ i. record { disks = map of (c.reserve-2.ensures.items i); array = record array { members = c.reserve.ensures.items i } })
    ∙ ap (λ (x : Inside g.row.D.Denot). record { disks = map of x.devices.items; array = x.array }) c.self-inside.view_is
    ∙ c.self.view_is in
    let same = told c.sectors.result (g.D.Device.content c.args.device) c.sectors.ensures.size in
    let spare = subst (λ (n : ℕ). IsSpareOf old.array c.args.number n c.in-Ok.spare) same c.in-Ok.ensures.1 in
    not_laid g.D.Device c.args.device c.lay_out.new.device old new c.args.number c.in-Ok.spare unchanged spare
    (err_of c.lay_out.result _ _ c.if-is_err-3.ensures.value c.lay_out.ensures.writes) c.lay_out.ensures.outside

pub returns : goal.returns
returns g c =
    let of = disk_of g.D.Device in
    let laid = c.in-Ok.spare in
    let m : MemberView = kept_of laid in
    let before = c.self.inside.array in
    let devices = c.self.inside.devices.items in
    let full : Bool = not c.is_degraded-full.result in
    let new : MirrorView = record { disks = map of c.push_reserved-2.new.self.items; array = c.note_joined.new.self } in
    let sound = subst IsConsistent (sym c.self.view_is) c.requires.sound in
    let as_many : length (map of devices) ≡ length before.members = sound.fits.as_many in
    let mapped = length-map devices of in
    let same = told c.sectors.result (g.D.Device.content c.args.device) c.sectors.ensures.size in
    let spare = subst (λ (n : ℕ). IsSpareOf before c.args.number n laid) same (subst (λ (v : MirrorView). IsSpareOf v.array c.args.number c.sectors.result laid) (sym c.self.view_is) c.in-Ok.ensures.1) in
    let shared = subst (λ (v : MirrorView). c.in-Ok.shared ≡ joined_shared v.array.shared v.array.members c.args.number spare_role) (sym c.self.view_is) c.in-Ok.ensures.0 in
    let kept : c.kept_spare-member.result ≡ m = c.kept_spare-member.ensures in
    let pushed : c.push_reserved.new.self.items ≡ c.self-inside.inside.0.1.0.members.items ++ m ∷ [] =
    c.push_reserved.ensures.items ∙ ap (λ (xs : List MemberView). xs ++ c.kept_spare-member.result ∷ []) c.reserve.ensures.items ∙ ap (λ (x : MemberView). c.self-inside.inside.0.1.0.members.items ++ x ∷ []) kept in
    let joins : c.note_joined.new.self ≡ record before { shared = c.in-Ok.shared; members = map made_due before.members ++ record m { due = false } ∷ []; events_cleared = cond full c.in-Ok.shared.events before.events_cleared } =
    subst (λ (x : ArrayView). c.note_joined.new.self ≡ record x { shared = c.in-Ok.shared; members = map made_due x.members ++ record m { due = false } ∷ []; events_cleared = cond full c.in-Ok.shared.events x.events_cleared })
    (ap (λ (x : Inside g.row.D.Denot). x.array) c.self-inside.view_is) (c.note_joined.ensures c.self-inside.inside.0.1.0.members.items m pushed) in
    let array : c.note_joined.new.self ≡ added before laid =
    joined_is before c.note_joined.new.self m c.in-Ok.shared full c.args.number spare_role shared (sym spare.spare.superblock.dev_number) (ap not c.is_degraded-full.ensures) refl joins in
    let items : c.push_reserved-2.new.self.items ≡ devices ++ c.lay_out.new.device ∷ [] =
    c.push_reserved-2.ensures.items ∙ ap (λ xs. xs ++ c.lay_out.new.device ∷ []) (c.reserve-2.ensures.items ∙ ap (λ (x : Inside g.row.D.Denot). x.devices.items) c.self-inside.view_is) in
    let count = ap length items ∙ length_push devices c.lay_out.new.device in
    let last : c.len.result - 1 ≡ length before.members = omega (arith, c.len.ensures, c.push_reserved-2.new.self.ok.0) in
    subst (λ (v : MirrorView). LaysOutLast (c.len.result - 1) (of c.args.device) c.args.number v new) c.self.view_is
    (laid_last g.D.Device c.args.device c.lay_out.new.device before c.note_joined.new.self c.args.number (c.len.result - 1) laid devices c.push_reserved-2.new.self.items
    (told_short c.sectors.result (g.D.Device.content c.args.device) c.sectors.ensures.size c.sectors.ensures.limit) spare
    (ok_gives c.lay_out.result _ c.if-is_err-3.ensures.value c.lay_out.ensures.readable)
    (ok_of c.lay_out.result _ _ c.if-is_err-3.ensures.value c.lay_out.ensures.writes)
    c.lay_out.ensures.outside
    (ok_gives c.lay_out.result _ c.if-is_err-3.ensures.value c.lay_out.ensures.laid_out)
    (ok_gives c.lay_out.result _ c.if-is_err-3.ensures.value c.lay_out.ensures.crashes)
    array last items)
