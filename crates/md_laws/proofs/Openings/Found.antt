-- The states of the world's members are those of assembly.
use Rattle.std.proofs.Common.{◌≡◌, ℕ, ◌+◌, inl, true, false, true≢false, cond, ◌&&◌, nat_lt, List, Some, sym, ap, ◌∙◌, subst}
use Rattle.md_assembly.specs.declared.state.MemberState.{MemberState}
use Rattle.md_assembly.specs.States.{has_recovery_offset, is_in_sync, is_recovering, role_in, state_of, takes_role}
use Rattle.md_super.specs.declared.superblock.Superblock.{Superblock}
use Rattle.md_model.specs.States as model
use Rattle.md_model.specs.Assembly as model_assembly
use Rattle.md_model.specs.Devices.{Stored, Super}
use Rattle.md_model.specs.Openings.{HasStates, kept_offset}
use Rattle.md_model.specs.Worlds as worlds
use Rattle.md_kept_members.specs.View.{MemberView}
use Rattle.md_state.specs.View.{Disk, ArrayView, MirrorView, geometry_of}
use Rattle.md_state.specs.Members.{IsMember}
use Rattle.md_array.specs.Open.Opened.{IsOpenedFrom}
use Rattle.md_array.specs.Worlds.{AreHonest, is_listed, kind_of, lies_in, lists_of, none_in_flight, super_of, world_of}
use Rattle.md_array.proofs.Openings.OwnFields.{state_same}
use Rattle.md_array.proofs.Worlds.Bad.{bad_from_test, same_test, test_from_bad}
use Rattle.md_array.proofs.Worlds.Device.{bad_is_listed}
use Rattle.md_array.proofs.Worlds.ReadMember.{due_is, state_is}
use Rattle.md_array.proofs.Worlds.Shown.{IsShown, at_is, at_past, by_member, in_sync_there, own_is, shown, state_at, state_past, stored_at, stored_past}
use Rattle.md_array.proofs.Openings.Sound.{roles_distinct, some_in_sync}
use Rattle.md_array.proofs.Worlds.States.{active_takes_role, same_recorded, same_recovering, same_state}
use Rattle.md_laws.proofs.Openings.Present as present

module _ (before : List Disk) (m : MirrorView) (honest : AreHonest before) (o : IsOpenedFrom before m) where
  abbrev a : ArrayView
  a = m.array

  abbrev w : worlds.World
  w = world_of m none_in_flight

  abbrev first : Super
  first = super_of a.shared

  abbrev seen : (k : ℕ) (mv : MemberView) → IsMember a k mv → IsShown before m o.array.infos k mv
  seen = shown before m honest o

  state_here : (k : ℕ) (mv : MemberView) → IsMember a k mv → w.state k ≡ kind_of (state_of a.shared mv.superblock)
  state_here k mv is =
      let s = seen k mv is in
      state_at before m honest o k mv is ∙ ap kind_of (state_is a mv s.info s.old.content s.opened.member)

  by_table : (k : ℕ) (own : Super) → (w.stored k).super ≡ Some own → w.state k ≡ model_assembly.state_by (geometry_of a) first own
  by_table k own e =
      let x = own_is before m honest o k own e in
      state_here k x.0 x.1 ∙ same_state a x.0.superblock ∙ ap (model_assembly.state_by (geometry_of a) first) x.2

  some : (k : ℕ) × (worlds.IsInSync w k)
  some =
      let x = some_in_sync o.array.infos o.array.assembly a o.array.assembled o.array.sound o.array.remembered in
      let mv = present.member_of before m honest o x.0 x.1 x.2 in
      let s = seen x.0 mv.0 mv.1 in (
        x.0,
        in_sync_there before m honest o x.0 mv.0 mv.1
            (ap is_in_sync (state_is a mv.0 s.info s.old.content s.opened.member ∙ ap (state_of a.shared) (present.same_info before m honest o x.0 x.1 mv.0 x.2 mv.1) ∙ state_same x.1.bad (present.offset_of before m honest o x.1) x.1.superblock a.shared) ∙ x.3),
      )

  -- the state by the superblock that was read
  state_read : (k : ℕ) (mv : MemberView) (is : IsMember a k mv) → state_of a.shared mv.superblock ≡ state_of a.shared (seen k mv is).info.superblock
  state_read k mv is =
      let info = (seen k mv is).info in
      ap (state_of a.shared) (present.superblock_is before m honest o k mv is) ∙ state_same info.bad (present.offset_of before m honest o info) info.superblock a.shared

  -- an active member takes its role
  record IsActive (k : ℕ) : Type 0 where
    member : MemberView
    is : IsMember a k member
    takes : takes_role (role_in a.shared member.superblock.dev_number) (state_of a.shared member.superblock) ≡ true

  active : (k : ℕ) → model.is_active (w.state k) ≡ true → IsActive k
  active k e = by_member a k
      (λ mv is. record { member = mv; is = is; takes = active_takes_role a.shared mv.superblock (ap model.is_active (sym (state_here k mv is)) ∙ e) })
      (λ past. absurd (true≢false (sym e ∙ ap model.is_active (state_past before m honest o k past))))

  one_each : (j k : ℕ) → model.is_active (w.state j) ≡ true → model.is_active (w.state k) ≡ true → w.role (w.number j) ≡ w.role (w.number k) → j ≡ k
  one_each j k aj ak same =
      let x = active j aj in
      let y = active k ak in
      let s = seen j x.member x.is in
      let t = seen k y.member y.is in
      let role = role_in a.shared x.member.superblock.dev_number in
      let roles : role_in a.shared y.member.superblock.dev_number ≡ role =
      ap (role_in a.shared) (sym (present.number_here before m honest o k y.member y.is)) ∙ sym same ∙ ap (role_in a.shared) (present.number_here before m honest o j x.member x.is) in
      roles_distinct o.array.infos o.array.assembly a o.array.assembled o.array.sound o.array.remembered j k role s.info t.info s.listed t.listed
      (subst (λ (s : MemberState). takes_role role s ≡ true) (state_read j x.member x.is) x.takes)
      (subst (λ (s : MemberState). takes_role role s ≡ true) (state_read k y.member y.is)
      (subst (λ r. takes_role r (state_of a.shared y.member.superblock) ≡ true) roles y.takes))

  due : (k : ℕ) (own : Super) → (w.stored k).super ≡ Some own → w.due k ≡ (model.is_recorded (w.state k) && nat_lt own.events first.events)
  due k own e =
      let x = own_is before m honest o k own e in
      let s = seen k x.0 x.1 in
      at_is a k false (λ mv. mv.due) x.0 x.1
      ∙ due_is a x.0 s.info s.old.content s.opened.member
      ∙ ap (λ b. b && nat_lt x.0.superblock.events a.shared.events) (sym (same_recorded x.0.state) ∙ ap model.is_recorded (sym (state_at before m honest o k x.0 x.1)))
      ∙ ap (λ (v : Super). model.is_recorded (w.state k) && nat_lt v.events first.events) x.2

  -- what is listed in memory is what the devices list
  bad : (k s : ℕ) → w.bad k s ≡ (w.stored k).listed s
  bad k s = by_member a k
      (λ mv is.
      let x = seen k mv is in
      let at = mv.superblock.data_offset + s in
      at_is a k false (λ y. lists_of a y s) mv is
      ∙ ap (λ b. nat_lt s a.chunks.size && b) (same_test (lies_in mv.bad at) (is_listed mv.superblock x.new.content at)
      (bad_from_test mv.bad at, test_from_bad mv.bad at) (bad_is_listed a mv x.info x.old x.new x.opened at))
      ∙ sym (ap (λ (d : Stored). d.listed s) (stored_at before m honest o k mv is)))
      (λ past. at_past a k false (λ y. lists_of a y s) past ∙ sym (ap (λ (d : Stored). d.listed s) (stored_past before m honest o k past)))

  offset : (k : ℕ) (own : Super) → (w.stored k).super ≡ Some own → w.offset k ≡ kept_offset w (w.state k) own
  offset k own e =
      let x = own_is before m honest o k own e in
      let info = (seen k x.0 x.1).info in
      let kept = present.superblock_is before m honest o k x.0 x.1 in
      let recovers : model.is_recovering (w.state k) ≡ is_recovering (state_of a.shared info.superblock) =
      ap model.is_recovering (state_here k x.0 x.1) ∙ same_recovering (state_of a.shared x.0.superblock) ∙ ap is_recovering (state_read k x.0 x.1) in
      let events = ap (λ (v : Superblock). v.events) kept in
      at_is a k 0 (λ mv. mv.offset) x.0 x.1
      ∙ (seen k x.0 x.1).opened.member.kept.offset
      ∙ sym (λ i. cond (recovers i && nat_lt (events i) a.events_cleared) 0 info.superblock.recovery_offset)
      ∙ ap (λ (v : Super). kept_offset w (w.state k) v) x.2

  -- its superblock is to have the same
  sure_there : (k : ℕ) (mv : MemberView) → IsMember a k mv → w.sure_offset k ≡ w.offset k
  sure_there k mv is =
      at_is a k 0 (λ y. y.superblock.recovery_offset) mv is
      ∙ ap (λ (v : Superblock). v.recovery_offset) (present.superblock_is before m honest o k mv is)
      ∙ sym (seen k mv is).opened.member.kept.offset
      ∙ sym (at_is a k 0 (λ y. y.offset) mv is)

  pub sure_same : (k : ℕ) → w.sure_offset k ≡ w.offset k
  sure_same k = by_member a k (sure_there k) (λ past. at_past a k 0 (λ y. y.superblock.recovery_offset) past ∙ sym (at_past a k 0 (λ y. y.offset) past))

  stored_offset : (k : ℕ) (own : Super) → (w.stored k).super ≡ Some own → w.stored_offset k ≡ own.offset
  stored_offset k own e =
      let x = own_is before m honest o k own e in
      at_is a k 0 (λ y. y.stored_offset) x.0 x.1 ∙ (seen k x.0 x.1).opened.member.kept.stored_offset ∙ ap (λ (v : Super). v.offset) x.2

  recovering : (k : ℕ) (own : Super) → (w.stored k).super ≡ Some own → w.recovering k ≡ own.recovering
  recovering k own e =
      let x = own_is before m honest o k own e in
      at_is a k false (λ mv. has_recovery_offset mv.superblock) x.0 x.1 ∙ ap (λ (v : Super). v.recovering) x.2

  pub has_states : HasStates (geometry_of a) first w
  has_states = record {
    by_table = by_table;
    past = state_past before m honest o;
    some = some;
    one_each = one_each;
    due = due;
    bad = bad;
    offset = offset;
    sure_offset = λ k own e. inl (sure_same k);
    stored_offset = stored_offset;
    recovering = recovering;
  }
