-- The marks of the world are those that its members in sync store.
use Rattle.std.proofs.Common.{◌≡◌, ℕ, ◌⊎◌, ◌↔◌, inl, inr, true, false, true≢false, ◌&&◌, nat_lt, List, sym, ap, ◌∙◌, arith, ltb-true, lt-ltb}
use Rattle.std.proofs.lemmas.Bool.{and_from, and_parts}
use Rattle.md_bitmap.specs.Marks.{is_set}
use Rattle.md_assembly.specs.States.{is_in_sync}
use Rattle.md_model.specs.Devices.{Stored, Super, is_accepted}
use Rattle.md_model.specs.Openings.{HasMarks}
use Rattle.md_model.specs.Worlds as worlds
use Rattle.md_kept_members.specs.View.{MemberView}
use Rattle.md_state.specs.View.{Disk, ArrayView, MirrorView}
use Rattle.md_state.specs.Members.{IsMember, IsAlone}
use Rattle.md_array.specs.Open.Opened.{IsOpenedFrom}
use Rattle.md_array.specs.Worlds.{AreHonest, super_of, world_of, none_in_flight}
use Rattle.md_array.proofs.Worlds.Device.{bits_new, is_accepted_new}
use Rattle.md_array.proofs.Worlds.Shown.{IsShown, at_is, in_sync_is, in_sync_there, shown, stored_at}
use Rattle.md_array.proofs.General.Tests.{and_same, true_unless_false}

module _ (before : List Disk) (m : MirrorView) (honest : AreHonest before) (o : IsOpenedFrom before m) where
  abbrev a : ArrayView
  a = m.array

  abbrev w : worlds.World
  w = world_of m none_in_flight

  abbrev first : Super
  first = super_of a.shared

  abbrev seen : (k : ℕ) (mv : MemberView) → IsMember a k mv → IsShown before m o.array.infos k mv
  seen = shown before m honest o

  accepted : (k : ℕ) → worlds.IsInSync w k → is_accepted (w.stored k) ≡ true
  accepted k i =
      let x = in_sync_is before m honest o k i in
      let s = seen k x.0 x.1 in
      ap is_accepted (stored_at before m honest o k x.0 x.1) ∙ is_accepted_new a x.0 s.info s.old s.new s.opened x.2

  bits_of : (k : ℕ) (mv : MemberView) → IsMember a k mv → is_in_sync mv.state ≡ true → (c : ℕ) → (w.stored k).bits c ≡ (nat_lt c a.marks.chunks && is_set mv.stored.bytes c)
  bits_of k mv is in_sync c =
      let s = seen k mv is in
      ap (λ (d : Stored). d.bits c) (stored_at before m honest o k mv is)
      ∙ and_same (nat_lt c a.marks.chunks) _ _ (λ low. bits_new a mv s.info s.old s.new s.opened in_sync c (ltb-true c a.marks.chunks low))

  known : (k c : ℕ) → worlds.IsInSync w k → w.known k c ≡ (w.stored k).bits c
  known k c i =
      let x = in_sync_is before m honest o k i in
      at_is a k false (λ mv. nat_lt c a.marks.chunks && is_set mv.stored.bytes c) x.0 x.1 ∙ sym (bits_of k x.0 x.1 x.2 c)

  -- a mark lies below the number of chunks
  marked_low : (c : ℕ) → is_set a.marks.bytes c ≡ true → nat_lt c a.marks.chunks ≡ true
  marked_low c e =
      let x = (o.array.remembered.marks c).0 e in
      let count = o.array.remembered.mark_count x.0 x.1 x.2.member in
      let low = x.3.0 in
      lt-ltb c a.marks.chunks (omega arith)

  union : (c : ℕ) → (w.marks c ≡ true) ↔ ((k : ℕ) × (worlds.IsInSync w k) × ((w.stored k).bits c ≡ true))
  union c = (
    (λ e. let p = and_parts (nat_lt c a.marks.chunks) (is_set a.marks.bytes c) e in
        let x = (o.array.remembered.marks c).0 p.1 in (
          x.0,
          in_sync_there before m honest o x.0 x.1 x.2.member x.2.in_sync,
          bits_of x.0 x.1 x.2.member x.2.in_sync c ∙ and_from (nat_lt c a.marks.chunks) (is_set x.1.stored.bytes c) p.0 x.3.1,
        )),
    (λ x. let y = in_sync_is before m honest o x.0 x.1 in
        let p = and_parts (nat_lt c a.marks.chunks) (is_set y.0.stored.bytes c) (sym (bits_of x.0 y.0 y.1 y.2 c) ∙ x.2) in
        let count = o.array.remembered.mark_count x.0 y.0 y.1 in
        let low = ltb-true c a.marks.chunks p.0 in
        and_from (nat_lt c a.marks.chunks) (is_set a.marks.bytes c) p.0
        ((o.array.remembered.marks c).1 (x.0, y.0, record { member = y.1; in_sync = y.2 }, (omega arith, p.1)))),
  )

  alone_there : IsAlone a → (j k : ℕ) → worlds.IsInSync w j → worlds.IsInSync w k → j ≡ k
  alone_there alone j k x y =
      let p = in_sync_is before m honest o j x in
      let q = in_sync_is before m honest o k y in
      alone j k p.0 q.0 (record { member = p.1; in_sync = p.2 }) (record { member = q.1; in_sync = q.2 })

  alone_here : ((j k : ℕ) → worlds.IsInSync w j → worlds.IsInSync w k → j ≡ k) → IsAlone a
  alone_here alone j k p q x y =
      alone j k (in_sync_there before m honest o j p x.member x.in_sync) (in_sync_there before m honest o k q y.member y.in_sync)

  none_marked : ((c : ℕ) → is_set a.marks.bytes c ≡ false) → (c : ℕ) → w.marks c ≡ false
  none_marked none c = true_unless_false _ (λ e. true≢false (sym (and_parts (nat_lt c a.marks.chunks) (is_set a.marks.bytes c) e).1 ∙ none c))

  none_set : ((c : ℕ) → w.marks c ≡ false) → (c : ℕ) → is_set a.marks.bytes c ≡ false
  none_set none c = true_unless_false _ (λ e. true≢false (sym (and_from (nat_lt c a.marks.chunks) (is_set a.marks.bytes c) (marked_low c e) e) ∙ none c))

  resynced : (w.resynced ≡ true) ↔ (((c : ℕ) → w.marks c ≡ false) ⊎ ((j k : ℕ) → worlds.IsInSync w j → worlds.IsInSync w k → j ≡ k))
  resynced = (
    (λ e. elim (o.array.remembered.resynced.0 e) [ inl none ↦ inl (none_marked none) | inr alone ↦ inr (alone_there alone) ]),
    (λ x. o.array.remembered.resynced.1 (elim x [ inl none ↦ inl (none_set none) | inr alone ↦ inr (alone_here alone) ])),
  )

  pub has_marks : HasMarks w
  has_marks = record { accepted = accepted; known = known; union = union; resynced = resynced }
