-- Lists of members grow, slot by slot.
use Rattle.std.proofs.Common.{◌≡◌, ◌≢◌, ◌∙◌, ◌⊎◌, ℕ, suc, zero, ◌++◌, ◌∷◌, [], true, inl, inr, List, Some, length, length-set, set, Contains, refl, ap, sym, subst, arith}
use Rattle.std.specs.List.{slice_get}
use Rattle.std.proofs.lemmas.Bool.{cases_lt}
use Rattle.std.proofs.lemmas.Option.{same_Some}
use Rattle.std.proofs.lemmas.List.Elements.{Contains-append_cases, Contains-append_left, Contains-append_right}
use Rattle.md_bitmap.specs.declared.chunks.Chunks.{Chunks}
use Rattle.md_assembly.specs.States.{is_in_sync_as}
use Rattle.md_cert.specs.declared.slots.Slot.{Slot}
use Rattle.md_kept_members.specs.Enrolling.{IsOfChunk}
use Rattle.md_kept_members.proofs.SectorSets.{placed_chunk}
use Rattle.md_kept_members.specs.View.{MemberView}
use Rattle.md_state.specs.Members.{IsMember}
use Rattle.md_state.specs.Steps.NoteBad.{NotesBad}
use Rattle.md_state.specs.View.{ArrayView}
use Rattle.md_copy.specs.PassLaws.Listed.{IsListable, IsOfFailed, IsSourceInRole, ListsAdd, ListsFailed, ListsOwn}

none_own : (chunks : Chunks) (m : MemberView) → ListsOwn chunks [] m m
none_own chunks m = record {
  state = refl;
  offset = refl;
  flags = refl;
  bad = λ sector. (λ bad. inl bad, λ either. elim either [ inl bad ↦ bad | inr of ↦ let (k, below, is) = of.there in absurd (omega (arith, below)) ]);
}

none : (a : ArrayView) → ListsFailed [] a a
none a = record { chunks = refl; marks = refl; as_many = refl; before = λ k n at. (n, at, none_own a.chunks n); after = λ k m at. (m, at, none_own a.chunks m) }

-- a failed slot of one of the two, by the member as it was
own_then : (chunks : Chunks) (first second : List Slot) (m n o : MemberView) → ListsOwn chunks first m n → ListsOwn chunks second n o → ListsOwn chunks (first ++ second) m o
own_then chunks first second m n o one two = record {
  state = two.state ∙ one.state;
  offset = two.offset ∙ one.offset;
  flags = two.flags ∙ one.flags;
  bad = λ sector. (
    λ bad. elim ((two.bad sector).0 bad) [
      | inl was ↦ elim ((one.bad sector).0 was) [ inl before ↦ inl before | inr of ↦ inr (in_first sector of) ]
      | inr of ↦ inr (in_second sector of)
    ],
    λ either. elim either [
      | inl before ↦ (two.bad sector).1 (inl ((one.bad sector).1 (inl before)))
      | inr of ↦ elim (Contains-append_cases first second of.slot of.there) [
        | inl there ↦ (two.bad sector).1 (inl ((one.bad sector).1 (inr (record { slot = of.slot; there = there; own = of.own; of_chunk = of.of_chunk }))))
        | inr there ↦ (two.bad sector).1 (inr (record {
          slot = of.slot;
          there = there;
          own = subst (λ s. is_in_sync_as of.slot.source s ≡ true) (sym one.state) of.own;
          of_chunk = subst (λ x. IsOfChunk chunks x of.slot.chunk sector) (sym one.offset) of.of_chunk;
        }))
      ]
    ],
  );
}
  where
    in_first : (sector : ℕ) → IsOfFailed chunks first m sector → IsOfFailed chunks (first ++ second) m sector
    in_first sector of = record { slot = of.slot; there = Contains-append_left first second of.slot of.there; own = of.own; of_chunk = of.of_chunk }

    in_second : (sector : ℕ) → IsOfFailed chunks second n sector → IsOfFailed chunks (first ++ second) m sector
    in_second sector of = record {
      slot = of.slot;
      there = Contains-append_right first second of.slot of.there;
      own = subst (λ s. is_in_sync_as of.slot.source s ≡ true) one.state of.own;
      of_chunk = subst (λ x. IsOfChunk chunks x of.slot.chunk sector) one.offset of.of_chunk;
    }

more : (first second : List Slot) (a b c : ArrayView) → ListsFailed first a b → ListsFailed second b c → ListsFailed (first ++ second) a c
more first second a b c one two = record {
  chunks = two.chunks ∙ one.chunks;
  marks = two.marks ∙ one.marks;
  as_many = two.as_many ∙ one.as_many;
  before = λ k o at.
      let (n, mid, later) = two.before k o at in
      let (m, was, earlier) = one.before k n mid in
      (m, was, own_then a.chunks first second m n o earlier (subst (λ x. ListsOwn x second n o) one.chunks later));
  after = λ k m at.
      let (n, mid, earlier) = one.after k m at in
      let (o, now, later) = two.after k n mid in
      (o, now, own_then a.chunks first second m n o earlier (subst (λ x. ListsOwn x second n o) one.chunks later));
}

-- ---- one slot
set_here : {X : Type 0} (xs : List X) (k : ℕ) (x y : X) → slice_get xs k ≡ Some x → slice_get (set xs k y) k ≡ Some y
set_here [] k x y at = cc
set_here (z ∷ xs) zero x y at = refl
set_here (z ∷ xs) (suc k) x y at = set_here xs k x y at

set_there : {X : Type 0} (xs : List X) (k j : ℕ) (y : X) → j ≢ k → slice_get (set xs k y) j ≡ slice_get xs j
set_there [] k j y other = refl
set_there (z ∷ xs) zero zero y other = absurd (other refl)
set_there (z ∷ xs) zero (suc j) y other = refl
set_there (z ∷ xs) (suc k) zero y other = refl
set_there (z ∷ xs) (suc k) (suc j) y other = set_there xs k j y (λ e. other (ap suc e))

here_or_not : (j k : ℕ) → (j ≡ k) ⊎ (j ≢ k)
here_or_not j k =
    elim (cases_lt j k) [
      | inl below ↦ inr (λ e. absurd (omega arith))
      | inr up ↦ elim (cases_lt k j) [ inl above ↦ inr (λ e. absurd (omega arith)) | inr under ↦ inl (omega arith) ]
    ]

module _ (k : ℕ) (slot : Slot) (a b : ArrayView) (notes : NotesBad k slot.chunk a b) (source : IsSourceInRole a k slot.source) (listable : IsListable a k slot.chunk) where
  abbrev m : MemberView
  m = notes.may.member

  abbrev n : MemberView
  n = record m { bad = notes.list }

  same : source.member ≡ m
  same = same_Some source.member m (sym source.at ∙ notes.may.at)

  -- the member itself
  own_one : ListsOwn a.chunks (slot ∷ []) m n
  own_one = record {
    state = refl;
    offset = refl;
    flags = refl;
    bad = λ sector. (
      λ bad. elim ((notes.may.list_is.bad sector).0 bad) [
        | inl was ↦ inl was
        | inr of ↦ inr (record { slot = slot; there = (0, omega arith, refl); own = subst (λ (x : MemberView). is_in_sync_as slot.source x.state ≡ true) same source.in_sync; of_chunk = (placed_chunk a.chunks slot.chunk m.superblock.data_offset sector).0 of.0 })
      ],
      λ either. elim either [
        | inl was ↦ (notes.may.list_is.bad sector).1 (inl was)
        | inr of ↦
            let chunk : IsOfChunk a.chunks m.superblock.data_offset slot.chunk sector = subst (λ (x : Slot). IsOfChunk a.chunks m.superblock.data_offset x.chunk sector) (only of.slot of.there) of.of_chunk in
            (notes.may.list_is.bad sector).1 (inr ((placed_chunk a.chunks slot.chunk m.superblock.data_offset sector).1 chunk, listable m notes.may.at sector chunk))
      ],
    );
  }
    where
      only : (s : Slot) → Contains (slot ∷ []) s → s ≡ slot
      only s (zero, below, is) = sym is
      only s (suc i, below, is) = absurd (omega (arith, below))

  -- another one
  own_other : (j : ℕ) (x : MemberView) → j ≢ k → IsMember a j x → ListsOwn a.chunks (slot ∷ []) x x
  own_other j x other at = record {
    state = refl;
    offset = refl;
    flags = refl;
    bad = λ sector. (λ bad. inl bad, λ either. elim either [ inl bad ↦ bad | inr of ↦ absurd (not_it of.slot of.there of.own) ]);
  }
    where
      not_it : (s : Slot) → Contains (slot ∷ []) s → is_in_sync_as s.source x.state ≡ true → ⊥
      not_it s (zero, below, is) own = other (source.alone j x at (subst (λ (y : Slot). is_in_sync_as y.source x.state ≡ true) (sym is) own))
      not_it s (suc i, below, is) own = absurd (omega (arith, below))

  members_are : b.members ≡ set a.members k n
  members_are = ap (λ (x : ArrayView). x.members) notes.array

  pub one : ListsFailed (slot ∷ []) a b
  one = record {
    chunks = ap (λ (x : ArrayView). x.chunks) notes.array;
    marks = ap (λ (x : ArrayView). x.marks) notes.array;
    as_many = ap length members_are ∙ length-set a.members k n;
    before = λ j o at.
        elim (here_or_not j k) [
          | inl here ↦
              let is : n ≡ o = same_Some n o (sym (ap (slice_get b.members) here ∙ ap (λ xs. slice_get xs k) members_are ∙ set_here a.members k m n notes.may.at) ∙ at) in
              (m, ap (slice_get a.members) here ∙ notes.may.at, subst (ListsOwn a.chunks (slot ∷ []) m) is own_one)
          | inr other ↦
              let was : IsMember a j o = sym (ap (λ xs. slice_get xs j) members_are ∙ set_there a.members k j n other) ∙ at in
              (o, was, own_other j o other was)
        ];
    after = λ j x at.
        elim (here_or_not j k) [
          | inl here ↦
              let is : m ≡ x = same_Some m x (sym (ap (slice_get a.members) here ∙ notes.may.at) ∙ at) in
              (n, ap (slice_get b.members) here ∙ ap (λ xs. slice_get xs k) members_are ∙ set_here a.members k m n notes.may.at, subst (λ y. ListsOwn a.chunks (slot ∷ []) y n) is own_one)
          | inr other ↦ (x, ap (λ xs. slice_get xs j) members_are ∙ set_there a.members k j n other ∙ at, own_other j x other at)
        ];
  }

pub lists_add : ListsAdd
lists_add = record { none = none; more = more; one = one }
