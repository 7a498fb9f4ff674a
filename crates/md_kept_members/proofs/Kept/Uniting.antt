-- Marks that are united, chunk by chunk and member by member.
use Rattle.std.proofs.Common.{◌≡◌, ◌∙◌, ◌↔◌, ◌||◌, ◌&&◌, ℕ, ◌+◌, Bool, true, false, nat_lt, List, Some, sym, subst, arith, inl, inr}
use Rattle.std.specs.List.{slice_get}
use Rattle.std.proofs.lemmas.Bool.{and_from, and_parts, lt-ltb, ltb-true, or_cases, or_left, or_right}
use Rattle.md_assembly.specs.States.{is_in_sync}
use Rattle.md_bitmap.specs.Marks.{Bitmap, IsMarked, is_set}
use Rattle.md_kept_members.specs.View.{MemberView}
use Rattle.md_kept_members.specs.Remembering.{IsMarkedIn}
use Rattle.md_kept_members.proofs.Members.Indices.{cases_more}

-- the chunk is one of the bitmap's, and its bit is set
abbrev pub marks_chunk : Bitmap → ℕ → Bool
marks_chunk m c = nat_lt c m.chunks && is_set m.bytes c

marks_from : (m : Bitmap) (c : ℕ) → IsMarked m c → marks_chunk m c ≡ true
marks_from m c h = and_from _ _ (lt-ltb c m.chunks h.0) h.1

pub marked_from : (m : Bitmap) (c : ℕ) → marks_chunk m c ≡ true → IsMarked m c
marked_from m c h = let parts = and_parts _ _ h in (ltb-true c m.chunks parts.0, parts.1)

abbrev pub IsUnion : List MemberView → ℕ → ℕ → Bool → Type 0
IsUnion members n c bit = (bit ≡ true) ↔ IsMarkedIn members n c

pub none_marked : (members : List MemberView) (c : ℕ) (bit : Bool) → bit ≡ false → IsUnion members 0 c bit
none_marked members c bit e = (λ h. absurd cc, λ m. let early = m.early in absurd (omega arith))

later : (members : List MemberView) (n c : ℕ) → IsMarkedIn members n c → IsMarkedIn members (n + 1) c
later members n c h = let early = h.early in record { at = h.at; member = h.member; early = omega arith; listed = h.listed; in_sync = h.in_sync; marked = h.marked }

-- one more member, which is in sync
pub marked_more : (members : List MemberView) (n c : ℕ) (m : MemberView) (old new : Bool) → slice_get members n ≡ Some m → is_in_sync m.state ≡ true → new ≡ (old || marks_chunk m.stored c) → IsUnion members n c old → IsUnion members (n + 1) c new
marked_more members n c m old new listed in_sync e union = (
  λ set. elim (or_cases _ _ (sym e ∙ set)) [
    | inl before ↦ later members n c (union.0 before)
    | inr by_this ↦ record { at = n; member = m; early = omega arith; listed = listed; in_sync = in_sync; marked = marked_from m.stored c by_this }
  ],
  λ h. elim (cases_more h.at n h.early) [
    | inl early ↦ e ∙ or_left _ _ (union.1 (record { at = h.at; member = h.member; early = early; listed = h.listed; in_sync = h.in_sync; marked = h.marked }))
    | inr here ↦
        let at_n = subst (λ (k : ℕ). slice_get members k ≡ Some h.member) here h.listed in
        let same : h.member ≡ m = cc in
        e ∙ or_right _ _ (marks_from m.stored c (subst (λ (x : MemberView). IsMarked x.stored c) same h.marked))
  ],
)

-- one more member, which is not
pub not_marked_more : (members : List MemberView) (n c : ℕ) (m : MemberView) (bit : Bool) → slice_get members n ≡ Some m → is_in_sync m.state ≡ false → IsUnion members n c bit → IsUnion members (n + 1) c bit
not_marked_more members n c m bit listed out union = (
  λ set. later members n c (union.0 set),
  λ h. elim (cases_more h.at n h.early) [
    | inl early ↦ union.1 (record { at = h.at; member = h.member; early = early; listed = h.listed; in_sync = h.in_sync; marked = h.marked })
    | inr here ↦
        let at_n = subst (λ (k : ℕ). slice_get members k ≡ Some h.member) here h.listed in
        let same : h.member ≡ m = cc in
        let is_in = subst (λ (x : MemberView). is_in_sync x.state ≡ true) same h.in_sync in
        absurd cc
  ],
)
