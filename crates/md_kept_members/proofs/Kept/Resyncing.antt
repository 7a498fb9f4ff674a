-- Whether members in sync hold the same, by the next marked chunk and by how many they are.
use Rattle.std.proofs.Common.{◌≡◌, ◌↔◌, ◌⊎◌, ℕ, ◌<◌, ◌≤◌, Bool, true, false, nat_le, List, Option, Some, None, IfNone, IfSome, is_some, refl, arith, inl, inr}
use Rattle.std.specs.List.{count_by}
use Rattle.std.proofs.lemmas.Bool.{false_from_ne_true}
use Rattle.md_assembly.specs.States.{is_in_sync}
use Rattle.md_bitmap.specs.Marks.{Bitmap, IsMarked, IsNextMarked, is_set}
use Rattle.md_kept_members.specs.View.{MemberView}
use Rattle.md_kept_members.specs.Remembering.{IsAloneIn}
use Rattle.md_kept_members.proofs.Members.Counting.{one_iff}

abbrev pub NoneSet : Bitmap → Type 0
NoneSet marks = (c : ℕ) → is_set marks.bytes c ≡ false

-- no chunk is marked
pub none_marked : (members : List MemberView) (marks : Bitmap) (next : Option ℕ) → ((c : ℕ) → is_set marks.bytes c ≡ true → c < marks.chunks) → IfNone next ((c : ℕ) → 0 ≤ c → IsMarked marks c → ⊥) → is_some next ≡ false → (true ≡ true) ↔ (NoneSet marks ⊎ IsAloneIn members)
none_marked members marks None within none e = (λ _. inl (λ c. false_from_ne_true _ (λ set. none c (omega arith) (within c set, set))), λ _. refl)
none_marked members marks (Some chunk) within none e = absurd cc

-- one is
pub some_marked : (members : List MemberView) (marks : Bitmap) (next : Option ℕ) (alone : Bool) → IfSome next (IsNextMarked marks 0) → is_some next ≡ true → alone ≡ nat_le (count_by (λ m. is_in_sync m.state) members) 1 → (alone ≡ true) ↔ (NoneSet marks ⊎ IsAloneIn members)
some_marked members marks None alone some e count = absurd cc
some_marked members marks (Some chunk) alone some e count =
    let one = one_iff (λ (m : MemberView). is_in_sync m.state) members alone count in
    let marked = some.marked.1 in (
      λ holds. inr (one.0 holds),
      λ why. elim why [ inl none ↦ let unmarked = none chunk in absurd cc | inr single ↦ one.1 single ],
    )
