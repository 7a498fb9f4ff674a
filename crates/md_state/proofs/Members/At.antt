-- Members of an array that are read by their indices.
use Rattle.std.proofs.Common.{◌≡◌, ◌∙◌, ℕ, ◌<◌, length, get_or, refl, ap, slice_get, Some, option_map, sym}
use Rattle.std.proofs.lemmas.Option.{slice_get_read, same_Some}
use Rattle.md_kept_members.specs.View.{MemberView}
use Rattle.md_state.specs.View.{ArrayView}
use Rattle.md_state.specs.Members.{IsMember}
use Rattle.md_assembly.proofs.Indices.{got_same}

-- what was read of b is that member of the array
pub member_read : (a b : ArrayView) (k : ℕ) (x : MemberView) → b ≡ a → k < length a.members → x ≡ get_or b.members k x → IsMember a k x
member_read a b k x is within read = slice_get_read a.members (length a.members) k x refl within (read ∙ ap (λ (y : ArrayView). get_or y.members k x) is)

pub read_member : (a b : ArrayView) (k : ℕ) (m x : MemberView) → b ≡ a → k < length a.members → IsMember a k m → x ≡ get_or b.members k x → x ≡ m
read_member a b k m x is within at read = got_same a.members k x m (member_read a b k x is within read) at

-- what the observers tell of a member
pub told : {X : Type 0} (f : MemberView → X) (a : ArrayView) (k : ℕ) (m : MemberView) (x : X) → option_map f (slice_get a.members k) ≡ Some x → IsMember a k m → f m ≡ x
told f a k m x e at = same_Some (f m) x (sym (ap (option_map f) at) ∙ e)
