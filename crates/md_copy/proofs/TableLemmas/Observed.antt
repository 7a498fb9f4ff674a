-- What the observers of a mirror say of one of its members.
use Rattle.std.proofs.Common.{◌≡◌, ◌∙◌, Option, Some, ap, sym}
use Rattle.std.specs.Option.{option_map}
use Rattle.std.proofs.lemmas.Option.{same_Some}
use Rattle.md_kept_members.specs.View.{MemberView}

pub field_of : {A : Type 0} (f : MemberView → A) (o : Option MemberView) (m : MemberView) (x : A) → o ≡ Some m → option_map f o ≡ Some x → f m ≡ x
field_of f o m x at is = same_Some (f m) x (sym (ap (option_map f) at) ∙ is)
