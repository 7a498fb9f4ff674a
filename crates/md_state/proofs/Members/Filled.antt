-- Which roles are filled once a member comes into sync.
use Rattle.std.proofs.Common.{◌≡◌, ◌∙◌, ℕ, zero, suc, Bool, true, false, not, ◌||◌, ◌==◌, List, [], ◌∷◌, set, refl, sym, ap, Some}
use Rattle.std.specs.List.{list_any, range_with_len, slice_get}
use Rattle.std.proofs.lemmas.Option.{same_Some, none-some}
use Rattle.md_assembly.specs.declared.state.MemberState.{MemberState}
use Rattle.md_assembly.specs.declared.state.MemberState.TheVariants.{InSync, Recovering, Stale, Spare, Faulty}
use Rattle.md_assembly.specs.States.{is_in_sync, is_in_sync_as}
use Rattle.md_kept_members.specs.View.{MemberView}
use Rattle.md_state.specs.Steps.Enrol.{is_full_with}
use Rattle.md_state.specs.Members.{IsMember, is_filled}
use Rattle.md_state.specs.View.{ArrayView}

out_as : (s : MemberState) (role : ℕ) → is_in_sync s ≡ false → is_in_sync_as role s ≡ false
out_as (InSync own) role h = absurd cc
out_as (Recovering own) role h = refl
out_as (Stale own) role h = refl
out_as Spare role h = refl
out_as Faulty role h = refl

or_swap : (a b c : Bool) → (a || (b || c)) ≡ (b || (a || c))
or_swap true true c = refl
or_swap true false c = refl
or_swap false b c = refl

-- an element that fails the test is replaced
any_put : {X : Type 0} (p : X → Bool) (xs : List X) (k : ℕ) (x y : X) → slice_get xs k ≡ Some x → p x ≡ false → list_any p (set xs k y) ≡ (p y || list_any p xs)
any_put p [] k x y e f = absurd (none-some x e)
any_put p (z ∷ xs) zero x y e f = ap (λ b. p y || (b || list_any p xs)) (sym (ap p (same_Some z x e) ∙ f))
any_put p (z ∷ xs) (suc k) x y e f = ap (λ b. p z || b) (any_put p xs k x y e f) ∙ or_swap (p z) (p y) (list_any p xs)

pub filled_with : (a : ArrayView) (k : ℕ) (m n : MemberView) (role wanted : ℕ) → IsMember a k m → is_in_sync m.state ≡ false → n.state ≡ InSync role
    → is_filled (record a { members = set a.members k n }) wanted ≡ (role == wanted || is_filled a wanted)
filled_with a k m n role wanted at out state =
    any_put (λ (x : MemberView). is_in_sync_as wanted x.state) a.members k m n at (out_as m.state wanted out)
    ∙ ap (λ s. is_in_sync_as wanted s || is_filled a wanted) state

pub full_with : (a : ArrayView) (k : ℕ) (m n : MemberView) (role : ℕ) → IsMember a k m → is_in_sync m.state ≡ false → n.state ≡ InSync role
    → not (list_any (λ r. not (role == r || is_filled a r)) (range_with_len 0 a.shared.raid_disks)) ≡ is_full_with a k n
full_with a k m n role at out state = λ i. not (list_any (λ r. not (sym (filled_with a k m n role r at out state) i)) (range_with_len 0 a.shared.raid_disks))
