-- Pairs of members, one after another.
use Rattle.std.proofs.Common.{◌≡◌, ℕ, ◌+◌, List, [], ◌∷◌, ◌++◌, Option, Some, None, option_map, ap, ◌∙◌, append-nil}
use Rattle.std.specs.List.{flat_map, range_with_len}
use Rattle.std.proofs.lemmas.List.Concat.{flat_map-append}
use Rattle.std.proofs.lemmas.Option.{same_Some}
use Rattle.md_assembly.specs.declared.state.MemberState.{MemberState}
use Rattle.md_assembly.specs.States.{is_in_sync}
use Rattle.md_bitmap.proofs.Numbers.{range_more}
use Rattle.md_kept_members.specs.View.{MemberView}
use Rattle.md_check.specs.Pairs.{is_one_in_sync}

-- one number more
pub flat_map_next : {X : Type 0} (f : ℕ → List X) (k : ℕ) → flat_map f (range_with_len 0 (k + 1)) ≡ flat_map f (range_with_len 0 k) ++ f k
flat_map_next f k =
    ap (flat_map f) (range_more k) ∙ flat_map-append f (range_with_len 0 k) (k ∷ [])
    ∙ ap (λ (xs : List _). flat_map f (range_with_len 0 k) ++ xs) (append-nil (f k))

-- the state that was read
pub in_sync_is : (o : Option MemberView) (state : MemberState) → option_map (λ (m : MemberView). m.state) o ≡ Some state → is_one_in_sync o ≡ is_in_sync state
in_sync_is (Some m) state e = ap is_in_sync (same_Some m.state state e)
in_sync_is None state e = absurd cc
