-- The lowest role in which a member may give a sector, found member by member.
use Rattle.std.proofs.Common.{◌≡◌, ℕ, ◌+◌, ◌<◌, ◌≤◌, true, false, cond, nat_le, Option, Some, None, MatchOption, sym, ap, subst, arith, leb-true, eqb-true, true≢false, ◌∙◌, inl, inr}
use Rattle.std.specs.Prelude.{slice_get, length, eqb, not}
use Rattle.std.specs.Option.{option_eq}
use Rattle.std.proofs.lemmas.Bool.{cases_lt}
use Rattle.std.proofs.lemmas.Option.{same_Some, slice_get_within}
use Rattle.md_assembly.specs.declared.state.MemberState.{MemberState}
use Rattle.md_assembly.specs.declared.state.MemberState.TheVariants.{Faulty, InSync, Recovering, Spare, Stale}
use Rattle.md_assembly.specs.States.{is_in_sync_as}
use Rattle.md_assembly.proofs.Indices.{got_within}
use Rattle.md_model.proofs.Cases.{by_test, is_above}
use Rattle.md_kept_members.specs.View.{MemberView}
use Rattle.md_state.specs.Steps.CopyData.{IsSource}
use Rattle.md_state.specs.View.{ArrayView}
use Rattle.md_state.specs.Members.{IsMember}
use Rattle.md_resync.specs.Sources.{BestBelow, IsBest, IsUnlistedSource, NoneFree, lower_of}

-- what is told of member k
abbrev pub Told : ℕ → ArrayView → ℕ → Option ℕ → Type 0
Told sector a k role = (m : MemberView) → IsMember a k m → MatchOption role ((r : ℕ) → IsUnlistedSource r sector m → ⊥) (λ r. IsUnlistedSource r sector m)

-- a member is in sync in one role
one_role : (a b : ℕ) (state : MemberState) → is_in_sync_as a state ≡ true → is_in_sync_as b state ≡ true → a ≡ b
one_role a b (InSync r) e f = sym (eqb-true r a e) ∙ eqb-true r b f
one_role a b (Recovering r) e f = absurd (true≢false (sym e))
one_role a b (Stale r) e f = absurd (true≢false (sym e))
one_role a b Spare e f = absurd (true≢false (sym e))
one_role a b Faulty e f = absurd (true≢false (sym e))

module _ (sector : ℕ) (a : ArrayView) (k : ℕ) (m : MemberView) (at : IsMember a k m) where
  -- a member before the next one is a member before this, or this
  either : (P : Type 0) (j : ℕ) → j < k + 1 → (j < k → P) → (j ≡ k → P) → P
  either P j low before here = elim (cases_lt j k) [ inl less ↦ before less | inr more ↦ here (omega arith) ]

  same_member : (j : ℕ) (n : MemberView) → j ≡ k → IsMember a j n → n ≡ m
  same_member j n here is = same_Some n m (sym is ∙ ap (slice_get a.members) here ∙ at)

  -- it is free in no role but this
  free_as : (role : ℕ) → IsUnlistedSource role sector m → (j other : ℕ) (n : MemberView) → j ≡ k → IsMember a j n → IsUnlistedSource other sector n → other ≡ role
  free_as role free j other n here is other_free =
      one_role other role m.state (subst (λ (x : MemberView). is_in_sync_as other x.state ≡ true) (same_member j n here is) other_free.in_sync) free.in_sync

  with_last : (role : ℕ) → IsUnlistedSource role sector m → ((j other : ℕ) (n : MemberView) → j < k → IsMember a j n → IsUnlistedSource other sector n → role ≤ other) → IsBest (k + 1) sector role k a
  with_last role free least = record {
    before = omega arith;
    member = m;
    at = at;
    free = free;
    lowest = λ j other n low is other_free. either (role ≤ other) j low
        (λ before. least j other n before is other_free)
        (λ here. let same = free_as role free j other n here is other_free in omega arith);
  }

  still_best : (best : ℕ × ℕ) → IsBest k sector best.0 best.1 a → ((other : ℕ) → IsUnlistedSource other sector m → best.0 ≤ other) → IsBest (k + 1) sector best.0 best.1 a
  still_best best is least = record {
    before = let before = is.before in omega arith;
    member = is.member;
    at = is.at;
    free = is.free;
    lowest = λ j other n low there other_free. either (best.0 ≤ other) j low
        (λ before. is.lowest j other n before there other_free)
        (λ here. least other (subst (IsUnlistedSource other sector) (same_member j n here there) other_free));
  }

  pub best_more : (best : Option (ℕ × ℕ)) (role : Option ℕ) → BestBelow k sector a best → Told sector a k role → BestBelow (k + 1) sector a (lower_of best role k)
  best_more None None none told = λ j other n low is free. either ⊥ j low (λ before. none j other n before is free) (λ here. told m at other (subst (IsUnlistedSource other sector) (same_member j n here is) free))
  best_more None (Some role) none told = with_last role (told m at) (λ j other n before is free. absurd (none j other n before is free))
  best_more (Some best) None is told = still_best best is (λ other free. absurd (told m at other free))
  best_more (Some best) (Some role) is told = by_test (nat_le best.0 role)
      (λ less. subst (BestBelow (k + 1) sector a) (sym (ap (λ b. cond b (Some best) (Some (role, k))) less))
      (still_best best is (λ other free. let same = one_role other role m.state free.in_sync (told m at).in_sync in let low = leb-true best.0 role less in omega arith)))
      (λ more. subst (BestBelow (k + 1) sector a) (sym (ap (λ b. cond b (Some best) (Some (role, k))) more))
      (with_last role (told m at) (λ j other n before there free. let high = is_above best.0 role more in let least = is.lowest j other n before there free in omega arith)))

-- ---- in the end
pub best_is_source : (sector : ℕ) (a : ArrayView) (role from : ℕ) → IsBest (length a.members) sector role from a → IsSource from sector a
best_is_source sector a role from best = record {
  member = best.member;
  at = best.at;
  role = role;
  in_sync = best.free.in_sync;
  unlisted = best.free.unlisted;
  lowest = λ j other m at in_sync unlisted. best.lowest j other m (slice_get_within a.members j m at) at (record { in_sync = in_sync; unlisted = unlisted });
}

pub none_is_free : (sector : ℕ) (a : ArrayView) → BestBelow (length a.members) sector a None → NoneFree sector a
none_is_free sector a none k role m at free = none k role m (slice_get_within a.members k m at) at free

pub member_at : (a : ArrayView) (k : ℕ) → k < length a.members → (m : MemberView) × IsMember a k m
member_at a k low = got_within a.members k low

pub source_at_end : (sector : ℕ) (a : ArrayView) (k : ℕ) (best : Option (ℕ × ℕ)) (role from : ℕ) → k ≡ length a.members → best ≡ Some (role, from) → BestBelow k sector a best → IsSource from sector a
source_at_end sector a k best role from end is below =
    best_is_source sector a role from (subst (BestBelow (length a.members) sector a) is (subst (λ (n : ℕ). BestBelow n sector a best) end below))

pub none_at_end : (sector : ℕ) (a : ArrayView) (k : ℕ) (best : Option (ℕ × ℕ)) → k ≡ length a.members → best ≡ None → BestBelow k sector a best → NoneFree sector a
none_at_end sector a k best end is below =
    none_is_free sector a (subst (BestBelow (length a.members) sector a) is (subst (λ (n : ℕ). BestBelow n sector a best) end below))

-- an answer that does not differ from this one
pub same_some : (r : Option ℕ) (k : ℕ) → false ≡ not (option_eq eqb r (Some k)) → r ≡ Some k
same_some None k e = absurd cc
same_some (Some j) k e = by_test (eqb j k) (λ same. ap Some (eqb-true j k same)) (λ other. absurd (true≢false (sym (e ∙ ap not other))))
