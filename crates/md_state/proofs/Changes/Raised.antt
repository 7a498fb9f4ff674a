-- An array whose count rose, and one of whose members became faulty.
use Rattle.std.proofs.Common.{◌≡◌, ◌∙◌, ℕ, ◌+◌, Bool, cond, not, ◌||◌, List, [], ◌∷◌, map, set, ap, refl, sym, true, false}
use Rattle.std.proofs.lemmas.List.{map-set}
use Rattle.std.proofs.lemmas.Option.{slice_get-map}
use Rattle.std.specs.List.{list_any, range_with_len}
use Rattle.std.specs.Prelude.{option_map}
use Rattle.md_super.specs.Profile.{IsProfile}
use Rattle.md_super.specs.declared.superblock.Superblock.{Superblock}
use Rattle.md_kept_members.specs.View.{MemberView}
use Rattle.md_kept_members.specs.Members.{made_due}
use Rattle.md_assembly.specs.States.{is_in_sync_as}
use Rattle.md_kept_members.specs.Membership.Numbers.{roles_at_rise, roles_without}
use Rattle.md_state.specs.Steps.Rise.{made_faulty, risen, without, failed}
use Rattle.md_state.specs.Members.{IsMember, is_degraded, is_filled}
use Rattle.md_state.specs.View.{ArrayView}
use Rattle.md_kept_members.proofs.MembershipLemmas.Profiles.{same_profile}

pub raised : (a b : ArrayView) (w : Superblock) (members : List MemberView) (full : Bool) (p : IsProfile w.feature_map w.level w.raid_disks w.super_offset)
    → b ≡ a → w ≡ record b.shared { roles = roles_at_rise b.shared b.members } → members ≡ map made_due b.members
    → record b { shared = record w { events = w.events + 1; in_profile = p }; members = members; events_cleared = cond full (w.events + 1) b.events_cleared } ≡ risen a full
raised a b w members full p is dropped due =
    ap (λ (v : Superblock). record b { shared = v; members = members; events_cleared = cond full (w.events + 1) b.events_cleared })
    (same_profile (record w { events = w.events + 1 }) p)
    ∙ ap (λ (v : Superblock). record b { shared = record v { events = v.events + 1 }; members = members; events_cleared = cond full (v.events + 1) b.events_cleared }) dropped
    ∙ ap (λ (ms : List MemberView). record (risen b full) { members = ms }) due
    ∙ ap (λ (x : ArrayView). risen x full) is

any-map : {A B : Type 0} (f : A → B) (p : B → Bool) (xs : List A) → list_any p (map f xs) ≡ list_any (λ x. p (f x)) xs
any-map f p [] = refl
any-map f p (x ∷ xs) = ap (λ b. p (f x) || b) (any-map f p xs)

filled_of : (a b : ArrayView) → b.members ≡ map made_due a.members → (role : ℕ) → is_filled b role ≡ is_filled a role
filled_of a b members role = ap (list_any (λ m. is_in_sync_as role m.state)) members ∙ any-map made_due (λ m. is_in_sync_as role m.state) a.members

pub degraded_of : (a b : ArrayView) → b.members ≡ map made_due a.members → b.shared.raid_disks ≡ a.shared.raid_disks → is_degraded b ≡ is_degraded a
degraded_of a b members disks =
    (λ i. list_any (λ role. not (filled_of a b members role i)) (range_with_len 0 b.shared.raid_disks))
    ∙ ap (λ n. list_any (λ role. not (is_filled a role)) (range_with_len 0 n)) disks

-- member k became faulty
pub faulted : (a b : ArrayView) (k : ℕ) (m x : MemberView) (w : Superblock) → b ≡ a → x ≡ m
    → w ≡ record b.shared { roles = roles_without x.superblock.dev_number b.shared.roles }
    → record b { shared = w; members = set b.members k (made_faulty x) } ≡ without a k m
faulted a b k m x w is same dropped =
    ap (λ (v : Superblock). record b { shared = v; members = set b.members k (made_faulty x) }) dropped
    ∙ ap (λ (n : MemberView). without b k n) same
    ∙ ap (λ (y : ArrayView). without y k m) is

turned : {A : Type 0} (b : Bool) (x y : A) → cond b x y ≡ cond (not b) y x
turned true x y = refl
turned false x y = refl

module _ (a : ArrayView) (k : ℕ) (m : MemberView) where
  degraded_alike : is_degraded (without (risen a false) k m) ≡ is_degraded (without a k m)
  degraded_alike = degraded_of (without a k m) (without (risen a false) k m) (sym (map-set made_due a.members k (made_faulty m))) refl

  -- the count rose, the member became faulty, and it was seen whether the array is full
  pub failed_so : (b : ArrayView) → b ≡ without (risen a false) k (made_due m)
      → record b { events_cleared = cond (is_degraded b) b.events_cleared b.shared.events } ≡ failed a k m
  failed_so b is =
      ap (λ (x : ArrayView). record x { events_cleared = cond (is_degraded x) x.events_cleared x.shared.events }) is
      ∙ ap (λ (d : Bool). record (without (risen a false) k m) { events_cleared = cond d a.events_cleared (a.shared.events + 1) }) degraded_alike
      ∙ ap (λ (n : ℕ). record (without (risen a false) k m) { events_cleared = n }) (turned (is_degraded (without a k m)) a.events_cleared (a.shared.events + 1))

  pub still_member : IsMember a k m → IsMember (risen a false) k (made_due m)
  still_member at = slice_get-map made_due a.members k ∙ ap (option_map made_due) at
