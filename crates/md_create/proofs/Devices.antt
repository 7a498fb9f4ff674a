-- The devices for the roles below a number, and one more.
use Rattle.std.proofs.Common.{◌≡◌, ℕ, ◌+◌, List, [], ◌∷◌, ◌++◌, Option, Some, None, sym, ◌∙◌, ap, refl, map, append-nil, All}
use Rattle.std.specs.List.{range_with_len, filter_map, cons_option}
use Rattle.std.specs.Option.{option_map}
use Rattle.std.proofs.lemmas.List.Elements.{filter_map-append, All-push}
use Rattle.std.proofs.lemmas.List.{map_push}
use Rattle.md_create.specs.declared.params.CreateParams.{CreateParams}
use Rattle.md_create.specs.declared.params.NewMember.{NewMember}
use Rattle.md_create.specs.Values.{IsNewMember, device_for, device_of_member, device_in_role}
use Rattle.md_bitmap.proofs.Numbers.{range_more}

filter_map_more : {Y : Type 0} (f : ℕ → Option Y) (k : ℕ) → filter_map f (range_with_len 0 (k + 1)) ≡ filter_map f (range_with_len 0 k) ++ cons_option (f k) []
filter_map_more f k = ap (filter_map f) (range_more k) ∙ filter_map-append f (range_with_len 0 k) (k ∷ [])

-- the members of the devices for the roles below k
pub record AreMembersBelow (params : CreateParams) (sizes : List (Option ℕ)) (size k : ℕ) (members : List NewMember) : Type 0 where
  pub devices : map device_of_member members ≡ filter_map (device_in_role sizes) (range_with_len 0 k)
  pub each : All (IsNewMember params sizes size) members

module _ (params : CreateParams) (sizes : List (Option ℕ)) (size k : ℕ) (members : List NewMember) (before : AreMembersBelow params sizes size k members) where
  pub one_missing : ((n : ℕ) → device_for sizes k ≡ Some n → ⊥) → AreMembersBelow params sizes size (k + 1) members
  one_missing missing = record {
    devices = before.devices ∙ sym (append-nil _) ∙ ap (λ o. filter_map (device_in_role sizes) (range_with_len 0 k) ++ cons_option o []) (sym (gone (device_for sizes k) missing)) ∙ sym (filter_map_more (device_in_role sizes) k);
    each = before.each;
  } where
    gone : (o : Option ℕ) → ((n : ℕ) → o ≡ Some n → ⊥) → option_map {U = ℕ × ℕ} (λ sectors. (k, sectors)) o ≡ None
    gone None none = refl
    gone (Some n) none = absurd (none n refl)

  pub one_made : (sectors : ℕ) (m : NewMember) → device_for sizes k ≡ Some sectors → device_of_member m ≡ (k, sectors) → IsNewMember params sizes size m → AreMembersBelow params sizes size (k + 1) (members ++ m ∷ [])
  one_made sectors m here device values = record {
    devices = map_push device_of_member members m ∙ ap (λ ds. ds ++ device_of_member m ∷ []) before.devices
        ∙ ap (λ d. filter_map (device_in_role sizes) (range_with_len 0 k) ++ d ∷ []) device
        ∙ ap (λ o. filter_map (device_in_role sizes) (range_with_len 0 k) ++ cons_option o []) (sym (found here)) ∙ sym (filter_map_more (device_in_role sizes) k);
    each = All-push (IsNewMember params sizes size) members m before.each values;
  } where
    found : device_for sizes k ≡ Some sectors → device_in_role sizes k ≡ Some (k, sectors)
    found here = rw here refl
