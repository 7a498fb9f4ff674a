-- Images in memory: names, each with the device that stands under it.
use Rattle.std.specs.Prelude.{ℕ, Bool, List, Option, false, option_and_then, option_map, unwrap_or, refl}
use Rattle.std.specs.List.{find}
use Rattle.std.specs.Option.{is_some}
use Rattle.std.specs.Str.{bytes_eq}
use Rattle.std.specs.Coded.{Coded, code_by, coded×, coded_ℕ, coded_bool, coded_list, coded_option}

-- a place for a device, which is none while it is taken out, whether the device may be changed, and whether it was ever had
-- so that it may have been
pub record Named (D : Type 0) : Type 0 where
  pub name : List ℕ
  pub device : Option D
  pub changeable : Bool
  pub asked : Bool

-- An image in memory is stored as the tuple of its fields.
abbrev pub named_code : {D : Type 0} → Coded D → Coded (Named D)
named_code {D} code =
    code_by (List ℕ × (Option D × (Bool × Bool))) (coded× (coded_list coded_ℕ) (coded× (coded_option code) (coded× coded_bool coded_bool)))
    (λ p. (p.name, (p.device, (p.changeable, p.asked)))) (λ p. record { name = p.0; device = p.1.0; changeable = p.1.1.0; asked = p.1.1.1 }) (λ _. refl)

module _ {D : Type 0} where
  -- whether it is the place of this name
  abbrev pub is_named : List ℕ → Named D → Bool
  is_named name place = bytes_eq place.name name

  -- the first place with a name, which is the one that counts
  abbrev pub place_of : List (Named D) → List ℕ → Option (Named D)
  place_of places name = find (is_named name) places

  -- whether a place has the name
  abbrev pub holds_in : List (Named D) → List ℕ → Bool
  holds_in places name = is_some (place_of places name)

  -- whether the device under a name may be changed
  abbrev pub changeable_in : List (Named D) → List ℕ → Bool
  changeable_in places name = unwrap_or (option_map (λ p. p.changeable) (place_of places name)) false

  -- whether the image under a name was ever had so that it may have been changed
  abbrev pub asked_in : List (Named D) → List ℕ → Bool
  asked_in places name = unwrap_or (option_map (λ p. p.asked) (place_of places name)) false

  -- the device under a name
  abbrev pub device_in : List (Named D) → List ℕ → Option D
  device_in places name = option_and_then (λ p. p.device) (place_of places name)
