-- Look-ups among the places of images in memory, before and after a device is set.
use Rattle.std.proofs.Common.{◌≡◌, ◌≢◌, ℕ, suc, zero, ◌+◌, ◌<◌, ◌≤◌, ◌||◌, Bool, true, false, cond, not, List, [], ◌∷◌, length, map, get_or, set, Option, Some, None, Result, Ok, Err, IfOk, inl, refl, sym, ap, subst, ◌∙◌, arith, is_some, find, position, option_and_then, option_map, unwrap_or, ok_or, MatchResult, slice_get, string_bytes}
use Rattle.std.specs.List.{prefix_len, position_or_len}
use Rattle.std.specs.Str.{bytes_eq}
use Rattle.std.proofs.lemmas.List.{length-map, map-set, get_or-map}
use Rattle.std.proofs.lemmas.List.Folds.{find_at, find-set, find_past}
use Rattle.std.proofs.lemmas.List.Quantifiers.{position-Some}
use Rattle.std.proofs.lemmas.Option.{slice_get-get_or, slice_get_past}
use Rattle.std.proofs.lemmas.Grind.{common_steps}
use Rattle.std.proofs.lemmas.Slice.Eq.{bytes_eq-Decides}
use Rattle.md_images.specs.declared.memory_images.Place.{Place}
use Rattle.md_images.specs.declared.image_fault.ImageFault.{ImageFault}
use Rattle.md_images.specs.Images.{IsImageRefused}
use Rattle.md_images.specs.MemImages.{Named, is_named, asked_in, changeable_in, holds_in, device_in}
use Rattle.md_images.specs.MemPlaces.{named, named_places}

prefix_len-map : {X Y : Type 0} (p : Y → Bool) (f : X → Y) (xs : List X) → prefix_len p (map f xs) ≡ prefix_len (λ x. p (f x)) xs
prefix_len-map p f [] = refl
prefix_len-map p f (x ∷ xs) = ap (λ n. cond (p (f x)) (1 + n) 0) (prefix_len-map p f xs)

pub position-map : {X Y : Type 0} (p : Y → Bool) (f : X → Y) (xs : List X) → position p (map f xs) ≡ position (λ x. p (f x)) xs
position-map p f xs =
    let at : position_or_len p (map f xs) ≡ position_or_len (λ x. p (f x)) xs = prefix_len-map (λ y. not (p y)) f xs in
    let long : length (map f xs) ≡ length xs = length-map xs f in
    rw (at, long) refl

both_found : {X : Type 0} (o : Option X) (x y : X) (a b : Bool) → a ≡ b → is_some (cond a (Some y) o) ≡ is_some (cond b (Some x) o)
both_found o x y true true e = refl
both_found o x y false false e = refl
both_found o x y true false e = absurd cc
both_found o x y false true e = absurd cc

same_rest : {X : Type 0} (o q : Option X) (x : X) (b : Bool) → is_some o ≡ is_some q → is_some (cond b (Some x) o) ≡ is_some (cond b (Some x) q)
same_rest o q x true e = refl
same_rest o q x false e = e

both_made : {X Z : Type 0} (f : X → Z) (o : Option X) (x y : X) (a b : Bool) → a ≡ b → f y ≡ f x → option_map f (cond a (Some y) o) ≡ option_map f (cond b (Some x) o)
both_made f o x y true true e same = ap (λ z. Some z) same
both_made f o x y false false e same = refl
both_made f o x y true false e same = absurd cc
both_made f o x y false true e same = absurd cc

rest_made : {X Z : Type 0} (f : X → Z) (o q : Option X) (x : X) (b : Bool) → option_map f o ≡ option_map f q → option_map f (cond b (Some x) o) ≡ option_map f (cond b (Some x) q)
rest_made f o q x true e = refl
rest_made f o q x false e = e

module _ {X : Type 0} (p : X → Bool) where
  -- a write over an element that p can't tell from it
  is_found-set : (xs : List X) (i : ℕ) (y d : X) → p y ≡ p (get_or xs i d) → is_some (find p (set xs i y)) ≡ is_some (find p xs)
  is_found-set [] i y d e = refl
  is_found-set (x ∷ xs) zero y d e = both_found (find p xs) x y (p y) (p x) e
  is_found-set (x ∷ xs) (suc i) y d e = same_rest (find p (set xs i y)) (find p xs) x (p x) (is_found-set xs i y d e)

  -- and what f makes of it, where f can't tell them apart either
  found_map-set : {Z : Type 0} (f : X → Z) (xs : List X) (i : ℕ) (y d : X) → p y ≡ p (get_or xs i d) → f y ≡ f (get_or xs i d) → option_map f (find p (set xs i y)) ≡ option_map f (find p xs)
  found_map-set f [] i y d e same = refl
  found_map-set f (x ∷ xs) zero y d e same = both_made f (find p xs) x y (p y) (p x) e same
  found_map-set f (x ∷ xs) (suc i) y d e same = rest_made f (find p (set xs i y)) (find p xs) x (p x) (found_map-set f xs i y d e same)

  first_is : (xs : List X) (i : ℕ) → position p xs ≡ Some i → position_or_len p xs ≡ i
  first_is xs i e = grind (arith, common_steps)

  found : (xs : List X) (i : ℕ) (d : X) → position p xs ≡ Some i → find p xs ≡ Some (get_or xs i d)
  found xs i d e = find_at p xs ∙ ap (slice_get xs) (first_is xs i e) ∙ slice_get-get_or xs i d (position-Some p xs i d e).0

  not_found : (xs : List X) → position p xs ≡ None → find p xs ≡ None
  not_found xs e =
      let past : length xs ≤ position_or_len p xs = grind (arith, common_steps) in
      find_at p xs ∙ slice_get_past xs (position_or_len p xs) past

-- the device under a name is set, and whether it was ever had to be changed, and nothing else changes
pub record SetsDevice {D : Type 0} (old new : List (Named D)) (name : List ℕ) (was now : Option D) (had has : Bool) : Type 0 where
  pub held : holds_in old name ≡ true
  pub before : device_in old name ≡ was
  pub after : device_in new name ≡ now
  pub places : (n : List ℕ) → holds_in new n ≡ holds_in old n
  pub rights : (n : List ℕ) → changeable_in new n ≡ changeable_in old n
  pub asked : asked_in new name ≡ has
  pub same_asked : has ≡ had → (n : List ℕ) → asked_in new n ≡ asked_in old n
  pub others : (other : List ℕ) → other ≢ name → device_in new other ≡ device_in old other

other_name : (text name other : List ℕ) → bytes_eq text name ≡ true → other ≢ name → bytes_eq text other ≡ false
other_name text name other e n = by (bytes_eq text other) refl
  where
    by : (b : Bool) → bytes_eq text other ≡ b → b ≡ false
    by false h = refl
    by true h = absurd (n (sym ((bytes_eq-Decides text other).0 h) ∙ (bytes_eq-Decides text name).0 e))

module _ {D : Type 0} where
  abbrev device_of : Option (Named D) → Option D
  device_of = option_and_then (λ p. p.device)

  -- the test by which a place is looked up
  abbrev pub has_name : List ℕ → Place D → Bool
  has_name name place = bytes_eq (string_bytes place.name) name

  abbrev asked_of : Option (Named D) → Bool
  asked_of p = unwrap_or (option_map (λ q. q.asked) p) false

  sets_at : (ps : List (Named D)) (name : List ℕ) (at : ℕ) (place : Named D) (o : Option D) (a : Bool) → position (is_named name) ps ≡ Some at → get_or ps at place ≡ place → SetsDevice ps (set ps at (record place { device = o; asked = a })) name place.device o place.asked a
  sets_at ps name at place o a here is =
      let new : Named D = record place { device = o; asked = a } in
      let first = position-Some (is_named name) ps at place here in
      let its_name : bytes_eq place.name name ≡ true = subst (λ (q : Named D). is_named name q ≡ true) is first.1 in
      let was : find (is_named name) ps ≡ Some place = found (is_named name) ps at place here ∙ ap (λ (q : Named D). Some q) is in
      record {
        held = ap is_some was;
        before = ap device_of was;
        after = ap device_of (find-set (is_named name) ps at new (sym (first_is (is_named name) ps at here)) first.0 its_name);
        places = λ n. is_found-set (is_named n) ps at new place (ap (is_named n) (sym is));
        rights = λ n. ap (λ (o : Option Bool). unwrap_or o false) (found_map-set (is_named n) (λ q. q.changeable) ps at new place (ap (is_named n) (sym is)) (ap (λ (q : Named D). q.changeable) (sym is)));
        asked = ap asked_of (find-set (is_named name) ps at new (sym (first_is (is_named name) ps at here)) first.0 its_name);
        same_asked = λ same n. ap (λ (o : Option Bool). unwrap_or o false) (found_map-set (is_named n) (λ q. q.asked) ps at new place (ap (is_named n) (sym is)) (same ∙ ap (λ (q : Named D). q.asked) (sym is)));
        others = λ other n.
            let fails : is_named other place ≡ false = other_name place.name name other its_name n in
            ap device_of (find_past (is_named other) ps at new place (ap (is_named other) is ∙ fails) fails);
      }

  -- a place as it was looked up: in a slice of the items, whose view the places are
  pub looked_up : (ps : List (Named D)) (items slice : List (Place D)) (name : List ℕ) (at : Option ℕ) → named_places items ≡ ps → slice ≡ items → at ≡ position (has_name name) slice → position (is_named name) ps ≡ at
  looked_up ps items slice name at view same found =
      ap (position (is_named name)) (sym view) ∙ position-map (is_named name) named items ∙ ap (position (has_name name)) (sym same) ∙ sym found

  -- a write into the place that was looked up
  pub sets_device : (ps : List (Named D)) (items slice : List (Place D)) (name : List ℕ) (at : ℕ) (place : Place D) (o : Option D) (a : Bool) → named_places items ≡ ps → slice ≡ items → Some at ≡ position (has_name name) slice → place ≡ get_or items at place
      → SetsDevice ps (named_places (set items at (record place { device = o; asked = a }))) name place.device o place.asked a
  sets_device ps items slice name at place o a view same here is =
      let first : position (is_named name) ps ≡ Some at = looked_up ps items slice name (Some at) view same here in
      let within : at < length (named_places items) = subst (λ (qs : List (Named D)). at < length qs) (sym view) (position-Some (is_named name) ps at (named place) first).0 in
      let inside : at < length items = subst (λ (n : ℕ). at < n) (length-map items named) within in
      let stands : get_or ps at (named place) ≡ named place =
      subst (λ (qs : List (Named D)). get_or qs at (named place) ≡ named place) view (get_or-map named items at place (named place) inside ∙ ap named (sym is)) in
      let new : Place D = record place { device = o; asked = a } in
      let written : named_places (set items at new) ≡ set ps at (named new) = map-set named items at new ∙ ap (λ (qs : List (Named D)). set qs at (named new)) view in
      subst (λ (qs : List (Named D)). SetsDevice ps qs name place.device o place.asked a) (sym written) (sets_at ps name at (named place) o a first stands)

  pub sets_place : (ps : List (Named D)) (items slice : List (Place D)) (name : List ℕ) (at : ℕ) (place new : Place D) (o : Option D) (a : Bool) → named_places items ≡ ps → slice ≡ items → Some at ≡ position (has_name name) slice → place ≡ get_or items at place
      → new ≡ record place { device = o; asked = a } → SetsDevice ps (named_places (set items at new)) name place.device o place.asked a
  sets_place ps items slice name at place new o a view same here is made =
      subst (λ (p : Place D). SetsDevice ps (named_places (set items at p)) name place.device o place.asked a) (sym made) (sets_device ps items slice name at place o a view same here is)

  pub no_device : (ps : List (Named D)) (name : List ℕ) → position (is_named name) ps ≡ None → device_in ps name ≡ None
  no_device ps name e = ap device_of (not_found (is_named name) ps e)

  pub no_place : (ps : List (Named D)) (name : List ℕ) → position (is_named name) ps ≡ None → holds_in ps name ≡ false
  no_place ps name e = ap is_some (not_found (is_named name) ps e)

  -- whether the device may be changed, by the place that was looked up
  pub rights_at : (ps : List (Named D)) (items slice : List (Place D)) (name : List ℕ) (at : ℕ) (place : Place D) → named_places items ≡ ps → slice ≡ items → Some at ≡ position (has_name name) slice → place ≡ get_or items at place → changeable_in ps name ≡ place.changeable
  rights_at ps items slice name at place view same here is =
      let first : position (is_named name) ps ≡ Some at = looked_up ps items slice name (Some at) view same here in
      let within : at < length (named_places items) = subst (λ (qs : List (Named D)). at < length qs) (sym view) (position-Some (is_named name) ps at (named place) first).0 in
      let inside : at < length items = subst (λ (n : ℕ). at < n) (length-map items named) within in
      let stands : get_or ps at (named place) ≡ named place =
      subst (λ (qs : List (Named D)). get_or qs at (named place) ≡ named place) view (get_or-map named items at place (named place) inside ∙ ap named (sym is)) in
      ap (λ (o : Option (Named D)). unwrap_or (option_map (λ q. q.changeable) o) false) (found (is_named name) ps at (named place) first ∙ ap (λ (q : Named D). Some q) stands)

  pub gives_device : (ps : List (Named D)) (name : List ℕ) (was given : Option D) (allowed : Bool) (fault : ImageFault) (r : Result D ImageFault) → r ≡ ok_or given fault → given ≡ was → holds_in ps name ≡ true → device_in ps name ≡ was
      → MatchResult r (λ d. (holds_in ps name ≡ true) × (device_in ps name ≡ Some d)) (IsImageRefused (device_in ps name) allowed)
  gives_device ps name was None allowed fault r e g h d = subst (λ (x : Result D ImageFault). MatchResult x (λ d. (holds_in ps name ≡ true) × (device_in ps name ≡ Some d)) (IsImageRefused (device_in ps name) allowed)) (sym e) (inl (d ∙ sym g))
  gives_device ps name was (Some x) allowed fault r e g h d = subst (λ (x : Result D ImageFault). MatchResult x (λ d. (holds_in ps name ≡ true) × (device_in ps name ≡ Some d)) (IsImageRefused (device_in ps name) allowed)) (sym e) (h, d ∙ sym g)

  -- what stands in the place after it
  pub gone_device : (new old was given : Option D) (fault : ImageFault) (r : Result D ImageFault) → r ≡ ok_or given fault → given ≡ was → new ≡ None → old ≡ was → MatchResult r (λ _. new ≡ None) (λ _. new ≡ old)
  gone_device new old was None fault r e g n o = subst (λ (x : Result D ImageFault). MatchResult x (λ _. new ≡ None) (λ _. new ≡ old)) (sym e) (n ∙ g ∙ sym o)
  gone_device new old was (Some x) fault r e g n o = subst (λ (x : Result D ImageFault). MatchResult x (λ _. new ≡ None) (λ _. new ≡ old)) (sym e) n

pub on_ok : {T E P : Type 0} (r : Result T E) → P → IfOk r (λ _. P)
on_ok (Ok v) p = p
on_ok (Err e) p = tt

pub same_or : (a b : Bool) → b ≡ false → (a || b) ≡ a
same_or true b e = refl
same_or false b e = e
