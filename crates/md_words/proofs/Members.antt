-- The member that a command names.
use Rattle.std.proofs.Common.{◌≡◌, ◌∙◌, ℕ, ◌+◌, Bool, true, false, cond, not, List, [], ◌∷◌, length, map, min, Option, Some, Result, Ok, Err, inl, inr, refl, sym, ap, subst, option_map, position}
use Rattle.std.specs.List.{prefix_len, position_or_len}
use Rattle.std.specs.Result.{result_unwrap_or}
use Rattle.std.specs.Str.{bytes_eq}
use Rattle.std.specs.Str.Parse.{ParsesUnsigned}
use Rattle.std.specs.Borrow.{Bor}
use Rattle.std.proofs.lemmas.List.{length-map}
use Rattle.clap.specs.Values.{kind_of}
use Rattle.clap.specs.Words.{HasKind, Row, Text}
use Rattle.clap.specs.declared.error.Error.{Error}
use Rattle.clap.specs.declared.error.kind.ErrorKind.TheVariants as kind
use Rattle.md_words.specs.Numbers.{fits_bits, number_or_zero}
use Rattle.md_words.specs.Parsing.{lacks_option, member_at, member_fault, names_no_member, names_no_size, option_fault, place_in, size_fault}
use Rattle.md_words.proofs.Numbers.{is_no_number_refused, is_number_parsed, number_read}

prefix_len-map : {X Y : Type 0} (p : Y → Bool) (f : X → Y) (xs : List X) → prefix_len p (map f xs) ≡ prefix_len (λ x. p (f x)) xs
prefix_len-map p f [] = refl
prefix_len-map p f (x ∷ xs) = ap (λ n. cond (p (f x)) (1 + n) 0) (prefix_len-map p f xs)

position-map : {X Y : Type 0} (p : Y → Bool) (f : X → Y) (xs : List X) → position p (map f xs) ≡ position (λ x. p (f x)) xs
position-map p f xs =
    let at : position_or_len p (map f xs) ≡ position_or_len (λ x. p (f x)) xs = prefix_len-map (λ y. not (p y)) f xs in
    let long : length (map f xs) ≡ length xs = length-map xs f in
    rw (at, long) refl

-- the place of a name, as an index
pub place_is : (images : List (Bor Text)) (name : Text) (found : Option ℕ) → found ≡ position (λ image. bytes_eq image.now name) images → option_map (λ place. min place 4294967295) found ≡ place_in (map (λ s. s.now) images) name
place_is images name found is =
    ap (option_map (λ place. min place 4294967295)) (is ∙ sym (position-map (λ image. bytes_eq image name) (λ s. s.now) images))

first_of_two : {X : Type 0} (b : Bool) (x y : X) → b ≡ true → x ≡ cond b x y
first_of_two true x y e = refl
first_of_two false x y e = absurd cc

second_of_two : {X : Type 0} (b : Bool) (x y : X) → b ≡ false → y ≡ cond b x y
second_of_two true x y e = absurd cc
second_of_two false x y e = refl

-- a number says the member itself
pub numbered : {E : Type 0} (images : List Text) (text : Text) (n : ℕ) (r : Result ℕ E) → r ≡ Ok n → ParsesUnsigned 32 10 text r → Some n ≡ member_at images text
numbered images text n r is h =
    ap (λ k. Some k) (sym (ap (λ q. result_unwrap_or q 0) is) ∙ number_read 32 text r h)
    ∙ first_of_two (fits_bits 32 text) (Some (number_or_zero 32 text)) (place_in images text) (is_number_parsed 32 text n r is h)

-- any other text names an image
pub named : {E : Type 0} (images : List Text) (text : Text) (e : E) (r : Result ℕ E) → r ≡ Err e → ParsesUnsigned 32 10 text r → place_in images text ≡ member_at images text
named images text e r is h =
    second_of_two (fits_bits 32 text) (Some (number_or_zero 32 text)) (place_in images text) (is_no_number_refused 32 text e r is h)

-- a member that is not there is refused
pub unknown_fails : (o : Option (Text × List Row)) (name : Text) (rows : List Row) (e : Error) → o ≡ Some (name, rows) → names_no_member rows ≡ true → kind_of e ≡ kind.ValueValidation → HasKind (member_fault o) e
unknown_fails o name rows e is unknown told =
    let among : HasKind (cond (names_no_member rows) (kind.ValueValidation ∷ []) []) e =
    subst (λ (b : Bool). HasKind (cond b (kind.ValueValidation ∷ []) []) e) (sym unknown) (inr (inl told)) in
    subst (λ (p : Option (Text × List Row)). HasKind (member_fault p) e) (sym is) among

-- so is a size that is none
pub unsized_fails : (o : Option (Text × List Row)) (name : Text) (rows : List Row) (e : Error) → o ≡ Some (name, rows) → names_no_size rows ≡ true → kind_of e ≡ kind.ValueValidation → HasKind (size_fault o) e
unsized_fails o name rows e is unsized told =
    let among : HasKind (cond (names_no_size rows) (kind.ValueValidation ∷ []) []) e =
    subst (λ (b : Bool). HasKind (cond b (kind.ValueValidation ∷ []) []) e) (sym unsized) (inr (inl told)) in
    subst (λ (p : Option (Text × List Row)). HasKind (size_fault p) e) (sym is) among

-- an option without one that it needs is refused
pub lacking_fails : (o : Option (Text × List Row)) (name : Text) (rows : List Row) (e : Error) → o ≡ Some (name, rows) → lacks_option name rows ≡ true → kind_of e ≡ kind.MissingRequiredArgument → HasKind (option_fault o) e
lacking_fails o name rows e is lacks told =
    let among : HasKind (cond (lacks_option name rows) (kind.MissingRequiredArgument ∷ []) []) e =
    subst (λ (b : Bool). HasKind (cond b (kind.MissingRequiredArgument ∷ []) []) e) (sym lacks) (inr (inl told)) in
    subst (λ (p : Option (Text × List Row)). HasKind (option_fault p) e) (sym is) among
