-- The text of an object, in the parts in which it is written.
use Rattle.std.proofs.Common.{◌≡◌, ℕ, zero, suc, ◌+◌, ◌<◌, ℤ, pos, negsuc, Bool, true, false, List, [], ◌∷◌, ◌++◌, Option, codes, length, get_or, take, arith, refl, sym, ap, ◌∙◌, subst, append_assoc, append-nil}
use Rattle.std.specs.Fmt.{signed_decimal}
use Rattle.json.specs.Print.{quoted}
use Rattle.serde_json.specs.Data.{Data}
use Rattle.serde_json.specs.Written.{comma_if, compact_text, items_text, members_text}
use Rattle.md_streams.specs.Sink.{Puts}
use Rattle.md_streams.proofs.Puts.{puts_then, puts_nothing}
use Rattle.md_report.specs.AsJson.Objects.{Field, field, all_of, close_text, elements_text, items_of, key_text, later_text, object_line, list_of, members_of, next_text, object_of, open_text, report_of, signed}

-- the texts of groups, and then the end
abbrev pub chain : List (List Field) → List ℕ
chain [] = close_text
chain (fields ∷ groups) = later_text fields ++ chain groups

pub later_more : (fields more : List Field) → later_text (fields ++ more) ≡ later_text fields ++ later_text more
unfolding later_text
later_more [] more = refl
later_more (field name value ∷ fields) more =
    ap (λ (t : List ℕ). next_text name (compact_text value) ++ t) (later_more fields more)
    ∙ sym (append_assoc (next_text name (compact_text value)) (later_text fields) (later_text more))

pub chain_is : (groups : List (List Field)) → chain groups ≡ later_text (all_of groups) ++ close_text
unfolding later_text
chain_is [] = refl
chain_is (fields ∷ groups) =
    ap (λ (t : List ℕ). later_text fields ++ t) (chain_is groups)
    ∙ sym (append_assoc (later_text fields) (later_text (all_of groups)) close_text)
    ∙ ap (λ (t : List ℕ). t ++ close_text) (sym (later_more fields (all_of groups)))

one_member : (k v fields end : List ℕ) → k ++ 58 ∷ (v ++ (fields ++ end)) ≡ (((k ++ 58 ∷ []) ++ v) ++ fields) ++ end
one_member k v fields end = simp append_assoc

-- members after the first, with the brace
pub members_closed : (fields : List Field) → members_text true (members_of fields) ≡ later_text fields ++ 125 ∷ []
unfolding later_text next_text
members_closed [] = refl
members_closed (field name value ∷ fields) =
    ap (λ (t : List ℕ). 44 ∷ (quoted name ++ 58 ∷ (compact_text value ++ t))) (members_closed fields)
    ∙ ap (λ (t : List ℕ). 44 ∷ t) (one_member (quoted name) (compact_text value) (later_text fields) (125 ∷ []))

the_line : (k v fields : List ℕ) → (k ++ 58 ∷ (v ++ (fields ++ 125 ∷ []))) ++ 10 ∷ [] ≡ ((k ++ 58 ∷ []) ++ v) ++ (fields ++ 125 ∷ 10 ∷ [])
the_line k v fields = simp append_assoc

pub report_is : (kind : List ℕ) (groups : List (List Field)) → open_text kind ++ chain groups ≡ object_line (report_of kind groups)
unfolding open_text
report_is kind groups =
    ap (λ (t : List ℕ). open_text kind ++ t) (chain_is groups)
    ∙ sym (ap (λ (t : List ℕ). 123 ∷ t) (ap (λ (t : List ℕ). (quoted (codes "report") ++ 58 ∷ (quoted kind ++ t)) ++ 10 ∷ []) (members_closed (all_of groups))
    ∙ the_line (quoted (codes "report")) (quoted kind) (later_text (all_of groups))))

pub puts_report : {S : Type 0} (contents : S → Option (List ℕ)) (failed : S → Bool) {a b c : S} (kind : List ℕ) (groups : List (List Field)) → Puts contents failed a b (open_text kind) → Puts contents failed b c (chain groups) → Puts contents failed a c (object_line (report_of kind groups))
puts_report contents failed {a = a} {c = c} kind groups p q =
    let P : List ℕ → Type 0 = λ t. Puts contents failed a c t in
    subst P (report_is kind groups) (puts_then contents failed p q)

-- the last field of a group
pub puts_last : {S : Type 0} (contents : S → Option (List ℕ)) (failed : S → Bool) {a b : S} {xs : List ℕ} → Puts contents failed a b xs → Puts contents failed a b (xs ++ [])
puts_last contents failed {b = b} p = puts_then contents failed p (puts_nothing contents failed b)

pub signed_text : (z : ℤ) → signed_decimal z ≡ compact_text (signed z)
signed_text (pos n) = refl
signed_text (negsuc n) = refl

-- ---- objects within a report

-- fields after the first, and then the brace
abbrev pub fields_then : List Field → List ℕ
fields_then [] = 125 ∷ []
fields_then (field name value ∷ fields) = next_text name (compact_text value) ++ fields_then fields

two_parts : (k v rest : List ℕ) → ((k ++ 58 ∷ []) ++ v) ++ rest ≡ k ++ 58 ∷ (v ++ rest)
two_parts k v rest = simp append_assoc

fields_then_is : (fields : List Field) → fields_then fields ≡ members_text true (members_of fields)
unfolding next_text
fields_then_is [] = refl
fields_then_is (field name value ∷ fields) =
    ap (λ (t : List ℕ). next_text name (compact_text value) ++ t) (fields_then_is fields)
    ∙ ap (λ (t : List ℕ). 44 ∷ t) (two_parts (quoted name) (compact_text value) (members_text true (members_of fields)))

object_is : (name : List ℕ) (value : Data) (fields : List Field) → (123 ∷ (key_text name ++ compact_text value)) ++ fields_then fields ≡ compact_text (object_of (field name value ∷ fields))
object_is name value fields =
    ap (λ (t : List ℕ). (123 ∷ (key_text name ++ compact_text value)) ++ t) (fields_then_is fields)
    ∙ ap (λ (t : List ℕ). 123 ∷ t) (two_parts (quoted name) (compact_text value) (members_text true (members_of fields)))

pub puts_object : {S : Type 0} (contents : S → Option (List ℕ)) (failed : S → Bool) {a b c : S} (name : List ℕ) (value : Data) (fields : List Field) → Puts contents failed a b (123 ∷ (key_text name ++ compact_text value)) → Puts contents failed b c (fields_then fields) → Puts contents failed a c (compact_text (object_of (field name value ∷ fields)))
puts_object contents failed {a = a} {c = c} name value fields p q =
    let P : List ℕ → Type 0 = λ t. Puts contents failed a c t in
    subst P (object_is name value fields) (puts_then contents failed p q)

-- ---- lists within a report

elements_closed : {X : Type 0} (f : X → Data) (later : Bool) (xs : List X) → elements_text f later xs ++ 93 ∷ [] ≡ items_text later (items_of f xs)
unfolding elements_text
elements_closed f later [] = refl
elements_closed f later (x ∷ xs) =
    append_assoc (comma_if later ++ compact_text (f x)) (elements_text f true xs) (93 ∷ [])
    ∙ ap (λ (t : List ℕ). (comma_if later ++ compact_text (f x)) ++ t) (elements_closed f true xs)
    ∙ append_assoc (comma_if later) (compact_text (f x)) (items_text true (items_of f xs))

pub puts_list : {S : Type 0} (contents : S → Option (List ℕ)) (failed : S → Bool) {a b c d e : S} {X : Type 0} (f : X → Data) (name : List ℕ) (xs : List X) → Puts contents failed a b (44 ∷ key_text name) → Puts contents failed b c (91 ∷ []) → Puts contents failed c d (elements_text f false xs) → Puts contents failed d e (93 ∷ []) → Puts contents failed a e (next_text name (compact_text (list_of f xs)))
unfolding next_text
puts_list contents failed {a = a} {e = e} f name xs key bracket elements close =
    let P : List ℕ → Type 0 = λ t. Puts contents failed a e ((44 ∷ key_text name) ++ (91 ∷ t)) in
    subst P (elements_closed f false xs) (puts_then contents failed key (puts_then contents failed bracket (puts_then contents failed elements close)))

pub puts_array : {S : Type 0} (contents : S → Option (List ℕ)) (failed : S → Bool) {a b c d : S} {X : Type 0} (f : X → Data) (xs : List X) → Puts contents failed a b (91 ∷ []) → Puts contents failed b c (elements_text f false xs) → Puts contents failed c d (93 ∷ []) → Puts contents failed a d (compact_text (list_of f xs))
puts_array contents failed {a = a} {d = d} f xs bracket elements close =
    let P : List ℕ → Type 0 = λ t. Puts contents failed a d (91 ∷ t) in
    subst P (elements_closed f false xs) (puts_then contents failed bracket (puts_then contents failed elements close))

-- whether something stands before element i
abbrev pub is_later : Bool → ℕ → Bool
is_later later zero = later
is_later later (suc i) = true

later_if : (later : Bool) (n : ℕ) → 0 < n → true ≡ is_later later n
later_if later zero lt = absurd (omega arith)
later_if later (suc n) lt = refl

pub later_next : (later : Bool) (i : ℕ) → true ≡ is_later later (i + 1)
later_next later i = later_if later (i + 1) (omega arith)

always_later : (i : ℕ) → is_later true i ≡ true
always_later zero = refl
always_later (suc i) = refl

-- the text of one more element
pub element_at : {X : Type 0} (f : X → Data) (later : Bool) (xs : List X) (i : ℕ) (d : X) → i < length xs → elements_text f later (take i xs) ++ (comma_if (is_later later i) ++ compact_text (f (get_or xs i d))) ≡ elements_text f later (take (i + 1) xs)
unfolding elements_text
element_at f later [] i d lt = absurd (omega arith)
element_at f later (x ∷ xs) zero d lt = sym (append-nil (comma_if later ++ compact_text (f x)))
element_at f later (x ∷ xs) (suc i) d lt =
    let after : suc i + 1 ≡ suc (i + 1) = omega arith in
    let first = comma_if later ++ compact_text (f x) in
    let rest = element_at f true xs i d (omega arith) in
    let flag = always_later i in
    let rest = rw flag at rest in
    rw after (append_assoc first (elements_text f true (take i xs)) (comma_if true ++ compact_text (f (get_or xs i d))) ∙ ap (λ (t : List ℕ). first ++ t) rest)
