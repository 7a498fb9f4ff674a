-- Objects as lists of names and values, in their order. Their text is that of serde_json: no space, and the shortest
-- escapes.
use Rattle.std.specs.Prelude.{ℕ, ℤ, pos, negsuc, Bool, true, List, [], ◌∷◌, ◌++◌, codes}
use Rattle.json.specs.Print.{quoted}
use Rattle.serde_json.specs.Data.{unsigned, negative, Data, number, string, array, object, Items, no_items, item, Members, no_members, member}
use Rattle.serde_json.specs.Written.{comma_if, compact_text}

-- a name and its value
pub data Field : Type 0 where
  field : List ℕ → Data → Field

abbrev pub members_of : List Field → Members
members_of [] = no_members
members_of (field name value ∷ fields) = member name value (members_of fields)

abbrev pub object_of : List Field → Data
object_of fields = object (members_of fields)

abbrev pub items_of : {X : Type 0} → (X → Data) → List X → Items
items_of f [] = no_items
items_of f (x ∷ xs) = item (f x) (items_of f xs)

-- what f makes of each element
abbrev pub list_of : {X : Type 0} → (X → Data) → List X → Data
list_of f xs = array (items_of f xs)

abbrev pub whole : ℕ → Data
whole n = number (unsigned n)

abbrev pub signed : ℤ → Data
signed (pos n) = number (unsigned n)
signed (negsuc n) = number (negative (negsuc n))

-- the fields of groups, one after another
abbrev pub all_of : List (List Field) → List Field
all_of [] = []
all_of (fields ∷ groups) = fields ++ all_of groups

-- a report: its first field says which one it is
abbrev pub report_of : List ℕ → List (List Field) → Data
report_of kind groups = object_of (field (codes "report") (string kind) ∷ all_of groups)

-- an object alone in its line
abbrev pub object_line : Data → List ℕ
object_line d = compact_text d ++ 10 ∷ []

-- ---- the parts of the text, as they are written

-- a name with its colon
abbrev pub key_text : List ℕ → List ℕ
key_text name = quoted name ++ 58 ∷ []

-- a field that is not the first
unfoldable pub next_text : List ℕ → List ℕ → List ℕ
next_text name value = 44 ∷ (key_text name ++ value)

-- fields of which none is the first
unfoldable pub later_text : List Field → List ℕ
later_text [] = []
later_text (field name value ∷ fields) = next_text name (compact_text value) ++ later_text fields

-- the brace, and the first field of a report
unfoldable pub open_text : List ℕ → List ℕ
open_text kind = 123 ∷ (key_text (codes "report") ++ quoted kind)

-- the brace, and the end of the line
abbrev pub close_text : List ℕ
close_text = 125 ∷ 10 ∷ []

-- elements of a list, each after a comma but for the first where nothing stands before it
unfoldable pub elements_text : {X : Type 0} → (X → Data) → Bool → List X → List ℕ
elements_text f later [] = []
elements_text f later (x ∷ xs) = (comma_if later ++ compact_text (f x)) ++ elements_text f true xs
