-- The line on a rebuild that goes on where an earlier one ended: a form of this project's own.
use Rattle.std.specs.Prelude.{ℕ, List, [], ◌++◌, Option, Some, None, codes, decimal}

-- the first chunk that is missing, where one is
abbrev pub from_text : Option ℕ → List ℕ
from_text (Some chunk) = codes " from chunk " ++ decimal chunk
from_text None = []

unfoldable pub going_on_text : ℕ → ℕ → Option ℕ → ℕ → List ℕ
going_on_text member missing first chunks =
    (codes "mdcli: the rebuild of member " ++ decimal member) ++ codes " goes on" ++ from_text first
    ++ (codes ", chunks missing: " ++ decimal missing) ++ (codes " of " ++ decimal chunks) ++ codes "\n"
