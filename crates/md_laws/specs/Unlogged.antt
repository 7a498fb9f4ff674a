-- As long as no log is stored, an opening misreads no more members than those that are spoiled.
use Rattle.std.specs.Prelude.{◌≡◌, ℕ, List}
use Rattle.md_model.specs.Events.{Event}
use Rattle.md_array.specs.InTurn.{AllOf}
use Rattle.md_laws.specs.Runs.{MirrorRun, Moment}

abbrev pub StoresNoLog : Event → Type 0
StoresNoLog (Event.StoreLog k listed) = ⊥
StoresNoLog e = Unit {0}

-- An opening misreads the members that are spoiled, and no others.
abbrev pub MisreadsSpoiled : Moment → Type 0
MisreadsSpoiled t = (k : ℕ) → t.misread k ≡ t.spoiled k

-- Right after an opening no others are misread. Along a run that stores no log it stays so.
abbrev pub StaysUnlogged : Type 0
StaysUnlogged = (es : List Event) (t last : Moment) → MirrorRun t es last → AllOf StoresNoLog es → MisreadsSpoiled t → MisreadsSpoiled last
