-- How many members of an array are in sync.
use Rattle.std.specs.Prelude.{ℕ, count_by}
use Rattle.md_assembly.specs.States.{is_in_sync}
use Rattle.md_state.specs.View.{ArrayView}

abbrev pub count_in_sync : ArrayView → ℕ
count_in_sync a = count_by (λ m. is_in_sync m.state) a.members
