-- The rows of a table, chunk by chunk.
use Rattle.std.proofs.Common.{◌≡◌, ◌∙◌, ℕ, ◌+◌, Bool, true, false, cond, List, [], ◌∷◌, ◌++◌, append-nil, sym, ap}
use Rattle.std.specs.List.{filter, range_with_len}
use Rattle.std.proofs.lemmas.List.{map-append}
use Rattle.std.proofs.lemmas.List.Elements.{filter-append}
use Rattle.md_cert.specs.declared.table.Row.{Row}
use Rattle.md_cert.specs.Tables.{chunks_of_rows}
use Rattle.md_kept_members.specs.View.{MemberView}
use Rattle.md_state.specs.View.{ArrayView}
use Rattle.md_copy.specs.Table.Sources.{is_missing}
use Rattle.md_bitmap.proofs.Numbers.{range_more}

-- the chunks below n that the member lacks
abbrev pub missing_below : ArrayView → MemberView → ℕ → List ℕ
missing_below a m n = filter (is_missing a m) (range_with_len 0 n)

pub missing_more : (a : ArrayView) (m : MemberView) (n : ℕ) → missing_below a m (n + 1) ≡ missing_below a m n ++ cond (is_missing a m n) (n ∷ []) []
missing_more a m n = ap (filter (is_missing a m)) (range_more n) ∙ filter-append (is_missing a m) (range_with_len 0 n) (n ∷ [])

pub rows_more : (a : ArrayView) (m : MemberView) (rows : List Row) (row : Row) → chunks_of_rows rows ≡ missing_below a m row.chunk → is_missing a m row.chunk ≡ true → chunks_of_rows (rows ++ row ∷ []) ≡ missing_below a m (row.chunk + 1)
rows_more a m rows row before lacks =
    map-append (λ (r : Row). r.chunk) rows (row ∷ [])
    ∙ ap (λ (xs : List ℕ). xs ++ row.chunk ∷ []) before
    ∙ sym (missing_more a m row.chunk ∙ ap (λ (b : Bool). missing_below a m row.chunk ++ cond b (row.chunk ∷ []) []) lacks)

pub rows_same : (a : ArrayView) (m : MemberView) (rows : List Row) (n : ℕ) → chunks_of_rows rows ≡ missing_below a m n → is_missing a m n ≡ false → chunks_of_rows rows ≡ missing_below a m (n + 1)
rows_same a m rows n before has =
    before ∙ sym (missing_more a m n ∙ ap (λ (b : Bool). missing_below a m n ++ cond b (n ∷ []) []) has ∙ append-nil (missing_below a m n))
