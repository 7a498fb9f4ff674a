use Rattle.std.proofs.Common.{◌≡◌, ℕ, suc, ◌+◌, ◌≤◌, List, ◌∷◌, ◌++◌, length, set, take, drop, ◌∙◌, ap, arith}
use Rattle.std.proofs.lemmas.List.{set_split, take-append-le, take-take, drop_at, length-append, length-take-le}
use Rattle.md_badblocks.specs.declared.run.Run.{Run}
use Rattle.md_badblocks.proofs.editing.replace_by_two.Goals as goal

-- a run put after the one that another then replaces
set-insert : (runs : List Run) (from to : ℕ) (left right : Run) → to ≡ from + 1 → to ≤ length runs → set (take to runs ++ right ∷ drop to runs) from left ≡ take from runs ++ left ∷ right ∷ drop to runs
set-insert runs from to left right next within =
    let short = length-take-le to runs within in
    let whole = length-append (take to runs) (right ∷ drop to runs) in
    let place : suc from ≡ to = omega arith in
    let front = take-append-le from (take to runs) (right ∷ drop to runs) (omega arith) ∙ take-take from to runs (omega arith) in
    let back = ap (λ n. drop n (take to runs ++ right ∷ drop to runs)) place ∙ drop_at (take to runs) (right ∷ drop to runs) to short in
    set_split (take to runs ++ right ∷ drop to runs) from left (omega arith) ∙ ap (λ xs. xs ++ left ∷ drop (suc from) (take to runs ++ right ∷ drop to runs)) front ∙ ap (λ xs. take from runs ++ left ∷ xs) back

pub returns-in_ok-insert-clause-ok : goal.returns-in_ok-insert-clause-ok
returns-in_ok-insert-clause-ok c =
    rw c.in_ok-insert.ensures.items (set-insert c.args.runs.now.items c.args.from c.args.to c.args.left c.args.right c.if-to-from.true c.requires.within)
