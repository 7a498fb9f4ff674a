-- Chunks of a list are put into a set, one after another.
use Rattle.std.proofs.Common.{◌≡◌, ◌∙◌, ℕ, ◌+◌, ◌<◌, ◌==◌, ◌||◌, Bool, List, length, take, get_or, arith, sym}
use Rattle.std.proofs.lemmas.Bool.Decides.{nat_tests}
use Rattle.std.proofs.lemmas.List.Folds.{list_any_more}
use Rattle.md_copy.specs.Table.Orphans.{is_in}

either_way : (c chunk : ℕ) (x : Bool) → (c == chunk || x) ≡ (x || chunk == c)
either_way c chunk x = grind (arith, nat_tests)

pub one_more : (chunks : List ℕ) (i c d : ℕ) (new : Bool) → i < length chunks → new ≡ (c == get_or chunks i d || is_in (take i chunks) c) → new ≡ is_in (take (i + 1) chunks) c
one_more chunks i c d new within is = is ∙ either_way c (get_or chunks i d) (is_in (take i chunks) c) ∙ sym (list_any_more (λ chunk. chunk == c) chunks i d within)
