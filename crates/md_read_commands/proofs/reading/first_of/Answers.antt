use Rattle.std.proofs.Common.{◌≡◌, ◌∙◌, ◌+◌, inl, inr, List, [], ◌∷◌, Some, slice_get, sym, ap, subst, arith}
use Rattle.std.proofs.lemmas.Option.{same_Some}
use Rattle.md_badblocks.specs.declared.run.Run.{Run}
use Rattle.md_badblocks.specs.Runs.{IsCanonical}
use Rattle.md_badblocks.proofs.Rising.{bad_from}
use Rattle.md_read_commands.specs.Filling.{IsLeastOf}
use Rattle.md_read_commands.proofs.reading.first_of.Goals as goal

-- the first sector of the first run
first_is : (runs : List Run) (run : Run) → IsCanonical runs → slice_get runs 0 ≡ Some run → IsLeastOf runs run.start
first_is [] run rises at = absurd cc
first_is (r ∷ rs) run rises at =
    let same : r ≡ run = same_Some r run at in
    subst (λ (x : Run). IsLeastOf (r ∷ rs) x.start) same (record {
      is = let some = rises.1 in inl (omega arith, omega arith);
      least = λ t bad. elim bad [
        | inl here ↦ here.0
        | inr later ↦ let low = bad_from (r.start + r.len + 1) rs t rises.3 later in omega arith
      ];
    })

pub returns-in-Some : goal.returns-in-Some
returns-in-Some c =
    first_is c.args.set.now c.in-Some.run'.now c.runs.ensures.canonical
    (ap (λ (l : List Run). slice_get l 0) (sym c.runs.ensures.runs) ∙ sym c.in-Some.ensures.value)
