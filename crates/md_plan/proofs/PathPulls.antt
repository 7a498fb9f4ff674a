-- Chunks pulled along a path.
use Rattle.std.proofs.Common.{◌≡◌, ◌≢◌, ◌∙◌, ℕ, ◌+◌, ◌-◌, ◌<◌, ◌≤◌, Bool, true, List, length, get_or, set, refl, sym, ap, subst, arith, inl, inr, get_or-set_same, get_or-set_other}
use Rattle.std.proofs.lemmas.Bool.{cases_eq}
use Rattle.std.proofs.lemmas.List.{length-set}
use Rattle.std.proofs.lemmas.List.Sums.{sum_by-set}
use Rattle.md_cert.specs.Sources.{has}
use Rattle.md_cert.proofs.Bits.{has_below}
use Rattle.md_plan.specs.declared.cell.Cell.{Cell}
use Rattle.md_plan.specs.Cells.{AreAllowed, AreLoads, CanMove, Lightens, Moves, excess, load_of, count_with}
use Rattle.md_plan.specs.Search.{IsReach, IsChild, IsForest, IsPath}

-- what holds while chunks are pulled along a path, at the source that is to take some next
pub record IsPulling (first : List Cell) (first_loads : List ℕ) (bound : ℕ) (order parent : List ℕ) (sources : ℕ) (cells : List Cell) (loads : List ℕ) (to : ℕ) : Type 0 where
  pub counts : (q : ℕ → Bool) → count_with q cells ≡ count_with q first
  pub allowed : AreAllowed cells
  pub are_loads : AreLoads cells loads
  pub seen : has sources to ≡ true
  pub edges : (v : ℕ) → has sources v ≡ true → get_or order v 0 ≤ get_or order to 0 → 0 < get_or order v 0 → CanMove cells (get_or parent v 0) v
  pub untouched : (v : ℕ) → has sources v ≡ true → get_or order v 0 < get_or order to 0 → get_or loads v 0 ≡ get_or first_loads v 0
  pub room : 0 < get_or order to 0 → get_or loads to 0 < bound
  pub le : excess bound loads ≤ excess bound first_loads
  pub less : get_or order to 0 ≡ 0 → excess bound loads < excess bound first_loads

-- a source that was reached from another
pub child_of : (loads reach : List ℕ) (bound sources : ℕ) (order parent : List ℕ) → IsForest loads reach bound sources order parent → (v : ℕ) → has sources v ≡ true → 0 < get_or order v 0 → IsChild loads reach bound sources order parent v
child_of loads reach bound sources order parent forest v seen later = elim (forest v seen) [
  | inl root ↦ absurd (let z = root.first in omega (arith, z, later))
  | inr child ↦ child
]

pub pulling_first : (cells : List Cell) (loads reach : List ℕ) (bound : ℕ) (order parent : List ℕ) (light : ℕ) → AreAllowed cells → AreLoads cells loads → IsReach cells reach → (path : IsPath loads reach bound order parent light)
    → IsPulling cells loads bound order parent path.sources cells loads light
pulling_first cells loads reach bound order parent light allowed are reach_is path =
    let later : 0 < get_or order light 0 = elim (path.forest light path.seen) [
      | inl root ↦ absurd (let above = root.above in let below = path.below in omega (arith, above, below))
      | inr child ↦ child.later
    ] in
    record {
      counts = λ q. refl;
      allowed = allowed;
      are_loads = are;
      seen = path.seen;
      edges = λ v seen le some.
          let child = child_of loads reach bound path.sources order parent path.forest v seen some in
          reach_is.sound (get_or parent v 0) v (has_below path.sources (get_or parent v 0) child.seen) child.step;
      untouched = λ v seen less. refl;
      room = λ some. path.below;
      le = omega arith;
      less = λ zero. absurd (omega arith);
    }

-- two writes, of what one source gives and another takes
pub pulling_more : (first : List Cell) (first_loads reach : List ℕ) (bound : ℕ) (order parent : List ℕ) (sources : ℕ) (cells : List Cell) (loads : List ℕ) (to n : ℕ) (new : List Cell) (given taken : List ℕ)
    → IsForest first_loads reach bound sources order parent → IsPulling first first_loads bound order parent sources cells loads to → 0 < get_or order to 0
    → 0 < n → n ≤ bound - get_or loads to 0 → Moves cells new (get_or parent to 0) to n
    → given ≡ set loads (get_or parent to 0) (get_or loads (get_or parent to 0) 0 - n) → taken ≡ set given to (get_or given to 0 + n)
    → IsPulling first first_loads bound order parent sources new taken (get_or parent to 0)
pulling_more first first_loads reach bound order parent sources cells loads to n new given taken forest before later some few moves given_is taken_is =
    let child = child_of first_loads reach bound sources order parent forest to before.seen later in
    let from = get_or parent to 0 in
    let from_within : from < 32 = has_below sources from child.seen in
    let to_within : to < 32 = has_below sources to before.seen in
    let long : length loads ≡ 32 = before.are_loads.long in
    let apart : from ≢ to = λ same. let e = child.earlier in let o : get_or order from 0 ≡ get_or order to 0 = ap (λ v. get_or order v 0) same in omega (arith, e, o) in
    let room = before.room later in
    let holds : get_or loads from 0 ≡ load_of from cells = before.are_loads.each from from_within in
    let takes : get_or loads to 0 ≡ load_of to cells = before.are_loads.each to to_within in
    let gives = moves.from in
    let more = moves.to in
    let given_long : length given ≡ 32 = ap length given_is ∙ length-set loads from (get_or loads from 0 - n) ∙ long in
    let taken_long : length taken ≡ 32 = ap length taken_is ∙ length-set given to (get_or given to 0 + n) ∙ given_long in
    let given_to : get_or given to 0 ≡ get_or loads to 0 = ap (λ xs. get_or xs to 0) given_is ∙ get_or-set_other loads from to (get_or loads from 0 - n) 0 (λ e. apart (sym e)) in
    let given_from : get_or given from 0 ≡ get_or loads from 0 - n = ap (λ xs. get_or xs from 0) given_is ∙ get_or-set_same loads from (get_or loads from 0 - n) 0 (omega arith) in
    let taken_to : get_or taken to 0 ≡ get_or loads to 0 + n = ap (λ xs. get_or xs to 0) taken_is ∙ get_or-set_same given to (get_or given to 0 + n) 0 (omega arith) ∙ ap (λ k. k + n) given_to in
    let taken_from : get_or taken from 0 ≡ get_or loads from 0 - n = ap (λ xs. get_or xs from 0) taken_is ∙ get_or-set_other given to from (get_or given to 0 + n) 0 apart ∙ given_from in
    let taken_v : (v : ℕ) → v ≢ from → v ≢ to → get_or taken v 0 ≡ get_or loads v 0 = λ v not_from not_to.
    ap (λ xs. get_or xs v 0) taken_is ∙ get_or-set_other given to v (get_or given to 0 + n) 0 not_to ∙ ap (λ xs. get_or xs v 0) given_is ∙ get_or-set_other loads from v (get_or loads from 0 - n) 0 not_from in
    let same_from : get_or loads from 0 ≡ get_or first_loads from 0 = before.untouched from child.seen child.earlier in
    let sum_given : excess bound given + (get_or loads from 0 - bound) ≡ excess bound loads + (get_or loads from 0 - n - bound) =
    ap (λ xs. excess bound xs + (get_or loads from 0 - bound)) given_is ∙ sum_by-set (λ k. k - bound) loads from (get_or loads from 0 - n) 0 (omega arith) in
    let sum_taken : excess bound taken + (get_or given to 0 - bound) ≡ excess bound given + (get_or given to 0 + n - bound) =
    ap (λ xs. excess bound xs + (get_or given to 0 - bound)) taken_is ∙ sum_by-set (λ k. k - bound) given to (get_or given to 0 + n) 0 (omega arith) in
    let old_le = before.le in
    record {
      counts = λ q. moves.counts q ∙ before.counts q;
      allowed = moves.allowed before.allowed;
      are_loads = record {
        long = taken_long;
        each = λ s lt. elim (cases_eq s to) [
          | inl same ↦ subst (λ v. get_or taken v 0 ≡ load_of v new) (sym same) (omega (arith, taken_to, takes, more))
          | inr not_to ↦ elim (cases_eq s from) [
            | inl same ↦ subst (λ v. get_or taken v 0 ≡ load_of v new) (sym same) (omega (arith, taken_from, holds, gives))
            | inr not_from ↦ taken_v s not_from not_to ∙ before.are_loads.each s lt ∙ sym (moves.others s not_from not_to)
          ]
        ];
      };
      seen = child.seen;
      edges = λ v seen le positive.
          let own = child_of first_loads reach bound sources order parent forest v seen positive in
          let not_from : get_or parent v 0 ≢ from = λ same. let e = own.earlier in let o : get_or order (get_or parent v 0) 0 ≡ get_or order from 0 = ap (λ k. get_or order k 0) same in omega (arith, e, o, le) in
          moves.kept (get_or parent v 0) v not_from (before.edges v seen (let e = child.earlier in omega (arith, e, le)) positive);
      untouched = λ v seen less.
          let not_from : v ≢ from = λ same. let o : get_or order v 0 ≡ get_or order from 0 = ap (λ k. get_or order k 0) same in omega (arith, o, less) in
          let e = child.earlier in
          let not_to : v ≢ to = λ same. let o : get_or order v 0 ≡ get_or order to 0 = ap (λ k. get_or order k 0) same in omega (arith, o, less, e) in
          taken_v v not_from not_to ∙ before.untouched v seen (omega (arith, less, e));
      room = λ positive.
          let own = child_of first_loads reach bound sources order parent forest from child.seen positive in
          let within = own.within in
          omega (arith, within, same_from, taken_from, holds, gives, some);
      le = omega (arith, sum_given, sum_taken, given_to, few, room, old_le);
      less = λ zero. elim (forest from child.seen) [
        | inl root ↦ let above = root.above in omega (arith, sum_given, sum_taken, given_to, few, room, old_le, above, same_from, some)
        | inr own ↦ absurd (let l = own.later in omega (arith, l, zero))
      ];
    }

pub pulled : (first : List Cell) (first_loads : List ℕ) (bound : ℕ) (order parent : List ℕ) (sources : ℕ) (cells : List Cell) (loads : List ℕ) (to : ℕ)
    → IsPulling first first_loads bound order parent sources cells loads to → get_or order to 0 ≡ 0 → Lightens bound first cells first_loads loads
pulled first first_loads bound order parent sources cells loads to done zero = record { counts = done.counts; allowed = done.allowed; loads = done.are_loads; less = done.less zero }
