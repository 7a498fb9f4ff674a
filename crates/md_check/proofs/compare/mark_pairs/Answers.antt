use Rattle.std.proofs.Common.{◌≡◌, ◌∙◌, ◌+◌, ◌<◌, length, get_or, subst, sym, inl, inr, arith, length-set}
use Rattle.std.proofs.lemmas.List.{get_or_default, get_or-set_other, get_or-set_same}
use Rattle.md_collect.specs.declared.found.Pair.{Pair}
use Rattle.md_check.specs.Differences.{AddsToPair}
use Rattle.md_collect.specs.Found.{IsPairSized}
use Rattle.md_check.specs.Readers.{ReaderShows, in_window}
use Rattle.md_check.proofs.Compared.{same_or_other}
use Rattle.md_check.proofs.compare.mark_pairs.Goals as goal

pub mark_pair-requires-clause-sized : goal.mark_pair-requires-clause-sized
mark_pair-requires-clause-sized g c =
    let inv = c.loop-p.invariant in
    let p = c.loop-p.p in
    let was = c.index_mut.result.now in
    let many = inv.as_many in
    let within : p < length c.args.pairs.now.items = omega (arith, c.len-p-end.ensures, c.loop-p-test.true) in
    subst (λ (x : Pair). IsPairSized c.args.chunks x) (sym (inv.rest p was (omega arith)) ∙ sym c.index_mut.ensures.value) (c.requires.sized p was within)

pub loop-p-preserved : goal.loop-p-preserved
loop-p-preserved g c =
    let inv = c.loop-p.invariant in
    let P = ReaderShows (in_window c.args.lead.now c.args.from) c.args.readers.now in
    let pairs = c.loop-p.pairs.items in
    let p = c.loop-p.p in
    let was = c.index_mut.result.now in
    let new = c.mark_pair.new.pair in
    let within : p < length pairs = omega (arith, inv.as_many, c.len-p-end.ensures, c.loop-p-test.true) in
    let before : (d : Pair) → get_or pairs p d ≡ was = λ d. get_or_default pairs p d was within ∙ sym c.index_mut.ensures.value in
    record {
      as_many = length-set pairs p new ∙ inv.as_many;
      done = λ q d below.
          elim (same_or_other q p) [
            | inl same ↦ rw (same, get_or-set_same pairs p new d within)
                (subst (λ (x : Pair). AddsToPair P c.args.chunks c.args.sector (c.args.sector + 1) x new) (sym (before d) ∙ inv.rest p d (omega arith)) c.mark_pair.ensures)
            | inr other ↦ rw (get_or-set_other pairs p q new d other) (inv.done q d (omega (arith, below, other)))
          ];
      rest = λ q d above. get_or-set_other pairs p q new d (λ e. absurd (omega (arith, e, above))) ∙ inv.rest q d (omega (arith, above));
    }

pub returns : goal.returns
returns g c =
    let inv = c.loop-p.invariant in
    let past = c.loop-p-test.false in
    let many = c.len-p-end.ensures in
    record { as_many = inv.as_many; each = λ q d below. inv.done q d (omega arith) }
