use Rattle.std.proofs.Common.{◌≡◌, ◌≤◌, length, refl, subst, arith, inl, inr, Some}
use Rattle.std.specs.List.{slice_get}
use Rattle.std.proofs.lemmas.Option.{slice_get_read, slice_get_within}
use Rattle.std.proofs.Math.Nat.{eq-or-lt_of_le}
use Rattle.md_assembly.proofs.Indices.{got_same}
use Rattle.md_check.specs.declared.reader.Reader.{Reader}
use Rattle.md_check.specs.Showing.{IsShowing}
use Rattle.md_check.proofs.compare.first_showing.Goals as goal

pub returns-then-shows : goal.returns-then-shows
returns-then-shows g c =
    let xs = c.args.readers.now in
    let x = c.index-readers-k.result in
    let shown = c.shows.ensures.0 c.if-shows.true in
    (x, slice_get_read xs (length xs) c.loop-k.k x refl (omega arith) c.index-readers-k.is, shown.0, shown.1)

pub loop-k-preserved : goal.loop-k-preserved
loop-k-preserved g c = λ j reader below at reads unlisted.
    let xs = c.args.readers.now in
    let k = c.loop-k.k in
    let x = c.index-readers-k.result in
    elim (eq-or-lt_of_le (let le : j ≤ k = omega arith in le)) [
      | inl same ↦
          let here = slice_get_read xs (length xs) k x refl c.loop-k-test.true c.index-readers-k.is in
          let is : reader ≡ x = got_same xs k reader x (subst (λ n. slice_get xs n ≡ Some reader) same at) here in
          let shown : IsShowing x c.args.sector = subst (λ (y : Reader _). IsShowing y c.args.sector) is (reads, unlisted) in
          let yes = c.shows.ensures.1 shown in
          let no = c.if-shows.false in
          absurd cc
      | inr lower ↦ c.loop-k.invariant j reader lower at reads unlisted
    ]

pub returns : goal.returns
returns g c = λ k reader at reads unlisted. c.loop-k.invariant k reader (let low = slice_get_within c.args.readers.now k reader at in let past = c.loop-k-test.false in omega arith) at reads unlisted
