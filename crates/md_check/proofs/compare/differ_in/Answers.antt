use Rattle.std.proofs.Common.{◌≡◌, ◌∙◌, length, refl, sym, subst, ap, true}
use Rattle.std.proofs.lemmas.Option.{slice_get_read, slice_get_within}
use Rattle.md_assembly.proofs.Indices.{got_same}
use Rattle.md_check.specs.declared.reader.Reader.{Reader}
use Rattle.md_check.specs.Readers.{in_window}
use Rattle.md_check.specs.Showing.{IsShowing}
use Rattle.md_check.proofs.WindowCompared.{agree_next, differ_at, none_differ}
use Rattle.md_check.proofs.compare.differ_in.Goals as goal
use Rattle.md_check.proofs.compare.differ_in.Goals.{else-shows-via-then-shows+else-not-is_same, else-shows-via-else-shows}

pub returns-then-not-is_same : goal.returns-then-not-is_same
returns-then-not-is_same g c =
    let xs = c.args.readers.now in
    let s = c.args.sector in
    let one = c.in-Some.ensures in
    let x = c.index-readers-k.result in
    let at = slice_get_read xs (length xs) c.loop-k.k x refl c.loop-k-test.true c.index-readers-k.is in
    let f = c.index-readers-first.result in
    let y = c.index-readers-k-then-shows.result in
    let f_at = slice_get_read xs (length xs) c.in-Some.first f refl (slice_get_within xs c.in-Some.first one.0 one.1) c.index-readers-first.is in
    let y_at = slice_get_read xs (length xs) c.loop-k.k y refl c.loop-k-test.true c.index-readers-k-then-shows.is in
    let first : f ≡ one.0 = got_same xs c.in-Some.first f one.0 f_at one.1 in
    let second : y ≡ x = got_same xs c.loop-k.k y x y_at at in
    let apart : in_window c.args.lead.now c.args.from f s ≡ in_window c.args.lead.now c.args.from y s → ⊥ = λ same. (let yes = c.is_same.ensures.1 same in let no = c.if-not-is_same.true in absurd cc) in (
      λ _. differ_at xs c.args.lead.now c.args.from s c.in-Some.first c.loop-k.k f y f_at y_at
          (subst (λ (z : Reader _). IsShowing z s) (sym first) (one.2, one.3))
          (subst (λ (z : Reader _). IsShowing z s) (sym second) (c.shows.ensures.0 c.if-shows.true)) apart,
      λ _. refl,
    )

pub loop-k-preserved : goal.loop-k-preserved
loop-k-preserved g c =
    let xs = c.args.readers.now in
    let s = c.args.sector in
    let x = c.index-readers-k.result in
    let k = c.loop-k.k in
    let first = c.in-Some.first in
    let at = slice_get_read xs (length xs) k x refl c.loop-k-test.true c.index-readers-k.is in
    agree_next xs c.args.lead.now c.args.from s first k x at
    (λ one there showing. elim c.else-shows.branch [
      | else-shows-via-then-shows+else-not-is_same w ↦
          let f = w.index-readers-first.result in
          let y = w.index-readers-k-then-shows.result in
          let f_at = slice_get_read xs (length xs) first f refl (slice_get_within xs first one there) w.index-readers-first.is in
          let y_at = slice_get_read xs (length xs) k y refl c.loop-k-test.true w.index-readers-k-then-shows.is in
          let same : w.is_same.result ≡ true = (let no = w.if-not-is_same.false in cc) in
          ap (λ (z : Reader _). in_window c.args.lead.now c.args.from z s) (got_same xs first one f there f_at)
          ∙ w.is_same.ensures.0 same
          ∙ ap (λ (z : Reader _). in_window c.args.lead.now c.args.from z s) (got_same xs k y x y_at at)
      | else-shows-via-else-shows w ↦ let yes = c.shows.ensures.1 showing in let no = w.if-shows.false in absurd cc
    ])
    c.loop-k.invariant

pub returns : goal.returns
returns g c =
    let xs = c.args.readers.now in
    let one = c.in-Some.ensures in (
      λ e. absurd cc,
      λ d. absurd (none_differ xs c.args.lead.now c.args.from c.args.sector c.in-Some.first one.0 c.loop-k.k c.loop-k-test.false one.1 c.loop-k.invariant d),
    )
