use Rattle.std.proofs.Common.{◌≡◌, length, refl, subst, ap, sym, ◌∙◌, arith, rules}
use Rattle.std.proofs.lemmas.Option.{slice_get_read}
use Rattle.md_assembly.proofs.Indices.{got_same}
use Rattle.md_check.specs.declared.reader.Reader.{Reader}
use Rattle.md_check.specs.Readers.{in_window}
use Rattle.md_check.specs.Showing.{IsShowing}
use Rattle.md_check.proofs.WindowCompared.{between_at}
use Rattle.md_check.proofs.compare.differ_between.Goals as goal

pub returns : goal.returns
returns g c =
    let xs = c.args.readers.now in
    let lead = c.args.lead.now in
    let from = c.args.from in
    let s = c.args.sector in
    let x = c.index-readers-one.result in
    let y = c.index-readers-other.result in
    let x_at = slice_get_read xs (length xs) c.args.one x refl (search (rules, arith)) c.index-readers-one.is in
    let y_at = slice_get_read xs (length xs) c.args.other y refl (search (rules, arith)) c.index-readers-other.is in (
      λ e. let d = c.do_differ.ensures.0 e in between_at xs lead from s c.args.one c.args.other x y x_at y_at d.0 d.1 d.2,
      λ d.
          let a = d.shows in
          let b = d.shows_other in
          let first : a.reader ≡ x = got_same xs c.args.one a.reader x a.there x_at in
          let second : b.reader ≡ y = got_same xs c.args.other b.reader y b.there y_at in
          c.do_differ.ensures.1 (
            subst (λ (z : Reader _). IsShowing z s) first (a.reads, a.unlisted),
            subst (λ (z : Reader _). IsShowing z s) second (b.reads, b.unlisted),
            λ same. d.differ (sym a.is ∙ ap (λ (z : Reader _). in_window lead from z s) first ∙ same ∙ sym (ap (λ (z : Reader _). in_window lead from z s) second) ∙ b.is),
          ),
    )
