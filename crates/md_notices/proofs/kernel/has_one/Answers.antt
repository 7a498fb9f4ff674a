use Rattle.std.proofs.Common.{◌≡◌, ◌∙◌, ◌<◌, ◌||◌, ℕ, Bool, ap, sym, subst, take, length, get_or, arith}
use Rattle.std.proofs.Math.Seq.{take-length}
use Rattle.std.proofs.lemmas.List.Folds.{list_any_at, list_any_more}
use Rattle.std.proofs.lemmas.Option.{get_or_from_slice_get}
use Rattle.std.specs.List.{list_any}
use Rattle.md_assembly.proofs.Indices.{got_within}
use Rattle.md_notices.specs.Kernel.{shows}
use Rattle.md_notices.proofs.kernel.has_one.Goals as goal

pub returns-then-shows : goal.returns-then-shows
returns-then-shows g c =
    let a = c.args.mirror.now.array in
    let k = c.loop-k.k in
    let within = subst (λ (n : ℕ). k < n) c.members-k-end.ensures c.loop-k-test.true in
    let here = got_within a.members k within in
    let is = get_or_from_slice_get a.members k here.0 here.0 here.1 in
    sym (list_any_at (shows a c.args.sign) a.members k here.0 within (ap (shows a c.args.sign) is ∙ sym (c.shows.ensures here.0 here.1) ∙ c.if-shows.true))

pub loop-k-preserved : goal.loop-k-preserved
loop-k-preserved g c =
    let a = c.args.mirror.now.array in
    let k = c.loop-k.k in
    let within = subst (λ (n : ℕ). k < n) c.members-k-end.ensures c.loop-k-test.true in
    let here = got_within a.members k within in
    let is = get_or_from_slice_get a.members k here.0 here.0 here.1 in
    list_any_more (shows a c.args.sign) a.members k here.0 within
    ∙ ap (λ (b : Bool). b || shows a c.args.sign (get_or a.members k here.0)) c.loop-k.invariant
    ∙ ap (shows a c.args.sign) is ∙ sym (c.shows.ensures here.0 here.1) ∙ c.if-shows.false

pub returns : goal.returns
returns g c =
    let a = c.args.mirror.now.array in
    let past = c.loop-k-test.false in
    let within = c.loop-k.auto.k-end in
    let counted = c.members-k-end.ensures in
    let end : c.loop-k.k ≡ length a.members = omega arith in
    sym c.loop-k.invariant ∙ ap (list_any (shows a c.args.sign)) (ap (λ (k : ℕ). take k a.members) end ∙ take-length a.members)
