use Rattle.std.proofs.Common.{◌≡◌, ◌≢◌, ℕ, List, [], ◌∷◌, eqb, length, take, ap, sym, ◌∙◌, arith, refl}
use Rattle.std.proofs.lemmas.Bool.{false≢true, eqb-true}
use Rattle.md_files.proofs.MaskLemmas.MapLemmas.Words.{rest_whole}
use Rattle.md_files.proofs.MaskLemmas.MapLemmas.Lines.{read_start, read_step, fault_at, cut_at, finished, unfinished}
use Rattle.std.proofs.lemmas.Result.{MatchResult-weaker}
use Rattle.md_files.proofs.MaskLemmas.MapLemmas.Exact.{only_memory}
use Rattle.md_files.specs.declared.masks.maps.fault.LineFault.TheVariants.{Cut}
use Rattle.md_files.specs.declared.masks.maps.fault.MapFault.TheVariants.{Line}
use Rattle.md_files.proofs.masks.maps.map.read_map.Goals as goal

empty_is : (xs : List ℕ) → length xs ≡ 0 → xs ≡ []
empty_is [] none = refl
empty_is (x ∷ xs) none = absurd (omega arith)

pub loop-len-init : goal.loop-len-init
loop-len-init c = read_start c.args.size c.args.text.now c.new.result c.new.ensures

pub returns-in-Err-clause-err : goal.returns-in-Err-clause-err
returns-in-Err-clause-err c =
    fault_at c.args.size c.args.text.now c.loop-len.rest.now c.loop-len.number c.loop-len.reading.end c.loop-len.reading.missing c.loop-len.invariant
    c.in-Some.len (take c.in-Some.len c.loop-len.rest.now) c.in-Err.fault (cc) refl c.in-Err.ensures.err

pub loop-len-preserved : goal.loop-len-preserved
loop-len-preserved c =
    let read = c.loop-len.invariant in
    let line : List ℕ = take c.in-Some.len c.loop-len.rest.now in
    read_step c.args.size c.args.text.now c.loop-len.rest.now c.loop-len.number c.loop-len.reading.end c.loop-len.reading.missing read
    c.in-Some.len line _ c.after-reading.result.end c.after-reading.result.missing (cc) refl (rest_whole c.loop-len.rest.now _)
    (c.after-reading.ensures c.args.size read.lines line c.in-Ok.ensures.ok read.read)

pub returns-then-not-is_empty-clause-err : goal.returns-then-not-is_empty-clause-err
returns-then-not-is_empty-clause-err c =
    let some : c.loop-len.rest.now ≢ [] = λ none. absurd (false≢true (sym c.if-not-is_empty.true ∙ c.is_empty.ensures ∙ ap (λ (xs : List ℕ). eqb (length xs) 0) none)) in
    cut_at c.args.size c.args.text.now c.loop-len.rest.now c.loop-len.number c.loop-len.reading.end c.loop-len.reading.missing c.loop-len.invariant (sym c.line_len.ensures ∙ c.in_default.is) some

pub returns-clause-ok : goal.returns-clause-ok
returns-clause-ok c =
    let all : c.loop-len.rest.now ≡ [] = empty_is c.loop-len.rest.now (eqb-true (length c.loop-len.rest.now) 0 (sym c.is_empty.ensures ∙ c.if-not-is_empty.false)) in
    finished c.args.size c.args.text.now c.loop-len.rest.now c.loop-len.number c.loop-len.reading.end c.loop-len.reading.missing c.loop-len.invariant (sym c.line_len.ensures ∙ c.in_default.is) all c.finish.result c.finish.ensures.ok

pub returns-clause-err : goal.returns-clause-err
returns-clause-err c =
    let all : c.loop-len.rest.now ≡ [] = empty_is c.loop-len.rest.now (eqb-true (length c.loop-len.rest.now) 0 (sym c.is_empty.ensures ∙ c.if-not-is_empty.false)) in
    unfinished c.args.size c.args.text.now c.loop-len.rest.now c.loop-len.number c.loop-len.reading.end c.loop-len.reading.missing c.loop-len.invariant (sym c.line_len.ensures ∙ c.in_default.is) all c.finish.result c.finish.ensures.err

pub returns-in-Err-clause-exact : goal.returns-in-Err-clause-exact
returns-in-Err-clause-exact c = λ blocks is. only_memory c.args.size c.args.text.now blocks is (Line c.loop-len.number c.in-Err.fault) (returns-in-Err-clause-err c)

pub returns-then-not-is_empty-clause-exact : goal.returns-then-not-is_empty-clause-exact
returns-then-not-is_empty-clause-exact c = λ blocks is. only_memory c.args.size c.args.text.now blocks is (Line c.loop-len.number Cut) (returns-then-not-is_empty-clause-err c)

pub returns-clause-exact : goal.returns-clause-exact
returns-clause-exact c =
    MatchResult-weaker c.finish.result (returns-clause-err c) (λ x h. h) (λ fault refused blocks is. only_memory c.args.size c.args.text.now blocks is fault refused)
