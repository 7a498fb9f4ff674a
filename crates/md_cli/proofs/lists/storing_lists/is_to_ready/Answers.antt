use Rattle.std.proofs.Common.{◌≡◌, ◌∙◌, false, sym, true≢false}
use Rattle.md_cli.proofs.lists.storing_lists.is_to_ready.Goals as goal

pub returns-then-not-stores_lists-clause-no : goal.returns-then-not-stores_lists-clause-no
returns-then-not-stores_lists-clause-no g c = λ _ h.
    let no : c.stores_lists.result ≡ false = (let test = c.if-not-stores_lists.true in cc) in
    true≢false (sym h.stores ∙ sym c.stores_lists.ensures ∙ no)

pub returns-then-not-degraded-clause-no : goal.returns-then-not-degraded-clause-no
returns-then-not-degraded-clause-no g c = λ _ h.
    let no : c.degraded.result ≡ false = (let test = c.if-not-degraded.true in cc) in
    true≢false (sym h.degraded ∙ sym c.degraded.ensures.roles ∙ no)

pub returns-clause-yes : goal.returns-clause-yes
returns-clause-yes g c = λ yes. record {
  stores = sym c.stores_lists.ensures ∙ (let test = c.if-not-stores_lists.false in cc);
  degraded = sym c.degraded.ensures.roles ∙ (let test = c.if-not-degraded.false in cc);
  some = c.is_some_lacking.ensures.some yes;
}

pub returns-clause-no : goal.returns-clause-no
returns-clause-no g c = λ no h. c.is_some_lacking.ensures.none no h.some.0 h.some.1
