use Rattle.std.proofs.Common.{◌≡◌, ◌∙◌, ◌<◌, false, subst, sym, true, true≢false}
use Rattle.std.proofs.lemmas.Option.{slice_get_within}
use Rattle.md_cli.proofs.lists.storing_lists.stores_early.Goals as goal

pub returns-then-not-stores_lists-clause-late : goal.returns-then-not-stores_lists-clause-late
returns-then-not-stores_lists-clause-late g c = λ _ h.
    let no : c.stores_lists.result ≡ false = (let test = c.if-not-stores_lists.true in cc) in
    true≢false (sym h.stores ∙ sym c.stores_lists.ensures ∙ no)

pub returns-then-not-resynced-clause-late : goal.returns-then-not-resynced-clause-late
returns-then-not-resynced-clause-late g c = λ _ h.
    let no : c.resynced.result ≡ false = (let test = c.if-not-resynced.true in cc) in
    true≢false (sym h.resynced ∙ sym c.resynced.ensures ∙ no)

pub returns-clause-early : goal.returns-clause-early
returns-clause-early g c = λ yes. record {
  stores = sym c.stores_lists.ensures ∙ (let test = c.if-not-stores_lists.false in cc);
  resynced = sym c.resynced.ensures ∙ (let test = c.if-not-resynced.false in cc);
  recorded = λ j m in_sync. c.is_none_due.ensures.none yes j m (subst (λ n. j < n) (sym c.members.ensures) (slice_get_within c.args.mirror.now.array.members j m in_sync.member)) in_sync;
}

pub returns-clause-late : goal.returns-clause-late
returns-clause-late g c = λ no h.
    let some = c.is_none_due.ensures.some no in
    true≢false (sym some.4 ∙ h.recorded some.0 some.1 some.3)
