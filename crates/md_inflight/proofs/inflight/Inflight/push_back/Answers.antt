use Rattle.std.proofs.Common.{◌≡◌, ℕ, ◌<◌, ◌+◌, ◌^◌, Option, Some, None, List, [], ◌∷◌, ◌++◌, ap, sym, ◌∙◌, subst, arith, rules}
use Rattle.std.specs.Option.{SomeIff}
use denote.RawPtr.{Ptr}
use Rattle.md_inflight.specs.Inflight.{InflightList, BelongsTo, next_number}
use Rattle.md_inflight.specs.Linked.{entries}
use Rattle.md_inflight.specs.Kept.{items, IsKeptList}
use Rattle.md_inflight.proofs.Numbers.{IsPushed, none_fresh, belongs_push, belongs_last}
use Rattle.md_inflight.proofs.Entries.{kept_numbered, kept_grown}
use Rattle.md_inflight.proofs.inflight.Inflight.push_back.Goals as goal

next_after : (result : Option ℕ) (number : ℕ) → number < 2 ^ 64 → SomeIff result (number + 1 < 2 ^ 64) (number + 1) → next_number result ≡ number + 1
next_after None number fits last = omega arith
next_after (Some next) number fits last = last.1

pub returns-in_default-clause-fresh : goal.returns-in_default-clause-fresh
returns-in_default-clause-fresh g c = none_fresh c.args.self.now (rw (← c.self.view_is) (kept_numbered c.self.invariant c.self.inside.book.name))

pub returns-in_default-checked_add-clause-fresh : goal.returns-in_default-checked_add-clause-fresh
returns-in_default-checked_add-clause-fresh g c = none_fresh c.args.self.now (rw (← c.self.view_is) (kept_numbered c.self.invariant c.self.inside.book.name))

pub returns-in-Ok-clause-fresh : goal.returns-in-Ok-clause-fresh
returns-in-Ok-clause-fresh g c = none_fresh c.args.self.now (rw (← c.self.view_is) (kept_numbered c.self.invariant c.self.inside.book.name))

pub returns-in-Err-clause-fresh : goal.returns-in-Err-clause-fresh
returns-in-Err-clause-fresh g c = none_fresh c.args.self.now (rw (← c.self.view_is) (kept_numbered c.self.invariant c.self.inside.book.name))

-- what is kept once the node is linked in, and the entries
module _ (g : _) (c : goal.After-of g) where
  fits : c.in-Some.number < 2 ^ 64
  fits = search rules

  number_is : next_number c.self.inside.next ≡ c.in-Some.number
  number_is = ap next_number c.in-Some.is

  after : next_number c.checked_add-self-inside.result ≡ next_number c.self.inside.next + 1
  after = next_after _ c.in-Some.number fits c.checked_add-self-inside.ensures ∙ ap (λ n. n + 1) (sym number_is)

  grown : IsKeptList c.push.new.self.first c.push.new.self.last c.push.new.self.nodes (c.self.inside.len + 1) (next_number c.checked_add-self-inside.result) (c.self.inside.book.addresses ++ c.in-Ok.place.ptr ∷ [])
      × (items c.push.new.self.nodes ≡ items c.self.inside.chain.nodes ++ (next_number c.self.inside.next, c.args.item) ∷ [])
  grown = kept_grown c.self.invariant c.in-Ok.place.ptr c.args.item c.push.ensures.chain
      (c.in-Ok.ensures.entries ∙ ap (λ n. entries c.self.inside.chain.nodes ++ (c.in-Ok.place.ptr, (n, c.args.item)) ∷ []) (sym number_is)) after (subst (λ n. n < 2 ^ 64) (sym number_is) fits)

  abbrev now : InflightList g.row.T.Denot
  now = record { name = c.enter-page.new.self.name; entries = items c.push.new.self.nodes; next = next_number c.checked_add-self-inside.result }

  pushed : IsPushed c.args.self.now now c.args.item
  pushed = record {
    name = c.enter-page.ensures.0 ∙ ap (λ (l : InflightList g.row.T.Denot). l.name) c.self.view_is;
    entries = grown.1 ∙ ap (λ (l : InflightList g.row.T.Denot). l.entries ++ (l.next, c.args.item) ∷ []) c.self.view_is;
    next = after ∙ ap (λ (l : InflightList g.row.T.Denot). l.next + 1) c.self.view_is;
  }

pub invariant_of-self : goal.invariant_of-self
invariant_of-self g c =
    subst (λ (s : ℕ × List Ptr). IsKeptList c.push.new.self.first c.push.new.self.last c.push.new.self.nodes s.0 (next_number c.checked_add-self-inside.result) s.1)
    (λ i. (sym c.in-Some-checked_add.ensures.1 i, sym c.enter-page.ensures.1 i)) (grown g c).0

pub returns-in-Ok-clause-belongs : goal.returns-in-Ok-clause-belongs
returns-in-Ok-clause-belongs g c =
    subst (BelongsTo (now g c))
    ((λ i. record { name = sym (c.enter-page.ensures.2 ∙ ap (λ (l : InflightList g.row.T.Denot). l.name) c.self.view_is) i; number = sym (sym (number_is g c) ∙ ap (λ (l : InflightList g.row.T.Denot). l.next) c.self.view_is) i }) ∙ sym c.of.ensures)
    (belongs_last _ _ _ (pushed g c))

pub returns-in-Ok-clause-kept : goal.returns-in-Ok-clause-kept
returns-in-Ok-clause-kept g c = belongs_push _ _ _ (pushed g c)
