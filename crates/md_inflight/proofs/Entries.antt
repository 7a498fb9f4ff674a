-- The node of a ticket, and what a list keeps as entries come, change and go.
use Rattle.std.proofs.Common.{◌≡◌, ◌<◌, ◌≤◌, ◌+◌, ◌-◌, ◌^◌, ◌==◌, ℕ, zero, suc, Bool, true, false, not, cond, List, [], ◌∷◌, ◌++◌, map, length, Option, Some, None, IsSome, refl, sym, ap, ◌∙◌, subst, append_assoc, arith}
use Rattle.std.specs.Prelude.{IfSome, slice_get}
use Rattle.std.specs.Map.{set_value}
use Rattle.std.proofs.lemmas.Bool.{ne_eqb, eqb-true, eq-eqb}
use Rattle.std.proofs.lemmas.List.{map-append, length-map, length-append}
use Rattle.std.proofs.lemmas.Option.{slice_get_within}
use denote.RawPtr.{Ptr}
use Rattle.md_inflight.specs.Inflight.{InflightList, TicketView, BelongsTo, IsNumbered, lookup, entries_without, NumbersRiseFrom}
use Rattle.md_inflight.specs.Placed.{LieApart, IsAt, change_at}
use Rattle.md_inflight.specs.Linked.{to_place, front, back, entries, AreLinked, IsChain}
use Rattle.md_inflight.specs.Kept.{items, LieAsBooked, IsKeptList, items_from}
use Rattle.md_inflight.specs.declared.place.Place.{Place}
use Rattle.md_inflight.specs.declared.node.Node.{Node}
use Rattle.md_inflight.proofs.Books.{Agree}
use Rattle.md_inflight.proofs.Places.{changed, changed_is, same_ptr_refl, first_apart}
use Rattle.md_inflight.proofs.Linked.{neighbours, first_stands}
use Rattle.md_inflight.proofs.Numbers.{rises_push, rises_filter, rises_set}

some_same : {X : Type 0} {x y : X} → Some x ≡ Some y → x ≡ y
some_same e = cc

-- a longer list has the same at each place of the shorter one, and the next at its end
get_longer : {X : Type 0} (xs more : List X) (k : ℕ) (x : X) → slice_get xs k ≡ Some x → slice_get (xs ++ more) k ≡ Some x
get_longer [] more k x e = cc
get_longer (y ∷ xs) more zero x e = e
get_longer (y ∷ xs) more (suc k) x e = get_longer xs more k x e

get_end : {X : Type 0} (xs : List X) (x : X) → slice_get (xs ++ x ∷ []) (length xs) ≡ Some x
get_end [] x = refl
get_end (y ∷ xs) x = get_end xs x

-- a place, if there is one, is that of some node
pub ahead : {P : Place → Type 0} (o : Option Place) → ((q : Place) → o ≡ Some q → P q) → IfSome o P
ahead None k = tt
ahead (Some q) k = k q refl

abbrev Row : Type 0 → Type 0
Row T = List (Ptr × Node T)

module _ {T : Type 0} where
  abbrev pub writing : T → Node T → Node T
  writing item node = record node { item = item }

  -- ---- numbers that rise
  rises_at : (xs : Row T) (v : Ptr × Node T) (ys : Row T) (low next : ℕ) → NumbersRiseFrom low (items (xs ++ v ∷ ys)) next → low ≤ v.1.number
  rises_at [] v ys low next r = r.0
  rises_at (x ∷ xs) v ys low next r = let later = rises_at xs v ys (x.1.number + 1) next r.1 in let first = r.0 in omega arith

  -- so an earlier node has another number
  earlier : (x : Ptr × Node T) (xs : Row T) (v : Ptr × Node T) (ys : Row T) (low next : ℕ) → NumbersRiseFrom low (items (x ∷ (xs ++ v ∷ ys))) next → (x.1.number == v.1.number) ≡ false
  earlier x xs v ys low next r = let later = rises_at xs v ys (x.1.number + 1) next r.1 in ne_eqb x.1.number v.1.number (λ same. absurd (omega arith))

  without_above : (number : ℕ) (es : List (ℕ × T)) (low next : ℕ) → NumbersRiseFrom low es next → number < low → entries_without es number ≡ es
  without_above number [] low next r above = refl
  without_above number (e ∷ es) low next r above =
      let first = r.0 in by (e.0 == number) (without_above number es (e.0 + 1) next r.1 (omega arith)) (ne_eqb e.0 number (λ same. absurd (omega arith)))
    where
      by : (b : Bool) → entries_without es number ≡ es → b ≡ false → cond (not b) (e ∷ entries_without es number) (entries_without es number) ≡ e ∷ es
      by true rest other = cc
      by false rest other = ap (λ ls. e ∷ ls) rest

  lookup_cut : (xs : Row T) (v : Ptr × Node T) (ys : Row T) (low next : ℕ) → NumbersRiseFrom low (items (xs ++ v ∷ ys)) next → lookup (items (xs ++ v ∷ ys)) v.1.number ≡ Some v.1.item
  lookup_cut [] v ys low next r = ap (λ b. cond b (Some v.1.item) (lookup (items ys) v.1.number)) (eq-eqb v.1.number v.1.number refl)
  lookup_cut (x ∷ xs) v ys low next r =
      ap (λ b. cond b (Some x.1.item) (lookup (items (xs ++ v ∷ ys)) v.1.number)) (earlier x xs v ys low next r) ∙ lookup_cut xs v ys (x.1.number + 1) next r.1

  without_cut : (xs : Row T) (v : Ptr × Node T) (ys : Row T) (low next : ℕ) → NumbersRiseFrom low (items (xs ++ v ∷ ys)) next → entries_without (items (xs ++ v ∷ ys)) v.1.number ≡ items (xs ++ ys)
  without_cut [] v ys low next r =
      ap (λ b. cond (not b) ((v.1.number, v.1.item) ∷ entries_without (items ys) v.1.number) (entries_without (items ys) v.1.number)) (eq-eqb v.1.number v.1.number refl)
      ∙ without_above v.1.number (items ys) (v.1.number + 1) next r.1 (omega arith)
  without_cut (x ∷ xs) v ys low next r =
      ap (λ b. cond (not b) ((x.1.number, x.1.item) ∷ entries_without (items (xs ++ v ∷ ys)) v.1.number) (entries_without (items (xs ++ v ∷ ys)) v.1.number)) (earlier x xs v ys low next r)
      ∙ ap (λ es. (x.1.number, x.1.item) ∷ es) (without_cut xs v ys (x.1.number + 1) next r.1)

  set_cut : (xs : Row T) (v : Ptr × Node T) (ys : Row T) (item : T) (low next : ℕ) → NumbersRiseFrom low (items (xs ++ v ∷ ys)) next
      → set_value (λ k. k == v.1.number) (items (xs ++ v ∷ ys)) item ≡ items (xs ++ (v.0, writing item v.1) ∷ ys)
  set_cut [] v ys item low next r = ap (λ b. cond b ((v.1.number, item) ∷ items ys) ((v.1.number, v.1.item) ∷ set_value (λ k. k == v.1.number) (items ys) item)) (eq-eqb v.1.number v.1.number refl)
  set_cut (x ∷ xs) v ys item low next r =
      ap (λ b. cond b ((x.1.number, item) ∷ items (xs ++ v ∷ ys)) ((x.1.number, x.1.item) ∷ set_value (λ k. k == v.1.number) (items (xs ++ v ∷ ys)) item)) (earlier x xs v ys low next r)
      ∙ ap (λ es. (x.1.number, x.1.item) ∷ es) (set_cut xs v ys item (x.1.number + 1) next r.1)

  -- ---- places as the book has them
  booked_at : (book : List Ptr) (xs : Row T) (v : Ptr × Node T) (ys : Row T) → LieAsBooked book (entries (xs ++ v ∷ ys)) → slice_get book v.1.number ≡ Some v.0
  booked_at book [] v ys l = l.0
  booked_at book (x ∷ xs) v ys l = booked_at book xs v ys l.1

  booked_without : (book : List Ptr) (xs : Row T) (v : Ptr × Node T) (ys : Row T) → LieAsBooked book (entries (xs ++ v ∷ ys)) → LieAsBooked book (entries (xs ++ ys))
  booked_without book [] v ys l = l.1
  booked_without book (x ∷ xs) v ys l = (l.0, booked_without book xs v ys l.1)

  booked_more : (book more : List Ptr) (es : List (Ptr × (ℕ × T))) (e : Ptr × (ℕ × T)) → LieAsBooked book es → slice_get (book ++ more) e.1.0 ≡ Some e.0 → LieAsBooked (book ++ more) (es ++ e ∷ [])
  booked_more book more [] e l last = (last, tt)
  booked_more book more (d ∷ es) e l last = (get_longer book more d.1.0 d.0 l.0, booked_more book more es e l.1 last)

  booked_written : (book : List Ptr) (xs : Row T) (v : Ptr × Node T) (ys : Row T) (item : T) → LieAsBooked book (entries (xs ++ v ∷ ys)) → LieAsBooked book (entries (xs ++ (v.0, writing item v.1) ∷ ys))
  booked_written book [] v ys item l = l
  booked_written book (x ∷ xs) v ys item l = (l.0, booked_written book xs v ys item l.1)

  -- ---- the ticket's node
  -- a node of this number, wherever it lies
  record Numbered (vs : Row T) (number : ℕ) : Type 0 where
    pub place : Ptr
    pub at : IsAt vs place
    pub same : at.value.number ≡ number

  numbered : (vs : Row T) (number : ℕ) → IsSome (lookup (items vs) number) → Numbered vs number
  numbered [] number found = cc
  numbered (v ∷ vs) number found = by (v.1.number == number) (eqb-true v.1.number number) found (numbered vs number)
    where
      by : (b : Bool) → (b ≡ true → v.1.number ≡ number) → IsSome (cond b (Some v.1.item) (lookup (items vs) number)) → (IsSome (lookup (items vs) number) → Numbered vs number) → Numbered (v ∷ vs) number
      by true here found rest = record { place = v.0; at = record { before = []; value = v.1; after = vs; cut = refl }; same = here refl }
      by false here found rest = let on = rest found in record {
        place = on.place;
        at = record { before = v ∷ on.at.before; value = on.at.value; after = on.at.after; cut = ap (λ us. v ∷ us) on.at.cut };
        same = on.same;
      }

  -- what a list and a ticket look like from outside is no other than what they have inside
  pub belonging : {list seen : InflightList T} {ticket shown : TicketView} → list ≡ seen → ticket ≡ shown → BelongsTo seen shown → BelongsTo list ticket
  belonging is at = subst (λ (s : InflightList T × TicketView). BelongsTo s.0 s.1) (λ i. (sym is i, sym at i))

  -- it lies where the ticket says, since book and page agree
  pub ticket_stands : {head tail : Option Place} {vs : Row T} {count next : ℕ} {book : List Ptr} (page : List Ptr) {name : ℕ} {ticket : TicketView} {p : Ptr} → IsKeptList head tail vs count next book
      → BelongsTo (record { name = name; entries = items vs; next = next }) ticket → slice_get page ticket.number ≡ Some p → Agree book page → (at : IsAt vs p) × (at.value.number ≡ ticket.number)
  ticket_stands {vs = vs} {book = book} page {ticket = ticket} {p = p} kept belongs told agree =
      let found = numbered vs ticket.number belongs.stands in let at = found.at in
      let long = kept.booked in let given = belongs.given in
      let lies = booked_at book at.before (found.place, at.value) at.after (subst (λ us. LieAsBooked book (entries us)) at.cut kept.lies) in
      let here : found.place ≡ p = some_same (sym lies ∙ ap (slice_get book) found.same ∙ agree ticket.number (omega arith) (slice_get_within page ticket.number p told) ∙ told) in
      subst (λ (q : Ptr). (on : IsAt vs q) × (on.value.number ≡ ticket.number)) here (at, found.same)

  -- an item that changes leaves the links
  linked_written : (before : Option Place) (xs : Row T) (v : Ptr × Node T) (ys : Row T) (item : T) (after : Option Place) → AreLinked before (xs ++ v ∷ ys) after → AreLinked before (xs ++ (v.0, writing item v.1) ∷ ys) after
  linked_written before [] v ys item after l = l
  linked_written before (x ∷ []) v ys item after l = (l.0, l.1, linked_written (Some (to_place x.0)) [] v ys item after l.2)
  linked_written before (x ∷ w ∷ xs) v ys item after l = (l.0, l.1, linked_written (Some (to_place x.0)) (w ∷ xs) v ys item after l.2)

  front_written : (xs : Row T) (v : Ptr × Node T) (ys : Row T) (item : T) → front (xs ++ v ∷ ys) None ≡ front (xs ++ (v.0, writing item v.1) ∷ ys) None
  front_written [] v ys item = refl
  front_written (x ∷ xs) v ys item = refl

  back_written : (before : Option Place) (xs : Row T) (v : Ptr × Node T) (ys : Row T) (item : T) → back before (xs ++ v ∷ ys) ≡ back before (xs ++ (v.0, writing item v.1) ∷ ys)
  back_written before [] v ys item = refl
  back_written before (x ∷ xs) v ys item = back_written (Some (to_place x.0)) xs v ys item

  chain_written : (xs : Row T) (v : Ptr × Node T) (ys : Row T) (item : T) (head tail : Option Place) → IsChain head tail (xs ++ v ∷ ys) → IsChain head tail (xs ++ (v.0, writing item v.1) ∷ ys)
  chain_written xs v ys item head tail c = record { first = c.first ∙ front_written xs v ys item; last = c.last ∙ back_written None xs v ys item; linked = linked_written None xs v ys item None c.linked }

  -- to write back the node that was read, with another item, is to write the item there
  pub written_back : {vs : Row T} {p : Ptr} → LieApart vs → (at : IsAt vs p) {read : Node T} → read ≡ at.value → (item : T) → change_at p (λ _. writing item read) vs ≡ changed at (writing item)
  written_back {p = p} apart at {read} is item = sym (changed_is at apart (λ _. writing item read)) ∙ ap (λ node. at.before ++ (p, writing item node) ∷ at.after) is

  -- ---- what is kept
  module _ {head tail : Option Place} {vs : Row T} {count next : ℕ} {book : List Ptr} (kept : IsKeptList head tail vs count next book) where
    pub kept_numbered : (name : ℕ) → IsNumbered (record { name = name; entries = items vs; next = next })
    kept_numbered name = record { rising = kept.rising; limit = kept.limit }

    module _ {p : Ptr} (at : IsAt vs p) {number : ℕ} (same : at.value.number ≡ number) where
      rising_cut : NumbersRiseFrom 0 (items (at.before ++ (p, at.value) ∷ at.after)) next
      rising_cut = subst (λ us. NumbersRiseFrom 0 (items us) next) at.cut kept.rising

      pub looked_up : lookup (items vs) number ≡ Some at.value.item
      looked_up = (λ i. lookup (items (at.cut i)) (sym same i)) ∙ lookup_cut at.before (p, at.value) at.after 0 next rising_cut

      -- once the node there is gone
      pub kept_removed : {head' tail' : Option Place} {ws : Row T} → IsChain head' tail' ws → entries ws ≡ entries (at.before ++ at.after)
          → IsKeptList head' tail' ws (count - 1) next book × (items ws ≡ entries_without (items vs) number)
      kept_removed {ws = ws} chain left =
          let rest : items ws ≡ entries_without (items vs) number =
          ap (map (λ e. e.1)) left ∙ sym ((λ i. entries_without (items (at.cut i)) (sym same i)) ∙ without_cut at.before (p, at.value) at.after 0 next rising_cut) in
          let a = kept.counted in let b = ap length at.cut in let d = length-append at.before ((p, at.value) ∷ at.after) in
          let e : length ws ≡ length (at.before ++ at.after) = sym (length-map ws _) ∙ ap length left ∙ length-map (at.before ++ at.after) _ in let f = length-append at.before at.after in (
            record {
              chain = chain;
              rising = subst (λ es. NumbersRiseFrom 0 es next) (sym rest) (rises_filter _ 0 (items vs) next kept.rising);
              limit = kept.limit;
              counted = omega arith;
              booked = kept.booked;
              lies = subst (LieAsBooked book) (sym left) (booked_without book at.before (p, at.value) at.after (subst (λ us. LieAsBooked book (entries us)) at.cut kept.lies));
            },
            rest,
          )

      -- once its item was written
      pub kept_written : (item : T) {ws : Row T} → ws ≡ changed at (writing item) → IsKeptList head tail ws count next book × (items ws ≡ set_value (λ k. k == number) (items vs) item)
      kept_written item {ws} now =
          let new : items ws ≡ set_value (λ k. k == number) (items vs) item =
          ap items now ∙ sym ((λ i. set_value (λ k. k == sym same i) (items (at.cut i)) item) ∙ set_cut at.before (p, at.value) at.after item 0 next rising_cut) in
          let a = kept.counted in let b = ap length at.cut in let d = length-append at.before ((p, at.value) ∷ at.after) in let e = ap length now in let f = length-append at.before ((p, writing item at.value) ∷ at.after) in (
            record {
              chain = subst (IsChain head tail) (sym now) (chain_written at.before (p, at.value) at.after item head tail (subst (IsChain head tail) at.cut kept.chain));
              rising = subst (λ es. NumbersRiseFrom 0 es next) (sym new) (rises_set (λ k. k == number) item 0 (items vs) next kept.rising);
              limit = kept.limit;
              counted = omega arith;
              booked = kept.booked;
              lies = subst (λ us. LieAsBooked book (entries us)) (sym now) (booked_written book at.before (p, at.value) at.after item (subst (λ us. LieAsBooked book (entries us)) at.cut kept.lies));
            },
            new,
          )

    -- once another node came
    pub kept_grown : (p : Ptr) (item : T) {next' : ℕ} {head' tail' : Option Place} {ws : Row T} → IsChain head' tail' ws → entries ws ≡ entries vs ++ (p, (next, item)) ∷ [] → next' ≡ next + 1 → next < 2 ^ 64
        → IsKeptList head' tail' ws (count + 1) next' (book ++ p ∷ []) × (items ws ≡ items vs ++ (next, item) ∷ [])
    kept_grown p item {ws = ws} chain more after room =
        let new : items ws ≡ items vs ++ (next, item) ∷ [] = ap (map (λ e. e.1)) more ∙ map-append (λ (e : Ptr × (ℕ × T)). e.1) (entries vs) ((p, (next, item)) ∷ []) in
        let a = kept.counted in let b : length ws ≡ length (entries vs) + 1 = sym (length-map ws _) ∙ ap length more ∙ length-append (entries vs) ((p, (next, item)) ∷ []) in let d : length (entries vs) ≡ length vs = length-map vs _ in
        let e = length-append book (p ∷ []) in let f = kept.booked in (
          record {
            chain = chain;
            rising = subst (λ (s : List (ℕ × T) × ℕ). NumbersRiseFrom 0 s.0 s.1) (λ i. (sym new i, sym after i)) (rises_push 0 (items vs) next item kept.rising);
            limit = omega arith;
            counted = omega arith;
            booked = omega arith;
            lies = subst (LieAsBooked (book ++ p ∷ [])) (sym more) (booked_more book (p ∷ []) (entries vs) (p, (next, item)) kept.lies (ap (slice_get (book ++ p ∷ [])) (sym kept.booked) ∙ get_end book p));
          },
          new,
        )

  -- ---- from one place on
  items_at : (p : Place) (xs : Row T) (x : Node T) (ys : Row T) → LieApart (xs ++ (p.ptr, x) ∷ ys) → items_from (Some p) (xs ++ (p.ptr, x) ∷ ys) ≡ (x.number, x.item) ∷ items ys
  items_at p [] x ys d = ap (λ b. cond b (items ((p.ptr, x) ∷ ys)) (items_from (Some p) ys)) (same_ptr_refl p.ptr)
  items_at p (w ∷ xs) x ys d =
      let first = first_apart w xs p.ptr x ys d in
      ap (λ b. cond b (items (w ∷ (xs ++ (p.ptr, x) ∷ ys))) (items_from (Some p) (xs ++ (p.ptr, x) ∷ ys))) first.0 ∙ items_at p xs x ys first.1

  pub items_all : (vs : Row T) → items_from (front vs None) vs ≡ items vs
  items_all [] = refl
  items_all (v ∷ vs) = ap (λ b. cond b (items (v ∷ vs)) (items_from (Some (to_place v.0)) vs)) (same_ptr_refl v.0)

  items_after : (xs : Row T) (v : Ptr × Node T) (ys : Row T) → LieApart (xs ++ v ∷ ys) → items_from (front ys None) (xs ++ v ∷ ys) ≡ items ys
  items_after xs v [] d = refl
  items_after xs v (y ∷ ys) d =
      let e : xs ++ v ∷ y ∷ ys ≡ (xs ++ v ∷ []) ++ y ∷ ys = sym (append_assoc xs (v ∷ []) (y ∷ ys)) in
      ap (items_from (Some (to_place y.0))) e ∙ items_at (to_place y.0) (xs ++ v ∷ []) y.1 ys (subst LieApart e d)

  -- a step to the next node
  pub stepped : {head tail : Option Place} {vs : Row T} {p : Place} {next : Option Place} {node : Node T} → IsChain head tail vs → LieApart vs → (at : IsAt vs p.ptr) → next ≡ at.value.next → node ≡ at.value
      → IfSome next (λ q. IsAt vs q.ptr) × (items_from (Some p) vs ≡ (node.number, node.item) ∷ items_from next vs)
  stepped {head} {tail} {vs} {p} {next} {node} c apart at on read =
      let xs = at.before in let v : Ptr × Node T = (p.ptr, at.value) in let ys = at.after in
      let d = subst LieApart at.cut apart in
      let e : next ≡ front ys None = on ∙ (neighbours head tail xs v ys (subst (IsChain head tail) at.cut c)).1 in
      let whole : vs ≡ (xs ++ v ∷ []) ++ ys = at.cut ∙ sym (append_assoc xs (v ∷ []) ys) in (
        subst (λ (o : Option Place). IfSome o (λ q. IsAt vs q.ptr)) (sym e) (ahead (front ys None) (λ q is. first_stands vs (xs ++ v ∷ []) ys whole q is)),
        ap (items_from (Some p)) at.cut ∙ items_at p xs at.value ys d ∙ (λ i. ((sym read i).number, (sym read i).item) ∷ sym (items_after xs v ys d) i) ∙ (λ i. (node.number, node.item) ∷ items_from (sym e i) (sym at.cut i)),
      )
