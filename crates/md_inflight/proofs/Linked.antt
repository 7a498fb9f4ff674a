-- What becomes of a chain where a node comes or goes.
use Rattle.std.proofs.Common.{◌≡◌, ◌<◌, length, arith, List, [], ◌∷◌, ◌++◌, Option, Some, None, refl, sym, ap, ◌∙◌, subst, append_assoc}
use Rattle.std.proofs.lemmas.List.{map-append, length-map, length-append}
use denote.RawPtr.{Ptr}
use Rattle.md_inflight.specs.Placed.{LieApart, IsAt}
use Rattle.md_inflight.specs.Linked.{to_place, front, back, entries, AreLinked, IsChain}
use Rattle.md_inflight.specs.declared.place.Place.{Place}
use Rattle.md_inflight.specs.declared.node.Node.{Node}
use Rattle.md_inflight.proofs.Places.{changed, changed_once}

some_same : {p q : Place} → Some p ≡ Some q → p ≡ q
some_same e = cc

-- the end of a chain, where a neighbour there may be: without one it is the new place
abbrev pub end_beside : Option Place → Option Place → Option Place → Option Place
end_beside None new old = new
end_beside (Some p) new old = old

abbrev Row : Type 0 → Type 0
Row T = List (Ptr × Node T)

module _ {T : Type 0} where
  -- a node with another link
  abbrev pub before_node : Option Place → Node T → Node T
  before_node next node = record node { next = next }

  abbrev pub after_node : Option Place → Node T → Node T
  after_node prev node = record node { prev = prev }

  -- a row whose last node leads to this place, or whose first one leads back to it
  abbrev pub leading_to : Option Place → Row T → Row T
  leading_to next [] = []
  leading_to next (v ∷ []) = (v.0, before_node next v.1) ∷ []
  leading_to next (v ∷ w ∷ vs) = v ∷ leading_to next (w ∷ vs)

  abbrev pub coming_from : Option Place → Row T → Row T
  coming_from prev [] = []
  coming_from prev (v ∷ vs) = (v.0, after_node prev v.1) ∷ vs

  front_append : (xs ys : Row T) (after : Option Place) → front (xs ++ ys) after ≡ front xs (front ys after)
  front_append [] ys after = refl
  front_append (x ∷ xs) ys after = refl

  back_append : (before : Option Place) (xs ys : Row T) → back before (xs ++ ys) ≡ back (back before xs) ys
  back_append before [] ys = refl
  back_append before (x ∷ xs) ys = back_append (Some (to_place x.0)) xs ys

  linked_left : (before : Option Place) (xs ys : Row T) (after : Option Place) → AreLinked before (xs ++ ys) after → AreLinked before xs (front ys after)
  linked_left before [] ys after l = tt
  linked_left before (x ∷ xs) ys after l = (l.0, l.1 ∙ front_append xs ys after, linked_left (Some (to_place x.0)) xs ys after l.2)

  linked_right : (before : Option Place) (xs ys : Row T) (after : Option Place) → AreLinked before (xs ++ ys) after → AreLinked (back before xs) ys after
  linked_right before [] ys after l = l
  linked_right before (x ∷ xs) ys after l = linked_right (Some (to_place x.0)) xs ys after l.2

  linked_both : (before : Option Place) (xs ys : Row T) (after : Option Place) → AreLinked before xs (front ys after) → AreLinked (back before xs) ys after → AreLinked before (xs ++ ys) after
  linked_both before [] ys after l m = m
  linked_both before (x ∷ xs) ys after l m = (l.0, l.1 ∙ sym (front_append xs ys after), linked_both (Some (to_place x.0)) xs ys after l.2 m)

  leading_front : (next : Option Place) (x : Ptr × Node T) (xs : Row T) (after : Option Place) → front (leading_to next (x ∷ xs)) after ≡ Some (to_place x.0)
  leading_front next x [] after = refl
  leading_front next x (w ∷ xs) after = refl

  -- only the last link changes
  leading_linked : (next before : Option Place) (xs : Row T) (after : Option Place) → AreLinked before xs after → AreLinked before (leading_to next xs) next
  leading_linked next before [] after l = tt
  leading_linked next before (x ∷ []) after l = (l.0, refl, tt)
  leading_linked next before (x ∷ w ∷ xs) after l = (l.0, l.1 ∙ sym (leading_front next w xs next), leading_linked next (Some (to_place x.0)) (w ∷ xs) after l.2)

  leading_back : (next before : Option Place) (xs : Row T) → back before (leading_to next xs) ≡ back before xs
  leading_back next before [] = refl
  leading_back next before (x ∷ []) = refl
  leading_back next before (x ∷ w ∷ xs) = leading_back next (Some (to_place x.0)) (w ∷ xs)

  leading_entries : (next : Option Place) (xs : Row T) → entries (leading_to next xs) ≡ entries xs
  leading_entries next [] = refl
  leading_entries next (x ∷ []) = refl
  leading_entries next (x ∷ w ∷ xs) = ap (λ es. (x.0, (x.1.number, x.1.item)) ∷ es) (leading_entries next (w ∷ xs))

  coming_linked : (prev before : Option Place) (ys : Row T) (after : Option Place) → AreLinked before ys after → AreLinked prev (coming_from prev ys) after
  coming_linked prev before [] after l = tt
  coming_linked prev before (y ∷ ys) after l = (refl, l.1, l.2)

  coming_front : (prev : Option Place) (ys : Row T) (after : Option Place) → front (coming_from prev ys) after ≡ front ys after
  coming_front prev [] after = refl
  coming_front prev (y ∷ ys) after = refl

  coming_entries : (prev : Option Place) (ys : Row T) → entries (coming_from prev ys) ≡ entries ys
  coming_entries prev [] = refl
  coming_entries prev (y ∷ ys) = refl

  -- two rows that are made to meet are one chain
  abbrev pub meeting : Row T → Row T → Row T
  meeting xs ys = leading_to (front ys None) xs ++ coming_from (back None xs) ys

  meeting_linked : (xs ys : Row T) (after before : Option Place) → AreLinked None xs after → AreLinked before ys None → AreLinked None (meeting xs ys) None
  meeting_linked xs ys after before l m =
      let n = front ys None in let p = back None xs in
      linked_both None (leading_to n xs) (coming_from p ys) None
      (subst (AreLinked None (leading_to n xs)) (sym (coming_front p ys None)) (leading_linked n None xs after l))
      (subst (λ b. AreLinked b (coming_from p ys) None) (sym (leading_back n None xs)) (coming_linked p before ys None m))

  meeting_entries : (xs ys : Row T) → entries (meeting xs ys) ≡ entries (xs ++ ys)
  meeting_entries xs ys =
      map-append _ (leading_to (front ys None) xs) (coming_from (back None xs) ys) ∙ (λ i. leading_entries (front ys None) xs i ++ coming_entries (back None xs) ys i) ∙ sym (map-append _ xs ys)

  -- the last node of a row, where one is known to stand there
  record Last (xs : Row T) (p : Place) : Type 0 where
    pub others : Row T
    pub node : Node T
    pub cut : xs ≡ others ++ (p.ptr, node) ∷ []
    pub leads : (next : Option Place) → leading_to next xs ≡ others ++ (p.ptr, before_node next node) ∷ []

  last_of : (before : Option Place) (x : Ptr × Node T) (xs : Row T) (p : Place) → back before (x ∷ xs) ≡ Some p → Last (x ∷ xs) p
  last_of before x [] p e = let same : x.0 ≡ p.ptr = ap (λ (q : Place). q.ptr) (some_same e) in record {
    others = [];
    node = x.1;
    cut = λ i. (same i, x.1) ∷ [];
    leads = λ next i. (same i, before_node next x.1) ∷ [];
  }
  last_of before x (w ∷ xs) p e = let on = last_of (Some (to_place x.0)) w xs p e in record {
    others = x ∷ on.others;
    node = on.node;
    cut = ap (λ us. x ∷ us) on.cut;
    leads = λ next. ap (λ us. x ∷ us) (on.leads next);
  }

  last_node : (xs : Row T) (p : Place) → back None xs ≡ Some p → Last xs p
  last_node [] p e = absurd (let none : None ≡ Some p = e in cc)
  last_node (x ∷ xs) p e = last_of None x xs p e

  -- it stands in the row, and to write its link is to make the row lead there
  pub last_stands : (vs xs ys : Row T) → vs ≡ xs ++ ys → (p : Place) → back None xs ≡ Some p → IsAt vs p.ptr
  last_stands vs xs ys whole p e = let last = last_node xs p e in record {
    before = last.others;
    value = last.node;
    after = ys;
    cut = whole ∙ ap (λ us. us ++ ys) last.cut ∙ append_assoc last.others ((p.ptr, last.node) ∷ []) ys;
  }

  pub last_leads : (vs xs ys : Row T) → vs ≡ xs ++ ys → (p : Place) → back None xs ≡ Some p → LieApart vs → (at : IsAt vs p.ptr) (next : Option Place) → changed at (before_node next) ≡ leading_to next xs ++ ys
  unfolding last_stands last_node
  last_leads vs xs ys whole p e apart at next =
      let last = last_node xs p e in
      changed_once at (last_stands vs xs ys whole p e) apart (before_node next) ∙ sym (ap (λ us. us ++ ys) (last.leads next) ∙ append_assoc last.others ((p.ptr, before_node next last.node) ∷ []) ys)

  -- the same of the first node of a row
  record First (ys : Row T) (p : Place) : Type 0 where
    pub others : Row T
    pub node : Node T
    pub cut : ys ≡ (p.ptr, node) ∷ others
    pub comes : (prev : Option Place) → coming_from prev ys ≡ (p.ptr, after_node prev node) ∷ others

  first_node : (ys : Row T) (p : Place) → front ys None ≡ Some p → First ys p
  first_node [] p e = absurd (let none : None ≡ Some p = e in cc)
  first_node (y ∷ ys) p e = let same : y.0 ≡ p.ptr = ap (λ (q : Place). q.ptr) (some_same e) in record {
    others = ys;
    node = y.1;
    cut = λ i. (same i, y.1) ∷ ys;
    comes = λ prev i. (same i, after_node prev y.1) ∷ ys;
  }

  pub first_stands : (vs xs ys : Row T) → vs ≡ xs ++ ys → (p : Place) → front ys None ≡ Some p → IsAt vs p.ptr
  first_stands vs xs ys whole p e = let first = first_node ys p e in record { before = xs; value = first.node; after = first.others; cut = whole ∙ ap (λ us. xs ++ us) first.cut }

  pub first_comes : (vs xs ys : Row T) → vs ≡ xs ++ ys → (p : Place) → front ys None ≡ Some p → LieApart vs → (at : IsAt vs p.ptr) (prev : Option Place) → changed at (after_node prev) ≡ xs ++ coming_from prev ys
  unfolding first_stands
  first_comes vs xs ys whole p e apart at prev =
      changed_once at (first_stands vs xs ys whole p e) apart (after_node prev) ∙ sym (ap (λ us. xs ++ us) ((first_node ys p e).comes prev))

  -- beside some node an end stays
  beside_last : (before : Option Place) (x : Ptr × Node T) (xs : Row T) (new old : Option Place) → end_beside (back before (x ∷ xs)) new old ≡ old
  beside_last before x [] new old = refl
  beside_last before x (w ∷ xs) new old = beside_last (Some (to_place x.0)) w xs new old

  some_last : (before : Option Place) (x : Ptr × Node T) (xs : Row T) → back before (x ∷ xs) ≡ None → ⊥
  some_last before x [] e = let none : Some (to_place x.0) ≡ None = e in cc
  some_last before x (w ∷ xs) e = some_last (Some (to_place x.0)) w xs e

  -- a row with no last node is empty, and one with no first
  backless : (xs : Row T) → back None xs ≡ None → xs ≡ []
  backless [] e = refl
  backless (x ∷ xs) e = absurd (some_last None x xs e)

  frontless : (ys : Row T) → front ys None ≡ None → ys ≡ []
  frontless [] e = refl
  frontless (y ∷ ys) e = absurd (let none : Some (to_place y.0) ≡ None = e in cc)

  pub none_leads : (xs : Row T) → back None xs ≡ None → (next : Option Place) → leading_to next xs ≡ xs
  none_leads xs e next = let empty = backless xs e in ap (leading_to next) empty ∙ sym empty

  pub none_comes : (ys : Row T) → front ys None ≡ None → (prev : Option Place) → coming_from prev ys ≡ ys
  none_comes ys e prev = let empty = frontless ys e in ap (coming_from prev) empty ∙ sym empty

  -- ---- a node comes in after the last
  grown_front : (xs : Row T) (p : Option Place) → end_beside (back None xs) p (front xs None) ≡ front (leading_to p xs) p
  grown_front [] p = refl
  grown_front (x ∷ xs) p = beside_last None x xs p (Some (to_place x.0)) ∙ sym (leading_front p x xs p)

  pub chain_grown : (head tail : Option Place) (vs : Row T) (v : Ptr × Node T) (new : Option Place) (ws : Row T) → IsChain head tail vs → v.1.prev ≡ tail → v.1.next ≡ None
      → new ≡ end_beside tail (Some (to_place v.0)) head → ws ≡ leading_to (Some (to_place v.0)) vs ++ v ∷ []
      → IsChain new (Some (to_place v.0)) ws × (entries ws ≡ entries vs ++ (v.0, (v.1.number, v.1.item)) ∷ [])
  chain_grown head tail vs v new ws c prev next ends now =
      let p = Some (to_place v.0) in
      let alone : v ∷ [] ≡ coming_from (back None vs) (v ∷ []) = λ i. (v.0, record v.1 { prev = (prev ∙ c.last) i }) ∷ [] in
      let is : ws ≡ meeting vs (v ∷ []) = now ∙ ap (λ us. leading_to p vs ++ us) alone in (
        record {
          first = ends ∙ (λ i. end_beside (c.last i) p (c.first i)) ∙ grown_front vs p ∙ sym (ap (λ us. front us None) now ∙ front_append (leading_to p vs) (v ∷ []) None);
          last = sym (ap (back None) now ∙ back_append None (leading_to p vs) (v ∷ []));
          linked = subst (λ us. AreLinked None us None) (sym is) (meeting_linked vs (v ∷ []) None (back None vs) c.linked (prev ∙ c.last, next, tt));
        },
        ap entries is ∙ meeting_entries vs (v ∷ []) ∙ map-append _ vs (v ∷ []),
      )

  -- ---- a node goes
  -- what the neighbours of a node are
  pub neighbours : (head tail : Option Place) (xs : Row T) (v : Ptr × Node T) (ys : Row T) → IsChain head tail (xs ++ v ∷ ys) → (v.1.prev ≡ back None xs) × (v.1.next ≡ front ys None)
  neighbours head tail xs v ys c = let here = linked_right None xs (v ∷ ys) None c.linked in (here.0, here.1)

  shrunk_front : (xs ys : Row T) (o p : Option Place) → end_beside (back None xs) (front ys None) (front xs o) ≡ front (leading_to (front ys None) xs ++ coming_from p ys) None
  shrunk_front [] ys o p = sym (coming_front p ys None)
  shrunk_front (x ∷ xs) ys o p =
      let n = front ys None in beside_last None x xs n (Some (to_place x.0)) ∙ sym (front_append (leading_to n (x ∷ xs)) (coming_from p ys) None ∙ leading_front n x xs _)

  shrunk_back : (ys : Row T) (o p : Option Place) → end_beside (front ys None) p (back o ys) ≡ back p (coming_from p ys)
  shrunk_back [] o p = refl
  shrunk_back (y ∷ ys) o p = refl

  pub chain_shrunk : (head tail : Option Place) (xs : Row T) (v : Ptr × Node T) (ys : Row T) (new_head new_tail : Option Place) (ws : Row T) → IsChain head tail (xs ++ v ∷ ys)
      → new_head ≡ end_beside v.1.prev v.1.next head → new_tail ≡ end_beside v.1.next v.1.prev tail → ws ≡ leading_to v.1.next xs ++ coming_from v.1.prev ys
      → IsChain new_head new_tail ws × (entries ws ≡ entries (xs ++ ys))
  chain_shrunk head tail xs v ys new_head new_tail ws c heads tails now =
      let beside = neighbours head tail xs v ys c in
      let is : ws ≡ meeting xs ys = now ∙ (λ i. leading_to (beside.1 i) xs ++ coming_from (beside.0 i) ys) in (
        record {
          first = heads ∙ (λ i. end_beside (beside.0 i) (beside.1 i) ((c.first ∙ front_append xs (v ∷ ys) None) i)) ∙ shrunk_front xs ys (Some (to_place v.0)) (back None xs) ∙ sym (ap (λ us. front us None) is);
          last = tails ∙ (λ i. end_beside (beside.1 i) (beside.0 i) ((c.last ∙ back_append None xs (v ∷ ys)) i)) ∙ shrunk_back ys (Some (to_place v.0)) (back None xs) ∙ sym (ap (back None) is ∙ back_append None (leading_to (front ys None) xs) (coming_from (back None xs) ys)
              ∙ ap (λ b. back b (coming_from (back None xs) ys)) (leading_back (front ys None) None xs));
          linked = subst (λ us. AreLinked None us None) (sym is) (meeting_linked xs ys (Some (to_place v.0)) (Some (to_place v.0)) (linked_left None xs (v ∷ ys) None c.linked) (linked_right None xs (v ∷ ys) None c.linked).2);
        },
        ap entries is ∙ meeting_entries xs ys,
      )

  -- ---- the first node of a chain
  pub head_stands : (head tail : Option Place) (vs : Row T) (place : Place) → IsChain head tail vs → head ≡ Some place → IsAt vs place.ptr
  head_stands head tail vs place c is = first_stands vs [] vs refl place (sym c.first ∙ is)

  pub headless : (head tail : Option Place) (vs : Row T) → IsChain head tail vs → head ≡ None → vs ≡ []
  headless head tail vs c is = frontless vs (sym c.first ∙ is)

  -- one node less
  pub shorter : (vs : Row T) (p : Ptr) (at : IsAt vs p) (ws : Row T) → entries ws ≡ entries (at.before ++ at.after) → length ws < length vs
  shorter vs p at ws left =
      let a : length ws ≡ length (at.before ++ at.after) = sym (length-map ws _) ∙ ap length left ∙ length-map (at.before ++ at.after) _ in
      let b = length-append at.before at.after in let d = length-append at.before ((p, at.value) ∷ at.after) in let e = ap length at.cut in omega arith
