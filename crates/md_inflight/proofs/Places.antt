-- Where values lie apart, an address names one of them.
use Rattle.std.proofs.Common.{◌≡◌, Bool, true, false, ◌&&◌, ◌==◌, cond, List, [], ◌∷◌, ◌++◌, refl, sym, ap, ◌∙◌, subst, true≢false, T, eqb→eq}
use Rattle.std.specs.List.{IsDistinct}
use lib.Dec.{eqb_refl}
use denote.RawPtr.{Ptr, block_ptr, null_ptr}
use Rattle.md_inflight.specs.Placed.{same_ptr, LieElsewhere, LieApart, IsAt, AtPlace, change_at, apart_change}

is_true : (b : Bool) → T b → b ≡ true
is_true true t = refl
is_true false t = absurd t

both : (x y : Bool) → (x && y) ≡ true → T x × T y
both true true e = (tt, tt)
both true false e = cc
both false y e = cc

pub same_ptr_refl : (p : Ptr) → same_ptr p p ≡ true
same_ptr_refl null_ptr = refl
same_ptr_refl (block_ptr b o) = λ i. is_true (b == b) (eqb_refl b) i && is_true (o == o) (eqb_refl o) i

pub same_ptr_eq : (p q : Ptr) → same_ptr p q ≡ true → p ≡ q
same_ptr_eq null_ptr null_ptr e = refl
same_ptr_eq null_ptr (block_ptr b o) e = cc
same_ptr_eq (block_ptr b o) null_ptr e = cc
same_ptr_eq (block_ptr b o) (block_ptr c p) e = let each = both (b == c) (o == p) e in λ i. block_ptr (eqb→eq b c each.0 i) (eqb→eq o p each.1 i)

-- two that differ one way differ the other way
pub differ_back : (p q : Ptr) → same_ptr p q ≡ false → same_ptr q p ≡ false
differ_back p q e = by (same_ptr q p) (same_ptr_eq q p)
  where
    by : (b : Bool) → (b ≡ true → q ≡ p) → b ≡ false
    by false same = refl
    by true same = absurd (true≢false (sym (same_ptr_refl p) ∙ subst (λ r. same_ptr p r ≡ false) (same refl) e))

pub apart_none : (X : Type 0) → LieApart {X = X} []
unfolding IsDistinct
apart_none X = tt

module _ {X : Type 0} where
  pub elsewhere_left : (p : Ptr) (xs ys : List (Ptr × X)) → LieElsewhere p (xs ++ ys) → LieElsewhere p xs
  elsewhere_left p [] ys e = tt
  elsewhere_left p (x ∷ xs) ys e = (e.0, elsewhere_left p xs ys e.1)

  pub elsewhere_right : (p : Ptr) (xs ys : List (Ptr × X)) → LieElsewhere p (xs ++ ys) → LieElsewhere p ys
  elsewhere_right p [] ys e = e
  elsewhere_right p (x ∷ xs) ys e = elsewhere_right p xs ys e.1

  elsewhere_both : (p : Ptr) (xs ys : List (Ptr × X)) → LieElsewhere p xs → LieElsewhere p ys → LieElsewhere p (xs ++ ys)
  elsewhere_both p [] ys e f = f
  elsewhere_both p (x ∷ xs) ys e f = (e.0, elsewhere_both p xs ys e.1 f)

  -- the others lie elsewhere, and apart from one another
  others_elsewhere : (p : Ptr) (xs : List (Ptr × X)) (x : X) (ys : List (Ptr × X)) → LieApart (xs ++ (p, x) ∷ ys) → LieElsewhere p (xs ++ ys)
  unfolding IsDistinct
  others_elsewhere p [] x ys d = d.0
  others_elsewhere p (w ∷ xs) x ys d = (differ_back w.0 p (elsewhere_right w.0 xs ((p, x) ∷ ys) d.0).0, others_elsewhere p xs x ys d.1)

  others_apart : (p : Ptr) (xs : List (Ptr × X)) (x : X) (ys : List (Ptr × X)) → LieApart (xs ++ (p, x) ∷ ys) → LieApart (xs ++ ys)
  unfolding IsDistinct
  others_apart p [] x ys d = d.1
  others_apart p (w ∷ xs) x ys d =
      (elsewhere_both w.0 xs ys (elsewhere_left w.0 xs ((p, x) ∷ ys) d.0) (elsewhere_right w.0 xs ((p, x) ∷ ys) d.0).1, others_apart p xs x ys d.1)

  -- one more, that lies elsewhere
  pub apart_more : (xs : List (Ptr × X)) (v : Ptr × X) → LieElsewhere v.0 xs → LieApart xs → LieApart (xs ++ v ∷ [])
  unfolding IsDistinct
  apart_more [] v e d = (tt, tt)
  apart_more (w ∷ xs) v e d = (elsewhere_both w.0 xs (v ∷ []) d.0 (differ_back v.0 w.0 e.0, tt), apart_more xs v e.1 d.1)

  -- the first lies apart from a later one
  pub first_apart : (w : Ptr × X) (xs : List (Ptr × X)) (p : Ptr) (x : X) (ys : List (Ptr × X)) → LieApart (w ∷ (xs ++ (p, x) ∷ ys)) → (same_ptr p w.0 ≡ false) × LieApart (xs ++ (p, x) ∷ ys)
  unfolding IsDistinct
  first_apart w xs p x ys d = (differ_back w.0 p (elsewhere_right w.0 xs ((p, x) ∷ ys) d.0).0, d.1)

  here_not_elsewhere : (p : Ptr) (xs : List (Ptr × X)) (x : X) (ys : List (Ptr × X)) → LieElsewhere p (xs ++ (p, x) ∷ ys) → ⊥
  here_not_elsewhere p xs x ys e = true≢false (sym (same_ptr_refl p) ∙ (elsewhere_right p xs ((p, x) ∷ ys) e).0)

  -- two cuts at one address are the same cut
  same_cut : (p : Ptr) (xs : List (Ptr × X)) (x : X) (ys us : List (Ptr × X)) (u : X) (zs : List (Ptr × X)) → LieApart (xs ++ (p, x) ∷ ys) → xs ++ (p, x) ∷ ys ≡ us ++ (p, u) ∷ zs
      → (xs ≡ us) × (x ≡ u) × (ys ≡ zs)
  unfolding IsDistinct
  same_cut p [] x ys [] u zs d e = let v : Ptr × X = (p, x) in let w : Ptr × X = (p, u) in let here : v ≡ w = cc in let rest : ys ≡ zs = cc in (refl, ap (λ (v : Ptr × X). v.1) here, rest)
  same_cut p [] x ys (v ∷ us) u zs d e = let rest : ys ≡ us ++ (p, u) ∷ zs = cc in absurd (here_not_elsewhere p us u zs (subst (LieElsewhere p) rest d.0))
  same_cut p (w ∷ xs) x ys [] u zs d e = let first : w ≡ (p, u) = cc in absurd (here_not_elsewhere p xs x ys (subst (λ (v : Ptr × X). LieElsewhere v.0 (xs ++ (p, x) ∷ ys)) first d.0))
  same_cut p (w ∷ xs) x ys (v ∷ us) u zs d e =
      let first : w ≡ v = cc in let rest : xs ++ (p, x) ∷ ys ≡ us ++ (p, u) ∷ zs = cc in
      let on = same_cut p xs x ys us u zs d.1 rest in ((λ i. first i ∷ on.0 i), on.1, on.2)

  change_elsewhere : (p : Ptr) (f : X → X) (vs : List (Ptr × X)) → LieElsewhere p vs → change_at p f vs ≡ vs
  change_elsewhere p f [] e = refl
  change_elsewhere p f (v ∷ vs) e = λ i. (v.0, cond (e.0 i) (f v.1) v.1) ∷ change_elsewhere p f vs e.1 i

  change_cut : (p : Ptr) (f : X → X) (xs : List (Ptr × X)) (x : X) (ys : List (Ptr × X)) → LieApart (xs ++ (p, x) ∷ ys) → change_at p f (xs ++ (p, x) ∷ ys) ≡ xs ++ (p, f x) ∷ ys
  unfolding IsDistinct
  change_cut p f [] x ys d = λ i. (p, cond (same_ptr_refl p i) (f x) x) ∷ change_elsewhere p f ys d.0 i
  change_cut p f (w ∷ xs) x ys d = let first = first_apart w xs p x ys d in λ i. (w.0, cond (first.0 i) (f w.1) w.1) ∷ change_cut p f xs x ys first.1 i

  module _ {vs : List (Ptr × X)} {p : Ptr} (at : IsAt vs p) where
    abbrev pub others : List (Ptr × X)
    others = at.before ++ at.after

    -- the values, with f of the one that lies there
    abbrev pub changed : (X → X) → List (Ptr × X)
    changed f = at.before ++ (p, f at.value) ∷ at.after

    module _ (d : LieApart vs) where
      cut_apart : LieApart (at.before ++ (p, at.value) ∷ at.after)
      cut_apart = subst LieApart at.cut d

      pub left_apart : LieApart others
      left_apart = others_apart p at.before at.value at.after cut_apart

      -- what is said of the value there is said of this one
      pub at_place : (P : List (Ptr × X) → X → List (Ptr × X) → Type 0) → P at.before at.value at.after → AtPlace vs p P
      at_place P holds us u zs cut =
          let same = same_cut p at.before at.value at.after us u zs cut_apart (sym at.cut ∙ cut) in
          subst (λ (s : List (Ptr × X) × X × List (Ptr × X)). P s.0 s.1 s.2) (λ i. (same.0 i, same.1 i, same.2 i)) holds

      pub changed_is : (f : X → X) → changed f ≡ change_at p f vs
      changed_is f = sym (ap (change_at p f) at.cut ∙ change_cut p f at.before at.value at.after cut_apart)

      pub changed_apart : (f : X → X) → LieApart (changed f)
      changed_apart f = subst LieApart (sym (changed_is f)) (apart_change p f vs d)

  -- one value is changed, whichever cut shows it
  pub changed_once : {vs : List (Ptr × X)} {p : Ptr} (at on : IsAt vs p) → LieApart vs → (f : X → X) → changed at f ≡ changed on f
  changed_once at on d f = changed_is at d f ∙ sym (changed_is on d f)
