-- What moves chunks from one source to another.
use Rattle.std.proofs.Common.{◌≡◌, ◌≢◌, ◌∙◌, ℕ, ◌+◌, ◌<◌, ◌≤◌, Bool, true, false, cond, eqb, List, [], ◌∷◌, ◌++◌, length, get_or, set, refl, sym, ap, subst, arith, ◌⊎◌, inl, inr, get_or-set_other, length-append}
use Rattle.std.specs.List.{HoldsAt, sum_by}
use Rattle.std.proofs.lemmas.Bool.{eq-eqb, ne_eqb, cases_eq}
use Rattle.std.proofs.lemmas.List.{length-set, get_or_append_left}
use Rattle.std.proofs.lemmas.List.Elements.{All-set, All-push}
use Rattle.std.proofs.lemmas.List.Sums.{sum_by-set, sum_by_push}
use Rattle.md_cert.specs.Sources.{has}
use Rattle.md_plan.specs.declared.cell.Cell.{Cell}
use Rattle.md_plan.specs.Cells.{IsMovable, Moves}

-- a number where a test passes
abbrev pub share : Bool → ℕ → ℕ
share b n = cond b n 0

pub share_of : (s : ℕ) (c : Cell) → c.source ≡ s → share (eqb c.source s) c.count ≡ c.count
share_of s c e = ap (λ b. share b c.count) (eq-eqb c.source s e)

pub share_none : (s : ℕ) (c : Cell) → (c.source ≡ s → ⊥) → share (eqb c.source s) c.count ≡ 0
share_none s c e = ap (λ b. share b c.count) (ne_eqb c.source s e)

pub share_le : (b : Bool) (n : ℕ) → share b n ≤ share true n
share_le true n = omega arith
share_le false n = omega arith

share_add : (b : Bool) (n m k : ℕ) → n ≡ m + k → share b n ≡ share b m + share b k
share_add true n m k e = e
share_add false n m k e = refl

-- a cell is replaced by one of the same mask
pub moves_whole : (cells : List Cell) (at : ℕ) (d : Cell) (s t : ℕ) → at < length cells → IsMovable s t (get_or cells at d) → s ≢ t
    → Moves cells (set cells at (record { mask = (get_or cells at d).mask; count = (get_or cells at d).count; source = t; next = (get_or cells at d).next })) s t (get_or cells at d).count
moves_whole cells at d s t within m apart =
    let c = get_or cells at d in
    let y : Cell = record { mask = c.mask; count = c.count; source = t; next = c.next } in
    record {
      counts = λ q. let e = sum_by-set (λ (x : Cell). share (q x.mask) x.count) cells at y d within in omega (arith, e);
      from = let e = sum_by-set (λ (x : Cell). share (eqb x.source s) x.count) cells at y d within in
          omega (arith, e, share_of s c m.source, share_none s y (λ f. apart (sym f)));
      to = let e = sum_by-set (λ (x : Cell). share (eqb x.source t) x.count) cells at y d within in
          omega (arith, e, share_none t c (λ f. apart (sym m.source ∙ f)), share_of t y refl);
      others = λ u not_s not_t. let e = sum_by-set (λ (x : Cell). share (eqb x.source u) x.count) cells at y d within in
          omega (arith, e, share_none u c (λ f. not_s (sym f ∙ m.source)), share_none u y (λ f. not_t (sym f)));
      allowed = λ all. All-set (λ (x : Cell). has x.mask x.source ≡ true) cells at y m.mask all;
      kept = λ u v not_s can.
          let apart_at : can.at ≢ at = λ same. not_s (sym (can.movable d).source ∙ ap (λ n. (get_or cells n d).source) same ∙ m.source) in
          record {
            at = can.at;
            within = let w = can.within in let l = length-set cells at y in omega (arith, w, l);
            movable = λ e. subst (IsMovable u v) (sym (get_or-set_other cells at can.at y e apart_at)) (can.movable e);
          };
    }

pub moves_part : (cells : List Cell) (at : ℕ) (d : Cell) (s t most rest next : ℕ) → at < length cells → IsMovable s t (get_or cells at d) → s ≢ t → rest + most ≡ (get_or cells at d).count
    → Moves cells (set (cells ++ record { mask = (get_or cells at d).mask; count = most; source = t; next = (get_or cells at d).next } ∷ []) at (record { mask = (get_or cells at d).mask; count = rest; source = (get_or cells at d).source; next = next })) s t most
moves_part cells at d s t most rest next within m apart parts =
    let c = get_or cells at d in
    let x : Cell = record { mask = c.mask; count = most; source = t; next = c.next } in
    let y : Cell = record { mask = c.mask; count = rest; source = c.source; next = next } in
    let long : length (cells ++ x ∷ []) ≡ length cells + 1 = length-append cells (x ∷ []) in
    let within' : at < length (cells ++ x ∷ []) = omega arith in
    let old : get_or (cells ++ x ∷ []) at d ≡ c = get_or_append_left cells (x ∷ []) d at within in
    let sums : (f : Cell → ℕ) → sum_by f (set (cells ++ x ∷ []) at y) + f c ≡ (sum_by f cells + f x) + f y = λ f.
    let e = sum_by-set f (cells ++ x ∷ []) at y d within' in
    let p = sum_by_push f cells x in
    let o = ap f old in
    omega (arith, e, p, o) in
    record {
      counts = λ q. let e = sums (λ (z : Cell). share (q z.mask) z.count) in
          let joined : share (q c.mask) c.count ≡ share (q c.mask) most + share (q c.mask) rest = share_add (q c.mask) c.count most rest (omega arith) in
          omega (arith, e, joined);
      from = let e = sums (λ (z : Cell). share (eqb z.source s) z.count) in
          omega (arith, e, share_of s c m.source, share_none s x (λ f. apart (sym f)), share_of s y m.source);
      to = let e = sums (λ (z : Cell). share (eqb z.source t) z.count) in
          omega (arith, e, share_none t c (λ f. apart (sym m.source ∙ f)), share_of t x refl, share_none t y (λ f. apart (sym m.source ∙ f)));
      others = λ u not_s not_t. let e = sums (λ (z : Cell). share (eqb z.source u) z.count) in
          omega (arith, e, share_none u c (λ f. not_s (sym f ∙ m.source)), share_none u x (λ f. not_t (sym f)), share_none u y (λ f. not_s (sym f ∙ m.source)));
      allowed = λ all. All-set (λ (z : Cell). has z.mask z.source ≡ true) (cells ++ x ∷ []) at y (all at d within) (All-push (λ (z : Cell). has z.mask z.source ≡ true) cells x all m.mask);
      kept = λ u v not_s can.
          let apart_at : can.at ≢ at = λ same. not_s (sym (can.movable d).source ∙ ap (λ n. (get_or cells n d).source) same ∙ m.source) in
          record {
            at = can.at;
            within = let w = can.within in let l = length-set (cells ++ x ∷ []) at y in omega (arith, w, l, long);
            movable = λ e. subst (IsMovable u v) (sym (get_or-set_other (cells ++ x ∷ []) at can.at y e apart_at ∙ get_or_append_left cells (x ∷ []) e can.at can.within)) (can.movable e);
          };
    }

pub moves_none : (cells : List Cell) (s t : ℕ) → Moves cells cells s t 0
moves_none cells s t = record {
  counts = λ q. refl;
  from = omega arith;
  to = omega arith;
  others = λ u a b. refl;
  allowed = λ all. all;
  kept = λ u v a can. can;
}

pub moves_more : (a b c : List Cell) (s t m n : ℕ) → Moves a b s t m → Moves b c s t n → Moves a c s t (m + n)
moves_more a b c s t m n x y = record {
  counts = λ q. y.counts q ∙ x.counts q;
  from = let e = x.from in let f = y.from in omega (arith, e, f);
  to = let e = x.to in let f = y.to in omega (arith, e, f);
  others = λ u p q. y.others u p q ∙ x.others u p q;
  allowed = λ all. y.allowed (x.allowed all);
  kept = λ u v p can. y.kept u v p (x.kept u v p can);
}

pub along : {A B : Type 0} (P : A → B → Type 0) (a a' : A) (b b' : B) → a ≡ a' → b ≡ b' → P a b → P a' b'
along P a a' b b' e f h = subst (λ x. P x b') e (subst (λ y. P a y) f h)

-- a movable cell from an index on, one further
pub skip : (cells : List Cell) (at end s t moved : ℕ) → (HoldsAt (IsMovable s t) cells at → ⊥) → (0 < moved) ⊎ ((k : ℕ) × (at ≤ k) × (k < end) × HoldsAt (IsMovable s t) cells k)
    → (0 < moved) ⊎ ((k : ℕ) × (at + 1 ≤ k) × (k < end) × HoldsAt (IsMovable s t) cells k)
skip cells at end s t moved none (inl some) = inl some
skip cells at end s t moved none (inr later) = elim (cases_eq later.0 at) [
  | inl same ↦ absurd (none (subst (HoldsAt (IsMovable s t) cells) same later.3))
  | inr other ↦ let from : at ≤ later.0 = later.1 in inr (later.0, omega arith, later.2, later.3)
]
