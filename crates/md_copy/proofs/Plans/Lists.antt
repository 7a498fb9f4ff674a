-- Lists of devices as contracts see them.
use Rattle.std.proofs.Common.{◌≡◌, ◌∙◌, ℕ, zero, suc, List, [], ◌∷◌, map, remove, get_or, slice_get, Option, Some, None, option_map, refl, sym, ap}
use Rattle.std.proofs.lemmas.Option.{none-some, same_Some, slice_get-map}

module _ {X Y : Type 0} (f : X → Y) where
  pub removed_of : (xs : List X) (i : ℕ) → remove (map f xs) i ≡ map f (remove xs i)
  removed_of [] zero = refl
  removed_of [] (suc i) = refl
  removed_of (x ∷ xs) zero = refl
  removed_of (x ∷ xs) (suc i) = ap (λ ys. f x ∷ ys) (removed_of xs i)

  pub got_of : (xs : List X) (i : ℕ) (d : X) → get_or (map f xs) i (f d) ≡ f (get_or xs i d)
  got_of [] i d = refl
  got_of (x ∷ xs) zero d = refl
  got_of (x ∷ xs) (suc i) d = got_of xs i d

  -- an element of the mapped list is that of one
  pub record IsMapped (xs : List X) (i : ℕ) (y : Y) : Type 0 where
    pub from : X
    pub at : slice_get xs i ≡ Some from
    pub is : f from ≡ y

  mapped_option : (o : Option X) (y : Y) → option_map f o ≡ Some y → (x : X) × (o ≡ Some x) × (f x ≡ y)
  mapped_option None y e = absurd (none-some y e)
  mapped_option (Some x) y e = (x, refl, same_Some (f x) y e)

  pub mapped_from : (xs : List X) (i : ℕ) (y : Y) → slice_get (map f xs) i ≡ Some y → IsMapped xs i y
  mapped_from xs i y e = let h = mapped_option (slice_get xs i) y (sym (slice_get-map f xs i) ∙ e) in record { from = h.0; at = h.1; is = h.2 }

  pub mapped_at : (xs : List X) (i : ℕ) (x : X) → slice_get xs i ≡ Some x → slice_get (map f xs) i ≡ Some (f x)
  mapped_at xs i x e = slice_get-map f xs i ∙ ap (option_map f) e
