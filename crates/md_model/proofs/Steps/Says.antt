-- What a recovering member's superblock says that it has.
use Rattle.std.proofs.Common.{◌≡◌, ℕ, ◌<◌, ◌≤◌, Bool, true, false, ◌&&◌, refl, sym, ap, true≢false, arith}
use Rattle.std.specs.Prelude.{nat_lt}
use Rattle.std.proofs.lemmas.Bool.{and_from, and_parts}
use Rattle.std.proofs.lemmas.Bool.Decides.{nat_tests}
use Rattle.md_model.specs.States.{is_recovering}
use Rattle.md_model.specs.Worlds.{World}
use Rattle.md_model.specs.Steps.{says_of}
use Rattle.md_model.proofs.Cases.{below-nat_lt, is_below, not_below}

off_right : (a b : Bool) → b ≡ false → (a && b) ≡ false
off_right true b e = e
off_right false b e = refl

on_left : (a b : Bool) → (a && b) ≡ false → a ≡ true → b ≡ false
on_left true b e on = e
on_left false b e on = absurd (true≢false (sym on))

none_below : (s n : ℕ) → n ≡ 0 → nat_lt s n ≡ false
none_below s n e = grind (arith, nat_tests)

module _ (w : World) (s k : ℕ) where
  -- nothing, where it is not recovering, or its superblock has the offset 0
  pub says_none : is_recovering (w.state k) ≡ false → says_of w s k ≡ false
  says_none out = ap (λ b. b && nat_lt s (w.stored_offset k)) out

  pub says_none_yet : w.stored_offset k ≡ 0 → says_of w s k ≡ false
  says_none_yet first = off_right (is_recovering (w.state k)) (nat_lt s (w.stored_offset k)) (none_below s (w.stored_offset k) first)

  -- what lies below its offset, and nothing else
  pub said_below : says_of w s k ≡ true → (is_recovering (w.state k) ≡ true) × (s < w.stored_offset k)
  said_below says = let x = and_parts (is_recovering (w.state k)) (nat_lt s (w.stored_offset k)) says in (x.0, is_below s (w.stored_offset k) x.1)

  pub below_said : is_recovering (w.state k) ≡ true → s < w.stored_offset k → says_of w s k ≡ true
  below_said on low = and_from (is_recovering (w.state k)) (nat_lt s (w.stored_offset k)) on (below-nat_lt s (w.stored_offset k) low)

  pub unsaid_above : says_of w s k ≡ false → is_recovering (w.state k) ≡ true → w.stored_offset k ≤ s
  unsaid_above says on = not_below s (w.stored_offset k) (on_left (is_recovering (w.state k)) (nat_lt s (w.stored_offset k)) says on)
