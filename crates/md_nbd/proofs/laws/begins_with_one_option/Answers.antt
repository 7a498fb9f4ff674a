use Rattle.std.proofs.Common.{◌≡◌, ℕ, List, ◌++◌, length, take, drop, refl, sym, ap, ◌∙◌, append_assoc, arith}
use Rattle.std.specs.Int.{w32, w64, to_be_bytes}
use Rattle.std.proofs.lemmas.List.{take_at, drop_at}
use Rattle.md_nbd.specs.Options.{option_magic}
use Rattle.md_nbd.proofs.NumbersInFront.{same4, same8}
use Rattle.md_nbd.proofs.laws.begins_with_one_option.Goals as goal

regroup : (a b c d x : List ℕ) → (((a ++ b) ++ c) ++ d) ++ x ≡ a ++ (b ++ (c ++ (d ++ x)))
regroup a b c d x = simp append_assoc

same_front : (c d x y : List ℕ) → length c ≡ length d → c ++ x ≡ d ++ y → (c ≡ d) × (x ≡ y)
same_front c d x y n e =
    (sym (take_at c x (length d) n) ∙ ap (take (length d)) e ∙ take_at d y (length d) refl, sym (drop_at c x (length d) n) ∙ ap (drop (length d)) e ∙ drop_at d y (length d) refl)

pub returns : goal.returns
returns c = λ a b c d x y ha hb hc hd e.
    let parts = sym (regroup (to_be_bytes w64 option_magic) (to_be_bytes w32 a) (to_be_bytes w32 (length c)) c x) ∙ e ∙ regroup (to_be_bytes w64 option_magic) (to_be_bytes w32 b) (to_be_bytes w32 (length d)) d y in
    let magic = same8 option_magic option_magic _ _ (omega arith) (omega arith) parts in
    let option = same4 a b _ _ ha hb magic.1 in
    let size = same4 (length c) (length d) _ _ hc hd option.1 in
    let body = same_front c d x y size.0 size.1 in
    (option.0, body.0, body.1)
