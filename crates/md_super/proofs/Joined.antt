-- Fields that are written one after the other, each after what stands.
use Rattle.std.proofs.Common.{◌≡◌, ℕ, ℤ, List, ◌++◌, ap, ◌∙◌, append_assoc, FitsSigned}
use Rattle.std.proofs.lemmas.Int.{to_z-of_z}
use Rattle.std.specs.Int.{w32, cast_signed, cast_unsigned}
use Rattle.byteorder.specs.Endian.{little_bytes}
use Rattle.md_format.proofs.Written.{regroup_6}

-- one more field
pub joined : {s t front : List ℕ} (field : List ℕ) → s ≡ front → t ≡ s ++ field → t ≡ front ++ field
joined field before e = e ∙ ap (λ (xs : List ℕ). xs ++ field) before

regroup_3 : (p a b c : List ℕ) → p ++ a ++ b ++ c ≡ p ++ (a ++ b ++ c)
regroup_3 p a b c = simp append_assoc

regroup_4 : (p a b c d : List ℕ) → p ++ a ++ b ++ c ++ d ≡ p ++ (a ++ b ++ c ++ d)
regroup_4 p a b c d = simp append_assoc

-- a group of fields after a front
pub group_3 : {s t u : List ℕ} (p a b c : List ℕ) → s ≡ p ++ a → t ≡ s ++ b → u ≡ t ++ c → u ≡ p ++ (a ++ b ++ c)
group_3 p a b c first second third = joined c (joined b first second) third ∙ regroup_3 p a b c

pub group_4 : {s t u v : List ℕ} (p a b c d : List ℕ) → s ≡ p ++ a → t ≡ s ++ b → u ≡ t ++ c → v ≡ u ++ d → v ≡ p ++ (a ++ b ++ c ++ d)
group_4 p a b c d first second third fourth = joined d (joined c (joined b first second) third) fourth ∙ regroup_4 p a b c d

pub group_6 : {s t u v w x : List ℕ} (p a b c d e f : List ℕ) → s ≡ p ++ a → t ≡ s ++ b → u ≡ t ++ c → v ≡ u ++ d → w ≡ v ++ e → x ≡ w ++ f → x ≡ p ++ (a ++ b ++ c ++ d ++ e ++ f)
group_6 p a b c d e f first second third fourth fifth sixth =
    joined f (joined e (joined d (joined c (joined b first second) third) fourth) fifth) sixth ∙ regroup_6 p a b c d e f

-- a signed field, whose bits are read back before they are written
pub signed_field : {out : List ℕ} (front : List ℕ) (z : ℤ) (bits : ℕ) → FitsSigned w32 z → bits ≡ cast_unsigned w32 (cast_signed w32 (cast_unsigned w32 z)) → out ≡ front ++ little_bytes 4 bits → out ≡ front ++ little_bytes 4 (cast_unsigned w32 z)
signed_field front z bits fits e written =
    written ∙ ap (λ (n : ℕ). front ++ little_bytes 4 n) (e ∙ ap (cast_unsigned w32) (to_z-of_z w32 z fits))
