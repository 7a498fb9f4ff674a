-- Crashes over several calls that only read.
use Rattle.std.proofs.Common.{◌≡◌, Bool, true, List, ℕ, ◌∙◌}
use Rattle.md_device.specs.Crashes.{LeavesMore}
use Rattle.md_device.proofs.Leaving.{leaves_less, leaves_then}

pub leaves_same : (past mid now : List (List ℕ)) (was is : List ℕ) (honest still : Bool) → is ≡ was → still ≡ honest
    → (honest ≡ true → LeavesMore past mid (λ left. left ≡ was)) → (still ≡ true → LeavesMore mid now (λ left. left ≡ is))
    → honest ≡ true → LeavesMore past now (λ left. left ≡ was)
leaves_same past mid now was is honest still same stays first second h =
    leaves_then past mid now (λ left. left ≡ was) (first h)
    (leaves_less mid now (λ left. left ≡ is) (λ left. left ≡ was) (λ left e. e ∙ same) (second (stays ∙ h)))
