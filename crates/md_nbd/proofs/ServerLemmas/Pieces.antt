-- What a source gave, piece by piece.
use Rattle.std.proofs.Common.{ℕ, ◌≤◌, Bool, Option, Some, None, List, [], length, take, take_all, refl}
use Rattle.std.specs.Io.KnownBytes.{Consumes}
use Rattle.md_streams.specs.Source.{Gives}

no_bytes : (known : Option (List ℕ)) → Consumes known known []
no_bytes None = tt
no_bytes (Some xs) = refl

-- nothing was taken
pub gives_nothing : {I : Type 0} (remaining : I → Option (List ℕ)) (failed : I → Bool) (at : I) → Gives remaining failed at at []
gives_nothing remaining failed at = record { consumes = no_bytes (remaining at); well = refl }

-- all of a buffer is its front
pub gives_whole : {I : Type 0} (remaining : I → Option (List ℕ)) (failed : I → Bool) (old new : I) (buf : List ℕ) (n : ℕ) → length buf ≤ n → Gives remaining failed old new (take n buf) → Gives remaining failed old new buf
gives_whole remaining failed old new buf n le g = rw (← take_all n buf le) g
