-- What crashes leave within a call.
use Rattle.std.proofs.Common.{ℕ, ◌*◌, List, length, Result, Ok, Err}
use Rattle.md_device.specs.Splice.{SameOutside}
use Rattle.md_device.specs.Crashes.{LeavesMore, WithinWrite, IsMixed}
use Rattle.md_device.proofs.Leaving.{leaves_less}

-- a write leaves everything beside its range
pub leaves_beside : {T E : Type 0} (past now : List (List ℕ)) (result : Result T E) (sector : ℕ) (bytes old : List ℕ)
    → LeavesMore past now (WithinWrite result sector bytes old) → LeavesMore past now (SameOutside (512 * sector) (length bytes) old)
leaves_beside past now (Ok x) sector bytes old leaves = leaves_less past now (IsMixed sector bytes old) (SameOutside (512 * sector) (length bytes) old) (λ left mixed. mixed.outside) leaves
leaves_beside past now (Err e) sector bytes old leaves = leaves
