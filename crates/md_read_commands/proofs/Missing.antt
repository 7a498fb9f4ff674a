-- Which sectors are missing in what is read with zeros in their place.
use Rattle.std.proofs.Common.{sym, subst}
use Rattle.md_state.specs.Members.{IsInSync}
use Rattle.md_state.specs.View.{ArrayView}
use Rattle.md_read_commands.specs.Filling.{MissesUnserved}

pub missing_unserved : MissesUnserved
missing_unserved way sector bytes gaps old new fills i low bad k m in_sync =
    (fills.lost i low bad).2 k m (subst (λ (a : ArrayView). IsInSync a k m) (sym (fills.begins i low).array) in_sync)
