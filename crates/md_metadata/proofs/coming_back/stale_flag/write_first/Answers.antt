use Rattle.std.proofs.Common.{◌≡◌, ℕ, [], ◌∷◌, MatchResult, subst}
use Rattle.md_state.specs.DiskWrites.{IsFailed, IsWritten}
use Rattle.md_state.specs.View.{disk_of}
use Rattle.md_metadata.specs.ComingBack.{first_write}
use Rattle.md_metadata.proofs.StaleFlag.{written_or_not}
use Rattle.md_metadata.proofs.coming_back.stale_flag.write_first.Goals as goal

pub returns : goal.returns
returns g c =
    let of = disk_of g.D.Device in
    let was = of c.args.device.now ∷ [] in
    let now = of c.put.new.device ∷ [] in
    let start : c.from.result ≡ c.args.start = c.from.ensures in
    subst (λ (s : ℕ). MatchResult c.put.result (λ _. IsWritten 0 (first_write s c.args.sector.now) was now) (λ _. IsFailed 0 (first_write s c.args.sector.now) was now)) start
    (written_or_not g.D.Device c.args.device.now c.put.new.device (first_write c.from.result c.args.sector.now) c.put.ensures.outside c.put.result c.put.ensures.writes)
