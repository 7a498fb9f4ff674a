use Rattle.std.proofs.Common.{◌≡◌, ℕ, sym, subst}
use Rattle.md_super.specs.Profile.{unsupported_features}
use Rattle.md_read_commands.proofs.StandIns.{profile_of, recovery_supported}
use Rattle.md_read_commands.proofs.stand_in.made.made_of.Goals as goal

pub invariant_of-made : goal.invariant_of-made
invariant_of-made c =
    let v = c.in_ok-made.made in
    record {
      in_profile = profile_of v c.with_recovery.result
          (subst (λ (n : ℕ). unsupported_features n ≡ 0) (sym c.with_recovery.ensures)
          (recovery_supported c.args.wanted.compared v.feature_map v.in_profile.features));
    }
