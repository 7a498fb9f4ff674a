use Rattle.std.proofs.Common.{◌≡◌, ℕ, sym, subst}
use Rattle.md_super.specs.Profile.{unsupported_features}
use Rattle.md_read_commands.proofs.StandIns.{entries_supported, profile_of}
use Rattle.md_read_commands.proofs.stand_in.made.as_shown.Goals as goal

pub invariant_of-made : goal.invariant_of-made
invariant_of-made c =
    let v = c.in_ok-made.made in
    record {
      in_profile = profile_of v c.with_entries.result
          (subst (λ (n : ℕ). unsupported_features n ≡ 0) (sym c.with_entries.ensures)
          (entries_supported c.args.may_list v.feature_map v.in_profile.features));
    }
