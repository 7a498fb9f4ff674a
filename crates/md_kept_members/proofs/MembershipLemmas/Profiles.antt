-- A superblock's profile is a fact, so that any two proofs of it are one.
use Rattle.std.proofs.Common.{◌≡◌, ap}
use Rattle.std.proofs.Math.Nat.{ℕ_set}
use Rattle.std.proofs.Math.Bridge.{le_prop}
use Rattle.md_super.specs.Profile.{IsProfile}
use Rattle.md_super.specs.declared.superblock.Superblock.{Superblock}

pub same_profile : (v : Superblock) (p : IsProfile v.feature_map v.level v.raid_disks v.super_offset) → record v { in_profile = p } ≡ v
same_profile v p =
    let one : IsProp (IsProfile v.feature_map v.level v.raid_disks v.super_offset) = hlevel (le_prop, ℕ_set) in
    ap (λ (q : IsProfile v.feature_map v.level v.raid_disks v.super_offset). record v { in_profile = q }) (one p v.in_profile)
