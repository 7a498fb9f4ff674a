-- A member that can be stored on a device can be so on one that is as long.
use Rattle.std.proofs.Common.{◌≡◌, ℕ, ◌/◌, ◌≤◌, List, length, sym, ap, subst}
use Rattle.md_members.specs.Areas.{AreAreasPlaced, bitmap_sectors}
use Rattle.md_members.specs.Members.{sectors_of_device}
use Rattle.md_kept_members.specs.View.{MemberView}
use Rattle.md_kept_members.specs.OnDevices.Storing.{IsStorable}

pub still_storable : (n : MemberView) (old new : List ℕ) → length new ≡ length old → IsStorable n old → IsStorable n new
still_storable n old new long s =
    let same : sectors_of_device old ≡ sectors_of_device new = ap (λ (x : ℕ). x / 512) (sym long) in
    record {
      long = subst (λ (x : ℕ). 16 ≤ x) same s.long;
      has = s.has;
      placed = subst (λ (x : ℕ). AreAreasPlaced x n.superblock (bitmap_sectors n.stored.chunks)) same s.placed;
      few_chunks = s.few_chunks;
      room = s.room;
    }
