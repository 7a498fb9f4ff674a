-- A list on a device that grows to no more than the list in memory.
use Rattle.std.proofs.Common.{◌≡◌, ℕ, ◌+◌, Bool, true, false, true≢false, ◌&&◌, nat_lt, List, slice_get, Option, Some, sym, ap, ◌∙◌}
use Rattle.std.proofs.lemmas.Bool.{and_from, and_parts}
use Rattle.md_badblocks.specs.Runs.{IsBad}
use Rattle.md_model.specs.Devices.{Stored}
use Rattle.md_model.specs.Steps.{GrowsTo}
use Rattle.md_model.specs.Worlds.{Request, World}
use Rattle.md_model.proofs.Cases.{by_test}
use Rattle.md_kept_members.specs.View.{MemberView}
use Rattle.md_state.specs.Members.{IsMember}
use Rattle.md_state.specs.View.{ArrayView, Disk}
use Rattle.md_array.specs.Worlds.{is_listed, lies_in, lists_of, world_on}
use Rattle.md_array.proofs.StepLemmas.OneMember.{member_there, stored_there}
use Rattle.md_array.proofs.Worlds.Bad.{test_from_bad}

module _ (disks : List Disk) (a : ArrayView) (requests : ℕ → Option Request) (k : ℕ) (m : MemberView) (d : Disk) (at : IsMember a k m) (there : slice_get disks k ≡ Some d) where
  abbrev w : World
  w = world_on disks a requests

  was_listed : (s : ℕ) → (w.stored k).listed s ≡ (nat_lt s a.chunks.size && is_listed m.superblock d.content (m.superblock.data_offset + s))
  was_listed s = ap (λ (x : Stored). x.listed s) (stored_there disks a k m d at there)

  -- what is not in the list in memory is not bad
  pub not_bad : (s : ℕ) → w.bad k s ≡ false → nat_lt s a.chunks.size ≡ true → IsBad m.bad (m.superblock.data_offset + s) → ⊥
  not_bad s none low bad = true≢false
      (sym (and_from (nat_lt s a.chunks.size) (lies_in m.bad (m.superblock.data_offset + s)) low (test_from_bad m.bad (m.superblock.data_offset + s) bad))
      ∙ sym (member_there a k m false (λ x. lists_of a x s) at) ∙ none)

  -- The new list has what the device lists, and what it has is in the list in memory.
  pub grows_by : (f : ℕ → Bool) → ((sector : ℕ) → is_listed m.superblock d.content sector ≡ true → f sector ≡ true) → ((sector : ℕ) → f sector ≡ true → IsBad m.bad sector)
      → GrowsTo w k (λ s. nat_lt s a.chunks.size && f (m.superblock.data_offset + s))
  grows_by f had kept = record {
    had = λ s off. was_listed s ∙ by_test (nat_lt s a.chunks.size)
        (λ low. ap (λ b. b && is_listed m.superblock d.content (m.superblock.data_offset + s)) low ∙ by_test (is_listed m.superblock d.content (m.superblock.data_offset + s))
        (λ on. absurd (true≢false (sym (and_from (nat_lt s a.chunks.size) (f (m.superblock.data_offset + s)) low (had (m.superblock.data_offset + s) on)) ∙ off)))
        (λ none. none))
        (λ past. ap (λ b. b && is_listed m.superblock d.content (m.superblock.data_offset + s)) past);
    kept = λ s none. by_test (nat_lt s a.chunks.size && f (m.superblock.data_offset + s))
        (λ on. let parts = and_parts (nat_lt s a.chunks.size) (f (m.superblock.data_offset + s)) on in absurd (not_bad s none parts.0 (kept (m.superblock.data_offset + s) parts.1)))
        (λ off. off);
  }
