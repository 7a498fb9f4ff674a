-- The superblock that is kept of a member tells of its log, where the list that is kept has anything.
use Rattle.std.proofs.Common.{◌≡◌, ℕ, Bool, true, not, ◌==◌, ◌&&◌, inl, inr, List, [], ◌∷◌, refl, ap}
use Rattle.std.proofs.lemmas.Bool.{and_from, and_parts}
use Rattle.std.proofs.lemmas.Nat.{and_or_apart}
use Rattle.md_super.specs.declared.superblock.Superblock.{Superblock}
use Rattle.md_super.specs.Log.{has_bad_block_log}
use Rattle.md_badblocks.specs.declared.run.Run.{Run}
use Rattle.md_members.specs.Areas.{has_bad_blocks}
use Rattle.md_members.specs.Members.{HasBadSet, reads_log}
use Rattle.md_kept_members.specs.Enrolling.{logged_superblock}
use Rattle.md_kept_members.specs.OwnFields.{stored_next}
use Rattle.md_kept_members.specs.TakingBack.{recovering}
use Rattle.md_array.specs.Worlds.{lies_in}
use Rattle.md_array.proofs.Openings.OwnFields.{some_listed}

-- of one that was read, as it is stored next
pub told_next : (content : List ℕ) (honest : Bool) (v : Superblock) (bad : List Run) → HasBadSet content honest v bad
    → (sector : ℕ) → lies_in bad sector ≡ true → reads_log (stored_next bad v) ≡ true
told_next content honest v [] set sector e = absurd cc
told_next content honest v (run ∷ runs) (inl log) sector e =
    and_from (has_bad_blocks (stored_next (run ∷ runs) v)) (has_bad_block_log v) (some_listed run runs v) (and_parts (has_bad_blocks v) (has_bad_block_log v) log.0).1
told_next content honest v (run ∷ runs) (inr none) sector e = let no = none.1 in absurd cc

-- bit 2 says nothing of the log
pub recovering_log_bit : (offset : ℕ) (v : Superblock) → reads_log (recovering offset v) ≡ reads_log v
recovering_log_bit offset v = ap (λ n. not (n == 0) && has_bad_block_log v) (and_or_apart 8 v.feature_map 2 refl)

-- of one whose log is stored
pub told_logged : (bad : List Run) (v : Superblock) (sector : ℕ) → lies_in bad sector ≡ true → reads_log v ≡ true → reads_log (logged_superblock bad v) ≡ true
told_logged [] v sector e reads = absurd cc
told_logged (run ∷ runs) v sector e reads =
    and_from (has_bad_blocks (logged_superblock (run ∷ runs) v)) (has_bad_block_log v) (some_listed run runs v) (and_parts (has_bad_blocks v) (has_bad_block_log v) reads).1
