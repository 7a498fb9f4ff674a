-- What a device's log lists, by the superblock that stands there, and by the one that is kept.
use Rattle.std.proofs.Common.{◌≡◌, ℕ, ◌*◌, ◌^◌, true, not, ◌&&◌, ◌==◌, bit_and, if◌then◌else◌, nat_lt, List, Option, Some, None, pos, refl, sym, ap, ◌∙◌}
use Rattle.std.specs.Ordering.{int_eq}
use Rattle.std.proofs.lemmas.Bool.{and_parts}
use Rattle.md_device.specs.Splice.{part}
use Rattle.md_format.specs.Fields.{number_at}
use Rattle.md_super.specs.declared.superblock.Superblock.{Superblock}
use Rattle.md_super.specs.Faults.{NoSuperFault}
use Rattle.md_super.specs.Format.{IsSuper}
use Rattle.md_super.specs.Log.{has_bad_block_log}
use Rattle.md_badblocks.specs.declared.run.Run.{Run}
use Rattle.md_badblocks.specs.Log.{named_runs}
use Rattle.md_members.specs.Areas.{has_bad_blocks}
use Rattle.md_members.specs.Members.{reads_log}
use Rattle.md_model.specs.Devices.{Super}
use Rattle.md_kept_members.specs.OwnFields.{kept_shift, stored_next}
use Rattle.md_kept_members.specs.OnDevices.Storing.{sector_from_super}
use Rattle.md_array.specs.Worlds.{block_on, is_listed, is_listed_next, is_logged, lies_in, list_bit, reads_log_on, super_in}
use Rattle.md_array.proofs.Worlds.Supers.{super_shown}
use Rattle.md_array.proofs.General.Tests.{and_same}

-- ---- by the superblock that is read there
pub bit_read : (own v : Superblock) (content : List ℕ) → IsSuper (block_on content) v → NoSuperFault (block_on content) → reads_log_on own content ≡ (has_bad_blocks v && has_bad_block_log own)
bit_read own v content fields sound =
    ap (λ o. list_bit own (block_on content) o && has_bad_block_log own) (super_shown (block_on content) v fields sound)
    ∙ (λ i. not (bit_and (sym fields.feature_map i) 8 == 0) && has_bad_block_log own)

-- what is kept has the bit that is there
pub listed_as_next : (own v : Superblock) (content : List ℕ) → IsSuper (block_on content) v → NoSuperFault (block_on content) → v.feature_map ≡ own.feature_map
    → (sector : ℕ) → is_listed own content sector ≡ is_listed_next own content sector
unfolding is_listed is_listed_next
listed_as_next own v content fields sound same sector =
    ap (λ b. b && is_logged content (sector_from_super own.bblog_offset) own.bblog_size own.bblog_shift sector)
    (bit_read own v content fields sound ∙ (λ i. not (bit_and (same i) 8 == 0) && has_bad_block_log own))

-- none can be read there
pub listed_unread : (own : Superblock) (content : List ℕ) → super_in (block_on content) ≡ None → (sector : ℕ) → is_listed own content sector ≡ is_listed_next own content sector
unfolding is_listed is_listed_next
listed_unread own content none sector =
    ap (λ o. (list_bit own (block_on content) o && has_bad_block_log own) && is_logged content (sector_from_super own.bblog_offset) own.bblog_size own.bblog_shift sector) none

-- the fields that are kept of the superblock that was read list what it lists
pub listed_kept_of : (content : List ℕ) (v : Superblock) (bad : List Run) → IsSuper (block_on content) v → NoSuperFault (block_on content) → (sector : ℕ) → is_listed (stored_next bad v) content sector ≡ is_listed v content sector
unfolding is_listed
listed_kept_of content v bad fields sound sector =
    let logged : ℕ → _ = λ shift. is_logged content (sector_from_super v.bblog_offset) v.bblog_size shift sector in
    ap (λ b. b && logged (kept_shift v)) (bit_read (stored_next bad v) v content fields sound)
    ∙ and_same (reads_log v) (logged (kept_shift v)) (logged v.bblog_shift) (λ on. ap logged (ap (λ b. if b then v.bblog_shift else 0) on))
    ∙ sym (ap (λ b. b && logged v.bblog_shift) (bit_read v v content fields sound))

-- Where a superblock that is read there places the log as the own fields do, and has their shift if it tells of the log, the two list the same,
-- whatever the log holds.
pub listed_alike : (own v : Superblock) (content : List ℕ) → IsSuper (block_on content) v → NoSuperFault (block_on content)
    → v.bblog_size ≡ own.bblog_size → v.bblog_offset ≡ own.bblog_offset → (reads_log v ≡ true → v.bblog_shift ≡ own.bblog_shift)
    → (sector : ℕ) → is_listed v content sector ≡ is_listed own content sector
unfolding is_listed
listed_alike own v content fields sound size offset shift sector =
    let logged : Superblock → _ = λ x. is_logged content (sector_from_super x.bblog_offset) x.bblog_size x.bblog_shift sector in
    ap (λ b. b && logged v) (bit_read v v content fields sound)
    ∙ and_same (reads_log v) (logged v) (logged own) (λ on. (λ i. is_logged content (sector_from_super (offset i)) (size i) (shift on i) sector))
    ∙ ap (λ b. b && logged own) ((λ i. has_bad_blocks v && (not (size i == 0) && not (int_eq (offset i) (pos 0)))) ∙ sym (bit_read own v content fields sound))

-- the offset says nothing of the log
offset_bit : (offset : ℕ) (v : Superblock) (block : List ℕ) (o : Option Super) → list_bit (record v { recovery_offset = offset }) block o ≡ list_bit v block o
offset_bit offset v block (Some s) = refl
offset_bit offset v block None = refl

pub listed_at_offset : (offset : ℕ) (v : Superblock) (content : List ℕ) (sector : ℕ) → is_listed (record v { recovery_offset = offset }) content sector ≡ is_listed v content sector
unfolding is_listed
listed_at_offset offset v content sector =
    ap (λ b. (b && has_bad_block_log v) && is_logged content (sector_from_super v.bblog_offset) v.bblog_size v.bblog_shift sector) (offset_bit offset v (block_on content) (super_in (block_on content)))

pub next_at_offset : (offset : ℕ) (v : Superblock) (content : List ℕ) (sector : ℕ) → is_listed_next (record v { recovery_offset = offset }) content sector ≡ is_listed_next v content sector
unfolding is_listed_next
next_at_offset offset v content sector = refl

same_bit : (v w : Superblock) (block : List ℕ) (o : Option Super) → v.feature_map ≡ w.feature_map → list_bit v block o ≡ list_bit w block o
same_bit v w block (Some s) map = refl
same_bit v w block None map = λ i. not (bit_and (map i) 8 == 0)

pub same_log : (v w : Superblock) (content : List ℕ) (sector : ℕ) → v.feature_map ≡ w.feature_map → v.bblog_shift ≡ w.bblog_shift → v.bblog_size ≡ w.bblog_size → v.bblog_offset ≡ w.bblog_offset
    → is_listed v content sector ≡ is_listed w content sector
unfolding is_listed
same_log v w content sector map shift size offset =
    λ i. (same_bit v w (block_on content) (super_in (block_on content)) map i && (not (size i == 0) && not (int_eq (offset i) (pos 0))))
    && is_logged content (sector_from_super (offset i)) (size i) (shift i) sector

-- ---- where the log, if there is one, holds what it held
abbrev pub IsLogKept : Superblock → List ℕ → List ℕ → Type 0
IsLogKept v old new = has_bad_block_log v ≡ true → part new (512 * sector_from_super v.bblog_offset) (512 * v.bblog_size) ≡ part old (512 * sector_from_super v.bblog_offset) (512 * v.bblog_size)

same_map : (v : Superblock) (one other : List ℕ) (o : Option Super) → number_at 4 8 one ≡ number_at 4 8 other → list_bit v one o ≡ list_bit v other o
same_map v one other (Some s) map = λ i. not (bit_and (map i) 8 == 0)
same_map v one other None map = refl

module _ (v : Superblock) (old new : List ℕ) (kept : IsLogKept v old new) (sector : ℕ) where
  logged_kept : has_bad_block_log v ≡ true → is_logged new (sector_from_super v.bblog_offset) v.bblog_size v.bblog_shift sector ≡ is_logged old (sector_from_super v.bblog_offset) v.bblog_size v.bblog_shift sector
  logged_kept there = ap (λ (area : List ℕ). nat_lt sector (2 ^ 54) && lies_in (named_runs v.bblog_shift area) sector) (kept there)

  pub next_kept : is_listed_next v new sector ≡ is_listed_next v old sector
  unfolding is_listed_next
  next_kept = and_same (reads_log v) _ _ (λ on. logged_kept (and_parts (has_bad_blocks v) (has_bad_block_log v) on).1)

  -- and the superblock stays
  pub listed_kept : block_on new ≡ block_on old → is_listed v new sector ≡ is_listed v old sector
  unfolding is_listed
  listed_kept block =
      ap (λ (b : List ℕ). (list_bit v b (super_in b) && has_bad_block_log v) && is_logged new (sector_from_super v.bblog_offset) v.bblog_size v.bblog_shift sector) block
      ∙ and_same (reads_log_on v old) _ _ (λ on. logged_kept (and_parts (list_bit v (block_on old) (super_in (block_on old))) (has_bad_block_log v) on).1)

  -- and the superblock is read as before
  pub listed_same_bit : super_in (block_on new) ≡ super_in (block_on old) → number_at 4 8 (block_on new) ≡ number_at 4 8 (block_on old) → is_listed v new sector ≡ is_listed v old sector
  unfolding is_listed
  listed_same_bit decoded map =
      ap (λ b. (b && has_bad_block_log v) && is_logged new (sector_from_super v.bblog_offset) v.bblog_size v.bblog_shift sector)
      (ap (list_bit v (block_on new)) decoded ∙ same_map v (block_on new) (block_on old) (super_in (block_on old)) map)
      ∙ and_same (reads_log_on v old) _ _ (λ on. logged_kept (and_parts (list_bit v (block_on old) (super_in (block_on old))) (has_bad_block_log v) on).1)

  -- or the same one is read there
  pub listed_read_both : (w : Superblock) → IsSuper (block_on old) w → NoSuperFault (block_on old) → IsSuper (block_on new) w → NoSuperFault (block_on new) → is_listed v new sector ≡ is_listed v old sector
  listed_read_both w was was_sound is sound =
      listed_same_bit (super_shown (block_on new) w is sound ∙ sym (super_shown (block_on old) w was was_sound)) (sym is.feature_map ∙ was.feature_map)

-- so that what is listed is still listed next
pub still_next : (v : Superblock) (old new : List ℕ) → IsLogKept v old new → block_on new ≡ block_on old
    → ((sector : ℕ) → is_listed v old sector ≡ true → is_listed_next v old sector ≡ true) → (sector : ℕ) → is_listed v new sector ≡ true → is_listed_next v new sector ≡ true
still_next v old new kept block was sector on = next_kept v old new kept sector ∙ was sector (sym (listed_kept v old new kept sector block) ∙ on)

-- and that is in the list that is kept
pub still_known : {P : ℕ → Type 0} (v : Superblock) (old new : List ℕ) → IsLogKept v old new → ((sector : ℕ) → is_listed_next v old sector ≡ true → P sector)
    → (sector : ℕ) → is_listed_next v new sector ≡ true → P sector
still_known v old new kept was sector on = was sector (sym (next_kept v old new kept sector) ∙ on)
