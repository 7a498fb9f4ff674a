-- The list of a member that comes into sync is what its log lists, once the log is stored.
use Rattle.std.proofs.Common.{◌≡◌, ℕ, ◌+◌, ◌*◌, ◌^◌, ◌/◌, ◌<◌, ◌↔◌, Bool, true, false, cond, not, ◌&&◌, ◌==◌, nat_lt, pos, ltb-true, lt-ltb, true≢false, List, [], ◌∷◌, refl, sym, ap, ◌∙◌, arith}
use Rattle.std.specs.Ordering.{int_eq}
use Rattle.std.proofs.lemmas.Bool.{and_from, and_parts}
use Rattle.md_device.specs.Splice.{part}
use Rattle.md_super.specs.declared.superblock.Superblock.{Superblock}
use Rattle.md_super.specs.Log.{has_bad_block_log}
use Rattle.md_badblocks.specs.declared.run.Run.{Run}
use Rattle.md_badblocks.specs.Log.{log_bytes, named_runs}
use Rattle.md_badblocks.specs.Runs.{IsBad, IsCanonical}
use Rattle.md_badblocks.proofs.Written.{log_read}
use Rattle.md_members.specs.Areas.{has_bad_blocks}
use Rattle.md_members.specs.Members.{reads_log}
use Rattle.md_model.proofs.Cases.{by_test}
use Rattle.md_kept_members.specs.Enrolling.{HasRoomFor, in_sync_superblock, log_room, logged_superblock}
use Rattle.md_kept_members.specs.OnDevices.Storing.{sector_from_super}
use Rattle.md_array.specs.Worlds.{is_listed_next, is_logged, lies_in}
use Rattle.md_array.proofs.Openings.OwnFields as own_fields
use Rattle.md_array.proofs.Worlds.Bad.{bad_from_test, test_from_bad}
use Rattle.md_array.proofs.Rebuilding.MemberStored.{none_bad, some_bad}
use Rattle.std.proofs.lemmas.List.Sums.{sum_by-cons}
use Rattle.md_badblocks.specs.Runs.{entry_count}

-- ---- its list is what its log lists
-- a list that has an entry has a log
has_log : (v : Superblock) (run : Run) (runs : List Run) → IsCanonical (run ∷ runs) → HasRoomFor v (run ∷ runs) → has_bad_block_log v ≡ true
has_log v run runs canonical room = by_test (has_bad_block_log v) (λ is. is)
    (λ none.
    let some : 0 < run.len = canonical.1 in
    let entry : 0 < (run.len + 511) / 512 = omega arith in
    let empty : log_room v ≡ 0 = ap (λ (b : Bool). cond b (64 * v.bblog_size) 0) none in
    let count = sum_by-cons entry_count run runs in
    absurd (let fits = room in omega arith))

-- it has entries
abbrev pub has_entries : List Run → Bool
has_entries [] = false
has_entries (run ∷ runs) = true

-- each sector that the log names is bad
pub named_bad : (own : Superblock) (list : List Run) (content : List ℕ) → IsCanonical list
    → part content (512 * sector_from_super own.bblog_offset) (512 * own.bblog_size) ≡ log_bytes list (log_room own)
    → (sector : ℕ) → is_logged content (sector_from_super own.bblog_offset) own.bblog_size 0 sector ≡ true ↔ (IsBad list sector)
named_bad own list content canonical log sector =
    let named = (log_read list (log_room own) canonical).named sector in
    let of : List ℕ → Bool = λ area. nat_lt sector (2 ^ 54) && lies_in (named_runs 0 area) sector in
    let same : is_logged content (sector_from_super own.bblog_offset) own.bblog_size 0 sector ≡ of (log_bytes list (log_room own)) = ap of log in
    let written = named_runs 0 (log_bytes list (log_room own)) in (
      (λ e.
          let p = and_parts (nat_lt sector (2 ^ 54)) (lies_in written sector) (sym same ∙ e) in
          named.1 (bad_from_test written sector p.1, ltb-true sector (2 ^ 54) p.0)),
      (λ h.
          let p = named.0 h in
          same ∙ and_from (nat_lt sector (2 ^ 54)) (lies_in written sector) (lt-ltb sector (2 ^ 54) p.1) (test_from_bad written sector p.0)),
    )

-- by a superblock without a shift, whose bit 8 tells whether there are entries
pub listed_by : (own : Superblock) (list : List Run) (content : List ℕ) → IsCanonical list → HasRoomFor own list → has_bad_blocks own ≡ has_entries list → own.bblog_shift ≡ 0
    → (has_bad_block_log own ≡ true → part content (512 * sector_from_super own.bblog_offset) (512 * own.bblog_size) ≡ log_bytes list (log_room own))
    → (sector : ℕ) → is_listed_next own content sector ≡ true ↔ IsBad list sector
unfolding is_listed_next
listed_by own [] content canonical room bit shift log sector = (
  (λ e. absurd (true≢false (sym (and_parts (has_bad_blocks own) (has_bad_block_log own) (and_parts (reads_log own) _ e).0).0 ∙ bit))),
  (λ h. absurd h),
)
listed_by own (run ∷ runs) content canonical room bit shift log sector =
    let list : List Run = run ∷ runs in
    let there = has_log own run runs canonical room in
    let reads : reads_log own ≡ true = and_from (has_bad_blocks own) (has_bad_block_log own) bit there in
    let named = named_bad own list content canonical (log there) sector in
    let unshifted : is_logged content (sector_from_super own.bblog_offset) own.bblog_size own.bblog_shift sector ≡ is_logged content (sector_from_super own.bblog_offset) own.bblog_size 0 sector =
    ap (λ shift. is_logged content (sector_from_super own.bblog_offset) own.bblog_size shift sector) shift in (
      (λ e. named.0 (sym unshifted ∙ (and_parts (reads_log own) _ e).1)),
      (λ h. and_from (reads_log own) _ reads (unshifted ∙ named.1 h)),
    )

pub listed_enrolled : (v : Superblock) (list : List Run) (content : List ℕ) → IsCanonical list → HasRoomFor v list
    → (has_bad_block_log v ≡ true → part content (512 * sector_from_super v.bblog_offset) (512 * v.bblog_size) ≡ log_bytes list (log_room v))
    → (sector : ℕ) → is_listed_next (in_sync_superblock list v) content sector ≡ true ↔ IsBad list sector
listed_enrolled v [] content canonical room log sector = listed_by (in_sync_superblock [] v) [] content canonical room (none_bad v) refl log sector
listed_enrolled v (run ∷ runs) content canonical room log sector = listed_by (in_sync_superblock (run ∷ runs) v) (run ∷ runs) content canonical room (some_bad run runs v) refl log sector

-- so of a member whose log is stored: what its superblock lists next is its list
entries_logged : (v : Superblock) (list : List Run) → has_bad_blocks (logged_superblock list v) ≡ has_entries list
entries_logged v [] = own_fields.none_listed v
entries_logged v (run ∷ runs) = own_fields.some_listed run runs v

pub listed_logged : (v : Superblock) (list : List Run) (content : List ℕ) → IsCanonical list → HasRoomFor v list
    → (has_bad_block_log v ≡ true → part content (512 * sector_from_super v.bblog_offset) (512 * v.bblog_size) ≡ log_bytes list (log_room v))
    → (sector : ℕ) → is_listed_next (logged_superblock list v) content sector ≡ true ↔ IsBad list sector
listed_logged v list content canonical room log sector = listed_by (logged_superblock list v) list content canonical room (entries_logged v list) refl log sector

-- a log is the same by any superblock that places it so
pub logged : (v own : Superblock) (list bad : List Run) → own.bblog_size ≡ v.bblog_size → own.bblog_offset ≡ v.bblog_offset → bad ≡ list → (content : List ℕ)
    → (has_bad_block_log own ≡ true → part content (512 * sector_from_super own.bblog_offset) (512 * own.bblog_size) ≡ log_bytes bad (log_room own))
    → has_bad_block_log v ≡ true → part content (512 * sector_from_super v.bblog_offset) (512 * v.bblog_size) ≡ log_bytes list (log_room v)
logged v own list bad size offset same content log has =
    let there : has_bad_block_log own ≡ has_bad_block_log v = λ i. not (size i == 0) && not (int_eq (offset i) (pos 0)) in
    (λ i. part content (512 * sector_from_super (sym offset i)) (512 * sym size i))
    ∙ log (there ∙ has)
    ∙ (λ i. log_bytes (same i) (cond (there i) (64 * size i) 0))
