-- The bad set that is kept of a member is what its log lists.
use Rattle.std.proofs.Common.{◌≡◌, ℕ, ◌+◌, ◌*◌, ◌^◌, ◌⊎◌, ◌↔◌, inl, inr, Bool, true, false, true≢false, ◌&&◌, ◌||◌, nat_lt, nat_le, List, [], ◌∷◌, if◌then◌else◌, refl, sym, ap, ◌∙◌, subst, leb-true, le-leb, ltb-true, lt-ltb}
use Rattle.std.proofs.lemmas.Bool.{and_from, and_parts}
use Rattle.std.proofs.Math.Bool.{or-true}
use Rattle.md_device.specs.Splice.{part}
use Rattle.md_super.specs.declared.superblock.Superblock.{Superblock}
use Rattle.md_super.specs.Log.{has_bad_block_log}
use Rattle.md_badblocks.specs.declared.run.Run.{Run}
use Rattle.md_badblocks.specs.Log.{named_runs}
use Rattle.md_badblocks.specs.Runs.{IsBad, LiesIn}
use Rattle.md_members.specs.Areas.{has_bad_blocks}
use Rattle.md_members.specs.Members.{HasBadSet, reads_log}
use Rattle.md_members.specs.Reading.{ReadsLog}
use Rattle.md_kept_members.specs.OwnFields.{kept_shift, stored_next}
use Rattle.md_kept_members.specs.OnDevices.Storing.{sector_from_super, sector_at}
use Rattle.md_array.specs.Worlds.{is_listed_next, is_logged, lies_in}
use Rattle.md_model.proofs.Cases.{by_test, never}
use Rattle.md_array.proofs.Openings.OwnFields.{none_listed, some_listed}

in_run : (run : Run) (sector : ℕ) → (nat_le run.start sector && nat_lt sector (run.start + run.len)) ≡ true ↔ LiesIn sector run
in_run run sector = (
  (λ e. let p = and_parts (nat_le run.start sector) (nat_lt sector (run.start + run.len)) e in
      (leb-true run.start sector p.0, ltb-true sector (run.start + run.len) p.1)),
  (λ h. and_from (nat_le run.start sector) (nat_lt sector (run.start + run.len)) (le-leb run.start sector h.0) (lt-ltb sector (run.start + run.len) h.1)),
)

-- the test of a sector, and the set that runs stand for
pub bad_from_test : (runs : List Run) (sector : ℕ) → lies_in runs sector ≡ true → IsBad runs sector
bad_from_test [] sector e = absurd cc
bad_from_test (run ∷ runs) sector e = one_of (nat_le run.start sector && nat_lt sector (run.start + run.len)) (in_run run sector).0 (bad_from_test runs sector) e
  where
    one_of : {P Q : Type 0} (a : Bool) {b : Bool} → (a ≡ true → P) → (b ≡ true → Q) → (a || b) ≡ true → P ⊎ Q
    one_of true p q h = inl (p refl)
    one_of false p q h = inr (q h)

pub test_from_bad : (runs : List Run) (sector : ℕ) → IsBad runs sector → lies_in runs sector ≡ true
test_from_bad [] sector h = absurd h
test_from_bad (run ∷ runs) sector (inl here) = ap (λ b. b || lies_in runs sector) ((in_run run sector).1 here)
test_from_bad (run ∷ runs) sector (inr later) = rw (test_from_bad runs sector later) (or-true (nat_le run.start sector && nat_lt sector (run.start + run.len)))

logged_is : (content : List ℕ) (v : Superblock) (bad : List Run) (sector : ℕ) → ReadsLog content true v bad
    → is_logged content (sector_from_super v.bblog_offset) v.bblog_size v.bblog_shift sector ≡ true ↔ IsBad bad sector
logged_is content v bad sector r =
    let start : sector_from_super v.bblog_offset ≡ r.start = ap sector_at (sym r.at) in
    let area : part content (512 * sector_from_super v.bblog_offset) (512 * v.bblog_size) ≡ r.area =
    ap (λ s. part content (512 * s) (512 * v.bblog_size)) start ∙ sym (r.read.from_device refl) in
    let named = r.set.named sector in
    let runs = named_runs v.bblog_shift r.area in
    subst (λ bytes. (nat_lt sector (2 ^ 54) && lies_in (named_runs v.bblog_shift bytes) sector) ≡ true ↔ IsBad bad sector) (sym area) (
      (λ e. let p = and_parts (nat_lt sector (2 ^ 54)) (lies_in runs sector) e in named.1 (bad_from_test runs sector p.1, ltb-true sector (2 ^ 54) p.0)),
      (λ h. let p = named.0 h in and_from (nat_lt sector (2 ^ 54)) (lies_in runs sector) (lt-ltb sector (2 ^ 54) p.1) (test_from_bad runs sector p.0)),
    )

-- the log of a member whose list was read, by the superblock that was read
pub listed_as_read : (content : List ℕ) (v : Superblock) (bad : List Run) (sector : ℕ) → HasBadSet content true v bad → is_listed_next v content sector ≡ true ↔ IsBad bad sector
unfolding is_listed_next
listed_as_read content v bad sector (inl log) =
    let logged = logged_is content v bad sector log.1 in (
      (λ e. logged.0 (and_parts (reads_log v) _ e).1),
      (λ h. and_from (reads_log v) _ log.0 (logged.1 h)),
    )
listed_as_read content v bad sector (inr none) = (
  (λ e. never (reads_log v) (and_parts (reads_log v) _ e).0 none.0),
  (λ h. absurd (subst (λ (runs : List Run). IsBad runs sector) none.1 h)),
)

-- the log of a member whose list was read, by the superblock that is kept
pub listed_is_bad : (content : List ℕ) (v : Superblock) (bad : List Run) (sector : ℕ) → HasBadSet content true v bad → is_listed_next (stored_next bad v) content sector ≡ true ↔ IsBad bad sector
unfolding is_listed_next
listed_is_bad content v [] sector set = (
  (λ e. absurd (true≢false (sym (and_parts (has_bad_blocks (stored_next [] v)) (has_bad_block_log v) (and_parts (reads_log (stored_next [] v)) _ e).0).0 ∙ none_listed v))),
  (λ h. absurd h),
)
listed_is_bad content v (run ∷ runs) sector (inl log) =
    let there = (and_parts (has_bad_blocks v) (has_bad_block_log v) log.0).1 in
    let read = and_from (has_bad_blocks (stored_next (run ∷ runs) v)) (has_bad_block_log v) (some_listed run runs v) there in
    let shift : kept_shift v ≡ v.bblog_shift = ap (λ b. if b then v.bblog_shift else 0) log.0 in
    let same = ap (λ (n : ℕ). is_logged content (sector_from_super v.bblog_offset) v.bblog_size n sector) shift in
    let logged = logged_is content v (run ∷ runs) sector log.1 in (
      (λ e. logged.0 (sym same ∙ (and_parts (reads_log (stored_next (run ∷ runs) v)) _ e).1)),
      (λ h. and_from (reads_log (stored_next (run ∷ runs) v)) _ read (same ∙ logged.1 h)),
    )
listed_is_bad content v (run ∷ runs) sector (inr none) = let empty = none.1 in absurd cc

pub same_test : {P : Type 0} (a b : Bool) → (a ≡ true ↔ P) → (b ≡ true ↔ P) → a ≡ b
same_test a b f g = by_test b
    (λ is. f.1 (g.0 is) ∙ sym is)
    (λ isnt. by_test a (λ is. absurd (true≢false (sym (g.1 (f.0 is)) ∙ isnt))) (λ neither. neither ∙ sym isnt))

-- both list the same
pub same_listed : (content : List ℕ) (v : Superblock) (bad : List Run) (sector : ℕ) → HasBadSet content true v bad → is_listed_next (stored_next bad v) content sector ≡ is_listed_next v content sector
same_listed content v bad sector set = same_test _ _ (listed_is_bad content v bad sector set) (listed_as_read content v bad sector set)
