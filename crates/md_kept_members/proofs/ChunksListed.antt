-- Sectors of chunks are taken from a list, or added to it, chunk by chunk.
use Rattle.std.proofs.Common.{◌≡◌, ◌↔◌, ◌⊎◌, ℕ, ◌+◌, ◌-◌, ◌^◌, ◌<◌, ◌≤◌, min, true, true≢false, false, List, [], ◌∷◌, Ok, Err, Result, OnOk, inl, inr, sym, ap, ◌∙◌, subst, arith}
use Rattle.std.proofs.lemmas.Bool.{cases_lt}
use Rattle.md_bitmap.specs.declared.chunks.Chunks.{Chunks}
use Rattle.md_bitmap.specs.Marks.{Bitmap, is_set}
use Rattle.md_badblocks.specs.declared.run.Run.{Run}
use Rattle.md_badblocks.specs.Runs.{IsBad, IsCanonical}
use Rattle.md_kept_members.specs.Enrolling.{AreAddedTo, AreRemovedTo, IsListAfter, IsOfChunk, IsOfFirst}
use Rattle.md_kept_members.specs.View.{MemberView}
use Rattle.md_kept_members.proofs.Members.Indices.{cases_more}
use Rattle.md_kept_members.proofs.Members.Roles.{IsRange, bad_below}

-- what holds on Ok, by what holds then
pub on_ok : {T E : Type 0} {P Q : Type 0} (r : Result T E) → (P → Q) → OnOk r P → OnOk r Q
on_ok (Ok x) f p = f p
on_ok (Err e) f p = p

-- ---- one chunk, in a list of sectors that a number of 64 bits counts
module _ (chunks : Chunks) (chunk offset start len first : ℕ) (range : IsRange chunks chunk start len) (at : first ≡ min (offset + start) (2 ^ 64 - 1)) where
  pub one_added : (old new : List Run) → ((s : ℕ) → IsBad new s ↔ (IsBad old s ⊎ ((first ≤ s) × (s < first + len) × (s < 2 ^ 54))))
      → (s : ℕ) → IsBad new s ↔ (IsBad old s ⊎ (IsOfChunk chunks offset chunk s × (s < 2 ^ 54)))
  one_added old new added s = (
    λ bad. elim ((added s).0 bad) [
      | inl was ↦ inl was
      | inr here ↦
          let from = here.0 in
          let below = here.1 in
          let low = here.2 in
          let same : s ≡ offset + (s - offset) = omega arith in
          inr (record { at = s - offset; inside = (range (s - offset)).1 (omega arith, omega arith); is = same }, here.2)
    ],
    λ either. elim either [
      | inl was ↦ (added s).1 (inl was)
      | inr here ↦
          let is = here.0.is in
          let low = here.1 in
          let inside = (range here.0.at).0 here.0.inside in
          let from = inside.0 in
          let below = inside.1 in
          (added s).1 (inr (omega arith, omega arith, here.1))
    ],
  )

  pub one_removed : (old new : List Run) → IsCanonical old → ((s : ℕ) → IsBad new s ↔ (IsBad old s × ((s < first) ⊎ (first + len ≤ s))))
      → (s : ℕ) → IsBad new s ↔ (IsBad old s × (IsOfChunk chunks offset chunk s → ⊥))
  one_removed old new canonical removed s = (
    λ bad.
        let was = (removed s).0 bad in
        let low = bad_below 0 s old canonical was.0 in (
          was.0,
          λ here.
              let is = here.is in
              let inside = (range here.at).0 here.inside in
              let from = inside.0 in
              let below = inside.1 in
              elim was.1 [
                | inl before ↦ absurd (omega arith)
                | inr behind ↦ absurd (omega arith)
              ],
        ),
    λ was.
        let low = bad_below 0 s old canonical was.0 in
        elim (cases_lt s first) [
          | inl before ↦ (removed s).1 (was.0, inl before)
          | inr from ↦
              elim (cases_lt s (first + len)) [
                | inl below ↦
                    let same : s ≡ offset + (s - offset) = omega arith in
                    absurd (was.1 (record { at = s - offset; inside = (range (s - offset)).1 (omega arith, omega arith); is = same }))
                | inr behind ↦ (removed s).1 (was.0, inr behind)
              ]
        ],
  )

-- ---- one chunk more
module _ (n : ℕ) (chunks : Chunks) (offset : ℕ) (set : Bitmap) where
  abbrev First : ℕ → ℕ → Type 0
  First count s = IsOfFirst count chunks offset set s

  none_first : (s : ℕ) → First 0 s → ⊥
  none_first s h = let early = h.early in absurd (omega arith)

  first_kept : (s : ℕ) → First n s → First (n + 1) s
  first_kept s h = let early = h.early in record { chunk = h.chunk; early = omega arith; in_set = h.in_set; of_chunk = h.of_chunk }

  first_more : is_set set.bytes n ≡ true → (s : ℕ) → First (n + 1) s ↔ (First n s ⊎ IsOfChunk chunks offset n s)
  first_more is s = (
    λ h. elim (cases_more h.chunk n h.early) [
      | inl early ↦ inl (record { chunk = h.chunk; early = early; in_set = h.in_set; of_chunk = h.of_chunk })
      | inr here ↦ inr (subst (λ c. IsOfChunk chunks offset c s) here h.of_chunk)
    ],
    λ either. elim either [
      | inl h ↦ first_kept s h
      | inr here ↦ record { chunk = n; early = omega arith; in_set = is; of_chunk = here }
    ],
  )

  first_same : is_set set.bytes n ≡ false → (s : ℕ) → First (n + 1) s → First n s
  first_same is s h = elim (cases_more h.chunk n h.early) [
    | inl early ↦ record { chunk = h.chunk; early = early; in_set = h.in_set; of_chunk = h.of_chunk }
    | inr here ↦ absurd (true≢false (sym h.in_set ∙ ap (is_set set.bytes) here ∙ is))
  ]

  pub added_none : (list : List Run) → IsCanonical list → AreAddedTo 0 chunks offset set list list
  added_none list canonical = record {
    canonical = canonical;
    bad = λ s. (λ bad. inl bad, λ either. elim either [ inl bad ↦ bad | inr h ↦ absurd (none_first s h.0) ]);
  }

  pub added_more : (first old new : List Run) → is_set set.bytes n ≡ true → IsCanonical new → ((s : ℕ) → IsBad new s ↔ (IsBad old s ⊎ (IsOfChunk chunks offset n s × (s < 2 ^ 54))))
      → AreAddedTo n chunks offset set first old → AreAddedTo (n + 1) chunks offset set first new
  added_more first old new is canonical one before = record {
    canonical = canonical;
    bad = λ s. (
      λ bad. elim ((one s).0 bad) [
        | inl was ↦ elim ((before.bad s).0 was) [ inl begun ↦ inl begun | inr h ↦ inr (first_kept s h.0, h.1) ]
        | inr here ↦ inr ((first_more is s).1 (inr here.0), here.1)
      ],
      λ either. elim either [
        | inl begun ↦ (one s).1 (inl ((before.bad s).1 (inl begun)))
        | inr h ↦ elim ((first_more is s).0 h.0) [
          | inl was ↦ (one s).1 (inl ((before.bad s).1 (inr (was, h.1))))
          | inr here ↦ (one s).1 (inr (here, h.1))
        ]
      ],
    );
  }

  pub added_same : (first old : List Run) → is_set set.bytes n ≡ false → AreAddedTo n chunks offset set first old → AreAddedTo (n + 1) chunks offset set first old
  added_same first old is before = record {
    canonical = before.canonical;
    bad = λ s. (
      λ bad. elim ((before.bad s).0 bad) [ inl begun ↦ inl begun | inr h ↦ inr (first_kept s h.0, h.1) ],
      λ either. elim either [ inl begun ↦ (before.bad s).1 (inl begun) | inr h ↦ (before.bad s).1 (inr (first_same is s h.0, h.1)) ],
    );
  }

  pub removed_none : (list : List Run) → IsCanonical list → AreRemovedTo 0 chunks offset set list list
  removed_none list canonical = record { canonical = canonical; bad = λ s. (λ bad. (bad, none_first s), λ both. both.0) }

  pub removed_more : (first old new : List Run) → is_set set.bytes n ≡ true → IsCanonical new → ((s : ℕ) → IsBad new s ↔ (IsBad old s × (IsOfChunk chunks offset n s → ⊥)))
      → AreRemovedTo n chunks offset set first old → AreRemovedTo (n + 1) chunks offset set first new
  removed_more first old new is canonical one before = record {
    canonical = canonical;
    bad = λ s. (
      λ bad.
          let both = (one s).0 bad in
          let was = (before.bad s).0 both.0 in
          (was.0, λ h. elim ((first_more is s).0 h) [ inl begun ↦ was.1 begun | inr here ↦ both.1 here ]),
      λ both. (one s).1 ((before.bad s).1 (both.0, λ h. both.1 (first_kept s h)), λ here. both.1 ((first_more is s).1 (inr here))),
    );
  }

  pub removed_same : (first old : List Run) → is_set set.bytes n ≡ false → AreRemovedTo n chunks offset set first old → AreRemovedTo (n + 1) chunks offset set first old
  removed_same first old is before = record {
    canonical = before.canonical;
    bad = λ s. (
      λ bad. let was = (before.bad s).0 bad in (was.0, λ h. was.1 (first_same is s h)),
      λ both. (before.bad s).1 (both.0, λ h. both.1 (first_kept s h)),
    );
  }

-- ---- the list after
pub is_list_after : (chunks : Chunks) (m : MemberView) (copied orphans : Bitmap) (same less list : List Run) → ((s : ℕ) → IsBad same s ↔ IsBad m.bad s)
    → AreRemovedTo copied.chunks chunks m.superblock.data_offset copied same less → AreAddedTo orphans.chunks chunks m.superblock.data_offset orphans less list
    → IsListAfter chunks m copied orphans list
is_list_after chunks m copied orphans same less list alike removed added = record {
  canonical = added.canonical;
  bad = λ s. (
    λ bad. elim ((added.bad s).0 bad) [
      | inl was ↦ let both = (removed.bad s).0 was in inl ((alike s).0 both.0, both.1)
      | inr here ↦ inr here
    ],
    λ either. elim either [
      | inl both ↦ (added.bad s).1 (inl ((removed.bad s).1 ((alike s).1 both.0, both.1)))
      | inr here ↦ (added.bad s).1 (inr here)
    ],
  );
}
