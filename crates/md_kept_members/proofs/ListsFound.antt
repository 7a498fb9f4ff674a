-- There is a list of each set of sectors that can be decided.
use Rattle.std.proofs.Common.{◌≡◌, ◌↔◌, ◌⊎◌, ℕ, zero, suc, ◌+◌, ◌-◌, ◌*◌, ◌^◌, ◌<◌, ◌≤◌, inl, inr, Bool, true, true≢false, false, List, [], ◌∷◌, refl, sym, ap, ◌∙◌, subst, arith}
use Rattle.std.proofs.lemmas.Bool.{cases_lt}
use Rattle.md_bitmap.specs.declared.chunks.Chunks.{Chunks}
use Rattle.md_bitmap.specs.Marks.{Bitmap, is_set}
use Rattle.md_badblocks.specs.declared.run.Run.{Run}
use Rattle.md_badblocks.specs.Runs.{IsBad, RisesFrom}
use Rattle.md_badblocks.proofs.Rising.{bad_below, rises_weaker}
use Rattle.md_kept_members.specs.Enrolling.{IsListAfter, IsListWith, IsOf, IsOfChunk, IsOfFirst}
use Rattle.md_kept_members.specs.View.{MemberView}

-- ---- a set is decided sector by sector
abbrev IsDecided : Type 0 → Type 0
IsDecided P = P ⊎ (P → ⊥)

-- the list of the sectors of a set, of so many from one on
record HasRuns (P : ℕ → Type 0) (low count : ℕ) : Type 0 where
  pub runs : List Run
  pub rises : RisesFrom low runs
  pub bad : (s : ℕ) → IsBad runs s ↔ (P s × (low ≤ s) × (s < low + count))

-- the list with the sector before its first
record IsFronted (low : ℕ) (runs : List Run) : Type 0 where
  pub new : List Run
  pub rises : RisesFrom low new
  pub bad : (s : ℕ) → IsBad new s ↔ ((s ≡ low) ⊎ IsBad runs s)

fronted : (low : ℕ) (runs : List Run) → RisesFrom (low + 1) runs → low < 2 ^ 54 → IsFronted low runs
fronted low [] h lt =
    let one : Run = record { start = low; len = 1 } in
    record {
      new = one ∷ [];
      rises = (omega arith, omega arith, omega arith, tt);
      bad = λ s. (
        λ bad. elim bad [ inl lies ↦ inl (omega arith) | inr none ↦ absurd none ],
        λ either. elim either [ inl is ↦ inl (omega arith, omega arith) | inr none ↦ absurd none ],
      );
    }
fronted low (r ∷ rs) h lt =
    let some : 0 < r.len = h.1 in
    elim (cases_lt (low + 1) r.start) [
      | inl apart ↦
          let one : Run = record { start = low; len = 1 } in
          record {
            new = one ∷ r ∷ rs;
            rises = (omega arith, omega arith, omega arith, (omega arith, h.1, h.2, h.3));
            bad = λ s. (
              λ bad. elim bad [ inl lies ↦ inl (omega arith) | inr later ↦ inr later ],
              λ either. elim either [ inl is ↦ inl (omega arith, omega arith) | inr later ↦ inr later ],
            );
          }
      | inr touching ↦
          let more : Run = record { start = low; len = r.len + 1 } in
          let same : low + (r.len + 1) + 1 ≡ r.start + r.len + 1 = omega arith in
          record {
            new = more ∷ rs;
            rises = (omega arith, omega arith, omega arith, subst (λ n. RisesFrom n rs) (sym same) h.3);
            bad = λ s. (
              λ bad. elim bad [
                | inl lies ↦ elim (cases_lt low s) [ inl above ↦ inr (inl (omega arith, omega arith)) | inr here ↦ inl (omega arith) ]
                | inr later ↦ inr (inr later)
              ],
              λ either. elim either [
                | inl is ↦ inl (omega arith, omega arith)
                | inr was ↦ elim was [ inl lies ↦ inl (omega arith, omega arith) | inr later ↦ inr later ]
              ],
            );
          }
    ]

has_runs : (P : ℕ → Type 0) → ((s : ℕ) → IsDecided (P s)) → (low count : ℕ) → low + count ≤ 2 ^ 54 → HasRuns P low count
has_runs P decide low zero le = record {
  runs = [];
  rises = tt;
  bad = λ s. (λ none. absurd none, λ all. let from = all.1 in let below = all.2 in absurd (omega arith));
}
has_runs P decide low (suc n) le =
    let rest = has_runs P decide (low + 1) n (omega arith) in
    elim (decide low) [
      | inl is ↦
          let more = fronted low rest.runs rest.rises (omega arith) in
          record {
            runs = more.new;
            rises = more.rises;
            bad = λ s. (
              λ bad. elim ((more.bad s).0 bad) [
                | inl here ↦ (subst P (sym here) is, omega arith, omega arith)
                | inr later ↦ let all = (rest.bad s).0 later in let from = all.1 in let below = all.2 in (all.0, omega arith, omega arith)
              ],
              λ all.
                  let from = all.1 in
                  let below = all.2 in
                  elim (cases_lt low s) [
                    | inl above ↦ (more.bad s).1 (inr ((rest.bad s).1 (all.0, omega arith, omega arith)))
                    | inr here ↦ (more.bad s).1 (inl (omega arith))
                  ],
            );
          }
      | inr isnt ↦ record {
        runs = rest.runs;
        rises = rises_weaker low (low + 1) rest.runs (omega arith) rest.rises;
        bad = λ s. (
          λ bad. let all = (rest.bad s).0 bad in let from = all.1 in let below = all.2 in (all.0, omega arith, omega arith),
          λ all.
              let from = all.1 in
              let below = all.2 in
              elim (cases_lt low s) [
                | inl above ↦ (rest.bad s).1 (all.0, omega arith, omega arith)
                | inr here ↦ let same : s ≡ low = omega arith in absurd (isnt (subst P same all.0))
              ],
        );
      }
    ]

-- ---- whether a sector is in a list, a chunk or one of a set of chunks
decided_bad : (runs : List Run) (s : ℕ) → IsDecided (IsBad runs s)
decided_bad [] s = inr (λ none. none)
decided_bad (r ∷ rs) s = elim (decided_bad rs s) [
  | inl later ↦ inl (inr later)
  | inr none ↦ elim (cases_lt s r.start) [
    | inl before ↦ inr (λ bad. elim bad [ inl lies ↦ absurd (omega arith) | inr later ↦ none later ])
    | inr from ↦ elim (cases_lt s (r.start + r.len)) [
      | inl below ↦ inl (inl (from, below))
      | inr past ↦ inr (λ bad. elim bad [ inl lies ↦ absurd (omega arith) | inr later ↦ none later ])
    ]
  ]
]

decided_chunk : (chunks : Chunks) (offset chunk s : ℕ) → IsDecided (IsOfChunk chunks offset chunk s)
decided_chunk chunks offset chunk s =
    let out : ((at : ℕ) → s ≡ offset + at → chunk * chunks.sectors ≤ at → at < (chunk + 1) * chunks.sectors → at < chunks.size → ⊥) → IsDecided (IsOfChunk chunks offset chunk s) =
    λ none. inr (λ of. none of.at of.is of.inside.from of.inside.below of.inside.within) in
    elim (cases_lt s (offset + chunk * chunks.sectors)) [
      | inl before ↦ out (λ at is from below within. omega arith)
      | inr from ↦ elim (cases_lt s (offset + (chunk + 1) * chunks.sectors)) [
        | inr past ↦ out (λ at is from' below within. omega arith)
        | inl below ↦ elim (cases_lt s (offset + chunks.size)) [
          | inr past ↦ out (λ at is from' below' within. omega arith)
          | inl within ↦ inl (record {
            at = s - offset;
            inside = record { from = omega arith; below = omega arith; within = omega arith };
            is = omega arith;
          })
        ]
      ]
    ]

cases_bool : (b : Bool) → (b ≡ true) ⊎ (b ≡ false)
cases_bool true = inl refl
cases_bool false = inr refl

decided_first : (n : ℕ) (chunks : Chunks) (offset : ℕ) (set : Bitmap) (s : ℕ) → IsDecided (IsOfFirst n chunks offset set s)
decided_first zero chunks offset set s = inr (λ of. let early = of.early in omega arith)
decided_first (suc n) chunks offset set s =
    elim (decided_first n chunks offset set s) [
      | inl of ↦ let early = of.early in inl (record { chunk = of.chunk; early = omega arith; in_set = of.in_set; of_chunk = of.of_chunk })
      | inr none ↦
          let last : (of : IsOfFirst (suc n) chunks offset set s) → of.chunk ≡ n = λ of.
          let early = of.early in
          elim (cases_lt of.chunk n) [
            | inl before ↦ absurd (none (record { chunk = of.chunk; early = before; in_set = of.in_set; of_chunk = of.of_chunk }))
            | inr from ↦ omega arith
          ] in
          elim (cases_bool (is_set set.bytes n)) [
            | inr unset ↦ inr (λ of. absurd (true≢false (sym of.in_set ∙ ap (is_set set.bytes) (last of) ∙ unset)))
            | inl is ↦ elim (decided_chunk chunks offset n s) [
              | inl of_chunk ↦ inl (record { chunk = n; early = omega arith; in_set = is; of_chunk = of_chunk })
              | inr out ↦ inr (λ of. out (subst (λ c. IsOfChunk chunks offset c s) (last of) of.of_chunk))
            ]
          ]
    ]

-- ---- the lists
pub found_with : (chunks : Chunks) (chunk : ℕ) (m : MemberView) → RisesFrom 0 m.bad → (list : List Run) × IsListWith chunks chunk m list
found_with chunks chunk m h =
    let offset = m.superblock.data_offset in
    let P : ℕ → Type 0 = λ s. IsBad m.bad s ⊎ IsOfChunk chunks offset chunk s in
    let decide : (s : ℕ) → IsDecided (P s) = λ s. elim (decided_bad m.bad s) [
      | inl bad ↦ inl (inl bad)
      | inr good ↦ elim (decided_chunk chunks offset chunk s) [
        | inl of ↦ inl (inr of)
        | inr out ↦ inr (λ either. elim either [ inl bad ↦ good bad | inr of ↦ out of ])
      ]
    ] in
    let found = has_runs P decide 0 (2 ^ 54) (omega arith) in (
      found.runs,
      record {
        canonical = found.rises;
        bad = λ s. (
          λ bad. let all = (found.bad s).0 bad in let below = all.2 in elim all.0 [ inl was ↦ inl was | inr of ↦ inr (of, omega arith) ],
          λ either. elim either [
            | inl was ↦ let low = bad_below 0 m.bad s h was in (found.bad s).1 (inl was, omega arith, omega arith)
            | inr of ↦ let low = of.1 in (found.bad s).1 (inr of.0, omega arith, omega arith)
          ],
        );
      },
    )

pub found_after : (chunks : Chunks) (m : MemberView) (copied orphans : Bitmap) → RisesFrom 0 m.bad → (list : List Run) × IsListAfter chunks m copied orphans list
found_after chunks m copied orphans h =
    let offset = m.superblock.data_offset in
    let P : ℕ → Type 0 = λ s. (IsBad m.bad s × (IsOf chunks offset copied s → ⊥)) ⊎ IsOf chunks offset orphans s in
    let decide : (s : ℕ) → IsDecided (P s) = λ s. elim (decided_first orphans.chunks chunks offset orphans s) [
      | inl of ↦ inl (inr of)
      | inr out ↦ elim (decided_bad m.bad s) [
        | inr good ↦ inr (λ either. elim either [ inl both ↦ good both.0 | inr of ↦ out of ])
        | inl bad ↦ elim (decided_first copied.chunks chunks offset copied s) [
          | inl is ↦ inr (λ either. elim either [ inl both ↦ both.1 is | inr of ↦ out of ])
          | inr isnt ↦ inl (inl (bad, isnt))
        ]
      ]
    ] in
    let found = has_runs P decide 0 (2 ^ 54) (omega arith) in (
      found.runs,
      record {
        canonical = found.rises;
        bad = λ s. (
          λ bad. let all = (found.bad s).0 bad in let below = all.2 in elim all.0 [ inl was ↦ inl was | inr of ↦ inr (of, omega arith) ],
          λ either. elim either [
            | inl was ↦ let low = bad_below 0 m.bad s h was.0 in (found.bad s).1 (inl was, omega arith, omega arith)
            | inr of ↦ let low = of.1 in (found.bad s).1 (inr of.0, omega arith, omega arith)
          ],
        );
      },
    )
