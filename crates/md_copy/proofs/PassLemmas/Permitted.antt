-- Some member may be read where some member serves: one that is not write-mostly, or where there is none, any.
use Rattle.std.proofs.Common.{◌≡◌, ◌⊎◌, ℕ, suc, zero, ◌+◌, ◌-◌, ◌*◌, ◌<◌, true, false, inl, inr, List, [], ◌∷◌, Some, refl, sym, subst, arith, add-mul}
use Rattle.std.specs.List.{slice_get}
use Rattle.std.proofs.lemmas.Bool.{cases_Bool, cases_lt, eq-eqb, eqb-true}
use Rattle.md_badblocks.specs.declared.run.Run.{Run}
use Rattle.md_badblocks.specs.Runs.{IsBad}
use Rattle.md_assembly.specs.declared.state.MemberState.{MemberState}
use Rattle.md_assembly.specs.declared.state.MemberState.TheVariants.{InSync, Recovering, Stale, Spare, Faulty}
use Rattle.md_assembly.specs.States.{is_in_sync_as}
use Rattle.md_kept_members.specs.OwnFields.{is_write_mostly}
use Rattle.md_kept_members.specs.View.{MemberView}
use Rattle.md_state.specs.Members.{IsServedPlainly, IsUnlisted}
use Rattle.md_state.specs.View.{ArrayView}

-- ---- whether a list has a sector of a chunk
has_sector : (runs : List Run) (s : ℕ) → IsBad runs s ⊎ (IsBad runs s → ⊥)
has_sector [] s = inr (λ bad. bad)
has_sector (run ∷ rest) s = elim (has_sector rest s) [
  | inl later ↦ inl (inr later)
  | inr no_later ↦ elim (cases_lt s run.start) [
    | inl before ↦ inr (λ bad. elim bad [ inl here ↦ (let from = here.0 in absurd (omega arith)) | inr later ↦ no_later later ])
    | inr from ↦ elim (cases_lt s (run.start + run.len)) [
      | inl below ↦ inl (inl (from, below))
      | inr past ↦ inr (λ bad. elim bad [ inl here ↦ (let below = here.1 in absurd (omega arith)) | inr later ↦ no_later later ])
    ]
  ]
]

-- so many sectors from one on, below an end
abbrev HasOne : List Run → ℕ → ℕ → ℕ → ℕ → Type 0
HasOne runs offset first end n = (i : ℕ) × (i < n) × (first + i < end) × IsBad runs (offset + (first + i))

has_one : (runs : List Run) (offset first end n : ℕ) → HasOne runs offset first end n ⊎ (HasOne runs offset first end n → ⊥)
has_one runs offset first end zero = inr (λ (i, below, low, bad). absurd (omega (arith, below)))
has_one runs offset first end (suc n) = elim (has_one runs offset first end n) [
  | inl (i, below, low, bad) ↦ inl (i, omega (arith, below), low, bad)
  | inr none ↦ elim (cases_lt (first + n) end) [
    | inl inside ↦ elim (has_sector runs (offset + (first + n))) [
      | inl bad ↦ inl (n, omega arith, inside, bad)
      | inr good ↦ inr (λ (i, below, low, bad). elim (cases_lt i n) [
        | inl early ↦ none (i, early, low, bad)
        | inr late ↦ let same : i ≡ n = omega (arith, below, late) in good (subst (λ (j : ℕ). IsBad runs (offset + (first + j))) same bad)
      ])
    ]
    | inr past ↦ inr (λ (i, below, low, bad). elim (cases_lt i n) [ inl early ↦ none (i, early, low, bad) | inr late ↦ absurd (omega (arith, below, late, low, past)) ])
  ]
]

unlisted_or : (a : ArrayView) (chunk : ℕ) (m : MemberView) → IsUnlisted a chunk m ⊎ (IsUnlisted a chunk m → ⊥)
unlisted_or a chunk m =
    let next : (chunk + 1) * a.chunks.sectors ≡ chunk * a.chunks.sectors + a.chunks.sectors = rw add-mul (omega arith) in
    elim (has_one m.bad m.superblock.data_offset (chunk * a.chunks.sectors) a.chunks.size a.chunks.sectors) [
      | inl (i, below, low, bad) ↦ inr (λ none. none (chunk * a.chunks.sectors + i) (record { from = omega arith; below = omega (arith, next, below); within = low }) bad)
      | inr none ↦ inl (λ s inside bad.
          let from = inside.from in
          let below = inside.below in
          let within = inside.within in
          let there : chunk * a.chunks.sectors + (s - chunk * a.chunks.sectors) ≡ s = omega (arith, from) in
          none (s - chunk * a.chunks.sectors, omega (arith, from, below, next), omega (arith, there, within), subst (λ (x : ℕ). IsBad m.bad (m.superblock.data_offset + x)) (sym there) bad))
    ]

-- ---- whether a member that is not write-mostly serves the chunk
abbrev IsPlain : ArrayView → ℕ → MemberView → Type 0
IsPlain a chunk m = (role : ℕ) × (role < 32) × (is_in_sync_as role m.state ≡ true) × IsUnlisted a chunk m × (is_write_mostly m.superblock ≡ false)

abbrev HasSmallRole : MemberState → Type 0
HasSmallRole state = (role : ℕ) × (role < 32) × (is_in_sync_as role state ≡ true)

role_or : (state : MemberState) → HasSmallRole state ⊎ (HasSmallRole state → ⊥)
role_or (InSync own) = elim (cases_lt own 32) [
  | inl small ↦ inl (own, small, eq-eqb own own refl)
  | inr large ↦ inr (λ (role, small, is). let same : own ≡ role = eqb-true own role is in absurd (omega (arith, small, large, same)))
]
role_or (Recovering own) = inr (λ (role, small, is). absurd cc)
role_or (Stale own) = inr (λ (role, small, is). absurd cc)
role_or Spare = inr (λ (role, small, is). absurd cc)
role_or Faulty = inr (λ (role, small, is). absurd cc)

plain_or : (a : ArrayView) (chunk : ℕ) (m : MemberView) → IsPlain a chunk m ⊎ (IsPlain a chunk m → ⊥)
plain_or a chunk m = elim (role_or m.state) [
  | inr none ↦ inr (λ (role, small, is, unlisted, plain). none (role, small, is))
  | inl (role, small, is) ↦ elim (unlisted_or a chunk m) [
    | inr listed ↦ inr (λ (other, low, as_other, unlisted, plain). listed unlisted)
    | inl unlisted ↦ elim (cases_Bool (is_write_mostly m.superblock)) [
      | inl mostly ↦ inr (λ (other, low, as_other, free, plain). absurd cc)
      | inr plain ↦ inl (role, small, is, unlisted, plain)
    ]
  ]
]

abbrev SomeIsPlain : ArrayView → ℕ → List MemberView → Type 0
SomeIsPlain a chunk ms = (k : ℕ) × (m : MemberView) × (slice_get ms k ≡ Some m) × IsPlain a chunk m

neither : (a : ArrayView) (chunk : ℕ) (m : MemberView) (ms : List MemberView) → (IsPlain a chunk m → ⊥) → (SomeIsPlain a chunk ms → ⊥) → SomeIsPlain a chunk (m ∷ ms) → ⊥
neither a chunk m ms first rest (zero, n, at, plain) = let same : n ≡ m = cc in first (subst (IsPlain a chunk) same plain)
neither a chunk m ms first rest (suc k, n, at, plain) = rest (k, n, at, plain)

some_or : (a : ArrayView) (chunk : ℕ) (ms : List MemberView) → SomeIsPlain a chunk ms ⊎ (SomeIsPlain a chunk ms → ⊥)
some_or a chunk [] = inr (λ (k, m, at, plain). absurd cc)
some_or a chunk (m ∷ ms) = elim (plain_or a chunk m) [
  | inl plain ↦ inl (0, m, refl, plain)
  | inr not_first ↦ elim (some_or a chunk ms) [
    | inl (k, n, at, plain) ↦ inl (suc k, n, at, plain)
    | inr none ↦ inr (neither a chunk m ms not_first none)
  ]
]

pub served_plainly_or : (a : ArrayView) (chunk : ℕ) → IsServedPlainly a chunk ⊎ (IsServedPlainly a chunk → ⊥)
served_plainly_or a chunk = elim (some_or a chunk a.members) [
  | inl (k, m, at, (role, small, is, unlisted, plain)) ↦ inl (role, small, k, m, at, is, unlisted, plain)
  | inr none ↦ inr (λ (role, small, k, m, at, is, unlisted, plain). none (k, m, at, (role, small, is, unlisted, plain)))
]
