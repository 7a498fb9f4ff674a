-- Which roles are found as bits of a word, member by member.
use Rattle.std.proofs.Common.{◌≡◌, ◌⊎◌, ◌∙◌, ◌↔◌, ◌==◌, zero, suc, ℕ, ◌+◌, ◌-◌, ◌*◌, ◌/◌, ◌%◌, ◌^◌, ◌<◌, ◌≤◌, Bool, true, false, bit_or, List, [], ◌∷◌, length, Some, refl, ap, sym, subst, arith, inl, inr}
use Rattle.std.specs.Int.{bit_at}
use Rattle.std.specs.List.{slice_get}
use Rattle.std.proofs.Math.Bool.{beq}
use Rattle.std.proofs.lemmas.Bool.{cases_eq, eq-eqb, eqb-true}
use Rattle.std.proofs.lemmas.Nat.{one_shl}
use Rattle.std.proofs.lemmas.Nat.Bits.{bit_at-lt, bit_at-pow_other, bit_at-pow_same, bit_at-suc, bit_at-zero, bit_at_lowest, bit_at_or}
use Rattle.md_badblocks.specs.declared.run.Run.{Run}
use Rattle.md_badblocks.specs.Runs.{IsBad, RisesFrom}
use Rattle.md_bitmap.specs.declared.chunks.Chunks.{Chunks}
use Rattle.md_bitmap.specs.Chunks.{InChunk}
use Rattle.md_kept_members.specs.View.{MemberView}
use Rattle.md_assembly.specs.States.{is_in_sync_as}
use Rattle.md_kept_members.specs.OwnFields.{is_write_mostly}
use Rattle.md_kept_members.specs.Permitting.{IsServedIn, ListsAny, Serves}
use Rattle.md_kept_members.proofs.Members.Indices.{cases_more}

pub bad_below : (low sector : ℕ) (runs : List Run) → RisesFrom low runs → IsBad runs sector → sector < 2 ^ 54
bad_below low sector [] rises bad = absurd bad
bad_below low sector (run ∷ rest) rises bad = elim bad [
  | inl here ↦ let before = here.1 in let top = rises.2 in omega arith
  | inr later ↦ bad_below (run.start + run.len + 1) sector rest rises.3 later
]

pub none_bad : (runs : List Run) (sector : ℕ) → length runs ≡ 0 → IsBad runs sector → ⊥
none_bad [] sector none bad = bad
none_bad (run ∷ rest) sector none bad = absurd (omega arith)

-- an empty list
pub empty_lists : (chunks : Chunks) (chunk : ℕ) (m : MemberView) → length m.bad ≡ 0 → (false ≡ true) ↔ ListsAny chunks chunk m
empty_lists chunks chunk m none = (λ e. absurd cc, λ l. absurd (none_bad m.bad _ none l.bad))

-- the sectors of a chunk, from its first on
abbrev pub IsRange : Chunks → ℕ → ℕ → ℕ → Type 0
IsRange chunks chunk start len = (s : ℕ) → InChunk chunks.sectors chunks.size chunk s ↔ ((start ≤ s) × (s < start + len))

-- a chunk from 2^64 on
pub past_lists : (chunks : Chunks) (chunk start len low : ℕ) (m : MemberView) → IsRange chunks chunk start len → RisesFrom low m.bad → 2 ^ 64 ≤ m.superblock.data_offset + start → (false ≡ true) ↔ ListsAny chunks chunk m
past_lists chunks chunk start len low m range rises past = (
  λ e. absurd cc,
  λ l. let below = bad_below low _ m.bad rises l.bad in let from = ((range l.sector).0 l.inside).0 in absurd (omega arith),
)

pub meets_lists : (chunks : Chunks) (chunk start len first : ℕ) (m : MemberView) (meets : Bool) → IsRange chunks chunk start len → first ≡ m.superblock.data_offset + start → ((meets ≡ true) ↔ ((sector : ℕ) × IsBad m.bad sector × (first ≤ sector) × (sector < first + len))) → (meets ≡ true) ↔ ListsAny chunks chunk m
meets_lists chunks chunk start len first m meets range at iff = (
  λ met.
      let found = iff.0 met in
      let from = found.2 in
      let below = found.3 in
      let s : ℕ = found.0 - m.superblock.data_offset in
      let same : found.0 ≡ m.superblock.data_offset + s = omega arith in
      record { sector = s; inside = (range s).1 (omega arith, omega arith); bad = subst (IsBad m.bad) same found.1 },
  λ l.
      let inside = (range l.sector).0 l.inside in
      let from = inside.0 in
      let below = inside.1 in
      iff.1 (m.superblock.data_offset + l.sector, l.bad, omega arith, omega arith),
)

-- no role's bit is set
pub zero_bits : (role : ℕ) (P : Type 0) → (P → ⊥) → (bit_at 0 role ≡ 1) ↔ P
zero_bits role P none = (λ e. let zero = bit_at-zero role in absurd (omega arith), λ p. absurd (none p))

-- one role's bit is
pub one_bit : (role wanted : ℕ) → role < 32 → (bit_at (1 * 2 ^ role % 2 ^ 32) wanted ≡ 1) ↔ ((role == wanted) ≡ true)
one_bit role wanted small =
    let P : ℕ → Type 0 = λ n. (bit_at n wanted ≡ 1) ↔ ((role == wanted) ≡ true) in
    let bits : P (2 ^ role) = elim (cases_eq wanted role) [
      | inl same ↦
          let set : bit_at (2 ^ role) wanted ≡ 1 = ap (bit_at (2 ^ role)) same ∙ bit_at-pow_same role in
          let equal = eq-eqb role wanted (sym same) in
          (λ _. equal, λ _. set)
      | inr other ↦
          let unset = bit_at-pow_other role wanted other in
          (λ e. absurd (omega arith), λ e. absurd (other (sym (eqb-true role wanted e))))
    ] in
    subst P (sym (one_shl role 32 small)) bits

-- a member that lists a sector, and one that lists none
pub listed_role : (chunks : Chunks) (chunk role : ℕ) (m : MemberView) (lists : Bool) → ((lists ≡ true) ↔ ListsAny chunks chunk m) → lists ≡ true → (bit_at 0 role ≡ 1) ↔ Serves chunks chunk role m
listed_role chunks chunk role m lists iff e = zero_bits role (Serves chunks chunk role m) (λ may. may.unlisted (iff.0 e))

pub unlisted_role : (chunks : Chunks) (chunk role : ℕ) (m : MemberView) (bit : ℕ) → (ListsAny chunks chunk m → ⊥) → ((bit ≡ 1) ↔ (is_in_sync_as role m.state ≡ true)) → (bit ≡ 1) ↔ Serves chunks chunk role m
unlisted_role chunks chunk role m bit none bits = (λ set. record { in_sync = bits.0 set; unlisted = none }, λ may. bits.1 may.in_sync)

-- a word that is not 0 has a bit
pub some_bit : (k n : ℕ) → n < 2 ^ k → (n ≡ 0 → ⊥) → (r : ℕ) × (r < k) × (bit_at n r ≡ 1)
some_bit zero n small other = absurd (other (omega arith))
some_bit (suc k) n small other = elim (cases_eq (n % 2) 1) [
  | inl odd ↦ (0, omega arith, bit_at_lowest n ∙ odd)
  | inr even ↦
      let half = some_bit k (n / 2) (omega arith) (λ none. other (omega arith)) in
      (suc half.0, let low = half.1 in omega arith, bit_at-suc n half.0 ∙ half.2)
]

-- Of two words the first counts, unless it is 0.
abbrev pub HasBits : ℕ → (ℕ → Type 0) → Type 0
HasBits n P = (role : ℕ) → role < 32 → (bit_at n role ≡ 1) ↔ P role

abbrev pub OfFirst : (ℕ → Type 0) → (ℕ → Type 0) → ℕ → Type 0
OfFirst P Q role = P role ⊎ (Q role × ((other : ℕ) → other < 32 → P other → ⊥))

pub first_bits : (P Q : ℕ → Type 0) (n : ℕ) → n < 2 ^ 32 → (n ≡ 0 → ⊥) → HasBits n P → HasBits n (OfFirst P Q)
first_bits P Q n small other bits role low =
    let some = some_bit 32 n small other in
    (λ set. inl ((bits role low).0 set), λ either. elim either [ inl p ↦ (bits role low).1 p | inr q ↦ absurd (q.1 some.0 some.1 ((bits some.0 some.1).0 some.2)) ])

pub second_bits : (P Q : ℕ → Type 0) (first n : ℕ) → first ≡ 0 → HasBits first P → HasBits n Q → HasBits n (OfFirst P Q)
second_bits P Q first n is first_is bits role low =
    let none : (r : ℕ) → r < 32 → P r → ⊥ = λ r small p. let set = (first_is r small).1 p in absurd (both r set (bit_at-zero r)) in
    (λ set. inr ((bits role low).0 set, none), λ either. elim either [ inl p ↦ absurd (none role low p) | inr q ↦ (bits role low).1 q.0 ])
  where
    both : (r : ℕ) → bit_at first r ≡ 1 → bit_at 0 r ≡ 0 → ⊥
    both r set none = let same : bit_at first r ≡ bit_at 0 r = ap (λ x. bit_at x r) is in omega (arith, same)

-- a flag that is compared with one that is wanted
pub same_flag : (is wanted : Bool) → beq is wanted ≡ true → is ≡ wanted
same_flag true true e = refl
same_flag false false e = refl
same_flag true false e = cc
same_flag false true e = cc

pub other_flag : (is wanted : Bool) → beq is wanted ≡ false → is ≡ wanted → ⊥
other_flag true true e same = absurd cc
other_flag false false e same = absurd cc
other_flag true false e same = absurd cc
other_flag false true e same = absurd cc

pub wanted_flag : (is wanted : Bool) → (beq is wanted ≡ true) ↔ (is ≡ wanted)
wanted_flag true true = (λ e. refl, λ e. refl)
wanted_flag false false = (λ e. refl, λ e. refl)
wanted_flag true false = (λ e. cc, λ e. cc)
wanted_flag false true = (λ e. cc, λ e. cc)

-- one of the first n members serves
pub no_members : (members : List MemberView) (chunks : Chunks) (chunk : ℕ) (mostly : Bool) (role : ℕ) → (bit_at 0 role ≡ 1) ↔ IsServedIn members 0 chunks chunk mostly role
no_members members chunks chunk mostly role = zero_bits role (IsServedIn members 0 chunks chunk mostly role) (λ h. let early = h.early in omega arith)

module _ (members : List MemberView) (n : ℕ) (chunks : Chunks) (chunk : ℕ) (mostly : Bool) (role : ℕ) (m : MemberView) (listed : slice_get members n ≡ Some m) where
  later : IsServedIn members n chunks chunk mostly role → IsServedIn members (n + 1) chunks chunk mostly role
  later h = let early = h.early in record { at = h.at; member = h.member; early = omega arith; listed = h.listed; serves = h.serves; flag = h.flag }

  -- it was one before, or it is the last
  either_one : IsServedIn members (n + 1) chunks chunk mostly role → IsServedIn members n chunks chunk mostly role ⊎ (Serves chunks chunk role m × (is_write_mostly m.superblock ≡ mostly))
  either_one h = elim (cases_more h.at n h.early) [
    | inl early ↦ inl (record { at = h.at; member = h.member; early = early; listed = h.listed; serves = h.serves; flag = h.flag })
    | inr here ↦
        let at_n = subst (λ (k : ℕ). slice_get members k ≡ Some h.member) here h.listed in
        let same : h.member ≡ m = cc in
        inr (subst (Serves chunks chunk role) same h.serves, sym (ap (λ (x : MemberView). is_write_mostly x.superblock) same) ∙ h.flag)
  ]

  -- one more member
  pub one_more_role : (old bit : ℕ) → is_write_mostly m.superblock ≡ mostly → ((bit_at old role ≡ 1) ↔ IsServedIn members n chunks chunk mostly role) → ((bit_at bit role ≡ 1) ↔ Serves chunks chunk role m)
      → (bit_at (bit_or old bit) role ≡ 1) ↔ IsServedIn members (n + 1) chunks chunk mostly role
  one_more_role old bit flag before this =
      let either = bit_at_or old bit role in
      let low_old = bit_at-lt old role in
      let low_bit = bit_at-lt bit role in (
        λ set. elim (cases_eq (bit_at old role) 1) [
          | inl was ↦ later (before.0 was)
          | inr was_not ↦ let is : bit_at bit role ≡ 1 = omega arith in record { at = n; member = m; early = omega arith; listed = listed; serves = this.0 is; flag = flag }
        ],
        λ h. elim (either_one h) [
          | inl earlier ↦ let was = before.1 earlier in omega arith
          | inr here ↦ let is = this.1 here.0 in omega arith
        ],
      )

  -- one more that does not count
  pub one_other_role : (old : ℕ) → (is_write_mostly m.superblock ≡ mostly → ⊥) → ((bit_at old role ≡ 1) ↔ IsServedIn members n chunks chunk mostly role)
      → (bit_at old role ≡ 1) ↔ IsServedIn members (n + 1) chunks chunk mostly role
  one_other_role old apart before = (
    λ set. later (before.0 set),
    λ h. elim (either_one h) [ inl earlier ↦ before.1 earlier | inr here ↦ absurd (apart here.1) ],
  )
