-- Each check decides the faults at its place.
use Rattle.std.proofs.Common.{◌≡◌, ℕ, ◌+◌, ◌<◌, List, length, arith, inl, inr}
use Rattle.std.proofs.lemmas.Bool.{cases_lt}
use Rattle.md_members.specs.declared.info.MemberInfo.{MemberInfo}
use Rattle.md_assembly.specs.declared.fault.AssembleFault.{AssembleFault}
use Rattle.md_assembly.specs.declared.fault.AssembleFault.TheVariants.{Empty, Stranger, DoubleNumber, NoBitmap, Geometry, DoubleRole, NotEnough, NoMemory}
use Rattle.md_assembly.specs.Faults.{HasOtherGeometry, IsDoubleRole, IsFirstAssembleFault, IsStranger, LacksBitmap, NoAssembleFault, NoneBeforePlace, RepeatsNumber, AssembleFaultStands, assemble_fault_place}
use Rattle.md_assembly.specs.Listed.{MemberAt, PairAt}

-- none stands before a place, nor at it
next_place : (members : List MemberInfo) (n : ℕ) → NoneBeforePlace members n → ((f : AssembleFault) → assemble_fault_place f ≡ n → AssembleFaultStands members f → ⊥) → NoneBeforePlace members (n + 1)
next_place members n before none f lt s =
    elim (cases_lt (assemble_fault_place f) n) [
      | inl less ↦ before f less s
      | inr more ↦ let at : assemble_fault_place f ≡ n = omega arith in none f at s
    ]

no_stranger : (members : List MemberInfo) → ((i : ℕ) → PairAt IsStranger members 0 i → ⊥) → (f : AssembleFault) → assemble_fault_place f ≡ 3 → AssembleFaultStands members f → ⊥
no_stranger members none (Stranger i) at s = none i s.holds
no_stranger members none _ at s = absurd (omega arith)

no_number : (members : List MemberInfo) → ((j : ℕ) → RepeatsNumber members j → ⊥) → (f : AssembleFault) → assemble_fault_place f ≡ 4 → AssembleFaultStands members f → ⊥
no_number members none (DoubleNumber i j) at s = none j s.2.holds
no_number members none _ at s = absurd (omega arith)

no_bitmap : (members : List MemberInfo) → ((i : ℕ) → MemberAt LacksBitmap members i → ⊥) → (f : AssembleFault) → assemble_fault_place f ≡ 5 → AssembleFaultStands members f → ⊥
no_bitmap members none (NoBitmap i) at s = none i s.holds
no_bitmap members none _ at s = absurd (omega arith)

no_geometry : (members : List MemberInfo) → ((i : ℕ) → PairAt HasOtherGeometry members 0 i → ⊥) → (f : AssembleFault) → assemble_fault_place f ≡ 6 → AssembleFaultStands members f → ⊥
no_geometry members none (Geometry i) at s = none i s.holds
no_geometry members none _ at s = absurd (omega arith)

no_double_role : (members : List MemberInfo) → ((role : ℕ) → IsDoubleRole members role → ⊥) → (f : AssembleFault) → assemble_fault_place f ≡ 7 → AssembleFaultStands members f → ⊥
no_double_role members none (DoubleRole role) at s = none role s.holds
no_double_role members none _ at s = absurd (omega arith)

enough : (members : List MemberInfo) → (AssembleFaultStands members NotEnough → ⊥) → (f : AssembleFault) → assemble_fault_place f ≡ 8 → AssembleFaultStands members f → ⊥
enough members none NotEnough at s = none s
enough members none _ at s = absurd (omega arith)

pub sets_pass : (members : List MemberInfo) → NoneBeforePlace members 3 → ((i : ℕ) → PairAt IsStranger members 0 i → ⊥) → NoneBeforePlace members 4
sets_pass members before none = next_place members 3 before (no_stranger members none)

pub numbers_pass : (members : List MemberInfo) → NoneBeforePlace members 4 → ((j : ℕ) → RepeatsNumber members j → ⊥) → NoneBeforePlace members 5
numbers_pass members before none = next_place members 4 before (no_number members none)

pub bitmaps_pass : (members : List MemberInfo) → NoneBeforePlace members 5 → ((i : ℕ) → MemberAt LacksBitmap members i → ⊥) → NoneBeforePlace members 6
bitmaps_pass members before none = next_place members 5 before (no_bitmap members none)

pub geometry_passes : (members : List MemberInfo) → NoneBeforePlace members 6 → ((i : ℕ) → PairAt HasOtherGeometry members 0 i → ⊥) → NoneBeforePlace members 7
geometry_passes members before none = next_place members 6 before (no_geometry members none)

pub roles_pass : (members : List MemberInfo) → NoneBeforePlace members 7 → ((role : ℕ) → IsDoubleRole members role → ⊥) → NoneBeforePlace members 8
roles_pass members before none = next_place members 7 before (no_double_role members none)

pub enough_passes : (members : List MemberInfo) → NoneBeforePlace members 8 → (AssembleFaultStands members NotEnough → ⊥) → NoAssembleFault members
enough_passes members before none = next_place members 8 before (enough members none)

pub memory_is_last : (members : List MemberInfo) → NoAssembleFault members → IsFirstAssembleFault members NoMemory
memory_is_last members none = record { stands = tt; first = none }

-- members in which no fault of the list itself stands are some
pub some_members : (members : List MemberInfo) → NoneBeforePlace members 7 → 0 < length members
some_members members none = elim (cases_lt 0 (length members)) [ inl some ↦ some | inr empty ↦ absurd (none Empty (omega arith) (omega arith)) ]
