-- A rebuild's passes, one after another: a table of what is left, a least plan of it, and the slots of that plan that failed, of whose chunks the
-- next table is.
use Rattle.std.specs.Prelude.{◌≡◌, ◌≢◌, ◌↔◌, ℕ, ◌+◌, ◌<◌, ◌≤◌, List, [], ◌∷◌, ◌++◌, length, map, All, Contains}
use Rattle.std.specs.Int.{bit_at}
use Rattle.std.specs.List.{Any}
use Rattle.md_cert.specs.declared.table.Row.{Row}
use Rattle.md_cert.specs.declared.slots.Slot.{Slot}
use Rattle.md_cert.specs.Assignments.{Least}
use Rattle.md_cert.specs.Plans.{IsCertified, SlotsRise}
use Rattle.md_cert.specs.Tables.{chunks_of_rows, orphans_of}
use Rattle.md_cert.specs.declared.planned.Planned.{Planned}

-- a pass: its plan, and the slots that failed
pub record PassView : Type 0 where
  pub planned : Planned
  pub failed : List Slot

abbrev pub slots_of_pass : PassView → List Slot
slots_of_pass p = p.planned.plan.slots

-- the chunks of the slots that failed
abbrev pub failed_chunks : PassView → List ℕ
failed_chunks p = map (λ s. s.chunk) p.failed

-- The pass copied the chunk: a slot has it that did not fail.
abbrev pub PassCopies : ℕ → PassView → Type 0
PassCopies c p = Any (λ s. (s.chunk ≡ c) × (Contains p.failed s → ⊥)) (slots_of_pass p)

-- One of these passes copied the chunk.
abbrev pub IsCopiedIn : List PassView → ℕ → Type 0
IsCopiedIn passes c = Any (PassCopies c) passes

-- A is what a mirror keeps of its array in memory. `Serves a chunk role`: the member in sync in the role lists no sector of the chunk.
-- `Permitted a chunk role`: a plan may have the chunk read there. `Lists failed a b`: the chunk of each of these slots comes to its source's list.
module _ {A : Type 0} (Serves Permitted : A → ℕ → ℕ → Type 0) (Lists : List Slot → A → A → Type 0) where
  -- a plan reads where a chunk is served, and of each chunk that is served it may read somewhere
  pub record Permits : Type 0 where
    pub served : (a : A) (c r : ℕ) → Permitted a c r → Serves a c r
    pub some : (a : A) (c r : ℕ) → Serves a c r → (q : ℕ) × Permitted a c q
    pub role : (a : A) (c r : ℕ) → Serves a c r → r < 32

  -- a slot that is listed is served no more, and the others are served as before
  pub record ListsAlone : Type 0 where
    pub fewer : (failed : List Slot) (a b : A) (c r : ℕ) → Lists failed a b → Serves b c r → Serves a c r
    pub others : (failed : List Slot) (a b : A) (c r : ℕ) → Lists failed a b → Serves a c r → ((s : Slot) → Contains failed s → s.chunk ≡ c → s.source ≡ r → ⊥) → Serves b c r
    pub listed : (failed : List Slot) (a b : A) (s : Slot) → Lists failed a b → Contains failed s → Serves b s.chunk s.source → ⊥

  -- A pass over these chunks: its table has them, each with the roles that are permitted for it then, and its plan is least for that table.
  pub record IsPassOf (a : A) (chunks : List ℕ) (p : PassView) : Type 0 where
    pub rows : List Row
    pub chunks_are : chunks_of_rows rows ≡ chunks
    pub sources : All (λ row. (role : ℕ) → role < 32 → (bit_at row.mask role ≡ 1) ↔ Permitted a row.chunk role) rows
    pub certified : IsCertified rows p.planned.plan p.planned.certificate
    pub least : Least rows p.planned.plan.rounds
    pub orphans : p.planned.orphans ≡ orphans_of rows
    pub failed : All (Contains (slots_of_pass p)) p.failed
    pub failed_rise : SlotsRise p.failed

  -- Passes one after another, and the array after the last. After each but the last some slots failed: their chunks are listed, and are the next
  -- table's.
  abbrev pub ArePasses : List PassView → A → List ℕ → A → Type 0
  ArePasses [] a chunks end = ⊥
  ArePasses (p ∷ []) a chunks end = IsPassOf a chunks p × (p.failed ≡ []) × (end ≡ a)
  ArePasses (p ∷ q ∷ ps) a chunks end =
      IsPassOf a chunks p × (p.failed ≢ []) × ((b : A) × Lists p.failed a b × ArePasses (q ∷ ps) b (failed_chunks p) end)

  -- Passes so far, each of which had slots that failed: whatever passes follow, all together are passes from the first on.
  abbrev pub LeadsToPasses : List PassView → A → List ℕ → A → List ℕ → Type 0
  LeadsToPasses passes a chunks b left =
      (rest : List PassView) (end : A) → ArePasses rest b left end → ArePasses (passes ++ rest) a chunks end

  -- there are at most so many chunks, each counted for each role in which it is served
  abbrev pub ServesAtMost : A → ℕ → Type 0
  ServesAtMost a n = (pairs : List (ℕ × ℕ)) × (length pairs ≤ n) × ((c r : ℕ) → Serves a c r → Contains pairs (c, r))

  -- What holds of all passes together: a chunk of the first table was copied exactly where it is served at the end, what is served no more was a slot
  -- that failed, and there are not many passes.
  pub record AreAllPasses (passes : List PassView) (a : A) (chunks : List ℕ) (end : A) : Type 0 where
    pub some : 1 ≤ length passes
    pub few : (n : ℕ) → ServesAtMost a n → length passes ≤ n + 1
    pub copied : (c : ℕ) → Contains chunks c → IsCopiedIn passes c ↔ ((r : ℕ) × Serves end c r)
    pub within : (c : ℕ) → IsCopiedIn passes c → Contains chunks c
    pub lost : (c r : ℕ) → Serves a c r → (Serves end c r → ⊥) → Any (λ p. Any (λ s. (s.chunk ≡ c) × (s.source ≡ r)) p.failed) passes
    pub kept : (c r : ℕ) → Serves end c r → Serves a c r

  -- one pass more, of which slots failed and are listed now: fewer chunks are served then
  pub record AddsPass (passes : List PassView) (a : A) (chunks : List ℕ) (b : A) (left : List ℕ) (p : PassView) (c : A) : Type 0 where
    pub goes : LeadsToPasses (passes ++ p ∷ []) a chunks c (failed_chunks p)
    pub fewer : (n : ℕ) → ServesAtMost b n → (m : ℕ) × (m + 1 ≤ n) × ServesAtMost c m
