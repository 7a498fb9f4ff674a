-- A chunk of the target is filled sector by sector: the sectors of other chunks that it holds it holds still.
use Rattle.std.proofs.Common.{◌≡◌, ◌≢◌, ◌∙◌, ◌↔◌, ◌⊎◌, ◌||◌, ◌==◌, ℕ, ◌/◌, ◌<◌, ◌≤◌, true, false, sym, ap, subst, inl, inr}
use Rattle.std.proofs.lemmas.Bool.{both_ways, cases_eq, cases_lt, ne_eqb}
use Rattle.md_bitmap.specs.Chunks.{InChunk}
use Rattle.md_bitmap.specs.Marks.{Bitmap, is_set}
use Rattle.md_kept_members.specs.View.{MemberView}
use Rattle.md_state.specs.Members.{IsMember}
use Rattle.md_state.specs.Missing.{is_missing}
use Rattle.md_state.specs.View.{ArrayView, MirrorView}
use Rattle.md_array.specs.Consistency.{IsConsistent}
use Rattle.md_array.proofs.Rebuilding.HeldContent.{chunk_unique}
use Rattle.md_copy.specs.Salvaging.Filling.{FillsWithin}
use Rattle.md_copy.specs.Salvaging.Sectors.{AreLacked, AreSectorsHeld, IsSectorHeld}
use Rattle.md_copy.specs.Table.Sources.{LacksChunk}
use Rattle.md_copy.proofs.SalvageLemmas.Within.{held_still}

-- these are the sectors of the chunk
abbrev pub IsRangeOf : MirrorView → ℕ → ℕ → ℕ → Type 0
IsRangeOf v c start end = (s : ℕ) → InChunk v.array.chunks.sectors v.array.chunks.size c s ↔ ((start ≤ s) × (s < end))

-- a chunk that is lacked has sectors that are
pub chunk_lacked : (v : MirrorView) → IsConsistent v → (target c start end : ℕ) → IsRangeOf v c start end → ((m : MemberView) → IsMember v.array target m → LacksChunk v.array m c) → AreLacked v target start end
chunk_lacked v sound target c start end range lacks m there s low high =
    let inside = (range s).1 (low, high) in
    let is : s / v.array.chunks.sectors ≡ c = sym (chunk_unique v.array.chunks.size v.array.chunks.sectors s c sound.chunks.wide inside) in
    record { inside = inside.within; missing = ap (is_missing v.array m) is ∙ (lacks m there).missing }

-- ---- the other chunks
pub others_still : (v w : MirrorView) → IsConsistent v → (target c start end : ℕ) → IsRangeOf v c start end → FillsWithin target start end v w → (copied : Bitmap) → is_set copied.bytes c ≡ false
    → AreSectorsHeld v target copied → AreSectorsHeld w target copied
others_still v w sound target c start end range fills copied clear held =
    subst (λ (a : ArrayView). AreSectorsHeld (record { disks = w.disks; array = a }) target copied) (sym fills.array) (record {
      chunks = held.chunks;
      held = λ b s low set inside. moved (held_still target start end v w fills s (apart b s set inside) (held.held b s low set inside));
      unlisted = held.unlisted;
    })
  where
    apart : (b s : ℕ) → is_set copied.bytes b ≡ true → InChunk v.array.chunks.sectors v.array.chunks.size b s → (s < start) ⊎ (end ≤ s)
    apart b s set inside = elim (cases_lt s start) [
      | inl low ↦ inl low
      | inr from ↦ elim (cases_lt s end) [
        | inl below ↦
            let here = (range s).1 (from, below) in
            let same : b ≡ c = chunk_unique v.array.chunks.size v.array.chunks.sectors s b sound.chunks.wide inside ∙ sym (chunk_unique v.array.chunks.size v.array.chunks.sectors s c sound.chunks.wide here) in
            absurd (both_ways (is_set copied.bytes b) (ap (is_set copied.bytes) same ∙ clear) set)
        | inr past ↦ inr past
      ]
    ]

    moved : {s : ℕ} → IsSectorHeld w target s → IsSectorHeld (record { disks = w.disks; array = v.array }) target s
    moved {s} h = subst (λ (a : ArrayView). IsSectorHeld (record { disks = w.disks; array = a }) target s) fills.array h

-- ---- the chunk itself, if none of its sectors is lost
pub chunk_more : (v : MirrorView) → IsConsistent v → (target c start end : ℕ) → IsRangeOf v c start end → (before after : Bitmap) → after.chunks ≡ before.chunks
    → ((b : ℕ) → is_set after.bytes b ≡ (b == c || is_set before.bytes b)) → ((s : ℕ) → start ≤ s → s < end → IsSectorHeld v target s) → ((m : MemberView) → IsMember v.array target m → is_missing v.array m c ≡ true)
    → AreSectorsHeld v target before → AreSectorsHeld v target after
chunk_more v sound target c start end range before after count bits own missing held = record {
  chunks = count ∙ held.chunks;
  held = λ b s low set inside. elim (cases_eq b c) [
    | inl here ↦ let there = (range s).0 (subst (λ k. InChunk v.array.chunks.sectors v.array.chunks.size k s) here inside) in own s there.0 there.1
    | inr other ↦ held.held b s low (was b other set) inside
  ];
  unlisted = λ m there b low set has lists. elim (cases_eq b c) [
    | inl here ↦ has (ap (is_missing v.array m) here ∙ missing m there)
    | inr other ↦ held.unlisted m there b low (was b other set) has lists
  ];
}
  where
    was : (b : ℕ) → b ≢ c → is_set after.bytes b ≡ true → is_set before.bytes b ≡ true
    was b other set = sym (bits b ∙ ap (λ x. x || is_set before.bytes b) (ne_eqb b c other)) ∙ set
