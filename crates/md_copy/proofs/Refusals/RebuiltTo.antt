-- How far a target is rebuilt, by the passes that were recorded on it.
use Rattle.std.proofs.Common.{◌≡◌, ◌∙◌, ◌⊎◌, ℕ, ◌+◌, ◌*◌, ◌/◌, ◌<◌, ◌≤◌, ◌||◌, Bool, true, false, cond, not, leb, max, refl, sym, ap, subst, arith, inl, inr}
use Rattle.std.specs.Int.{div_ceil}
use Rattle.std.proofs.lemmas.Bool.{both_ways, cases_Bool, cases_lt, or_right}
use Rattle.std.proofs.lemmas.Bool.Decides.{nat_tests}
use Rattle.std.proofs.lemmas.Grind.{div_ceil_times}
use Rattle.std.proofs.lemmas.Nat.{div_below, mul-le}
use Rattle.md_assembly.specs.States.{is_recovering}
use Rattle.md_badblocks.specs.Runs.{IsBad}
use Rattle.md_bitmap.specs.declared.chunks.Chunks.{Chunks}
use Rattle.md_bitmap.specs.Marks.{Bitmap, is_set}
use Rattle.md_kept_members.specs.Permitting.{ListsAny}
use Rattle.md_kept_members.specs.View.{MemberView}
use Rattle.md_state.specs.Steps.Checkpoint.{EndsCheckpoint}
use Rattle.md_state.specs.Members.{IsMember}
use Rattle.md_state.specs.Missing.{has_passed, is_missing}
use Rattle.md_state.specs.View.{ArrayView, MirrorView}
use Rattle.md_array.specs.Steps.Checkpoint.{Checkpoints}
use Rattle.md_array.specs.Consistency.{IsConsistent}
use Rattle.md_copy.specs.Table.Orphans.{IsSubset}
use Rattle.md_copy.specs.Refused.{IsRebuiltTo, rebuilt_offset}
use Rattle.md_copy.proofs.Held.HeldRecorded.{first_low, lacks_so, target_same}
use Rattle.md_copy.proofs.Refusals.Refused.{Preserves}

-- so far is the target of a mirror
abbrev pub RebuiltTo : ℕ → ArrayView → MemberView → MirrorView → Bitmap → Type 0
RebuiltTo target a m v copied = (n : MemberView) → IsMember v.array target n → IsRebuiltTo a m copied n.offset n.superblock.recovery_offset

-- a member is rebuilt as far as it was, and so it says
pub record IsSoFar (m n : MemberView) : Type 0 where
  pub offset : n.offset ≡ m.offset
  pub sure : n.superblock.recovery_offset ≡ m.superblock.recovery_offset

pub so_far_same : (m n : MemberView) → n ≡ m → IsSoFar m n
so_far_same m n is = record { offset = ap (λ (z : MemberView). z.offset) is; sure = ap (λ (z : MemberView). z.superblock.recovery_offset) is }

-- it is what it was
pub same_to : (target : ℕ) (a : ArrayView) (m : MemberView) (v w : MirrorView) (copied : Bitmap)
    → ((n : MemberView) → IsMember w.array target n → (l : MemberView) × IsMember v.array target l × IsSoFar l n) → RebuiltTo target a m v copied
    → RebuiltTo target a m w copied
same_to target a m v w copied was to n at =
    (let l = was n at in
    subst (λ s. IsRebuiltTo a m copied n.offset s) (sym l.2.sure) (subst (λ o. IsRebuiltTo a m copied o l.0.superblock.recovery_offset) (sym l.2.offset) (to l.0 l.1)))

-- ---- the first chunk that is lacking
-- a member that is not in sync lacks a chunk without a mark only where its offset has not passed it
unpassed : (marked passed : Bool) → (marked || not passed) ≡ true → marked ≡ false → passed ≡ false
unpassed false false is clear = refl
unpassed false true is clear = absurd cc
unpassed true passed is clear = absurd cc

passed_so : (marked passed : Bool) → (marked || not passed) ≡ false → (marked ≡ false) × (passed ≡ true)
passed_so false true is = (refl, refl)
passed_so false false is = absurd cc
passed_so true passed is = absurd cc

-- where it was before, and where the chunk starts, lie before the chunk's end and the array's
chunk_starts : (old : MirrorView) → IsConsistent old → (c : ℕ) → c < old.array.marks.chunks
    → (c * old.array.chunks.sectors < old.array.chunks.size) × (c * old.array.chunks.sectors < (c + 1) * old.array.chunks.sectors)
chunk_starts old sound c low =
    let size = old.array.chunks.size in
    let width = old.array.chunks.sectors in
    let wide = sound.chunks.wide in
    let count = sound.chunks.count in
    let bounds = div_ceil_times size width wide in
    let up = mul-le (c + 1) width (div_ceil size width) width (omega (arith, low, count)) (omega arith) in
    let next : (c + 1) * width ≡ c * width + width = grind arith in
    let high = bounds.1 in
    (omega (arith, high, up, next, wide), omega (arith, next, wide))

not_before : (size width offset c : ℕ) → (leb size offset || leb ((c + 1) * width) offset) ≡ false → (offset < size) × (offset < (c + 1) * width)
not_before size width offset c none = (grind (arith, nat_tests), grind (arith, nat_tests))

not_passed : (size width offset c : ℕ) → offset < size → offset < (c + 1) * width → (leb size offset || leb ((c + 1) * width) offset) ≡ true → ⊥
not_passed size width offset c below next passed = both_ways (leb size offset || leb ((c + 1) * width) offset) (grind (arith, nat_tests)) passed

cond_true : (b : Bool) (x : ℕ) → b ≡ true → cond b x 0 ≡ x
cond_true true x is = refl
cond_true false x is = absurd cc

cond_false : (b : Bool) (x : ℕ) → b ≡ false → cond b x 0 ≡ 0
cond_false true x is = absurd cc
cond_false false x is = refl

module _ (target : ℕ) (old : MirrorView) (sound : IsConsistent old) (m : MemberView) (at : IsMember old.array target m) where
  abbrev a : ArrayView
  a = old.array

  lies_before : (c : ℕ) → c < a.marks.chunks → is_missing a m c ≡ true → is_set a.marks.bytes c ≡ false → (rebuilt_offset m < a.chunks.size) × (rebuilt_offset m < (c + 1) * a.chunks.sectors)
  lies_before c low missing clear = elim (cases_Bool (is_recovering m.state)) [
    | inl recovers ↦
        let passed = unpassed (is_set a.marks.bytes c) (has_passed a m c) (sym (lacks_so a m c recovers) ∙ missing) clear in
        let is = cond_true (is_recovering m.state) m.offset recovers in
        let both = not_before a.chunks.size a.chunks.sectors m.offset c passed in
        let first = both.0 in
        let second = both.1 in
        (omega (arith, is, first), omega (arith, is, second))
    | inr none ↦
        let is = cond_false (is_recovering m.state) m.offset none in
        let both = chunk_starts old sound c low in
        let first = both.0 in
        let second = both.1 in
        (omega (arith, is, first), omega (arith, is, second))
  ]

  -- ---- it is recorded
  module _ (v w : MirrorView) (sound_v : IsConsistent v) (x : Preserves target old v) (had copied : Bitmap) (r : Checkpoints target copied v w) (to : RebuiltTo target a m v had) where
    abbrev n : MemberView
    n = r.may.member

    lists_there : (c : ℕ) → ListsAny a.chunks c m → ListsAny v.array.chunks c n
    lists_there c lists =
        subst (λ (q : Chunks). ListsAny q c n) (sym x.chunks)
        (record {
          sector = lists.sector;
          inside = lists.inside;
          bad = subst (λ runs. IsBad runs (n.superblock.data_offset + lists.sector)) (sym (x.own m n at r.may.at).list) (subst (λ o. IsBad m.bad (o + lists.sector)) (sym (x.offset target m n at r.may.at)) lists.bad);
        })

    lists_before : (c : ℕ) → ListsAny v.array.chunks c n → ListsAny a.chunks c m
    lists_before c lists =
        let is = subst (λ (q : Chunks). ListsAny q c n) x.chunks lists in
        record {
          sector = is.sector;
          inside = is.inside;
          bad = subst (λ o. IsBad m.bad (o + is.sector)) (x.offset target m n at r.may.at) (subst (λ runs. IsBad runs (n.superblock.data_offset + is.sector)) (x.own m n at r.may.at).list is.bad);
        }

    low_there : (c : ℕ) → c < a.marks.chunks → c < v.array.marks.chunks
    low_there c low = subst (λ (b : Bitmap). c < b.chunks) (sym x.marks) low

    low_before : (c : ℕ) → c < v.array.marks.chunks → c < a.marks.chunks
    low_before c low = subst (λ (b : Bitmap). c < b.chunks) x.marks low

    -- a chunk that stopped it before and stops it now
    stop_low : (c : ℕ) → c < a.marks.chunks → EndsCheckpoint a m had c → ((is_missing a m c ≡ true) × (is_set copied.bytes c ≡ false)) ⊎ ListsAny a.chunks c m → r.sure ≤ c * a.chunks.sectors
    stop_low c low before now = stop_so now
      where
        at_crash : EndsCheckpoint v.array n copied c → r.sure ≤ c * a.chunks.sectors
        at_crash stops = (let first = first_low v.array n copied r.sure c r.first (low_there c low) stops in let width = ap (λ (q : Chunks). c * q.sectors) x.chunks in omega (arith, first, width))

        gone : is_missing a m c ≡ true → is_missing v.array n c ≡ false → ⊥
        gone missing none =
            let so = passed_so (is_set v.array.marks.bytes c) (has_passed v.array n c) (sym (lacks_so v.array n c r.may.recovering) ∙ none) in
            let clear : is_set a.marks.bytes c ≡ false = ap (λ (b : Bitmap). is_set b.bytes c) (sym x.marks) ∙ so.0 in
            let high = (to n r.may.at).below c low before in
            let lies = lies_before c low missing clear in
            let starts = chunk_starts old sound c low in
            let l0 = lies.0 in
            let l1 = lies.1 in
            let s0 = starts.0 in
            let s1 = starts.1 in
            not_passed a.chunks.size a.chunks.sectors n.offset c (omega (arith, high, l0, s0)) (omega (arith, high, l1, s1))
            (subst (λ (q : Chunks). (leb q.size n.offset || leb ((c + 1) * q.sectors) n.offset) ≡ true) x.chunks so.1)

        stop_so : ((is_missing a m c ≡ true) × (is_set copied.bytes c ≡ false)) ⊎ ListsAny a.chunks c m → r.sure ≤ c * a.chunks.sectors
        stop_so (inr lists) = at_crash (inr (lists_there c lists))
        stop_so (inl is) = elim (cases_Bool (is_missing v.array n c)) [ inl still ↦ at_crash (inl (still, is.1)) | inr none ↦ absurd (gone is.0 none) ]

    stop_high : (c : ℕ) → c < a.marks.chunks → EndsCheckpoint a m had c → ((is_missing a m c ≡ true) × (is_set copied.bytes c ≡ false)) ⊎ ListsAny a.chunks c m
        → max n.offset r.sure ≤ max (rebuilt_offset m) (c * a.chunks.sectors)
    stop_high c low before now =
        let was = (to n r.may.at).below c low before in
        let stop = stop_low c low before now in
        omega (arith, was, stop)

    from_so : rebuilt_offset m ≤ max n.offset r.sure
    from_so = (let was = (to n r.may.at).from in omega (arith, was))

    clear_so : (set other : Bitmap) → IsSubset set other → (c : ℕ) → c < set.chunks → is_set other.bytes c ≡ false → is_set set.bytes c ≡ false
    clear_so set other within c low clear = elim (cases_Bool (is_set set.bytes c)) [ inl is ↦ absurd (both_ways (is_set other.bytes c) clear (within c low is)) | inr none ↦ none ]

    at_offset : (copied_then : Bitmap) → IsRebuiltTo a m copied_then (max n.offset r.sure) r.sure → RebuiltTo target a m w copied_then
    at_offset copied_then is y there = subst (λ (z : MemberView). IsRebuiltTo a m copied_then z.offset z.superblock.recovery_offset) (sym (target_same target copied v w sound_v r y there)) is

    -- of more that was copied
    pub grown_to : had.chunks ≡ a.marks.chunks → IsSubset had copied → RebuiltTo target a m w copied
    grown_to chunks within =
        at_offset copied (record {
          from = from_so;
          below = λ c low stops. stop_high c low (before c low stops) stops;
          upto = elim r.first [
            | inl first ↦
                let here = first.4 in
                let width = ap (λ (q : Chunks). first.0 * q.sectors) x.chunks in
                inr (first.0, low_before first.0 first.1, stops_before first.0 (low_before first.0 first.1) first.2, omega (arith, here, width))
            | inr none ↦ let end = none.1 in let size = ap (λ (q : Chunks). q.size) x.chunks in inl (omega (arith, end, size))
          ];
          surely = λ c low stops. stop_low c low (before c low stops) stops;
        })
      where
        before : (c : ℕ) → c < a.marks.chunks → EndsCheckpoint a m copied c → EndsCheckpoint a m had c
        before c low (inl is) = inl (is.0, clear_so had copied within c (subst (λ n. c < n) (sym chunks) low) is.1)
        before c low (inr lists) = inr lists

        stops_before : (c : ℕ) → c < a.marks.chunks → EndsCheckpoint v.array n copied c → EndsCheckpoint a m copied c
        stops_before c low (inl is) = inl (x.missing m n at r.may.at c low is.0, is.1)
        stops_before c low (inr lists) = inr (lists_before c lists)

    -- of no more
    pub kept_to : IsSubset copied had → RebuiltTo target a m w had
    kept_to within =
        at_offset had (record {
          from = from_so;
          below = λ c low stops. stop_high c low stops (now c low stops);
          upto = elim (to n r.may.at).upto [ inl end ↦ inl (omega (arith, end)) | inr stop ↦ let high = stop.3 in inr (stop.0, stop.1, stop.2, omega (arith, high)) ];
          surely = λ c low stops. stop_low c low stops (now c low stops);
        })
      where
        now : (c : ℕ) → c < a.marks.chunks → EndsCheckpoint a m had c → ((is_missing a m c ≡ true) × (is_set copied.bytes c ≡ false)) ⊎ ListsAny a.chunks c m
        now c low (inl is) = inl (is.0, clear_so copied had within c (subst (λ n. c < n) (sym r.may.copied_chunks) (low_there c low)) is.1)
        now c low (inr lists) = inr lists

  -- ---- nothing is copied yet
  still_ahead : (size width offset c : ℕ) → offset < size → offset < (c + 1) * width → (leb size offset || leb ((c + 1) * width) offset) ≡ false
  still_ahead size width offset c below next = grind (arith, nat_tests)

  -- the chunk at the offset
  abbrev c : ℕ
  c = rebuilt_offset m / a.chunks.sectors

  pub begins_to : (none : Bitmap) → ((c : ℕ) → is_set none.bytes c ≡ false) → ((c : ℕ) → is_recovering m.state ≡ false → is_missing a m c ≡ true)
      → (sure : ℕ) → ((c : ℕ) → c < a.marks.chunks → EndsCheckpoint a m none c → sure ≤ c * a.chunks.sectors) → IsRebuiltTo a m none (rebuilt_offset m) sure
  begins_to none clear lacks sure surely = record {
    from = omega arith;
    below = λ i low stops. omega arith;
    upto = elim (cases_lt (rebuilt_offset m) a.chunks.size) [
      | inr end ↦ inl end
      | inl within ↦ inr (c, c_low within, inl (missing within, clear c), starts)
    ];
    surely = surely;
  }
    where
      c_low : rebuilt_offset m < a.chunks.size → c < a.marks.chunks
      c_low within =
          let count = sound.chunks.count in
          let bounds = div_ceil_times a.chunks.size a.chunks.sectors sound.chunks.wide in
          let first = bounds.0 in
          let below = div_below (rebuilt_offset m) a.chunks.sectors (div_ceil a.chunks.size a.chunks.sectors) sound.chunks.wide (omega (arith, within, first)) in
          omega (arith, below, count)

      starts : c * a.chunks.sectors ≤ rebuilt_offset m
      starts = (let wide = sound.chunks.wide in omega (arith, wide))

      ends : rebuilt_offset m < (c + 1) * a.chunks.sectors
      ends = (let wide = sound.chunks.wide in let next : (c + 1) * a.chunks.sectors ≡ c * a.chunks.sectors + a.chunks.sectors = grind arith in omega (arith, wide, next))

      missing : rebuilt_offset m < a.chunks.size → is_missing a m c ≡ true
      missing within = elim (cases_Bool (is_recovering m.state)) [
        | inl recovers ↦
            let is = cond_true (is_recovering m.state) m.offset recovers in
            let next = ends in
            let passed : has_passed a m c ≡ false = still_ahead a.chunks.size a.chunks.sectors m.offset c (omega (arith, within, is)) (omega (arith, next, is)) in
            lacks_so a m c recovers ∙ ap (λ b. is_set a.marks.bytes c || not b) passed ∙ or_right (is_set a.marks.bytes c) true refl
        | inr none ↦ lacks c none
      ]
