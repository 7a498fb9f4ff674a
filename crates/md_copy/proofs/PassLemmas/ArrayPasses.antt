-- Passes over an array as a mirror keeps it.
use Rattle.std.proofs.Common.{◌≡◌, ◌⊎◌, ◌∙◌, ℕ, ◌+◌, ◌*◌, ◌<◌, ◌≤◌, true, inl, inr, Bool, false, not, suc, zero, ◌==◌, ◌++◌, ◌∷◌, [], List, Some, length, map, filter, count_by, cond, length-append, Contains, refl, ap, sym, subst, arith, add-mul}
use Rattle.std.specs.List.{Any, range_with_len, slice_get}
use Rattle.std.specs.Int.{div_ceil}
use Rattle.std.proofs.Math.Nat.{mul-le-mul_right}
use Rattle.std.proofs.lemmas.Grind.{div_ceil_times}
use Rattle.std.proofs.lemmas.Bool.{both_ways, cases_Bool, cases_lt, eqb-true}
use Rattle.std.proofs.lemmas.List.Elements.{All-contains, Contains-append_left, Contains-append_right, filter_passes}
use Rattle.std.proofs.lemmas.List.{length-map}
use Rattle.std.proofs.lemmas.List.FromFn.{get_or-range_with_len, length-range_with_len}
use Rattle.std.proofs.lemmas.List.Sums.{sum_by-cons}
use Rattle.std.proofs.lemmas.List.Folds.{Any-from_list_any}
use Rattle.md_badblocks.specs.Runs.{IsBad}
use Rattle.md_bitmap.specs.Chunks.{InChunk}
use Rattle.md_bitmap.specs.Marks.{Bitmap, is_set}
use Rattle.md_pass.specs.Beside.{has_chunk}
use Rattle.md_pass.specs.Copied.{AreJoined, AreUncopied, is_failed_slot}
use Rattle.md_pass.proofs.FilteredLists.{kept}
use Rattle.md_bitmap.specs.declared.chunks.Chunks.{Chunks}
use Rattle.md_assembly.specs.declared.state.MemberState.{MemberState}
use Rattle.md_assembly.specs.declared.state.MemberState.TheVariants.{InSync, Recovering, Stale, Spare, Faulty}
use Rattle.md_assembly.specs.States.{is_in_sync, is_in_sync_as}
use Rattle.md_cert.specs.declared.slots.Slot.{Slot}
use Rattle.md_kept_members.specs.View.{MemberView}
use Rattle.md_state.specs.Members.{IsMember}
use Rattle.md_state.specs.View.{ArrayView}
use Rattle.md_copy.specs.PassLaws.Passes.{PassCopies, IsCopiedIn, ListsAlone, PassView, Permits, ServesAtMost, slots_of_pass}
use Rattle.md_copy.proofs.PassLemmas.Kept.{mapped}
use Rattle.md_copy.specs.PassLaws.Listed.{AreCopiedBy, CopiesAdd, IsFailedOf, IsOfFailed, ListsFailed, MayServe, PassesEnd, PassesGoOn, ServesAs, most_failures}
use Rattle.md_copy.proofs.PassLemmas.Permitted.{served_plainly_or}
use Rattle.md_copy.proofs.PassLemmas.AllPasses.{all_passes, begin, last, step}

pub permits : Permits ServesAs MayServe ListsFailed
permits = record {
  served = λ a c r (small, low, (k, m, at, in_sync, unlisted, flag)). (small, low, (k, m, at, in_sync, unlisted));
  some = λ a c r (small, low, (k, m, at, in_sync, unlisted)).
      elim (served_plainly_or a c) [
        | inl (q, below, j, n, there, is, free, plain) ↦ (q, (below, low, (j, n, there, is, free, inl plain)))
        | inr none ↦ (r, (small, low, (k, m, at, in_sync, unlisted, inr none)))
      ];
  role = λ a c r serves. serves.0;
}

-- a sector lies in one chunk
one_chunk : (chunks : Chunks) (c d s : ℕ) → InChunk chunks.sectors chunks.size c s → InChunk chunks.sectors chunks.size d s → c ≡ d
one_chunk chunks c d s a b =
    elim (cases_lt c d) [
      | inl less ↦ let up : (c + 1) * chunks.sectors ≤ d * chunks.sectors = mul-le-mul_right chunks.sectors (omega arith) in let x = a.below in let y = b.from in absurd (omega (arith, up, x, y))
      | inr from ↦
          elim (cases_lt d c) [
            | inl less ↦ let up : (d + 1) * chunks.sectors ≤ c * chunks.sectors = mul-le-mul_right chunks.sectors (omega arith) in let x = b.below in let y = a.from in absurd (omega (arith, up, x, y))
            | inr to ↦ omega arith
          ]
    ]

-- each chunk has its first sector
first_sector : (chunks : Chunks) (c : ℕ) → c < div_ceil chunks.size chunks.sectors → InChunk chunks.sectors chunks.size c (c * chunks.sectors)
first_sector chunks c is =
    let times = (div_ceil_times chunks.size chunks.sectors chunks.chunking.some_sectors).1 in
    let up : (c + 1) * chunks.sectors ≤ div_ceil chunks.size chunks.sectors * chunks.sectors = mul-le-mul_right chunks.sectors (omega arith) in
    let some = chunks.chunking.some_sectors in
    let next : (c + 1) * chunks.sectors ≡ c * chunks.sectors + chunks.sectors = rw add-mul (omega arith) in
    record { from = omega arith; below = omega (arith, next, some); within = omega (arith, times, up, next) }

-- a member is in sync in one role
one_role : (state : MemberState) (r q : ℕ) → is_in_sync_as r state ≡ true → is_in_sync_as q state ≡ true → q ≡ r
one_role (InSync role) r q a b = sym (eqb-true role q b) ∙ eqb-true role r a
one_role (Recovering role) r q a b = cc
one_role (Stale role) r q a b = cc
one_role Spare r q a b = cc
one_role Faulty r q a b = cc

pub fewer : (failed : List Slot) (a b : ArrayView) (c r : ℕ) → ListsFailed failed a b → ServesAs b c r → ServesAs a c r
fewer failed a b c r lists (small, low, (k, n, at, in_sync, unlisted)) =
    let (m, was, own) = lists.before k n at in (
      small,
      subst (λ (x : Chunks). c < div_ceil x.size x.sectors) lists.chunks low,
      (
        k,
        m,
        was,
        subst (λ s. is_in_sync_as r s ≡ true) own.state in_sync,
        λ s inside bad. unlisted s (subst (λ (x : Chunks). InChunk x.sectors x.size c s) (sym lists.chunks) inside) (subst (λ o. IsBad n.bad (o + s)) (sym own.offset) ((own.bad (m.superblock.data_offset + s)).1 (inl bad))),
      ),
    )

pub others : (failed : List Slot) (a b : ArrayView) (c r : ℕ) → ListsFailed failed a b → ServesAs a c r → ((s : Slot) → Contains failed s → s.chunk ≡ c → s.source ≡ r → ⊥) → ServesAs b c r
others failed a b c r lists (small, low, (k, m, at, in_sync, unlisted)) none =
    let (n, now, own) = lists.after k m at in (
      small,
      subst (λ (x : Chunks). c < div_ceil x.size x.sectors) (sym lists.chunks) low,
      (
        k,
        n,
        now,
        subst (λ s. is_in_sync_as r s ≡ true) (sym own.state) in_sync,
        λ s inside bad. still m s (subst (λ (x : Chunks). InChunk x.sectors x.size c s) lists.chunks inside) at in_sync unlisted ((own.bad (m.superblock.data_offset + s)).0 (subst (λ o. IsBad n.bad (o + s)) own.offset bad)),
      ),
    )
  where
    still : (m : MemberView) (s : ℕ) → InChunk a.chunks.sectors a.chunks.size c s → IsMember a k m → is_in_sync_as r m.state ≡ true
        → ((s : ℕ) → InChunk a.chunks.sectors a.chunks.size c s → IsBad m.bad (m.superblock.data_offset + s) → ⊥)
        → IsBad m.bad (m.superblock.data_offset + s) ⊎ IsOfFailed a.chunks failed m (m.superblock.data_offset + s) → ⊥
    still m s inside at in_sync unlisted (inl bad) = unlisted s inside bad
    still m s inside at in_sync unlisted (inr of) =
        let same : of.of_chunk.at ≡ s = let e = of.of_chunk.is in omega (arith, e) in
        none of.slot of.there (one_chunk a.chunks of.slot.chunk c s (subst (InChunk a.chunks.sectors a.chunks.size of.slot.chunk) same of.of_chunk.inside) inside) (one_role m.state r of.slot.source in_sync of.own)

listed : (failed : List Slot) (a b : ArrayView) (s : Slot) → ListsFailed failed a b → Contains failed s → ServesAs b s.chunk s.source → ⊥
listed failed a b s lists there (small, low, (k, n, at, in_sync, unlisted)) =
    let (m, was, own) = lists.before k n at in
    let c : s.chunk < div_ceil a.chunks.size a.chunks.sectors = subst (λ (x : Chunks). s.chunk < div_ceil x.size x.sectors) lists.chunks low in
    let first = first_sector a.chunks s.chunk c in
    let bad : IsBad n.bad (m.superblock.data_offset + s.chunk * a.chunks.sectors)
    = (own.bad (m.superblock.data_offset + s.chunk * a.chunks.sectors)).1 (inr (record { slot = s; there = there; own = subst (λ x. is_in_sync_as s.source x ≡ true) own.state in_sync; of_chunk = record { at = s.chunk * a.chunks.sectors; inside = first; is = refl } })) in
    unlisted (s.chunk * a.chunks.sectors) (subst (λ (x : Chunks). InChunk x.sectors x.size s.chunk (s.chunk * a.chunks.sectors)) (sym lists.chunks) first) (subst (λ o. IsBad n.bad (o + s.chunk * a.chunks.sectors)) (sym own.offset) bad)

alone : ListsAlone ServesAs MayServe ListsFailed
alone = record { fewer = fewer; others = others; listed = listed }

pub passes_end : PassesEnd
passes_end passes a end chunks go = all_passes ServesAs MayServe ListsFailed permits alone passes a end chunks go

pub passes_go_on : PassesGoOn
passes_go_on = record {
  begin = begin ServesAs MayServe ListsFailed permits alone;
  step = step ServesAs MayServe ListsFailed permits alone;
  last = last ServesAs MayServe ListsFailed permits alone;
}

-- ---- the chunks that were copied
passed : {X : Type 0} (f : X → Bool) (xs : List X) (x : X) → Contains (filter f xs) x → f x ≡ true
passed f xs x there = All-contains (λ y. f y ≡ true) (filter f xs) x (filter_passes f xs) there

any_more : {X : Type 0} (P : X → Type 0) (xs ys : List X) → Any P xs → Any P (xs ++ ys)
any_more P [] ys (k, x, below, at, is) = absurd (omega (arith, below))
any_more P (y ∷ xs) ys (zero, x, below, at, is) = (0, x, omega arith, at, is)
any_more P (y ∷ xs) ys (suc k, x, below, at, is) = let (j, z, w, e, h) = any_more P xs ys (k, x, omega (arith, below), at, is) in (suc j, z, omega (arith, w), e, h)

any_last : {X : Type 0} (P : X → Type 0) (xs : List X) (y : X) → P y → Any P (xs ++ y ∷ [])
any_last P [] y is = (0, y, omega arith, refl, is)
any_last P (x ∷ xs) y is = let (j, z, w, e, h) = any_last P xs y is in (suc j, z, omega (arith, w), e, h)

any_split : {X : Type 0} (P : X → Type 0) (xs : List X) (y : X) → Any P (xs ++ y ∷ []) → Any P xs ⊎ P y
any_split P [] y (zero, x, below, at, is) = inr (subst P (sym at) is)
any_split P [] y (suc k, x, below, at, is) = absurd (omega (arith, below))
any_split P (x ∷ xs) y (zero, z, below, at, is) = inl (0, z, omega arith, at, is)
any_split P (x ∷ xs) y (suc k, z, below, at, is) =
    elim (any_split P xs y (k, z, omega (arith, below), at, is)) [
      | inl (j, u, w, e, h) ↦ inl (suc j, u, omega (arith, w), e, h)
      | inr last ↦ inr last
    ]

not_set : (b : Bool) → not b ≡ true → b ≡ false
not_set true e = cc
not_set false e = refl

more_copied : (passes : List PassView) (p : PassView) (old new : Bitmap) → AreCopiedBy passes old → AreJoined (slots_of_pass p) old new → IsFailedOf p new
    → AreUncopied (slots_of_pass p) old → AreCopiedBy (passes ++ p ∷ []) new
more_copied passes p old new before joined failed fresh c = (to, from)
  where
    to : is_set new.bytes c ≡ true → IsCopiedIn (passes ++ p ∷ []) c
    to set =
        elim (cases_Bool (is_set old.bytes c)) [
          | inl was ↦ any_more (PassCopies c) passes (p ∷ []) ((before c).0 was)
          | inr was_not ↦
              elim (cases_Bool (has_chunk (slots_of_pass p) c)) [
                | inl has ↦
                    let (k, s, below, at, is) = Any-from_list_any (λ (x : Slot). x.chunk == c) (slots_of_pass p) has in
                    let chunk : s.chunk ≡ c = eqb-true s.chunk c is in
                    any_last (PassCopies c) passes p (k, s, below, at, (chunk, λ in_failed. both_ways (is_set new.bytes c) (not_set (is_set new.bytes c) (subst (λ x. not (is_set new.bytes x) ≡ true) chunk (passed (is_failed_slot new) (slots_of_pass p) s (subst (λ xs. Contains xs s) failed in_failed)))) set))
                | inr none ↦ absurd (both_ways (is_set old.bytes c) was_not (sym (joined.planned c none) ∙ set))
              ]
        ]

    from : IsCopiedIn (passes ++ p ∷ []) c → is_set new.bytes c ≡ true
    from copied =
        elim (any_split (PassCopies c) passes p copied) [
          | inl earlier ↦ joined.kept c ((before c).1 earlier)
          | inr (k, s, below, at, (chunk, left)) ↦
              elim (cases_Bool (is_set new.bytes c)) [
                | inl set ↦ set
                | inr unset ↦ absurd (left (subst (λ xs. Contains xs s) (sym failed) (kept (is_failed_slot new) (slots_of_pass p) s (k, below, at) (ap (λ x. not (is_set new.bytes x)) chunk ∙ ap not unset))))
              ]
        ]

-- in a part of a pass no more is copied than its slots have
pub part_copied : (passes : List PassView) (p : PassView) (old new : Bitmap) → AreCopiedBy passes old → AreJoined (slots_of_pass p) old new → p.failed ≡ [] → (c : ℕ) → is_set new.bytes c ≡ true
    → IsCopiedIn (passes ++ p ∷ []) c
part_copied passes p old new before joined none_failed c set = elim (cases_Bool (is_set old.bytes c)) [
  | inl was ↦ any_more (PassCopies c) passes (p ∷ []) ((before c).0 was)
  | inr was_not ↦
      elim (cases_Bool (has_chunk (slots_of_pass p) c)) [
        | inl has ↦
            let (k, s, below, at, is) = Any-from_list_any (λ (x : Slot). x.chunk == c) (slots_of_pass p) has in
            any_last (PassCopies c) passes p (k, s, below, at, (eqb-true s.chunk c is, λ in_failed. (let low = subst (λ xs. Contains xs s) none_failed in_failed in absurd (omega (arith, low.1)))))
        | inr none ↦ absurd (both_ways (is_set old.bytes c) was_not (sym (joined.planned c none) ∙ set))
      ]
]

-- ---- the members in sync, each with each chunk
abbrev pair : ℕ → ℕ → ℕ × ℕ
pair role c = (c, role)

abbrev with_role : ℕ → MemberState → List (ℕ × ℕ) → List (ℕ × ℕ)
with_role n (InSync role) rest = map (pair role) (range_with_len 0 n) ++ rest
with_role n (Recovering role) rest = rest
with_role n (Stale role) rest = rest
with_role n Spare rest = rest
with_role n Faulty rest = rest

abbrev pairs_of : ℕ → List MemberView → List (ℕ × ℕ)
pairs_of n [] = []
pairs_of n (m ∷ ms) = with_role n m.state (pairs_of n ms)

count_with : (n : ℕ) (state : MemberState) (rest : List (ℕ × ℕ)) → length (with_role n state rest) ≡ cond (is_in_sync state) 1 0 * n + length rest
count_with n (InSync role) rest = length-append (map (pair role) (range_with_len 0 n)) rest ∙ (let a = length-map {B = ℕ × ℕ} (range_with_len 0 n) (pair role) in let b = length-range_with_len 0 n in omega (arith, a, b))
count_with n (Recovering role) rest = omega arith
count_with n (Stale role) rest = omega arith
count_with n Spare rest = omega arith
count_with n Faulty rest = omega arith

count_pairs : (n : ℕ) (ms : List MemberView) → length (pairs_of n ms) ≡ count_by (λ (m : MemberView). is_in_sync m.state) ms * n
count_pairs n [] = omega arith
count_pairs n (m ∷ ms) =
    let rest = count_pairs n ms in
    let first = sum_by-cons (λ (x : MemberView). cond (is_in_sync x.state) 1 0) m ms in
    count_with n m.state (pairs_of n ms) ∙ (let e : count_by (λ (x : MemberView). is_in_sync x.state) (m ∷ ms) * n ≡ cond (is_in_sync m.state) 1 0 * n + count_by (λ (x : MemberView). is_in_sync x.state) ms * n = ap (λ k. k * n) first ∙ add-mul (cond (is_in_sync m.state) 1 0) (count_by (λ (x : MemberView). is_in_sync x.state) ms) n in omega (arith, rest, e))

own_pairs : (n : ℕ) (state : MemberState) (rest : List (ℕ × ℕ)) (c r : ℕ) → c < n → is_in_sync_as r state ≡ true → Contains (with_role n state rest) (c, r)
own_pairs n (InSync role) rest c r low is =
    let number : Contains (range_with_len 0 n) c = (c, (let many = length-range_with_len 0 n in omega (arith, many, low)), get_or-range_with_len 0 n c c low ∙ (let z : 0 + c ≡ c = omega arith in z)) in
    Contains-append_left (map (pair role) (range_with_len 0 n)) rest (c, r) (subst (λ x. Contains (map (pair role) (range_with_len 0 n)) (pair x c)) (eqb-true role r is) (mapped (pair role) (range_with_len 0 n) c number))
own_pairs n (Recovering role) rest c r low is = cc
own_pairs n (Stale role) rest c r low is = cc
own_pairs n Spare rest c r low is = cc
own_pairs n Faulty rest c r low is = cc

later_pairs : (n : ℕ) (state : MemberState) (rest : List (ℕ × ℕ)) (x : ℕ × ℕ) → Contains rest x → Contains (with_role n state rest) x
later_pairs n (InSync role) rest x there = Contains-append_right (map (pair role) (range_with_len 0 n)) rest x there
later_pairs n (Recovering role) rest x there = there
later_pairs n (Stale role) rest x there = there
later_pairs n Spare rest x there = there
later_pairs n Faulty rest x there = there

has_pair : (n : ℕ) (ms : List MemberView) (k : ℕ) (m : MemberView) (c r : ℕ) → slice_get ms k ≡ Some m → is_in_sync_as r m.state ≡ true → c < n → Contains (pairs_of n ms) (c, r)
has_pair n [] k m c r at is low = cc
has_pair n (x ∷ ms) zero m c r at is low = let same : x ≡ m = cc in own_pairs n x.state (pairs_of n ms) c r low (subst (λ (y : MemberView). is_in_sync_as r y.state ≡ true) (sym same) is)
has_pair n (x ∷ ms) (suc k) m c r at is low = later_pairs n x.state (pairs_of n ms) (c, r) (has_pair n ms k m c r at is low)

most_pairs : (a : ArrayView) → ServesAtMost ServesAs MayServe ListsFailed a (most_failures a)
most_pairs a = (
  pairs_of (div_ceil a.chunks.size a.chunks.sectors) a.members,
  (let e = count_pairs (div_ceil a.chunks.size a.chunks.sectors) a.members in omega (arith, e)),
  λ c r (small, low, (k, m, at, in_sync, unlisted)). has_pair (div_ceil a.chunks.size a.chunks.sectors) a.members k m c r at in_sync low,
)

pub copies_add : CopiesAdd
copies_add = record {
  none = λ copied unset c. (λ set. absurd (both_ways (is_set copied.bytes c) (unset c) set), λ (k, x, below, at, is). absurd (omega (arith, below)));
  more = more_copied;
  most = most_pairs;
}
