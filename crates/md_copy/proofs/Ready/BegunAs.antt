-- A rebuild's first pass is over the chunks that the target lacked before the call, and planned by where they might be read then.
use Rattle.std.proofs.Common.{◌≡◌, ◌∙◌, ◌↔◌, ℕ, suc, zero, ◌+◌, ◌==◌, ◌<◌, Bool, true, false, not, bit_and, List, [], ◌∷◌, Contains, filter, refl, sym, ap, subst, arith, inl, inr}
use Rattle.std.specs.Int.{div_ceil}
use Rattle.std.specs.List.{range_with_len}
use Rattle.std.proofs.lemmas.List.FromFn.{get_or-range_with_len, length-range_with_len}
use Rattle.md_badblocks.specs.Runs.{IsBad}
use Rattle.md_bitmap.specs.declared.chunks.Chunks.{Chunks}
use Rattle.md_bitmap.specs.Chunks.{InChunk}
use Rattle.md_kept_members.specs.View.{MemberView}
use Rattle.md_copy.proofs.PassLemmas.ArrayPasses.{copies_add}
use Rattle.md_copy.specs.PassLaws.Listed.{ListsFailed, MayServe, ServesAs, most_failures}
use Rattle.md_copy.specs.PassLaws.Passes.{ServesAtMost}
use Rattle.md_state.specs.Members.{IsMember, IsServedPlainly, IsUnlisted}
use Rattle.md_state.specs.Missing.{is_missing}
use Rattle.md_state.specs.View.{MirrorView}
use Rattle.md_array.specs.Consistency.{IsConsistent}
use Rattle.md_copy.specs.Table.Sources.{missing_chunks}
use Rattle.md_copy.proofs.Ready.StartedAs.{StartsAs}

filter_same : (p q : ℕ → Bool) (xs : List ℕ) → ((c : ℕ) → Contains xs c → p c ≡ q c) → filter p xs ≡ filter q xs
filter_same p q [] same = refl
filter_same p q (x ∷ xs) same =
    by (filter_same p q xs (λ c there. same c (let (k, low, at) = there in (suc k, omega (arith, low), at)))) (q x) (same x (zero, omega arith, refl)) refl
  where
    by : filter p xs ≡ filter q xs → (b : Bool) → p x ≡ q x → q x ≡ b → filter p (x ∷ xs) ≡ filter q (x ∷ xs)
    by rest true is one = rw (is, one) (ap (λ ys. x ∷ ys) rest)
    by rest false is one = rw (is, one) rest

in_range_low : (n c : ℕ) → Contains (range_with_len 0 n) c → c < n
in_range_low n c (k, below, is) =
    let many = length-range_with_len 0 n in
    let here = get_or-range_with_len 0 n k c (omega (arith, below, many)) in
    omega (arith, below, many, is, here)

module _ (target : ℕ) (old v : MirrorView) (starts : StartsAs target old v) where
  -- what it lacked then is what it lacked
  pub same_missing : IsConsistent old → (l m : MemberView) → IsMember old.array target l → IsMember v.array target m → missing_chunks v.array m ≡ missing_chunks old.array l
  same_missing sound l m at there =
      ap (λ (q : Chunks). filter (is_missing v.array m) (range_with_len 0 (div_ceil q.size q.sectors))) starts.chunks
      ∙ filter_same (is_missing v.array m) (is_missing old.array l) (range_with_len 0 (div_ceil old.array.chunks.size old.array.chunks.sectors))
      (λ c within. starts.missing l m at there c (let low = in_range_low (div_ceil old.array.chunks.size old.array.chunks.sectors) c within in let many = sound.chunks.count in omega (arith, low, many)))

  -- a member lists none of a chunk's sectors in one of the two where it lists none in the other
  free_before : (c j : ℕ) (n : MemberView) (at : IsMember v.array j n) → IsUnlisted v.array c n → IsUnlisted old.array c (starts.before j n at).0
  free_before c j n at free i inside bad =
      let b = starts.before j n at in
      free i (subst (λ (q : Chunks). InChunk q.sectors q.size c i) (sym starts.chunks) inside)
      (subst (λ runs. IsBad runs (n.superblock.data_offset + i)) (sym b.2.bad) (subst (λ o. IsBad b.0.bad (o + i)) (sym b.2.offset) bad))

  free_then : (c j : ℕ) (l : MemberView) (at : IsMember old.array j l) → IsUnlisted old.array c l → IsUnlisted v.array c (starts.then j l at).0
  free_then c j l at free i inside bad =
      let b = starts.then j l at in
      free i (subst (λ (q : Chunks). InChunk q.sectors q.size c i) starts.chunks inside)
      (subst (λ runs. IsBad runs (l.superblock.data_offset + i)) b.2.bad (subst (λ o. IsBad b.0.bad (o + i)) b.2.offset bad))

  plain_before : (c : ℕ) → IsServedPlainly v.array c → IsServedPlainly old.array c
  plain_before c (role, small, k, n, at, in_sync, free, plain) =
      let b = starts.before k n at in
      (role, small, k, b.0, b.1, sym (b.2.roles role) ∙ in_sync, free_before c k n at free, ap (λ f. not (bit_and f 1 == 0)) (sym b.2.flags) ∙ plain)

  plain_then : (c : ℕ) → IsServedPlainly old.array c → IsServedPlainly v.array c
  plain_then c (role, small, k, l, at, in_sync, free, plain) =
      let b = starts.then k l at in
      (role, small, k, b.0, b.1, b.2.roles role ∙ in_sync, free_then c k l at free, ap (λ f. not (bit_and f 1 == 0)) b.2.flags ∙ plain)

  pub serves_both : (c role : ℕ) → ServesAs v.array c role ↔ ServesAs old.array c role
  serves_both c role = (
    λ (small, low, (k, n, at, in_sync, free)).
        (let b = starts.before k n at in
        (small, subst (λ (q : Chunks). c < div_ceil q.size q.sectors) starts.chunks low, (k, b.0, b.1, sym (b.2.roles role) ∙ in_sync, free_before c k n at free))),
    λ (small, low, (k, l, at, in_sync, free)).
        (let b = starts.then k l at in
        (small, subst (λ (q : Chunks). c < div_ceil q.size q.sectors) (sym starts.chunks) low, (k, b.0, b.1, b.2.roles role ∙ in_sync, free_then c k l at free))),
  )

  pub permits_both : (c role : ℕ) → MayServe v.array c role ↔ MayServe old.array c role
  permits_both c role = (
    λ (small, low, (k, n, at, in_sync, free, either)).
        (let b = starts.before k n at in (
          small,
          subst (λ (q : Chunks). c < div_ceil q.size q.sectors) starts.chunks low,
          (
            k,
            b.0,
            b.1,
            sym (b.2.roles role) ∙ in_sync,
            free_before c k n at free,
            elim either [ inl plain ↦ inl (ap (λ f. not (bit_and f 1 == 0)) (sym b.2.flags) ∙ plain) | inr none ↦ inr (λ p. none (plain_then c p)) ],
          ),
        )),
    λ (small, low, (k, l, at, in_sync, free, either)).
        (let b = starts.then k l at in (
          small,
          subst (λ (q : Chunks). c < div_ceil q.size q.sectors) (sym starts.chunks) low,
          (
            k,
            b.0,
            b.1,
            b.2.roles role ∙ in_sync,
            free_then c k l at free,
            elim either [ inl plain ↦ inl (ap (λ f. not (bit_and f 1 == 0)) b.2.flags ∙ plain) | inr none ↦ inr (λ p. none (plain_before c p)) ],
          ),
        )),
  )

  -- no more is served than before
  pub serves_most : ServesAtMost ServesAs MayServe ListsFailed v.array (most_failures old.array)
  serves_most = (let most = copies_add.most old.array in (most.0, most.1, λ c role serves. most.2 c role ((serves_both c role).0 serves)))
