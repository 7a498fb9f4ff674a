-- Where a member holds in copied chunks whatever content the members in sync hold, the device of some member in sync does not list a sector of
-- such a chunk: else that could be any content.
use Rattle.std.proofs.Common.{◌≡◌, ℕ, ◌+◌, ◌<◌, ◌⊎◌, inl, inr, Bool, true, false, true≢false, cond, not, ◌&&◌, eqb, List, ◌∷◌, length, slice_get, Option, Some, None, zero, suc, refl, sym, ap, ◌∙◌, subst, arith, eq-eqb, ne_eqb}
use Rattle.std.proofs.lemmas.Bool.{and_from, and_parts}
use Rattle.std.proofs.lemmas.Option.{slice_get_within}
use Rattle.md_assembly.specs.States.{is_in_sync}
use Rattle.md_kept_members.specs.View.{MemberView}
use Rattle.md_model.specs.Content.{Content}
use Rattle.md_model.proofs.Cases.{by_test}
use Rattle.md_model.proofs.Puts.{by_same}
use Rattle.md_state.specs.Members.{IsInSync}
use Rattle.md_state.specs.View.{ArrayView, Disk}
use Rattle.md_array.specs.Steps.Enrol.{HoldsContent}
use Rattle.md_array.specs.Worlds.{is_listed}

not-false : (b : Bool) → not b ≡ true → b ≡ false
not-false true h = absurd cc
not-false false h = refl

false-not : (b : Bool) → b ≡ false → not b ≡ true
false-not true h = absurd cc
false-not false h = refl

-- some number below has it, or none does
some_below : (f : ℕ → Bool) (n : ℕ) → ((j : ℕ) × (f j ≡ true)) ⊎ ((j : ℕ) → j < n → f j ≡ false)
some_below f zero = inr (λ j low. absurd (omega arith))
some_below f (suc n) = elim (some_below f n) [
  | inl some ↦ inl some
  | inr none ↦ by_test (f n)
      (λ is. inl (n, is))
      (λ isnt. inr (λ j low. by_same j n (λ here. ap f here ∙ isnt) (λ apart. none j (omega arith))))
]

-- a member in sync whose device does not list the sector
pub record HasSector (disks : List Disk) (a : ArrayView) (s : ℕ) : Type 0 where
  pub index : ℕ
  pub member : MemberView
  pub disk : Disk
  pub at_disk : slice_get disks index ≡ Some disk
  pub in_sync : IsInSync a index member
  pub unlisted : is_listed member.superblock disk.content (member.superblock.data_offset + s) ≡ false

module _ (disks : List Disk) (a : ArrayView) (s : ℕ) where
  free : Option MemberView → Option Disk → Bool
  free (Some y) (Some z) = is_in_sync y.state && not (is_listed y.superblock z.content (y.superblock.data_offset + s))
  free _ _ = false

  abbrev has_it : ℕ → Bool
  has_it j = free (slice_get a.members j) (slice_get disks j)

  -- the same but for this sector
  other_content : Content → Content
  other_content content t = cond (eqb t s) (0 ∷ content s) (content t)

  unlike : (xs : List ℕ) → xs ≡ 0 ∷ xs → ⊥
  unlike xs e = let same = ap (λ (ys : List ℕ). length ys) e in omega arith

  not_alone : (content : Content) → HoldsContent disks a content → ((j : ℕ) → j < length a.members → has_it j ≡ false) → HoldsContent disks a (other_content content)
  unfolding free other_content
  not_alone content has none = record {
    held = λ j z y there on t low unlisted. by_same t s
        (λ here.
        let clear : is_listed y.superblock z.content (y.superblock.data_offset + s) ≡ false = subst (λ (i : ℕ). is_listed y.superblock z.content (y.superblock.data_offset + i) ≡ false) here unlisted in
        let it : has_it j ≡ true = ap (λ o. free o (slice_get disks j)) on.member ∙ ap (free (Some y)) there
        ∙ and_from (is_in_sync y.state) _ on.in_sync (false-not (is_listed y.superblock z.content (y.superblock.data_offset + s)) clear) in
        absurd (true≢false (sym it ∙ none j (slice_get_within a.members j y on.member))))
        (λ apart. has.held j z y there on t low unlisted ∙ sym (ap (λ b. cond b (0 ∷ content s) (content t)) (ne_eqb t s apart)));
  }

  found : (j : ℕ) → has_it j ≡ true → HasSector disks a s
  unfolding free
  found j = at (slice_get a.members j) (slice_get disks j) refl refl
    where
      at : (o : Option MemberView) (x : Option Disk) → slice_get a.members j ≡ o → slice_get disks j ≡ x → free o x ≡ true → HasSector disks a s
      at (Some y) (Some z) member disk is =
          let p = and_parts (is_in_sync y.state) (not (is_listed y.superblock z.content (y.superblock.data_offset + s))) is in
          record { index = j; member = y; disk = z; at_disk = disk; in_sync = record { member = member; in_sync = p.0 }; unlisted = not-false (is_listed y.superblock z.content (y.superblock.data_offset + s)) p.1 }
      at (Some y) None member disk is = absurd cc
      at None (Some z) member disk is = absurd cc
      at None None member disk is = absurd cc

  -- these bytes are what any content has there
  pub one_has_it : (content : Content) (bytes : List ℕ) → HoldsContent disks a content → ((other : Content) → HoldsContent disks a other → bytes ≡ other s) → HasSector disks a s
  unfolding other_content
  one_has_it content bytes has holds = elim (some_below has_it (length a.members)) [
    | inl some ↦ found some.0 some.1
    | inr none ↦
        let one = holds content has in
        let other = holds (other_content content) (not_alone content has none) in
        absurd (unlike (content s) (sym one ∙ other ∙ ap (λ b. cond b (0 ∷ content s) (content s)) (eq-eqb s s refl)))
  ]
