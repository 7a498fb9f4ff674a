-- What is kept of each member, one after the other.
use Rattle.std.proofs.Common.{◌≡◌, ◌∙◌, ℕ, ◌+◌, List, [], ◌∷◌, ◌++◌, length, Some, ap, sym, subst, arith, inl, inr}
use Rattle.std.specs.List.{slice_get}
use Rattle.std.proofs.lemmas.List.{length_push}
use Rattle.std.proofs.lemmas.Option.{slice_get_within}
use Rattle.md_members.specs.declared.info.MemberInfo.{MemberInfo}
use Rattle.md_assembly.specs.declared.state.MemberState.{MemberState}
use Rattle.md_kept_members.specs.View.{MemberView}
use Rattle.md_kept_members.specs.Kept.{IsKept}
use Rattle.md_kept_members.specs.Remembering.{AreKept}
use Rattle.md_kept_members.proofs.Members.Indices.{listed_push}

-- one more member
pub one_more_kept : (events cleared : ℕ) (infos : List MemberInfo) (states : List MemberState) (members : List MemberView) (info : MemberInfo) (state : MemberState) (m : MemberView) → AreKept events cleared infos states members → slice_get states (length members) ≡ Some state → IsKept events cleared info state m → AreKept events cleared (infos ++ info ∷ []) states (members ++ m ∷ [])
one_more_kept events cleared infos states members info state m kept at_state is_kept =
    let as_many = kept.as_many in
    record {
      as_many = length_push members m ∙ ap (λ (n : ℕ). n + 1) as_many ∙ sym (length_push infos info);
      each = λ k i s n at_i at_s at_n. elim (listed_push infos info i k at_i) [
        | inl early ↦ elim (listed_push members m n k at_n) [
          | inl among ↦ kept.each k i s n early at_s among
          | inr last ↦ let within = slice_get_within infos k i early in let at = last.0 in absurd (omega arith)
        ]
        | inr here ↦ elim (listed_push members m n k at_n) [
          | inl among ↦ let within = slice_get_within members k n among in let at = here.0 in absurd (omega arith)
          | inr last ↦
              let at = last.0 in
              let at_k : slice_get states k ≡ Some state = subst (λ (j : ℕ). slice_get states j ≡ Some state) (sym at) at_state in
              let same_state : state ≡ s = cc in
              subst (λ (x : MemberInfo). IsKept events cleared x s n) here.1
              (subst (λ (x : MemberState). IsKept events cleared info x n) same_state
              (subst (λ (x : MemberView). IsKept events cleared info state x) last.1 is_kept))
        ]
      ];
    }
