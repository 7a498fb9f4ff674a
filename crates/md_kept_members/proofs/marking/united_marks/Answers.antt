use Rattle.std.proofs.Common.{◌≡◌, ◌∙◌, ℕ, ◌||◌, sym, subst, true, false, length, ap, refl, arith}
use Rattle.std.proofs.lemmas.Option.{slice_get_read}
use Rattle.md_assembly.specs.States.{is_in_sync}
use Rattle.md_bitmap.specs.Marks.{is_set}
use Rattle.md_kept_members.specs.View.{MemberView}
use Rattle.md_kept_members.proofs.Kept.Uniting.{IsUnion, marked_more, marks_chunk, not_marked_more}
use Rattle.md_kept_members.proofs.marking.united_marks.Goals.{then-is_in_sync, else-is_in_sync}
use Rattle.md_kept_members.proofs.marking.united_marks.Goals as goal

pub loop-member-preserved : goal.loop-member-preserved
loop-member-preserved c =
    let members = c.args.members.now in
    let i = c.loop-member.member-index in
    let m = c.member-item.result in
    let there = slice_get_read members (length members) i m refl (omega arith) c.member-item.is in
    let state : is_in_sync c.member.inside.state ≡ is_in_sync m.state = ap (λ (x : MemberView). is_in_sync x.state) c.member.view_is in
    elim c.if-is_in_sync.branch [
      | then-is_in_sync w ↦
          let in_sync : is_in_sync m.state ≡ true = sym state ∙ sym c.is_in_sync.ensures ∙ w.if-is_in_sync.true in
          rw w.marks-is (record {
            chunks = w.unite.ensures.chunks ∙ c.loop-member.invariant.chunks;
            bits = λ k. marked_more members i k m _ _ there in_sync (w.unite.ensures.bits k ∙ ap (λ (x : MemberView). is_set c.loop-member.marks.bytes k || marks_chunk x.stored k) c.member.view_is) (c.loop-member.invariant.bits k);
          })
      | else-is_in_sync w ↦
          let out : is_in_sync m.state ≡ false = sym state ∙ sym c.is_in_sync.ensures ∙ w.if-is_in_sync.false in
          rw w.marks-is (record {
            chunks = c.loop-member.invariant.chunks;
            bits = λ k. not_marked_more members i k m _ there out (c.loop-member.invariant.bits k);
          })
    ]

pub returns-clause-bits : goal.returns-clause-bits
returns-clause-bits c k =
    let all : c.loop-member.member-index ≡ length c.args.members.now = omega arith in
    subst (λ (n : ℕ). IsUnion c.args.members.now n k (is_set c.loop-member.marks.bytes k)) all (c.loop-member.invariant.bits k)
