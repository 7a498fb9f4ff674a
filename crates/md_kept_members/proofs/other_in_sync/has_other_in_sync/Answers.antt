use Rattle.std.proofs.Common.{◌≡◌, ◌∙◌, true, false, ap, sym, refl, arith, length, inl, inr}
use Rattle.std.proofs.lemmas.Option.{slice_get_read, slice_get_within}
use Rattle.md_assembly.specs.States.{is_in_sync}
use Rattle.md_assembly.proofs.Indices.{got_same}
use Rattle.md_kept_members.specs.View.{MemberView}
use Rattle.md_kept_members.proofs.Members.Indices.{cases_more}
use Rattle.md_kept_members.proofs.other_in_sync.has_other_in_sync.Goals.{else-j-k-via-then-j-k+else-is_in_sync, else-j-k-via-else-j-k}
use Rattle.md_kept_members.proofs.other_in_sync.has_other_in_sync.Goals as goal

pub returns-then-is_in_sync : goal.returns-then-is_in_sync
returns-then-is_in_sync c =
    let members = c.args.members.now in
    let m = c.index-members-j.result in
    let there = slice_get_read members (length members) c.loop-j.j m refl c.loop-j-test.true c.index-members-j.is in
    let state = ap (λ (x : MemberView). is_in_sync x.state) c.member.view_is in
    record { other = c.loop-j.j; member = m; listed = there; in_sync = sym state ∙ sym c.is_in_sync.ensures ∙ c.if-is_in_sync.true; apart = c.if-j-k.true }

pub loop-j-preserved : goal.loop-j-preserved
loop-j-preserved c i m below at in_sync =
    let members = c.args.members.now in
    let x = c.index-members-j.result in
    let there = slice_get_read members (length members) c.loop-j.j x refl c.loop-j-test.true c.index-members-j.is in
    elim (cases_more i c.loop-j.j below) [
      | inl earlier ↦ c.loop-j.invariant i m earlier at in_sync
      | inr here ↦
          let same : x ≡ m = got_same members c.loop-j.j x m there (rw here at at) in
          let state : is_in_sync c.member.inside.state ≡ true = ap (λ (y : MemberView). is_in_sync y.state) (c.member.view_is ∙ same) ∙ in_sync in
          elim c.else-j-k.branch [
            | else-j-k-via-then-j-k+else-is_in_sync w ↦ let out : is_in_sync c.member.inside.state ≡ false = sym w.is_in_sync.ensures ∙ w.if-is_in_sync.false in absurd cc
            | else-j-k-via-else-j-k w ↦ here ∙ w.if-j-k.false
          ]
    ]

pub returns : goal.returns
returns c j m at in_sync = c.loop-j.invariant j m (let within = slice_get_within c.args.members.now j m at in omega arith) at in_sync
