use Rattle.std.proofs.Common.{◌≡◌, ◌∙◌, ◌<◌, ◌+◌, ℕ, length, true, arith, sym, ap, subst, refl, inl, inr}
use Rattle.std.proofs.lemmas.Option.{slice_get_read, slice_get_within}
use Rattle.md_assembly.specs.States.{is_in_sync}
use Rattle.md_assembly.proofs.Indices.{got_same}
use Rattle.md_kept_members.specs.View.{MemberView}
use Rattle.md_kept_members.proofs.Members.Indices.{cases_more}
use Rattle.md_state.specs.View.{ArrayView}
use Rattle.md_state.specs.Members.{IsFirstInSyncWithout, IsInSync, IsMember}
use Rattle.md_state.specs.Steps.WriteMember.{HasMarksFrom}
use Rattle.md_state.proofs.array.Array.first_unmarked.Goals as goal
use Rattle.md_state.proofs.array.Array.first_unmarked.Goals.{else-is_in_sync-via-then-is_in_sync+else-not-is_range_marked, else-is_in_sync-via-else-is_in_sync}

-- the member at k is the first that lacks some
first_here : (a : ArrayView) (k : ℕ) (Has : MemberView → Type 0) (m : MemberView) → ((i : ℕ) (n : MemberView) → i < k → IsInSync a i n → Has n) → IsMember a k m → is_in_sync m.state ≡ true → (Has m → ⊥)
    → IsFirstInSyncWithout a Has k
first_here a k Has m earlier at in_sync lacks = record { member = m; in_sync = record { member = at; in_sync = in_sync }; lacks = lacks; earlier = earlier }

-- one more member has them, or is not in sync
one_more : (a : ArrayView) (k : ℕ) (Has : MemberView → Type 0) (m : MemberView) → ((i : ℕ) (n : MemberView) → i < k → IsInSync a i n → Has n) → IsMember a k m → (is_in_sync m.state ≡ true → Has m)
    → (i : ℕ) (n : MemberView) → i < k + 1 → IsInSync a i n → Has n
one_more a k Has m earlier at has i n early there = elim (cases_more i k early) [
  | inl before ↦ earlier i n before there
  | inr here ↦
      let at_k : IsMember a k n = subst (λ (j : ℕ). IsMember a j n) here there.member in
      let same : m ≡ n = got_same a.members k m n at at_k in
      subst Has same (has (ap (λ (x : MemberView). is_in_sync x.state) same ∙ there.in_sync))
]

pub returns-then-not-is_range_marked : goal.returns-then-not-is_range_marked
returns-then-not-is_range_marked c =
    let m = c.index-member.result.now in
    let Has : MemberView → Type 0 = HasMarksFrom c.args.first c.args.end in
    let at : IsMember c.args.self.now c.loop-k.k m =
    subst (λ (a : ArrayView). IsMember a c.loop-k.k m) c.self.view_is (slice_get_read c.self.inside.members.items _ c.loop-k.k m refl (omega arith) c.index-member.ensures) in
    let in_sync : is_in_sync m.state ≡ true = ap (λ (x : MemberView). is_in_sync x.state) (sym c.member.view_is) ∙ sym c.is_in_sync.ensures ∙ c.if-is_in_sync.true in
    first_here c.args.self.now c.loop-k.k Has m c.loop-k.invariant at in_sync
    (λ has. let all = c.is_range_marked.ensures.1 (subst Has (sym c.member.view_is) has) in let not_all = c.if-not-is_range_marked.true in cc)

pub loop-k-preserved : goal.loop-k-preserved
loop-k-preserved c =
    let m = c.index-member.result.now in
    let Has : MemberView → Type 0 = HasMarksFrom c.args.first c.args.end in
    let at : IsMember c.args.self.now c.loop-k.k m =
    subst (λ (a : ArrayView). IsMember a c.loop-k.k m) c.self.view_is (slice_get_read c.self.inside.members.items _ c.loop-k.k m refl (omega arith) c.index-member.ensures) in
    one_more c.args.self.now c.loop-k.k Has m c.loop-k.invariant at
    (λ in_sync. elim c.else-is_in_sync.branch [
      | else-is_in_sync-via-then-is_in_sync+else-not-is_range_marked w ↦ subst Has c.member.view_is (w.is_range_marked.ensures.0 (let all = w.if-not-is_range_marked.false in cc))
      | else-is_in_sync-via-else-is_in_sync w ↦
          let out = w.if-is_in_sync.false in
          let is : is_in_sync c.member.inside.state ≡ is_in_sync m.state = ap (λ (x : MemberView). is_in_sync x.state) c.member.view_is in
          let told = c.is_in_sync.ensures in
          absurd cc
    ])

pub returns : goal.returns
returns c i m there =
    let within : i < length c.args.self.now.members = slice_get_within c.args.self.now.members i m there.member in
    let count : length c.self.inside.members.items ≡ length c.args.self.now.members = ap (λ (a : ArrayView). length a.members) c.self.view_is in
    let all = c.len-k-end.ensures in
    let past = c.loop-k-test.false in
    c.loop-k.invariant i m (omega arith) there
