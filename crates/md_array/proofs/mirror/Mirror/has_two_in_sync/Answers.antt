use Rattle.std.proofs.Common.{◌≡◌, ◌+◌, ◌<◌, ℕ, true, false, arith, inl, inr, subst}
use Rattle.std.proofs.lemmas.Bool.{cases_lt}
use Rattle.std.proofs.lemmas.Option.{slice_get_within}
use Rattle.md_assembly.proofs.Indices.{got_within}
use Rattle.md_kept_members.specs.View.{MemberView}
use Rattle.md_state.proofs.Members.At.{told}
use Rattle.md_state.specs.Members.{IsInSync}
use Rattle.md_array.proofs.mirror.Mirror.has_two_in_sync.Goals as goal
use Rattle.md_array.proofs.mirror.Mirror.has_two_in_sync.Goals.{then-is_in_sync+else-one, else-is_in_sync}

pub loop-k-preserved : goal.loop-k-preserved
loop-k-preserved g c =
    let a = c.args.self.now.array in
    let inv = c.loop-k.invariant in
    let k = c.loop-k.k in
    let test = c.loop-k-test.true in
    let count = c.members-k-end.ensures in
    let answer = c.is_in_sync.ensures in
    let here = got_within a.members k (omega arith) in
    let state = told (λ x. x.state) a k here.0 c.state.result c.state.ensures here.1 in
    elim c.if-is_in_sync.branch [
      | then-is_in_sync+else-one w ↦
          let yes = w.if-is_in_sync.true in
          let was : c.loop-k.one ≡ false = w.if-one.false in
          let now = w.one-is in
          record {
            none = λ e. absurd cc;
            some = λ e. (k, here.0, omega arith, record { member = here.1; in_sync = cc });
            alone = λ i j m n low high one other. elim (cases_lt i k) [
              | inl less ↦ absurd (inv.none was i m less one)
              | inr more ↦ elim (cases_lt j k) [ inl less ↦ absurd (inv.none was j n less other) | inr same ↦ omega arith ]
            ];
          }
      | else-is_in_sync w ↦
          let no = w.if-is_in_sync.false in
          let same = w.one-is in
          let out : (i : ℕ) (m : MemberView) → i < k + 1 → IsInSync a i m → i < k = λ i m low is. elim (cases_lt i k) [
            | inl less ↦ less
            | inr more ↦
                let there : i ≡ k = omega arith in
                let at = subst (λ n. IsInSync a n m) there is in
                let its = told (λ x. x.state) a k m c.state.result c.state.ensures at.member in
                let yes = at.in_sync in
                absurd cc
          ] in
          record {
            none = λ e i m low is. inv.none (let was : c.loop-k.one ≡ false = cc in was) i m (out i m low is) is;
            some = λ e. let s = inv.some (let was : c.loop-k.one ≡ true = cc in was) in (s.0, s.1, (let low = s.2 in omega arith), s.3);
            alone = λ i j m n low high one other. inv.alone i j m n (out i m low one) (out j n high other) one other;
          }
    ]

pub returns-clause-one : goal.returns-clause-one
returns-clause-one g c = λ e j k m n one other.
    let a = c.args.self.now.array in
    let past = c.loop-k-test.false in
    let count = c.members-k-end.ensures in
    let low = slice_get_within a.members j m one.member in
    let high = slice_get_within a.members k n other.member in
    c.loop-k.invariant.alone j k m n (omega arith) (omega arith) one other
