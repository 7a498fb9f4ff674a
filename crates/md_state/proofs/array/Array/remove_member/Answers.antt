use Rattle.std.proofs.Common.{◌≡◌, ◌∙◌, ℕ, Bool, true, false, cond, List, [], length, refl, ap, arith}
use Rattle.std.proofs.lemmas.Result.{err_from_is_err_and}
use Rattle.std.specs.List.{remove}
use Rattle.std.proofs.lemmas.List.{length-map}
use Rattle.md_kept_members.specs.View.{MemberView}
use Rattle.md_kept_members.specs.Members.{made_due}
use Rattle.md_assembly.specs.States.{is_spare}
use Rattle.md_assembly.proofs.Indices.{got_within}
use Rattle.md_state.specs.View.{ArrayView}
use Rattle.md_state.specs.Steps.Remove.{before_leaving, taken_out, without_spare}
use Rattle.md_state.proofs.array.Array.remove_member.Goals as goal

as_many : (a : ArrayView) (m : MemberView) → length (before_leaving a m).members ≡ length a.members
as_many a m = by (is_spare m.state)
  where
    by : (b : Bool) → length (cond b (without_spare a m) a).members ≡ length a.members
    by true = length-map a.members made_due
    by false = refl

took : (a b : ArrayView) (k : ℕ) (members : List MemberView) → b ≡ a → members ≡ remove b.members k → record b { members = members } ≡ taken_out a k
took a b k members is left = ap (λ (xs : List MemberView). record b { members = xs }) left ∙ ap (λ (y : ArrayView). taken_out y k) is

pub note_leaving-requires-clause-unspent : goal.note_leaving-requires-clause-unspent
note_leaving-requires-clause-unspent c m at = (c.in_ok-check_remove.ensures [] m at).unspent

pub remove-requires : goal.remove-requires
remove-requires c =
    let a = c.args.self.now in
    let m = got_within a.members c.args.k c.requires in
    let within = c.requires in
    let count = ap (λ (y : ArrayView). length y.members) (c.self.view_is ∙ c.note_leaving.ensures m.0 m.1) ∙ as_many a m.0 in
    omega arith

pub returns-in_err-check_remove : goal.returns-in_err-check_remove
returns-in_err-check_remove c disks =
    let p = err_from_is_err_and c.from_residual.result c.from_residual.ensures.1 in
    rw (p.1, p.2) (c.in_err-check_remove.ensures disks)

pub returns : goal.returns
returns c disks =
    let a = c.args.self.now in
    let m = got_within a.members c.args.k c.requires in
    record {
      member = m.0;
      may = c.in_ok-check_remove.ensures disks m.0 m.1;
      array = took (before_leaving a m.0) _ c.args.k _ (c.self.view_is ∙ c.note_leaving.ensures m.0 m.1) c.remove.ensures.items;
    }
