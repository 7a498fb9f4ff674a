use Rattle.std.proofs.Common.{◌≡◌, ◌∙◌, ℕ, ◌-◌, false, List, [], ◌∷◌, ◌++◌, get_or, length, map, set, ap, sym, arith}
use Rattle.std.proofs.Math.Seq.{set-append_seam}
use Rattle.std.proofs.lemmas.List.{get_or_push, length-map, length_push, map_push, with_items_is}
use Rattle.md_kept_members.specs.View.{MemberView}
use Rattle.md_kept_members.specs.Members.{made_due}
use Rattle.md_state.specs.View.{ArrayView}
use Rattle.md_state.proofs.array.Array.make_others_due.Goals as goal

long : (xs ys : List MemberView) → ys ≡ map made_due xs → length ys ≡ length xs
long xs ys is = ap length is ∙ length-map xs made_due

noted : (a b : ArrayView) (xs members : List MemberView) (m x y : MemberView) (i : ℕ) → b ≡ a → xs ≡ map made_due members ++ made_due m ∷ [] → i ≡ length members → x ≡ y → y ≡ get_or xs i y
    → record b { members = set xs i (record x { due = false }) } ≡ record a { members = map made_due members ++ record m { due = false } ∷ [] }
noted a b xs members m x y i is due at same read =
    let seam : i ≡ length (map made_due members) = at ∙ sym (length-map members made_due) in
    let last : y ≡ made_due m = read ∙ ap (λ (zs : List MemberView). get_or zs i y) due ∙ get_or_push (map made_due members) (made_due m) y i (sym seam) in
    let changed : set xs i (record x { due = false }) ≡ map made_due members ++ record m { due = false } ∷ [] =
    ap (λ (zs : List MemberView). set zs i (record x { due = false })) due
    ∙ ap (λ (z : MemberView). set (map made_due members ++ made_due m ∷ []) i (record z { due = false })) (same ∙ last)
    ∙ ap (λ (j : ℕ). set (map made_due members ++ made_due m ∷ []) j (record m { due = false })) seam
    ∙ set-append_seam (map made_due members) (made_due m) [] (record m { due = false }) in
    ap (λ (zs : List MemberView). record b { members = zs }) changed
    ∙ ap (λ (z : ArrayView). record z { members = map made_due members ++ record m { due = false } ∷ [] }) is

pub returns : goal.returns
returns c members m is =
    let v = c.self.inside.members in
    let ws = c.make_due.new.members in
    let was : v.items ≡ members ++ m ∷ [] = ap (λ (y : ArrayView). y.members) c.self.view_is ∙ is in
    let many : length v.items ≡ length (members ++ m ∷ []) = ap length was in
    let items = with_items_is v ws (long c.deref_mut.result.now ws c.make_due.ensures ∙ c.deref_mut.ensures.len) in
    let due = items ∙ c.make_due.ensures ∙ ap (map made_due) (c.deref_mut.ensures.value ∙ was) ∙ map_push made_due members m in
    noted c.args.self.now _ _ members m _ c.index_mut.result.now (c.len-last.result - 1) c.self.view_is due
    (omega (arith, c.len-last.ensures, c.deref_mut.ensures.len, ap length c.deref_mut.ensures.value, many, length_push members m))
    c.behind-self.view_is c.index_mut.ensures.value
