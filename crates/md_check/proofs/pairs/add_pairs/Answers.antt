use Rattle.std.proofs.Common.{◌≡◌, ◌∙◌, ◌++◌, ◌∷◌, [], ℕ, Bool, List, ap, append_assoc, append-nil, arith, length, sym}
use Rattle.std.specs.Int.{div_ceil}
use Rattle.std.specs.List.{flat_map, range_with_len}
use Rattle.std.specs.Prelude.{if◌then◌else◌}
use Rattle.std.proofs.lemmas.List.{map_push}
use Rattle.std.proofs.lemmas.List.Elements.{All-push}
use Rattle.md_collect.specs.declared.found.Pair.{Pair}
use Rattle.md_check.specs.Differences.{IsEmptySet}
use Rattle.md_collect.specs.Found.{IsPairSized}
use Rattle.md_check.specs.Pairs.{pair_names, pair_of}
use Rattle.md_check.proofs.PairsInTurn.{flat_map_next}
use Rattle.md_check.proofs.pairs.add_pairs.Goals as goal
use Rattle.md_check.proofs.pairs.add_pairs.Goals.{then-are_compared+in_ok-chunks+in_ok-push, else-are_compared}

pub loop-other-init : goal.loop-other-init
loop-other-init g c = record { names = sym (append-nil (pair_names c.args.pairs.now.items)); sized = c.requires.sized; empty = c.requires.empty }

pub loop-other-preserved : goal.loop-other-preserved
loop-other-preserved g c =
    let a = c.args.mirror.now.array in
    let one = c.args.one in
    let other = c.loop-other.other in
    let inv = c.loop-other.invariant in
    let start = pair_names c.args.pairs.now.items in
    let front = flat_map (pair_of a one) (range_with_len 0 other) in
    let next = flat_map_next (pair_of a one) other in
    let test = c.are_compared.ensures in
    elim c.if-are_compared.branch [
      | then-are_compared+in_ok-chunks+in_ok-push w ↦
          let pair : Pair = record { one = one; other = other; chunks = w.in_ok-chunks.chunks } in
          let yes = w.if-are_compared.true in
          let is : pair_of a one other ≡ (one, other) ∷ [] = ap (λ (b : Bool). if b then (one, other) ∷ [] else []) (sym test ∙ yes) in
          let items : w.push.new.self.items ≡ c.loop-other.pairs.items ++ pair ∷ [] = w.in_ok-push.ensures.items in
          rw (w.pairs-is, items) (record {
            names = map_push (λ (p : Pair). (p.one, p.other)) c.loop-other.pairs.items pair ∙ ap (λ (t : List (ℕ × ℕ)). t ++ (one, other) ∷ []) inv.names
                ∙ append_assoc start front ((one, other) ∷ [])
                ∙ ap (λ (t : List (ℕ × ℕ)). start ++ t) (ap (λ (t : List (ℕ × ℕ)). front ++ t) (sym is) ∙ sym next);
            sized = All-push (IsPairSized a.chunks) c.loop-other.pairs.items pair inv.sized
                (w.in_ok-chunks.ensures.chunks ∙ w.count.ensures.count ∙ ap (λ x. div_ceil x.size x.sectors) w.chunks.ensures);
            empty = All-push (λ (p : Pair). IsEmptySet p.chunks) c.loop-other.pairs.items pair inv.empty w.in_ok-chunks.ensures.bits;
          })
      | else-are_compared w ↦
          let no = w.if-are_compared.false in
          let is : pair_of a one other ≡ [] = ap (λ (b : Bool). if b then (one, other) ∷ [] else []) (sym test ∙ no) in
          rw w.pairs-is (record {
            names = inv.names ∙ ap (λ (t : List (ℕ × ℕ)). start ++ t) (sym (append-nil front) ∙ ap (λ (t : List (ℕ × ℕ)). front ++ t) (sym is) ∙ sym next);
            sized = inv.sized;
            empty = inv.empty;
          })
    ]

pub returns-clause-names : goal.returns-clause-names
returns-clause-names g c =
    let a = c.args.mirror.now.array in
    let past = c.loop-other-test.false in
    let many = c.members-other-end.ensures in
    let stop = c.loop-other.auto.other-end in
    let end : c.loop-other.other ≡ length a.members = omega arith in
    c.loop-other.invariant.names ∙ ap (λ n. pair_names c.args.pairs.now.items ++ flat_map (pair_of a c.args.one) (range_with_len 0 n)) end
