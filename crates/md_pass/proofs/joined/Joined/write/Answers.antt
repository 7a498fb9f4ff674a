use Rattle.std.proofs.Common.{◌≡◌, [], length, sym, ◌∙◌, rules}
use Rattle.std.proofs.lemmas.Bool.{eqb-true}
use Rattle.md_pass.proofs.Joins.{nothing_waits}
use Rattle.md_pass.proofs.Sweeps.{none_left}
use Rattle.md_pass.proofs.joined.Joined.write.Goals as goal

pub returns-then-is_empty-clause-written : goal.returns-then-is_empty-clause-written
returns-then-is_empty-clause-written g c =
    let zero = eqb-true _ 0 (sym c.is_empty.ensures ∙ c.if-is_empty.true) in
    let long : length c.args.self.now.run ≡ 0 = search (rules, zero) in
    let none : c.args.self.now.run ≡ [] = none_left c.args.self.now.run long in
    λ honest. sym (nothing_waits (g.D.Device.content c.args.target.now) c.args.self.now none)
