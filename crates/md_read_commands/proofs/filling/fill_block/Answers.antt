use Rattle.std.proofs.Common.{◌∙◌, inl, inr, refl, subst, Bool, arith}
use Rattle.md_read_commands.specs.Others.{AsksOthers}
use Rattle.md_read_commands.proofs.Filled.{zeros_are}
use Rattle.md_read_commands.proofs.filling.fill_block.Goals as goal

pub returns-then-read_other-clause-gives : goal.returns-then-read_other-clause-gives
returns-then-read_other-clause-gives g c =
    inl (
      subst (λ (given : Bool). AsksOthers c.args.unread.now.fault c.args.unread.now.sector c.read_other.new.block c.args.mirror.now c.read_other.new.mirror given) c.if-read_other.true c.read_other.ensures.gives,
      c.push_one.ensures.notes,
      refl,
    )

pub returns-clause-gives : goal.returns-clause-gives
returns-clause-gives g c =
    inr (
      subst (λ (given : Bool). AsksOthers c.args.unread.now.fault c.args.unread.now.sector c.read_other.new.block c.args.mirror.now c.read_other.new.mirror given) c.if-read_other.false c.read_other.ensures.gives,
      c.fill.ensures.after (λ y same. same) ∙ zeros_are _ (let same = c.read_other.auto.block in let one = c.requires.one in omega arith),
      c.push_one-2.ensures.notes,
      refl,
    )
