use Rattle.std.proofs.Common.{rules, Err, ◌≡◌, refl}
use Rattle.md_read_commands.proofs.Noted.{nothing_noted, some_gap}
use Rattle.md_read_commands.specs.Holes.{gaps_of}
use Rattle.md_read_commands.proofs.noting.note_all.Goals as goal

pub returns-then-is_empty : goal.returns-then-is_empty
returns-then-is_empty c = nothing_noted c.args.noted.now (gaps_of c.args.holes.now) (c.is_empty.ensures.0 c.if-is_empty.true)

pub returns-in_err-both : goal.returns-in_err-both
returns-in_err-both c =
    let fault = c.in_err-both.field-0.0 in
    let passed : c.from_residual.result ≡ Err fault = search rules in
    rw passed (
      refl,
      some_gap c.args.holes.now.missing.items c.args.holes.now.others.items c.requires.fit.0 c.requires.fit.1
          (λ none. let yes = c.is_empty.ensures.1 none in let no = c.if-is_empty.false in cc),
    )
