use Rattle.std.proofs.Common.{refl, rules}
use Rattle.md_cli.proofs.performing.serve.Goals as goal
use Rattle.md_cli.proofs.performing.serve.Goals.{then-fill, else-fill}

pub returns-clause-serves : goal.returns-clause-serves
returns-clause-serves g c =
    elim c.if-fill.branch [
      | then-fill w ↦ rw (w.session-is) (record {
        gaps = c.serve_array-gaps.result.0;
        serves = search rules;
        rests = c.serve_array-gaps.ensures.rests;
        noted = λ yes. refl;
      })
      | else-fill w ↦ rw (w.session-is) (record {
        gaps = c.serve_array-gaps.result.0;
        serves = search rules;
        rests = c.serve_array-gaps.ensures.rests;
        noted = λ yes. cc (yes, w.if-fill.false);
      })
    ]
