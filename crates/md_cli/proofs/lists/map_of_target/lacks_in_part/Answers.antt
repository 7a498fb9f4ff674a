use Rattle.std.proofs.Common.{arith, sym, true≢false}
use Rattle.std.proofs.lemmas.Option.{slice_get_within}
use Rattle.md_cli.proofs.lists.map_of_target.lacks_in_part.Goals as goal

pub returns-then-k-members : goal.returns-then-k-members
returns-then-k-members g c = (
  λ no. absurd (true≢false (sym no)),
  λ h.
      let within = slice_get_within c.args.mirror.now.array.members c.args.k h.member h.at in
      let count = c.members.ensures in
      let past = c.if-k-members.true in
      absurd (omega arith),
)
