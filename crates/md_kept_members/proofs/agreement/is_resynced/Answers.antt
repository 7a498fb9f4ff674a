use Rattle.md_kept_members.proofs.Kept.Resyncing.{none_marked, some_marked}
use Rattle.md_kept_members.proofs.agreement.is_resynced.Goals as goal

pub returns-then-is_none : goal.returns-then-is_none
returns-then-is_none c = none_marked c.args.members.now c.args.marks.now c.next_marked.result c.requires c.next_marked.ensures.none c.if-is_none.ensures

pub returns : goal.returns
returns c = some_marked c.args.members.now c.args.marks.now c.next_marked.result _ c.next_marked.ensures.some c.if-is_none.ensures c.is_alone.ensures
