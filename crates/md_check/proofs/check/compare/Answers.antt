use Rattle.md_check.proofs.MemberReaders.{finds_alone}
use Rattle.md_check.proofs.check.compare.Goals as goal

pub returns-else-has_two_in_sync-clause-gives : goal.returns-else-has_two_in_sync-clause-gives
returns-else-has_two_in_sync-clause-gives g c =
    finds_alone c.args.mirror.now c.args.found.now (c.has_two_in_sync.ensures.one c.if-has_two_in_sync.false) c.requires.none

pub returns-else-has_two_in_sync-clause-told : goal.returns-else-has_two_in_sync-clause-told
returns-else-has_two_in_sync-clause-told g c = λ two. absurd (two (c.has_two_in_sync.ensures.one c.if-has_two_in_sync.false))
