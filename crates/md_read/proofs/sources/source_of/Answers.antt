use Rattle.std.proofs.Common.{ap, arith}
use Rattle.std.proofs.lemmas.Option.{slice_get_within}
use Rattle.md_super.specs.declared.superblock.Superblock.{Superblock}
use Rattle.md_read.proofs.AllListed.{lists_more}
use Rattle.md_read.proofs.InRoles.{listed_in_part}
use Rattle.md_read.proofs.SourceRoles.{all_list, all_list_more, is_source, nobody_in, one_lists}
use Rattle.md_read.proofs.sources.source_of.Goals as goal
use Rattle.md_read.proofs.sources.source_of.Goals.{in-Some+else-not-lists_some+else-not-lists_all, in_default}

pub returns-then-not-lists_some : goal.returns-then-not-lists_some
returns-then-not-lists_some g c =
    let is = c.in-Some.ensures in
    is_source c.args.mirror.now.array c.loop-role.role c.in-Some.k c.args.sector c.args.sectors is c.loop-role.invariant
    (λ lists. let on = (c.lists_some.ensures is.member is.at).1 lists in let out = c.if-not-lists_some.true in cc)

pub lists_all-requires-clause-within : goal.lists_all-requires-clause-within
lists_all-requires-clause-within g c = slice_get_within c.args.mirror.now.array.members c.in-Some.k c.in-Some.ensures.member c.in-Some.ensures.at

pub returns-then-not-lists_all : goal.returns-then-not-lists_all
returns-then-not-lists_all g c =
    let is = c.in-Some.ensures in
    let some = (c.lists_some.ensures is.member is.at).0 (let out = c.if-not-lists_some.false in cc) in (
      lists_more is.member c.args.sector c.args.sectors c.requires.some some (λ all. let on = (c.lists_all.ensures is.member is.at).1 all in let out = c.if-not-lists_all.true in cc),
      listed_in_part c.args.mirror.now.array c.loop-role.role c.in-Some.k is c.args.sector c.args.sectors some
          (λ all. let on = (c.lists_all.ensures is.member is.at).1 all in let out = c.if-not-lists_all.true in cc),
    )

pub loop-role-preserved : goal.loop-role-preserved
loop-role-preserved g c =
    let v = c.args.mirror.now in
    let role = c.loop-role.role in
    all_list_more role c.args.sector c.args.sectors v.array c.loop-role.invariant (elim c.match-member_in.branch [
      | in-Some+else-not-lists_some+else-not-lists_all w ↦
          let is = w.in-Some.ensures in
          one_lists v c.requires.sound role w.in-Some.k c.args.sector c.args.sectors is
          ((w.lists_all.ensures is.member is.at).0 (let out = w.if-not-lists_all.false in cc))
      | in_default w ↦ λ s from below. nobody_in role s v.array w.in_default.ensures
    ])

pub returns : goal.returns
returns g c =
    let past = c.loop-role-test.false in
    let disks = ap (λ (v : Superblock). v.raid_disks) c.shared.ensures in
    all_list c.args.mirror.now c.requires.sound c.loop-role.role c.args.sector c.args.sectors (omega arith) c.loop-role.invariant
