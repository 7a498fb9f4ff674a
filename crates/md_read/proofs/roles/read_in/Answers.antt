use Rattle.std.proofs.Common.{◌/◌, length, arith}
use Rattle.std.proofs.lemmas.Option.{slice_get_within}
use Rattle.md_laws.proofs.Runs.Rests.{rests_same}
use Rattle.md_read.proofs.AllListed.{lists_more}
use Rattle.md_read.proofs.InRoles.{all_listed, fails_in, gives_in, listed_in_part, not_asked, read_failed}
use Rattle.md_read.proofs.roles.read_in.Goals as goal

pub returns-in_default : goal.returns-in_default
returns-in_default g c = (
  rests_same c.args.mirror.now,
  λ s from below k m at as_role flag. absurd (c.in_default.ensures (k, record { member = m; at = at; in_sync = as_role })),
)

pub is_asked-requires : goal.is_asked-requires
is_asked-requires g c = record { within = slice_get_within c.args.mirror.now.array.members c.in-Some.k c.in-Some.ensures.member c.in-Some.ensures.at }

pub returns-then-not-is_asked : goal.returns-then-not-is_asked
returns-then-not-is_asked g c =
    let old = c.args.mirror.now in
    let is = c.in-Some.ensures in (
      rests_same old,
      λ s from below. not_asked old c.requires.sound c.args.mostly c.args.role c.in-Some.k c.args.sector (length c.args.buf.now / 512) is (λ flag. let on = (c.is_asked.ensures is.member is.at).1 flag in let out = c.if-not-is_asked.true in cc) s,
    )

pub lists_some-requires : goal.lists_some-requires
lists_some-requires g c = record { within = slice_get_within c.args.mirror.now.array.members c.in-Some.k c.in-Some.ensures.member c.in-Some.ensures.at }

pub returns-then-lists_all : goal.returns-then-lists_all
returns-then-lists_all g c =
    let old = c.args.mirror.now in
    let is = c.in-Some.ensures in (
      rests_same old,
      all_listed old c.requires.sound c.args.mostly c.args.role c.in-Some.k c.args.sector (length c.args.buf.now / 512) is ((c.lists_all.ensures is.member is.at).0 c.if-lists_all.true),
    )

pub returns-then-lists_some : goal.returns-then-lists_some
returns-then-lists_some g c =
    let is = c.in-Some.ensures in
    let whole = c.requires.some in (
      rests_same c.args.mirror.now,
      lists_more is.member c.args.sector (length c.args.buf.now / 512) (omega arith) ((c.lists_some.ensures is.member is.at).0 c.if-lists_some.true)
          (λ all. let on = (c.lists_all.ensures is.member is.at).1 all in let out = c.if-lists_all.false in cc),
      listed_in_part c.args.mirror.now.array c.args.role c.in-Some.k is c.args.sector (length c.args.buf.now / 512) ((c.lists_some.ensures is.member is.at).0 c.if-lists_some.true)
          (λ all. let on = (c.lists_all.ensures is.member is.at).1 all in let out = c.if-lists_all.false in cc),
    )

pub read_data-requires-clause-within : goal.read_data-requires-clause-within
read_data-requires-clause-within g c = slice_get_within c.args.mirror.now.array.members c.in-Some.k c.in-Some.ensures.member c.in-Some.ensures.at

pub returns-in-Ok : goal.returns-in-Ok
returns-in-Ok g c =
    let old = c.args.mirror.now in
    let is = c.in-Some.ensures in
    let reads = c.in-Ok.ensures.gives in (
      reads.rests,
      gives_in old c.requires.sound c.args.mostly c.args.role c.in-Some.k c.args.sector (length c.args.buf.now / 512) is c.read_data.new.self c.read_data.new.buf (let same = c.read_data.auto.buf in omega arith)
          ((c.is_asked.ensures is.member is.at).0 (let out = c.if-not-is_asked.false in cc))
          (λ lists. let on = (c.lists_some.ensures is.member is.at).1 lists in let out = c.if-lists_some.false in cc)
          reads,
    )

pub returns-in-Err : goal.returns-in-Err
returns-in-Err g c =
    let old = c.args.mirror.now in
    let is = c.in-Some.ensures in
    let fails = c.in-Err.ensures.gives in (
      fails.rests,
      λ s from below. read_failed old c.requires.sound c.args.mostly c.args.role c.in-Some.k c.args.sector (length c.args.buf.now / 512) is c.read_data.new.self (length c.args.buf.now) fails (let whole = c.requires.whole in omega (arith, whole)) s,
      fails_in old c.requires.sound c.args.mostly c.args.role c.in-Some.k c.args.sector (length c.args.buf.now / 512) is c.read_data.new.self (length c.args.buf.now)
          ((c.is_asked.ensures is.member is.at).0 (let out = c.if-not-is_asked.false in cc))
          (λ lists. let on = (c.lists_some.ensures is.member is.at).1 lists in let out = c.if-lists_some.false in cc)
          fails (let whole = c.requires.whole in omega (arith, whole)),
    )
