use Rattle.std.proofs.Common.{◌≡◌, true, inl, ap, arith}
use Rattle.md_assembly.specs.States.{is_in_sync}
use Rattle.md_assembly.proofs.Indices.{got_within}
use Rattle.md_laws.proofs.Runs.Rests.{rests_same}
use Rattle.md_state.proofs.Members.At.{told}
use Rattle.md_read_commands.proofs.OtherMembers.{asked}
use Rattle.md_read_commands.proofs.others.read_from.Goals as goal

pub returns-then-k-source-clause-gives : goal.returns-then-k-source-clause-gives
returns-then-k-source-clause-gives g c = (rests_same c.args.mirror.now, λ m apart on. absurd (apart (let same = c.if-k-source.true in omega arith)))

pub returns-then-not-is_in_sync-clause-gives : goal.returns-then-not-is_in_sync-clause-gives
returns-then-not-is_in_sync-clause-gives g c = (
  rests_same c.args.mirror.now,
  λ m apart on.
      let state = told (λ x. x.state) c.args.mirror.now.array c.args.k m c.state.result c.state.ensures on.member in
      let is = ap is_in_sync state in
      let on_is = on.in_sync in
      let says = c.is_in_sync.ensures in
      let out = c.if-not-is_in_sync.true in
      absurd cc,
)

pub returns-then-lists-clause-gives : goal.returns-then-lists-clause-gives
returns-then-lists-clause-gives g c = (rests_same c.args.mirror.now, λ m apart on. inl ((c.lists.ensures m on.member).0 c.if-lists.true))

pub returns-clause-gives : goal.returns-clause-gives
returns-clause-gives g c =
    let m = got_within c.args.mirror.now.array.members c.args.k c.requires.within in
    let state = told (λ x. x.state) c.args.mirror.now.array c.args.k m.0 c.state.result c.state.ensures m.1 in
    let on : is_in_sync m.0.state ≡ true =
    let is = ap is_in_sync state in
    let says = c.is_in_sync.ensures in
    let out = c.if-not-is_in_sync.false in
    cc in
    rw c.is_ok.ensures.value
    (asked c.args.mirror.now c.read_data.new.self c.args.source c.args.k c.args.sector (λ same. let apart = c.if-k-source.false in absurd (omega arith)) m.0 (record { member = m.1; in_sync = on })
    (λ lists. let yes = (c.lists.ensures m.0 m.1).1 lists in let no = c.if-lists.false in cc) c.read_data.new.buf _ c.requires.one c.read_data.result c.read_data.ensures.gives)
