use Rattle.std.proofs.Common.{inl, subst, sym}
use Rattle.md_assembly.specs.declared.state.MemberState.{MemberState}
use Rattle.md_assembly.proofs.Indices.{got_within}
use Rattle.md_laws.proofs.Runs.Rests.{rests_same}
use Rattle.md_state.proofs.Members.At.{told}
use Rattle.md_super.specs.declared.superblock.Superblock.{Superblock}
use Rattle.md_read_commands.specs.StandIn.{IsStandIn}
use Rattle.md_read_commands.proofs.OtherMembers.{asked_stand_in}
use Rattle.md_read_commands.proofs.stand_in.given.read_stand_in.Goals as goal

pub returns-then-not-is_stand_in-clause-gives : goal.returns-then-not-is_stand_in-clause-gives
returns-then-not-is_stand_in-clause-gives g c = (
  rests_same c.args.mirror.now,
  λ m at stands.
      let state = told (λ x. x.state) c.args.mirror.now.array c.args.k m c.state.result c.state.ensures at in
      let own = told (λ x. x.superblock) c.args.mirror.now.array c.args.k m c.own.result.now c.own.ensures at in
      let told_of_it : IsStandIn c.state.result c.own.result.now =
      subst (λ (s : MemberState). IsStandIn s c.own.result.now) state
      (subst (λ (v : Superblock). IsStandIn m.state v) own stands) in
      let says = c.is_stand_in.ensures.1 told_of_it in
      let out = c.if-not-is_stand_in.true in
      absurd cc,
)

pub returns-then-lists-clause-gives : goal.returns-then-lists-clause-gives
returns-then-lists-clause-gives g c = (rests_same c.args.mirror.now, λ m at stands. inl ((c.lists.ensures m at).0 c.if-lists.true))

pub returns-clause-gives : goal.returns-clause-gives
returns-clause-gives g c =
    let m = got_within c.args.mirror.now.array.members c.args.k c.requires.within in
    let state = told (λ x. x.state) c.args.mirror.now.array c.args.k m.0 c.state.result c.state.ensures m.1 in
    let own = told (λ x. x.superblock) c.args.mirror.now.array c.args.k m.0 c.own.result.now c.own.ensures m.1 in
    let is : IsStandIn m.0.state m.0.superblock =
    subst (λ (s : MemberState). IsStandIn s m.0.superblock) (sym state)
    (subst (λ (v : Superblock). IsStandIn c.state.result v) (sym own) (c.is_stand_in.ensures.0 (let no = c.if-not-is_stand_in.false in cc))) in
    rw c.is_ok.ensures.value
    (asked_stand_in c.args.mirror.now c.read_data.new.self c.args.k c.args.sector m.0 m.1 is
    (λ lists. let yes = (c.lists.ensures m.0 m.1).1 lists in let no = c.if-lists.false in cc) c.read_data.new.buf _ c.requires.one c.read_data.result c.read_data.ensures.gives)
