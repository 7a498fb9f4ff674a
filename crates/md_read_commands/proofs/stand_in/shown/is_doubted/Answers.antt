use Rattle.std.proofs.Common.{◌∙◌, ◌<◌, ap₂, arith, length, sym}
use Rattle.md_assembly.specs.declared.state.MemberState.{MemberState}
use Rattle.md_super.specs.declared.superblock.Superblock.{Superblock}
use Rattle.md_assembly.proofs.Indices.{got_within}
use Rattle.md_state.proofs.Members.At.{told}
use Rattle.md_read_commands.specs.StandIn.{doubts_device}
use Rattle.md_read_commands.proofs.StandIns.{none_doubts_more}
use Rattle.md_read_commands.proofs.stand_in.shown.is_doubted.Goals as goal

pub loop-k-init : goal.loop-k-init
loop-k-init g c = record { none = λ k m low at. absurd (omega arith) }

pub loop-k-preserved : goal.loop-k-preserved
loop-k-preserved g c =
    let a = c.args.mirror.now.array in
    let inside : c.loop-k.k < length a.members = omega arith in
    let m = got_within a.members c.loop-k.k inside in
    let own = told (λ x. x.superblock) a c.loop-k.k m.0 c.own.result.now c.own.ensures m.1 in
    let state = told (λ x. x.state) a c.loop-k.k m.0 c.state.result c.state.ensures m.1 in
    record {
      none = none_doubts_more a.members c.args.number c.args.role c.loop-k.k m.0 m.1
          (ap₂ (λ (v : Superblock) (s : MemberState). doubts_device v s c.args.number c.args.role) own state ∙ sym c.doubts.ensures ∙ c.if-doubts.false)
          c.loop-k.invariant.none;
    }
