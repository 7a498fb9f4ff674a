use Rattle.std.proofs.Common.{◌∙◌, ◌<◌, ap, arith, length, sym}
use Rattle.md_super.specs.declared.superblock.Superblock.{Superblock}
use Rattle.md_assembly.proofs.Indices.{got_within}
use Rattle.md_state.proofs.Members.At.{told}
use Rattle.md_read_commands.proofs.StandIns.{none_of_more}
use Rattle.md_read_commands.proofs.stand_in.shown.place_of.Goals as goal

pub loop-k-init : goal.loop-k-init
loop-k-init g c = record { none = λ k m low at. absurd (omega arith) }

pub returns-then-own-number : goal.returns-then-own-number
returns-then-own-number g c =
    let a = c.args.mirror.now.array in
    let inside : c.loop-k.k < length a.members = omega arith in
    let m = got_within a.members c.loop-k.k inside in
    let own = ap (λ (v : Superblock). v.dev_number) (told (λ x. x.superblock) a c.loop-k.k m.0 c.own.result.now c.own.ensures m.1) in
    record { member = m.0; at = m.1; is = own ∙ c.if-own-number.true; before = c.loop-k.invariant.none }

pub loop-k-preserved : goal.loop-k-preserved
loop-k-preserved g c =
    let a = c.args.mirror.now.array in
    let inside : c.loop-k.k < length a.members = omega arith in
    let m = got_within a.members c.loop-k.k inside in
    let own = ap (λ (v : Superblock). v.dev_number) (told (λ x. x.superblock) a c.loop-k.k m.0 c.own.result.now c.own.ensures m.1) in
    record { none = none_of_more a.members c.args.number c.loop-k.k m.0 m.1 (λ same. c.if-own-number.false (sym own ∙ same)) c.loop-k.invariant.none }
