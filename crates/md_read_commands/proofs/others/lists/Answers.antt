use Rattle.std.proofs.Common.{◌+◌, ap, refl, arith}
use Rattle.md_super.specs.declared.superblock.Superblock.{Superblock}
use Rattle.md_array.proofs.Worlds.PartsApart.{ends_below}
use Rattle.md_assembly.proofs.Indices.{got_within}
use Rattle.md_read.proofs.InRoles.{meets_lists}
use Rattle.md_state.proofs.Members.At.{told}
use Rattle.md_read_commands.proofs.OtherMembers.{lists_one}
use Rattle.md_read_commands.proofs.others.lists.Goals as goal

pub overflow_add-place : goal.overflow_add-place
overflow_add-place g c =
    let v = c.args.mirror.now in
    let m = got_within v.array.members c.args.k c.requires.within in
    let own = told (λ x. x.superblock) v.array c.args.k m.0 c.own.result.now c.own.ensures m.1 in
    let offset = ap (λ (b : Superblock). b.data_offset) own in
    let low = ends_below v c.requires.sound c.args.k m.0 m.1 in
    let inside = c.requires.inside in
    omega arith

pub returns : goal.returns
returns g c m at =
    let bad = told (λ x. x.bad) c.args.mirror.now.array c.args.k m c.bad.result.now c.bad.ensures at in
    let own = told (λ x. x.superblock) c.args.mirror.now.array c.args.k m c.own.result.now c.own.ensures at in
    let offset = ap (λ (v : Superblock). v.data_offset) own in
    lists_one m c.args.sector c.meets.result (meets_lists m c.args.sector 1 (c.own.result.now.data_offset + c.args.sector) c.meets.result (rw offset refl) (rw bad c.meets.ensures))
