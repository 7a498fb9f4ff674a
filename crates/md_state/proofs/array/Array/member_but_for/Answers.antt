use Rattle.std.proofs.Common.{ap, arith, refl, subst, sym}
use Rattle.md_kept_members.specs.Enrolling.{ComesIntoSync, log_room}
use Rattle.md_kept_members.specs.SectorLists.{IsListOf, in_chunks_but, in_runs}
use Rattle.md_kept_members.specs.View.{MemberView}
use Rattle.md_state.specs.View.{ArrayView}
use Rattle.md_state.proofs.Members.At.{member_read}
use Rattle.md_state.proofs.array.Array.member_but_for.Goals as goal

pub returns-then-entries_needed-log_room : goal.returns-then-entries_needed-log_room
returns-then-entries_needed-log_room c =
    let a = c.args.self.now in
    let m = c.index-member.result.now in
    let room = ap (λ (x : MemberView). log_room x.superblock) c.member.view_is in
    let above = c.if-entries_needed-log_room.true in (
      refl,
      record {
        member = m;
        at = member_read a _ c.args.k m c.self.view_is c.requires.within c.index-member.ensures;
        list = c.in-Ok.list;
        list_is = subst (λ (x : ArrayView). IsListOf (in_chunks_but x.chunks c.args.missing.now c.args.lost.now) (in_runs c.args.lost.now) m c.in-Ok.list) c.self.view_is (c.in-Ok.ensures m (ap (λ (x : MemberView). x.bad) (sym c.member.view_is)) (ap (λ (x : MemberView). x.superblock.data_offset) (sym c.member.view_is)));
        full = λ fits. let f = c.log_room.ensures in let g = c.entries_needed.ensures in absurd (omega arith);
      },
    )

pub returns-in-Ok-in_sync : goal.returns-in-Ok-in_sync
returns-in-Ok-in_sync c =
    let a = c.args.self.now in
    let m = c.index-member.result.now in
    let room = ap (λ (x : MemberView). log_room x.superblock) c.member.view_is in
    let below = c.if-entries_needed-log_room.false in
    record {
      member = m;
      at = member_read a _ c.args.k m c.self.view_is c.requires.within c.index-member.ensures;
      list = c.in-Ok.list;
      list_is = subst (λ (x : ArrayView). IsListOf (in_chunks_but x.chunks c.args.missing.now c.args.lost.now) (in_runs c.args.lost.now) m c.in-Ok.list) c.self.view_is (c.in-Ok.ensures m (ap (λ (x : MemberView). x.bad) (sym c.member.view_is)) (ap (λ (x : MemberView). x.superblock.data_offset) (sym c.member.view_is)));
      room = let f = c.log_room.ensures in let g = c.entries_needed.ensures in omega arith;
      comes = subst (λ (x : ArrayView). ComesIntoSync c.args.role c.in-Ok.list x.marks m c.in-Ok-in_sync.member) c.self.view_is c.in-Ok-in_sync.ensures;
    }
