use Rattle.std.proofs.Common.{ap, arith, refl, rules, sym}
use Rattle.md_kept_members.specs.Enrolling.{log_room}
use Rattle.md_kept_members.specs.View.{MemberView}
use Rattle.md_state.proofs.Members.At.{member_read}
use Rattle.md_state.proofs.array.Array.list_noted_more.Goals as goal

pub returns-then-entries_needed-log_room : goal.returns-then-entries_needed-log_room
returns-then-entries_needed-log_room c =
    let m = c.index-member.result.now in
    let room = ap (λ (x : MemberView). log_room x.superblock) c.member.view_is in
    let above = c.if-entries_needed-log_room.true in (
      refl,
      record {
        running = search rules;
        member = m;
        at = member_read c.args.self.now _ c.args.k m c.self.view_is c.requires c.index-member.ensures;
        list = c.in-Ok.list;
        list_is = c.in-Ok.ensures m (ap (λ (x : MemberView). x.bad) (sym c.member.view_is)) (ap (λ (x : MemberView). x.superblock.data_offset) (sym c.member.view_is));
        full = λ fits. let f = c.log_room.ensures in let g = c.entries_needed.ensures in absurd (omega arith);
      },
    )

pub returns : goal.returns
returns c =
    let m = c.index-member.result.now in
    let room = ap (λ (x : MemberView). log_room x.superblock) c.member.view_is in
    let below = c.if-entries_needed-log_room.false in
    record {
      running = search rules;
      member = m;
      at = member_read c.args.self.now _ c.args.k m c.self.view_is c.requires c.index-member.ensures;
      list_is = c.in-Ok.ensures m (ap (λ (x : MemberView). x.bad) (sym c.member.view_is)) (ap (λ (x : MemberView). x.superblock.data_offset) (sym c.member.view_is));
      room = let f = c.log_room.ensures in let g = c.entries_needed.ensures in omega arith;
    }
