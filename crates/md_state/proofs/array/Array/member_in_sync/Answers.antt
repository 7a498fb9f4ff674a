use Rattle.std.proofs.Common.{ap, arith, refl, subst}
use Rattle.md_kept_members.specs.Enrolling.{ComesIntoSync, IsListAfter, log_room}
use Rattle.md_kept_members.specs.Entries.{TakeEntries}
use Rattle.md_kept_members.specs.View.{MemberView}
use Rattle.md_kept_members.proofs.SectorSets.{of_after}
use Rattle.md_state.specs.View.{ArrayView}
use Rattle.md_state.proofs.Members.At.{member_read}
use Rattle.md_state.proofs.array.Array.member_in_sync.Goals as goal

pub returns-then-entries_after-log_room : goal.returns-then-entries_after-log_room
returns-then-entries_after-log_room c =
    let a = c.args.self.now in
    let m = c.index-member.result.now in
    let room = ap (λ (x : MemberView). log_room x.superblock) c.member.view_is in
    let above = c.if-entries_after-log_room.true in
    let taken = subst (λ (x : ArrayView). TakeEntries (IsListAfter x.chunks m c.args.copied.now c.args.orphans.now) c.entries_after.result) c.self.view_is c.entries_after.ensures in
    let entries = taken.each taken.list taken.is in (
      refl,
      record {
        member = m;
        at = member_read a _ c.args.k m c.self.view_is c.requires.within c.index-member.ensures;
        list = taken.list;
        list_is = of_after a.chunks c.args.copied.now c.args.orphans.now m taken.list taken.is;
        full = λ fits. let f = c.log_room.ensures in absurd (omega arith);
      },
    )

pub returns-in_default : goal.returns-in_default
returns-in_default c =
    let a = c.args.self.now in
    let m = c.index-member.result.now in
    let room = ap (λ (x : MemberView). log_room x.superblock) c.member.view_is in
    let below = c.if-entries_after-log_room.false in
    let taken = subst (λ (x : ArrayView). TakeEntries (IsListAfter x.chunks m c.args.copied.now c.args.orphans.now) c.entries_after.result) c.self.view_is c.entries_after.ensures in
    let entries = taken.each taken.list taken.is in
    record {
      member = m;
      at = member_read a _ c.args.k m c.self.view_is c.requires.within c.index-member.ensures;
      list = taken.list;
      list_is = of_after a.chunks c.args.copied.now c.args.orphans.now m taken.list taken.is;
      room = let f = c.log_room.ensures in omega arith;
    }

pub returns-in-Ok-in_sync : goal.returns-in-Ok-in_sync
returns-in-Ok-in_sync c =
    let a = c.args.self.now in
    let m = c.index-member.result.now in
    let room = ap (λ (x : MemberView). log_room x.superblock) c.member.view_is in
    let below = c.if-entries_after-log_room.false in
    let entries = c.entries_after.ensures.each c.in-Ok.list c.in-Ok.ensures in
    record {
      member = m;
      at = member_read a _ c.args.k m c.self.view_is c.requires.within c.index-member.ensures;
      list = c.in-Ok.list;
      list_is = of_after a.chunks c.args.copied.now c.args.orphans.now m c.in-Ok.list
          (subst (λ (x : ArrayView). IsListAfter x.chunks m c.args.copied.now c.args.orphans.now c.in-Ok.list) c.self.view_is c.in-Ok.ensures);
      room = let f = c.log_room.ensures in omega arith;
      comes = subst (λ (x : ArrayView). ComesIntoSync c.args.role c.in-Ok.list x.marks m c.in-Ok-in_sync.member) c.self.view_is c.in-Ok-in_sync.ensures;
    }

pub returns-in-Err : goal.returns-in-Err
returns-in-Err c =
    let a = c.args.self.now in
    let m = c.index-member.result.now in
    let room = ap (λ (x : MemberView). log_room x.superblock) c.member.view_is in
    let below = c.if-entries_after-log_room.false in
    let entries = c.entries_after.ensures.each c.in-Ok.list c.in-Ok.ensures in
    record {
      member = m;
      at = member_read a _ c.args.k m c.self.view_is c.requires.within c.index-member.ensures;
      list = c.in-Ok.list;
      list_is = of_after a.chunks c.args.copied.now c.args.orphans.now m c.in-Ok.list
          (subst (λ (x : ArrayView). IsListAfter x.chunks m c.args.copied.now c.args.orphans.now c.in-Ok.list) c.self.view_is c.in-Ok.ensures);
      room = let f = c.log_room.ensures in omega arith;
    }
