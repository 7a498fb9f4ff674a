use Rattle.std.proofs.Common.{◌≡◌, arith, Err, rules, subst}
use Rattle.md_bitmap.specs.Marks.{Bitmap}
use Rattle.md_metadata.specs.Storing.{HasAllMarks, IsMarking, StoresAt}
use Rattle.md_metadata.proofs.Going.{in_sync_before, stops_on}
use Rattle.md_metadata.proofs.StoredMembers.{below_all, below_more, below_none}
use Rattle.md_metadata.proofs.StoredSectors.{all_marks_last}
use Rattle.md_metadata.proofs.all_marks.store_all_marks.Goals as goal

pub loop-k-init : goal.loop-k-init
loop-k-init g c = below_none IsMarking (HasAllMarks c.args.mirror.now.array.marks) c.args.mirror.now c.requires.sound

pub returns-in_err-store_member_marks-clause-gives : goal.returns-in_err-store_member_marks-clause-gives
returns-in_err-store_member_marks-clause-gives g c =
    let is : c.from_residual.result ≡ Err c.in_err-store_member_marks.field-0.0 = search rules in
    rw is (stops_on IsMarking c.args.mirror.now c.loop-k.mirror c.store_member_marks.new.mirror c.in_err-store_member_marks.field-0.0 c.loop-k.invariant.stores c.in_err-store_member_marks.ensures.gives)

pub returns-in_err-store_member_marks-clause-in_sync : goal.returns-in_err-store_member_marks-clause-in_sync
returns-in_err-store_member_marks-clause-in_sync g c =
    let is : c.from_residual.result ≡ Err c.in_err-store_member_marks.field-0.0 = search rules in
    rw is (in_sync_before c.args.mirror.now.array c.loop-k.mirror.array c.in_err-store_member_marks.field-0.0 c.loop-k.invariant.stores.ready c.in_err-store_member_marks.ensures.in_sync)

pub loop-k-preserved : goal.loop-k-preserved
loop-k-preserved g c =
    let old = c.args.mirror.now in
    let mid = c.loop-k.mirror in
    let new = c.store_member_marks.new.mirror in
    below_more IsMarking (HasAllMarks old.array.marks) c.loop-k.k old mid new (all_marks_last old.array.marks) c.loop-k.invariant
    (subst (λ (marks : Bitmap). StoresAt IsMarking c.loop-k.k (HasAllMarks marks) mid new) c.loop-k.invariant.stores.goes.array.marks c.in_ok-store_member_marks.ensures.gives)

pub returns-clause-gives : goal.returns-clause-gives
returns-clause-gives g c =
    let past = c.loop-k-test.false in
    let count = c.members-k-end.ensures in
    let many = c.loop-k.invariant.stores.goes.array.as_many in
    below_all IsMarking (HasAllMarks c.args.mirror.now.array.marks) c.loop-k.k c.args.mirror.now c.loop-k.mirror (omega arith) c.loop-k.invariant
