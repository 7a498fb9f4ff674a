use Rattle.std.proofs.Common.{◌≡◌, ◌/◌, true, length, arith, subst, sym}
use Rattle.md_array.specs.Steps.CopyData.{IfCopyingFailed}
use Rattle.md_array.specs.Events.{Happens}
use Rattle.md_assembly.specs.States.{is_in_sync}
use Rattle.md_model.specs.Events.{Event, MemberPart}
use Rattle.md_state.specs.Steps.CopyData.{RefusesCopy}
use Rattle.md_state.specs.Members.{IsInSync}
use Rattle.md_state.specs.Steps.ReadData.{HoldsData}
use Rattle.md_state.proofs.Members.At.{told}
use Rattle.md_resync.specs.Copying.{IsAmong}
use Rattle.md_resync.proofs.Bests.{member_at}
use Rattle.md_resync.proofs.CopiedChunks.{run_later}
use Rattle.md_resync.proofs.CopiedRuns.{copies_read, given_unlike, gives_to, halts_copying, halts_then, loses_copying, loses_then, nothing_given, only_read, read_holds, run_is_copy}
use Rattle.md_resync.proofs.members.copy_to.Goals as goal
use Rattle.md_resync.proofs.members.copy_to.Goals.{then-k-from-via-then-k-from, then-k-from-via-else-k-from+then-not-is_in_sync}

pub returns-then-k-from : goal.returns-then-k-from
returns-then-k-from g c =
    let old = c.args.mirror.now in
    nothing_given c.args.k c.args.sector c.args.bytes.now old c.requires.sound
    (λ m in_sync. elim c.then-k-from.branch [
      | then-k-from-via-then-k-from w ↦ subst (λ k. HoldsData old k c.args.sector c.args.bytes.now) (let same = w.if-k-from.true in omega arith) c.requires.run.holds
      | then-k-from-via-else-k-from+then-not-is_in_sync w ↦
          let state = told (λ x. x.state) old.array c.args.k m w.state.result w.state.ensures in_sync.member in
          let yes = in_sync.in_sync in
          let answer = w.is_in_sync.ensures in
          let no = w.if-not-is_in_sync.true in
          absurd cc
    ])

pub compare_member-requires-clause-some : goal.compare_member-requires-clause-some
compare_member-requires-clause-some g c = let long = c.requires.run.long in let some = c.requires.run.some in omega arith

pub compare_member-requires-clause-whole : goal.compare_member-requires-clause-whole
compare_member-requires-clause-whole g c = let long = c.requires.run.long in omega arith

pub compare_member-requires-clause-inside : goal.compare_member-requires-clause-inside
compare_member-requires-clause-inside g c = let long = c.requires.run.long in let inside = c.requires.run.inside in omega arith

pub returns-then-compare_member : goal.returns-then-compare_member
returns-then-compare_member g c =
    let read = c.compare_member.ensures in
    only_read c.args.k c.args.sector c.args.bytes.now c.args.mirror.now c.compare_member.new.mirror c.requires.sound read.rests (read.holds c.if-compare_member.true)

pub copy_data-requires-clause-copy : goal.copy_data-requires-clause-copy
copy_data-requires-clause-copy g c =
    let old = c.args.mirror.now in
    let mid = c.compare_member.new.mirror in
    let rests = c.compare_member.ensures.rests in
    let m = member_at old.array c.args.k c.requires.within in
    let state = told (λ x. x.state) old.array c.args.k m.0 c.state.result c.state.ensures m.1 in
    let answer = c.is_in_sync.ensures in
    let yes = c.if-not-is_in_sync.false in
    let in_sync : is_in_sync m.0.state ≡ true = cc in
    let run = run_later c.args.from c.args.sector c.args.bytes.now old mid c.requires.run rests.array (read_holds old mid rests c.args.from c.args.sector c.args.bytes.now c.requires.run.holds) in
    run_is_copy c.args.from c.args.k c.args.sector c.args.bytes.now mid run m.0 (subst (λ a. IsInSync a c.args.k m.0) (sym rests.array) (record { member = m.1; in_sync = in_sync }))
    (λ same. let no = c.if-k-from.false in omega arith)

pub returns-in-Ok : goal.returns-in-Ok
returns-in-Ok g c =
    let e = c.in-Ok.ensures in
    let read = c.compare_member.ensures in
    let mid = c.compare_member.new.mirror in
    given_unlike c.args.k c.args.sector c.args.bytes.now c.args.mirror.now mid c.copy_data.new.self c.requires.sound read.rests (read.unlike c.if-compare_member.false)
    (gives_to c.args.k c.args.sector c.args.bytes.now mid c.copy_data.new.self read.sound e.gives e.event)

pub returns-in-Err-MemberFailed : goal.returns-in-Err-MemberFailed
returns-in-Err-MemberFailed g c =
    let at = c.in-Err-MemberFailed in
    let old = c.args.mirror.now in
    let read = c.compare_member.ensures in
    let mid = c.compare_member.new.mirror in
    let new = c.copy_data.new.self in
    let n = length c.args.bytes.now / 512 in
    let Among = IsAmong c.args.sector c.args.bytes.now in
    loses_then Among at.j old mid new (copies_read Among old mid read.rests c.requires.sound)
    (loses_copying c.args.k c.args.sector n mid new at.j (subst (RefusesCopy c.args.k c.args.sector n mid new) at.field-0-is at.ensures.gives)
    (subst (IfCopyingFailed (Happens mid (Event.WriteFails c.args.k (MemberPart.CopiedSectors c.args.sector n)) new)) at.field-0-is at.ensures.event) at.ensures.sound)

pub returns-in-Err-Halted : goal.returns-in-Err-Halted
returns-in-Err-Halted g c =
    let at = c.in-Err-Halted in
    let old = c.args.mirror.now in
    let read = c.compare_member.ensures in
    let mid = c.compare_member.new.mirror in
    let new = c.copy_data.new.self in
    let n = length c.args.bytes.now / 512 in
    let Among = IsAmong c.args.sector c.args.bytes.now in
    halts_then Among old mid new (copies_read Among old mid read.rests c.requires.sound)
    (halts_copying c.args.k c.args.sector n mid new read.sound (subst (RefusesCopy c.args.k c.args.sector n mid new) at.field-0-is at.ensures.gives) at.ensures.sound)
