use Rattle.std.proofs.lemmas.Result.{err_from_is_err_and}
use Rattle.md_assembly.proofs.Indices.{got_within}
use Rattle.md_kept_members.proofs.SectorSets.{bad_in}
use Rattle.md_copy.proofs.Ready.Readied.{unspent_so}
use Rattle.md_copy.proofs.SalvageLemmas.EnrolsLost.{comes_without, listed_chunks, listed_may, listed_ready, listing_fails, listing_leaves, looking_fails, looking_leaves, without_leaves}
use Rattle.md_copy.proofs.salvaging.losing.enrol_without.Goals as goal

pub look_for_room-requires-clause-missing : goal.look_for_room-requires-clause-missing
look_for_room-requires-clause-missing g c =
    (let it = got_within c.args.mirror.now.array.members c.args.target c.requires.within in (c.requires.missing it.0 it.1).chunks)

pub look_for_room-requires-clause-sound : goal.look_for_room-requires-clause-sound
look_for_room-requires-clause-sound g c = c.requires.ready.sound

pub returns-in_err-look_for_room-clause-gives : goal.returns-in_err-look_for_room-clause-gives
returns-in_err-look_for_room-clause-gives g c =
    let p = err_from_is_err_and c.from_residual.result c.from_residual.ensures.1 in
    rw (p.1, p.2) (looking_fails c.args.target c.args.missing.now c.args.lost.now c.args.mirror.now c.in_err-look_for_room.field-0.0 c.in_err-look_for_room.ensures)

pub returns-in_err-look_for_room-clause-leaves : goal.returns-in_err-look_for_room-clause-leaves
returns-in_err-look_for_room-clause-leaves g c =
    let p = err_from_is_err_and c.from_residual.result c.from_residual.ensures.1 in
    rw (p.1, p.2) (looking_leaves c.args.target c.args.missing.now c.args.copied.now c.args.lost.now c.args.mirror.now c.requires.ready c.requires.held c.in_err-look_for_room.field-0.0 c.in_err-look_for_room.ensures)

pub list_lost-requires-clause-unspent : goal.list_lost-requires-clause-unspent
list_lost-requires-clause-unspent g c = unspent_so c.args.mirror.now.array c.requires.ready.goes

pub list_lost-requires-clause-sectors : goal.list_lost-requires-clause-sectors
list_lost-requires-clause-sectors g c s is =
    (let it = got_within c.args.mirror.now.array.members c.args.target c.requires.within in (c.requires.lacked it.0 it.1 s (bad_in c.args.lost.now s is)).inside)

pub returns-in_err-list_lost-clause-gives : goal.returns-in_err-list_lost-clause-gives
returns-in_err-list_lost-clause-gives g c =
    let p = err_from_is_err_and c.from_residual-in_err-list_lost.result c.from_residual-in_err-list_lost.ensures.1 in
    let v = c.args.mirror.now in
    let it = got_within v.array.members c.args.target c.requires.within in
    rw (p.1, p.2) (listing_fails c.args.target c.args.missing.now c.args.lost.now v c.list_lost.new.mirror c.requires.ready it.0 it.1 (c.requires.lacked it.0 it.1) (c.requires.missing it.0 it.1) c.requires.filled
    c.in_ok-look_for_room.ensures c.in_err-list_lost.field-0.0 c.in_err-list_lost.ensures.gives)

pub returns-in_err-list_lost-clause-leaves : goal.returns-in_err-list_lost-clause-leaves
returns-in_err-list_lost-clause-leaves g c =
    let p = err_from_is_err_and c.from_residual-in_err-list_lost.result c.from_residual-in_err-list_lost.ensures.1 in
    let v = c.args.mirror.now in
    let it = got_within v.array.members c.args.target c.requires.within in
    rw (p.1, p.2) (listing_leaves c.args.target c.args.missing.now c.args.lost.now v c.list_lost.new.mirror c.requires.ready it.0 it.1 (c.requires.lacked it.0 it.1) (c.requires.missing it.0 it.1) c.requires.filled
    c.args.copied.now c.requires.held c.requires.apart c.in_err-list_lost.field-0.0 c.in_err-list_lost.ensures.gives)

pub enrol_target-requires-clause-running : goal.enrol_target-requires-clause-running
enrol_target-requires-clause-running g c = (listed_ready c.args.target c.args.lost.now c.args.mirror.now c.list_lost.new.mirror c.in_ok-list_lost.ensures.gives c.requires.ready).goes.idle.running

pub enrol_target-requires-clause-unspent : goal.enrol_target-requires-clause-unspent
enrol_target-requires-clause-unspent g c = unspent_so c.list_lost.new.mirror.array (listed_ready c.args.target c.args.lost.now c.args.mirror.now c.list_lost.new.mirror c.in_ok-list_lost.ensures.gives c.requires.ready).goes

pub enrol_target-requires-clause-chunks : goal.enrol_target-requires-clause-chunks
enrol_target-requires-clause-chunks g c =
    let v = c.args.mirror.now in
    let it = got_within v.array.members c.args.target c.requires.within in
    listed_chunks c.args.target c.args.missing.now c.args.lost.now v c.list_lost.new.mirror c.requires.ready it.0 it.1 (c.requires.lacked it.0 it.1) (c.requires.missing it.0 it.1) c.requires.filled c.in_ok-list_lost.ensures.gives

pub enrol_target-requires-clause-may : goal.enrol_target-requires-clause-may
enrol_target-requires-clause-may g c =
    let v = c.args.mirror.now in
    let it = got_within v.array.members c.args.target c.requires.within in
    listed_may c.args.target c.args.missing.now c.args.lost.now v c.list_lost.new.mirror c.requires.ready it.0 it.1 (c.requires.lacked it.0 it.1) (c.requires.missing it.0 it.1) c.requires.filled c.in_ok-list_lost.ensures.gives

pub returns-clause-gives : goal.returns-clause-gives
returns-clause-gives g c =
    let v = c.args.mirror.now in
    let it = got_within v.array.members c.args.target c.requires.within in
    comes_without c.args.target c.args.missing.now c.args.lost.now v c.list_lost.new.mirror c.requires.ready it.0 it.1 (c.requires.lacked it.0 it.1) (c.requires.missing it.0 it.1) c.requires.filled c.in_ok-list_lost.ensures.gives
    c.in_ok-look_for_room.ensures.own c.enrol_target.new.mirror c.enrol_target.result c.enrol_target.ensures.gives

pub returns-clause-leaves : goal.returns-clause-leaves
returns-clause-leaves g c =
    let v = c.args.mirror.now in
    let it = got_within v.array.members c.args.target c.requires.within in
    without_leaves c.args.target c.args.missing.now c.args.lost.now v c.list_lost.new.mirror c.requires.ready it.0 it.1 (c.requires.lacked it.0 it.1) (c.requires.missing it.0 it.1) c.requires.filled
    c.args.copied.now c.requires.held c.requires.apart c.in_ok-list_lost.ensures.gives c.enrol_target.new.mirror c.enrol_target.result c.enrol_target.ensures.gives
