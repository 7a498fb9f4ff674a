use Rattle.std.proofs.Common.{◌≡◌, ◌*◌, List, map, ap, sym, subst, arith}
use Rattle.std.specs.List.{All}
use Rattle.md_bitmap.specs.declared.chunks.Chunks.{Chunks}
use Rattle.md_state.specs.DeviceChanges.{EachPair}
use Rattle.md_state.specs.View.{Disk, MirrorView, disk_of}
use Rattle.md_array.specs.Worlds as worlds
use Rattle.md_check.specs.declared.reader.Reader.{Reader}
use Rattle.md_check.specs.Differences.{AreCompared}
use Rattle.md_collect.specs.Found.{IsSized}
use Rattle.md_check.specs.Readings.{MissesIn}
use Rattle.md_check.specs.Readers.{HasDataOnDevice, ReaderShows, on_device}
use Rattle.md_check.specs.Told.{IsToldOfReader}
use Rattle.md_check.proofs.MemberReaders.{all_read_here, come_back, fails_checking, honest_readers, mismatches, mismatches_between, none_failed, rests_with, rooms, told_of_members, uses_in_sync}
use Rattle.md_check.proofs.check.lend_and_compare.Goals as goal

pub check_lent-answer-requires-clause-read_here : goal.check_lent-answer-requires-clause-read_here
check_lent-answer-requires-clause-read_here g c κs within =
    let readers = c.readers_of.new.readers.items in
    subst (λ (chunks : Chunks). All (HasDataOnDevice g.D.Device chunks) readers) (sym c.chunks-chunks.ensures)
    (all_read_here g.D.Device c.args.mirror.now c.requires.sound (512 * c.min.result) c.lend-devices.result.now.items c.in_ok-orders.orders.items readers c.lend-devices.ensures.devices c.in_ok-orders.ensures c.readers_of.ensures.len c.readers_of.ensures.readers)

pub check_lent-answer-requires-clause-room : goal.check_lent-answer-requires-clause-room
check_lent-answer-requires-clause-room g c κs within = λ k d below.
    let readers = c.readers_of.new.readers.items in
    let room = rooms g.D.Device c.args.mirror.now c.requires.sound (512 * c.min.result) c.lend-devices.result.now.items c.in_ok-orders.orders.items readers c.lend-devices.ensures.devices c.in_ok-orders.ensures c.readers_of.ensures.len c.readers_of.ensures.readers k d below in
    omega (arith, room, c.min.ensures)

pub check_lent-answer-requires-clause-sized : goal.check_lent-answer-requires-clause-sized
check_lent-answer-requires-clause-sized g c κs within = subst (λ (chunks : Chunks). IsSized chunks c.args.found.now) (sym c.chunks-chunks.ensures) c.requires.sized

pub returns-in-Ok-clause-gives : goal.returns-in-Ok-clause-gives
returns-in-Ok-clause-gives g c =
    let old = c.args.mirror.now in
    let readers = c.readers_of.new.readers.items in
    let news = c.check_lent-answer.new.readers.items in
    let after = map (disk_of g.D.Device) (map (λ (s : Reader _). s.device) news) in
    let now : MirrorView = record old { disks = map (disk_of g.D.Device) c.leave_readers.new.devices.items } in
    let is : now ≡ record old { disks = after } = ap (λ xs. record old { disks = map (disk_of g.D.Device) xs }) c.leave_readers.ensures in
    let none = none_failed g.D.Device old c.requires.sound (512 * c.min.result) c.lend-devices.result.now.items c.in_ok-orders.orders.items readers c.lend-devices.ensures.devices c.in_ok-orders.ensures c.readers_of.ensures.len c.readers_of.ensures.readers news c.in-Ok.ensures.read c.in-Ok.ensures.unfailing in
    let compared : worlds.AreHonest old.disks → AreCompared (ReaderShows (on_device g.D.Device) readers) old.array.chunks old.array.chunks.size c.check_lent-answer.new.found
    = λ honest. subst (λ (chunks : Chunks). AreCompared (ReaderShows (on_device g.D.Device) readers) chunks chunks.size c.check_lent-answer.new.found) c.chunks-chunks.ensures
    (c.in-Ok.ensures.compared
    (honest_readers g.D.Device old c.requires.sound (512 * c.min.result) c.lend-devices.result.now.items c.in_ok-orders.orders.items readers c.lend-devices.ensures.devices c.in_ok-orders.ensures c.readers_of.ensures.len c.readers_of.ensures.readers honest)) in
    record {
      kept = c.check_lent-answer.ensures.kept;
      rests = rests_with g.D.Device old c.requires.sound (512 * c.min.result) c.lend-devices.result.now.items c.in_ok-orders.orders.items readers c.lend-devices.ensures.devices c.in_ok-orders.ensures c.readers_of.ensures.len c.readers_of.ensures.readers news c.in-Ok.ensures.read
          now is;
      uses = uses_in_sync g.D.Device old c.requires.sound (512 * c.min.result) c.lend-devices.result.now.items c.in_ok-orders.orders.items readers c.lend-devices.ensures.devices c.in_ok-orders.ensures c.readers_of.ensures.len c.readers_of.ensures.readers news c.in-Ok.ensures.read
          now c.requires.two is;
      unfailing = subst (λ (disks : List Disk). EachPair (λ k d e. e.failures ≡ d.failures) old.disks disks) (sym (ap (λ (v : MirrorView). v.disks) is)) none;
      bits = λ honest.
          mismatches g.D.Device old c.requires.sound (512 * c.min.result) c.lend-devices.result.now.items c.in_ok-orders.orders.items readers c.lend-devices.ensures.devices c.in_ok-orders.ensures c.readers_of.ensures.len c.readers_of.ensures.readers c.check_lent-answer.new.found.chunks
          (compared honest).some;
      between = λ honest.
          mismatches_between g.D.Device old c.requires.sound (512 * c.min.result) c.lend-devices.result.now.items c.in_ok-orders.orders.items readers c.lend-devices.ensures.devices c.in_ok-orders.ensures c.readers_of.ensures.len c.readers_of.ensures.readers c.check_lent-answer.new.found
          (compared honest);
    }

pub returns-clause-gives : goal.returns-clause-gives
returns-clause-gives g c =
    let old = c.args.mirror.now in
    let readers = c.readers_of.new.readers.items in
    let news = c.check_lent-answer.new.readers.items in
    let after = map (disk_of g.D.Device) (map (λ (s : Reader _). s.device) news) in
    let now : MirrorView = record old { disks = map (disk_of g.D.Device) c.leave_readers.new.devices.items } in
    let is : now ≡ record old { disks = after } = ap (λ xs. record old { disks = map (disk_of g.D.Device) xs }) c.leave_readers.ensures in
    fails_checking g.D.Device old c.requires.sound (512 * c.min.result) c.lend-devices.result.now.items c.in_ok-orders.orders.items readers c.lend-devices.ensures.devices c.in_ok-orders.ensures c.readers_of.ensures.len c.readers_of.ensures.readers news c.in-Err.ensures.read
    now c.in-Err.missed c.requires.idle c.requires.two is
    (subst (λ (chunks : Chunks). MissesIn g.D.Device chunks readers news c.in-Err.missed) c.chunks-chunks.ensures c.in-Err.ensures.missed)

pub returns-in-Ok-clause-sound : goal.returns-in-Ok-clause-sound
returns-in-Ok-clause-sound g c =
    let old = c.args.mirror.now in
    let readers = c.readers_of.new.readers.items in
    let news = c.check_lent-answer.new.readers.items in
    let now : MirrorView = record old { disks = map (disk_of g.D.Device) c.leave_readers.new.devices.items } in
    c.lend-devices.ensures.sound now
    (come_back g.D.Device old c.requires.sound (512 * c.min.result) c.lend-devices.result.now.items c.in_ok-orders.orders.items readers c.lend-devices.ensures.devices c.in_ok-orders.ensures c.readers_of.ensures.len c.readers_of.ensures.readers
    news c.check_lent-answer.ensures.read now (ap (λ xs. record old { disks = map (disk_of g.D.Device) xs }) c.leave_readers.ensures))

pub returns-clause-sound : goal.returns-clause-sound
returns-clause-sound g c =
    let old = c.args.mirror.now in
    let readers = c.readers_of.new.readers.items in
    let news = c.check_lent-answer.new.readers.items in
    let now : MirrorView = record old { disks = map (disk_of g.D.Device) c.leave_readers.new.devices.items } in
    c.lend-devices.ensures.sound now
    (come_back g.D.Device old c.requires.sound (512 * c.min.result) c.lend-devices.result.now.items c.in_ok-orders.orders.items readers c.lend-devices.ensures.devices c.in_ok-orders.ensures c.readers_of.ensures.len c.readers_of.ensures.readers
    news c.check_lent-answer.ensures.read now (ap (λ xs. record old { disks = map (disk_of g.D.Device) xs }) c.leave_readers.ensures))

pub returns-in-Ok-clause-told : goal.returns-in-Ok-clause-told
returns-in-Ok-clause-told g c =
    let readers = c.readers_of.new.readers.items in
    told_of_members g.D.Device c.args.mirror.now c.requires.sound (512 * c.min.result) c.lend-devices.result.now.items c.in_ok-orders.orders.items readers c.lend-devices.ensures.devices c.in_ok-orders.ensures c.readers_of.ensures.len c.readers_of.ensures.readers
    g.G.Gate c.args.gate.now
    (subst (λ (chunks : Chunks). All (λ (s : Reader _). IsToldOfReader g.G.Gate c.args.gate.now chunks 0 chunks.size s) readers) c.chunks-chunks.ensures c.in-Ok.ensures.told)
