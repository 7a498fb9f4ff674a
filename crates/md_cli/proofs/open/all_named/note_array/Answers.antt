use Rattle.std.proofs.Common.{map, option_map, subst}
use Rattle.md_state.specs.View.{disk_of}
use Rattle.md_messages.specs.Holding.{NotesHeldOnJoining}
use Rattle.md_messages.specs.declared.notices.Notices.{Notices}
use Rattle.md_cli.proofs.open.all_named.note_array.Goals as goal

pub returns-in-Ok-open : goal.returns-in-Ok-open
returns-in-Ok-open g c =
    let d = disk_of g.D.Device in
    let taken = c.take_beside-beside in
    record {
      given = _;
      gets = c.in-Ok.ensures.gives;
      members = map d taken.new.devices.items;
      device = taken.ensures.takes.device;
      seen = option_map d taken.result;
      held = taken.new.notices;
      are = taken.ensures.takes.are;
      brings = taken.ensures.takes.brings;
      looks = subst (λ (old : Notices). NotesHeldOnJoining taken.ensures.takes.device (option_map d taken.result) old taken.new.notices) c.none-notices.ensures taken.ensures.takes.looks;
      opened = c.in-Ok-open.mirror;
      opens = c.in-Ok-open.ensures.gives;
      noted = c.note.new.self;
      notes = c.note.ensures;
      forgotten = c.forget_stored.ensures;
    }

pub returns-in-Err-open : goal.returns-in-Err-open
returns-in-Err-open g c =
    let taken = c.take_beside-beside in
    record {
      given = _;
      gets = c.in-Ok.ensures.gives;
      members = map (disk_of g.D.Device) taken.new.devices.items;
      device = taken.ensures.takes.device;
      are = taken.ensures.takes.are;
      brings = taken.ensures.takes.brings;
      left = _;
      refused = c.in-Err-open.ensures.gives;
    }
