use Rattle.std.proofs.Common.{◌≡◌, ◌++◌, ◌∷◌, [], Some, sym, true, rules}
use Rattle.std.specs.Prelude.{is_some}
use Rattle.md_state.specs.View.{disk_of}
use Rattle.md_words.specs.Asks.{ask_of, device_to_add}
use Rattle.md_cli.proofs.Joined.{last_of, one_more}
use Rattle.md_cli.proofs.open.opened.take_beside.Goals as goal

pub returns-in-Some-pop-clause-as_many : goal.returns-in-Some-pop-clause-as_many
returns-in-Some-pop-clause-as_many g c =
    let are : c.args.devices.now.items ≡ c.pop.new.self.items ++ c.in-Some-pop.device ∷ [] = c.in-Some-pop.ensures.items in
    sym (one_more g.D.Device c.args.devices.now.items c.pop.new.self.items c.in-Some-pop.device are)

pub returns-in-Some-pop-clause-takes : goal.returns-in-Some-pop-clause-takes
returns-in-Some-pop-clause-takes g c =
    let device = c.in-Some-pop.device in
    let are : c.args.devices.now.items ≡ c.pop.new.self.items ++ device ∷ [] = c.in-Some-pop.ensures.items in
    let brings : true ≡ is_some (device_to_add (ask_of c.args.command)) = search rules in
    record {
      device = Some (disk_of g.D.Device device);
      are = last_of g.D.Device c.args.devices.now.items c.pop.new.self.items device are;
      brings = brings;
      looks = c.note_held.ensures;
    }
