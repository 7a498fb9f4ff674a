use Rattle.std.proofs.Common.{◌≡◌, ◌∙◌, ◌<◌, ◌≤◌, ℕ, Bool, ap, length, map, subst, sym}
use Rattle.std.specs.Prelude.{vec_capacity}
use Rattle.std.proofs.lemmas.List.{length-map}
use Rattle.md_state.specs.View.{disk_of}
use Rattle.md_words.specs.Asks.{array_ask}
use Rattle.md_messages.specs.Noticed.{with_dropped}
use Rattle.md_cli.specs.Opened.{beside_place}
use Rattle.md_cli.proofs.Performed.{shown_beside}
use Rattle.md_cli.proofs.open.devices.let_go.Goals as goal

pub all_back-requires-clause-room : goal.all_back-requires-clause-room
all_back-requires-clause-room g c = λ there.
    let long : length c.into_devices-members.result.items ≡ length c.args.opened.mirror.disks = sym (length-map c.into_devices-members.result.items (disk_of g.D.Device)) ∙ ap length c.into_devices-members.ensures in
    subst (λ (n : ℕ). n < vec_capacity c.args.list) (sym long) (c.requires.room there)

pub all_back-requires-clause-within : goal.all_back-requires-clause-within
all_back-requires-clause-within g c = λ there.
    let long : length c.into_devices-members.result.items ≡ length c.args.opened.mirror.disks = sym (length-map c.into_devices-members.result.items (disk_of g.D.Device)) ∙ ap length c.into_devices-members.ensures in
    subst (λ (n : ℕ). beside_place (array_ask c.args.command) n ≤ n) (sym long) (c.requires.within there)

pub returns-clause-dropped : goal.returns-clause-dropped
returns-clause-dropped g c = c.note_dropped.ensures ∙ ap (λ (left : Bool). with_dropped (array_ask c.args.command) c.args.opened.mirror.array left c.args.notices.now) c.is_some.ensures

pub returns-clause-all : goal.returns-clause-all
returns-clause-all g c =
    ap (map (disk_of g.D.Device)) c.all_back.ensures ∙ shown_beside g.D.Device (array_ask c.args.command) c.into_devices-members.result.items c.args.opened.beside c.args.opened.mirror.disks c.into_devices-members.ensures
