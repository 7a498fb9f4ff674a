use Rattle.std.proofs.Common.{◌≡◌, ◌∙◌, ◌+◌, ◌≤◌, Bool, Err, Ok, true, ap, arith, inl, inr, length, map, option_map, refl, subst, sym}
use Rattle.std.specs.Prelude.{vec_capacity}
use Rattle.std.proofs.lemmas.List.{length-map}
use Rattle.md_state.specs.View.{disk_of}
use Rattle.md_words.specs.Asks.{array_ask}
use Rattle.md_messages.specs.Noticed.{with_dropped}
use Rattle.md_messages.specs.Telling.{texts}
use Rattle.md_messages.specs.Question.{question}
use Rattle.md_cli.specs.Opened.{count, moves_device, opened_view}
use Rattle.md_cli.specs.Streams.{streams_of}
use Rattle.md_cli.proofs.Ended.{all_kept_then, lacking_as_many, opened_as_many, performs_then_asked}
use Rattle.md_cli.proofs.Performed.{as_many_back, as_many_left, refused_back, room_back, room_left, shown_back, there_same, within_back, within_left}
use Rattle.md_cli.proofs.open.devices.open_devices.Goals as goal

pub let_go-requires-clause-room : goal.let_go-requires-clause-room
let_go-requires-clause-room g c =
    let d = g.D.Device in
    let ask = array_ask c.args.command in
    let names = texts c.args.names.now in
    let lacking = c.args.session.now.lacking.now in
    let taken = c.take_beside-beside in
    let new = c.perform_and_store-done.new.opened in
    let mirror = c.in-Ok-open_lacking.mirror in
    let many : length mirror.disks ≡ length taken.new.devices.items = opened_as_many _ c.args.session.now.lacking.now (map (disk_of d) taken.new.devices.items) mirror c.in-Ok-open_lacking.ensures.gives ∙ length-map taken.new.devices.items (disk_of d) in
    let performs = performs_then_asked g.R.Source g.S.Sink names lacking (record { mirror = mirror; beside = option_map (disk_of d) taken.result }) (opened_view d new) (streams_of c.args.session.now) (streams_of c.perform_and_store-done.new.session) c.goes_on.new.asker c.perform_and_store-done.result ask c.perform_and_store-done.ensures.performs in
    let back = all_kept_then g.R.Source g.S.Sink names lacking (record { mirror = mirror; beside = option_map (disk_of d) taken.result }) (opened_view d new) (streams_of c.args.session.now) (streams_of c.perform_and_store-done.new.session) ask c.perform_and_store-done.result (there_same (disk_of d) taken.result ∙ taken.ensures.brings) performs in
    let enough : moves_device ask ≡ true → length taken.new.devices.items + count taken.result ≤ vec_capacity c.in-Ok.list = λ moves. omega (arith, c.in-Ok.ensures.room moves, c.len.ensures, taken.ensures.as_many) in
    room_left d ask taken.new.devices.items taken.result new.beside mirror.disks new.mirror.disks many back _ enough

pub let_go-requires-clause-within : goal.let_go-requires-clause-within
let_go-requires-clause-within g c =
    let d = g.D.Device in
    let ask = array_ask c.args.command in
    let names = texts c.args.names.now in
    let lacking = c.args.session.now.lacking.now in
    let taken = c.take_beside-beside in
    let new = c.perform_and_store-done.new.opened in
    let mirror = c.in-Ok-open_lacking.mirror in
    let many : length mirror.disks ≡ length taken.new.devices.items = opened_as_many _ c.args.session.now.lacking.now (map (disk_of d) taken.new.devices.items) mirror c.in-Ok-open_lacking.ensures.gives ∙ length-map taken.new.devices.items (disk_of d) in
    let performs = performs_then_asked g.R.Source g.S.Sink names lacking (record { mirror = mirror; beside = option_map (disk_of d) taken.result }) (opened_view d new) (streams_of c.args.session.now) (streams_of c.perform_and_store-done.new.session) c.goes_on.new.asker c.perform_and_store-done.result ask c.perform_and_store-done.ensures.performs in
    let back = all_kept_then g.R.Source g.S.Sink names lacking (record { mirror = mirror; beside = option_map (disk_of d) taken.result }) (opened_view d new) (streams_of c.args.session.now) (streams_of c.perform_and_store-done.new.session) ask c.perform_and_store-done.result (there_same (disk_of d) taken.result ∙ taken.ensures.brings) performs in
    within_left d ask taken.new.devices.items taken.result new.beside mirror.disks new.mirror.disks many back

pub returns-in-Ok-goes_on-clause-as_many : goal.returns-in-Ok-goes_on-clause-as_many
returns-in-Ok-goes_on-clause-as_many g c =
    let d = g.D.Device in
    let ask = array_ask c.args.command in
    let names = texts c.args.names.now in
    let lacking = c.args.session.now.lacking.now in
    let taken = c.take_beside-beside in
    let new = c.perform_and_store-done.new.opened in
    let mirror = c.in-Ok-open_lacking.mirror in
    let many : length mirror.disks ≡ length taken.new.devices.items = opened_as_many _ c.args.session.now.lacking.now (map (disk_of d) taken.new.devices.items) mirror c.in-Ok-open_lacking.ensures.gives ∙ length-map taken.new.devices.items (disk_of d) in
    let performs = performs_then_asked g.R.Source g.S.Sink names lacking (record { mirror = mirror; beside = option_map (disk_of d) taken.result }) (opened_view d new) (streams_of c.args.session.now) (streams_of c.perform_and_store-done.new.session) c.goes_on.new.asker c.perform_and_store-done.result ask c.perform_and_store-done.ensures.performs in
    let back = all_kept_then g.R.Source g.S.Sink names lacking (record { mirror = mirror; beside = option_map (disk_of d) taken.result }) (opened_view d new) (streams_of c.args.session.now) (streams_of c.perform_and_store-done.new.session) ask c.perform_and_store-done.result (there_same (disk_of d) taken.result ∙ taken.ensures.brings) performs in
    as_many_left d ask taken.new.devices.items taken.result new.beside mirror.disks new.mirror.disks many back c.let_go.result.items c.let_go.ensures.all ∙ taken.ensures.as_many

pub returns-in-Ok-goes_on-clause-gives : goal.returns-in-Ok-goes_on-clause-gives
returns-in-Ok-goes_on-clause-gives g c =
    let d = g.D.Device in
    let ask = array_ask c.args.command in
    let names = texts c.args.names.now in
    let lacking = c.args.session.now.lacking.now in
    let taken = c.take_beside-beside in
    let new = c.perform_and_store-done.new.opened in
    let mirror = c.in-Ok-open_lacking.mirror in
    let many : length mirror.disks ≡ length taken.new.devices.items = opened_as_many _ c.args.session.now.lacking.now (map (disk_of d) taken.new.devices.items) mirror c.in-Ok-open_lacking.ensures.gives ∙ length-map taken.new.devices.items (disk_of d) in
    let performs = performs_then_asked g.R.Source g.S.Sink names lacking (record { mirror = mirror; beside = option_map (disk_of d) taken.result }) (opened_view d new) (streams_of c.args.session.now) (streams_of c.perform_and_store-done.new.session) c.goes_on.new.asker c.perform_and_store-done.result ask c.perform_and_store-done.ensures.performs in
    let back = all_kept_then g.R.Source g.S.Sink names lacking (record { mirror = mirror; beside = option_map (disk_of d) taken.result }) (opened_view d new) (streams_of c.args.session.now) (streams_of c.perform_and_store-done.new.session) ask c.perform_and_store-done.result (there_same (disk_of d) taken.result ∙ taken.ensures.brings) performs in
    inl (record {
      members = map (disk_of d) taken.new.devices.items;
      device = taken.ensures.takes.device;
      seen = option_map (disk_of d) taken.result;
      noted = taken.new.notices;
      are = taken.ensures.takes.are;
      brings = taken.ensures.takes.brings;
      looks = taken.ensures.takes.looks;
      done = inl (record {
        opened = mirror;
        opens = c.in-Ok-open_lacking.ensures.gives;
        first = c.note.new.self;
        noted = c.note.ensures;
        left = opened_view d new;
        performs = inl (
          c.in-Ok-goes_on.ensures.0,
          inl (record {
            agreed = subst (λ asker. question g.A.Asker ask names c.note.new.self c.args.session.now.asker asker (Ok tt)) (sym c.perform_and_store-done.ensures.unasked) c.in-Ok-goes_on.ensures.1;
            performs = performs;
            noted = c.perform_and_store-done.ensures.noted;
            counted = c.perform_and_store-done.ensures.counted;
          }),
        );
        dropped = c.let_go.ensures.dropped ∙ ap (λ (left : Bool). with_dropped ask new.mirror.array left c.note.new.self) (sym (there_same (disk_of d) new.beside));
        devices = c.let_go.ensures.all;
      });
    })

-- the command is declined, or refused for a map
pub let_go-requires-in-Err-goes_on-clause-room : goal.let_go-requires-in-Err-goes_on-clause-room
let_go-requires-in-Err-goes_on-clause-room g c =
    let d = g.D.Device in
    let ask = array_ask c.args.command in
    let names = texts c.args.names.now in
    let lacking = c.args.session.now.lacking.now in
    let taken = c.take_beside-beside in
    let mirror = c.in-Ok-open_lacking.mirror in
    let many : length mirror.disks ≡ length taken.new.devices.items = opened_as_many _ c.args.session.now.lacking.now (map (disk_of d) taken.new.devices.items) mirror c.in-Ok-open_lacking.ensures.gives ∙ length-map taken.new.devices.items (disk_of d) in
    let back = refused_back ask mirror.disks mirror.disks (option_map (disk_of d) taken.result) (there_same (disk_of d) taken.result ∙ taken.ensures.brings) refl in
    let enough : moves_device ask ≡ true → length taken.new.devices.items + count taken.result ≤ vec_capacity c.in-Ok.list = λ moves. omega (arith, c.in-Ok.ensures.room moves, c.len.ensures, taken.ensures.as_many) in
    room_left d ask taken.new.devices.items taken.result taken.result mirror.disks mirror.disks many back _ enough

pub let_go-requires-in-Err-goes_on-clause-within : goal.let_go-requires-in-Err-goes_on-clause-within
let_go-requires-in-Err-goes_on-clause-within g c =
    let d = g.D.Device in
    let ask = array_ask c.args.command in
    let names = texts c.args.names.now in
    let lacking = c.args.session.now.lacking.now in
    let taken = c.take_beside-beside in
    let mirror = c.in-Ok-open_lacking.mirror in
    let many : length mirror.disks ≡ length taken.new.devices.items = opened_as_many _ c.args.session.now.lacking.now (map (disk_of d) taken.new.devices.items) mirror c.in-Ok-open_lacking.ensures.gives ∙ length-map taken.new.devices.items (disk_of d) in
    let back = refused_back ask mirror.disks mirror.disks (option_map (disk_of d) taken.result) (there_same (disk_of d) taken.result ∙ taken.ensures.brings) refl in
    within_left d ask taken.new.devices.items taken.result taken.result mirror.disks mirror.disks many back

pub returns-in-Err-goes_on-clause-as_many : goal.returns-in-Err-goes_on-clause-as_many
returns-in-Err-goes_on-clause-as_many g c =
    let d = g.D.Device in
    let ask = array_ask c.args.command in
    let names = texts c.args.names.now in
    let lacking = c.args.session.now.lacking.now in
    let taken = c.take_beside-beside in
    let mirror = c.in-Ok-open_lacking.mirror in
    let many : length mirror.disks ≡ length taken.new.devices.items = opened_as_many _ c.args.session.now.lacking.now (map (disk_of d) taken.new.devices.items) mirror c.in-Ok-open_lacking.ensures.gives ∙ length-map taken.new.devices.items (disk_of d) in
    let back = refused_back ask mirror.disks mirror.disks (option_map (disk_of d) taken.result) (there_same (disk_of d) taken.result ∙ taken.ensures.brings) refl in
    as_many_left d ask taken.new.devices.items taken.result taken.result mirror.disks mirror.disks many back c.let_go-in-Err-goes_on.result.items c.let_go-in-Err-goes_on.ensures.all ∙ taken.ensures.as_many

pub returns-in-Err-goes_on-clause-gives : goal.returns-in-Err-goes_on-clause-gives
returns-in-Err-goes_on-clause-gives g c =
    let d = g.D.Device in
    let ask = array_ask c.args.command in
    let names = texts c.args.names.now in
    let lacking = c.args.session.now.lacking.now in
    let taken = c.take_beside-beside in
    let mirror = c.in-Ok-open_lacking.mirror in
    let many : length mirror.disks ≡ length taken.new.devices.items = opened_as_many _ c.args.session.now.lacking.now (map (disk_of d) taken.new.devices.items) mirror c.in-Ok-open_lacking.ensures.gives ∙ length-map taken.new.devices.items (disk_of d) in
    let back = refused_back ask mirror.disks mirror.disks (option_map (disk_of d) taken.result) (there_same (disk_of d) taken.result ∙ taken.ensures.brings) refl in
    inl (record {
      members = map (disk_of d) taken.new.devices.items;
      device = taken.ensures.takes.device;
      seen = option_map (disk_of d) taken.result;
      noted = taken.new.notices;
      are = taken.ensures.takes.are;
      brings = taken.ensures.takes.brings;
      looks = taken.ensures.takes.looks;
      done = inl (record {
        opened = mirror;
        opens = c.in-Ok-open_lacking.ensures.gives;
        first = c.note.new.self;
        noted = c.note.ensures;
        left = record { mirror = mirror; beside = option_map (disk_of d) taken.result };
        performs = elim c.in-Err-goes_on.ensures [
          | inl asked ↦ inl (asked.0, inr (record { why = c.in-Err-goes_on.fault; is = refl; declined = asked.1; same = refl; unused = refl }))
          | inr refused ↦ inr (record { lacks = refused.0; is = ap Err refused.1; same = refl; unasked = refused.2; unused = refl })
        ];
        dropped = c.let_go-in-Err-goes_on.ensures.dropped ∙ ap (λ (left : Bool). with_dropped ask mirror.array left c.note.new.self) (sym (there_same (disk_of d) taken.result));
        devices = c.let_go-in-Err-goes_on.ensures.all;
      });
    })

-- the members make no array
pub all_back-devices-requires-clause-room : goal.all_back-devices-requires-clause-room
all_back-devices-requires-clause-room g c =
    let d = g.D.Device in
    let ask = array_ask c.args.command in
    let names = texts c.args.names.now in
    let lacking = c.args.session.now.lacking.now in
    let taken = c.take_beside-beside in
    let before = map (disk_of d) taken.new.devices.items in
    let after = map (disk_of d) c.in-Err.members.items in
    let many = length-map taken.new.devices.items (disk_of d) in
    let back = refused_back ask before after (option_map (disk_of d) taken.result) (there_same (disk_of d) taken.result ∙ taken.ensures.brings) (lacking_as_many lacking before after c.in-Err.fault c.in-Err.ensures.gives) in
    let enough : moves_device ask ≡ true → length taken.new.devices.items + count taken.result ≤ vec_capacity c.in-Ok.list = λ moves. omega (arith, c.in-Ok.ensures.room moves, c.len.ensures, taken.ensures.as_many) in
    room_back d ask taken.new.devices.items c.in-Err.members.items taken.result taken.result before after many refl back _ enough

pub all_back-devices-requires-clause-within : goal.all_back-devices-requires-clause-within
all_back-devices-requires-clause-within g c =
    let d = g.D.Device in
    let ask = array_ask c.args.command in
    let names = texts c.args.names.now in
    let lacking = c.args.session.now.lacking.now in
    let taken = c.take_beside-beside in
    let before = map (disk_of d) taken.new.devices.items in
    let after = map (disk_of d) c.in-Err.members.items in
    let many = length-map taken.new.devices.items (disk_of d) in
    let back = refused_back ask before after (option_map (disk_of d) taken.result) (there_same (disk_of d) taken.result ∙ taken.ensures.brings) (lacking_as_many lacking before after c.in-Err.fault c.in-Err.ensures.gives) in
    within_back d ask taken.new.devices.items c.in-Err.members.items taken.result taken.result before after many refl back

pub returns-in-Err-clause-as_many : goal.returns-in-Err-clause-as_many
returns-in-Err-clause-as_many g c =
    let d = g.D.Device in
    let ask = array_ask c.args.command in
    let names = texts c.args.names.now in
    let lacking = c.args.session.now.lacking.now in
    let taken = c.take_beside-beside in
    let before = map (disk_of d) taken.new.devices.items in
    let after = map (disk_of d) c.in-Err.members.items in
    let many = length-map taken.new.devices.items (disk_of d) in
    let back = refused_back ask before after (option_map (disk_of d) taken.result) (there_same (disk_of d) taken.result ∙ taken.ensures.brings) (lacking_as_many lacking before after c.in-Err.fault c.in-Err.ensures.gives) in
    as_many_back d ask taken.new.devices.items c.in-Err.members.items taken.result taken.result before after many refl back c.all_back-devices.result.items c.all_back-devices.ensures ∙ taken.ensures.as_many

pub returns-in-Err-clause-gives : goal.returns-in-Err-clause-gives
returns-in-Err-clause-gives g c =
    let d = g.D.Device in
    let ask = array_ask c.args.command in
    let names = texts c.args.names.now in
    let lacking = c.args.session.now.lacking.now in
    let taken = c.take_beside-beside in
    let before = map (disk_of d) taken.new.devices.items in
    let after = map (disk_of d) c.in-Err.members.items in
    let many = length-map taken.new.devices.items (disk_of d) in
    let back = refused_back ask before after (option_map (disk_of d) taken.result) (there_same (disk_of d) taken.result ∙ taken.ensures.brings) (lacking_as_many lacking before after c.in-Err.fault c.in-Err.ensures.gives) in
    inl (record {
      members = map (disk_of d) taken.new.devices.items;
      device = taken.ensures.takes.device;
      seen = option_map (disk_of d) taken.result;
      noted = taken.new.notices;
      are = taken.ensures.takes.are;
      brings = taken.ensures.takes.brings;
      looks = taken.ensures.takes.looks;
      done = inr (record {
        left = after;
        refused = record { fault = c.in-Err.fault; is = refl; refused = c.in-Err.ensures.gives; unused = refl };
        devices = shown_back d ask taken.new.devices.items c.in-Err.members.items taken.result taken.result before after many refl back c.all_back-devices.result.items c.all_back-devices.ensures;
      });
    })
