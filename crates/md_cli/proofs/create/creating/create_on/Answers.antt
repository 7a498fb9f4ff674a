use Rattle.std.proofs.Common.{◌≡◌, ◌∙◌, Bool, List, codes, length, map, true, ap, sym, subst, refl, inl, inr}
use Rattle.std.proofs.lemmas.List.{length-map}
use Rattle.md_state.specs.View.{disk_of}
use Rattle.md_messages.specs.Holding.{NotesHeldOnEach, held_each}
use Rattle.md_messages.specs.Telling.{texts}
use Rattle.md_cli.specs.Creating.{AreNewMembers, LaysOutOn, created_shown}
use Rattle.clap.specs.Words.{Text}
use Rattle.md_commands.specs.Objects.{summary_shown}
use Rattle.md_images.specs.Taking.{image_list, names_of, word_of}
use Rattle.md_cli.proofs.Created.{room, seen_room, when_ok}
use Rattle.md_cli.proofs.create.creating.create_on.Goals as goal

pub lay_out_on-requires-clause-room : goal.lay_out_on-requires-clause-room
lay_out_on-requires-clause-room g c =
    let disk = disk_of g.D.Device in
    let names = texts c.args.names.now in
    let before = map disk c.args.devices.items in
    let seen = map disk c.note_held_on_each.new.devices.items in
    let many = length-map c.args.devices.items disk ∙ c.requires.as_many ∙ sym (length-map c.args.words.now word_of) ∙ ap length c.requires.words in
    let new : AreNewMembers c.args.params.now names before c.in-Ok.members.items = subst (λ ds. AreNewMembers c.args.params.now names (map disk ds) c.in-Ok.members.items) c.as_slice.ensures.value c.in-Ok.ensures.members in
    let looks = when_ok c.note_held_on_each.result c.is_err.result (NotesHeldOnEach before seen c.args.notices.now c.note_held_on_each.new.self) c.is_err.ensures.value c.if-is_err.false c.note_held_on_each.ensures.looks in
    seen_room before seen (held_each c.note_held_on_each.new.self.each) looks.looks (room c.args.params.now names before c.in-Ok.members.items many new)

pub returns-in-Ok-ask_first-clause-gives : goal.returns-in-Ok-ask_first-clause-gives
returns-in-Ok-ask_first-clause-gives g c =
    let disk = disk_of g.D.Device in
    let names = texts c.args.names.now in
    let before = map disk c.args.devices.items in
    let seen = map disk c.note_held_on_each.new.devices.items in
    let after = map disk c.lay_out_on.result.0.items in
    let new : AreNewMembers c.args.params.now names before c.in-Ok.members.items = subst (λ ds. AreNewMembers c.args.params.now names (map disk ds) c.in-Ok.members.items) c.as_slice.ensures.value c.in-Ok.ensures.members in
    let looks = when_ok c.note_held_on_each.result c.is_err.result (NotesHeldOnEach before seen c.args.notices.now c.note_held_on_each.new.self) c.is_err.ensures.value c.if-is_err.false c.note_held_on_each.ensures.looks in
    let named : texts c.as_slice-images.result.now ≡ names_of (image_list true names) = ap texts c.as_slice-images.ensures.value ∙ c.in-Ok-shown_names.ensures ∙ ap names_of c.requires.words in
    let shown = λ (images : List Text). summary_shown (codes "create") c.is_json-json.result images in
    let laid = λ (h : LaysOutOn g.S.Sink (shown (texts c.as_slice-images.result.now)) (map word_of c.args.words.now) c.as_slice-members.result.now seen after c.args.session.now.out c.lay_out_on.new.out c.lay_out_on.result.1).
    subst (λ (json : Bool). LaysOutOn g.S.Sink (created_shown json names) (image_list true names) c.in-Ok.members.items seen after c.args.session.now.out c.lay_out_on.new.out c.lay_out_on.result.1) c.is_json-json.ensures
    (subst (λ (images : List Text). LaysOutOn g.S.Sink (shown images) (image_list true names) c.in-Ok.members.items seen after c.args.session.now.out c.lay_out_on.new.out c.lay_out_on.result.1) named
    (subst (λ list. LaysOutOn g.S.Sink (shown (texts c.as_slice-images.result.now)) list c.in-Ok.members.items seen after c.args.session.now.out c.lay_out_on.new.out c.lay_out_on.result.1) c.requires.words
    (subst (λ members. LaysOutOn g.S.Sink (shown (texts c.as_slice-images.result.now)) (map word_of c.args.words.now) members seen after c.args.session.now.out c.lay_out_on.new.out c.lay_out_on.result.1) c.as_slice-members.ensures.value h))) in
    inr (record {
      members = c.in-Ok.members.items;
      made = new;
      seen = seen;
      looks = looks;
      rest = refl;
      done = inl (record {
        agreed = c.in-Ok-ask_first.ensures;
        lays_out = laid c.lay_out_on.ensures.gives;
      });
    })

pub returns-clause-gives : goal.returns-clause-gives
returns-clause-gives g c =
    let disk = disk_of g.D.Device in
    let names = texts c.args.names.now in
    let before = map disk c.args.devices.items in
    let seen = map disk c.note_held_on_each.new.devices.items in
    let new : AreNewMembers c.args.params.now names before c.in-Ok.members.items = subst (λ ds. AreNewMembers c.args.params.now names (map disk ds) c.in-Ok.members.items) c.as_slice.ensures.value c.in-Ok.ensures.members in
    let looks = when_ok c.note_held_on_each.result c.is_err.result (NotesHeldOnEach before seen c.args.notices.now c.note_held_on_each.new.self) c.is_err.ensures.value c.if-is_err.false c.note_held_on_each.ensures.looks in
    inr (record {
      members = c.in-Ok.members.items;
      made = new;
      seen = seen;
      looks = looks;
      rest = refl;
      done = inr (record {
        why = c.in-Err-ask_first.fault;
        is = refl;
        declined = c.in-Err-ask_first.ensures;
        same = refl;
        unused = refl;
      });
    })
