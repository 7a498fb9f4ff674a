use Rattle.std.proofs.Common.{◌≡◌, ◌∙◌, ap, sym}
use Rattle.md_badblocks.specs.Runs.{entries_needed}
use Rattle.md_super.specs.declared.superblock.Superblock.{Superblock}
use Rattle.md_state.proofs.Members.At.{told}
use Rattle.md_cli.specs.Lacking.{usable_room}
use Rattle.md_cli.proofs.Lacked.{fits_more, lacks_room}
use Rattle.md_cli.proofs.lists.trial_list.has_room_with.Goals as goal

pub returns-clause-room : goal.returns-clause-room
returns-clause-room g c = λ fits m at.
    let a = c.args.mirror.now.array in
    let own = told (λ x. x.superblock) a c.args.k m c.own-own.result.now c.own-own.ensures at in
    let bad = told (λ x. x.bad) a c.args.k m c.bad.result.now c.bad.ensures at in
    let needed : c.entries_needed.result ≡ entries_needed c.in_ok-list.list = c.entries_needed.ensures in
    let room : c.usable_room.result ≡ usable_room m.superblock = c.usable_room.ensures ∙ ap usable_room (sym own) in
    fits_more m c.args.sectors.now c.in_ok-list.list c.entries_needed.result c.usable_room.result (c.in_ok-list.ensures m bad (ap (λ (b : Superblock). b.data_offset) own)) needed room fits

pub returns-clause-full : goal.returns-clause-full
returns-clause-full g c = λ short m at.
    let a = c.args.mirror.now.array in
    let own = told (λ x. x.superblock) a c.args.k m c.own-own.result.now c.own-own.ensures at in
    let bad = told (λ x. x.bad) a c.args.k m c.bad.result.now c.bad.ensures at in
    let needed : c.entries_needed.result ≡ entries_needed c.in_ok-list.list = c.entries_needed.ensures in
    let room : c.usable_room.result ≡ usable_room m.superblock = c.usable_room.ensures ∙ ap usable_room (sym own) in
    lacks_room m c.args.sectors.now c.in_ok-list.list c.entries_needed.result c.usable_room.result (c.in_ok-list.ensures m bad (ap (λ (b : Superblock). b.data_offset) own)) needed room short
