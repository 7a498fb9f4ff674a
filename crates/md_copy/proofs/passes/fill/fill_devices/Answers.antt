use Rattle.std.proofs.Common.{◌≡◌, ◌∙◌, List, MatchResult, ap, get_or, refl, remove, slice_get, slice_index_or, subst, sym}
use Rattle.std.proofs.lemmas.Option.{slice_get-get_or}
use Rattle.md_assembly.proofs.Indices.{got_within}
use Rattle.md_bitmap.specs.declared.chunks.Chunks.{Chunks}
use Rattle.md_collect.specs.Collecting.{ArePlanned}
use Rattle.md_collect.specs.Places.{HasRoom}
use Rattle.md_kept_members.specs.View.{MemberView}
use Rattle.md_pass.specs.Beside.{KeepsBeside}
use Rattle.md_pass.specs.Copied.{BreaksOff, EndsPass, pass_state}
use Rattle.md_pass.specs.Sources.{MayRead, copy_of}
use Rattle.md_state.specs.View.{Disk, MirrorView, disk_of, of_disks}
use Rattle.md_super.specs.declared.superblock.Superblock.{Superblock}
use Rattle.md_copy.proofs.TableLemmas.Observed.{field_of}
use Rattle.md_copy.proofs.Fills.Carried.{may_read_of, seen}
use Rattle.md_copy.proofs.Fills.Filled.{passed}
use Rattle.md_copy.proofs.Fills.LentBack.{are_planned, back, within}
use Rattle.md_copy.proofs.Plans.Lists.{mapped_at}
use Rattle.md_copy.proofs.Plans.SourcesChosen.{has_room}
use Rattle.md_copy.proofs.passes.fill.fill_devices.Goals as goal

pub copy_beside-requires-clause-planned : goal.copy_beside-requires-clause-planned
copy_beside-requires-clause-planned g c κs bounds =
    let v = c.args.mirror.now in
    let at = got_within v.array.members c.args.target c.requires.within in
    let olds = c.lend-devices.result.now.items in
    subst (λ (x : Chunks). ArePlanned x c.args.plan.now.slots) (sym c.chunks.ensures)
    (are_planned g.D.Device v c.requires.sound c.args.target c.requires.within at.0 at.1 (c.requires.target at.0 at.1) c.args.plan.now (c.requires.planned at.0 at.1) olds olds (sym c.lend-devices.ensures.devices) refl)

pub copy_beside-requires-clause-sources : goal.copy_beside-requires-clause-sources
copy_beside-requires-clause-sources g c κs bounds =
    let slots = c.args.plan.now.slots in
    let sources = c.args.sources.now in
    may_read_of g.D.Device c.chunks.result slots sources c.lend-devices.result.now.items c.args.target
    (subst (λ (x : Chunks). MayRead of_disks x slots sources (remove (seen g.D.Device c.lend-devices.result.now.items) c.args.target)) (sym c.chunks.ensures)
    (subst (λ (xs : List Disk). MayRead of_disks c.args.mirror.now.array.chunks slots sources (remove xs c.args.target)) (sym c.lend-devices.ensures.devices) c.requires.sources.may_read))

pub copy_beside-requires-clause-room : goal.copy_beside-requires-clause-room
copy_beside-requires-clause-room g c κs bounds d =
    let v = c.args.mirror.now in
    let olds = c.lend-devices.result.now.items in
    let v_is : v.disks ≡ seen g.D.Device olds = sym c.lend-devices.ensures.devices in
    let at = got_within v.array.members c.args.target c.requires.within in
    let low = within g.D.Device v c.requires.sound c.args.target c.requires.within at.0 at.1 (c.requires.target at.0 at.1) c.args.plan.now (c.requires.planned at.0 at.1) olds olds v_is refl in
    let own = field_of (λ (m : MemberView). m.superblock) _ at.0 _ at.1 c.own.ensures in
    let there = ap (λ (xs : List Disk). slice_get xs c.args.target) v_is ∙ mapped_at (disk_of g.D.Device) olds c.args.target (get_or olds c.args.target d) (slice_get-get_or olds c.args.target d low) in
    let room = has_room v c.requires.sound c.args.target at.0 (disk_of g.D.Device (get_or olds c.args.target d)) at.1 there in
    subst (λ (x : Chunks). HasRoom (g.D.Device.content (get_or olds c.args.target d)) c.own.result.now.data_offset x) (sym c.chunks.ensures)
    (subst (λ (b : Superblock). HasRoom (g.D.Device.content (get_or olds c.args.target d)) b.data_offset v.array.chunks) own room)

pub returns-clause-gives : goal.returns-clause-gives
returns-clause-gives g c m at =
    let v = c.args.mirror.now in
    let slots = c.args.plan.now.slots in
    let sources = c.args.sources.now in
    let olds = c.lend-devices.result.now.items in
    let news = c.copy_beside.new.devices.items in
    let target = c.args.target in
    let before = c.args.copied.now in
    let after = c.copy_beside.new.copied in
    let own = field_of (λ (m : MemberView). m.superblock) _ m _ at c.own.ensures in
    let keeps = λ (d : g.row.D.Denot). subst (λ (b : Superblock). KeepsBeside g.D.Device (copy_of slots v.array.chunks b.data_offset) (slice_index_or olds target d) (slice_index_or news target d)) (sym own)
    (subst (λ (x : Chunks). KeepsBeside g.D.Device (copy_of slots x c.own.result.now.data_offset) (slice_index_or olds target d) (slice_index_or news target d)) c.chunks.ensures (c.copy_beside.ensures.target d)) in
    passed g.D.Device v c.requires.sound target c.requires.within m at (c.requires.target m at) c.args.plan.now (c.requires.planned m at) olds news (sym c.lend-devices.ensures.devices) c.copy_beside.ensures.as_many
    c.copy_beside.ensures.others keeps (record v { disks = seen g.D.Device news }) refl refl
    sources c.requires.sources before after c.copy_beside.result
    (λ d. subst (λ (b : Superblock). MatchResult c.copy_beside.result
    (EndsPass g.D.Device (copy_of slots v.array.chunks b.data_offset) sources (pass_state (remove olds target) (slice_index_or olds target d) before) (pass_state (remove news target) (slice_index_or news target d) after))
    (BreaksOff g.D.Device (pass_state (remove olds target) (slice_index_or olds target d) before) (pass_state (remove news target) (slice_index_or news target d) after))) (sym own)
    (subst (λ (x : Chunks). MatchResult c.copy_beside.result
    (EndsPass g.D.Device (copy_of slots x c.own.result.now.data_offset) sources (pass_state (remove olds target) (slice_index_or olds target d) before) (pass_state (remove news target) (slice_index_or news target d) after))
    (BreaksOff g.D.Device (pass_state (remove olds target) (slice_index_or olds target d) before) (pass_state (remove news target) (slice_index_or news target d) after))) c.chunks.ensures
    (c.copy_beside.ensures.gives d)))

-- each device is back in its place
pub returns-clause-sound : goal.returns-clause-sound
returns-clause-sound g c =
    let v = c.args.mirror.now in
    let slots = c.args.plan.now.slots in
    let olds = c.lend-devices.result.now.items in
    let news = c.copy_beside.new.devices.items in
    let target = c.args.target in
    let at = got_within v.array.members target c.requires.within in
    let own = field_of (λ (m : MemberView). m.superblock) _ at.0 _ at.1 c.own.ensures in
    let keeps = λ (d : g.row.D.Denot). subst (λ (b : Superblock). KeepsBeside g.D.Device (copy_of slots v.array.chunks b.data_offset) (slice_index_or olds target d) (slice_index_or news target d)) (sym own)
    (subst (λ (x : Chunks). KeepsBeside g.D.Device (copy_of slots x c.own.result.now.data_offset) (slice_index_or olds target d) (slice_index_or news target d)) c.chunks.ensures (c.copy_beside.ensures.target d)) in
    let after : MirrorView = record v { disks = seen g.D.Device news } in
    c.lend-devices.ensures.sound after
    (back g.D.Device v c.requires.sound target c.requires.within at.0 at.1 (c.requires.target at.0 at.1) c.args.plan.now (c.requires.planned at.0 at.1) olds news (sym c.lend-devices.ensures.devices) c.copy_beside.ensures.as_many
    c.copy_beside.ensures.others keeps after refl refl)
