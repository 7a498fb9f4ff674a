-- What the members in sync hold of the content in the model's world, they hold on their devices; and wherever nothing is in flight and the array is
-- resynced, they hold some.
use Rattle.std.proofs.Common.{◌≡◌, ◌∙◌, ℕ, ◌+◌, ◌*◌, ◌<◌, inl, true, false, cond, ◌&&◌, [], slice_get, Some, sym, ap}
use Rattle.std.proofs.lemmas.Option.{slice_get_within}
use Rattle.md_device.specs.Splice.{part}
use Rattle.md_kept_members.specs.View.{MemberView}
use Rattle.md_model.specs.Content.{Content, Holds}
use Rattle.md_model.specs.Devices.{Stored}
use Rattle.md_model.specs.Sectors.{Geometry}
use Rattle.md_model.specs.Worlds as worlds
use Rattle.md_model.specs.Worlds.{IsQuiet, World}
use Rattle.md_model.proofs.Cases.{below-nat_lt}
use Rattle.md_model.proofs.Content.Picked.{picked, picked-one}
use Rattle.md_model.proofs.Steps.Tracked.{IsTracked}
use Rattle.md_state.specs.Steps.MakeClean.{IsIdle}
use Rattle.md_state.specs.Members.{IsInSync}
use Rattle.md_state.specs.View.{Disk, MirrorView, geometry_of}
use Rattle.md_array.specs.Steps.Enrol.{HoldsContent}
use Rattle.md_array.specs.Worlds.{is_listed, stored_of, world_of}
use Rattle.md_array.proofs.StepLemmas.MakeClean.{none_listed}
use Rattle.md_array.proofs.StepLemmas.OneMember.{stored_there}
use Rattle.md_array.proofs.Worlds.InSync.{in_sync_is, in_sync_there}
use Rattle.md_laws.specs.Runs.{Moment}
use Rattle.md_laws.proofs.Runs.Moments.{IsSoundAt}

module _ (t : Moment) where
  abbrev v : MirrorView
  v = t.mirror

  abbrev w : World
  w = world_of v t.requests

  -- what they hold in the world, on each sector that they do not list
  module _ (content : Content) (holds : (k s : ℕ) → s < v.array.chunks.size → worlds.IsInSync w k → (w.stored k).listed s ≡ false → (w.stored k).content s ≡ content s) where
    held_there : (k : ℕ) (d : Disk) (m : MemberView) → slice_get v.disks k ≡ Some d → IsInSync v.array k m → (s : ℕ) → s < v.array.chunks.size
        → is_listed m.superblock d.content (m.superblock.data_offset + s) ≡ false → part d.content (512 * (m.superblock.data_offset + s)) 512 ≡ content s
    held_there k d m at in_sync s low unlisted =
        let stored : w.stored k ≡ stored_of v.array m d.content = stored_there v.disks v.array k m d in_sync.member at in
        let inside = below-nat_lt s v.array.chunks.size low in
        let at_s = m.superblock.data_offset + s in
        let off : (w.stored k).listed s ≡ false = ap (λ (x : Stored). x.listed s) stored ∙ ap (λ b. b && is_listed m.superblock d.content at_s) inside ∙ unlisted in
        let bytes = part d.content (512 * at_s) 512 in
        sym (ap (λ b. cond b bytes []) inside) ∙ sym (ap (λ (x : Stored). x.content s) stored)
        ∙ holds k s low (in_sync_there v.disks v.array t.requests k m in_sync) off

    on_disks : HoldsContent v.disks v.array content
    on_disks = record { held = held_there }

  module _ (sound : IsSoundAt t) (idle : IsIdle v.array) (resynced : v.array.resynced ≡ true) where
    quiet : (s : ℕ) → IsQuiet w s
    quiet s n p flies = absurd (none_listed v.array.requests.entries n (record { start = p.start; sectors = p.sectors }) idle.none (sound.in_flight n p flies))

    pub has_content : (content : Content) → Holds (geometry_of v.array) content w → HoldsContent v.disks v.array content
    has_content content holds = on_disks content (λ k s low on off. holds.at_rest k s low on off (quiet s) (inl resynced))

    -- what one of them holds
    abbrev some : Content
    some s = picked w [] s w.members

    slot : (k : ℕ) → worlds.IsInSync w k → k < w.members
    slot k on = let m = in_sync_is v.disks v.array t.requests k on in slice_get_within v.array.members k m.0 m.1.member

    -- they agree
    pub some_content : (g : Geometry) → IsTracked g w → (content : Content) × HoldsContent v.disks v.array content
    some_content g tracked = (
      some,
      on_disks some
          (λ k s low on off. sym (picked-one w [] s w.members k (slot k on) on off (λ j in_ clear. tracked.quiet resynced j k s in_ on (quiet s) clear off))),
    )
