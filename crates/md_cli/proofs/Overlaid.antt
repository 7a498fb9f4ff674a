-- Overlays over devices, as contracts see devices.
use Rattle.std.proofs.Common.{◌≡◌, List, [], ◌∷◌, length, map, refl, ap}
use Rattle.md_device.specs.declared.device.Device.{Ghosts}
use Rattle.md_device.specs.Overlay.{Overlay}
use Rattle.md_state.specs.View.{Disk, disk_of}
use Rattle.md_images.specs.Overlays.{overlay_over}
use Rattle.md_images.specs.Seen.{View}
use Rattle.md_cli.specs.Arrays.{overlaid}
use Rattle.md_read_commands.specs.Fronted.{in_memory}

-- an overlay over a device that is looked at, as contracts of `Device` see it
abbrev pub overlay_ghosts : {D : Type 0} → Ghosts D → Ghosts (Overlay (View D))
overlay_ghosts g = record { content = λ o. o.content; honest = λ o. g.honest o.inner.device; faults = λ o. o.faults; failures = λ o. length o.faults; crashes = λ _. [] }

-- overlays over devices are their disks, overlaid
pub shown_over : {D : Type 0} (g : Ghosts D) (ds : List D) → map (disk_of (overlay_ghosts g)) (map (overlay_over g.content) ds) ≡ map overlaid (map (disk_of g) ds)
shown_over g [] = refl
shown_over g (d ∷ ds) = ap (λ xs. overlaid (disk_of g d) ∷ xs) (shown_over g ds)

-- of these no crash leaves anything already
pub kept_in_memory : (ds : List Disk) → map in_memory (map overlaid ds) ≡ map overlaid ds
kept_in_memory [] = refl
kept_in_memory (d ∷ ds) = ap (λ xs. overlaid d ∷ xs) (kept_in_memory ds)
