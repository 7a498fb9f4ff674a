-- One of several devices is taken out of a list, and another put in its place.
use Rattle.std.proofs.Common.{◌≡◌, ◌∙◌, ℕ, suc, ◌*◌, ◌+◌, ◌<◌, ◌≤◌, ◌++◌, ◌∷◌, List, drop, get_or, inl, inr, length, map, option_map, take, ap, ap₂, arith, refl, subst, sym}
use Rattle.std.specs.List.{insert, remove}
use Rattle.std.proofs.lemmas.List.{drop-map, length-map, map-append, take-map}
use Rattle.std.proofs.lemmas.Option.{slice_get-map, slice_get_read}
use Rattle.md_device.specs.declared.device.Device.{Ghosts}
use Rattle.md_state.specs.View.{Disk, MirrorView, disk_of}
use Rattle.md_array.specs.Open.Opened.{IsOpenedFrom}
use Rattle.md_read_commands.specs.Fronted.{fronted_disk, in_memory}
use Rattle.md_read_commands.specs.StandIn.{IsFreeNumber, StandsIn}
use Rattle.md_read_commands.specs.declared.stand_in.fronted.FrontedDevice.{FrontedDevice}
use Rattle.md_read_commands.specs.declared.stand_in.put.StandIn.{StandIn}
use Rattle.md_cli.specs.InMemory.{MakesNoArray, PutsStandIn, RefusesCounted, refusal_of}
use Rattle.md_refusals.specs.declared.data_of_fault.DataOfFault.{DataOfFault}
use Rattle.md_refusals.specs.declared.data_of_fault.DataOfFault.TheVariants as data_of
use Rattle.md_refusals.specs.declared.fault.CommandFault.{CommandFault}

pub map-remove : {X Y : Type 0} (f : X → Y) (xs : List X) (i : ℕ) → map f (remove xs i) ≡ remove (map f xs) i
map-remove f xs i =
    map-append f (take i xs) (drop (suc i) xs) ∙ ap₂ (λ a b. a ++ b) (sym (take-map f i xs)) (sym (drop-map f (suc i) xs))

pub map-insert : {X Y : Type 0} (f : X → Y) (xs : List X) (i : ℕ) (y : X) → map f (insert xs i y) ≡ insert (map f xs) i (f y)
map-insert f xs i y =
    map-append f (take i xs) (y ∷ drop i xs) ∙ ap₂ (λ a b. a ++ f y ∷ b) (sym (take-map f i xs)) (sym (drop-map f i xs))

module _ {D : Type 0} (g : Ghosts D) (items rest : List D) (others : List (FrontedDevice D)) (opened : MirrorView) where
  pub stood_in : (wanted : StandIn) (lost : D) (kept : FrontedDevice D) (all : List (FrontedDevice D))
      → wanted.index < length items → lost ≡ get_or items wanted.index lost → rest ≡ remove items wanted.index
      → IsOpenedFrom (map in_memory (map (disk_of g) rest)) opened → map (fronted_disk g) others ≡ opened.disks
      → IsFreeNumber opened.array wanted.number → StandsIn wanted (512 * opened.array.chunks.sectors) opened.array.shared (disk_of g lost) (fronted_disk g kept)
      → all ≡ insert others wanted.index kept → PutsStandIn wanted (map in_memory (map (disk_of g) items)) (map (fronted_disk g) all)
  stood_in wanted lost kept all below is left opens back free stands put = record {
    lost = disk_of g lost;
    at = slice_get-map in_memory (map (disk_of g) items) wanted.index
        ∙ ap (option_map in_memory) (slice_get-map (disk_of g) items wanted.index ∙ ap (option_map (disk_of g)) (slice_get_read items (length items) wanted.index lost refl below is));
    opened = opened;
    opens = subst (λ (before : List Disk). IsOpenedFrom before opened) (ap (λ (xs : List D). map in_memory (map (disk_of g) xs)) left ∙ ap (map in_memory) (map-remove (disk_of g) items wanted.index) ∙ map-remove in_memory (map (disk_of g) items) wanted.index) opens;
    free = free;
    kept = fronted_disk g kept;
    stands = stands;
    is = ap (map (fronted_disk g)) put ∙ map-insert (fronted_disk g) others wanted.index kept ∙ ap (λ (ds : List Disk). insert ds wanted.index (fronted_disk g kept)) back;
  }

-- a device of this index is there, and is refused
module _ {D : Type 0} (g : Ghosts D) (items : List D) (wanted : StandIn) (why : CommandFault) (below : wanted.index < length items) where
  pub refused : (fault : DataOfFault) → why ≡ refusal_of fault → RefusesCounted wanted (map in_memory (map (disk_of g) items)) why
  refused fault is = record {
    fault = fault;
    is = is;
    past = λ past. absurd (omega (arith, below, past, length-map items (disk_of g), length-map (map (disk_of g) items) in_memory));
  }

  pub refused_beside : MakesNoArray why → RefusesCounted wanted (map in_memory (map (disk_of g) items)) why
  refused_beside (inl none) = refused data_of.NoMemory none
  refused_beside (inr none) = refused data_of.NoArrayBeside none
