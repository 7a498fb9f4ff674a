-- What a crash leaves within the copy of a run of sectors.
use Rattle.std.specs.Prelude.{◌≡◌, ℕ, List, [], ◌∷◌, map, Option}
use Rattle.md_model.specs.Events.{Event}
use Rattle.md_state.specs.Steps.CopyData.{CopiesTo}
use Rattle.md_state.specs.Requests.{AreInFlight}
use Rattle.md_state.specs.View.{MirrorView}
use Rattle.md_array.specs.Consistency.{IsConsistent}
use Rattle.md_array.specs.InTurn.{Leads, Requests}
use Rattle.md_array.specs.Worlds.{AreHonest}
use Rattle.md_laws.specs.CrashesWithin.{MayAllBeLeft}

-- the events of these sectors
abbrev pub copies_at : ℕ → ℕ → List ℕ → List Event
copies_at from k [] = []
copies_at from k (s ∷ ss) = Event.Copy from k s ∷ copies_at from k ss

-- A mirror of which some of the sectors were copied, by events, has this on its devices.
pub record IsCopiedInPart (k : ℕ) (old : MirrorView) (left : List (List ℕ)) : Type 0 where
  pub from : ℕ
  pub sectors : List ℕ
  pub mid : MirrorView
  pub leads : (previous : Option Event) (requests : Requests) → AreInFlight old.array requests → Leads previous old requests (copies_at from k sectors) mid requests
  pub contents : map (λ d. d.content) mid.disks ≡ left

-- What a crash leaves within a copy stands on the devices after a copy of some of its sectors: it is what a crash between two events
-- leaves, of another list.
abbrev pub CrashesAtCopies : Type 0
CrashesAtCopies =
    (k sector : ℕ) (bytes : List ℕ) (old new : MirrorView) (left : List (List ℕ)) → IsConsistent old → AreHonest old.disks
    → CopiesTo k sector bytes old new → MayAllBeLeft old.disks new.disks left → IsCopiedInPart k old left
