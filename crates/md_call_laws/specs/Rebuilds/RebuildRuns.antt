-- A rebuild in the life of a mirror is a run.
use Rattle.std.specs.Prelude.{◌≡◌, ℕ, false, List, None}
use Rattle.md_kept_members.specs.View.{MemberView}
use Rattle.md_model.specs.Content.{Content, Holds}
use Rattle.md_model.specs.Events.{Event}
use Rattle.md_state.specs.Members.{IsMember}
use Rattle.md_state.specs.Requests.{AreInFlight}
use Rattle.md_state.specs.View.{ArrayView, Disk, MirrorView, geometry_of}
use Rattle.md_array.specs.InTurn.{AllLeftWhole, AllOf}
use Rattle.md_array.specs.Worlds.{none_in_flight, world_of}
use Rattle.md_laws.specs.Lives.{MirrorLifeWith}
use Rattle.md_laws.specs.Runs.{IsStart, MirrorRunWith, Moment}
use Rattle.md_metadata.specs.Going.{GoesOn, only_others}
use Rattle.md_metadata.specs.Storing.{IsStoring}
use Rattle.md_copy.specs.declared.rebuilt.Rebuilt.{Rebuilt}
use Rattle.md_copy.specs.RebuildEvents.{IsOfRebuild}
use Rattle.md_copy.specs.Rebuilding.{Rebuilds}
use Rattle.md_call_laws.specs.Rebuilds.RebuiltInLife.{HeldWhatItHad}

-- A statement holds at each moment of each life, with the content that the life has there.
abbrev pub AtMomentsWith : (Moment → Content → Type 0) → Type 0
AtMomentsWith Holds_at =
    (before : List Disk) (m : MirrorView) (a : Content) → IsStart before m → Holds (geometry_of m.array) a (world_of m none_in_flight)
    → (es : List Event) (rest : List (List Event)) (final : MirrorView) (t : Moment) (b : Content) → MirrorLifeWith m a es rest final t b → Holds_at t b

-- The log that member k's own fields name is in units of one sector.
abbrev pub HasNoShift : ℕ → ArrayView → Type 0
HasNoShift k a = (m : MemberView) → IsMember a k m → m.superblock.bblog_shift ≡ 0

-- The log of member k has no shift, and an opening may misread the member only if it is spoiled.
pub record IsReadableAt (k : ℕ) (t : Moment) : Type 0 where
  pub no_shift : HasNoShift k t.mirror.array
  pub reads : t.spoiled k ≡ false → t.misread k ≡ false

-- Whoever is readable at the one moment is so at the other.
abbrev pub StaysReadable : Moment → Moment → Type 0
StaysReadable t last = (k : ℕ) → IsReadableAt k t → IsReadableAt k last

-- Events of a kind lead from a moment to this mirror, and the content stays what it is.
pub record RunsTo (Of : Event → Type 0) (t : Moment) (content : Content) (new : MirrorView) : Type 0 where
  pub events : List Event
  pub steps : AllOf Of events
  pub at : Moment
  pub run : MirrorRunWith t content events at content
  pub there : at.mirror ≡ new
  pub readable : StaysReadable t at

-- From any moment on a rebuild that is done is a run, up to the mirror in which its target is in sync. So the life goes on with it, and with
-- the content that it had. Of the target it is asked that it held that where it lacked nothing.
abbrev pub RebuildIsARun : Type 0
RebuildIsARun =
    AtMomentsWith (λ t content.
    ((target : ℕ) (told : Rebuilt) (new : MirrorView) (h : Rebuilds target told t.mirror new)
    → HeldWhatItHad target content t.mirror → RunsTo (IsOfRebuild target) t content h.rebuilds.by.enrolled))

-- The rebuild is a run to the end of the call, too, where what is due then is stored: by these events, of
-- which each write of a superblock that failed left the old superblock, the new one or none.
abbrev pub RebuildRunsOn : Type 0
RebuildRunsOn =
    AtMomentsWith (λ t content.
    ((target : ℕ) (told : Rebuilt) (new : MirrorView) (h : Rebuilds target told t.mirror new)
    → HeldWhatItHad target content t.mirror
    → (records_stored : MirrorView) (g : GoesOn only_others only_others IsStoring h.rebuilds.by.enrolled records_stored) (in_flight : AreInFlight h.rebuilds.by.enrolled.array t.requests)
    → AllLeftWhole g.events None h.rebuilds.by.enrolled t.requests (λ m r. (m ≡ records_stored) × (r ≡ t.requests)) (g.leads None t.requests in_flight)
    → RunsTo (IsOfRebuild target) t content records_stored))
