-- A member that is alone in sync, of whose device other bytes were left than an opening read there: it is found alone in sync, and holds what it
-- held, where the list that is read is silent and the one that was read was.
use Rattle.std.proofs.Common.{◌≡◌, ◌∙◌, ◌⊎◌, ℕ, ◌<◌, Bool, true, false, List, Some, sym, ap}
use Rattle.md_kept_members.specs.View.{MemberView}
use Rattle.md_model.specs.Assembly.{IsFound}
use Rattle.md_model.specs.Content.{Content, Holds, HoldsAtRest}
use Rattle.md_model.specs.Devices.{Covered, Stored}
use Rattle.md_model.specs.Openings.{IsWithinLimits}
use Rattle.md_model.specs.Sectors.{Geometry, chunk_of}
use Rattle.md_model.specs.Crashes as crashes
use Rattle.md_model.specs.Worlds as worlds
use Rattle.md_model.specs.Worlds.{IsQuiet, World}
use Rattle.md_model.proofs.Steps.Keeps.{IsKept}
use Rattle.md_state.specs.Members.{IsInSync}
use Rattle.md_state.specs.View.{ArrayView, Disk, MirrorView, geometry_of}
use Rattle.md_array.specs.Worlds.{none_in_flight, super_of, world_of}
use Rattle.md_array.proofs.Worlds.InSync.{in_sync_is}
use Rattle.md_laws.specs.Left.{contents_of}
use Rattle.md_laws.specs.Lives.{AreFoundAgain}
use Rattle.md_laws.specs.Runs.{Moment, history_of}
use Rattle.md_laws.proofs.Runs.Moments.{IsSoundAt}
use Rattle.md_laws.proofs.Crashes.LeftContents.{read_in}
use Rattle.md_call_laws.specs.Crashes.TornWrites.{BeginsAfter, IsOpenedAfter, halted_over}
use Rattle.md_call_laws.proofs.CrashLemmas.AfterHalt as after

module _ (t : Moment) (k : ℕ) (only : (j : ℕ) (m : MemberView) → IsInSync t.mirror.array j m → j ≡ k) (left disks : List Disk) (same_contents : contents_of disks ≡ contents_of left)
    (sound_torn : IsSoundAt (halted_over t disks))
    (supers : (j : ℕ) → (read_in t.mirror.array disks j).super ≡ ((world_of t.mirror t.requests).stored j).super)
    (contents : (j s : ℕ) → (read_in t.mirror.array disks j).content s ≡ ((world_of t.mirror t.requests).stored j).content s) where
  abbrev a : ArrayView
  a = t.mirror.array

  abbrev g : Geometry
  g = geometry_of t.mirror.array

  abbrev stored : ℕ → Stored
  stored = (world_of t.mirror t.requests).stored

  abbrev torn : ℕ → Stored
  torn = read_in a disks

  -- ---- an opening of them
  module _ (opened : MirrorView) (small : IsWithinLimits g) (kept : IsKept g (super_of opened.array.shared) (history_of t)) (next : MirrorView) (again : IsOpenedAfter opened t left next) where
    abbrev of_torn : IsOpenedAfter opened t disks next
    of_torn = after.over_same t left disks same_contents opened next again

    abbrev devices : AreFoundAgain (halted_over t disks) of_torn.found
    devices = of_torn.devices

    abbrev made : ℕ → Stored
    made = after.made t disks sound_torn opened small kept supers next of_torn

    abbrev now : World
    now = (history_of t).now

    abbrev Found : ℕ → Type 0
    Found = IsFound g made (super_of next.array.shared)

    in_then : (i : ℕ) → Found i → worlds.IsInSync now i
    in_then = after.was_so t disks sound_torn opened small kept supers next of_torn

    -- there is no other one
    it : (i : ℕ) → Found i → i ≡ k
    it i f = let x = in_sync_is t.mirror.disks a t.requests i (in_then i f) in only i x.0 x.1

    covered : Covered g made Found
    covered i j n s below f_i f_j f_n off _ _ = ap (λ (x : ℕ). (made x).content s) (it j f_j ∙ sym (it n f_n))

    pub begins_after : BeginsAfter opened t left next again
    begins_after = record {
      start = after.start t disks sound_torn opened small kept supers next of_torn covered;
      among = after.among t disks sound_torn opened small kept supers next of_torn;
    }

    -- ---- the content
    module _ (b : Content) (held : HoldsAtRest g b now) (Known : ℕ → Type 0)
        (free : (p s : ℕ) → Known s → worlds.IsInSync now p → (torn p).listed s ≡ false → (stored p).listed s ≡ false) where
      content : Content
      content = after.held t disks sound_torn opened small kept supers next of_torn covered b

      halves : (i p : ℕ) → devices.at i ≡ Some p → crashes.IsHalfOpened g (torn i) (made i)
      halves = after.half t disks sound_torn opened small kept supers next of_torn

      at_rest : (s : ℕ) → s < g.size → Known s → IsQuiet now s → (a.resynced ≡ true) ⊎ (now.marks (chunk_of g s) ≡ false) → content s ≡ b s
      unfolding content
      at_rest s below known quiet when =
          after.stays t disks sound_torn opened small kept supers next of_torn covered b s
          (λ n p in_n is unlisted.
          let f = after.found_there t disks sound_torn opened small kept supers next of_torn n p is in_n in
          let half = halves p n (devices.found n p is) in
          let read = sym (ap (λ (x : ℕ → Bool). x s) half.listed) ∙ sym (after.listed_at t disks sound_torn opened small kept supers next of_torn n p s below in_n is) ∙ unlisted in
          ap (λ (x : ℕ → List ℕ). x s) half.content ∙ contents p s ∙ held p s below (in_then p f) (free p s known (in_then p f) read) quiet when)
          below

      pub content_after : (c : Content) × Holds (geometry_of next.array) c (world_of next none_in_flight)
          × ((s : ℕ) → s < g.size → Known s → IsQuiet now s → (a.resynced ≡ true) ⊎ (now.marks (chunk_of g s) ≡ false) → c s ≡ b s)
      unfolding content
      content_after = (content, after.holds t disks sound_torn opened small kept supers next of_torn covered b, at_rest)
