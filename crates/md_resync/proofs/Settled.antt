-- Where it is kept that the array is resynced, its content becomes what the members in sync hold.
use Rattle.std.proofs.Common.{◌≡◌, ℕ, ◌/◌, ◌<◌, true, false, ◌&&◌, nat_lt, ◌⊎◌, inl, inr, refl, sym, ap, ◌∙◌, subst}
use Rattle.std.proofs.lemmas.Option.{slice_get_within}
use Rattle.std.proofs.Math.Bool.{and-false}
use Rattle.md_model.specs.Content.{Content, HoldsAtRest, HoldsBetween, HoldsInFlight}
use Rattle.md_model.specs.Events.{Event, Step}
use Rattle.md_model.specs.Sectors.{Geometry, chunk_of}
use Rattle.md_model.specs.Worlds.{IsInSync, IsQuiet, World}
use Rattle.md_model.proofs.Cases.{by_test, none_some}
use Rattle.md_model.proofs.Content.Picked.{picked, picked-all, picked-one}
use Rattle.md_state.specs.View.{MirrorView, geometry_of}
use Rattle.md_array.specs.Events.{Happens}
use Rattle.md_array.specs.Worlds.{world_of}
use Rattle.md_array.proofs.Worlds.InSync.{in_sync_is}
use Rattle.md_resync.specs.Resyncing.{AgreeUnstored, ResyncsContent}

-- where it is the same
record IsSettledAs (g : Geometry) (w w' : World) (a b : Content) : Type 0 where
  holds : HoldsBetween g b w'
  unmarked : (s : ℕ) → s < g.size → w.marks (chunk_of g s) ≡ false → b s ≡ a s
  same : w.resynced ≡ true → (s : ℕ) → s < g.size → b s ≡ a s

module _ (g : Geometry) (w w' : World) (step : Step g w Event.Resynced w') (written : HoldsInFlight w → HoldsInFlight w') (slot : (k : ℕ) → IsInSync w k → k < w.members) (a : Content) (t : HoldsBetween g a w) (unstored : AgreeUnstored g w) where
  quiet : (s : ℕ) → IsQuiet w s
  quiet s n p e = absurd (none_some p (sym (step.1.0.idle n) ∙ e))

  agree : (s : ℕ) → s < g.size → (j k : ℕ) → IsInSync w j → IsInSync w k → (w.stored j).listed s ≡ false → (w.stored k).listed s ≡ false → (w.stored j).content s ≡ (w.stored k).content s
  agree s low j k one other free free_too = by_test (w.marks (chunk_of g s))
      (λ on. by_test (w.bad j s)
      (λ noted. unstored j k s low one other noted (quiet s) free free_too)
      (λ served. by_test (w.bad k s)
      (λ noted. sym (unstored k j s low other one noted (quiet s) free_too free))
      (λ served_too. step.1.0.agree j k s one other on served served_too free free_too)))
      (λ off. t.at_rest j s low one free (quiet s) (inr off) ∙ sym (t.at_rest k s low other free_too (quiet s) (inr off)))

  settled : Content
  settled s = picked w (a s) s w.members

  as_before : (s : ℕ) → ((k : ℕ) → IsInSync w k → (w.stored k).listed s ≡ false → (w.stored k).content s ≡ a s) → settled s ≡ a s
  unfolding settled
  as_before s = picked-all w (a s) s (λ c. c ≡ a s) w.members refl

  settles_world : IsSettledAs g w w' a settled
  unfolding settled
  settles_world = record {
    holds = record {
      at_rest = subst (λ (x : World). HoldsAtRest g settled x) (sym step.1.1)
          (λ k s low on clear _ _. sym (picked-one w (a s) s w.members k (slot k on) on clear (λ j in_ clear_j. agree s low j k in_ on clear_j clear)));
      in_flight = written t.in_flight;
    };
    unmarked = λ s low off. as_before s (λ k on clear. t.at_rest k s low on clear (quiet s) (inr off));
    same = λ r s low. as_before s (λ k on clear. t.at_rest k s low on clear (quiet s) (inl r));
  }

-- a resynced array holds its content there too
agreed_unstored : (g : Geometry) (w : World) (a : Content) → HoldsBetween g a w → (w.resynced ≡ true) ⊎ AgreeUnstored g w → AgreeUnstored g w
agreed_unstored g w a holds (inl resynced) = λ j k s low one other _ at_rest free free_too.
    holds.at_rest j s low one free at_rest (inl resynced) ∙ sym (holds.at_rest k s low other free_too at_rest (inl resynced))
agreed_unstored g w a holds (inr agreed) = agreed

pub settles : (old new : MirrorView) → Happens old Event.Resynced new → ResyncsContent old new
settles old new happens honest requests in_flight a holds agreed =
    let does = happens honest requests in_flight in
    let w = world_of old requests in
    let slot : (k : ℕ) → IsInSync w k → k < w.members = λ k on. let m = in_sync_is old.disks old.array requests k on in slice_get_within old.array.members k m.0 m.1.member in
    let unstored = agreed_unstored (geometry_of old.array) w a holds agreed in
    let is = settles_world (geometry_of old.array) w (world_of new requests) does.step does.written slot a holds unstored in (
      settled (geometry_of old.array) w (world_of new requests) does.step does.written slot a holds unstored,
      is.holds,
      λ s low off. is.unmarked s low (ap (λ x. nat_lt (s / old.array.chunks.sectors) old.array.marks.chunks && x) off ∙ and-false (nat_lt (s / old.array.chunks.sectors) old.array.marks.chunks)),
      is.same,
    )
