-- By the events of a resync, of recovering members and then of those in sync, each sector of a marked chunk stays on its source, and each other on every member.
use Rattle.std.proofs.Common.{◌≡◌, ◌≢◌, ◌∙◌, ℕ, ◌+◌, ◌*◌, ◌<◌, ◌≤◌, Bool, true, false, cond, nat_lt, true≢false, List, [], ◌∷◌, slice_get, Option, Some, refl, sym, ap, subst, arith}
use Rattle.std.proofs.lemmas.Bool.{and_parts}
use Rattle.md_device.specs.Splice.{part}
use Rattle.md_model.specs.Devices.{Stored}
use Rattle.md_model.specs.Events.{Event, Step}
use Rattle.md_model.specs.Resyncing.{copied, copied_device}
use Rattle.md_model.specs.Sectors.{Geometry, chunk_of}
use Rattle.md_model.specs.Steps.{recorded, recorded_device}
use Rattle.md_model.specs.Worlds.{IsInSync, World}
use Rattle.md_model.proofs.Cases.{below-nat_lt, by_test}
use Rattle.md_model.proofs.Puts.{by_same, put-at, put-miss, put-same}
use Rattle.md_model.proofs.Steps.TrackedCalls.{content_copied}
use Rattle.md_model.proofs.Steps.TrackedSteps.{content_marked}
use Rattle.md_assembly.specs.States.{takes_role}
use Rattle.md_kept_members.specs.View.{MemberView}
use Rattle.md_state.specs.Steps.CopyData.{IsSource, Lists}
use Rattle.md_state.specs.Members.{IsMember}
use Rattle.md_state.specs.Requests.{AreInFlight}
use Rattle.md_state.specs.View.{Disk, MirrorView, geometry_of}
use Rattle.md_array.specs.Consistency.{IsConsistent}
use Rattle.md_array.specs.InTurn.{AllOf, Did, LeftWhole, Requests}
use Rattle.md_array.specs.Steps.NoteResynced.{sector_of}
use Rattle.md_array.specs.Worlds.{AreHonest, lists_of, world_of}
use Rattle.md_array.proofs.General.Honesty.{same_honest}
use Rattle.md_array.proofs.General.Resting.{geometry_rests, rests_sound, world_rests}
use Rattle.md_array.proofs.StepLemmas.OneMember.{member_there, stored_there}
use Rattle.md_array.proofs.Worlds.Bad.{bad_from_test}
use Rattle.md_array.proofs.Worlds.InSync.{in_sync_is, in_sync_there, number_at}
use Rattle.md_array.proofs.Worlds.SectorCopied.{has_role, in_sync_as, unlisted_is}
use Rattle.md_laws.specs.ReadInTurn.{LeadsReading}
use Rattle.md_metadata.specs.Storing.{IsNoFailure}
use Rattle.md_resync.specs.Resyncing.{IsOfResync}
use Rattle.md_resync.specs.Telling.{IsTelling}

-- an event of a resync, also before recovering members are told of
abbrev pub IsOfWhole : Event → Type 0
IsOfWhole (Event.LowerOffset k s) = Unit {0}
IsOfWhole (Event.Record k) = Unit {0}
IsOfWhole (Event.StoreMarks k b) = Unit {0}
IsOfWhole (Event.WriteFails k part) = Unit {0}
IsOfWhole (Event.Copy from k s) = Unit {0}
IsOfWhole Event.Resynced = Unit {0}
IsOfWhole (Event.ClearIdle c) = Unit {0}
IsOfWhole e = ⊥

pub whole_telling : (e : Event) → IsTelling e → IsOfWhole e
whole_telling (Event.LowerOffset k s) is = tt
whole_telling (Event.Record k) is = tt
whole_telling (Event.StoreMarks k b) is = tt
whole_telling (Event.WriteFails k part) is = tt
whole_telling e is = absurd is

pub whole_resync : (e : Event) → IsOfResync e → IsOfWhole e
whole_resync (Event.StoreMarks k b) is = tt
whole_resync (Event.WriteFails k part) is = tt
whole_resync (Event.Copy from k s) is = tt
whole_resync Event.Resynced is = tt
whole_resync (Event.ClearIdle c) is = tt
whole_resync e is = absurd is

-- what a copy's own contract says beside the model's event
abbrev pub CopiesFree : World → Event → Type 0
CopiesFree w (Event.Copy from k x) = (w.bad from x ≡ false) × (from ≢ k)
CopiesFree w e = Unit {0}

-- ---- in the model
-- a superblock that is stored changes no data
content_recorded : (w : World) (i : ℕ) (listed : ℕ → Bool) (j s : ℕ) → ((recorded w i listed).stored j).content s ≡ (w.stored j).content s
content_recorded w i listed j s = put-same (λ (d : Stored). d.content s) i (recorded_device w i listed) w.stored j refl

module _ (g : Geometry) (s k : ℕ) (c : List ℕ) where
  -- member k is the one to give the sector, and holds these bytes there
  pub record IsSourceIn (w : World) : Type 0 where
    pub in_sync : IsInSync w k
    pub free : w.bad k s ≡ false
    pub lowest : (j : ℕ) → IsInSync w j → w.bad j s ≡ false → w.role (w.number k) ≤ w.role (w.number j)
    pub apart : (j : ℕ) → IsInSync w j → w.role (w.number j) ≡ w.role (w.number k) → j ≡ k
    pub holds : (w.stored k).content s ≡ c

  copied_elsewhere : (w : World) (from j x : ℕ) → (x ≡ s → j ≡ k → ⊥) → ((copied w from j x).stored k).content s ≡ (w.stored k).content s
  copied_elsewhere w from j x other =
      by_same s x
      (λ here. ap (λ (d : Stored). d.content s) (put-miss j (copied_device w from j x) w.stored k (λ same. other (sym here) (sym same))))
      (λ away. content_copied g w from j x k s away)

  not_there : (w : World) (e : Event) (w' : World) (from j x : ℕ) → e ≡ Event.Copy from j x → CopiesFree w (Event.Copy from j x) → Step g w (Event.Copy from j x) w' → IsSourceIn w → x ≡ s → j ≡ k → ⊥
  not_there w e w' from j x is free step h here there =
      let may = step.1.0 in
      let low = may.lowest k h.in_sync (subst (λ (t : ℕ). w.bad k t ≡ false) (sym here) h.free) in
      let high = h.lowest from may.source (subst (λ (t : ℕ). w.bad from t ≡ false) here free.0) in
      let same : from ≡ k = h.apart from may.source (omega arith) in
      free.1 (same ∙ sym there)

  pub source_step : (w : World) (e : Event) (w' : World) → IsOfWhole e → IsNoFailure e → CopiesFree w e → Step g w e w' → IsSourceIn w → IsSourceIn w'
  source_step w (Event.StoreMarks i b) w' of done free step h =
      subst IsSourceIn (sym step.1.1) (record { in_sync = h.in_sync; free = h.free; lowest = h.lowest; apart = h.apart; holds = content_marked g w i b k s ∙ h.holds })
  source_step w (Event.WriteFails i which) w' of done free step h = absurd done
  source_step w (Event.LowerOffset i x) w' of done free step h =
      subst IsSourceIn (sym step.1.1) (record { in_sync = h.in_sync; free = h.free; lowest = h.lowest; apart = h.apart; holds = h.holds })
  source_step w (Event.Record i) w' of done free step h =
      subst IsSourceIn (sym step.1.3) (record { in_sync = h.in_sync; free = h.free; lowest = h.lowest; apart = h.apart; holds = content_recorded w i step.1.0 k s ∙ h.holds })
  source_step w (Event.Copy from j x) w' of done free step h =
      subst IsSourceIn (sym step.1.1) (record {
        in_sync = h.in_sync;
        free = h.free;
        lowest = h.lowest;
        apart = h.apart;
        holds = copied_elsewhere w from j x (not_there w (Event.Copy from j x) w' from j x refl free step h) ∙ h.holds;
      })
  source_step w Event.Resynced w' of done free step h =
      subst IsSourceIn (sym step.1.1) (record { in_sync = h.in_sync; free = h.free; lowest = h.lowest; apart = h.apart; holds = h.holds })
  source_step w (Event.ClearIdle b) w' of done free step h =
      subst IsSourceIn (sym step.1.1) (record { in_sync = h.in_sync; free = h.free; lowest = h.lowest; apart = h.apart; holds = h.holds })
  source_step w e w' of done free step h = absurd of

  -- it is of a chunk that is not marked, and member k holds these bytes there
  pub record StaysIn (w : World) : Type 0 where
    pub unmarked : w.marks (chunk_of g s) ≡ false
    pub holds : (w.stored k).content s ≡ c

  pub stays_step : (w : World) (e : Event) (w' : World) → IsOfWhole e → IsNoFailure e → CopiesFree w e → Step g w e w' → StaysIn w → StaysIn w'
  stays_step w (Event.StoreMarks i b) w' of done free step h =
      subst StaysIn (sym step.1.1) (record { unmarked = h.unmarked; holds = content_marked g w i b k s ∙ h.holds })
  stays_step w (Event.WriteFails i which) w' of done free step h = absurd done
  stays_step w (Event.LowerOffset i x) w' of done free step h = subst StaysIn (sym step.1.1) (record { unmarked = h.unmarked; holds = h.holds })
  stays_step w (Event.Record i) w' of done free step h =
      subst StaysIn (sym step.1.3) (record { unmarked = h.unmarked; holds = content_recorded w i step.1.0 k s ∙ h.holds })
  stays_step w (Event.Copy from j x) w' of done free step h =
      subst StaysIn (sym step.1.1) (record {
        unmarked = h.unmarked;
        holds =
            content_copied g w from j x k s (λ same. true≢false (sym step.1.0.chunk.marked ∙ sym (ap (λ (t : ℕ). w.marks (chunk_of g t)) same) ∙ h.unmarked))
            ∙ h.holds;
      })
  stays_step w Event.Resynced w' of done free step h = subst StaysIn (sym step.1.1) (record { unmarked = h.unmarked; holds = h.holds })
  stays_step w (Event.ClearIdle b) w' of done free step h =
      subst StaysIn (sym step.1.1) (record { unmarked = put-at b false w.marks (chunk_of g s) (λ x. x ≡ false) (λ _. refl) (λ _. h.unmarked); holds = h.holds })
  stays_step w e w' of done free step h = absurd of

-- ---- of mirrors
-- nothing is asked of what such an event left
left_whole : (e : Event) → IsOfWhole e → IsNoFailure e → (old new : MirrorView) → LeftWhole old e new
left_whole (Event.LowerOffset k s) of done old new = tt
left_whole (Event.Record k) of done old new = tt
left_whole (Event.StoreMarks k b) of done old new = tt
left_whole (Event.WriteFails k which) of done old new = absurd done
left_whole (Event.Copy from k s) of done old new = tt
left_whole Event.Resynced of done old new = tt
left_whole (Event.ClearIdle c) of done old new = tt
left_whole e of done old new = absurd of

pub unlisted_off : (v : MirrorView) (requests : Requests) (k s : ℕ) (m : MemberView) → IsMember v.array k m → (Lists m s → ⊥) → (world_of v requests).bad k s ≡ false
unlisted_off v requests k s m at none =
    member_there v.array k m false (λ x. lists_of v.array x s) at
    ∙ by_test (lists_of v.array m s)
    (λ on. absurd (none (bad_from_test m.bad (m.superblock.data_offset + s) (and_parts (nat_lt s v.array.chunks.size) _ on).1)))
    (λ off. off)

copies_free : (v : MirrorView) (requests : Requests) (e : Event) (new : MirrorView) (after : Requests) → IsOfWhole e → Did v requests e new after → CopiesFree (world_of v requests) e
copies_free v requests (Event.Copy from k x) new after of did =
    let source = did.1.may.source x (omega arith) (omega arith) in
    (unlisted_off v requests from x source.member source.at source.unlisted, did.1.may.apart)
copies_free v requests (Event.LowerOffset k s) new after of did = tt
copies_free v requests (Event.Record k) new after of did = tt
copies_free v requests (Event.StoreMarks k b) new after of did = tt
copies_free v requests (Event.WriteFails k which) new after of did = tt
copies_free v requests Event.Resynced new after of did = tt
copies_free v requests (Event.ClearIdle c) new after of did = tt
copies_free v requests e new after of did = absurd of

module _ (P : World → Type 0) (g : Geometry) (step : (w : World) (e : Event) (w' : World) → IsOfWhole e → IsNoFailure e → CopiesFree w e → Step g w e w' → P w → P w') where
  pub along : (es : List Event) (previous : Option Event) (old : MirrorView) (before : Requests) (new : MirrorView) (after : Requests) → AllOf IsOfWhole es → AllOf IsNoFailure es
      → AreHonest old.disks → IsConsistent old → AreInFlight old.array before → geometry_of old.array ≡ g → LeadsReading previous old before es new after → P (world_of old before)
      → AreHonest new.disks × IsConsistent new × P (world_of new after)
  along [] previous old before new after all done honest sound in_flight geometry t p = (
    subst (λ (m : MirrorView). AreHonest m.disks) t.2.0 (same_honest old.disks t.0.disks t.1.disks.same honest),
    subst IsConsistent t.2.0 (rests_sound old t.0 t.1 sound),
    subst (λ (m : MirrorView). P (world_of m after)) t.2.0
        (subst (λ (r : Requests). P (world_of t.0 r)) t.2.1 (subst P (sym (world_rests old t.0 t.1 before)) p)),
  )
  along (e ∷ es) previous old before new after all done honest sound in_flight geometry t p =
      let honest_there = same_honest old.disks t.0.disks t.3.disks.same honest in
      let does = t.6 honest_there (left_whole e all.0 done.0 t.0 t.1) in
      let same : geometry_of t.0.array ≡ g = geometry_rests old t.0 t.3 ∙ geometry in
      let stepped = subst (λ (x : Geometry). Step x (world_of t.0 before) e (world_of t.1 t.2)) same does.step in
      let free = copies_free t.0 before e t.1 t.2 all.0 t.5 in
      along es (Some e) t.1 t.2 new after all.1 done.1 does.honest does.sound does.in_flight (does.geometry ∙ same) t.7
      (step (world_of t.0 before) e (world_of t.1 t.2) all.0 done.0 free stepped (subst P (sym (world_rests old t.0 t.3 before)) p))

-- ---- the model's sectors are the mirror's
pub sector_there : (v : MirrorView) (requests : Requests) (k s : ℕ) (m : MemberView) (d : Disk) → IsMember v.array k m → slice_get v.disks k ≡ Some d → s < v.array.chunks.size
    → ((world_of v requests).stored k).content s ≡ sector_of m d s
sector_there v requests k s m d at there low =
    ap (λ (x : Stored). x.content s) (stored_there v.disks v.array k m d at there)
    ∙ ap (λ b. cond b (part d.content (512 * (m.superblock.data_offset + s)) 512) []) (below-nat_lt s v.array.chunks.size low)

module _ (v : MirrorView) (sound : IsConsistent v) (honest : AreHonest v.disks) (requests : Requests) (in_flight : AreInFlight v.array requests) (running : v.array.halted ≡ false) where
  abbrev w : World
  w = world_of v requests

  role_there : (k role : ℕ) (m : MemberView) → IsMember v.array k m → takes_role role m.state ≡ true → w.role (w.number k) ≡ role
  role_there k role m at as_role = ap w.role (number_at v.disks v.array requests k m at) ∙ sound.roles.shared k role m at as_role

  pub source_there : (k s : ℕ) → s < v.array.chunks.size → IsSource k s v.array → IsSourceIn (geometry_of v.array) s k ((w.stored k).content s) w
  source_there k s low source =
      let is = in_sync_as source.role source.member.state source.in_sync in
      let mine = role_there k source.role source.member source.at is.1 in
      record {
        in_sync = in_sync_there v.disks v.array requests k source.member (record { member = source.at; in_sync = is.0 });
        free = unlisted_off v requests k s source.member source.at source.unlisted;
        lowest = λ j other free.
            let x = in_sync_is v.disks v.array requests j other in
            let role = has_role x.0.state x.1.in_sync in
            let least = source.lowest j role.0 x.0 x.1.member role.1 (unlisted_is v sound honest requests in_flight running j s x.0 x.1 low free) in
            let others = role_there j role.0 x.0 x.1.member (in_sync_as role.0 x.0.state role.1).1 in
            omega arith;
        apart = λ j other same.
            let x = in_sync_is v.disks v.array requests j other in
            let role = has_role x.0.state x.1.in_sync in
            let takes = (in_sync_as role.0 x.0.state role.1).1 in
            let others = role_there j role.0 x.0 x.1.member takes in
            let one : role.0 ≡ source.role = sym others ∙ same ∙ mine in
            sound.roles.one_each j k source.role x.0 source.member x.1.member source.at (subst (λ (r : ℕ). takes_role r x.0.state ≡ true) one takes) is.1;
        holds = refl;
      }
