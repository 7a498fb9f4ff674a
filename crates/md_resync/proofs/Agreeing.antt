-- Members in sync are made to agree in marked chunks, and a content is kept meanwhile.
use Rattle.std.proofs.Common.{◌≡◌, ℕ, ◌<◌, List, [], ◌∷◌, slice_get, Option, Some, None, refl, sym, ap, ◌∙◌, subst}
use Rattle.md_model.specs.Content.{Becomes, Content, HoldsBetween}
use Rattle.md_model.specs.Sectors.{Geometry}
use Rattle.md_model.specs.Events.{Event, MemberPart}
use Rattle.md_model.specs.Worlds.{World}
use Rattle.md_kept_members.specs.View.{MemberView}
use Rattle.md_state.specs.View.{Disk, MirrorView, geometry_of}
use Rattle.md_state.specs.Steps.MakeClean.{IsIdle}
use Rattle.md_state.specs.Members.{IsAlone}
use Rattle.md_state.specs.Requests.{AreInFlight}
use Rattle.md_state.specs.Rests.{Rests}
use Rattle.md_array.specs.Consistency.{IsConsistent}
use Rattle.md_array.specs.InTurn.{AllOf, LeftWhole, Requests}
use Rattle.md_array.specs.Steps.NoteResynced.{AllAgreeWhereMarked, sector_of}
use Rattle.md_array.specs.Worlds.{AreHonest, world_of}
use Rattle.md_array.proofs.General.Honesty.{same_honest}
use Rattle.md_array.proofs.General.Resting.{geometry_rests, world_rests}
use Rattle.md_array.proofs.StepLemmas.Turns.{all_such}
use Rattle.md_laws.specs.ReadInTurn.{LeadsReading}
use Rattle.md_metadata.specs.Clearing.{IsClearing}
use Rattle.md_resync.specs.Copying.{CopiesOnly, CopiesMarked, CopyingGoesOn, IsCopying}
use Rattle.md_resync.specs.Resyncing.{ResyncAdvances, Agrees, ResyncGoesOn, IsOfResync, KeepsHeldContent}
use Rattle.md_resync.proofs.Advancing.{goes_none}
use Rattle.md_resync.proofs.CopiedRuns.{copies_none, copies_unfailing}
use Rattle.md_assembly.proofs.Indices.{got_same}

-- one alone agrees with itself
pub alone_agrees : (v : MirrorView) → IsAlone v.array → AllAgreeWhereMarked v
alone_agrees v alone s low marked j k m n d e one other free free_too =
    let same = alone j k m n one.in_sync other.in_sync in
    let member : m ≡ n = got_same v.array.members k m n (sym (ap (slice_get v.array.members) same) ∙ one.in_sync.member) other.in_sync.member in
    let disk : d ≡ e = got_same v.disks k d e (sym (ap (slice_get v.disks) same) ∙ one.disk) other.disk in
    ap (λ (x : MemberView). sector_of x d s) member ∙ ap (λ (x : Disk). sector_of n x s) disk

-- ---- a content along events that leave it
pub record LeavesContent (e : Event) : Type 0 where
  pub becomes : (g : Geometry) (w : World) (a : Content) → Becomes g e w a a
  pub whole : (old new : MirrorView) → LeftWhole old e new

-- an event of a resync but its end
pub record IsCalm (e : Event) : Type 0 where
  pub of : IsOfResync e
  pub leaves : LeavesContent e

pub copying_is_calm : (e : Event) → IsCopying e → IsCalm e
copying_is_calm (Event.WriteFails k (MemberPart.CopiedSectors s n)) is = record { of = tt; leaves = record { becomes = λ g w a. refl; whole = λ old new. tt } }
copying_is_calm (Event.Copy from k s) is = record { of = tt; leaves = record { becomes = λ g w a. refl; whole = λ old new. tt } }
copying_is_calm e is = absurd is

pub clearing_is_calm : (e : Event) → IsClearing e → IsCalm e
clearing_is_calm (Event.ClearIdle c) is = record { of = tt; leaves = record { becomes = λ g w a. refl; whole = λ old new. tt } }
clearing_is_calm e is = absurd is

read_holds : (old new : MirrorView) (requests : Requests) (a : Content) → Rests old new → HoldsBetween (geometry_of old.array) a (world_of old requests) → HoldsBetween (geometry_of new.array) a (world_of new requests)
read_holds old new requests a rests holds =
    subst (λ (g : Geometry). HoldsBetween g a (world_of new requests)) (sym (geometry_rests old new rests))
    (subst (λ (w : World). HoldsBetween (geometry_of old.array) a w) (sym (world_rests old new rests requests)) holds)

pub held_along : (es : List Event) (previous : Option Event) (old : MirrorView) (before : Requests) (a : Content) (new : MirrorView) (after : Requests) → AllOf LeavesContent es → AreHonest old.disks
    → HoldsBetween (geometry_of old.array) a (world_of old before) → LeadsReading previous old before es new after
    → HoldsBetween (geometry_of new.array) a (world_of new after) × (geometry_of new.array ≡ geometry_of old.array)
held_along [] previous old before a new after all honest holds t =
    let there = read_holds old t.0 before a t.1 holds in (
      subst (λ (m : MirrorView). HoldsBetween (geometry_of m.array) a (world_of m after)) t.2.0
          (subst (λ (r : Requests). HoldsBetween (geometry_of t.0.array) a (world_of t.0 r)) t.2.1 there),
      subst (λ (m : MirrorView). geometry_of m.array ≡ geometry_of old.array) t.2.0 (geometry_rests old t.0 t.1),
    )
held_along (e ∷ es) previous old before a new after all honest holds t =
    let there = read_holds old t.0 before a t.3 holds in
    let does = t.6 (same_honest old.disks t.0.disks t.3.disks.same honest) (all.0.whole t.0 t.1) in
    let mid = subst (λ (g : Geometry). HoldsBetween g a (world_of t.1 t.2)) (sym does.geometry) (does.content a a there (all.0.becomes (geometry_of t.0.array) (world_of t.0 before) a)) in
    let more = held_along es (Some e) t.1 t.2 a new after all.1 does.honest mid t.7 in
    (more.0, more.1 ∙ does.geometry ∙ geometry_rests old t.0 t.3)

pub left_content : (es : List Event) (old new : MirrorView) → AllOf LeavesContent es
    → ((previous : Option Event) (requests : Requests) → AreInFlight old.array requests → LeadsReading previous old requests es new requests) → KeepsHeldContent old new
left_content es old new all leads honest requests in_flight a holds =
    let along = held_along es None old requests a new requests all honest holds (leads None requests in_flight) in
    subst (λ (g : Geometry). HoldsBetween g a (world_of new requests)) along.1 along.0

pub calm_content : (es : List Event) (old new : MirrorView) → AllOf IsCalm es
    → ((previous : Option Event) (requests : Requests) → AreInFlight old.array requests → LeadsReading previous old requests es new requests) → KeepsHeldContent old new
calm_content es old new all = left_content es old new (all_such IsCalm LeavesContent (λ e is. is.leaves) es all)

-- ---- members in sync agree
-- where there are two
unfoldable pub copying_goes : (old new : MirrorView) → (IsAlone old.array → ⊥) → CopyingGoesOn old new → ResyncGoesOn old new
copying_goes old new two g = record {
  events = g.events;
  steps = all_such IsCopying IsOfResync (λ e is. (copying_is_calm e is).of) g.events g.steps;
  leads = g.leads;
  by_steps = g.by_steps;
  unread = λ alone. absurd (two alone);
}

unfoldable pub copies_advance : (Of : ℕ → Type 0) (old new : MirrorView) → (IsAlone old.array → ⊥) → CopiesOnly Of old new → IsIdle old.array → ResyncAdvances old new
unfolding copying_goes
copies_advance Of old new two g idle = record {
  goes = copying_goes old new two g.goes;
  unfailing = copies_unfailing Of old new g;
  same = g.goes.same;
  idle = subst IsIdle (sym g.array) idle;
  sound = g.goes.sound;
}

pub agrees_copied : (old new : MirrorView) → IsIdle old.array → (IsAlone old.array → ⊥) → CopiesMarked old new → Agrees old new
agrees_copied old new idle two g = record {
  advances = copies_advance (λ s. s < old.array.chunks.size) old new two g.copies idle;
  alone = λ alone. absurd (two alone);
  array = g.copies.array;
  agree = g.agree;
  content = calm_content g.copies.goes.events old new (all_such IsCopying IsCalm copying_is_calm g.copies.goes.events g.copies.goes.steps) g.copies.goes.leads;
}

-- where there is one
pub agrees_alone : (v : MirrorView) → IsIdle v.array → IsConsistent v → IsAlone v.array → Agrees v v
unfolding goes_none
agrees_alone v idle sound alone = record {
  advances = record { goes = goes_none v; unfailing = tt; same = (copies_none (λ s. ⊥) v sound).goes.same; idle = idle; sound = sound };
  alone = λ _. refl;
  array = refl;
  agree = alone_agrees v alone;
  content = λ honest requests in_flight a holds. holds;
}
