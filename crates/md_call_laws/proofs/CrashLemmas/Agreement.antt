-- The members in sync of a resynced array agree in sectors at rest, as the invariant of the model says; and a resync that is done is a run to
-- such an array.
use Rattle.std.proofs.Common.{◌≡◌, ℕ, ◌<◌, true, false, cond, nat_lt, ◌&&◌, List, [], ◌∷◌, ◌++◌, None, refl, sym, ap, ◌∙◌, subst}
use Rattle.std.proofs.Math.Bool.{and-false}
use Rattle.md_kept_members.specs.View.{MemberView}
use Rattle.md_model.specs.Devices.{Stored}
use Rattle.md_model.specs.Events.{Event, MemberPart}
use Rattle.md_model.specs.Sectors.{Geometry}
use Rattle.md_model.specs.Worlds.{World, IsQuiet}
use Rattle.md_model.proofs.Cases.{below-nat_lt, none_some}
use Rattle.md_model.proofs.Steps.Keeps.{IsKept, kept_run}
use Rattle.md_state.specs.Steps.CopyData.{Lists}
use Rattle.md_state.specs.Requests.{AreInFlight}
use Rattle.md_state.specs.View.{ArrayView, Disk, MirrorView, geometry_of}
use Rattle.md_array.specs.InTurn.{AllOf}
use Rattle.md_array.specs.Steps.NoteResynced.{IsHonestMember, sector_of}
use Rattle.md_array.specs.Worlds.{AreHonest, super_of, world_of}
use Rattle.md_array.proofs.StepLemmas.OneMember.{stored_there}
use Rattle.md_array.proofs.Worlds.InSync.{in_sync_there}
use Rattle.md_array.proofs.Worlds.SectorCopied.{none_there, unlisted_there}
use Rattle.md_array.specs.Open.Opened.{IsOpenedFrom}
use Rattle.md_laws.specs.Fresh.{AreFresh}
use Rattle.md_laws.proofs.Openings.Fresh.{starts_fresh}
use Rattle.md_laws.proofs.Runs.Rests.{at_rest}
use Rattle.md_laws.specs.Lives.{AtEachMoment, MirrorLife}
use Rattle.md_laws.specs.ReadInTurn.{IsNoFailedRecord}
use Rattle.md_laws.specs.Runs.{IsStart, MirrorRun, Moment, history_of, opened_as}
use Rattle.md_laws.proofs.Runs.Moments.{IsSoundAt, life_keeps, run_keeps, run_then, sound_when_opened}
use Rattle.md_laws.proofs.Runs.MirrorLives.{keeps_geometry, life_kept}
use Rattle.md_laws.proofs.Runs.MirrorRuns.{model_run, starts}
use Rattle.md_laws.proofs.Runs.ReadTurns.{reading_call_is_run}
use Rattle.md_resync.specs.Resyncing.{IsOfResync, Resyncs}
use Rattle.md_resync.proofs.Told.{resynced_array}
use Rattle.md_resync.proofs.ToldRuns.{at_told, told_run, told_sound}
use Rattle.md_call_laws.specs.Crashes.Agreement.{IsAgreed, AgreesAtRest, IsUnlistedOn, LeavesAgreed, ResyncsAgree}

pub agrees_at_rest : AtEachMoment AgreesAtRest
agrees_at_rest before m start es rest final last life resynced j k s on_j on_k quiet =
    (life_kept before m start es rest final last life).tracked.quiet resynced j k s on_j on_k quiet

-- ---- a resync
-- none of its events writes a superblock, once recovering members are told of
pub no_record : (e : Event) → IsOfResync e → IsNoFailedRecord e
no_record (Event.StoreMarks k b) of = tt
no_record (Event.WriteFails k (MemberPart.BitmapSector b)) of = tt
no_record (Event.Copy from k s) of = tt
no_record (Event.WriteFails k (MemberPart.CopiedSectors s n)) of = tt
no_record Event.Resynced of = tt
no_record (Event.ClearIdle c) of = tt
no_record e of = absurd of

pub no_records : (es : List Event) → AllOf IsOfResync es → AllOf IsNoFailedRecord es
no_records [] of = tt
no_records (e ∷ es) of = (no_record e of.0, no_records es of.1)

module _ (before : List Disk) (m : MirrorView) (start : IsStart before m) (es : List Event) (rest : List (List Event)) (final : MirrorView) (t : Moment) (life : MirrorLife m es rest final t)
    (new : MirrorView) (r : Resyncs t.mirror new) where
  abbrev g : Geometry
  g = geometry_of m.array

  at : IsSoundAt t
  at = life_keeps m es rest final t (sound_when_opened before m start.honest start.opened) life

  -- recovering members are told of
  abbrev there : Moment
  there = at_told t at r.told r.tells

  at_there : IsSoundAt there
  at_there = told_sound t at r.told r.tells

  -- and then it goes on
  reaches : (last : Moment) × MirrorRun there r.then.goes.events last × ((last.mirror ≡ new) × (last.requests ≡ t.requests))
  unfolding at_told
  reaches =
      reading_call_is_run r.then.goes.events None there new t.requests (r.then.goes.leads None t.requests at_there.in_flight) (no_records r.then.goes.events r.then.goes.steps) at_there.honest

  abbrev last : Moment
  last = record reaches.0 { mirror = new; requests = t.requests }

  abbrev events : List Event
  events = r.tells.goes.events ++ r.then.goes.events

  run : MirrorRun t events last
  run = run_then r.tells.goes.events r.then.goes.events t there last (told_run t at r.told r.tells)
      (subst (MirrorRun there r.then.goes.events) (λ i. record reaches.0 { mirror = reaches.2.0 i; requests = reaches.2.1 i }) reaches.1)

  at_last : IsSoundAt last
  at_last = run_keeps events t last run at

  kept : IsKept g (super_of final.array.shared) (history_of last)
  kept = kept_run g (starts before m start).small (super_of final.array.shared) events (history_of t) (history_of last)
      (life_kept before m start es rest final t life) (model_run g events t last (keeps_geometry before m start es rest final t life) run)

  abbrev w : World
  w = world_of new t.requests

  is_resynced : new.array.resynced ≡ true
  is_resynced = ap (λ (a : ArrayView). a.resynced) (resynced_array t.mirror new r)

  told_in_flight : AreInFlight r.told.array t.requests
  unfolding at_told
  told_in_flight = at_there.in_flight

  quiet : (s : ℕ) → IsQuiet w s
  quiet s n p e = absurd (none_some p (sym (none_there r.told.array t.requests told_in_flight r.then.idle.none n) ∙ e))

  -- what stands in a sector of a member in sync is what its world says
  held_there : (k : ℕ) (n : MemberView) (d : Disk) → IsHonestMember new k n d → (s : ℕ) → s < new.array.chunks.size → (w.stored k).content s ≡ sector_of n d s
  held_there k n d served s low =
      ap (λ (x : Stored). x.content s) (stored_there new.disks new.array k n d served.in_sync.member served.disk)
      ∙ ap (λ b. cond b (sector_of n d s) []) (below-nat_lt s new.array.chunks.size low)

  clear_there : (k : ℕ) (n : MemberView) (d : Disk) → IsHonestMember new k n d → (s : ℕ) → IsUnlistedOn n d s → (w.stored k).listed s ≡ false
  clear_there k n d served s clear =
      ap (λ (x : Stored). x.listed s) (stored_there new.disks new.array k n d served.in_sync.member served.disk)
      ∙ ap (λ b. nat_lt s new.array.chunks.size && b) clear ∙ and-false (nat_lt s new.array.chunks.size)

  agree : (s : ℕ) → s < new.array.chunks.size → (i j : ℕ) (o n : MemberView) (d e : Disk) → IsHonestMember new i o d → IsHonestMember new j n e
      → (w.stored i).listed s ≡ false → (w.stored j).listed s ≡ false → sector_of o d s ≡ sector_of n e s
  agree s low i j o n d e one other clear clear_too =
      sym (held_there i o d one s low)
      ∙ kept.tracked.quiet is_resynced i j s (in_sync_there new.disks new.array t.requests i o one.in_sync) (in_sync_there new.disks new.array t.requests j n other.in_sync) (quiet s) clear clear_too
      ∙ held_there j n e other s low

  running : new.array.halted ≡ false
  running = ap (λ (a : ArrayView). a.halted) r.then.array.array ∙ r.then.idle.running

  unlisted : (s : ℕ) → s < new.array.chunks.size → (k : ℕ) (n : MemberView) (d : Disk) → IsHonestMember new k n d → (Lists n s → ⊥) → (w.stored k).listed s ≡ false
  unlisted s low k n d served = unlisted_there new at_last.sound at_last.honest t.requests at_last.in_flight running k s n served.in_sync low

  leaves_agreed : LeavesAgreed t new
  leaves_agreed = record {
    events = events;
    last = last;
    run = run;
    there = refl;
    agree_on_devices = λ s low i j o n d e one other clear clear_too. agree s low i j o n d e one other (clear_there i o d one s clear) (clear_there j n e other s clear_too);
    agree = λ s low i j o n d e one other free free_too. agree s low i j o n d e one other (unlisted s low i o d one free) (unlisted s low j n e other free_too);
  }

pub resyncs_agree : ResyncsAgree
resyncs_agree before m start es rest final t life new r = leaves_agreed before m start es rest final t life new r

-- ---- a resync right after an opening of a new array
pub agreed_when_fresh : (before : List Disk) (m new : MirrorView) → AreHonest before → AreFresh before → IsOpenedFrom before m → Resyncs m new → IsAgreed new
agreed_when_fresh before m new honest fresh opened r =
    (resyncs_agree before m (starts_fresh before m honest opened fresh) [] [] m (opened_as m) (refl, at_rest (opened_as m)) new r).agree_on_devices
