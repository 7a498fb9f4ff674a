-- What is read without a resync is what a resync and then a read give.
use Rattle.std.proofs.Common.{◌≡◌, ◌⊎◌, ◌∙◌, ℕ, ◌+◌, ◌-◌, ◌*◌, ◌/◌, ◌<◌, ◌&&◌, nat_lt, true, false, List, [], ◌∷◌, ◌++◌, length, slice_get, Option, Some, None, refl, sym, ap, subst, arith, inl, inr, length-append}
use Rattle.std.specs.List.{concat}
use Rattle.std.proofs.lemmas.Bool.{cases_lt}
use Rattle.std.proofs.lemmas.Option.{same_Some, slice_get_within}
use Rattle.std.proofs.Math.Bool.{and-false}
use Rattle.md_assembly.specs.States.{is_in_sync}
use Rattle.md_assembly.proofs.Indices.{got_within}
use Rattle.md_device.specs.Device.{held}
use Rattle.md_device.specs.Splice.{part}
use Rattle.md_device.proofs.Splices.{length-part, part_part}
use Rattle.md_model.specs.Events.{Event}
use Rattle.md_model.specs.Sectors.{Geometry}
use Rattle.md_kept_members.specs.View.{MemberView}
use Rattle.md_state.specs.Steps.CopyData.{IsSource, Lists}
use Rattle.md_state.specs.Members.{IsInSync, IsMember}
use Rattle.md_state.specs.Steps.ReadData.{HoldsData}
use Rattle.md_state.specs.Rests.{Rests}
use Rattle.md_state.specs.View.{ArrayView, Disk, MirrorView, geometry_of}
use Rattle.md_array.specs.Consistency.{IsConsistent}
use Rattle.md_array.specs.Steps.NoteResynced.{AllAgreeAt, IsHonestMember, sector_of}
use Rattle.md_array.specs.InTurn.{AllOf, Requests}
use Rattle.md_array.specs.Worlds.{AreHonest, world_of}
use Rattle.md_array.proofs.StepLemmas.Turns.{all_on, all_such}
use Rattle.md_array.proofs.Worlds.SectorCopied.{in_sync_as}
use Rattle.md_laws.specs.ReadInTurn.{LeadsReading, ReadInTurn}
use Rattle.md_laws.proofs.Runs.ReadTurns.{read_on, read_then, unread}
use Rattle.md_metadata.specs.Storing.{IsNoFailure}
use Rattle.md_read.specs.Unresynced.{GivesPart, IsSectorMarked, IsUnmarkedAt, PartsInTurn}
use Rattle.md_read.proofs.PartsInTurn.{part_rests, part_whole}
use Rattle.md_read.proofs.RunsInTurn.{IsHeld, run_held, sector_held}
use Rattle.md_read.proofs.RunsRead.{held_earlier, is_earlier}
use Rattle.md_read.proofs.SectorsGiven.{held_end, held_front}
use Rattle.md_resync.specs.Resyncing.{IsOfResync, Resyncs}
use Rattle.md_resync.specs.Telling.{IsTelling}
use Rattle.md_resync.proofs.Told.{resynced_array, resynced_many, resynced_member}
use Rattle.md_read_commands.specs.AsResynced.{HoldsAsMuch, LeavesSources, ReadsAsResynced}
use Rattle.md_commands.proofs.DeviceCounts.{none_in_flight, nothing}
use Rattle.md_read_commands.proofs.ResyncedData.{IsOfWhole, IsSourceIn, StaysIn, along, sector_there, source_step, source_there, stays_step, whole_resync, whole_telling}

-- ---- what a resync leaves
module _ (old new : MirrorView) (sound : IsConsistent old) (honest : AreHonest old.disks) (resyncs : Resyncs old new) where
  abbrev g : Geometry
  g = geometry_of old.array

  -- all of its events, one after another
  abbrev events : List Event
  events = resyncs.tells.goes.events ++ resyncs.then.goes.events

  of_whole : AllOf IsOfWhole events
  of_whole = all_on IsOfWhole resyncs.tells.goes.events resyncs.then.goes.events
      (all_such IsTelling IsOfWhole whole_telling resyncs.tells.goes.events resyncs.tells.goes.steps)
      (all_such IsOfResync IsOfWhole whole_resync resyncs.then.goes.events resyncs.then.goes.steps)

  unfailing : AllOf IsNoFailure events
  unfailing = all_on IsNoFailure resyncs.tells.goes.events resyncs.then.goes.events resyncs.tells.unfailing resyncs.then.unfailing

  leads : LeadsReading None old nothing events new nothing
  leads =
      read_on resyncs.tells.goes.events resyncs.then.goes.events None old nothing (λ m s. (m ≡ new) × (s ≡ nothing))
      (read_then resyncs.tells.goes.events None old nothing
      (λ m s. (m ≡ resyncs.told) × (s ≡ nothing))
      (λ m s. (last : Option Event) → ReadInTurn last m s resyncs.then.goes.events (λ m s. (m ≡ new) × (s ≡ nothing)))
      (λ m s at last.
      subst (λ (x : MirrorView). ReadInTurn last x s resyncs.then.goes.events (λ m s. (m ≡ new) × (s ≡ nothing))) (sym at.0)
      (subst (λ (x : Requests). ReadInTurn last resyncs.told x resyncs.then.goes.events (λ m s. (m ≡ new) × (s ≡ nothing))) (sym at.1)
      (resyncs.then.goes.leads last nothing (none_in_flight resyncs.told.array))))
      (unread resyncs.tells.goes.events None old nothing (λ m s. (m ≡ resyncs.told) × (s ≡ nothing)) (resyncs.tells.goes.leads None nothing (none_in_flight old.array))))

  running : old.array.halted ≡ false
  running = ap (λ (a : ArrayView). a.halted) (sym resyncs.tells.array) ∙ resyncs.then.idle.running

  low_after : (s : ℕ) → s < old.array.chunks.size → s < new.array.chunks.size
  low_after s low = subst (λ (a : ArrayView). s < a.chunks.size) (sym (resynced_array old new resyncs)) low

  source_after : (s k : ℕ) → s < old.array.chunks.size → IsSource k s old.array
      → AreHonest new.disks × IsConsistent new × IsSourceIn g s k (((world_of old nothing).stored k).content s) (world_of new nothing)
  source_after s k low source =
      along (IsSourceIn g s k (((world_of old nothing).stored k).content s)) g (source_step g s k (((world_of old nothing).stored k).content s))
      events None old nothing new nothing of_whole unfailing honest sound (none_in_flight old.array) refl leads
      (source_there old sound honest nothing (none_in_flight old.array) running k s low source)

  stays_after : (s k : ℕ) → IsUnmarkedAt old.array s
      → AreHonest new.disks × IsConsistent new × StaysIn g s k (((world_of old nothing).stored k).content s) (world_of new nothing)
  stays_after s k off =
      along (StaysIn g s k (((world_of old nothing).stored k).content s)) g (stays_step g s k (((world_of old nothing).stored k).content s))
      events None old nothing new nothing of_whole unfailing honest sound (none_in_flight old.array) refl leads
      (record { unmarked = ap (λ b. nat_lt (s / old.array.chunks.sectors) old.array.marks.chunks && b) off ∙ and-false (nat_lt (s / old.array.chunks.sectors) old.array.marks.chunks); holds = refl })

  marked_left : (s from k : ℕ) (m n : MemberView) (d e : Disk) → s < old.array.chunks.size → IsSectorMarked old.array s → IsSource from s old.array
      → IsMember old.array from m → slice_get old.disks from ≡ Some d → IsHonestMember new k n e → (Lists n s → ⊥) → sector_of n e s ≡ sector_of m d s
  marked_left s from k m n d e low marked source at there served free =
      let after = source_after s from low source in
      let within = slice_get_within old.array.members from m at in
      let many = resynced_many old new resyncs in
      let x = got_within new.array.members from (omega arith) in
      let as_many = after.1.fits.as_many in
      let f = got_within new.disks from (omega arith) in
      let same = resynced_member old new resyncs from m x.0 at x.1 in
      let it : source.member ≡ m = same_Some source.member m (sym source.at ∙ at) in
      let unlisted : Lists x.0 s → ⊥ = λ lists. source.unlisted (subst (λ (y : MemberView). Lists y s) (sym it) (subst (λ (y : MemberView). Lists y s) same lists)) in
      let on : IsInSync new.array from x.0 = record {
        member = x.1;
        in_sync = ap (λ (y : MemberView). is_in_sync y.state) same ∙ subst (λ (y : MemberView). is_in_sync y.state ≡ true) it (in_sync_as source.role source.member.state source.in_sync).0;
      } in
      resyncs.then.agree s (subst (λ (a : ArrayView). s < a.chunks.size) (sym resyncs.tells.array) low) (subst (λ (a : ArrayView). IsSectorMarked a s) (sym resyncs.tells.array) marked) k from n x.0 e f.0 served (record { in_sync = on; disk = f.1; honest = after.0 from f.0 f.1 }) free unlisted
      ∙ sym (sector_there new nothing from s x.0 f.0 x.1 f.1 (low_after s low))
      ∙ after.2.holds
      ∙ sector_there old nothing from s m d at there low

  unmarked_left : (s k : ℕ) (m n : MemberView) (d e : Disk) → s < old.array.chunks.size → IsUnmarkedAt old.array s
      → IsMember old.array k m → slice_get old.disks k ≡ Some d → IsHonestMember new k n e → sector_of n e s ≡ sector_of m d s
  unmarked_left s k m n d e low off at there served =
      let after = stays_after s k off in
      sym (sector_there new nothing k s n e served.in_sync.member served.disk (low_after s low)) ∙ after.2.holds ∙ sector_there old nothing k s m d at there low

  pub sources_left : LeavesSources old new
  sources_left = record { marked = marked_left; unmarked = unmarked_left }

  pub honest_after : AreHonest new.disks × IsConsistent new
  honest_after =
      let after = along (λ _. Unit {0}) g (λ w e w' of done free step p. tt)
      events None old nothing new nothing of_whole unfailing honest sound (none_in_flight old.array) refl leads tt in
      (after.0, after.1)

-- ---- what was read without one, sector by sector
-- it is of a marked chunk, and its source holds these bytes there
pub record IsHeldBySource (s : ℕ) (bytes : List ℕ) (v : MirrorView) : Type 0 where
  pub marked : IsSectorMarked v.array s
  pub from : ℕ
  pub source : IsSource from s v.array
  pub holds : HoldsData v from s bytes

pub record IsHeldUnmarked (s : ℕ) (bytes : List ℕ) (v : MirrorView) : Type 0 where
  pub unmarked : IsUnmarkedAt v.array s
  pub held : IsHeld s bytes v

abbrev pub IsHeldPart : ℕ → List ℕ → MirrorView → Type 0
IsHeldPart s bytes v = IsHeldBySource s bytes v ⊎ IsHeldUnmarked s bytes v

-- a sector of bytes that a member holds
sector_holds : (v : MirrorView) (k sector : ℕ) (run : List ℕ) → HoldsData v k sector run → (i : ℕ) → i < length run / 512 → HoldsData v k (sector + i) (held run i 512)
sector_holds v k sector run holds i low d m at there honest =
    let long : length (held run i 512) ≡ 512 = length-part run (512 * i) 512 (omega arith) in
    let start : ℕ = m.superblock.data_offset + sector in
    let moved : 512 * (m.superblock.data_offset + (sector + i)) ≡ 512 * start + 512 * i = omega arith in
    ap (λ (n : ℕ). held d.content (m.superblock.data_offset + (sector + i)) n) long
    ∙ ap (λ (n : ℕ). part d.content n 512) moved
    ∙ sym (part_part d.content (512 * start) (length run) (512 * i) 512 (omega arith))
    ∙ ap (λ (xs : List ℕ). part xs (512 * i) 512) (holds d m at there honest)

part_held : (sector : ℕ) (run : List ℕ) (old new : MirrorView) → GivesPart sector run old new → (i : ℕ) → i < length run / 512 → IsHeldPart (sector + i) (held run i 512) old
part_held sector run old new (inl given) i low = inl (record {
  marked = given.marked (sector + i) (omega arith) (omega arith);
  from = given.from;
  source = given.source (sector + i) (omega arith) (omega arith);
  holds = sector_holds old given.from sector run given.holds i low;
})
part_held sector run old new (inr given) i low = inr (record {
  unmarked = given.unmarked (sector + i) (omega arith) (omega arith);
  held = run_held sector run old new given.gives i low;
})

part_held_earlier : (s : ℕ) (bytes : List ℕ) (old mid : MirrorView) → Rests old mid → IsHeldPart s bytes mid → IsHeldPart s bytes old
part_held_earlier s bytes old mid first (inl h) = inl (record {
  marked = subst (λ (a : ArrayView). IsSectorMarked a s) first.array h.marked;
  from = h.from;
  source = subst (λ (a : ArrayView). IsSource h.from s a) first.array h.source;
  holds = held_earlier old mid first h.from s bytes h.holds;
})
part_held_earlier s bytes old mid first (inr h) = inr (record {
  unmarked = subst (λ (a : ArrayView). IsUnmarkedAt a s) first.array h.unmarked;
  held = record {
    from = h.held.from;
    role = h.held.role;
    is = is_earlier old mid first h.held.role h.held.from h.held.is;
    unlisted = h.held.unlisted;
    holds = held_earlier old mid first h.held.from s bytes h.held.holds;
  };
})

parts_held : (sector : ℕ) (runs : List (List ℕ)) (old new : MirrorView) → PartsInTurn sector runs old new → (i : ℕ) → i < length (concat runs) / 512
    → IsHeldPart (sector + i) (held (concat runs) i 512) old
parts_held sector [] old new h i low = absurd (omega arith)
parts_held sector (run ∷ runs) old new h i low = elim (cases_lt i (length run / 512)) [
  | inl early ↦ subst (λ (b : List ℕ). IsHeldPart (sector + i) b old) (sym (held_front run (concat runs) i early)) (part_held sector run old h.0 h.1 i early)
  | inr late ↦
      let whole = part_whole sector run old h.0 h.1 in
      let long = length-append run (concat runs) in
      let j : ℕ = i - length run / 512 in
      let at : ℕ = sector + length run / 512 + j in
      let there : length run / 512 + j ≡ i = omega arith in
      let place : at ≡ sector + i = omega arith in
      let rest = parts_held (sector + length run / 512) runs h.0 new h.2 j (omega arith) in
      subst (λ (s : ℕ). IsHeldPart s (held (run ++ concat runs) i 512) old) place
      (subst (λ (k : ℕ). IsHeldPart at (held (run ++ concat runs) k 512) old) there
      (subst (λ (b : List ℕ). IsHeldPart at b old) (sym (held_end run (concat runs) j whole))
      (part_held_earlier at (held (concat runs) j 512) old h.0 (part_rests sector run old h.0 h.1) rest)))
]

-- ---- the two together
module _ (old start : MirrorView) (same : HoldsAsMuch old start) where
  -- a member's device after it
  device_there : (k : ℕ) (d : Disk) → slice_get old.disks k ≡ Some d → (e : Disk) × (slice_get start.disks k ≡ Some e)
  device_there k d at = let low = slice_get_within old.disks k d at in let many = same.as_many in got_within start.disks k (omega arith)

  sector_same : (k s : ℕ) (m : MemberView) (d e : Disk) → slice_get old.disks k ≡ Some d → slice_get start.disks k ≡ Some e → sector_of m e s ≡ sector_of m d s
  sector_same k s m d e was is = ap (λ (c : List ℕ). held c (m.superblock.data_offset + s) 512) (same.content k d e was is)

-- the bytes of a sector that a member holds
bytes_are : (v : MirrorView) (k s : ℕ) (bytes : List ℕ) (m : MemberView) (d : Disk) → length bytes ≡ 512 → HoldsData v k s bytes → IsMember v.array k m → slice_get v.disks k ≡ Some d → d.honest ≡ true
    → sector_of m d s ≡ bytes
bytes_are v k s bytes m d long holds at there honest =
    sym (ap (λ (n : ℕ). held d.content (m.superblock.data_offset + s) n) long) ∙ holds d m there at honest

module _ (old start ready : MirrorView) (sound : IsConsistent old) (honest : AreHonest old.disks) (same : HoldsAsMuch old start) (sound_too : IsConsistent start) (honest_too : AreHonest start.disks)
    (resyncs : Resyncs start ready) (s : ℕ) (low : s < old.array.chunks.size) (bytes others : List ℕ) (long : length bytes ≡ 512) (as_long : length others ≡ 512) (other : IsHeld s others ready) where
  low_there : s < start.array.chunks.size
  low_there = subst (λ (a : ArrayView). s < a.chunks.size) (sym same.array) low

  after : AreHonest ready.disks × IsConsistent ready
  after = honest_after start ready sound_too honest_too resyncs

  left : LeavesSources start ready
  left = sources_left start ready sound_too honest_too resyncs

  -- the device of the member that the read gave it from
  device : (e : Disk) × (slice_get ready.disks other.from ≡ Some e)
  device =
      let there = slice_get_within ready.array.members other.from other.is.member other.is.at in
      let many = after.1.fits.as_many in
      got_within ready.disks other.from (omega arith)

  served : IsHonestMember ready other.from other.is.member device.0
  served = record {
    in_sync = record { member = other.is.at; in_sync = (in_sync_as other.role other.is.member.state other.is.in_sync).0 };
    disk = device.1;
    honest = after.0 other.from device.0 device.1;
  }

  others_are : sector_of other.is.member device.0 s ≡ others
  others_are = bytes_are ready other.from s others other.is.member device.0 as_long other.holds other.is.at device.1 served.honest

  device_of : (k : ℕ) (m : MemberView) → IsMember old.array k m → (d : Disk) × (slice_get old.disks k ≡ Some d)
  device_of k m at =
      let there = slice_get_within old.array.members k m at in
      let many = sound.fits.as_many in
      got_within old.disks k (omega arith)

  pub source_read : IsHeldBySource s bytes old → others ≡ bytes
  source_read h =
      let m = h.source.member in
      let d = device_of h.from m h.source.at in
      let e = device_there old start same h.from d.0 d.1 in
      let at = subst (λ (a : ArrayView). IsMember a h.from m) (sym same.array) h.source.at in
      sym others_are
      ∙ left.marked s h.from other.from m other.is.member e.0 device.0 low_there (subst (λ (a : ArrayView). IsSectorMarked a s) (sym same.array) h.marked)
      (subst (λ (a : ArrayView). IsSource h.from s a) (sym same.array) h.source) at e.1 served other.unlisted
      ∙ sector_same old start same h.from s m d.0 e.0 d.1 e.1
      ∙ bytes_are old h.from s bytes m d.0 long h.holds h.source.at d.1 (honest h.from d.0 d.1)

  pub unmarked_read : IsHeldUnmarked s bytes old → AllAgreeAt old s → others ≡ bytes
  unmarked_read h agree =
      let x = was_member in
      let m = h.held.is.member in
      let d = device_of h.held.from m h.held.is.at in
      let f = device_of other.from x.0 x.1 in
      let e = device_there old start same other.from f.0 f.1 in
      let at = subst (λ (a : ArrayView). IsMember a other.from x.0) (sym same.array) x.1 in
      let is = resynced_member start ready resyncs other.from x.0 other.is.member at other.is.at in
      let on : IsInSync old.array other.from x.0 = record {
        member = x.1;
        in_sync = ap (λ (y : MemberView). is_in_sync y.state) (sym is) ∙ served.in_sync.in_sync;
      } in
      let free : Lists x.0 s → ⊥ = λ lists. other.unlisted (subst (λ (y : MemberView). Lists y s) (sym is) lists) in
      sym others_are
      ∙ left.unmarked s other.from x.0 other.is.member e.0 device.0 low_there (subst (λ (a : ArrayView). IsUnmarkedAt a s) (sym same.array) h.unmarked) at e.1 served
      ∙ sector_same old start same other.from s x.0 f.0 e.0 f.1 e.1
      ∙ agree other.from h.held.from x.0 m f.0 d.0 (record { in_sync = on; disk = f.1; honest = honest other.from f.0 f.1 })
      (record { in_sync = record { member = h.held.is.at; in_sync = (in_sync_as h.held.role m.state h.held.is.in_sync).0 }; disk = d.1; honest = honest h.held.from d.0 d.1 })
      free h.held.unlisted
      ∙ bytes_are old h.held.from s bytes m d.0 long h.held.holds h.held.is.at d.1 (honest h.held.from d.0 d.1)
    where
      -- that member before the resync
      was_member : (m : MemberView) × IsMember old.array other.from m
      was_member =
          let there = slice_get_within ready.array.members other.from other.is.member other.is.at in
          let many = resynced_many start ready resyncs in
          let as_many = ap (λ (a : ArrayView). length a.members) same.array in
          got_within old.array.members other.from (omega arith)

pub reads_as_resynced : ReadsAsResynced
reads_as_resynced old new sector bytes sound honest reads start ready later others same sound_too honest_too resyncs read as_many i low agree =
    let s : ℕ = sector + i in
    let inside = reads.may.range.inside in
    let here : s < old.array.chunks.size = omega arith in
    let many : length others / 512 ≡ length bytes / 512 = ap (λ n. n / 512) as_many in
    let other = sector_held sector others ready later read.given i (omega arith) in
    let long = length-part bytes (512 * i) 512 (omega arith) in
    let as_long = length-part others (512 * i) 512 (omega arith) in
    let given = subst (λ (b : List ℕ). IsHeldPart s (held b i 512) old) (sym reads.given.joined)
    (parts_held sector reads.given.runs old new reads.given.in_turn i (let all = ap length reads.given.joined in omega arith)) in
    elim given [
      | inl h ↦ source_read old start ready sound honest same sound_too honest_too resyncs s here (held bytes i 512) (held others i 512) long as_long other h
      | inr h ↦ unmarked_read old start ready sound honest same sound_too honest_too resyncs s here (held bytes i 512) (held others i 512) long as_long other h (agree h.unmarked)
    ]
