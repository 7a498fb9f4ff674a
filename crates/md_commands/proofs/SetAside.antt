-- What members in sync do not give of marked chunks is set aside before a salvage.
use Rattle.std.proofs.Common.{◌≡◌, ◌∙◌, ◌⊎◌, ◌↔◌, ⊎_elim, inl, inr, ℕ, ◌+◌, ◌*◌, ◌^◌, ◌<◌, ◌≤◌, Bool, true, false, List, [], ◌∷◌, ◌++◌, length, length-set, slice_get, Result, Ok, Err, refl, sym, ap, subst, arith, true≢false}
use Rattle.std.specs.Prelude.{⊤, MatchResult, OnOk, is_ok}
use Rattle.std.proofs.lemmas.Option.{slice_get_within}
use Rattle.md_array.specs.Consistency.{IsConsistent}
use Rattle.md_array.specs.Steps.NoteBad.{RegardsSectors}
use Rattle.md_assembly.proofs.Indices.{got_within}
use Rattle.md_assembly.specs.States.{is_in_sync}
use Rattle.md_badblocks.specs.Runs.{IsBad}
use Rattle.md_badblocks.specs.declared.run.Run.{Run}
use Rattle.md_bitmap.specs.Marks.{is_set}
use Rattle.md_device.proofs.Failing.{fails_since, fails_still}
use Rattle.md_inflight.specs.Requests.Pending.{PendingView}
use Rattle.md_kept_members.specs.Enrolling.{HasRoomFor}
use Rattle.md_kept_members.specs.SectorLists.{in_runs}
use Rattle.md_kept_members.specs.View.{MemberView}
use Rattle.md_laws.proofs.Runs.Rests.{rests_same, rests_then}
use Rattle.md_metadata.proofs.Steps.{is_now}
use Rattle.md_metadata.specs.Storing.{IsRecording, StoresAll, StoringFails}
use Rattle.md_metadata.specs.StoringLists.{ListFails, StoresList}
use Rattle.md_metadata.specs.declared.fault.PartFault.{PartFault}
use Rattle.md_metadata.specs.declared.fault.PartFault.TheVariants as part
use Rattle.md_read.proofs.InRoles.{failed_of}
use Rattle.md_read.specs.Reading.{HasReadFailed, IsReadOfMember}
use Rattle.md_resync.proofs.CopiedChunks.{IsRange, of_range}
use Rattle.md_resync.specs.Copying.{IsInMarkedChunk}
use Rattle.md_resync.specs.declared.fault.ResyncFault.{ResyncFault}
use Rattle.md_resync.specs.declared.fault.ResyncFault.TheVariants.{Halted, InFlight, MemberFailed, NoMemory, ReadFault}
use Rattle.md_state.specs.Members.{IsMember}
use Rattle.md_state.specs.Requests.{IsPending}
use Rattle.md_state.specs.Rests.{Rests}
use Rattle.md_state.specs.Steps.ReadData.{FailsToRead, ReadsData}
use Rattle.md_state.specs.Steps.WriteMember.{IsNotDue}
use Rattle.md_state.specs.View.{ArrayView, MirrorView}
use Rattle.md_commands.specs.Resyncing.{RefusesNeededResync, ResyncsIfNeeded}
use Rattle.md_commands.specs.SettingAside.{FailsAsideOn, FailsAtPart, FailsToStoreFitting, FindsUngiven, HasRoomForList, IsUngiven, RefusesSalvageResync, RegardsUngiven, ResyncsToSalvage, SetsAside, SetsAsideAfter, SetsAsideOn, StoresIfFitting, StoresListThen, is_read_fault}
use Rattle.md_commands.proofs.RebuildPending.{none_pending}

-- ---- sectors are asked for at once
module _ (k s n : ℕ) (bytes : List ℕ) (old new : MirrorView) where
  pub asked_rests : {T E : Type 0} (r : Result T E) → MatchResult r (λ _. ReadsData k s bytes old new) (λ _. FailsToRead k s n old new) → Rests old new
  asked_rests (Ok x) h = h.rests
  asked_rests (Err e) h = h.rests

  pub asked_failed : {T E : Type 0} (r : Result T E) (sectors : ℕ) → n ≡ 512 * sectors → MatchResult r (λ _. ReadsData k s bytes old new) (λ _. FailsToRead k s n old new) → is_ok r ≡ false
      → HasReadFailed k s sectors old new
  asked_failed (Ok x) sectors long h fails = absurd (true≢false fails)
  asked_failed (Err e) sectors long h fails = failed_of k s n sectors old new h long

module _ (old mid new : MirrorView) (first : Rests old mid) (second : Rests mid new) (k s : ℕ) where
  failed_later : HasReadFailed k s 1 old mid → HasReadFailed k s 1 old new
  failed_later failed d f was is =
      let low = slice_get_within old.disks k d was in
      let many = first.disks.same.as_many in
      let e = got_within mid.disks k (omega arith) in
      let told = failed d e.0 was e.1 in
      let stays = second.disks.same.honest k e.0 f e.1 is in (
        λ honest. (let rose = told.0 honest in let counted = stays.counted in omega arith),
        λ m at. fails_still d.faults e.0.faults f.faults (IsReadOfMember m s 1) (λ _. ⊤) (told.1 m at) stays.grown,
      )

  failed_earlier : HasReadFailed k s 1 mid new → HasReadFailed k s 1 old new
  failed_earlier failed d f was is =
      let low = slice_get_within old.disks k d was in
      let many = first.disks.same.as_many in
      let e = got_within mid.disks k (omega arith) in
      let stays = first.disks.same.honest k d e.0 was e.1 in
      let told = failed e.0 f e.1 is in (
        λ honest. (let rose = told.0 (stays.honest ∙ honest) in let counted = stays.counted in omega arith),
        λ m at. fails_since d.faults e.0.faults f.faults (IsReadOfMember m s 1) (λ _. ⊤) stays.grown (told.1 m (ap (λ (a : ArrayView). slice_get a.members k) first.array ∙ at)),
      )

  ungiven_later : IsUngiven k s old mid → IsUngiven k s old new
  ungiven_later h = (h.0, failed_later h.1)

  ungiven_earlier : IsUngiven k s mid new → IsUngiven k s old new
  ungiven_earlier h = (subst (λ (a : ArrayView). IsInMarkedChunk a s) first.array h.0, failed_earlier h.1)

-- ---- sectors that are not given come together
pub found_none : (k : ℕ) (list : List Run) (old new : MirrorView) → FindsUngiven k list list old new
found_none k list old new s bad = inl bad

pub found_more : (old mid new : MirrorView) → Rests old mid → Rests mid new → (k : ℕ) (a b c : List Run) → FindsUngiven k a b old mid → FindsUngiven k b c mid new → FindsUngiven k a c old new
found_more old mid new first second k a b c early late s bad = elim (late s bad) [
  | inl before ↦ elim (early s before) [ inl was ↦ inl was | inr none ↦ inr (ungiven_later old mid new first second k s none) ]
  | inr none ↦ inr (ungiven_earlier old mid new first second k s none)
]

-- one that was asked for is added
pub found_one : (k sector : ℕ) (b c : List Run) (old new : MirrorView) → IsUngiven k sector old new
    → ((s : ℕ) → IsBad c s ↔ (IsBad b s ⊎ ((sector ≤ s) × (s < sector + 1) × (s < 2 ^ 54)))) → FindsUngiven k b c old new
found_one k sector b c old new none added s bad = elim ((added s).0 bad) [
  | inl was ↦ inl was
  | inr here ↦
      let from = here.0 in
      let below = here.1 in
      let same : sector ≡ s = omega arith in
      inr (subst (λ (t : ℕ). IsUngiven k t old new) same none)
]

-- the next one is added
pub found_next : (old mid new : MirrorView) → Rests old mid → Rests mid new → (k sector : ℕ) (a b c : List Run) → FindsUngiven k a b old mid → IsInMarkedChunk old.array sector → HasReadFailed k sector 1 mid new
    → ((s : ℕ) → IsBad c s ↔ (IsBad b s ⊎ ((sector ≤ s) × (s < sector + 1) × (s < 2 ^ 54)))) → FindsUngiven k a c old new
found_next old mid new first second k sector a b c early marked none added =
    found_more old mid new first second k a b c early
    (found_one k sector b c mid new (subst (λ (x : ArrayView). IsInMarkedChunk x sector) (sym first.array) marked, none) added)

-- sectors of a marked chunk, from one of them on
pub run_marked : (chunk start sectors : ℕ) (v : MirrorView) → IsConsistent v → IsRange v.array chunk start sectors → is_set v.array.marks.bytes chunk ≡ true
    → (sector end : ℕ) → start ≤ sector → end ≤ start + sectors → (s : ℕ) → sector ≤ s → s < end → IsInMarkedChunk v.array s
run_marked chunk start sectors v sound range marked sector end from inside s low below =
    let is = of_range chunk start sectors v sound range s (omega arith) (omega arith) in
    (is.0, subst (λ (c : ℕ). is_set v.array.marks.bytes c ≡ true) (sym is.1) marked)

pub all_ungiven : (k : ℕ) (none sectors : List Run) (old new : MirrorView) → none ≡ [] → FindsUngiven k none sectors old new → (s : ℕ) → IsBad sectors s → IsUngiven k s old new
all_ungiven k none sectors old new is found s bad = elim (found s bad) [
  | inl was ↦ absurd (subst (λ (xs : List Run). IsBad xs s) is was)
  | inr none ↦ none
]

-- ---- a member that regards them as bad
module _ (k : ℕ) (more : ℕ → Bool) (old new : MirrorView) (r : RegardsSectors k more old new) where
  pub regarded_members : length new.array.members ≡ length old.array.members
  regarded_members = ap (λ (a : ArrayView). length a.members) r.lists.array ∙ length-set old.array.members k (record r.lists.member { bad = r.lists.list })

  pub regarded_running : old.array.halted ≡ false → new.array.halted ≡ false
  regarded_running running = ap (λ (a : ArrayView). a.halted) r.lists.array ∙ running

  pub regarded_in_sync : ((m : MemberView) → IsMember old.array k m → is_in_sync m.state ≡ true) → (n : MemberView) → IsMember new.array k n → is_in_sync n.state ≡ true
  regarded_in_sync is n at =
      ap (λ (x : MemberView). is_in_sync x.state) (is_now old.array new.array k r.lists.member (record r.lists.member { bad = r.lists.list }) r.lists.at r.lists.array n at)
      ∙ is r.lists.member r.lists.at

-- ---- its list is stored
module _ (k : ℕ) (old recorded : MirrorView) (r : StoresAll IsRecording IsNotDue old recorded) where
  pub in_sync_then : ((m : MemberView) → IsMember old.array k m → is_in_sync m.state ≡ true) → (n : MemberView) → IsMember recorded.array k n → is_in_sync n.state ≡ true
  in_sync_then is n at =
      let stays = r.stores.ready.each k n at in
      ap (λ (x : MemberView). is_in_sync x.state) stays.same ∙ is stays.before stays.member

  pub room_then : HasRoomForList k old.array → HasRoomForList k recorded.array
  room_then room n at =
      let stays = r.stores.ready.each k n at in
      subst (λ (x : MemberView). HasRoomFor x.superblock x.bad) (sym stays.same) (room stays.before stays.member)

pub stored_or_not : (k : ℕ) (old recorded new : MirrorView) → StoresAll IsRecording IsNotDue old recorded → (r : Result (Unit {0}) PartFault)
    → MatchResult r (λ _. StoresList k recorded new) (ListFails k recorded new) → MatchResult r (λ _. StoresListThen k old new) (FailsAtPart k old new)
stored_or_not k old recorded new records (Ok x) h = record { recorded = recorded; records = records; stores = h }
stored_or_not k old recorded new records (Err why) h = inr (recorded, records, h)

pub stored_sound : (k : ℕ) (recorded new : MirrorView) → (r : Result (Unit {0}) PartFault) → MatchResult r (λ _. StoresList k recorded new) (ListFails k recorded new) → IsConsistent new
stored_sound k recorded new (Ok x) h = h.goes.sound
stored_sound k recorded new (Err part.Halted) h = h.halts.sound
stored_sound k recorded new (Err (part.MemberFailed j)) h = h.1.loses.goes.sound

pub unrecorded_sound : (why : PartFault) (old new : MirrorView) → StoringFails IsRecording old new why → IsConsistent new
unrecorded_sound part.Halted old new h = h.halts.sound
unrecorded_sound (part.MemberFailed k) old new h = h.loses.goes.sound

-- the mirror runs on
pub running_then : (k : ℕ) (old new : MirrorView) → StoresListThen k old new → old.array.halted ≡ false → new.array.halted ≡ false
running_then k old new s running = ap (λ (a : ArrayView). a.halted) s.stores.array.array ∙ (s.records.stores.ready.halted ∙ running)

pub members_then : (k : ℕ) (old new : MirrorView) → StoresListThen k old new → length new.array.members ≡ length old.array.members
members_then k old new s = s.stores.goes.array.as_many ∙ s.records.stores.goes.array.as_many

-- ---- member after member
pub listed_or_not : (k : ℕ) (old regarded new : MirrorView) → RegardsUngiven k old regarded → (r : Result (Unit {0}) ResyncFault)
    → MatchResult r (λ _. StoresIfFitting k regarded new) (FailsToStoreFitting k regarded new) → MatchResult r (λ _. SetsAsideOn k old new) (FailsAsideOn k old new)
listed_or_not k old regarded new regards (Ok x) h = inr (record { regarded = regarded; regards = regards; stores = h })
listed_or_not k old regarded new regards (Err fault) h = inr (regarded, regards, h)

pub on_ok_then : {T E : Type 0} (r : Result T E) (old mid new : ℕ) → mid ≡ old → OnOk r (new ≡ mid) → OnOk r (new ≡ old)
on_ok_then (Ok x) old mid new first h = h ∙ first
on_ok_then (Err e) old mid new first h = tt

pub aside_then : (ks : List ℕ) (k : ℕ) (old mid new : MirrorView) → SetsAside ks old mid → SetsAsideOn k mid new → SetsAside (ks ++ k ∷ []) old new
aside_then [] k old mid new is on = (new, subst (λ (v : MirrorView). SetsAsideOn k v new) is on, refl)
aside_then (j ∷ ks) k old mid new h on = (h.0, h.1, aside_then ks k h.0 mid new h.2 on)

-- ---- the resync that ended at a read
pub unread_running : (fault : ResyncFault) (old new : MirrorView) → is_read_fault fault ≡ true → RefusesNeededResync old new fault → new.array.halted ≡ false
unread_running Halted old new is h = absurd (true≢false (sym is))
unread_running (InFlight n) old new is h = absurd (true≢false (sym is))
unread_running NoMemory old new is h = absurd (true≢false (sym is))
unread_running (ReadFault k c) old new is h = h.refused.then.stops.running
unread_running (MemberFailed k) old new is h = absurd (true≢false (sym is))

-- nothing was in flight
pub unread_idle : (fault : ResyncFault) (old new : MirrorView) → is_read_fault fault ≡ true → RefusesNeededResync old new fault → (p : PendingView) → IsPending old.array p → ⊥
unread_idle Halted old new is h p there = absurd (true≢false (sym is))
unread_idle (InFlight n) old new is h p there = absurd (true≢false (sym is))
unread_idle NoMemory old new is h p there = absurd (true≢false (sym is))
unread_idle (ReadFault k c) old new is h p there =
    none_pending h.refused.told.array p h.refused.then.stops.idle (h.refused.tells.goes.pending p there)
unread_idle (MemberFailed k) old new is h p there = absurd (true≢false (sym is))

-- the second one
pub anew_or_not : (old aside new : MirrorView) → SetsAsideAfter old aside → (r : Result (Unit {0}) ResyncFault) → MatchResult r (λ _. ResyncsIfNeeded aside new) (RefusesNeededResync aside new)
    → MatchResult r (λ _. ResyncsToSalvage old new) (RefusesSalvageResync old new)
anew_or_not old aside new sets (Ok x) h = inr (aside, sets, h)
anew_or_not old aside new sets (Err fault) h = inr (inr (aside, sets, h))
