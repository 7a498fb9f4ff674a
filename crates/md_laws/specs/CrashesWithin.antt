-- What a crash within a call leaves of a mirror's devices.
use Rattle.std.specs.Prelude.{Bool, ◌≡◌, ◌≢◌, ◌⊎◌, ℕ, ◌+◌, ◌<◌, true, List, [], ◌∷◌, ◌++◌, drop, length, map, slice_get, Some}
use Rattle.std.specs.List.{insert}
use Rattle.md_badblocks.specs.Log.{log_bytes}
use Rattle.md_device.specs.Device.{held, written}
use Rattle.md_create.specs.Layout.{IsHalfLaidOut}
use Rattle.md_members.specs.DeviceWrites.Writes.{IsAnyIn, IsCutShort, Write, after as content_after}
use Rattle.md_model.specs.Events.{Event}
use Rattle.md_faults.specs.declared.add_fault.AddFault.{AddFault}
use Rattle.md_faults.specs.declared.add_fault.AddFault.TheVariants.{WriteFault}
use Rattle.md_faults.specs.declared.re_add_fault.ReAddFault.{ReAddFault}
use Rattle.md_faults.specs.declared.re_add_fault.ReAddFault.TheVariants as re_add_fault
use Rattle.md_kept_members.specs.Enrolling.{log_room}
use Rattle.md_kept_members.specs.TakingBack.{own_role}
use Rattle.md_kept_members.specs.View.{MemberView}
use Rattle.md_kept_members.specs.Membership.Joining.{joined_shared}
use Rattle.md_kept_members.specs.OnDevices.Superblocks.{write_of}
use Rattle.md_kept_members.specs.OnDevices.Storing.{sector_from_super}
use Rattle.md_state.specs.View.{Disk, MirrorView}
use Rattle.md_state.specs.DiskWrites.{IsFailed, IsTried, IsWritten}
use Rattle.md_state.specs.Steps.Remove.{Removes}
use Rattle.md_state.specs.Trying.{FailsWriting}
use Rattle.md_array.specs.Steps.Add.{Adds, FailsToAdd, RefusesAdd}
use Rattle.md_array.specs.Steps.Enrol.{Enrols, FailsToEnrol}
use Rattle.md_array.specs.Steps.EnrolEvents.{Prepares}
use Rattle.md_array.specs.Events.{ComesLast, IsSameBesideMarks, IsSameBesideUnsaid, WritesOnce}
use Rattle.md_array.specs.Steps.Fill.{Fills}
use Rattle.md_array.specs.Steps.StoreLog.{StoresLog}
use Rattle.md_array.specs.Steps.ReAdd.{FailsToReAdd, ReAdds, RefusesReAdd}
use Rattle.md_array.specs.Steps.Record.{super_write}
use Rattle.md_array.specs.Worlds.{AreHonest}

-- A crash since the device was d, and until it was e, might have left this.
abbrev pub MayBeLeft : Disk → Disk → List ℕ → Type 0
MayBeLeft d e left = (left ≡ d.content) ⊎ ((i : ℕ) × (slice_get (drop (length d.crashes) e.crashes) i ≡ Some left))

-- Each device is as a crash between the two might have left it. Nothing is said of the order between calls on
-- two of them.
pub record MayAllBeLeft (before after : List Disk) (left : List (List ℕ)) : Type 0 where
  pub as_many : length left ≡ length before
  pub each : (k : ℕ) (d e : Disk) (c : List ℕ) → slice_get before k ≡ Some d → slice_get after k ≡ Some e → slice_get left k ≡ Some c → MayBeLeft d e c

-- Each device but k is as it was, and of k this holds.
pub record IsLeftBut (k : ℕ) (P : List ℕ → List ℕ → Type 0) (before : List Disk) (left : List (List ℕ)) : Type 0 where
  pub as_many : length left ≡ length before
  pub others : (j : ℕ) → j ≢ k → (d : Disk) (c : List ℕ) → slice_get before j ≡ Some d → slice_get left j ≡ Some c → c ≡ d.content
  pub this : (d : Disk) (c : List ℕ) → slice_get before k ≡ Some d → slice_get left k ≡ Some c → P d.content c

-- A crash at any moment of a call that uses no device leaves each as it was.
abbrev pub CrashesInMemory : Type 0
CrashesInMemory =
    (disks : List Disk) (left : List (List ℕ)) → MayAllBeLeft disks disks left → left ≡ map (λ d. d.content) disks

-- A crash within `remove` leaves each device as it was. The device that is handed back counts as one that
-- stands where it stood before.
abbrev pub CrashesAtRemoval : Type 0
CrashesAtRemoval =
    (k : ℕ) (disk : Disk) (old new : MirrorView) (left : List (List ℕ)) → Removes k disk old new → MayAllBeLeft old.disks (insert new.disks k disk) left
    → left ≡ map (λ d. d.content) old.disks

-- A crash at any moment of `re_add` leaves each device of the array as it was. The one that is taken back,
-- which stands after them, it leaves with each sector of its superblock as it was or as written.
abbrev pub CrashesAtReAdd : Type 0
CrashesAtReAdd =
    (k : ℕ) (device : Disk) (old new : MirrorView) (left : List (List ℕ)) → AreHonest old.disks → device.honest ≡ true → (r : ReAdds k device old new)
    → MayAllBeLeft (old.disks ++ device ∷ []) new.disks left
    → IsLeftBut (length old.disks) (λ was c. IsCutShort was (super_write new.array r.recorded.takes.member ∷ []) c) (old.disks ++ device ∷ []) left

-- A crash within a `re_add` of which the write fails leaves the device that is taken back as it was, or with
-- any bytes in the superblock's range.
abbrev pub CrashesAtFailedReAdd : Type 0
CrashesAtFailedReAdd =
    (device given : Disk) (old new : MirrorView) (left : List (List ℕ)) → device.honest ≡ true → (f : FailsToReAdd device given old new)
    → MayAllBeLeft (old.disks ++ device ∷ []) (new.disks ++ given ∷ []) left
    → IsLeftBut (length old.disks) (IsAnyIn (write_of (joined_shared old.array.shared old.array.members f.fails.member.superblock.dev_number (own_role f.info.superblock)) f.fails.member))
    (old.disks ++ device ∷ []) left

-- A crash within a `re_add` that is refused for any other reason leaves each device as it was.
abbrev pub CrashesAtRefusedReAdd : Type 0
CrashesAtRefusedReAdd =
    (device given : Disk) (old new : MirrorView) (left : List (List ℕ)) (fault : ReAddFault) → fault ≢ re_add_fault.WriteFault → device.honest ≡ true
    → RefusesReAdd device given old new fault → MayAllBeLeft (old.disks ++ device ∷ []) (new.disks ++ given ∷ []) left
    → IsLeftBut (length old.disks) (λ was c. c ≡ was) (old.disks ++ device ∷ []) left

-- A crash at any moment of `add` leaves each device of the array as it was. The new one, which stands after
-- them, it leaves as it was, as laid out, or half laid out.
abbrev pub CrashesAtAdd : Type 0
CrashesAtAdd =
    (k : ℕ) (device : Disk) (old new : MirrorView) (left : List (List ℕ)) → device.honest ≡ true → (r : Adds k device old new)
    → MayAllBeLeft (old.disks ++ device ∷ []) new.disks left
    → IsLeftBut (length old.disks) (λ was c. IsHalfLaidOut was r.comes.laid c) (old.disks ++ device ∷ []) left

-- The first of these writes were done, and the next of them was cut short. Or all of them were done, and then
-- one failed.
abbrev pub IsLeftFailing : List Write → Write → List ℕ → List ℕ → Type 0
IsLeftFailing done failed old left = IsCutShort old done left ⊎ IsAnyIn failed (content_after old done) left

-- A crash within an `add` of which a write fails leaves of the new device what the writes before it leave, or
-- any bytes in its range.
abbrev pub CrashesAtFailedAdd : Type 0
CrashesAtFailedAdd =
    (device given : Disk) (old new : MirrorView) (left : List (List ℕ)) → device.honest ≡ true → (f : FailsToAdd device given old new)
    → MayAllBeLeft (old.disks ++ device ∷ []) (new.disks ++ given ∷ []) left
    → IsLeftBut (length old.disks) (IsLeftFailing f.fails.writes.done f.fails.writes.tried) (old.disks ++ device ∷ []) left

-- A crash within an `add` that is refused for any other reason leaves each device as it was.
abbrev pub CrashesAtRefusedAdd : Type 0
CrashesAtRefusedAdd =
    (device given : Disk) (old new : MirrorView) (left : List (List ℕ)) (fault : AddFault) → fault ≢ WriteFault → RefusesAdd device given old new fault
    → MayAllBeLeft (old.disks ++ device ∷ []) (new.disks ++ given ∷ []) left → left ≡ map (λ d. d.content) (old.disks ++ device ∷ [])

-- A crash at any moment of a step that writes to device k leaves every other as it was, and k with each sector
-- of the write as it was or as written.
abbrev pub CrashesAtWrite : Type 0
CrashesAtWrite =
    (k : ℕ) (w : Write) (before after : List Disk) (left : List (List ℕ)) → AreHonest before → IsWritten k w before after → MayAllBeLeft before after left
    → IsLeftBut k (λ old c. IsCutShort old (w ∷ []) c) before left

-- Where a step writes one sector to device k, a crash within it leaves that sector as it was or as written.
abbrev pub CrashesAtSector : Type 0
CrashesAtSector =
    (k : ℕ) (w : Write) (before after : List Disk) (left : List (List ℕ)) → length w.bytes ≡ 512 → AreHonest before → IsWritten k w before after → MayAllBeLeft before after left
    → IsLeftBut k (λ old c. (c ≡ old) ⊎ (c ≡ written old w.sector w.bytes)) before left

-- A crash within a step whose write to device k fails leaves every other as it was, and k with any bytes in
-- the write's range.
abbrev pub CrashesAtFailure : Type 0
CrashesAtFailure =
    (k : ℕ) (w : Write) (before after : List Disk) (left : List (List ℕ)) → AreHonest before → IsFailed k w before after → MayAllBeLeft before after left
    → IsLeftBut k (IsAnyIn w) before left

-- What a crash leaves within a write that fails, that write might leave at its end. It is a crash after the
-- event, over other bytes.
abbrev pub CrashesAsFailed : Type 0
CrashesAsFailed =
    (k : ℕ) (w : Write) (old new : MirrorView) (left : List (List ℕ)) → AreHonest old.disks → FailsWriting k w old new → MayAllBeLeft old.disks new.disks left
    → (other : MirrorView) × FailsWriting k w old other × (map (λ d. d.content) other.disks ≡ left)

-- What a crash leaves within a filling, another filling might leave at its end.
abbrev pub CrashesAsFilled : Type 0
CrashesAsFilled =
    (k : ℕ) (old new : MirrorView) (left : List (List ℕ)) → AreHonest old.disks → Fills k old new → MayAllBeLeft old.disks new.disks left
    → (other : MirrorView) × Fills k old other × (map (λ d. d.content) other.disks ≡ left)

-- What a crash leaves within a preparing, another preparing might leave at its end.
abbrev pub CrashesAsPrepared : Type 0
CrashesAsPrepared =
    (k : ℕ) (old new : MirrorView) (left : List (List ℕ)) → AreHonest old.disks → Prepares k old new → MayAllBeLeft old.disks new.disks left
    → (other : MirrorView) × Prepares k old other × (map (λ d. d.content) other.disks ≡ left)

-- A crash at any moment of `enrol` leaves every other device as it was, and that of the member with the first
-- of its writes done and the next one cut short.
abbrev pub CrashesAtEnrol : Type 0
CrashesAtEnrol =
    (k : ℕ) (copied lost : ℕ → Bool) (old new : MirrorView) (left : List (List ℕ)) → AreHonest old.disks → (r : Enrols k copied lost old new)
    → MayAllBeLeft old.disks new.disks left → IsLeftBut k (λ was c. IsCutShort was r.writes c) old.disks left

-- A crash within an `enrol` of which a write fails leaves every other device as it was. It leaves that of the
-- member with the writes before the failed one done, or cut short, or with any bytes in the failed one's
-- range.
abbrev pub CrashesAtFailedEnrol : Type 0
CrashesAtFailedEnrol =
    (k : ℕ) (copied lost : ℕ → Bool) (old new : MirrorView) (left : List (List ℕ)) → AreHonest old.disks → FailsToEnrol k copied lost old new
    → MayAllBeLeft old.disks new.disks left
    → IsLeftBut k (λ was c. (done : List Write) × (tried : Write) × IsLeftFailing done tried was c) old.disks left

-- What a crash leaves within a write to device k that is done, are devices of which k alone was written, in
-- the write's range. A torn write of data is such, too.
abbrev pub CrashesAsTried : Type 0
CrashesAsTried =
    (k : ℕ) (w : Write) (before after : List Disk) (left : List (List ℕ)) → AreHonest before → IsWritten k w before after → MayAllBeLeft before after left
    → (disks : List Disk) × IsTried k w before disks × (map (λ d. d.content) disks ≡ left)

-- Where a crash left all of a write's range as it was or all as written, it is before the write or after it. A
-- superblock is left so, unless eight sectors of two make one that can be decoded.
abbrev pub CrashesUndivided : Type 0
CrashesUndivided =
    (k : ℕ) (w : Write) (before after : List Disk) (left : List (List ℕ)) → AreHonest before → IsWritten k w before after → MayAllBeLeft before after left
    → ((d : Disk) (c : List ℕ) → slice_get before k ≡ Some d → slice_get left k ≡ Some c
    → (held c w.sector (length w.bytes) ≡ held d.content w.sector (length w.bytes)) ⊎ (held c w.sector (length w.bytes) ≡ w.bytes))
    → (left ≡ map (λ d. d.content) before) ⊎ (left ≡ map (λ d. d.content) after)

-- What a crash might have left of the devices of an event. A device that leaves is not used, and stands where
-- it stood. One that comes in or comes back stands after the others, before the event too.
abbrev pub MayBeLeftBy : (e : Event) (before after : List Disk) → WritesOnce e before after → List (List ℕ) → Type 0
MayBeLeftBy (Event.Remove k) before after w left = MayAllBeLeft before (insert after k w.was) left
MayBeLeftBy (Event.Add number new) before after w left = MayAllBeLeft (before ++ w.was ∷ []) after left
MayBeLeftBy (Event.ReAdd own offset device new) before after w left = MayAllBeLeft (before ++ w.was ∷ []) after left
MayBeLeftBy e before after w left = MayAllBeLeft before after left

-- The new device is left with some first of its writes done and the next one cut short.
abbrev pub IsLeftJoining : (before after : List Disk) → ComesLast before after → List (List ℕ) → Type 0
IsLeftJoining before after w left = IsLeftBut (length before) (λ was c. IsCutShort was w.writes c) (before ++ w.was ∷ []) left

-- What a crash leaves at a moment of the call of an event: what was there before it or what is after it, or its one write cut short.
-- Of a copy nothing is said here, as one write does many (`CopyCrashes`). Of a new device several writes are made. A member
-- that is filled is left as before it beside the chunks that it lacks, and one that is prepared, beside its bitmap and its log. Of the
-- write by which a member comes into sync nothing is said here: its call makes others before it (`CrashesAtEnrol`). Nor of one that spoils a
-- member, which is of several calls (`CrashesAsSpoiled`).
abbrev pub IsLeftBy : (e : Event) (before after : List Disk) → WritesOnce e before after → List (List ℕ) → Type 0
IsLeftBy (Event.Record k) before after once left = (w : Write) × IsWritten k w before after × IsLeftBut k (λ old c. IsCutShort old (w ∷ []) c) before left
IsLeftBy (Event.WriteMember n k) before after once left = (w : Write) × IsWritten k w before after × IsLeftBut k (λ old c. IsCutShort old (w ∷ []) c) before left
IsLeftBy (Event.StoreMarks k b) before after w left = (left ≡ map (λ d. d.content) before) ⊎ (left ≡ map (λ d. d.content) after)
IsLeftBy (Event.WriteFails k part) before after once left = (w : Write) × IsFailed k w before after × IsLeftBut k (IsAnyIn w) before left
IsLeftBy (Event.Copy from k s) before after w left = Unit {0}
IsLeftBy Event.Resynced before after w left = left ≡ map (λ d. d.content) before
IsLeftBy Event.Unresynced before after w left = left ≡ map (λ d. d.content) before
IsLeftBy (Event.Remove k) before after w left = left ≡ map (λ d. d.content) before
IsLeftBy (Event.Add number new) before after w left = IsLeftJoining before after w left
IsLeftBy (Event.ReAdd own offset device new) before after w left =
    IsLeftBut (length before) (λ was c. IsCutShort was (w.write ∷ []) c) (before ++ w.was ∷ []) left
IsLeftBy Event.MakeClean before after w left = left ≡ map (λ d. d.content) before
IsLeftBy (Event.Begin n p) before after w left = left ≡ map (λ d. d.content) before
IsLeftBy (Event.Finish n) before after w left = left ≡ map (λ d. d.content) before
IsLeftBy (Event.ClearIdle c) before after w left = left ≡ map (λ d. d.content) before
IsLeftBy (Event.Fail k) before after w left = left ≡ map (λ d. d.content) before
IsLeftBy (Event.Fill k) before after once left = IsLeftBut k (IsSameBesideUnsaid once.0 once.1) before left
IsLeftBy (Event.Prepare k) before after once left = IsLeftBut k (IsSameBesideMarks once.0) before left
IsLeftBy (Event.RecordTargetFails k) before after once left = (w : Write) × IsFailed k w before after × IsLeftBut k (IsAnyIn w) before left
IsLeftBy (Event.SpoilTarget k) before after w left = Unit {0}
IsLeftBy (Event.Enrol k role listed) before after w left = Unit {0}
IsLeftBy (Event.Admit k role listed) before after once left = (w : Write) × IsWritten k w before after × IsLeftBut k (λ old c. IsCutShort old (w ∷ []) c) before left
IsLeftBy (Event.Checkpoint k sure listed) before after once left = (w : Write) × IsWritten k w before after × IsLeftBut k (λ old c. IsCutShort old (w ∷ []) c) before left
IsLeftBy (Event.LowerOffset k s) before after w left = left ≡ map (λ d. d.content) before
IsLeftBy (Event.NoteBad k more) before after w left = left ≡ map (λ d. d.content) before
IsLeftBy (Event.StoreLog k listed) before after once left =
    (left ≡ map (λ d. d.content) before) ⊎ ((w : Write) × IsWritten k w before after × IsLeftBut k (λ old c. IsCutShort old (w ∷ []) c) before left)

abbrev pub CrashesAtEvents : Type 0
CrashesAtEvents =
    (e : Event) (before after : List Disk) (left : List (List ℕ)) → AreHonest before → (w : WritesOnce e before after) → MayBeLeftBy e before after w left
    → IsLeftBy e before after w left

-- The log that is written differs from what stands in its place in its first sector alone, as it does where neither has more than 64
-- entries.
abbrev pub DiffersInFirst : MemberView → List ℕ → Type 0
DiffersInFirst m old =
    (i : ℕ) → 0 < i → i < m.superblock.bblog_size → held old (sector_from_super m.superblock.bblog_offset + i) 512 ≡ held (log_bytes m.bad (log_room m.superblock)) i 512

-- A crash at any moment of a `store_log` that is done is before it or after it, where the log differs in its
-- first sector alone. Of a longer log that is cut short nothing is said.
abbrev pub CrashesAtLog : Type 0
CrashesAtLog =
    (k : ℕ) (old new : MirrorView) (left : List (List ℕ)) → AreHonest old.disks → (r : StoresLog k old new)
    → ((d : Disk) → slice_get old.disks k ≡ Some d → DiffersInFirst r.member d.content) → MayAllBeLeft old.disks new.disks left
    → (left ≡ map (λ d. d.content) old.disks) ⊎ (left ≡ map (λ d. d.content) new.disks)
