-- What `enrol` answers, by what was stored on the device.
use Rattle.std.proofs.Common.{◌≡◌, ℕ, ◌+◌, ◌<◌, Bool, cond, List, Result, Ok, Err, get_or, length, length-set, map, set, slice_get, Some, refl, sym, ap, ◌∙◌, subst, arith}
use Rattle.std.proofs.lemmas.List.{map-set}
use Rattle.std.proofs.lemmas.Option.{slice_get_within}
use Rattle.md_device.specs.declared.device.Device.{Ghosts}
use Rattle.md_super.specs.declared.superblock.Superblock.{Superblock}
use Rattle.md_super.specs.Merge.{merged}
use Rattle.md_bitmap.specs.declared.header.BitmapHeader.{BitmapHeader}
use Rattle.md_bitmap.specs.Sound.{IsSoundHeader}
use Rattle.md_members.specs.Reading.{BitmapStartsAt}
use Rattle.md_members.specs.DeviceWrites.Writes.{DoesWrites, FailsInWrites, IsKeptByWrites, Write}
use Rattle.md_assembly.proofs.Indices.{got_within}
use Rattle.md_kept_members.specs.Enrolling.{HasRoomFor}
use Rattle.md_kept_members.specs.Members.{made_due}
use Rattle.md_kept_members.specs.View.{MemberView}
use Rattle.md_kept_members.specs.Membership.Joining.{joined_shared}
use Rattle.md_kept_members.specs.OnDevices.Storing.{IsStorable, member_writes}
use Rattle.md_kept_members.specs.OnDevices.Superblocks.{IsReadable}
use Rattle.md_faults.specs.declared.enrol_fault.EnrolFault.{EnrolFault}
use Rattle.md_faults.specs.declared.enrol_fault.EnrolFault.TheVariants as fault
use Rattle.md_faults.specs.declared.enrol_fault.EnrolFault.TheVariants.{NoMemory}
use Rattle.std.specs.Prelude.{MatchResult}
use Rattle.md_state.specs.Steps.Enrol.{ComesWith, HasRoomInLog, MayTakeRole, enrolled, is_full_with}
use Rattle.md_state.specs.Headers.{IsHeaderFor}
use Rattle.md_state.specs.View.{ArrayView, Disk, MirrorView, disk_of, of_disks}
use Rattle.md_array.specs.Consistency.{IsConsistent}
use Rattle.md_array.specs.Steps.Enrol.{Enrols, FailsToEnrol, IsUsedAlone, KeepsData, RefusesEnrol, RefusesEnrolBut, RefusesTaking}
use Rattle.md_array.proofs.General.Indices.{got_other}
use Rattle.md_array.proofs.Rebuilding.EnrolledArray.{storable}
use Rattle.md_array.proofs.StepLemmas.OneWrite.{at_device, here}

-- ---- before anything is written
module _ (k role : ℕ) (copied lost : ℕ → Bool) (v : MirrorView) (c : IsConsistent v) (n : MemberView) (comes : ComesWith k role copied lost v.array n) where
  -- the header that is stored is sound
  pub header_sound : IsSoundHeader v.array.shared.size n.header.chunksize
  header_sound =
      let low = slice_get_within v.array.members k comes.member comes.at in
      let many = c.fits.as_many in
      let d = got_within v.disks k (omega arith) in
      subst (λ (h : BitmapHeader). IsSoundHeader v.array.shared.size h.chunksize) (sym comes.comes.header) (c.fits.each k d.0 comes.member d.1 comes.at).sound

  pub can_store : (d : Disk) → slice_get v.disks k ≡ Some d → IsStorable n d.content
  can_store d found = storable v c k comes.member n comes.list d comes.at comes.comes.superblock comes.comes.stored.chunks
      (subst (HasRoomFor n.superblock) (sym comes.comes.bad) (subst (λ (o : Superblock). HasRoomFor o comes.list) (sym comes.comes.superblock) comes.room)) found

-- what it answers, once it is known how the member is kept
module _ (k role : ℕ) (copied lost : ℕ → Bool) (old new : MirrorView) (n : MemberView) (may : MayTakeRole k old.array role) (comes : ComesWith k role copied lost old.array n) where
  -- its log has room, and memory was refused
  short_of_memory : new ≡ old → RefusesEnrol k copied lost old new NoMemory
  short_of_memory unchanged =
      let room : HasRoomInLog k copied lost old.array = record { member = comes.member; at = comes.at; list = comes.list; list_is = comes.list_is; room = comes.room } in
      record { unchanged = unchanged; reason = ((role, may), room) }

  pub refuses_taking : (f : EnrolFault) → RefusesTaking k copied lost old new f → RefusesEnrol k copied lost old new f
  refuses_taking fault.Halted r = absurd r
  refuses_taking fault.EventsFull r = absurd r
  refuses_taking (fault.LogFull j) r = absurd r
  refuses_taking fault.TargetFault r = r
  refuses_taking fault.NoMemory r = short_of_memory r

  pub refuses_taking_but : (f : EnrolFault) → RefusesTaking k copied lost old new f → RefusesEnrolBut k copied lost old new f
  refuses_taking_but fault.Halted r = absurd r
  refuses_taking_but fault.EventsFull r = absurd r
  refuses_taking_but (fault.LogFull j) r = absurd r
  refuses_taking_but fault.TargetFault r = r
  refuses_taking_but fault.NoMemory r = record { unchanged = r; reason = (role, may) }

  pub gives_taken : {T : Type 0} (r : Result T EnrolFault) → MatchResult r (λ _. Enrols k copied lost old new) (RefusesTaking k copied lost old new)
      → MatchResult r (λ _. Enrols k copied lost old new) (RefusesEnrol k copied lost old new)
  gives_taken (Ok x) is = is
  gives_taken (Err f) is = refuses_taking f is

  pub gives_taken_but : {T : Type 0} (r : Result T EnrolFault) → MatchResult r (λ _. Enrols k copied lost old new) (RefusesTaking k copied lost old new)
      → MatchResult r (λ _. Enrols k copied lost old new) (RefusesEnrolBut k copied lost old new)
  gives_taken_but (Ok x) is = is
  gives_taken_but (Err f) is = refuses_taking_but f is

-- ---- what is stored
-- the count and events_cleared in the header are those that are to come
pub header_enrolled : (a : ArrayView) (k role : ℕ) (n : MemberView) (h : BitmapHeader) (events cleared : ℕ) → events ≡ a.shared.events + 1
    → cleared ≡ cond (is_full_with a k n) (a.shared.events + 1) a.events_cleared
    → IsHeaderFor (record a { shared = record a.shared { events = events }; events_cleared = cleared }) n h → IsHeaderFor (enrolled a k n role) n h
header_enrolled a k role n h events cleared count since is = record {
  uuid = is.uuid;
  events = is.events ∙ count;
  events_cleared = is.events_cleared ∙ since;
  sync_size = is.sync_size;
  state = is.state;
  chunksize = is.chunksize;
  daemon_sleep = is.daemon_sleep;
  write_behind = is.write_behind;
  sectors_reserved = is.sectors_reserved;
  nodes = is.nodes;
  cluster_name = is.cluster_name;
  uuid_long = is.uuid_long;
  name_long = is.name_long;
  counts_fit = is.counts_fit;
  settings_fit = is.settings_fit;
}

-- in memory, once all is stored
pub enrolled_is : (a b : ArrayView) (k role : ℕ) (n : MemberView) (shared : Superblock) (full : Bool) → shared ≡ joined_shared a.shared a.members n.superblock.dev_number role → full ≡ is_full_with a k n
    → b ≡ record a { shared = shared; members = set (map made_due a.members) k n; events_cleared = cond full shared.events a.events_cleared } → b ≡ enrolled a k n role
enrolled_is a b k role n shared full same told is =
    is ∙ (λ i. record a { shared = same i; members = set (map made_due a.members) k n; events_cleared = cond (told i) (same i).events a.events_cleared })

-- ---- on the devices
module _ {D : Type 0} (g : Ghosts D) (devices : List D) (k : ℕ) (was : D) (read : was ≡ get_or devices k was) (low : k < length devices) (now : D) (n : MemberView)
    (kept : KeepsData n (disk_of g was) (disk_of g now)) where
  abbrev before : List Disk
  before = map (disk_of g) devices

  abbrev after : List Disk
  after = map (disk_of g) (set devices k now)

  used_alone : (Change : Disk → Disk → Type 0) → Change (disk_of g was) (disk_of g now) → IsUsedAlone k before after Change
  used_alone Change changed =
      let d = disk_of g was in
      let e = disk_of g now in
      rw (map-set (disk_of g) devices k now) (record {
        as_many = length-set before k e;
        others = λ j other. got_other before k j e other;
        change = at_device before k d e Change (here g devices k was read low) changed;
      })

  seen : IsKeptByWrites g was now → IsKeptByWrites of_disks (disk_of g was) (disk_of g now)
  seen stays = record { size = stays.size; honest_kept = stays.honest_kept; counted = stays.counted; grown = stays.grown }

  pub stored_alone : (writes : List Write) → DoesWrites g writes was now → IsUsedAlone k before after (λ d e. DoesWrites of_disks writes d e × KeepsData n d e)
  stored_alone writes does = used_alone (λ d e. DoesWrites of_disks writes d e × KeepsData n d e)
      (record { kept = seen does.kept; unfailing = does.unfailing; none_failed = does.none_failed; all_done = does.all_done; within = does.within }, kept)

  pub failed_alone : (writes : List Write) → FailsInWrites g writes was now → IsUsedAlone k before after (λ d e. FailsInWrites of_disks writes d e × KeepsData n d e)
  failed_alone writes stops = used_alone (λ d e. FailsInWrites of_disks writes d e × KeepsData n d e)
      (record { kept = seen stops.kept; failed = stops.failed; done = stops.done; tried = stops.tried; rest = stops.rest; order = stops.order; tried_alone_failed = stops.tried_alone_failed; outside = stops.outside; within = stops.within }, kept)

-- ---- the answers
module _ (k role : ℕ) (copied lost : ℕ → Bool) (old new : MirrorView) (n : MemberView) (may : MayTakeRole k old.array role) (comes : ComesWith k role copied lost old.array n)
    (start : ℕ) (starts : BitmapStartsAt n.superblock start) (h : BitmapHeader) (header : IsHeaderFor (enrolled old.array k n role) n h)
    (shared : Superblock) (same : shared ≡ joined_shared old.array.shared old.array.members n.superblock.dev_number role) where
  pub enrols_by : new.array ≡ enrolled old.array k n role → IsReadable (merged shared n.superblock)
      → IsUsedAlone k old.disks new.disks (λ d e. DoesWrites of_disks (member_writes start h shared n) d e × KeepsData n d e) → Enrols k copied lost old new
  enrols_by array readable disks =
      let fields : shared ≡ new.array.shared = same ∙ sym (ap (λ (x : ArrayView). x.shared) array) in
      record {
        role = role;
        may = may;
        member = n;
        comes = comes;
        array = array;
        readable = subst (λ (x : Superblock). IsReadable (merged x n.superblock)) fields readable;
        writes = member_writes start h shared n;
        are = record {
          start = start;
          starts = starts;
          header = h;
          header_is = subst (λ (x : ArrayView). IsHeaderFor x n h) (sym array) header;
          are = ap (λ (x : Superblock). member_writes start h x n) fields;
        };
        disks = disks;
      }

  pub fails_by : new.array ≡ old.array → IsReadable (merged shared n.superblock)
      → IsUsedAlone k old.disks new.disks (λ d e. FailsInWrites of_disks (member_writes start h shared n) d e × KeepsData n d e) → FailsToEnrol k copied lost old new
  fails_by array readable disks = record {
    role = role;
    may = may;
    member = n;
    comes = comes;
    array = array;
    readable = subst (λ (x : Superblock). IsReadable (merged x n.superblock)) same readable;
    writes = member_writes start h shared n;
    are = record { start = start; starts = starts; header = h; header_is = header; are = ap (λ (x : Superblock). member_writes start h x n) same };
    disks = disks;
  }
