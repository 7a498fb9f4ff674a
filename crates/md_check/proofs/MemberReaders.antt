-- Readers stand for the members of a mirror.
use Rattle.std.proofs.Common.{◌≡◌, ℕ, ◌+◌, ◌<◌, ◌≤◌, ◌↔◌, Bool, true, false, List, length, map, get_or, is_some, Some, refl, ap, sym, ◌∙◌, subst, arith, slice_get, option_map}
use Rattle.std.specs.List.{All}
use Rattle.std.proofs.lemmas.List.{length-map}
use Rattle.std.proofs.lemmas.Option.{get_or_from_slice_get, slice_get-get_or, slice_get-map, slice_get_within}
use Rattle.md_device.specs.Device.{held}
use Rattle.md_device.specs.Splice.{part}
use Rattle.md_device.specs.declared.device.Device.{Ghosts}
use Rattle.md_device.specs.Crashes.{LeavesMore}
use Rattle.md_device.proofs.Leaving.{leaves_none}
use Rattle.md_bitmap.specs.Marks.{Bitmap, count_set, is_set}
use Rattle.md_badblocks.specs.declared.run.Run.{Run}
use Rattle.md_badblocks.specs.Runs.{IsBad}
use Rattle.md_bitmap.specs.declared.chunks.Chunks.{Chunks}
use Rattle.md_collect.specs.Reading.{CountsFailure}
use Rattle.md_streams.specs.declared.gate.Gate.{Ghosts as Gates}
use Rattle.md_assembly.specs.States.{is_in_sync, is_in_sync_as}
use Rattle.md_assembly.proofs.Indices.{got_same, got_within}
use Rattle.md_kept_members.specs.View.{MemberView}
use Rattle.md_collect.specs.Workers.Queues.{OnlyRead}
use Rattle.md_state.specs.DeviceChanges.{EachPair, IsUntouched, LeavesAsWas, StaysHonest}
use Rattle.md_state.specs.Steps.CopyData.{Lists}
use Rattle.md_state.specs.Steps.MakeClean.{IsIdle}
use Rattle.md_state.specs.Members.{IsAlone, IsMember}
use Rattle.md_state.specs.Rests.{Rests}
use Rattle.md_state.specs.View.{ArrayView, Disk, MirrorView, disk_of, of_disks}
use Rattle.md_array.specs.Consistency.{IsConsistent}
use Rattle.md_array.specs.Steps.Lend.{AreBack}
use Rattle.md_array.specs.Worlds as worlds
use Rattle.md_array.proofs.Worlds.SectorCopied.{in_sync_as}
use Rattle.md_check.specs.declared.lent.Missed.{Missed}
use Rattle.md_check.specs.declared.order.Order.{Order}
use Rattle.md_check.specs.declared.reader.Reader.{Reader}
use Rattle.md_collect.specs.declared.found.Comparison.{Comparison}
use Rattle.md_collect.specs.declared.found.Pair.{Pair}
use Rattle.md_check.specs.Checking.{AreBetween, Checks, ComparesMembers, FailsChecking, FindsMismatches, FindsOfPairs, IsToldOfMembers, UsesInSync}
use Rattle.md_check.specs.Differences.{AreCompared, AreDifferent, DifferIn, IsEmpty}
use Rattle.md_collect.specs.Found.{IsSized}
use Rattle.md_check.specs.Mismatches.{Mismatches, MismatchesBetween, Shows}
use Rattle.md_check.specs.Pairs.{pair_names, pairs_in_sync}
use Rattle.md_check.specs.Plans.{AreOrders, IsReaderOf}
use Rattle.md_check.specs.Readings.{FailsUnlisted, MissesChunk, MissesIn}
use Rattle.md_check.specs.Readers.{AreReadersHonest, AreReadersRead, HaveNotFailed, HasDataOnDevice, OnlyReaderRead, ReaderShows, on_device}
use Rattle.md_check.specs.Told.{IsToldOfReader}
use Rattle.md_check.proofs.ChunkFaults.{listed_less}
use Rattle.md_check.proofs.Compared.{names_stay, pairs_stay, still_sized}
use Rattle.md_check.proofs.Differing.{between_as, differ_as}
use Rattle.md_state.proofs.Stays.{stays_read, stays_same}

-- where at most one member is in sync no two differ
pub alone_same : (disks : List Disk) (a : ArrayView) (c : ℕ) → IsAlone a → Mismatches disks a c → ⊥
alone_same disks a c alone m =
    let d = m.differ in
    let one = d.between.shows in
    let other = d.between.shows_other in
    let same : d.one ≡ d.other = alone d.one d.other one.member other.member one.in_sync other.in_sync in
    let member : one.member ≡ other.member = got_same a.members d.other one.member other.member (subst (λ k. slice_get a.members k ≡ Some one.member) same one.in_sync.member) other.in_sync.member in
    let disk : one.disk ≡ other.disk = got_same disks d.other one.disk other.disk (subst (λ k. slice_get disks k ≡ Some one.disk) same one.there) other.there in
    d.between.differ
    (sym one.is ∙ ap (λ (x : Disk). held x.content (one.member.superblock.data_offset + m.sector) 512) disk
    ∙ ap (λ (x : MemberView). held other.disk.content (x.superblock.data_offset + m.sector) 512) member ∙ other.is)

-- a read of unlisted sectors that failed on a device, as it is seen of the mirror
shown_there : {D : Type 0} (g : Ghosts D) (d e : Disk) (x y : D) (own offset chunk : ℕ) (chunks : Chunks) (P Q : ℕ → Type 0) → d ≡ disk_of g x → e ≡ disk_of g y → own ≡ offset → ((s : ℕ) → Q s → P s)
    → FailsUnlisted g x y own chunks P chunk → FailsUnlisted of_disks d e offset chunks Q chunk
shown_there g d e x y own offset chunk chunks P Q was now same less fails = rw (was, now, ← same) (listed_less (g.faults x) (g.faults y) own chunks P Q chunk less fails)

-- a device that was only read
module _ {D : Type 0} {g : Ghosts D} (d e : Disk) (x y : D) (was : d ≡ disk_of g x) (now : e ≡ disk_of g y) (only : OnlyRead g x y) where
  stays : StaysHonest d e
  stays = rw (was, now) (stays_read g x y only.honest_kept only.counted only.reads_alone)

  leaves : LeavesAsWas d e
  leaves = rw (was, now) only.crashes

-- nothing was done
pub rests_alone : (v : MirrorView) → Rests v v
rests_alone v = record {
  array = refl;
  disks = record {
    same = record { as_many = refl; honest = λ k d e at there. subst (StaysHonest d) (got_same v.disks k d e at there) (stays_same d) };
    content = λ k d e at there. ap (λ (x : Disk). x.content) (got_same v.disks k e d there at);
    within = λ k d e at there _. subst (λ (x : Disk). LeavesMore d.crashes x.crashes (λ left. left ≡ d.content)) (got_same v.disks k d e at there) (leaves_none d.crashes (λ left. left ≡ d.content));
  };
}

no_mark : (b : Bool) → b ≡ true → b ≡ false → ⊥
no_mark b t f = cc

some_two : (disks : List Disk) (a : ArrayView) (one other c : ℕ) → MismatchesBetween disks a one other c → Mismatches disks a c
some_two disks a one other c m = record { sector = m.sector; inside = m.inside; differ = record { one = one; other = other; between = m.differ } }

-- with one member in sync each set is empty
pub finds_alone : (v : MirrorView) (found : Comparison) → IsAlone v.array → IsEmpty found → FindsOfPairs found found v v
finds_alone v found alone empty = record {
  kept = pairs_stay found;
  rests = rests_alone v;
  uses = record { others = λ k m at away. refl; alone = λ _. refl };
  unfailing = λ k d e at there. ap (λ (x : Disk). x.failures) (got_same v.disks k e d there at);
  bits = λ honest c. (λ e. absurd (no_mark (is_set found.chunks.bytes c) e (empty.none c)), λ m. absurd (alone_same v.disks v.array c alone m));
  between = λ honest p d below c.
      let pair = get_or found.pairs.items p d in (
        λ e. absurd (no_mark (is_set pair.chunks.bytes c) e (empty.pairs_none p d below c)),
        λ m. absurd (alone_same v.disks v.array c alone (some_two v.disks v.array pair.one pair.other c m)),
      );
}

-- the chunks that were found, where there were none, are the set
pub finds : (old new : MirrorView) (before after : Comparison) → IsConsistent old → IsIdle old.array → IsSized old.array.chunks before → FindsOfPairs before after old new → FindsMismatches old new after.chunks
finds old new before after sound idle sized found = record {
  idle = idle;
  rests = found.rests;
  uses = found.uses;
  unfailing = found.unfailing;
  chunks = found.kept.chunks ∙ sized.sized ∙ sym sound.chunks.count;
  bits = found.bits;
}

-- so are they of each two members in sync, where each two were a pair before
pub compares : (old new : MirrorView) (before after : Comparison) → IsConsistent old → IsIdle old.array → IsSized old.array.chunks before → pair_names before.pairs.items ≡ pairs_in_sync old.array → FindsOfPairs before after old new
    → ComparesMembers old new after
compares old new before after sound idle sized all found = record {
  finds = finds old new before after sound idle sized found;
  pairs = names_stay before after found.kept ∙ all;
  sized = λ p d below. (still_sized old.array.chunks before after found.kept sized).pairs_sized p d below ∙ sym sound.chunks.count;
  between = found.between;
}

-- the set's number is the count
pub counts_set : (old new : MirrorView) (set : Bitmap) (n : ℕ) → FindsMismatches old new set → n ≡ count_set set.bytes set.chunks → Checks old new n
counts_set old new set n found is = record {
  idle = found.idle;
  rests = found.rests;
  uses = found.uses;
  unfailing = found.unfailing;
  counts = λ honest. record { set = set; chunks = found.chunks; bits = found.bits honest; is = is };
}

pub devices_many : {D : Type 0} (g : Ghosts D) (old : MirrorView) → IsConsistent old → (room : ℕ) (devices : List D) (orders : List Order) → map (disk_of g) devices ≡ old.disks → AreOrders old.array room orders → length devices ≡ length orders
devices_many g old sound room devices orders out ordered = sym (length-map devices (disk_of g)) ∙ ap length out ∙ sound.fits.as_many ∙ sym ordered.as_many

module _ {D : Type 0} (g : Ghosts D) (old : MirrorView) (sound : IsConsistent old) (room : ℕ) (devices : List D) (orders : List Order) (readers : List (Reader D))
    (out : map (disk_of g) devices ≡ old.disks) (ordered : AreOrders old.array room orders) (many : length readers ≡ length orders)
    (read_here : (k : ℕ) (order : Order) (device : D) (reader : Reader D) → k < length orders → IsReaderOf (get_or orders k order) (get_or devices k device) (get_or readers k reader)) where
  members_many : length old.array.members ≡ length readers
  members_many = sym ordered.as_many ∙ sym many

  disks_many : length old.disks ≡ length readers
  disks_many = sound.fits.as_many ∙ members_many

  -- reader k stands for member k, on its device
  record StandsFor (k : ℕ) (reader : Reader D) (disk : Disk) (m : MemberView) : Type 0 where
    disk_is : disk ≡ disk_of g reader.device
    reads : is_some reader.role ≡ is_in_sync m.state
    role : (role : ℕ) → is_in_sync_as role m.state ≡ true → role < 256 → reader.role ≡ Some role
    offset : reader.offset ≡ m.superblock.data_offset
    listed : (s : ℕ) → IsBad reader.listed s ↔ IsBad m.bad (m.superblock.data_offset + s)
    room_is : length reader.bytes.items ≡ room

  stands : (k : ℕ) (reader : Reader D) (disk : Disk) (m : MemberView) → slice_get readers k ≡ Some reader → slice_get old.disks k ≡ Some disk → IsMember old.array k m → StandsFor k reader disk m
  stands k reader disk m at_reader at_disk at_member =
      let within : k < length readers = slice_get_within readers k reader at_reader in
      let low : k < length orders = omega (arith, many, within) in
      let order = got_within orders k low in
      let device = got_within devices k (omega (arith, devices_many g old sound room devices orders out ordered, low)) in
      let here : get_or readers k reader ≡ reader = get_or_from_slice_get readers k reader reader at_reader in
      let one : IsReaderOf order.0 (get_or devices k device.0) (get_or readers k reader) = subst (λ (o : Order). IsReaderOf o (get_or devices k device.0) (get_or readers k reader)) (get_or_from_slice_get orders k order.0 order.0 order.1) (read_here k order.0 device.0 reader low) in
      let two : IsReaderOf order.0 device.0 (get_or readers k reader) = subst (λ (d : D). IsReaderOf order.0 d (get_or readers k reader)) (get_or_from_slice_get devices k device.0 device.0 device.1) one in
      let is : IsReaderOf order.0 device.0 reader = subst (λ (s : Reader D). IsReaderOf order.0 device.0 s) here two in
      let by = ordered.each k m order.0 at_member order.1 in
      let there : slice_get old.disks k ≡ Some (disk_of g device.0) = ap (λ (xs : List Disk). slice_get xs k) (sym out) ∙ slice_get-map (disk_of g) devices k ∙ ap (option_map (disk_of g)) device.1 in
      record {
        disk_is = got_same old.disks k disk (disk_of g device.0) at_disk there ∙ ap (disk_of g) (sym is.device_is);
        reads = ap is_some is.role ∙ by.reads;
        role = λ role in_sync few. is.role ∙ by.role role in_sync few;
        offset = is.offset ∙ by.offset;
        listed = λ s. subst (λ (runs : List Run). IsBad runs s ↔ IsBad m.bad (m.superblock.data_offset + s)) (sym is.listed) (by.listed s);
        room_is = ap (λ (v : _). length v.items) is.bytes ∙ by.room_is;
      }

  -- what stands behind a reader
  disk_at : (k : ℕ) → k < length readers → (d : Disk) × (slice_get old.disks k ≡ Some d)
  disk_at k within = got_within old.disks k (omega (arith, disks_many, within))

  member_at : (k : ℕ) → k < length readers → (m : MemberView) × IsMember old.array k m
  member_at k within = got_within old.array.members k (omega (arith, members_many, within))

  on_disk : (k s : ℕ) (reader : Reader D) (disk : Disk) (m : MemberView) → StandsFor k reader disk m → on_device g reader s ≡ held disk.content (m.superblock.data_offset + s) 512
  on_disk k s reader disk m is = ap (λ n. held (g.content reader.device) (n + s) 512) is.offset ∙ ap (λ (x : Disk). held x.content (m.superblock.data_offset + s) 512) (sym is.disk_is)

  from_reader : (k s : ℕ) (bytes : List ℕ) → ReaderShows (on_device g) readers k s bytes → Shows old.disks old.array k s bytes
  from_reader k s bytes shows =
      let within = slice_get_within readers k shows.reader shows.there in
      let disk = disk_at k within in
      let m = member_at k within in
      let is = stands k shows.reader disk.0 m.0 shows.there disk.1 m.1 in
      record {
        disk = disk.0;
        member = m.0;
        there = disk.1;
        in_sync = record { member = m.1; in_sync = sym is.reads ∙ shows.reads };
        unlisted = λ bad. shows.unlisted ((is.listed s).1 bad);
        is = sym (on_disk k s shows.reader disk.0 m.0 is) ∙ shows.is;
      }

  from_member : (k s : ℕ) (bytes : List ℕ) → Shows old.disks old.array k s bytes → ReaderShows (on_device g) readers k s bytes
  from_member k s bytes shows =
      let low = slice_get_within old.disks k shows.disk shows.there in
      let reader = got_within readers k (omega (arith, disks_many, low)) in
      let is = stands k reader.0 shows.disk shows.member reader.1 shows.there shows.in_sync.member in
      record {
        reader = reader.0;
        there = reader.1;
        reads = is.reads ∙ shows.in_sync.in_sync;
        unlisted = λ bad. shows.unlisted ((is.listed s).0 bad);
        is = on_disk k s reader.0 shows.disk shows.member is ∙ shows.is;
      }

  reader_at : (k : ℕ) (d : Reader D) → k < length readers → slice_get readers k ≡ Some (get_or readers k d)
  reader_at k d within = slice_get-get_or readers k d within

  pub honest_readers : worlds.AreHonest old.disks → AreReadersHonest g readers
  honest_readers honest k d within =
      let disk = disk_at k within in
      let m = member_at k within in
      let is = stands k (get_or readers k d) disk.0 m.0 (reader_at k d within) disk.1 m.1 in
      sym (ap (λ (x : Disk). x.honest) is.disk_is) ∙ honest k disk.0 disk.1

  pub all_read_here : All (HasDataOnDevice g old.array.chunks) readers
  all_read_here k d within reads =
      let disk = disk_at k within in
      let m = member_at k within in
      let is = stands k (get_or readers k d) disk.0 m.0 (reader_at k d within) disk.1 m.1 in
      let placed = (sound.fits.each k disk.0 m.0 disk.1 m.1).placed in
      let holds = placed.data_holds in
      let inside = placed.data_within in
      let size : old.array.chunks.size ≡ m.0.superblock.size = sound.chunks.size ∙ sym (sound.chunks.member_size k m.0 m.1) in
      let long : length (g.content (get_or readers k d).device) ≡ length disk.0.content = ap (λ (x : Disk). length x.content) (sym is.disk_is) in
      let offset = is.offset in
      omega (arith, holds, inside, size, long, offset)

  pub rooms : All (λ (s : Reader D). room ≤ length s.bytes.items) readers
  rooms k d within =
      let disk = disk_at k within in
      let m = member_at k within in
      let is = (stands k (get_or readers k d) disk.0 m.0 (reader_at k d within) disk.1 m.1).room_is in
      omega (arith, is)

  -- what the gate was told of all readers
  pub told_of_members : {G : Type 0} (t : Gates G) (gate : G) → All (λ (s : Reader D). IsToldOfReader t gate old.array.chunks 0 old.array.chunks.size s) readers → IsToldOfMembers t gate old.array
  told_of_members t gate told two k role c m at in_sync some =
      let low = slice_get_within old.array.members k m at in
      let within : k < length readers = omega (arith, members_many, low) in
      let disk = disk_at k within in
      let reader = got_within readers k within in
      let its = stands k reader.0 disk.0 m reader.1 disk.1 at in
      let below = sound.roles.below k role m at (in_sync_as role m.state in_sync).1 in
      let few = old.array.shared.in_profile.few_disks in
      let of_reader = subst (λ (s : Reader D). IsToldOfReader t gate old.array.chunks 0 old.array.chunks.size s) (get_or_from_slice_get readers k reader.0 reader.0 reader.1) (told k reader.0 within) in
      of_reader role (its.role role in_sync (omega (arith, below, few))) c
      (record {
        sector = some.sector;
        not_before = omega arith;
        before = let inside = some.inside.within in omega arith;
        inside = some.inside;
        unlisted = λ bad. some.unlisted ((its.listed some.sector).0 bad);
      })

  -- a pair's chunks, seen from the mirror
  pub mismatches_between : (found : Comparison) → AreCompared (ReaderShows (on_device g) readers) old.array.chunks old.array.chunks.size found → All (λ (pair : Pair). AreBetween old.disks old.array pair) found.pairs.items
  mismatches_between found compared p d below c =
      let pair = get_or found.pairs.items p d in
      let its = (compared.each p d below).bits c in (
        λ e. let d = its.0 e in
            record { sector = d.sector; inside = d.inside; differ = between_as (ReaderShows (on_device g) readers) (Shows old.disks old.array) pair.one pair.other d.sector (λ k bytes. from_reader k d.sector bytes) d.differ },
        λ m. its.1 (record {
          sector = m.sector;
          inside = m.inside;
          not_before = omega arith;
          before = m.inside.within;
          differ = between_as (Shows old.disks old.array) (ReaderShows (on_device g) readers) pair.one pair.other m.sector (λ k bytes. from_member k m.sector bytes) m.differ;
        }),
      )

  -- the set of chunks, seen from the mirror
  pub mismatches : (marks : Bitmap) → AreDifferent (DifferIn (ReaderShows (on_device g) readers)) old.array.chunks old.array.chunks.size marks → (c : ℕ) → (is_set marks.bytes c ≡ true) ↔ Mismatches old.disks old.array c
  mismatches marks different c = (
    λ e. let d = (different.bits c).0 e in record { sector = d.sector; inside = d.inside; differ = differ_as (ReaderShows (on_device g) readers) (Shows old.disks old.array) d.sector (λ k bytes. from_reader k d.sector bytes) d.differ },
    λ m. (different.bits c).1 (record {
      sector = m.sector;
      inside = m.inside;
      not_before = omega arith;
      before = m.inside.within;
      differ = differ_as (Shows old.disks old.array) (ReaderShows (on_device g) readers) m.sector (λ k bytes. from_member k m.sector bytes) m.differ;
    }),
  )

  -- the devices come back, and were only read
  module _ (news : List (Reader D)) (read : AreReadersRead g readers news) where
    abbrev after : List Disk
    after = map (disk_of g) (map (λ (s : Reader D). s.device) news)

    after_many : length after ≡ length old.disks
    after_many = length-map (map (λ (s : Reader D). s.device) news) (disk_of g) ∙ length-map news (λ (s : Reader D). s.device) ∙ read.as_many ∙ sym disks_many

    -- readers by their indices
    both_at : (k : ℕ) (reader new : Reader D) (P : Reader D → Reader D → Type 0) → slice_get readers k ≡ Some reader → slice_get news k ≡ Some new → P (get_or readers k reader) (get_or news k reader) → P reader new
    both_at k reader new P at there p =
        subst (λ (s : Reader D). P reader s) (get_or_from_slice_get news k new reader there) (subst (λ (s : Reader D). P s (get_or news k reader)) (get_or_from_slice_get readers k reader reader at) p)

    -- the device of member k before and after
    record WasRead (k : ℕ) (d e : Disk) : Type 0 where
      reader : Reader D
      new : Reader D
      reader_at : slice_get readers k ≡ Some reader
      new_at : slice_get news k ≡ Some new
      was : d ≡ disk_of g reader.device
      now : e ≡ disk_of g new.device
      only : OnlyRead g reader.device new.device
      unused : is_some reader.role ≡ false → new.device ≡ reader.device

    was_read : (k : ℕ) (d e : Disk) → slice_get old.disks k ≡ Some d → slice_get after k ≡ Some e → WasRead k d e
    was_read k d e at there =
        let low = slice_get_within old.disks k d at in
        let within : k < length readers = omega (arith, disks_many, low) in
        let reader = got_within readers k within in
        let new = got_within news k (omega (arith, read.as_many, within)) in
        let m = member_at k within in
        let first = stands k reader.0 d m.0 reader.1 at m.1 in
        let it = both_at k reader.0 new.0 (OnlyReaderRead g) reader.1 new.1 (read.each k reader.0 within) in
        let mapped : slice_get after k ≡ Some (disk_of g new.0.device) =
        slice_get-map (disk_of g) (map (λ (s : Reader D). s.device) news) k ∙ ap (option_map (disk_of g)) (slice_get-map (λ (s : Reader D). s.device) news k ∙ ap (option_map (λ (s : Reader D). s.device)) new.1) in
        record { reader = reader.0; new = new.0; reader_at = reader.1; new_at = new.1; was = first.disk_is; now = got_same after k e (disk_of g new.0.device) there mapped; only = it.only_read; unused = it.unused }

    untouched : IsUntouched old.disks after
    untouched = record {
      same = record {
        as_many = after_many;
        honest = λ k d e at there. let w = was_read k d e at there in stays d e w.reader.device w.new.device w.was w.now w.only;
      };
      content = λ k d e at there. let w = was_read k d e at there in ap (λ (x : Disk). x.content) w.now ∙ w.only.content_kept ∙ sym (ap (λ (x : Disk). x.content) w.was);
      within = λ k d e at there. let w = was_read k d e at there in leaves d e w.reader.device w.new.device w.was w.now w.only;
    }

    pub come_back : (new : MirrorView) → new ≡ record old { disks = after } → AreBack old new
    come_back new is = rw is (record {
      array = refl;
      as_many = after_many;
      each = λ k d e m at there member. let same = untouched.content k d e at there in record {
        stays = untouched.same.honest k d e at there;
        size = ap length same;
        beside = λ from n besides. ap (λ (c : List ℕ). part c from n) same;
        others = λ _. same;
      };
    })

    failed_at : (k chunk : ℕ) → ((x : Reader D) → MissesChunk g old.array.chunks 0 old.array.chunks.size (get_or readers k x) (get_or news k x) chunk)
        → (d e : Disk) → slice_get old.disks k ≡ Some d → slice_get after k ≡ Some e → d.honest ≡ true → d.failures < e.failures
    failed_at k chunk misses d e here there honest =
        let w = was_read k d e here there in
        let it = both_at k w.reader w.new (λ a b. CountsFailure g a.device b.device) w.reader_at w.new_at (misses w.reader).fails in
        let up = it (sym (ap (λ (x : Disk). x.honest) w.was) ∙ honest) in
        let before : d.failures ≡ g.failures w.reader.device = ap (λ (x : Disk). x.failures) w.was in
        let after_it : e.failures ≡ g.failures w.new.device = ap (λ (x : Disk). x.failures) w.now in
        omega (arith, up, before, after_it)

    -- and it failed a read of that chunk
    failed_there : (k chunk : ℕ) (m : MemberView) → IsMember old.array k m → ((x : Reader D) → MissesChunk g old.array.chunks 0 old.array.chunks.size (get_or readers k x) (get_or news k x) chunk)
        → (d e : Disk) → slice_get old.disks k ≡ Some d → slice_get after k ≡ Some e → FailsUnlisted of_disks d e m.superblock.data_offset old.array.chunks (Lists m) chunk
    failed_there k chunk m at misses d e here there =
        let w = was_read k d e here there in
        let it = both_at k w.reader w.new (λ a b. FailsUnlisted g a.device b.device a.offset old.array.chunks (IsBad a.listed) chunk) w.reader_at w.new_at (misses w.reader).there in
        let is = stands k w.reader d m w.reader_at here at in
        shown_there g d e w.reader.device w.new.device w.reader.offset m.superblock.data_offset chunk old.array.chunks (IsBad w.reader.listed) (Lists m) w.was w.now is.offset (λ s bad. (is.listed s).1 bad) it

    -- no device of the first n counted a failure
    pub not_failed : (n : ℕ) → HaveNotFailed g n readers news → EachPair (λ k d e. k < n → e.failures ≡ d.failures) old.disks after
    not_failed n none k d e here there below =
        let w = was_read k d e here there in
        let it = both_at k w.reader w.new (λ a b. g.failures b.device ≡ g.failures a.device) w.reader_at w.new_at (none k w.reader below) in
        ap (λ (x : Disk). x.failures) w.now ∙ it ∙ sym (ap (λ (x : Disk). x.failures) w.was)

    pub none_failed : HaveNotFailed g (length readers) readers news → EachPair (λ _ d e. e.failures ≡ d.failures) old.disks after
    none_failed none k d e here there = not_failed (length readers) none k d e here there (let low = slice_get_within old.disks k d here in omega (arith, disks_many, low))

    others_stay : (k : ℕ) (m : MemberView) → IsMember old.array k m → is_in_sync m.state ≡ false → slice_get after k ≡ slice_get old.disks k
    others_stay k m at away =
        let low = slice_get_within old.array.members k m at in
        let within : k < length readers = omega (arith, members_many, low) in
        let d = disk_at k within in
        let e = got_within after k (omega (arith, after_many, disks_many, within)) in
        let w = was_read k d.0 e.0 d.1 e.1 in
        let is = stands k w.reader d.0 m w.reader_at d.1 at in
        let same : e.0 ≡ d.0 = w.now ∙ ap (disk_of g) (w.unused (is.reads ∙ away)) ∙ sym w.was in
        e.1 ∙ ap Some same ∙ sym d.1

    pub rests_with : (new : MirrorView) → new ≡ record old { disks = after } → Rests old new
    rests_with new is = rw is (record { array = refl; disks = untouched })

    pub uses_in_sync : (new : MirrorView) → (IsAlone old.array → ⊥) → new ≡ record old { disks = after } → UsesInSync old new
    uses_in_sync new two is = record { others = rw is others_stay; alone = λ one. absurd (two one) }

    pub fails_checking : (new : MirrorView) (missed : Missed) → IsIdle old.array → (IsAlone old.array → ⊥) → new ≡ record old { disks = after } → MissesIn g old.array.chunks readers news missed → FailsChecking old new missed.member missed.chunk
    fails_checking new missed idle two is misses =
        let k = missed.member in
        let m = member_at k misses.within in
        let disk = disk_at k misses.within in
        let reader = got_within readers k misses.within in
        let at : get_or readers k reader.0 ≡ reader.0 = get_or_from_slice_get readers k reader.0 reader.0 reader.1 in
        let its = stands k reader.0 disk.0 m.0 reader.1 disk.1 m.1 in
        let miss = misses.misses reader.0 in
        record {
          idle = idle;
          rests = rests_with new is;
          uses = uses_in_sync new two is;
          member = m.0;
          in_sync = record { member = m.1; in_sync = sym its.reads ∙ ap (λ (s : Reader D). is_some s.role) (sym at) ∙ miss.reads };
          sector = miss.read.sector;
          inside = miss.read.inside;
          unlisted = λ bad. miss.read.unlisted (subst (λ (s : Reader D). IsBad s.listed miss.read.sector) (sym at) ((its.listed miss.read.sector).1 bad));
          failed = rw is (λ d e here there honest. failed_at k missed.chunk misses.misses d e here there honest);
          there = rw is (λ d e here there. failed_there k missed.chunk m.0 m.1 misses.misses d e here there);
          earlier = rw is (not_failed k misses.earlier);
        }
