-- A device that left comes in again: the mirror stays consistent, and requests in flight stay its own.
use Rattle.std.proofs.Common.{◌≡◌, ◌≢◌, ℕ, ◌+◌, ◌*◌, ◌/◌, ◌<◌, ◌≤◌, inl, inr, Bool, true, false, cond, not, ◌&&◌, ◌==◌, List, [], ◌∷◌, ◌++◌, length, map, count_by, Option, Some, None, Result, Ok, Err, refl, sym, ap, ◌∙◌, subst, arith, ◌^◌}
use Rattle.std.specs.Int.{div_ceil}
use Rattle.std.specs.Prelude.{MatchResult}
use Rattle.std.proofs.lemmas.Bool.{cases_lt}
use Rattle.std.proofs.lemmas.List.{get_or_past, map-append}
use Rattle.std.proofs.lemmas.List.Sums.{sum_by_push}
use Rattle.std.proofs.lemmas.Nat.{and_or_apart}
use Rattle.std.proofs.lemmas.Option.{none-some, same_Some}
use Rattle.md_kept_members.specs.Remembering.{IsWhole}
use Rattle.md_kept_members.specs.OwnFields.{kept_superblock}
use Rattle.md_kept_members.specs.TakingBack.{IsKeptTakenBack, own_role, recovering}
use Rattle.md_kept_members.specs.View.{MemberView}
use Rattle.md_kept_members.specs.Members.{made_due}
use Rattle.md_device.specs.declared.device.Device.{Ghosts}
use Rattle.md_device.specs.Splice.{SameOutside}
use Rattle.md_super.specs.declared.superblock.Superblock.{Superblock}
use Rattle.md_super.specs.Merge.{merged}
use Rattle.md_super.proofs.Order.{sound_without_fault}
use Rattle.md_super.proofs.RoleLists.{length-roles_in}
use Rattle.md_bitmap.specs.declared.header.BitmapHeader.{BitmapHeader}
use Rattle.md_bitmap.specs.Marks.{Bitmap}
use Rattle.md_bitmap.specs.Sound.{chunk_count}
use Rattle.md_bitmap.proofs.Limits.{div_ceil-sectors}
use Rattle.md_members.specs.Reading.{CallFails, UnlessReadFault}
use Rattle.md_members.specs.declared.fault.MemberFault.{MemberFault}
use Rattle.md_members.specs.declared.fault.MemberFault.TheVariants as member_fault
use Rattle.md_members.specs.declared.info.MemberInfo.{MemberInfo}
use Rattle.md_members.specs.Members as members
use Rattle.md_members.specs.Areas.{BitmapIsPlaced, AreAreasPlaced, LogIsPlaced, bitmap_sectors, has_bitmap}
use Rattle.md_members.specs.Members.{HasBitmap, reads_log, sectors_of_device}
use Rattle.md_assembly.specs.declared.state.MemberState.{MemberState}
use Rattle.md_assembly.specs.States.{is_in_sync}
use Rattle.md_members.specs.DeviceWrites.Writes.{DoesWrites, FailsInWrites}
use Rattle.md_inflight.specs.Requests.Pending.{PendingView, has_written}
use Rattle.md_faults.specs.declared.re_add_fault.ReAddFault.{ReAddFault}
use Rattle.md_faults.specs.declared.re_add_fault.ReAddFault.TheVariants as fault
use Rattle.md_kept_members.specs.Membership.Joining.{joined_shared}
use Rattle.md_kept_members.specs.Membership.Numbers.{has_number}
use Rattle.md_kept_members.specs.OnDevices.Superblocks.{IsReadable, write_of}
use Rattle.md_state.specs.DiskWrites.{IsFailed, IsWritten}
use Rattle.md_state.specs.Steps.NoteJoined.{joined}
use Rattle.md_state.specs.Members.{is_degraded}
use Rattle.md_state.specs.Steps.ReAdd.{MayReAdd, RefusesToTakeBack, IsOffsetBack, IsReAddable}
use Rattle.md_state.specs.Requests.{IsPending, lacks}
use Rattle.md_state.specs.Steps.Rise.{risen}
use Rattle.md_state.specs.View.{ArrayView, Disk, MirrorView, disk_of, of_disks}
use Rattle.md_array.specs.Consistency.{IsConsistent}
use Rattle.md_array.specs.Fits.{FitsMember}
use Rattle.md_array.specs.Steps.ReAdd.{FailsToRecordLast, IsOnlyRead, ReAdds, RecordsLast, RefusesDevice, RefusesInfo, RefusesReAdd, RefusesToRecordLast, unread_as}
use Rattle.md_array.proofs.Openings.ListTold.{recovering_log_bit, told_next}
use Rattle.md_array.proofs.Openings.OwnFields.{bitmap_same, placed_next}
use Rattle.md_array.specs.Worlds.{lies_in}
use Rattle.md_array.proofs.StepLemmas.CountedAtBegin.{counted_keeps_pending}
use Rattle.md_array.proofs.StepLemmas.RemarkedWorlds.{same_mirror}
use Rattle.md_array.proofs.StepLemmas.OneWrite.{is_failed, is_written}
use Rattle.md_array.proofs.Worlds.Joined.{joined_is_consistent, recovers_alone}
use Rattle.md_badblocks.specs.declared.run.Run.{Run}

-- ---- its superblock, as it is written
module _ (offset : ℕ) (v : Superblock) where
  pub recovering_bitmap : has_bitmap (recovering offset v) ≡ has_bitmap v
  recovering_bitmap = ap (λ n. not (n == 0)) (and_or_apart 1 v.feature_map 2 refl)

  recovering_log : (sectors : ℕ) → LogIsPlaced sectors v → LogIsPlaced sectors (recovering offset v)
  recovering_log sectors p = record { short = p.short; within = p.within; from_super = p.from_super; from_data = p.from_data }

  recovering_marks : (sectors width : ℕ) → BitmapIsPlaced sectors v width → BitmapIsPlaced sectors (recovering offset v) width
  recovering_marks sectors width p = record { within = p.within; from_super = p.from_super; from_data = p.from_data; from_log = p.from_log }

  pub recovering_placed : (sectors width : ℕ) → AreAreasPlaced sectors v width → AreAreasPlaced sectors (recovering offset v) width
  recovering_placed sectors width p = record {
    some_size = p.some_size;
    data_holds = p.data_holds;
    data_within = p.data_within;
    data_apart = p.data_apart;
    log = λ has. recovering_log sectors (p.log has);
    bitmap = λ has. recovering_marks sectors width (p.bitmap (rw recovering_bitmap at has));
  }

-- the number of a device that has a role is below the entries of a superblock
pub small_number : (disks : ℕ) (content : List ℕ) (honest : Bool) (info : MemberInfo) → disks ≤ 32 → members.IsReadMember content honest info → own_role info.superblock < disks → info.superblock.dev_number < 1920
small_number disks content honest info few read low =
    let v = info.superblock in
    let is = read.superblock in
    let most = (sound_without_fault is.bytes is.sound).few_roles in
    let count = ap length is.fields.roles ∙ length-roles_in _ is.bytes in
    elim (cases_lt v.dev_number (length v.roles)) [
      | inl there ↦ omega arith
      | inr past ↦ let none = get_or_past v.roles v.dev_number 0xffff past in absurd (omega arith)
    ]

-- ---- its parts lie on its device
record ReadsBitmapOf (content : List ℕ) (info : MemberInfo) (m : MemberView) : Type 0 where
  has : has_bitmap info.superblock ≡ true
  counted : m.stored.chunks ≡ chunk_count info.superblock.size m.header.chunksize
  few : chunk_count info.superblock.size m.header.chunksize ≤ 1048576
  placed : AreAreasPlaced (sectors_of_device content) info.superblock (bitmap_sectors (chunk_count info.superblock.size m.header.chunksize))

reads_of : (content : List ℕ) (honest : Bool) (info : MemberInfo) (m : MemberView) (h : Option BitmapHeader) (marks : Option Bitmap)
    → h ≡ Some m.header → marks ≡ Some m.stored → HasBitmap content honest info.superblock h marks → ReadsBitmapOf content info m
reads_of content honest info m (Some g) (Some s) header stored b =
    let same = same_Some g m.header header in
    let too = same_Some s m.stored stored in
    record {
      has = b.0;
      counted = sym (ap (λ (x : Bitmap). x.chunks) too) ∙ b.1.marks.chunks_are ∙ ap (λ (x : BitmapHeader). chunk_count info.superblock.size x.chunksize) same;
      few = subst (λ (x : BitmapHeader). chunk_count info.superblock.size x.chunksize ≤ 1048576) same b.1.few_chunks;
      placed = subst (λ (x : BitmapHeader). AreAreasPlaced (sectors_of_device content) info.superblock (bitmap_sectors (chunk_count info.superblock.size x.chunksize))) same b.1.placed;
    }
reads_of content honest info m (Some g) None header stored b = absurd b
reads_of content honest info m None (Some s) header stored b = absurd b
reads_of content honest info m None None header stored b = absurd (none-some m.header header)

module _ (a : ArrayView) (offset : ℕ) (info : MemberInfo) (m : MemberView) (taken : IsKeptTakenBack offset info m) (may : MayReAdd a info) (content : List ℕ) (honest : Bool) (read : members.IsReadMember content honest info) where
  reads : ReadsBitmapOf content info m
  reads = reads_of content honest info m info.header info.marks taken.header taken.stored read.bitmap

  pub size_there : info.superblock.size ≡ a.shared.size
  size_there = may.fits.of_array.size

  pub number_there : m.superblock.dev_number ≡ info.superblock.dev_number
  number_there = ap (λ (v : Superblock). v.dev_number) taken.superblock

  pub size_kept : m.superblock.size ≡ a.shared.size
  size_kept = ap (λ (v : Superblock). v.size) taken.superblock ∙ size_there

  pub width_kept : m.header.chunksize / 512 ≡ a.chunks.sectors
  width_kept = ap (λ (h : BitmapHeader). h.chunksize / 512) (same_Some m.header may.fits.header (sym taken.header ∙ may.fits.has_header)) ∙ may.fits.of_array.chunks

  pub count_kept : a.chunks.size ≡ a.shared.size → a.marks.chunks ≡ div_ceil a.chunks.size a.chunks.sectors → m.stored.chunks ≡ a.marks.chunks
  count_kept size count =
      reads.counted
      ∙ ap (λ (n : ℕ). chunk_count n m.header.chunksize) (size_there ∙ sym size)
      ∙ sym (div_ceil-sectors a.chunks.size m.header.chunksize m.header.sound.chunk_size)
      ∙ ap (div_ceil a.chunks.size) width_kept
      ∙ sym count

  pub fits_taken : (d : Disk) → length d.content ≡ length content → sectors_of_device content ≤ 2 ^ 54 → FitsMember a m d
  fits_taken d long short =
      let within = read.superblock.read.within in
      let as_long : sectors_of_device content ≡ sectors_of_device d.content = ap (λ n. n / 512) (sym long) in
      let v = kept_superblock info in
      record {
        long = omega arith;
        short = omega arith;
        has = ap has_bitmap taken.superblock ∙ recovering_bitmap 0 v ∙ bitmap_same info.bad info.superblock ∙ reads.has;
        placed = rw (taken.superblock, reads.counted, ← as_long) (recovering_placed 0 v _ _ (placed_next info.bad info.superblock.recovery_offset info.superblock _ _ reads.placed));
        few_chunks = rw reads.counted reads.few;
        sound = record { chunk_size = m.header.sound.chunk_size; few_chunks = subst (λ n. chunk_count n m.header.chunksize ≤ 1048576) size_there reads.few };
        told = λ _ sector bad.
            ap reads_log taken.superblock ∙ recovering_log_bit 0 v
            ∙ told_next content honest info.superblock info.bad read.bad sector (sym (ap (λ (runs : List Run). lies_in runs sector) taken.bad) ∙ bad);
      }

-- its bitmap has a bit for each chunk of the array
pub has_marks_for : (a : ArrayView) (info : MemberInfo) → IsReAddable a info → IsWhole info → a.chunks.size ≡ a.shared.size → a.marks.chunks ≡ div_ceil a.chunks.size a.chunks.sectors
    → (marks : Bitmap) → info.marks ≡ Some marks → a.marks.chunks ≤ marks.chunks
has_marks_for a info fits whole size count marks is =
    let h : BitmapHeader = fits.header in
    let same : whole.marks ≡ marks = same_Some whole.marks marks (sym whole.has_marks ∙ is) in
    let header : whole.header ≡ h = same_Some whole.header h (sym whole.has_header ∙ fits.has_header) in
    let counted : marks.chunks ≡ a.marks.chunks =
    sym (ap (λ (b : Bitmap). b.chunks) same)
    ∙ whole.counted
    ∙ ap (λ (x : BitmapHeader). chunk_count info.superblock.size x.chunksize) header
    ∙ ap (λ (n : ℕ). chunk_count n h.chunksize) (fits.of_array.size ∙ sym size)
    ∙ sym (div_ceil-sectors a.chunks.size h.chunksize h.sound.chunk_size)
    ∙ ap (div_ceil a.chunks.size) fits.of_array.chunks
    ∙ sym count in
    omega arith

-- ---- the mirror with it
module _ (k : ℕ) (device : Disk) (old new : MirrorView) (c : IsConsistent old) (r : ReAdds k device old new) where
  abbrev a : ArrayView
  a = old.array

  abbrev info : MemberInfo
  info = r.info

  abbrev m : MemberView
  m = r.recorded.takes.member

  abbrev offset : ℕ
  offset = r.recorded.takes.offset

  abbrev taken : IsKeptTakenBack offset info m
  taken = r.recorded.takes.taken

  abbrev may : MayReAdd a info
  may = r.recorded.takes.may

  abbrev role : ℕ
  role = own_role info.superblock

  unfoldable pub after : MirrorView
  after = record { disks = old.disks ++ r.recorded.now ∷ []; array = joined a m role }

  pub is_after : new ≡ after
  unfolding after
  is_after = same_mirror new (old.disks ++ r.recorded.now ∷ []) (joined a m role) r.recorded.disks r.recorded.takes.array

  as_long : length r.recorded.now.content ≡ length device.content
  as_long =
      let outside = r.recorded.written.tried.outside r.after_reading r.recorded.now refl refl in
      outside.size ∙ ap length r.only_read.0.0

  pub short_device : sectors_of_device device.content ≤ 2 ^ 54
  short_device = subst (λ (content : List ℕ). sectors_of_device content ≤ 2 ^ 54) r.only_read.0.0 r.recorded.short

  pub small : m.superblock.dev_number < 1920
  small =
      let low = may.fits.role.has_role in
      let few = a.shared.in_profile.few_disks in
      rw (number_there a offset info m taken may device.content device.honest r.read)
      (small_number a.shared.raid_disks device.content device.honest info few r.read low)

  pub room : length a.members < 64
  room = elim (cases_lt (length a.members) 64) [ inl low ↦ low | inr full ↦ absurd (may.room full) ]

  pub absent : has_number a.members m.superblock.dev_number ≡ false
  absent = ap (has_number a.members) (number_there a offset info m taken may device.content device.honest r.read) ∙ may.fits.role.absent

  pub taken_back_is_consistent : IsConsistent new
  unfolding after
  taken_back_is_consistent =
      subst IsConsistent (sym is_after)
      (joined_is_consistent a m role small absent room (recovers_alone a m role taken.state may.free may.fits.role.has_role)
      (size_kept a offset info m taken may device.content device.honest r.read)
      (width_kept a offset info m taken may device.content device.honest r.read)
      (count_kept a offset info m taken may device.content device.honest r.read c.chunks.size c.chunks.count)
      old.disks r.recorded.now
      (fits_taken a offset info m taken may device.content device.honest r.read r.recorded.now as_long short_device)
      c)

  pub taken_back_keeps_pending : (p : PendingView) → IsPending old.array p → IsPending new.array p
  taken_back_keeps_pending p is =
      let counted = counted_keeps_pending a true p true is in
      let most : length p.written + count_by (lacks p) (risen a true).members ≤ 64 = counted.room in
      let out : lacks p m ≡ false = ap (λ (s : MemberState). is_in_sync s && not (has_written p m.superblock.dev_number)) taken.state in
      let none : ◌≡◌ {A = ℕ} (cond (lacks p m) 1 0) 0 = ap (λ b. cond b 1 0) out in
      let more : count_by (lacks p) (joined a m role).members ≡ count_by (lacks p) (risen a true).members + cond (lacks p m) 1 0 =
      sum_by_push (λ (x : MemberView). cond (lacks p x) 1 0) (risen a true).members m in
      subst (λ (x : ArrayView). IsPending x p) (sym r.recorded.takes.array)
      (record { belongs = counted.belongs; extent = counted.extent; whole = counted.whole; room = omega arith })

-- a refusal changes nothing
pub re_add_unchanged : (device given : Disk) (old new : MirrorView) (f : ReAddFault) → RefusesReAdd device given old new f → new ≡ old
re_add_unchanged device given old new fault.Halted r = r.0.unchanged
re_add_unchanged device given old new (fault.Member f) r = r.unchanged
re_add_unchanged device given old new fault.Full r = r.unchanged
re_add_unchanged device given old new fault.NotReAddable r = r.unchanged
re_add_unchanged device given old new fault.NoRole r = r.unchanged
re_add_unchanged device given old new fault.EventsFull r = r.unchanged
re_add_unchanged device given old new fault.WriteFault r = r.fails.unchanged
re_add_unchanged device given old new fault.NoMemory r = r.unchanged

-- ---- it is refused
-- it is not read as a member
module _ (device given : Disk) (v : MirrorView) (running : v.array.halted ≡ false) (only_read : IsOnlyRead device given) where
  unread : (f : MemberFault) → members.RefusesMember device.content device.honest (CallFails of_disks device given) f → (f ≢ member_fault.ReadFault → given.failures ≡ device.failures)
      → f ≢ member_fault.NoMemory → RefusesDevice device given v v f
  unread f refused unfailing memory = record { running = running; unchanged = refl; only_read = only_read; unfailing = unfailing; refused = refused; memory = memory }

  pub refused_device : (f : MemberFault) → members.RefusesMember device.content device.honest (CallFails of_disks device given) f
      → UnlessReadFault {T = MemberInfo} (Err f) (given.failures ≡ device.failures) → RefusesReAdd device given v v (unread_as f)
  refused_device member_fault.TooShort r same = unread member_fault.TooShort r (λ _. same) (λ is. cc)
  refused_device member_fault.ReadFault r _ = unread member_fault.ReadFault r (λ other. absurd (other refl)) (λ is. cc)
  refused_device (member_fault.Super f) r same = unread (member_fault.Super f) r (λ _. same) (λ is. cc)
  refused_device member_fault.Region r same = unread member_fault.Region r (λ _. same) (λ is. cc)
  refused_device (member_fault.Bitmap f) r same = unread (member_fault.Bitmap f) r (λ _. same) (λ is. cc)
  refused_device (member_fault.Log f) r same = unread (member_fault.Log f) r (λ _. same) (λ is. cc)
  refused_device member_fault.NoMemory r same = record { running = running; unchanged = refl; only_read = only_read; unfailing = same; reason = inl r }

  -- it is read as this, and may not be taken back
  module _ (unfailing : given.failures ≡ device.failures) (info : MemberInfo) (read : members.IsReadMember device.content device.honest info) where
    refuses_info : (f : ReAddFault) → RefusesToTakeBack v.array info f → RefusesInfo device given v v f
    refuses_info f refused = record { running = running; unchanged = refl; only_read = only_read; unfailing = unfailing; info = info; read = read; refused = refused }

    pub refused_info : (f : ReAddFault) → RefusesToTakeBack v.array info f → RefusesReAdd device given v v f
    refused_info fault.Halted r = absurd r
    refused_info (fault.Member f) r = absurd r
    refused_info fault.Full r = refuses_info fault.Full r
    refused_info fault.NotReAddable r = refuses_info fault.NotReAddable r
    refused_info fault.NoRole r = refuses_info fault.NoRole r
    refused_info fault.EventsFull r = refuses_info fault.EventsFull r
    refused_info fault.WriteFault r = absurd r
    refused_info fault.NoMemory r = absurd r

-- ---- what is done once it was read
-- in memory, once its superblock is written
pub joined_is : (a b : ArrayView) (m : MemberView) (v : Superblock) (full : Bool) (number role : ℕ) → v ≡ joined_shared a.shared a.members number role → number ≡ m.superblock.dev_number → full ≡ not (is_degraded a) → m.due ≡ false
    → b ≡ record a { shared = v; members = map made_due a.members ++ record m { due = false } ∷ []; events_cleared = cond full v.events a.events_cleared } → b ≡ joined a m role
joined_is a b m v full number role shared same told due is =
    is
    ∙ ap (λ (x : Superblock). record a { shared = x; members = map made_due a.members ++ record m { due = false } ∷ []; events_cleared = cond full x.events a.events_cleared }) (shared ∙ ap (λ n. joined_shared a.shared a.members n role) same)
    ∙ ap (λ b. record a { shared = joined_shared a.shared a.members m.superblock.dev_number role; members = map made_due a.members ++ record m { due = false } ∷ []; events_cleared = cond b (a.shared.events + 1) a.events_cleared }) told
    ∙ (λ i. record (joined a m role) { members = map made_due a.members ++ record m { due = sym due i } ∷ [] })

-- on its device, by the contract of the write
module _ {D : Type 0} (g : Ghosts D) (was now : D) (a : ArrayView) (offset : ℕ) (info : MemberInfo) (m : MemberView) (offset_is : IsOffsetBack a info offset) (taken : IsKeptTakenBack offset info m) (v : Superblock)
    (shared : v ≡ joined_shared a.shared a.members info.superblock.dev_number (own_role info.superblock)) (outside : SameOutside (512 * 8) (length (write_of v m).bytes) (g.content was) (g.content now)) where
  number_kept : m.superblock.dev_number ≡ info.superblock.dev_number
  number_kept = ap (λ (x : Superblock). x.dev_number) taken.superblock

  shared_kept : v ≡ joined_shared a.shared a.members m.superblock.dev_number (own_role info.superblock)
  shared_kept = shared ∙ ap (λ n. joined_shared a.shared a.members n (own_role info.superblock)) (sym number_kept)

  pub recorded_last : (devices devices_now : List D) (b : ArrayView) (k : ℕ) → MayReAdd a info → b ≡ joined a m (own_role info.superblock) → IsReadable (merged v m.superblock) → DoesWrites g (write_of v m ∷ []) was now
      → sectors_of_device (g.content was) ≤ 2 ^ 54 → k ≡ length a.members → devices_now ≡ devices ++ now ∷ []
      → RecordsLast k (disk_of g was) info (record { disks = map (disk_of g) devices; array = a }) (record { disks = map (disk_of g) devices_now; array = b })
  recorded_last devices devices_now b k may array readable does short last items =
      let same : v ≡ b.shared = shared_kept ∙ sym (ap (λ (x : ArrayView). x.shared) array) in
      record {
        last = last;
        short = short;
        takes = record { may = may; member = m; offset = offset; offset_is = offset_is; taken = taken; array = array };
        readable = subst (λ (x : Superblock). IsReadable (merged x m.superblock)) same readable;
        now = disk_of g now;
        written = subst (λ (x : Superblock). IsWritten 0 (write_of x m) (disk_of g was ∷ []) (disk_of g now ∷ [])) same
            (is_written g (was ∷ []) 0 was refl now (write_of v m) (omega arith) outside does);
        disks = ap (map (disk_of g)) items ∙ map-append (disk_of g) devices (now ∷ []);
      }

  pub not_recorded : (old new : MirrorView) → new ≡ old → old.array ≡ a → FailsInWrites g (write_of v m ∷ []) was now → FailsToRecordLast (disk_of g was) (disk_of g now) info old new
  not_recorded old new unchanged array stops = record {
    unchanged = unchanged;
    member = m;
    offset = offset;
    offset_is = subst (λ (x : ArrayView). IsOffsetBack x info offset) (sym array) offset_is;
    taken = taken;
    failed = subst (λ (x : ArrayView). IsFailed 0 (write_of (joined_shared x.shared x.members m.superblock.dev_number (own_role info.superblock)) m) (disk_of g was ∷ []) (disk_of g now ∷ [])) (sym array)
        (subst (λ (x : Superblock). IsFailed 0 (write_of x m) (disk_of g was ∷ []) (disk_of g now ∷ [])) shared_kept
        (is_failed g (was ∷ []) 0 was refl now (write_of v m) (omega arith) outside stops));
  }

module _ {D : Type 0} (of : D → Disk) (device after : Disk) (old new : MirrorView) (info : MemberInfo) (running : old.array.halted ≡ false) (read : members.IsReadMember device.content device.honest info) (only_read : IsOnlyRead device after) (unfailing : after.failures ≡ device.failures) (may : MayReAdd old.array info) where
  refused : (given : Disk) (f : ReAddFault) → RefusesToRecordLast after given info old new f → RefusesReAdd device given old new f
  refused given fault.Halted r = absurd r
  refused given (fault.Member f) r = absurd r
  refused given fault.Full r = absurd r
  refused given fault.NotReAddable r = absurd r
  refused given fault.NoRole r = absurd r
  refused given fault.EventsFull r = absurd r
  refused given fault.WriteFault r = record { running = running; info = info; read = read; may = may; after_reading = after; only_read = only_read; unfailing = unfailing; fails = r }
  refused given fault.NoMemory r = record {
    running = running;
    unchanged = r.0;
    only_read = subst (IsOnlyRead device) (sym r.1) only_read;
    unfailing = ap (λ (d : Disk). d.failures) r.1 ∙ unfailing;
    reason = inr (info, read, may);
  }

  pub once_read : (result : Result ℕ (D × ReAddFault)) → MatchResult result (λ k. RecordsLast k after info old new) (λ e. RefusesToRecordLast after (of e.0) info old new e.1)
      → MatchResult result (λ k. ReAdds k device old new) (λ e. RefusesReAdd device (of e.0) old new e.1)
  once_read (Ok k) r = record { running = running; info = info; read = read; after_reading = after; only_read = only_read; unfailing = unfailing; recorded = r }
  once_read (Err e) r = refused (of e.0) e.1 r

-- whatever it answers
module _ {D : Type 0} (of : D → Disk) (device : Disk) (old new : MirrorView) (c : IsConsistent old) where
  pub re_add_is_consistent : (result : Result ℕ (D × ReAddFault)) → MatchResult result (λ k. ReAdds k device old new) (λ e. RefusesReAdd device (of e.0) old new e.1) → IsConsistent new
  re_add_is_consistent (Ok k) r = taken_back_is_consistent k device old new c r
  re_add_is_consistent (Err e) r = subst IsConsistent (sym (re_add_unchanged device (of e.0) old new e.1 r)) c

  pub re_add_keeps_pending : (result : Result ℕ (D × ReAddFault)) → MatchResult result (λ k. ReAdds k device old new) (λ e. RefusesReAdd device (of e.0) old new e.1)
      → (p : PendingView) → IsPending old.array p → IsPending new.array p
  re_add_keeps_pending (Ok k) r = taken_back_keeps_pending k device old new c r
  re_add_keeps_pending (Err e) r = λ p. subst (λ (v : MirrorView). IsPending v.array p) (sym (re_add_unchanged device (of e.0) old new e.1 r))
