-- A new device comes in as a spare: the mirror stays consistent, and requests in flight stay its own.
use Rattle.std.proofs.Common.{◌≡◌, ℕ, ◌+◌, ◌*◌, ◌/◌, ◌<◌, ◌≤◌, inl, inr, true, false, cond, not, ◌==◌, bit_and, List, [], ◌∷◌, ◌++◌, length, count_by, map, Result, Ok, Err, refl, sym, ap, ◌∙◌, subst, arith, ◌^◌}
use Rattle.std.specs.Int.{div_ceil}
use Rattle.std.specs.Prelude.{MatchResult}
use Rattle.std.proofs.lemmas.Bool.{cases_lt}
use Rattle.std.proofs.lemmas.List.{map-append}
use Rattle.std.proofs.lemmas.List.Sums.{sum_by_push}
use Rattle.md_device.specs.declared.device.Device.{Ghosts}
use Rattle.md_device.specs.Crashes.{LeavesMore}
use Rattle.md_bitmap.specs.declared.header.BitmapHeader.{BitmapHeader}
use Rattle.md_bitmap.specs.Sound.{IsSoundHeader, chunk_count}
use Rattle.md_bitmap.proofs.Limits.{div_ceil-sectors}
use Rattle.md_members.specs.Areas.{bitmap_sectors}
use Rattle.md_members.specs.Members.{sectors_of_device}
use Rattle.md_create.specs.declared.params.NewMember.{NewMember}
use Rattle.md_create.specs.Layout.{IsHalfLaidOut, IsLaidOutAs, KeepsOthers, writes_of}
use Rattle.md_create.specs.ReadBack.{IsReadBack}
use Rattle.md_create.proofs.Laid.{few_sectors}
use Rattle.md_create.proofs.Taken.{new_placed}
use Rattle.md_members.specs.DeviceWrites.Writes.{DoesWrites, IsKeptByWrites, FailsInWrites}
use Rattle.md_inflight.specs.Requests.Pending.{PendingView}
use Rattle.md_kept_members.specs.View.{MemberView}
use Rattle.md_faults.specs.declared.add_fault.AddFault.{AddFault}
use Rattle.md_faults.specs.declared.add_fault.AddFault.TheVariants as fault
use Rattle.md_kept_members.specs.Membership.Numbers.{has_number, spare_role}
use Rattle.md_state.specs.Steps.Add.{IsSpareOf, MayAdd, RefusesToAdd, added}
use Rattle.md_state.specs.InMemory.{HasMarksOfSize}
use Rattle.md_state.specs.Requests.{IsPending, lacks}
use Rattle.md_state.specs.Steps.Rise.{risen}
use Rattle.md_state.specs.View.{ArrayView, Disk, MirrorView, disk_of, of_disks}
use Rattle.md_kept_members.proofs.MembershipLemmas.NumbersUsed.{number_is_small, number_is_unused}
use Rattle.md_array.specs.Steps.Add.{Adds, FailsToLayOut, LaysOutLast, RefusesAdd, RefusesToLayOut, RefusesUnwritten, kept_of}
use Rattle.md_array.specs.Consistency.{IsConsistent}
use Rattle.md_array.specs.Fits.{FitsMember}
use Rattle.md_array.proofs.StepLemmas.CountedAtBegin.{counted_keeps_pending}
use Rattle.md_array.proofs.StepLemmas.RemarkedWorlds.{same_mirror}
use Rattle.md_array.proofs.Worlds.Joined.{joined_is_consistent, spare_alone}

-- ---- what it is laid out with
module _ (a : ArrayView) (number sectors : ℕ) (laid : NewMember) (may : MayAdd a sectors number) (spare : IsSpareOf a number sectors laid) where
  pub its_number : laid.superblock.dev_number ≡ number
  its_number = spare.spare.superblock.dev_number

  pub room : length a.members < 64
  room = elim (cases_lt (length a.members) 64) [ inl low ↦ low | inr full ↦ absurd (may.room full) ]

  pub small : laid.superblock.dev_number < 1920
  small = subst (λ n. n < 1920) (sym its_number) (number_is_small a.shared a.members number room may.number)

  pub absent : has_number a.members laid.superblock.dev_number ≡ false
  absent = ap (has_number a.members) its_number ∙ number_is_unused a.shared a.members number may.number

  pub size_there : laid.superblock.size ≡ a.shared.size
  size_there = spare.spare.superblock.size_is

  pub width_there : HasMarksOfSize a → laid.header.chunksize / 512 ≡ a.chunks.sectors
  width_there h =
      ap (λ (n : ℕ). n / 512) (spare.header.chunksize ∙ ap (λ (x : BitmapHeader). x.chunksize) spare.of_freshest.header)
      ∙ h.member_width spare.of_freshest.index spare.of_freshest.member spare.of_freshest.at

  pub count_there : HasMarksOfSize a → laid.marks.chunks ≡ a.marks.chunks
  count_there h =
      spare.spare.marks.chunks_are
      ∙ ap (λ (n : ℕ). chunk_count n laid.header.chunksize) (sym h.size)
      ∙ sym (div_ceil-sectors a.chunks.size laid.header.chunksize laid.header.sound.chunk_size)
      ∙ ap (div_ceil a.chunks.size) (width_there h)
      ∙ sym h.count

  pub fits_there : (d : Disk) → sectors_of_device d.content ≡ sectors → sectors ≤ 2 ^ 54 → FitsMember a (kept_of laid) d
  fits_there d long short =
      let enough = may.long in
      let its_sectors = spare.spare.superblock.data_size in
      record {
        long = omega arith;
        short = omega arith;
        has = ap (λ n. not (bit_and n 1 == 0)) laid.new.places.feature_map;
        placed = new_placed laid.superblock laid.new.places (sectors_of_device d.content) (bitmap_sectors laid.marks.chunks) (let few = few_sectors laid in omega arith) (omega arith);
        few_chunks = omega (arith, laid.new.chunks, laid.header.sound.few_chunks);
        sound = subst (λ n. IsSoundHeader n laid.header.chunksize) (laid.new.sync_size ∙ size_there) laid.header.sound;
        told = λ rebuilt sector bad. absurd cc;
      }

-- ---- the mirror with it
module _ (k : ℕ) (device : Disk) (old new : MirrorView) (c : IsConsistent old) (r : Adds k device old new) where
  abbrev a : ArrayView
  a = old.array

  abbrev laid : NewMember
  laid = r.comes.laid

  abbrev m : MemberView
  m = kept_of laid

  abbrev sectors : ℕ
  sectors = sectors_of_device device.content

  unfoldable pub after : MirrorView
  after = record { disks = old.disks ++ r.comes.now ∷ []; array = added a laid }

  pub is_after : new ≡ after
  unfolding after
  is_after = same_mirror new (old.disks ++ r.comes.now ∷ []) (added a laid) r.comes.disks r.comes.array

  pub as_long : sectors_of_device r.comes.now.content ≡ sectors
  as_long = ap (λ (n : ℕ). n / 512) r.comes.writes.kept.size

  pub added_is_consistent : IsConsistent new
  unfolding after
  added_is_consistent =
      subst IsConsistent (sym is_after)
      (joined_is_consistent a m spare_role (small a r.number sectors laid r.may r.comes.spare)
      (absent a r.number sectors laid r.may r.comes.spare) (room a r.number sectors laid r.may r.comes.spare) (spare_alone a m spare_role refl)
      (size_there a r.number sectors laid r.may r.comes.spare)
      (width_there a r.number sectors laid r.may r.comes.spare c.chunks)
      (count_there a r.number sectors laid r.may r.comes.spare c.chunks)
      old.disks r.comes.now
      (fits_there a r.number sectors laid r.may r.comes.spare r.comes.now as_long r.comes.short)
      c)

  pub added_keeps_pending : (p : PendingView) → IsPending old.array p → IsPending new.array p
  added_keeps_pending p is =
      let counted = counted_keeps_pending a true p true is in
      let most : length p.written + count_by (lacks p) (risen a true).members ≤ 64 = counted.room in
      let more : count_by (lacks p) (added a laid).members ≡ count_by (lacks p) (risen a true).members + cond (lacks p m) 1 0 =
      sum_by_push (λ (x : MemberView). cond (lacks p x) 1 0) (risen a true).members m in
      let none : ◌≡◌ {A = ℕ} (cond (lacks p m) 1 0) 0 = refl in
      subst (λ (x : ArrayView). IsPending x p) (sym r.comes.array)
      (record { belongs = counted.belongs; extent = counted.extent; whole = counted.whole; room = omega arith })

-- a refusal changes nothing
pub add_unchanged : (device given : Disk) (old new : MirrorView) (f : AddFault) → RefusesAdd device given old new f → new ≡ old
add_unchanged device given old new fault.Halted r = r.unchanged
add_unchanged device given old new fault.TooSmall r = r.unchanged
add_unchanged device given old new fault.Full r = r.unchanged
add_unchanged device given old new fault.EventsFull r = r.unchanged
add_unchanged device given old new fault.WriteFault r = r.fails.unchanged
add_unchanged device given old new fault.NoMemory r = r.unchanged

-- it may not come in
module _ (device : Disk) (v : MirrorView) where
  unwritten : (f : AddFault) → RefusesToAdd v.array (sectors_of_device device.content) f → RefusesUnwritten device device v v f
  unwritten f refused = record { unchanged = refl; untouched = refl; refused = refused }

  pub refused_unwritten : (f : AddFault) → RefusesToAdd v.array (sectors_of_device device.content) f → RefusesAdd device device v v f
  refused_unwritten fault.Halted r = unwritten fault.Halted r
  refused_unwritten fault.TooSmall r = unwritten fault.TooSmall r
  refused_unwritten fault.Full r = unwritten fault.Full r
  refused_unwritten fault.EventsFull r = unwritten fault.EventsFull r
  refused_unwritten fault.WriteFault r = absurd r
  refused_unwritten fault.NoMemory r = absurd r

-- it may, and was laid out or not
module _ {D : Type 0} (of : D → Disk) (device : Disk) (number : ℕ) (old new : MirrorView) (may : MayAdd old.array (sectors_of_device device.content) number) where
  refused : (given : Disk) (f : AddFault) → RefusesToLayOut device given number old new f → RefusesAdd device given old new f
  refused given fault.Halted r = absurd r
  refused given fault.TooSmall r = absurd r
  refused given fault.Full r = absurd r
  refused given fault.EventsFull r = absurd r
  refused given fault.WriteFault r = record { number = number; may = may; fails = r }
  refused given fault.NoMemory r = record { unchanged = r.0; untouched = r.1; number = number; may = may }

  pub once_numbered : (result : Result ℕ (D × AddFault)) → MatchResult result (λ k. LaysOutLast k device number old new) (λ e. RefusesToLayOut device (of e.0) number old new e.1)
      → MatchResult result (λ k. Adds k device old new) (λ e. RefusesAdd device (of e.0) old new e.1)
  once_numbered (Ok k) r = record { number = number; may = may; comes = r }
  once_numbered (Err e) r = refused (of e.0) e.1 r

-- whatever it answers
module _ {D : Type 0} (of : D → Disk) (device : Disk) (old new : MirrorView) (c : IsConsistent old) where
  pub add_is_consistent : (result : Result ℕ (D × AddFault)) → MatchResult result (λ k. Adds k device old new) (λ e. RefusesAdd device (of e.0) old new e.1) → IsConsistent new
  add_is_consistent (Ok k) r = added_is_consistent k device old new c r
  add_is_consistent (Err e) r = subst IsConsistent (sym (add_unchanged device (of e.0) old new e.1 r)) c

  pub add_keeps_pending : (result : Result ℕ (D × AddFault)) → MatchResult result (λ k. Adds k device old new) (λ e. RefusesAdd device (of e.0) old new e.1)
      → (p : PendingView) → IsPending old.array p → IsPending new.array p
  add_keeps_pending (Ok k) r = added_keeps_pending k device old new c r
  add_keeps_pending (Err e) r = λ p. subst (λ (v : MirrorView). IsPending v.array p) (sym (add_unchanged device (of e.0) old new e.1 r))

-- ---- what is done once it has a number
module _ {D : Type 0} (g : Ghosts D) (was now : D) where
  seen : IsKeptByWrites g was now → IsKeptByWrites of_disks (disk_of g was) (disk_of g now)
  seen kept = record { size = kept.size; honest_kept = kept.honest_kept; counted = kept.counted; grown = kept.grown }

  pub laid_last : (a b : ArrayView) (number k : ℕ) (laid : NewMember) (devices devices_now : List D) → sectors_of_device (g.content was) ≤ 2 ^ 54 → IsSpareOf a number (sectors_of_device (g.content was)) laid → IsReadBack laid.superblock
      → DoesWrites g (writes_of laid) was now → KeepsOthers laid (g.content was) (g.content now) → (g.honest was ≡ true → IsLaidOutAs (g.content was) laid (g.content now))
      → (g.honest was ≡ true → LeavesMore (g.crashes was) (g.crashes now) (IsHalfLaidOut (g.content was) laid)) → b ≡ added a laid → k ≡ length a.members → devices_now ≡ devices ++ now ∷ []
      → LaysOutLast k (disk_of g was) number (record { disks = map (disk_of g) devices; array = a }) (record { disks = map (disk_of g) devices_now; array = b })
  laid_last a b number k laid devices devices_now short spare readable does outside done within array last items = record {
    last = last;
    short = short;
    laid = laid;
    spare = spare;
    readable = readable;
    now = disk_of g now;
    writes = record { kept = seen does.kept; unfailing = does.unfailing; none_failed = does.none_failed; all_done = does.all_done; within = does.within };
    outside = outside;
    laid_out = done;
    within = within;
    array = array;
    disks = ap (map (disk_of g)) items ∙ map-append (disk_of g) devices (now ∷ []);
  }

  pub not_laid : (old new : MirrorView) (number : ℕ) (laid : NewMember) → new ≡ old → IsSpareOf old.array number (sectors_of_device (g.content was)) laid → FailsInWrites g (writes_of laid) was now
      → KeepsOthers laid (g.content was) (g.content now) → FailsToLayOut (disk_of g was) (disk_of g now) number old new
  not_laid old new number laid unchanged spare stops outside = record {
    unchanged = unchanged;
    laid = laid;
    spare = spare;
    writes = record { kept = seen stops.kept; failed = stops.failed; done = stops.done; tried = stops.tried; rest = stops.rest; order = stops.order; tried_alone_failed = stops.tried_alone_failed; outside = stops.outside; within = stops.within };
    outside = outside;
  }

-- the sectors of a device, as it tells them
pub told : (sectors : ℕ) (content : List ℕ) → length content ≡ 512 * sectors → sectors ≡ sectors_of_device content
told sectors content is = omega arith

-- no device is longer
pub told_short : (sectors : ℕ) (content : List ℕ) → length content ≡ 512 * sectors → sectors ≤ 2 ^ 54 → sectors_of_device content ≤ 2 ^ 54
told_short sectors content is limit = let same = told sectors content is in omega arith
