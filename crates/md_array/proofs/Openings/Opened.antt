-- Devices are opened: the members are read, assembled and remembered, and then marks are stored.
use Rattle.std.proofs.Common.{◌≡◌, ◌⊎◌, inl, ℕ, ◌*◌, ◌≤◌, true, List, [], ◌∷◌, length, refl, sym, ap, ◌∙◌, arith, subst, get_or, ◌^◌}
use Rattle.std.specs.Prelude.{⊤, slice_get, Some}
use Rattle.md_device.specs.Splice.{SameOutside}
use Rattle.md_device.specs.Crashes.{IsMixed}
use Rattle.md_device.specs.Failing.{failed_write}
use Rattle.md_device.proofs.Failing.{fails_since}
use Rattle.md_device.proofs.Leaving.{leaves_less, leaves_then, mixed_none}
use Rattle.md_members.specs.Areas.{AreAreasPlaced, bitmap_sectors}
use Rattle.md_members.specs.Members.{sectors_of_device}
use Rattle.md_members.specs.declared.info.MemberInfo.{MemberInfo}
use Rattle.md_assembly.specs.declared.fault.AssembleFault.{AssembleFault}
use Rattle.md_assembly.specs.declared.fault.AssembleFault.TheVariants.{Empty, TooMany, Stranger, DoubleNumber, NoBitmap, Geometry, DoubleRole, NotEnough, NoMemory as NoMemoryOfAssembly}
use Rattle.md_assembly.specs.Faults.{IsFirstAssembleFault}
use Rattle.md_members.specs.DeviceWrites.Writes.{IsAnyIn, IsCutShort, Write, after}
use Rattle.md_kept_members.specs.View.{MemberView}
use Rattle.md_state.specs.View.{Disk, ArrayView}
use Rattle.md_state.specs.DeviceChanges.{AreSame, EachPair, IsLeftAlone, IsUntouched, LeavesAsWas, LeavesOn, StaysHonest}
use Rattle.md_array.specs.declared.fault.OpenFault.{OpenFault}
use Rattle.md_array.specs.declared.fault.OpenFault.TheVariants.{Member, Assemble, MetadataFault, NoMemory}
use Rattle.md_array.specs.Fits.{Fits}
use Rattle.md_array.specs.Open.Opened.{IsArrayOf}
use Rattle.md_array.specs.Open.Members.{AreRead, RefusesReading}
use Rattle.md_array.specs.Open.Refusals.{RefusesArray, RefusesOpen, assembly_refusal_of}
use Rattle.md_array.specs.Open.Marks.{AreMarksOnDisks, FailsToStore, AreMarksOnDisk, IsMarkedBy, RefusesStoringMarks, EndsAtMember, StoresMarksOn}
use Rattle.md_array.proofs.Openings.DevicesInTurn.{same_place}
use Rattle.md_state.proofs.Stays.{stays_then}

-- what holds of each pair, in two steps
each_through : (P Q R : ℕ → Disk → Disk → Type 0) (before mid end : List Disk) → length mid ≡ length before → EachPair P before mid → EachPair Q mid end
    → ((k : ℕ) (d x e : Disk) → P k d x → Q k x e → R k d e) → EachPair R before end
each_through P Q R before mid end count first second both = λ k d e was is.
    let there = same_place mid before k d (sym count) was d in
    both k d (get_or mid k d) e (first k d (get_or mid k d) was there) (second k (get_or mid k d) e there is)

pub same_through : (before mid end : List Disk) → AreSame before mid → AreSame mid end → AreSame before end
same_through before mid end first second = record {
  as_many = second.as_many ∙ first.as_many;
  honest = each_through (λ _. StaysHonest) (λ _. StaysHonest) (λ _. StaysHonest) before mid end first.as_many first.honest second.honest
      (λ k d x e p q. stays_then d x e p q);
}

-- what was there before writes are made, they may leave
pub cut_before : (old left : List ℕ) (writes : List Write) → left ≡ old → IsCutShort old writes left
cut_before old left [] same = record { done = []; rest = []; order = refl; mixed = same }
cut_before old left (w ∷ rest) same = record { done = []; rest = w ∷ rest; order = refl; mixed = subst (IsMixed w.sector w.bytes old) (sym same) (mixed_none w.sector w.bytes old) }

-- marks are stored on a device of the same content, which was read before
module _ (a : ArrayView) (m : MemberView) (d x e : Disk) (stays : StaysHonest d x) (content : x.content ≡ d.content) (read : LeavesAsWas d x) where
  -- a crash within both leaves what it leaves within the second, if that may leave what was there
  leaves_from : (P : List ℕ → List ℕ → Type 0) → ((old left : List ℕ) → left ≡ old → P old left) → (x.honest ≡ true → LeavesOn (P x.content) x e) → d.honest ≡ true → LeavesOn (P d.content) d e
  leaves_from P same leaves h = leaves_then d.crashes x.crashes e.crashes (P d.content)
      (leaves_less d.crashes x.crashes (λ left. left ≡ d.content) (P d.content) (same d.content) (read h))
      (subst (λ (c : List ℕ). LeavesOn (P c) x e) content (leaves (stays.honest ∙ h)))

  stores_from : StoresMarksOn a m x e → StoresMarksOn a m d e
  stores_from s = record {
    start = s.start;
    writes = s.writes;
    are = s.are;
    done = λ h. s.done (stays.honest ∙ h) ∙ ap (λ (c : List ℕ). after c s.writes) content;
    within = leaves_from (λ old left. IsCutShort old s.writes left) (λ old left. cut_before old left s.writes) s.within;
    outside = subst (λ (c : List ℕ). SameOutside (512 * s.start) (512 * bitmap_sectors m.stored.chunks) c e.content) content s.outside;
  }

  fails_from : FailsToStore a m x e → FailsToStore a m d e
  fails_from f = record {
    start = f.start;
    writes = f.writes;
    are = f.are;
    failed = λ h. omega (arith, stays.counted, f.failed (stays.honest ∙ h));
    made = f.made;
    tried = f.tried;
    rest = f.rest;
    order = f.order;
    there = fails_since d.faults x.faults e.faults (λ call. call ≡ failed_write f.tried.sector (length f.tried.bytes)) (λ _. ⊤) stays.grown f.there;
    stopped = λ h. subst (λ (c : List ℕ). IsAnyIn f.tried (after c f.made) e.content) content (f.stopped (stays.honest ∙ h));
    within = leaves_from (λ old left. IsCutShort old f.made left ⊎ IsAnyIn f.tried (after old f.made) left) (λ old left same. inl (cut_before old left f.made same)) f.within;
    outside = subst (λ (c : List ℕ). SameOutside (512 * f.start) (512 * bitmap_sectors m.stored.chunks) c e.content) content f.outside;
  }

  alone_from : IsLeftAlone x e → IsLeftAlone d e
  alone_from is = (is.0 ∙ content, leaves_from (λ old left. left ≡ old) (λ old left same. same) is.1)

  marked_from : IsMarkedBy a m x e → IsMarkedBy a m d e
  marked_from is = (λ needs. stores_from (is.0 needs), λ none. alone_from (is.1 none))

module _ (before mid : List Disk) (untouched : IsUntouched before mid) (a : ArrayView) where
  place : (k : ℕ) (d : Disk) → slice_get before k ≡ Some d → slice_get mid k ≡ Some (get_or mid k d)
  place k d was = same_place mid before k d (sym untouched.same.as_many) was d

  marked_at : (k : ℕ) (d e : Disk) → slice_get before k ≡ Some d → AreMarksOnDisk a k (get_or mid k d) e → AreMarksOnDisk a k d e
  marked_at k d e was is = λ m at.
      let x = get_or mid k d in
      marked_from a m d x e (untouched.same.honest k d x was (place k d was)) (untouched.content k d x was (place k d was)) (untouched.within k d x was (place k d was)) (is m at)

  -- what was stored on devices that were read stands on those that were opened
  pub marked_after : (end : List Disk) → AreMarksOnDisks mid end a → AreMarksOnDisks before end a
  marked_after end marked = record {
    same = same_through before mid end untouched.same marked.same;
    each = λ k d e was is. marked_at k d e was (marked.each k (get_or mid k d) e (place k d was) is);
  }

  pub stopped_after : (end : List Disk) (k : ℕ) → EndsAtMember a mid end k → EndsAtMember a before end k
  stopped_after end k stop = record {
    same = same_through before mid end untouched.same stop.same;
    member = stop.member;
    at = stop.at;
    needs = stop.needs;
    failed = λ d e was is.
        let x = get_or mid k d in
        fails_from a stop.member d x e (untouched.same.honest k d x was (place k d was)) (untouched.content k d x was (place k d was)) (untouched.within k d x was (place k d was)) (stop.failed x e (place k d was) is);
    earlier = λ j d e was is below. marked_at j d e was (stop.earlier j (get_or mid j d) e (place j d was) is below);
    later = λ j d e was is behind.
        let x = get_or mid j d in
        alone_from a stop.member d x e (untouched.same.honest j d x was (place j d was)) (untouched.content j d x was (place j d was)) (untouched.within j d x was (place j d was)) (stop.later j x e (place j d was) is behind);
  }

  pub fits_after : Fits before a → Fits mid a
  fits_after fits = record {
    as_many = untouched.same.as_many ∙ fits.as_many;
    each = λ k x m is at.
        let was = same_place before mid k x untouched.same.as_many is x in
        let d = get_or before k x in
        let fit = fits.each k d m was at in
        record {
          long = subst (λ (c : List ℕ). 16 ≤ sectors_of_device c) (sym (untouched.content k d x was is)) fit.long;
          short = subst (λ (c : List ℕ). sectors_of_device c ≤ 2 ^ 54) (sym (untouched.content k d x was is)) fit.short;
          has = fit.has;
          placed = subst (λ (c : List ℕ). AreAreasPlaced (sectors_of_device c) m.superblock (bitmap_sectors m.stored.chunks)) (sym (untouched.content k d x was is)) fit.placed;
          few_chunks = fit.few_chunks;
          sound = fit.sound;
          told = fit.told;
        };
  }

-- why there is no array
pub read_refused : (before end : List Disk) (fault : OpenFault) → RefusesReading before end fault → RefusesArray before end fault
read_refused before end (Member k f) r = r
read_refused before end (Assemble f) r = absurd r
read_refused before end (MetadataFault k) r = absurd r
read_refused before end NoMemory r = tt

pub assembly_refused : (before end : List Disk) (infos : List MemberInfo) (fault : AssembleFault) → AreRead before infos → IsFirstAssembleFault infos fault → RefusesArray before end (assembly_refusal_of fault)
assembly_refused before end infos Empty read first = record { infos = infos; read = read; refused = first; memory = λ same. cc }
assembly_refused before end infos TooMany read first = record { infos = infos; read = read; refused = first; memory = λ same. cc }
assembly_refused before end infos (Stranger i) read first = record { infos = infos; read = read; refused = first; memory = λ same. cc }
assembly_refused before end infos (DoubleNumber i j) read first = record { infos = infos; read = read; refused = first; memory = λ same. cc }
assembly_refused before end infos (NoBitmap i) read first = record { infos = infos; read = read; refused = first; memory = λ same. cc }
assembly_refused before end infos (Geometry i) read first = record { infos = infos; read = read; refused = first; memory = λ same. cc }
assembly_refused before end infos (DoubleRole r) read first = record { infos = infos; read = read; refused = first; memory = λ same. cc }
assembly_refused before end infos NotEnough read first = record { infos = infos; read = read; refused = first; memory = λ same. cc }
assembly_refused before end infos NoMemoryOfAssembly read first = tt

-- why devices are not opened
pub array_refused : (before end : List Disk) (fault : OpenFault) → IsUntouched before end → RefusesArray before end fault → RefusesOpen before end fault
array_refused before end (Member k f) untouched r = (untouched, r)
array_refused before end (Assemble f) untouched r = (untouched, r)
array_refused before end (MetadataFault k) untouched r = absurd r
array_refused before end NoMemory untouched r = untouched

pub marks_refused : (before mid end : List Disk) (a : ArrayView) (fault : OpenFault) → IsUntouched before mid → IsArrayOf before a → RefusesStoringMarks a mid end fault → RefusesOpen before end fault
marks_refused before mid end a (Member k f) untouched is r = absurd r
marks_refused before mid end a (Assemble f) untouched is r = absurd r
marks_refused before mid end a (MetadataFault k) untouched is r = record { array = a; is = is; stopped = stopped_after before mid untouched a end k r }
marks_refused before mid end a NoMemory untouched is r = absurd r
