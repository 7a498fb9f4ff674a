-- A device that comes back after BITMAP_STALE was set in its bitmap lacks every chunk; and one that does not is as it was.
use Rattle.std.proofs.Common.{◌≡◌, ◌≢◌, ◌∙◌, ⊎_elim, inr, ℕ, ◌+◌, ◌*◌, ◌<◌, Bool, true, false, ◌||◌, leb, List, [], ◌∷◌, ◌++◌, length, map, Option, Some, None, is_some, true≢false, Result, Ok, Err, MatchResult, slice_get, refl, sym, ap, subst, arith}
use Rattle.std.specs.Prelude.{⊤}
use Rattle.std.proofs.lemmas.List.{length-map, length-append, length-take, length-drop}
use Rattle.std.proofs.lemmas.Bool.{lt-leb}
use Rattle.std.proofs.lemmas.Option.{same_Some}
use Rattle.md_format.specs.Fields.{number_at}
use Rattle.md_device.specs.Device.{held, written}
use Rattle.md_device.specs.Splice.{SameOutside}
use Rattle.md_device.proofs.Splices.{part-spliced}
use Rattle.md_super.specs.declared.superblock.Superblock.{Superblock}
use Rattle.md_bitmap.specs.declared.header.BitmapHeader.{BitmapHeader}
use Rattle.md_bitmap.specs.Marks.{Bitmap, is_set}
use Rattle.md_members.specs.Areas.{has_bitmap}
use Rattle.md_members.specs.Members as members
use Rattle.md_members.specs.Members.{HasBitmap}
use Rattle.md_members.specs.Reading.{BitmapStartsAt}
use Rattle.md_members.specs.declared.fault.MemberFault.{MemberFault}
use Rattle.md_members.specs.declared.fault.MemberFault.TheVariants as member_fault
use Rattle.md_members.specs.declared.info.MemberInfo.{MemberInfo}
use Rattle.md_assembly.specs.declared.state.MemberState.{MemberState}
use Rattle.md_assembly.specs.States.{is_in_sync, is_recovering}
use Rattle.md_model.specs.Rebuilding.{lacks}
use Rattle.md_kept_members.specs.Members.{made_due}
use Rattle.md_kept_members.specs.TakingBack.{own_role}
use Rattle.md_kept_members.specs.View.{MemberView}
use Rattle.md_faults.specs.declared.re_add_fault.ReAddFault.{ReAddFault}
use Rattle.md_faults.specs.declared.re_add_fault.ReAddFault.TheVariants as fault
use Rattle.md_faults.specs.declared.re_add_fault.ReAddFault.TheVariants.{WriteFault}
use Rattle.md_members.specs.DeviceWrites.Writes.{Write}
use Rattle.md_state.specs.DiskWrites.{IsFailed, IsWritten}
use Rattle.md_state.specs.Members.{IsMember}
use Rattle.md_state.specs.Missing.{is_missing}
use Rattle.md_state.specs.Steps.NoteJoined.{joined}
use Rattle.md_state.specs.Steps.ReAdd.{HasNoOtherMarks, IsReAddable, RefusesToTakeBack}
use Rattle.md_state.specs.View.{ArrayView, Disk, MirrorView}
use Rattle.md_array.specs.Consistency.{IsConsistent}
use Rattle.md_array.specs.Steps.ReAdd.{ReAdds, RefusesReAdd, unread_as}
use Rattle.md_array.proofs.General.Appended.{got_last}
use Rattle.md_array.proofs.StepLemmas.ReAdd.{re_add_unchanged}
use Rattle.md_metadata.specs.ComingBack.{ComesBackStale, ComesBackWhole, FindsBitmap, HandsBackAsWas, IsMadeStale, IsRefusedStale, LacksAll, MayBeMadeStale, RefusesStale, RefusesWhole, stale_sector}
use Rattle.md_metadata.proofs.StaleFlag.{spliced_back, superblock_stays, unaccepted}

pub length_stale : (sector : List ℕ) → length sector ≡ 512 → length (stale_sector sector) ≡ 512
unfolding stale_sector
length_stale sector long = simp (length-append, length-take, length-drop) (omega arith)

-- ---- one that comes back
-- a recovering member whose offset is 0 lacks any chunk
lacks_any : (size width c : ℕ) (marked : Bool) → 0 < size → 0 < width → lacks false true marked (leb size 0 || leb ((c + 1) * width) 0) ≡ true
lacks_any size width c marked some wide =
    ap (λ (b : Bool). lacks false true marked (b || leb ((c + 1) * width) 0)) (lt-leb size 0 some)
    ∙ ap (λ (b : Bool). lacks false true marked (false || b)) (lt-leb ((c + 1) * width) 0 mul_positive)
    ∙ either marked
  where
    mul_positive : 0 < (c + 1) * width
    mul_positive = omega (arith, wide)

    either : (b : Bool) → lacks false true b false ≡ true
    either true = refl
    either false = refl

-- the flag on the device
module _ (start : ℕ) (sector : List ℕ) (looked stale : Disk) (made : IsMadeStale start sector looked stale) where
  pub stale_honest : stale.honest ≡ looked.honest
  stale_honest = (made.written.tried.stays made.read stale refl refl).honest ∙ made.reads.only_read.1.honest

  stale_long : length (stale_sector sector) ≡ 512
  stale_long = length_stale sector made.reads.first.size

  stale_outside : SameOutside (512 * start) 512 looked.content stale.content
  stale_outside =
      subst (λ (n : ℕ). SameOutside (512 * start) n looked.content stale.content) stale_long
      (subst (λ (xs : List ℕ). SameOutside (512 * start) (length (stale_sector sector)) xs stale.content) made.reads.only_read.0.0
      (made.written.tried.outside made.read stale refl refl))

  module _ (honest : looked.honest ≡ true) where
    pub stale_content : stale.content ≡ written looked.content start (stale_sector sector)
    stale_content =
        made.written.done made.read stale refl refl (made.reads.only_read.1.honest ∙ honest)
        ∙ ap (λ (xs : List ℕ). written xs start (stale_sector sector)) made.reads.only_read.0.0

    pub stale_there : held stale.content start 512 ≡ stale_sector sector
    stale_there =
        ap (λ (xs : List ℕ). held xs start 512) stale_content
        ∙ part-spliced looked.content (512 * start) (stale_sector sector) 512 (sym stale_long) (let within = made.reads.first.within in omega arith)

-- the bitmap that was read with it is not accepted
unbelieved : (a : ArrayView) (content : List ℕ) (start : ℕ) (sector : List ℕ) (info : MemberInfo) → held content start 512 ≡ sector → 0 < number_at 4 48 sector → BitmapStartsAt info.superblock start
    → members.IsReadMember content true info → HasNoOtherMarks a info → ⊥
unbelieved a content start sector info there flagged at read no_other =
    let has : HasBitmap content true info.superblock (Some no_other.header) (Some no_other.marks) =
    subst (λ (h : Option BitmapHeader). HasBitmap content true info.superblock h (Some no_other.marks)) no_other.has_header
    (subst (λ (m : Option Bitmap). HasBitmap content true info.superblock info.header m) no_other.has_marks read.bitmap) in
    unaccepted content start sector info.superblock no_other.header there flagged at has.1.header no_other.accepted

-- a member that was read has a bitmap where there is a header
pub bitmap_there : (content : List ℕ) (honest : Bool) (v : Superblock) (h : Option BitmapHeader) (m : Option Bitmap) → HasBitmap content honest v h m → is_some h ≡ true → has_bitmap v ≡ true
bitmap_there content honest v (Some h) (Some m) has there = has.0
bitmap_there content honest v None None has there = absurd (true≢false (sym there))
bitmap_there content honest v (Some h) None has there = absurd has
bitmap_there content honest v None (Some m) has there = absurd has

-- the last member of an array that a device came back to
member_joined : (a b : ArrayView) (m n : MemberView) (role k : ℕ) → b ≡ joined a m role → k ≡ length a.members → IsMember b k n → n ≡ m
member_joined a b m n role k is last at =
    let there : slice_get b.members k ≡ Some m =
    ap (λ (x : ArrayView). slice_get x.members k) is
    ∙ ap (slice_get (map made_due a.members ++ m ∷ [])) (last ∙ sym (length-map a.members made_due))
    ∙ got_last (map made_due a.members) m in
    same_Some n m (sym at ∙ there)

-- it is recovering, with the offset 0
lacks_each : (k : ℕ) (device : Disk) (old new : MirrorView) (c : IsConsistent old) (r : ReAdds k device old new) → (HasNoOtherMarks old.array r.info → ⊥) → LacksAll k new.array
lacks_each k device old new c r other n at chunk low =
    let m : MemberView = r.recorded.takes.member in
    let a : ArrayView = old.array in
    let offset : r.recorded.takes.offset ≡ 0 = ⊎_elim (λ h. absurd (other h.0)) (λ h. h.1) r.recorded.takes.offset_is in
    let same : n ≡ m = member_joined a new.array m n (own_role r.info.superblock) k r.recorded.takes.array r.recorded.last at in
    let none : m.offset ≡ 0 = r.recorded.takes.taken.offset_is ∙ offset in
    let width : new.array.chunks.sectors ≡ a.chunks.sectors = ap (λ (x : ArrayView). x.chunks.sectors) r.recorded.takes.array in
    let size : new.array.chunks.size ≡ r.info.superblock.size =
    ap (λ (x : ArrayView). x.chunks.size) r.recorded.takes.array ∙ c.chunks.size ∙ sym r.recorded.takes.may.fits.of_array.size in
    let some : 0 < new.array.chunks.size = subst (λ (s : ℕ). 0 < s) (sym size) r.read.placed.some_size in
    let wide : 0 < new.array.chunks.sectors = subst (λ (w : ℕ). 0 < w) (sym width) c.chunks.wide in
    let marked : Bool = is_set new.array.marks.bytes chunk in
    ap (λ (x : MemberView). is_missing new.array x chunk) same
    ∙ ap (λ (s : MemberState). lacks (is_in_sync s) (is_recovering s) marked (leb new.array.chunks.size m.offset || leb ((chunk + 1) * new.array.chunks.sectors) m.offset)) r.recorded.takes.taken.state
    ∙ ap (λ (o : ℕ). lacks false true marked (leb new.array.chunks.size o || leb ((chunk + 1) * new.array.chunks.sectors) o)) none
    ∙ lacks_any new.array.chunks.size new.array.chunks.sectors chunk marked some wide

pub lacks_all : (start k : ℕ) (device looked : Disk) (old new : MirrorView) → IsConsistent old → FindsBitmap old.array device looked start → ComesBackStale start k looked old new → device.honest ≡ true → LacksAll k new.array
lacks_all start k device looked old new c finds comes honest =
    let made = comes.made in
    let r : ReAdds k comes.stale old new = comes.re_adds in
    let looked_honest : looked.honest ≡ true = finds.only_read.1.honest ∙ honest in
    let own : members.IsReadMember device.content true finds.info = subst (λ (b : Bool). members.IsReadMember device.content b finds.info) honest finds.member in
    let again : members.IsReadMember comes.stale.content true r.info =
    subst (λ (b : Bool). members.IsReadMember comes.stale.content b r.info) (stale_honest start comes.sector looked comes.stale made ∙ looked_honest) r.read in
    let outside : SameOutside (512 * start) 512 device.content comes.stale.content =
    subst (λ (xs : List ℕ). SameOutside (512 * start) 512 xs comes.stale.content) finds.only_read.0.0 (stale_outside start comes.sector looked comes.stale made) in
    let same : r.info.superblock ≡ finds.info.superblock =
    superblock_stays device.content comes.stale.content _ start finds.info.superblock r.info.superblock own.superblock own.placed (bitmap_there device.content true finds.info.superblock finds.info.header finds.info.marks own.bitmap finds.may.has_header) finds.at outside again.superblock in
    let at : BitmapStartsAt r.info.superblock start = subst (λ (v : Superblock). BitmapStartsAt v start) (sym same) finds.at in
    lacks_each k comes.stale old new c r
    (unbelieved old.array comes.stale.content start (stale_sector comes.sector) r.info (stale_there start comes.sector looked comes.stale made looked_honest) made.flagged at again)

-- ---- one that does not
-- a device that is refused for another reason than a failed write is only read
left_alone : (device given : Disk) (old new : MirrorView) (f : ReAddFault) → f ≢ WriteFault → RefusesReAdd device given old new f → (given.content ≡ device.content) × (given.honest ≡ device.honest)
left_alone device given old new fault.Halted other r = (ap (λ (d : Disk). d.content) r.1, ap (λ (d : Disk). d.honest) r.1)
left_alone device given old new (fault.Member f) other r = (r.only_read.0.0, r.only_read.1.honest)
left_alone device given old new fault.Full other r = (r.only_read.0.0, r.only_read.1.honest)
left_alone device given old new fault.NotReAddable other r = (r.only_read.0.0, r.only_read.1.honest)
left_alone device given old new fault.NoRole other r = (r.only_read.0.0, r.only_read.1.honest)
left_alone device given old new fault.EventsFull other r = (r.only_read.0.0, r.only_read.1.honest)
left_alone device given old new fault.WriteFault other r = absurd (other refl)
left_alone device given old new fault.NoMemory other r = (r.only_read.0.0, r.only_read.1.honest)

-- it is as long as it was in any case
pub re_add_long : (device given : Disk) (old new : MirrorView) (f : ReAddFault) → RefusesReAdd device given old new f → length given.content ≡ length device.content
re_add_long device given old new fault.Halted r = ap (λ (d : Disk). length d.content) r.1
re_add_long device given old new (fault.Member f) r = ap length r.only_read.0.0
re_add_long device given old new fault.Full r = ap length r.only_read.0.0
re_add_long device given old new fault.NotReAddable r = ap length r.only_read.0.0
re_add_long device given old new fault.NoRole r = ap length r.only_read.0.0
re_add_long device given old new fault.EventsFull r = ap length r.only_read.0.0
re_add_long device given old new fault.WriteFault r = (r.fails.failed.tried.outside r.after_reading given refl refl).size ∙ ap length r.only_read.0.0
re_add_long device given old new fault.NoMemory r = ap length r.only_read.0.0

-- no failed write is told of a device that was only read
pub unread_other : (f : MemberFault) → unread_as f ≢ WriteFault
unread_other member_fault.NoMemory = λ is. cc
unread_other member_fault.TooShort = λ is. cc
unread_other member_fault.ReadFault = λ is. cc
unread_other (member_fault.Super f) = λ is. cc
unread_other member_fault.Region = λ is. cc
unread_other (member_fault.Bitmap f) = λ is. cc
unread_other (member_fault.Log f) = λ is. cc

pub untaken_other : (a : ArrayView) (info : MemberInfo) (f : ReAddFault) → RefusesToTakeBack a info f → f ≢ WriteFault
untaken_other a info fault.Halted r = absurd r
untaken_other a info (fault.Member f) r = absurd r
untaken_other a info fault.Full r = λ is. cc
untaken_other a info fault.NotReAddable r = λ is. cc
untaken_other a info fault.NoRole r = λ is. cc
untaken_other a info fault.EventsFull r = λ is. cc
untaken_other a info fault.WriteFault r = absurd r
untaken_other a info fault.NoMemory r = absurd r

-- one that may be taken back may be flagged
pub may_be_flagged : (a : ArrayView) (info : MemberInfo) → IsReAddable a info → MayBeMadeStale a info
may_be_flagged a info r = record {
  has_header = ap is_some r.has_header;
  of_array = r.of_array.set_uuid;
  no_newer = r.in_time.no_newer;
}

pub re_add_left : (device given : Disk) (old new : MirrorView) (f : ReAddFault) → RefusesReAdd device given old new f → HandsBackAsWas device given old new f
re_add_left device given old new f r = record {
  mirror = re_add_unchanged device given old new f r;
  unwritten = λ _ other. (left_alone device given old new f other r).0;
}

-- the sector is put back
restored : (start : ℕ) (looked given : Disk) (old new : MirrorView) (f : ReAddFault) (r : IsRefusedStale start looked given old new f) → looked.honest ≡ true → f ≢ WriteFault → given.content ≡ looked.content
restored start looked given old new f r honest other =
    ⊎_elim
    (λ put.
    let unwritten : r.refusal ≢ WriteFault = λ same. other (put.1 ∙ same) in
    let kept = left_alone r.stale r.back old new r.refusal unwritten r.refused in
    let first = r.made.reads.first in
    let again : r.back.honest ≡ true = kept.1 ∙ (stale_honest start r.sector looked r.stale r.made ∙ honest) in
    let long : length (stale_sector r.sector) ≡ 512 = length_stale r.sector first.size in
    put.0.done r.back given refl refl again
    ∙ ap (λ (xs : List ℕ). written xs start r.sector) (kept.0 ∙ stale_content start r.sector looked r.stale r.made honest)
    ∙ spliced_back looked.content (512 * start) (stale_sector r.sector) r.sector (first.size ∙ sym long) (let within = first.within in omega arith)
    (first.from_device honest ∙ ap (λ (n : ℕ). held looked.content start n) (sym long)))
    (λ failed. absurd (other failed.1))
    r.put_back

pub stale_left : (start : ℕ) (looked given : Disk) (old new : MirrorView) (f : ReAddFault) → RefusesStale start looked given old new f → HandsBackAsWas looked given old new f
stale_left start looked given old new f r =
    ⊎_elim
    (λ unread. record { mirror = unread.0.unchanged; unwritten = λ _ _. unread.0.only_read.0.0 })
    (λ rest.
    ⊎_elim
    (λ unflagged. record { mirror = unflagged.0.unchanged; unwritten = λ _ other. absurd (other unflagged.1) })
    (λ refused. record { mirror = re_add_unchanged refused.stale refused.back old new refused.refusal refused.refused; unwritten = restored start looked given old new f refused })
    rest)
    r

pub whole_left : (device given : Disk) (old new : MirrorView) (f : ReAddFault) → RefusesWhole device given old new f → HandsBackAsWas device given old new f
whole_left device given old new f r =
    ⊎_elim
    (λ unwritten. re_add_left device given old new f unwritten.1)
    (λ found.
    let left = stale_left found.start found.looked given old new f found.refused in
    record {
      mirror = left.mirror;
      unwritten = λ honest other. left.unwritten (found.finds.only_read.1.honest ∙ honest) other ∙ found.finds.only_read.0.0;
    })
    r

-- a device is as long after a write as before it
pub written_long : (was now : Disk) (w : Write) {T E : Type 0} (result : Result T E) → MatchResult result (λ _. IsWritten 0 w (was ∷ []) (now ∷ [])) (λ _. IsFailed 0 w (was ∷ []) (now ∷ [])) → length now.content ≡ length was.content
written_long was now w (Ok x) done = (done.tried.outside was now refl refl).size
written_long was now w (Err e) failed = (failed.tried.outside was now refl refl).size

-- whatever it answers
pub whole_or_left : {D : Type 0} (of : D → Disk) (device : Disk) (old new : MirrorView) (result : Result ℕ (D × ReAddFault)) → MatchResult result (λ k. ComesBackWhole k device old new) (λ e. RefusesWhole device (of e.0) old new e.1)
    → MatchResult result (λ _. ⊤) (λ e. HandsBackAsWas device (of e.0) old new e.1)
whole_or_left of device old new (Ok k) comes = tt
whole_or_left of device old new (Err e) r = whole_left device (of e.0) old new e.1 r

pub stale_or_whole : {D : Type 0} (of : D → Disk) (device looked : Disk) (old new : MirrorView) (start : ℕ) → IsConsistent old → FindsBitmap old.array device looked start
    → (result : Result ℕ (D × ReAddFault)) → MatchResult result (λ k. ComesBackStale start k looked old new) (λ e. RefusesStale start looked (of e.0) old new e.1)
    → MatchResult result (λ k. ComesBackWhole k device old new) (λ e. RefusesWhole device (of e.0) old new e.1)
stale_or_whole of device looked old new start c finds (Ok k) comes = record {
  start = start;
  looked = looked;
  finds = finds;
  comes = comes;
  lacks_all = lacks_all start k device looked old new c finds comes;
}
stale_or_whole of device looked old new start c finds (Err e) r = inr (record { start = start; looked = looked; finds = finds; refused = r })
