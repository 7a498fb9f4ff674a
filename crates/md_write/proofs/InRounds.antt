-- Lists of events that are in rounds, one after another.
use Rattle.std.proofs.Common.{ℕ, suc, List, [], ◌∷◌, ◌++◌, refl, sym, subst, inl, inr}
use Rattle.std.proofs.lemmas.List.{append-nil, append_assoc}
use Rattle.md_model.specs.Events.{Event, MemberPart}
use Rattle.md_array.specs.InTurn.{AllOf}
use Rattle.md_metadata.specs.Lowering.{IsLowering}
use Rattle.md_metadata.specs.Storing.{FailsAtLast, IsFailureOf, IsRecording}
use Rattle.md_write.specs.Progress.{InRounds, IsMarkingOf, LeavesRoundsAt, Part}

-- ---- from an earlier part on
pub after_bytes : (part : Part) (es : List Event) → InRounds Part.Bytes es → InRounds part es
after_bytes part [] r = tt
after_bytes part (Event.StoreMarks k b ∷ es) (inl r) = absurd (let no = r.0 in cc)
after_bytes part (Event.StoreMarks k b ∷ es) (inr r) = absurd r.1
after_bytes part (Event.LowerOffset k s ∷ es) r = absurd (let no = r.0 in cc)
after_bytes part (Event.Record k ∷ es) r = absurd r.0
after_bytes part (Event.WriteMember n k ∷ es) r = r
after_bytes part (Event.WriteFails k (MemberPart.BitmapSector b) ∷ es) (inl r, rest) = absurd cc
after_bytes part (Event.WriteFails k (MemberPart.BitmapSector b) ∷ es) (inr r, rest) = absurd r.1
after_bytes part (Event.WriteFails k MemberPart.Superblock ∷ es) r = absurd r.0
after_bytes part (Event.WriteFails k (MemberPart.RequestData n) ∷ es) r = r
after_bytes part (e ∷ es) r = absurd r

pub after_records : (es : List Event) → InRounds Part.Records es → InRounds Part.Marks es
after_records [] r = tt
after_records (Event.StoreMarks k b ∷ es) (inl r) = absurd (let no = r.0 in cc)
after_records (Event.StoreMarks k b ∷ es) (inr r) = inr r
after_records (Event.LowerOffset k s ∷ es) r = absurd (let no = r.0 in cc)
after_records (Event.Record k ∷ es) r = r
after_records (Event.WriteMember n k ∷ es) r = r
after_records (Event.WriteFails k (MemberPart.BitmapSector b) ∷ es) r = (inl refl, r.1)
after_records (Event.WriteFails k MemberPart.Superblock ∷ es) r = r
after_records (Event.WriteFails k (MemberPart.RequestData n) ∷ es) r = r
after_records (e ∷ es) r = absurd r

-- ---- a part before a list, failing on the way or not
pub marks_leave : (first end : ℕ) (es : List Event) → AllOf (IsMarkingOf first end) es → LeavesRoundsAt Part.Marks Part.Marks es
marks_leave first end [] all after r = r
marks_leave first end (Event.StoreMarks k b ∷ es) all after r = inl (refl, marks_leave first end es all.1 after r)
marks_leave first end (Event.WriteFails k (MemberPart.BitmapSector b) ∷ es) all after r = (inl refl, marks_leave first end es all.1 after r)
marks_leave first end (e ∷ es) all after r = absurd all.0

pub lowering_leaves : (sector : ℕ) (es : List Event) → AllOf (IsLowering sector) es → LeavesRoundsAt Part.Marks Part.Marks es
lowering_leaves sector [] all after r = r
lowering_leaves sector (Event.LowerOffset k s ∷ es) all after r = (refl, lowering_leaves sector es all.1 after r)
lowering_leaves sector (e ∷ es) all after r = absurd all.0

records_leave : (es : List Event) → AllOf IsRecording es → LeavesRoundsAt Part.Records Part.Records es
records_leave [] all after r = r
records_leave (Event.StoreMarks k b ∷ es) all after r = inr (all.0, tt, records_leave es all.1 after r)
records_leave (Event.Record k ∷ es) all after r = (tt, records_leave es all.1 after r)
records_leave (Event.WriteFails k (MemberPart.BitmapSector b) ∷ es) all after r = (inr (all.0, tt), after_records (es ++ after) (records_leave es all.1 after r))
records_leave (Event.WriteFails k MemberPart.Superblock ∷ es) all after r = (tt, after_records (es ++ after) (records_leave es all.1 after r))
records_leave (e ∷ es) all after r = absurd all.0

pub first_records_leave : (es : List Event) → AllOf IsRecording es → LeavesRoundsAt Part.Marks Part.Records es
first_records_leave es all after r = after_records (es ++ after) (records_leave es all after r)

pub other_records_leave : (es : List Event) → AllOf IsRecording es → LeavesRoundsAt Part.Records Part.Bytes es
other_records_leave es all after r = records_leave es all after (after_bytes Part.Records after r)

-- ---- one list after another
pub leaves_on : (a b c : Part) (es fs : List Event) → LeavesRoundsAt a b es → LeavesRoundsAt b c fs → LeavesRoundsAt a c (es ++ fs)
leaves_on a b c es fs g h after r = subst (InRounds a) (sym (append_assoc es fs after)) (g (fs ++ after) (h after r))

pub leaves_before : (a b : Part) (es fs : List Event) (last : Event) → LeavesRoundsAt a b es → InRounds b (fs ++ last ∷ []) → InRounds a ((es ++ fs) ++ last ∷ [])
leaves_before a b es fs last g r = subst (InRounds a) (sym (append_assoc es fs (last ∷ []))) (g (fs ++ last ∷ []) r)

pub left_at : (a b : Part) (es : List Event) → LeavesRoundsAt a b es → InRounds a es
left_at a b es g = subst (InRounds a) (append-nil es) (g [] tt)

-- ---- after a failure
after_failing : (part : Part) (k : ℕ) (e : Event) → IsFailureOf k e → InRounds part (e ∷ []) → LeavesRoundsAt part Part.Marks (e ∷ [])
after_failing part k (Event.WriteFails j MemberPart.Superblock) is r after rest = (r.0, rest)
after_failing part k (Event.WriteFails j (MemberPart.BitmapSector b)) is r after rest = (r.0, rest)
after_failing part k (Event.WriteFails j (MemberPart.RequestData n)) is r after rest = rest
after_failing part k (Event.WriteFails j MemberPart.Log) is r after rest = absurd r
after_failing part k (Event.WriteFails j (MemberPart.CopiedSectors s n)) is r after rest = absurd r
after_failing part k e is r after rest = absurd is

after_last : (part : Part) (k : ℕ) (es : List Event) (e : Event) → IsFailureOf k e → InRounds part (es ++ e ∷ []) → LeavesRoundsAt part Part.Marks (es ++ e ∷ [])
after_last part k [] e is r after rest = after_failing part k e is r after rest
after_last part k (Event.StoreMarks j b ∷ es) e is (inl r) after rest = inl (r.0, after_last Part.Marks k es e is r.1 after rest)
after_last part k (Event.StoreMarks j b ∷ es) e is (inr r) after rest = inr (r.0, r.1, after_last Part.Records k es e is r.2 after rest)
after_last part k (Event.LowerOffset j s ∷ es) e is r after rest = (r.0, after_last Part.Marks k es e is r.1 after rest)
after_last part k (Event.Record j ∷ es) e is r after rest = (r.0, after_last Part.Records k es e is r.1 after rest)
after_last part k (Event.WriteMember n j ∷ es) e is r after rest = after_last Part.Bytes k es e is r after rest
after_last part k (Event.WriteFails j (MemberPart.BitmapSector b) ∷ es) e is r after rest = (r.0, after_last Part.Marks k es e is r.1 after rest)
after_last part k (Event.WriteFails j MemberPart.Superblock ∷ es) e is r after rest = (r.0, after_last Part.Marks k es e is r.1 after rest)
after_last part k (Event.WriteFails j (MemberPart.RequestData n) ∷ es) e is r after rest = after_last Part.Marks k es e is r after rest
after_last part k (x ∷ es) e is r after rest = absurd r

pub fails_leave : (a b : Part) (k : ℕ) (es : List Event) → LeavesRoundsAt a b es → FailsAtLast k es → LeavesRoundsAt a Part.Marks es
fails_leave a b k es g last =
    subst (LeavesRoundsAt a Part.Marks) (sym last.list) (after_last a k last.before last.failing last.of (subst (InRounds a) last.list (left_at a b es g)))

-- ---- what is in no round
-- marks past the first sector of a bitmap, once a superblock is stored
pub no_marks_after_record : (part : Part) (j k b : ℕ) (es : List Event) → InRounds part (Event.Record j ∷ Event.StoreMarks k (suc b) ∷ es) → ⊥
no_marks_after_record part j k b es (before, inl r) = let no = r.0 in cc
no_marks_after_record part j k b es (before, inr r) = let no = r.0 in cc

-- marks or a superblock, once bytes are written
pub no_marks_after_bytes : (part : Part) (n j k b : ℕ) (es : List Event) → InRounds part (Event.WriteMember n j ∷ Event.StoreMarks k b ∷ es) → ⊥
no_marks_after_bytes part n j k b es (inl r) = let no = r.0 in cc
no_marks_after_bytes part n j k b es (inr r) = r.1

pub no_record_after_bytes : (part : Part) (n j k : ℕ) (es : List Event) → InRounds part (Event.WriteMember n j ∷ Event.Record k ∷ es) → ⊥
no_record_after_bytes part n j k es r = r.0
