-- A log without a shift stays so by each event of a rebuild, and an opening misreads its member then only if that is spoiled.
use Rattle.std.proofs.Common.{◌≡◌, ◌∙◌, ◌||◌, ℕ, Bool, true, false, not, eqb, List, [], ◌∷◌, Option, Some, map, set, slice_get, refl, sym, ap, subst}
use Rattle.md_kept_members.specs.Members.{made_due, recorded_member}
use Rattle.md_kept_members.specs.TakingBack.{admitted_member, lowered_member}
use Rattle.md_kept_members.specs.View.{MemberView}
use Rattle.md_model.specs.Events.{Event}
use Rattle.md_model.specs.Sectors.{put}
use Rattle.md_model.proofs.Puts.{by_same, put-hit, put-miss}
use Rattle.md_state.specs.Members.{IsMember}
use Rattle.md_state.specs.Steps.Checkpoint.{checked}
use Rattle.md_state.specs.Steps.Rise.{made_faulty}
use Rattle.md_state.specs.Steps.StoreLog.{logged}
use Rattle.md_state.specs.View.{ArrayView, MirrorView}
use Rattle.md_array.specs.InTurn.{AllLeftWhole, AllOf, Did, InTurn, Requests}
use Rattle.md_array.specs.ReadAsKept.{has_shift}
use Rattle.md_array.specs.Worlds.{AreHonest}
use Rattle.md_array.proofs.General.Indices.{at_map}
use Rattle.md_array.proofs.General.Replaced.{of_set}
use Rattle.md_array.proofs.StepLemmas.FailedParts.{failed_write}
use Rattle.md_array.proofs.StepLemmas.OneMember.{member_there}
use Rattle.md_laws.specs.Runs.{MirrorRun, Moment, then_as}
use Rattle.md_laws.proofs.Runs.Rests.{at_once, at_rest}
use Rattle.md_copy.specs.RebuildEvents.{IsBeforeEnrol}
use Rattle.md_copy.proofs.Ready.ReadyStill.{IsOnMembers}
use Rattle.md_call_laws.specs.Rebuilds.RebuildRuns.{HasNoShift, StaysReadable}

-- ---- of which events
abbrev pub LeavesShifts : Event → Type 0
LeavesShifts (Event.Record k) = Unit {0}
LeavesShifts (Event.StoreMarks k b) = Unit {0}
LeavesShifts (Event.NoteBad k more) = Unit {0}
LeavesShifts (Event.StoreLog k listed) = Unit {0}
LeavesShifts (Event.WriteFails k part) = Unit {0}
LeavesShifts (Event.LowerOffset k s) = Unit {0}
LeavesShifts (Event.Fill k) = Unit {0}
LeavesShifts (Event.Prepare k) = Unit {0}
LeavesShifts (Event.RecordTargetFails k) = Unit {0}
LeavesShifts (Event.SpoilTarget k) = Unit {0}
LeavesShifts (Event.Admit k role listed) = Unit {0}
LeavesShifts (Event.Checkpoint k sure listed) = Unit {0}
LeavesShifts (Event.Enrol k role listed) = Unit {0}
LeavesShifts e = ⊥

pub before_leaves : (target : ℕ) (e : Event) → IsBeforeEnrol target e → LeavesShifts e
before_leaves target (Event.Record k) of = tt
before_leaves target (Event.StoreMarks k b) of = tt
before_leaves target (Event.NoteBad k more) of = tt
before_leaves target (Event.StoreLog k listed) of = tt
before_leaves target (Event.WriteFails k part) of = tt
before_leaves target (Event.LowerOffset k s) of = tt
before_leaves target (Event.Fill k) of = tt
before_leaves target (Event.Prepare k) of = tt
before_leaves target (Event.RecordTargetFails k) of = tt
before_leaves target (Event.Admit k role listed) of = tt
before_leaves target (Event.Checkpoint k sure listed) of = tt
before_leaves target e of = absurd of

pub on_members_leave : (e : Event) → IsOnMembers e → LeavesShifts e
on_members_leave (Event.Record k) of = tt
on_members_leave (Event.StoreMarks k b) of = tt
on_members_leave (Event.StoreLog k listed) of = tt
on_members_leave (Event.WriteFails k part) of = tt
on_members_leave e of = absurd of

-- ---- the shift
-- one of them is another
set_none : (a b : ArrayView) (j : ℕ) (n : MemberView) → b.members ≡ set a.members j n → (k : ℕ) → HasNoShift k a → (k ≡ j → n.superblock.bblog_shift ≡ 0) → HasNoShift k b
set_none a b j n is k none own y at =
    of_set a.members j k n y (ap (λ xs. slice_get xs k) (sym is) ∙ at)
    (λ here now. ap (λ (z : MemberView). z.superblock.bblog_shift) now ∙ own here)
    (λ other there. none y there)

due_none : (a b : ArrayView) (j : ℕ) (n : MemberView) → b.members ≡ set (map made_due a.members) j n → (k : ℕ) → HasNoShift k a → (k ≡ j → n.superblock.bblog_shift ≡ 0) → HasNoShift k b
due_none a b j n is k none own y at =
    of_set (map made_due a.members) j k n y (ap (λ xs. slice_get xs k) (sym is) ∙ at)
    (λ here now. ap (λ (z : MemberView). z.superblock.bblog_shift) now ∙ own here)
    (λ other there.
    (let x = at_map made_due a.members k y there in
    ap (λ (z : MemberView). z.superblock.bblog_shift) x.2 ∙ none x.0 x.1))

-- this member had none
was_none : (a : ArrayView) (k j : ℕ) (m : MemberView) → HasNoShift k a → IsMember a j m → k ≡ j → m.superblock.bblog_shift ≡ 0
was_none a k j m none at here = none m (ap (slice_get a.members) here ∙ at)

same_none : (a b : ArrayView) (k : ℕ) → b ≡ a → HasNoShift k a → HasNoShift k b
same_none a b k same none = subst (HasNoShift k) (sym same) none

no_shift_then : (e : Event) → LeavesShifts e → (old : MirrorView) (before : Requests) (mid : MirrorView) (between : Requests) → Did old before e mid between → (k : ℕ) → HasNoShift k old.array → HasNoShift k mid.array
no_shift_then (Event.Record j) of old before mid between did k none =
    let r = did.1 in
    set_none old.array mid.array j (recorded_member r.member) (ap (λ (a : ArrayView). a.members) r.array) k none (was_none old.array k j r.member none r.may.at)
no_shift_then (Event.StoreMarks j b) of old before mid between did k none =
    let r = did.1 in
    set_none old.array mid.array j (record r.member { stored = r.stored }) (ap (λ (a : ArrayView). a.members) r.array) k none (was_none old.array k j r.member none r.may.in_sync.member)
no_shift_then (Event.NoteBad j more) of old before mid between did k none =
    let r = did.1.notes in
    set_none old.array mid.array j (record r.may.member { bad = r.list }) (ap (λ (a : ArrayView). a.members) r.array) k none (was_none old.array k j r.may.member none r.may.at)
no_shift_then (Event.StoreLog j listed) of old before mid between did k none =
    let r = did.1 in
    set_none old.array mid.array j (logged r.member) (ap (λ (a : ArrayView). a.members) r.array) k none (λ here. refl)
no_shift_then (Event.WriteFails j part) of old before mid between did k none =
    let f = (failed_write j old mid before part between did).1.array in
    due_none old.array mid.array j (made_faulty f.member) (ap (λ (a : ArrayView). a.members) f.array) k none (was_none old.array k j f.member none f.at)
no_shift_then (Event.LowerOffset j s) of old before mid between did k none =
    let r = did.1.lowers in
    set_none old.array mid.array j (lowered_member s r.member) (ap (λ (a : ArrayView). a.members) r.array) k none (was_none old.array k j r.member none r.at)
no_shift_then (Event.Fill j) of old before mid between did k none = same_none old.array mid.array k did.1.array none
no_shift_then (Event.Prepare j) of old before mid between did k none = same_none old.array mid.array k did.1.array none
no_shift_then (Event.RecordTargetFails j) of old before mid between did k none = same_none old.array mid.array k did.1.leaves.array none
no_shift_then (Event.SpoilTarget j) of old before mid between did k none = same_none old.array mid.array k did.1.array none
no_shift_then (Event.Admit j role listed) of old before mid between did k none =
    let i = did.1.index in
    let r = did.1.admits in
    due_none old.array mid.array i (admitted_member r.role r.may.member) (ap (λ (a : ArrayView). a.members) r.array) k none (was_none old.array k i r.may.member none r.may.at)
no_shift_then (Event.Checkpoint j sure listed) of old before mid between did k none =
    let i = did.1.index in
    let r = did.1.checkpoints in
    set_none old.array mid.array i (recorded_member (checked r.sure r.may.member)) (ap (λ (a : ArrayView). a.members) r.array) k none (was_none old.array k i r.may.member none r.may.at)
no_shift_then (Event.Enrol j role listed) of old before mid between did k none =
    let i = did.1.index in
    let r = did.1.enrols in
    due_none did.1.old.array mid.array i r.member (ap (λ (a : ArrayView). a.members) r.array) k
    (subst (λ (v : MirrorView). HasNoShift k v.array) did.1.prepared none)
    (λ here. ap (λ v. v.bblog_shift) r.comes.comes.superblock)
no_shift_then e of old before mid between did k none = absurd of

-- ---- who is misread
put_reads : (j : ℕ) (b c : Bool) (f g : ℕ → Bool) (k : ℕ) → (k ≡ j → b ≡ false → c ≡ false) → (f k ≡ false → g k ≡ false) → put j b f k ≡ false → put j c g k ≡ false
put_reads j b c f g k own other off = by_same k j
    (λ here. ap (put j c g) here ∙ put-hit j c g ∙ own here (sym (put-hit j b f) ∙ sym (ap (put j b f) here) ∙ off))
    (λ apart. put-miss j c g k apart ∙ other (sym (put-miss j b f k apart) ∙ off))

put_one : (j : ℕ) (b : Bool) (f : ℕ → Bool) (k : ℕ) → (k ≡ j → b ≡ false) → f k ≡ false → put j b f k ≡ false
put_one j b f k own other = by_same k j (λ here. ap (put j b f) here ∙ put-hit j b f ∙ own here) (λ apart. put-miss j b f k apart ∙ other)

or_off : (x y : Bool) → x ≡ false → y ≡ false → (x || y) ≡ false
or_off x y a b = ap (λ z. z || y) a ∙ b

-- a log that had no shift is stored
log_reads : (t : Moment) (j : ℕ) (m : MemberView) → IsMember t.mirror.array j m → (k : ℕ) → HasNoShift k t.mirror.array → (t.spoiled k ≡ false → t.misread k ≡ false)
    → t.spoiled k ≡ false → put j (has_shift t.mirror.array j || t.misread j) t.misread k ≡ false
log_reads t j m at k none reads off =
    put_one j (has_shift t.mirror.array j || t.misread j) t.misread k
    (λ here.
    or_off (has_shift t.mirror.array j) (t.misread j)
    (member_there t.mirror.array j m false (λ x. not (eqb x.superblock.bblog_shift 0)) at ∙ ap (λ n. not (eqb n 0)) (was_none t.mirror.array k j m none at here))
    (sym (ap t.misread here) ∙ reads off))
    (reads off)

module _ (t : Moment) (mid : MirrorView) (between : Requests) (k : ℕ) (none : HasNoShift k t.mirror.array) (reads : t.spoiled k ≡ false → t.misread k ≡ false) where
  reads_then : (e : Event) → LeavesShifts e → Did t.mirror t.requests e mid between → (then_as t e mid between).spoiled k ≡ false → (then_as t e mid between).misread k ≡ false
  reads_then (Event.Record j) of did off = put_reads j false false t.spoiled t.misread k (λ _ _. refl) reads off
  reads_then (Event.StoreMarks j b) of did off = reads off
  reads_then (Event.NoteBad j more) of did off = reads off
  reads_then (Event.StoreLog j listed) of did off = log_reads t j did.1.member did.1.in_sync.member k none reads off
  reads_then (Event.WriteFails j part) of did off = reads off
  reads_then (Event.LowerOffset j s) of did off = reads off
  reads_then (Event.Fill j) of did off = reads off
  reads_then (Event.Prepare j) of did off = reads off
  reads_then (Event.RecordTargetFails j) of did off = reads off
  reads_then (Event.SpoilTarget j) of did off = put_reads j true true t.spoiled t.misread k (λ _ on. on) reads off
  reads_then (Event.Admit j role listed) of did off = put_reads j false false t.spoiled t.misread k (λ _ _. refl) reads off
  reads_then (Event.Checkpoint j sure listed) of did off = put_reads j false false t.spoiled t.misread k (λ _ _. refl) reads off
  reads_then (Event.Enrol j role listed) of did off = put_reads j false false t.spoiled t.misread k (λ _ _. refl) reads off
  reads_then e of did off = absurd of

pub readable_then : (t : Moment) (e : Event) → LeavesShifts e → (mid : MirrorView) (between : Requests) → Did t.mirror t.requests e mid between → StaysReadable t (then_as t e mid between)
readable_then t e of mid between did k was = record {
  no_shift = no_shift_then e of t.mirror t.requests mid between did k was.no_shift;
  reads = reads_then t mid between k was.no_shift was.reads e of did;
}

pub readable_on : (t mid last : Moment) → StaysReadable t mid → StaysReadable mid last → StaysReadable t last
readable_on t mid last x y k was = y k (x k was)

-- ---- by the events of a call
pub run_readable : (es : List Event) (previous : Option Event) (t : Moment) (Then : MirrorView → Requests → Type 0) (turn : InTurn previous t.mirror t.requests es Then) → AllOf LeavesShifts es
    → AreHonest t.mirror.disks → AllLeftWhole es previous t.mirror t.requests Then turn → (last : Moment) × MirrorRun t es last × Then last.mirror last.requests × StaysReadable t last
run_readable [] previous t Then turn of honest whole = (t, at_rest t, turn, λ k was. was)
run_readable (e ∷ es) previous t Then turn of honest whole =
    let does = turn.4 honest whole.0 in
    let next = then_as t e turn.0 turn.1 in
    let rest = run_readable es (Some e) next Then turn.5 of.1 does.honest whole.1 in (
      rest.0,
      (turn.0, turn.1, at_once t.mirror turn.0 t.requests turn.1 e does, rest.1),
      rest.2,
      readable_on t next rest.0 (readable_then t e of.0 turn.0 turn.1 turn.3) rest.3,
    )
