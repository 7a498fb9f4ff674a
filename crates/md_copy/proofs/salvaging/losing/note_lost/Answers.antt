use Rattle.std.proofs.Common.{◌∙◌, ◌<◌, sym, ap, subst, arith}
use Rattle.std.proofs.lemmas.Result.{err_from_is_err_and}
use Rattle.md_assembly.specs.States.{is_in_sync}
use Rattle.md_bitmap.specs.declared.chunks.Chunks.{Chunks}
use Rattle.md_state.proofs.Members.At.{told}
use Rattle.md_state.specs.View.{ArrayView}
use Rattle.md_copy.proofs.SalvageLemmas.LostNoted.{fitting_all, fitting_ends, fitting_more, fitting_none, fitting_past}
use Rattle.md_copy.proofs.salvaging.losing.note_lost.Goals as goal

pub loop-k-init : goal.loop-k-init
loop-k-init g c = fitting_none c.args.lost.now c.args.mirror.now c.requires.sound

pub state-requires : goal.state-requires
state-requires g c =
    let many = c.loop-k.invariant.notes.goes.array.as_many in
    let count = c.members-k-end.ensures in
    omega arith

pub note_on-requires-clause-within : goal.note_on-requires-clause-within
note_on-requires-clause-within g c =
    let many = c.loop-k.invariant.notes.goes.array.as_many in
    let count = c.members-k-end.ensures in
    omega arith

pub note_on-requires-clause-sound : goal.note_on-requires-clause-sound
note_on-requires-clause-sound g c = c.loop-k.invariant.notes.goes.sound

pub note_on-requires-clause-running : goal.note_on-requires-clause-running
note_on-requires-clause-running g c = ap (λ (v : ArrayView). v.halted) c.loop-k.invariant.notes.others ∙ c.requires.running

pub note_on-requires-clause-resynced : goal.note_on-requires-clause-resynced
note_on-requires-clause-resynced g c = ap (λ (v : ArrayView). v.resynced) c.loop-k.invariant.notes.others ∙ c.requires.resynced

pub note_on-requires-clause-in_sync : goal.note_on-requires-clause-in_sync
note_on-requires-clause-in_sync g c m at =
    ap is_in_sync (told (λ x. x.state) c.loop-k.mirror.array c.loop-k.k m c.state.result c.state.ensures at) ∙ sym c.is_in_sync.ensures ∙ (let yes = c.if-not-is_in_sync.false in cc)

pub note_on-requires-clause-sectors : goal.note_on-requires-clause-sectors
note_on-requires-clause-sectors g c s is = subst (λ (q : Chunks). s < q.size) (sym (ap (λ (v : ArrayView). v.chunks) c.loop-k.invariant.notes.others)) (c.requires.sectors s is)

pub returns-in_err-note_on-clause-gives : goal.returns-in_err-note_on-clause-gives
returns-in_err-note_on-clause-gives g c =
    let p = err_from_is_err_and c.from_residual.result c.from_residual.ensures.1 in
    rw (p.1, p.2) (fitting_ends c.args.lost.now c.loop-k.k c.args.mirror.now c.loop-k.mirror c.loop-k.invariant c.note_on.new.mirror c.in_err-note_on.field-0.0 c.in_err-note_on.ensures.gives)

pub loop-k-preserved : goal.loop-k-preserved
loop-k-preserved g c =
    fitting_more c.args.lost.now c.loop-k.k c.args.mirror.now c.loop-k.mirror c.loop-k.invariant c.note_on.new.mirror
    (λ s is. subst (λ (q : Chunks). s < q.size) (sym (ap (λ (v : ArrayView). v.chunks) c.loop-k.invariant.notes.others)) (c.requires.sectors s is))
    (λ m at. ap is_in_sync (told (λ x. x.state) c.loop-k.mirror.array c.loop-k.k m c.state.result c.state.ensures at) ∙ sym c.is_in_sync.ensures ∙ (let yes = c.if-not-is_in_sync.false in cc))
    c.in_ok-note_on.ensures.gives c.in_ok-note_on.ensures.event c.note_on.ensures.sound c.note_on.ensures.pending

pub loop-k-preserved-then-not-is_in_sync : goal.loop-k-preserved-then-not-is_in_sync
loop-k-preserved-then-not-is_in_sync g c =
    fitting_past c.args.lost.now c.loop-k.k c.args.mirror.now c.loop-k.mirror c.loop-k.invariant
    (λ m at. ap is_in_sync (told (λ x. x.state) c.loop-k.mirror.array c.loop-k.k m c.state.result c.state.ensures at) ∙ sym c.is_in_sync.ensures ∙ (let isnt = c.if-not-is_in_sync.true in cc))

pub returns-clause-gives : goal.returns-clause-gives
returns-clause-gives g c =
    let past = c.loop-k-test.false in
    let count = c.members-k-end.ensures in
    let many = c.loop-k.invariant.notes.goes.array.as_many in
    fitting_all c.args.lost.now c.loop-k.k c.args.mirror.now c.loop-k.mirror c.loop-k.invariant (omega arith)

pub returns-clause-sound : goal.returns-clause-sound
returns-clause-sound g c = c.loop-k.invariant.notes.goes.sound
