use Rattle.std.proofs.Common.{◌∙◌, ◌<◌, ◌≤◌, ℕ, refl, sym, ap, subst, arith}
use Rattle.std.proofs.lemmas.Result.{err_from_is_err_and}
use Rattle.md_bitmap.specs.declared.chunks.Chunks.{Chunks}
use Rattle.md_state.specs.View.{ArrayView}
use Rattle.md_resync.specs.Copying.{MayCopyMarked}
use Rattle.md_resync.proofs.CopiedChunks.{runs_all, runs_fail, runs_more, runs_none}
use Rattle.md_resync.proofs.chunks.copy_marked.Goals as goal

pub loop-sector-init : goal.loop-sector-init
loop-sector-init g c = record { below = runs_none c.args.mirror.now c.requires.sound; long = refl; held_long = refl }

pub copy_if_marked-requires-clause-within : goal.copy_if_marked-requires-clause-within
copy_if_marked-requires-clause-within g c =
    let size = ap (λ (x : Chunks). x.size) c.chunks-size.ensures in
    let same = ap (λ (a : ArrayView). a.chunks.size) c.loop-sector.invariant.below.copies.array in
    let low = c.loop-sector-test.true in
    omega arith

pub copy_if_marked-requires-clause-room : goal.copy_if_marked-requires-clause-room
copy_if_marked-requires-clause-room g c = let long = c.loop-sector.invariant.long in let room = c.requires.room in omega arith

pub copy_if_marked-requires-clause-as_much : goal.copy_if_marked-requires-clause-as_much
copy_if_marked-requires-clause-as_much g c = c.loop-sector.invariant.held_long ∙ c.requires.as_much ∙ sym c.loop-sector.invariant.long

pub copy_if_marked-requires-clause-sound : goal.copy_if_marked-requires-clause-sound
copy_if_marked-requires-clause-sound g c = c.loop-sector.invariant.below.copies.goes.sound

pub copy_if_marked-requires-clause-may : goal.copy_if_marked-requires-clause-may
copy_if_marked-requires-clause-may g c = subst MayCopyMarked (sym c.loop-sector.invariant.below.copies.array) c.requires.may

pub returns-in_err-sector : goal.returns-in_err-sector
returns-in_err-sector g c =
    let p = err_from_is_err_and c.from_residual.result c.from_residual.ensures.1 in
    rw (p.1, p.2) (runs_fail c.loop-sector.sector c.args.mirror.now c.loop-sector.mirror c.copy_if_marked.new.mirror c.loop-sector.invariant.below c.in_err-sector.field-0.0 c.in_err-sector.ensures)

pub loop-sector-preserved : goal.loop-sector-preserved
loop-sector-preserved g c = record {
  below = runs_more c.loop-sector.sector c.in_ok-sector.sector c.args.mirror.now c.loop-sector.mirror c.copy_if_marked.new.mirror c.loop-sector.invariant.below c.in_ok-sector.ensures;
  long = c.copy_if_marked.auto.buffer ∙ c.loop-sector.invariant.long;
  held_long = c.copy_if_marked.auto.held ∙ c.loop-sector.invariant.held_long;
}

pub returns : goal.returns
returns g c =
    let size = ap (λ (x : Chunks). x.size) c.chunks-size.ensures in
    let past = c.loop-sector-test.false in
    runs_all c.loop-sector.sector c.args.mirror.now c.loop-sector.mirror (omega arith) c.loop-sector.invariant.below
