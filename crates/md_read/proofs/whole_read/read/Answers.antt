use Rattle.std.proofs.Common.{◌/◌, ℕ, sym, subst}
use Rattle.md_array.proofs.General.Resting.{rests_sound}
use Rattle.md_state.specs.Requests.{IsPending}
use Rattle.md_state.specs.View.{ArrayView}
use Rattle.md_read.specs.Reading.{MayReadAt}
use Rattle.md_read.proofs.ReadAnswers.{read_answer, read_rests}
use Rattle.md_read.proofs.whole_read.read.Goals as goal

pub returns-clause-gives : goal.returns-clause-gives
returns-clause-gives g c =
    let old = c.args.mirror.now in
    let may = subst (λ (n : ℕ). MayReadAt old.array c.args.sector (n / 512)) (sym c.read_runs.auto.buf) c.in_ok-check_read.ensures.may in
    read_answer old c.read_runs.new.mirror c.requires.sound c.args.sector c.read_runs.new.buf may c.read_runs.result c.read_runs.ensures

pub returns-clause-sound : goal.returns-clause-sound
returns-clause-sound g c =
    let old = c.args.mirror.now in
    let new = c.read_runs.new.mirror in
    rests_sound old new (read_rests old new c.args.sector c.read_runs.new.buf c.read_runs.result c.read_runs.ensures) c.requires.sound

pub returns-clause-pending : goal.returns-clause-pending
returns-clause-pending g c p is =
    let rests = read_rests c.args.mirror.now c.read_runs.new.mirror c.args.sector c.read_runs.new.buf c.read_runs.result c.read_runs.ensures in
    subst (λ (a : ArrayView). IsPending a p) (sym rests.array) is
