use Rattle.std.proofs.Common.{◌/◌, ℕ, sym, subst}
use Rattle.md_array.proofs.General.Resting.{rests_sound}
use Rattle.md_state.specs.Requests.{IsPending}
use Rattle.md_state.specs.View.{ArrayView}
use Rattle.md_read.specs.Unresynced.{MayReadSectors}
use Rattle.md_read.proofs.PartsRead.{unresynced_answer, unresynced_rests}
use Rattle.md_read.proofs.unresynced.read_unresynced.Goals as goal

pub returns-clause-gives : goal.returns-clause-gives
returns-clause-gives g c =
    let old = c.args.mirror.now in
    let may = subst (λ (n : ℕ). MayReadSectors old.array c.args.sector (n / 512)) (sym c.read_parts.auto.buf) c.in_ok-check_sectors.ensures.may in
    unresynced_answer old c.read_parts.new.mirror c.args.sector c.read_parts.new.buf c.read_parts.result may c.read_parts.ensures

pub returns-clause-sound : goal.returns-clause-sound
returns-clause-sound g c =
    let old = c.args.mirror.now in
    let new = c.read_parts.new.mirror in
    rests_sound old new (unresynced_rests old new c.args.sector c.read_parts.new.buf c.read_parts.result c.read_parts.ensures) c.requires.sound

pub returns-clause-pending : goal.returns-clause-pending
returns-clause-pending g c p is =
    let rests = unresynced_rests c.args.mirror.now c.read_parts.new.mirror c.args.sector c.read_parts.new.buf c.read_parts.result c.read_parts.ensures in
    subst (λ (a : ArrayView). IsPending a p) (sym rests.array) is
