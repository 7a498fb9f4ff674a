use Rattle.std.proofs.Common.{◌≡◌, ◌∙◌, ap, arith, refl, sym}
use Rattle.std.proofs.lemmas.Result.{err_from_is_err_and}
use Rattle.md_kept_members.specs.Enrolling.{log_room}
use Rattle.md_kept_members.specs.View.{MemberView}
use Rattle.md_copy.proofs.SalvageLemmas.WholePass.{cannot_rebuild}
use Rattle.md_copy.proofs.TableLemmas.Observed.{field_of}
use Rattle.md_copy.proofs.salvaging.whole_salvage.check_salvage.Goals as goal

pub returns-in_err-check_rebuild : goal.returns-in_err-check_rebuild
returns-in_err-check_rebuild g c m at =
    let p = err_from_is_err_and c.from_residual.result c.from_residual.ensures.1 in
    rw (p.1, p.2) (cannot_rebuild c.args.target c.args.mirror.now.array m c.in_err-check_rebuild.field-0.0 (c.in_err-check_rebuild.ensures m at))

pub returns-then-log_room-eq0 : goal.returns-then-log_room-eq0
returns-then-log_room-eq0 g c m at =
    let own = field_of (λ (x : MemberView). x.superblock) _ m _ at c.own.ensures in
    (refl, c.in_ok-check_rebuild.ensures m at, ap log_room own ∙ sym c.log_room.ensures ∙ c.if-log_room-eq0.true)

pub returns : goal.returns
returns g c m at =
    let own = field_of (λ (x : MemberView). x.superblock) _ m _ at c.own.ensures in
    let room : c.log_room.result ≡ log_room m.superblock = c.log_room.ensures ∙ ap log_room (sym own) in
    record { rebuild = c.in_ok-check_rebuild.ensures m at; log = omega (arith, room) }
