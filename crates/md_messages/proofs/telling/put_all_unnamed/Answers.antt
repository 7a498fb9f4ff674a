use Rattle.std.proofs.Common.{◌≡◌, ℕ, List, arith, subst}
use Rattle.std.specs.List.{flat_map, range_with_len}
use Rattle.md_streams.specs.Sink.{Puts}
use Rattle.md_examine.proofs.Texts.{flat_map_next}
use Rattle.md_streams.proofs.Puts.{puts_nothing, puts_then}
use Rattle.md_messages.specs.Telling.{unnamed_at}
use Rattle.md_messages.proofs.telling.put_all_unnamed.Goals as goal

pub loop-role-init : goal.loop-role-init
loop-role-init g c = puts_nothing g.S.Sink.contents g.S.Sink.failed c.args.out.now

pub loop-role-preserved : goal.loop-role-preserved
loop-role-preserved g c =
    let P : List ℕ → Type 0 = λ t. Puts g.S.Sink.contents g.S.Sink.failed c.args.out.now c.put_unnamed.new.out t in
    subst P (flat_map_next (unnamed_at c.args.notices.now) c.loop-role.role)
    (puts_then g.S.Sink.contents g.S.Sink.failed c.loop-role.invariant c.in_ok-put_unnamed.ensures)

pub returns : goal.returns
returns g c =
    let all : c.loop-role.role ≡ 32 = omega arith in
    let P : ℕ → Type 0 = λ n. Puts g.S.Sink.contents g.S.Sink.failed c.args.out.now c.loop-role.out (flat_map (unnamed_at c.args.notices.now) (range_with_len 0 n)) in
    subst P all c.loop-role.invariant
