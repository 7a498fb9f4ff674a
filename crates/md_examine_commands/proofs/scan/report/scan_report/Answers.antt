use Rattle.std.proofs.Common.{◌≡◌, ℕ, List, arith, length, subst}
use Rattle.std.specs.List.{flat_map, range_with_len}
use Rattle.md_streams.specs.Sink.{Puts}
use Rattle.md_examine.proofs.Texts.{flat_map_next}
use Rattle.md_streams.proofs.Puts.{puts_nothing, puts_then}
use Rattle.md_examine_commands.specs.ScanText.{array_at, scan_text}
use Rattle.md_examine_commands.proofs.scan.report.scan_report.Goals as goal

pub loop-place-init : goal.loop-place-init
loop-place-init g c = puts_nothing g.S.Sink.contents g.S.Sink.failed c.args.out.now

pub loop-place-preserved : goal.loop-place-preserved
loop-place-preserved g c =
    let P : List ℕ → Type 0 = λ t. Puts g.S.Sink.contents g.S.Sink.failed c.args.out.now c.put_array_at.new.out t in
    subst P (flat_map_next (array_at c.args.all.now) c.loop-place.place)
    (puts_then g.S.Sink.contents g.S.Sink.failed c.loop-place.invariant c.in_ok-put_array_at.ensures)

pub returns : goal.returns
unfolding scan_text
returns g c =
    let all : c.loop-place.place ≡ length c.args.all.now = omega arith in
    let P : ℕ → Type 0 = λ n. Puts g.S.Sink.contents g.S.Sink.failed c.args.out.now c.loop-place.out (flat_map (array_at c.args.all.now) (range_with_len 0 n)) in
    subst P all c.loop-place.invariant
