use Rattle.std.proofs.Common.{ℕ, List, ap, subst, arith, rules}
use Rattle.std.specs.List.{flat_map}
use Rattle.std.proofs.lemmas.List.{take_all}
use Rattle.json.specs.Print.{escape_byte}
use Rattle.md_streams.specs.Sink.{Puts}
use Rattle.md_streams.proofs.Puts.{puts_then, puts_nothing, flat_map_at}
use Rattle.md_report.proofs.as_json.quoting.put_escaped.Goals as goal

pub loop-byte-init : goal.loop-byte-init
loop-byte-init g c = puts_nothing g.S.Sink.contents g.S.Sink.failed c.args.out.now

pub loop-byte-preserved : goal.loop-byte-preserved
loop-byte-preserved g c =
    let P : List ℕ → Type 0 = λ t. Puts g.S.Sink.contents g.S.Sink.failed c.args.out.now c.escaped_byte.new.out t in
    subst P (flat_map_at escape_byte c.args.text.now c.loop-byte.byte-index _ c.loop-byte-test.true)
    (puts_then g.S.Sink.contents g.S.Sink.failed c.loop-byte.invariant c.in_ok-escaped_byte.ensures)

pub returns : goal.returns
returns g c =
    let P : List ℕ → Type 0 = λ t. Puts g.S.Sink.contents g.S.Sink.failed c.args.out.now c.loop-byte.out t in
    subst P (ap (flat_map escape_byte) (take_all c.loop-byte.byte-index c.args.text.now (search (rules, arith)))) c.loop-byte.invariant
