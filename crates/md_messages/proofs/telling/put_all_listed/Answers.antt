use Rattle.std.proofs.Common.{◌≡◌, ℕ, List, arith, subst}
use Rattle.std.specs.List.{flat_map, range_with_len}
use Rattle.md_streams.specs.Sink.{Puts}
use Rattle.md_examine.proofs.Texts.{flat_map_next}
use Rattle.md_streams.proofs.Puts.{puts_nothing, puts_then}
use Rattle.md_words.specs.Asks.{ask_of}
use Rattle.md_messages.specs.Telling.{listed_text_at, texts}
use Rattle.md_messages.proofs.telling.put_all_listed.Goals as goal

pub loop-k-init : goal.loop-k-init
loop-k-init g c = puts_nothing g.S.Sink.contents g.S.Sink.failed c.args.out.now

pub loop-k-preserved : goal.loop-k-preserved
loop-k-preserved g c =
    let P : List ℕ → Type 0 = λ t. Puts g.S.Sink.contents g.S.Sink.failed c.args.out.now c.put_listed.new.out t in
    subst P (flat_map_next (listed_text_at (ask_of c.args.command) c.args.notices.now (texts c.args.names.now)) c.loop-k.k)
    (puts_then g.S.Sink.contents g.S.Sink.failed c.loop-k.invariant c.in_ok-put_listed.ensures)

pub returns : goal.returns
returns g c =
    let all : c.loop-k.k ≡ 64 = omega arith in
    let P : ℕ → Type 0 = λ n. Puts g.S.Sink.contents g.S.Sink.failed c.args.out.now c.loop-k.out (flat_map (listed_text_at (ask_of c.args.command) c.args.notices.now (texts c.args.names.now)) (range_with_len 0 n)) in
    subst P all c.loop-k.invariant
