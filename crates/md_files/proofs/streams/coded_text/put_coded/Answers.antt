use Rattle.std.proofs.Common.{◌≡◌, ◌∙◌, ℕ, List, ap, sym, subst}
use Rattle.std.specs.List.{flat_map}
use Rattle.std.proofs.lemmas.Iterator.{YieldsList-from_chars}
use Rattle.std.proofs.lemmas.Iterator.Consumers.{YieldsList-end}
use Rattle.md_streams.specs.Sink.{Puts, PutsOrFails}
use Rattle.md_streams.proofs.Puts.{puts_nothing, puts_then}
use Rattle.md_files.specs.Streams.CodedText.{coded, coded_char}
use Rattle.md_files.proofs.CodedTexts.{coded_more, coded_plain, same_items}
use Rattle.md_files.proofs.streams.coded_text.put_coded.Goals as goal

pub returns-then-not-hides : goal.returns-then-not-hides
returns-then-not-hides g c =
    let P : List ℕ → Type 0 = λ t. PutsOrFails g.S.Sink.contents g.S.Sink.failed c.args.out.now c.put.new.self t c.put.result in
    let same : c.args.text.now ≡ coded c.args.text.now = sym (coded_plain c.args.text.now c.utf8.text (let shown = c.if-not-hides.true in let is = c.hides.ensures in cc)) in
    subst P (c.as_bytes.ensures.value ∙ same) c.put.ensures

pub loop-c-init : goal.loop-c-init
loop-c-init g c = puts_nothing g.S.Sink.contents g.S.Sink.failed c.args.out.now

pub loop-c-preserved : goal.loop-c-preserved
loop-c-preserved g c =
    let P : List ℕ → Type 0 = λ t. Puts g.S.Sink.contents g.S.Sink.failed c.args.out.now c.put_char.new.out t in
    subst P (coded_more c.loop-c.yielded c.in-Some.c) (puts_then g.S.Sink.contents g.S.Sink.failed c.loop-c.invariant c.in_ok-put_char.ensures)

pub returns : goal.returns
returns g c =
    let t = YieldsList-end (YieldsList-from_chars c.args.text.now c.utf8.text cc) c.loop-c.yielded _ c.loop-c.yielded_by _ _ c.in-None.is c.next.ensures.steps in
    let P : List ℕ → Type 0 = λ t. Puts g.S.Sink.contents g.S.Sink.failed c.args.out.now c.loop-c.out t in
    subst P (ap (flat_map coded_char) (same_items c.loop-c.yielded ∙ t.0)) c.loop-c.invariant
