use Rattle.std.proofs.Common.{rules, Err, ◌≡◌, List, MatchResult, ℕ, subst}
use Rattle.md_bitmap.specs.declared.chunks.Chunks.{Chunks}
use Rattle.md_commands.specs.ReadingInput.{IsInput, RefusesInput}
use Rattle.md_commands.specs.Writing.{RefusesBytes, WritesReadied}
use Rattle.md_commands.proofs.Written.{read_and_written, unread}
use Rattle.md_commands.proofs.writing.write_at_once.Goals as goal

pub returns-in_err-bytes-clause-gives : goal.returns-in_err-bytes-clause-gives
returns-in_err-bytes-clause-gives g c =
    let fault = c.in_err-bytes.field-0.0 in
    let passed : c.from_residual.result ≡ Err fault = search rules in
    let refused = subst (λ (chunks : Chunks). RefusesInput g.I.Source chunks.size c.args.input.now c.whole_input.new.input fault) c.chunks.ensures c.in_err-bytes.ensures in
    rw passed (unread g.I.Source c.args.sector c.args.mirror.now c.args.mirror.now c.args.input.now c.whole_input.new.input fault refused)

pub returns-clause-gives : goal.returns-clause-gives
returns-clause-gives g c =
    let old = c.args.mirror.now in
    let new = c.write_bytes.new.mirror in
    let bytes = c.in_ok-bytes.bytes.items in
    let is = subst (λ (chunks : Chunks). IsInput g.I.Source chunks.size c.args.input.now c.whole_input.new.input bytes) c.chunks.ensures c.in_ok-bytes.ensures in
    let done = subst (λ (b : List ℕ). MatchResult c.write_bytes.result (λ _. WritesReadied c.args.sector b old new) (RefusesBytes c.args.sector b old new)) c.deref.ensures.value c.write_bytes.ensures.gives in
    read_and_written g.I.Source c.args.sector old new c.args.input.now c.whole_input.new.input bytes is c.write_bytes.result done
