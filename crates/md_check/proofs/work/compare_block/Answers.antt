use Rattle.std.proofs.Common.{◌≡◌, ℕ, List, length, take, subst}
use Rattle.md_check.proofs.SectorsRead.{alike_or_read}
use Rattle.md_check.proofs.work.compare_block.Goals as goal

pub returns-clause-gave : goal.returns-clause-gave
returns-clause-gave g c = λ honest.
    let old = c.args.reader.now in
    let block = c.args.block.now in
    alike_or_read (g.D.Device.content old.device) old.offset old.listed c.args.from block c.read_into.new.reader.bytes.items c.begins_so.result
    (λ yes. subst (λ (xs : List ℕ). take (length block) xs ≡ block) c.as_slice.ensures.value (c.begins_so.ensures yes))
    (c.in_ok-read_into.ensures.gave honest)
