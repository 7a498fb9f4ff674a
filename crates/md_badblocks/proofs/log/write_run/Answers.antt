use Rattle.std.proofs.Common.{◌≡◌, ◌+◌, ◌*◌, ◌++◌, take, map, sym, ap, ◌∙◌, arith}
use Rattle.std.specs.List.{flat_map, range_with_len}
use Rattle.std.proofs.lemmas.List.{append_assoc}
use Rattle.byteorder.specs.Endian.{little_bytes}
use Rattle.md_badblocks.specs.Log.{entry_at}
use Rattle.md_badblocks.proofs.Entries.{bytes_more}
use Rattle.md_badblocks.proofs.log.write_run.Goals as goal

pub loop-k-preserved : goal.loop-k-preserved
loop-k-preserved c =
    let k = c.loop-k.k in
    let before = take (8 * c.args.place) c.args.buf.now in
    let next : 8 * (c.args.place + (k + 1)) ≡ 8 * (c.args.place + k + 1) = omega arith in
    ap (λ n. take n c.write_entry.new.buf) next ∙ c.write_entry.ensures ∙ ap (λ xs. xs ++ little_bytes 8 c.entry_at.result) c.loop-k.invariant ∙ append_assoc before (flat_map (little_bytes 8) (map (entry_at c.args.run) (range_with_len 0 k))) (little_bytes 8 c.entry_at.result) ∙ ap (λ e. before ++ (flat_map (little_bytes 8) (map (entry_at c.args.run) (range_with_len 0 k)) ++ little_bytes 8 e)) c.entry_at.ensures ∙ ap (λ xs. before ++ xs) (sym (bytes_more (entry_at c.args.run) k))
