use Rattle.std.proofs.Common.{◌+◌, ◌≤◌, ℕ, List, length, take, sym, subst, arith}
use Rattle.md_streams.specs.Sink.{Puts}
use Rattle.md_streams.proofs.Puts.{puts_then}
use Rattle.md_files.proofs.SparseLemmas.Blocks.{with_block}
use Rattle.md_files.proofs.sparse.sparse.put_blocks.Goals as goal
use Rattle.md_files.proofs.sparse.sparse.put_blocks.Goals.{then-is_zero+in_ok-leave_out, else-is_zero}

pub loop-at-preserved : goal.loop-at-preserved
loop-at-preserved g c =
    let xs = c.args.bytes.now in
    let s = c.loop-at.start in
    let at = c.loop-at.at in
    let before = c.loop-at.invariant.before in
    let inside = c.loop-at.invariant.within in
    let more = c.loop-at-test.true in
    let within : at + 4096 ≤ length xs = omega arith in
    elim c.if-is_zero.branch [
      | then-is_zero+in_ok-leave_out w ↦
          let moved = w.start-is in
          record {
            before = omega arith;
            within = within;
            puts =
                subst (λ (n : ℕ). Puts g.F.HoleFile.contents g.F.HoleFile.failed c.args.file.now c.if-is_zero.file (take n xs)) (sym w.start-is)
                (subst (λ f. Puts g.F.HoleFile.contents g.F.HoleFile.failed c.args.file.now f (take (at + 4096) xs)) (sym w.file-is)
                (subst (λ (t : List ℕ). Puts g.F.HoleFile.contents g.F.HoleFile.failed c.args.file.now w.leave_out.new.file t)
                (with_block 4096 s at xs before within (c.is_zero.ensures w.if-is_zero.true))
                (puts_then g.F.HoleFile.contents g.F.HoleFile.failed c.loop-at.invariant.puts w.in_ok-leave_out.ensures)));
          }
      | else-is_zero w ↦
          let moved = w.start-is in
          record {
            before = omega arith;
            within = within;
            puts =
                subst (λ (n : ℕ). Puts g.F.HoleFile.contents g.F.HoleFile.failed c.args.file.now c.if-is_zero.file (take n xs)) (sym w.start-is)
                (subst (λ f. Puts g.F.HoleFile.contents g.F.HoleFile.failed c.args.file.now f (take s xs)) (sym w.file-is)
                c.loop-at.invariant.puts);
          }
    ]
