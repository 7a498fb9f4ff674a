use Rattle.md_check.proofs.ChunkFaults.{err_there_since}
use Rattle.md_check.proofs.work.read_beside.Goals as goal

pub returns-clause-there : goal.returns-clause-there
returns-clause-there g c =
    err_there_since g.D.Device c.compare_block.result c.args.reader.now c.compare_reads.new.reader c.compare_block.new.reader c.args.chunks c.compare_reads.ensures.used c.compare_block.ensures.there
