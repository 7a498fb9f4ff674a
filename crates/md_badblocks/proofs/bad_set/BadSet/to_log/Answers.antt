use Rattle.std.proofs.Common.{◌/◌, length}
use Rattle.md_badblocks.proofs.Written.{log_read}
use Rattle.md_badblocks.proofs.Unique.{read_alone}
use Rattle.md_badblocks.proofs.bad_set.BadSet.to_log.Goals as goal

pub returns-clause-read_back : goal.returns-clause-read_back
returns-clause-read_back c =
    rw (c.write_runs.ensures, c.runs.ensures.runs) (log_read c.args.self.now (length c.args.buf.now / 8) c.runs.ensures.canonical)

pub returns-clause-alone : goal.returns-clause-alone
returns-clause-alone c =
    λ other read. read_alone 0 c.write_runs.new.buf other c.args.self.now read (returns-clause-read_back c)
