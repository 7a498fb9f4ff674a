use Rattle.std.proofs.Common.{subst}
use Rattle.md_super.specs.Faults.{IsFirstSuperFault}
use Rattle.md_members.proofs.super_read.read_super.Goals as goal

pub returns-in-NoMemory-clause-reads : goal.returns-in-NoMemory-clause-reads
returns-in-NoMemory-clause-reads g c = record {
  bytes = c.read_sectors.new.buf;
  read = c.in_ok-read_sectors.ensures.ok;
  first = subst (IsFirstSuperFault c.read_sectors.new.buf) c.in-NoMemory.is c.in-Err.ensures.refused;
}

pub returns-in_default-clause-reads : goal.returns-in_default-clause-reads
returns-in_default-clause-reads g c = (
  record {
    bytes = c.read_sectors.new.buf;
    read = c.in_ok-read_sectors.ensures.ok;
    first = c.in-Err.ensures.refused;
  },
  c.in_default.not-NoMemory,
)
