use Rattle.std.proofs.Common.{◌≡◌, List, ℕ, length, ap, sym, subst, ◌∙◌}
use Rattle.md_super.specs.Checksum.{checksum_of}
use Rattle.md_super.specs.Encoding.{super_bytes}
use Rattle.md_super.specs.Faults.{NoSuperFault}
use Rattle.md_super.specs.Format.{IsSuper}
use Rattle.md_bitmap.specs.Faults.{NoneStands}
use Rattle.md_bitmap.specs.Header.{IsHeader, header_bytes}
use Rattle.md_create.specs.ReadBack.{sealed}
use Rattle.md_create.proofs.Read.{read_back}
use Rattle.md_create.proofs.Taken.{only_memory}
use Rattle.md_create.proofs.reading_back.reads_back.Goals as goal

spelled : (c : goal.After-encode-2) → IsSuper (super_bytes c.args.member.now.superblock) (sealed c.args.member.now.superblock)
spelled c =
    let v = c.args.member.now.superblock in
    subst (λ (bytes : List ℕ). IsSuper bytes (record v { sb_csum = checksum_of bytes (length v.roles) })) c.encode.ensures.bytes c.encode.ensures.fields

header_is : (c : goal.After-encode-2) → IsHeader (header_bytes c.args.member.now.header) c.args.member.now.header
header_is c = subst (λ (bytes : List ℕ). IsHeader bytes c.args.member.now.header) c.encode-2.ensures.bytes c.encode-2.ensures.header

long : (c : goal.After-encode-2) → length (header_bytes c.args.member.now.header) ≡ 256
long c = ap length (sym c.encode-2.ensures.bytes) ∙ c.encode-2.array_long

pub returns-clause-same : goal.returns-clause-same
returns-clause-same c old new info = read_back c.args.member.now old new info (spelled c) (header_is c) (long c)

pub returns-clause-taken : goal.returns-clause-taken
returns-clause-taken c old new fault laid room =
    only_memory c.args.member.now old new (spelled c) (subst NoSuperFault c.encode.ensures.bytes c.encode.ensures.sound) (header_is c)
    (subst NoneStands c.encode-2.ensures.bytes c.encode-2.ensures.sound) (long c) laid room fault
