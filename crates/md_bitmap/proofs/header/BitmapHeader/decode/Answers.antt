use Rattle.md_bitmap.proofs.Accepted.{first_stands, none_stands}
use Rattle.md_bitmap.proofs.header.BitmapHeader.decode.Goals as goal

pub read_fields-requires : goal.read_fields-requires
read_fields-requires c = none_stands c.args.bytes.now c.first_fault.result c.first_fault.ensures c.in-None.is

pub returns-in-Some-clause-refused : goal.returns-in-Some-clause-refused
returns-in-Some-clause-refused c = first_stands c.args.bytes.now c.first_fault.result c.in-Some.fault c.first_fault.ensures c.in-Some.is
