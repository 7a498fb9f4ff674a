use Rattle.md_files.proofs.MaskLemmas.MapLemmas.Lines.{after_blank, after_status, after_data}
use Rattle.md_files.proofs.masks.maps.lines_read.Reading.after.Goals as goal

pub returns-in-Blank : goal.returns-in-Blank
returns-in-Blank c = λ size lines bytes is read. after_blank size lines bytes c.args.self.end c.args.self.missing (rw c.in-Blank.is at is) read

pub returns-in-Status : goal.returns-in-Status
returns-in-Status c = λ size lines bytes is read. let here = rw c.in-Status.is at is in after_status size lines bytes c.args.self.end c.args.self.missing here.0 here.1 read

pub returns-in-Data : goal.returns-in-Data
returns-in-Data c = λ size lines bytes is read. let here = rw c.in-Data.is at is in after_data size lines bytes c.args.self.end c.with_block.result c.args.self.missing c.in-Data.block here.0 here.1 here.2 c.with_block.ensures read
