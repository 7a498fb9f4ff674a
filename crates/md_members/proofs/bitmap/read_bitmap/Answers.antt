use Rattle.std.proofs.Common.{◌≡◌, ◌∙◌, List, ap, sym, subst, true, false, rules, inr, refl, IsTrue}
use Rattle.md_device.specs.declared.fault_list.Fault.{Fault}
use Rattle.md_device.specs.Failing.{EachNewFault}
use Rattle.std.proofs.lemmas.Bool.{leb-true, leb-false}
use Rattle.std.proofs.lemmas.Result.{err_from_is_err_and}
use Rattle.md_members.specs.Areas.{bitmap_sectors}
use Rattle.md_members.specs.Reading.{IsRead, IsReadOf, chunks_of}
use Rattle.md_members.proofs.Headers.{header_read, marks_as, placed_by, placed_of}
use Rattle.md_members.proofs.Refusals.{bitmap_by_marks}
use Rattle.md_device.proofs.Failing.{fails_none}
use Rattle.md_members.proofs.Failed.{fails_later}
use Rattle.md_members.proofs.Untouched.{leaves_same}
use Rattle.md_members.proofs.Wrapped.{own_is}
use Rattle.md_members.proofs.bitmap.read_bitmap.Goals as goal

pub returns-then-not-has_few_chunks-clause-reads :
    goal.returns-then-not-has_few_chunks-clause-reads
returns-then-not-has_few_chunks-clause-reads g c =
    let content = g.D.Device.content c.args.device.now in
    let read : IsRead content (g.D.Device.honest c.args.device.now) c.start_of_bitmap-start.result 512 c.read_sectors.new.buf = c.in_ok-read_sectors.ensures.ok in
    let own = own_is _ c.decode.result _ c.in_ok-header.header c.in_ok-header.ensures.cases c.in_ok-header.ensures.variant refl in
    let header = header_read content _ c.args.v.now c.in_ok-header.header c.start_of_bitmap-start.result c.read_sectors.new.buf c.array_at.result c.decode.result own c.start_of_bitmap-start.ensures.start read c.array_at.ensures c.decode.ensures.ok c.decode.ensures.sound in
    let fails : c.has_few_chunks.result ≡ false = search rules in
    inr (refl, c.in_ok-header.header, header, leb-false (chunks_of c.args.v.now c.in_ok-header.header) 1048576 (sym c.has_few_chunks.ensures ∙ fails))

pub returns-then-not-is_placed-clause-reads : goal.returns-then-not-is_placed-clause-reads
returns-then-not-is_placed-clause-reads g c =
    let content = g.D.Device.content c.args.device.now in
    let read : IsRead content (g.D.Device.honest c.args.device.now) c.start_of_bitmap-start.result 512 c.read_sectors.new.buf = c.in_ok-read_sectors.ensures.ok in
    let own = own_is _ c.decode.result _ c.in_ok-header.header c.in_ok-header.ensures.cases c.in_ok-header.ensures.variant refl in
    let header = header_read content _ c.args.v.now c.in_ok-header.header c.start_of_bitmap-start.result c.read_sectors.new.buf c.array_at.result c.decode.result own c.start_of_bitmap-start.ensures.start read c.array_at.ensures c.decode.ensures.ok c.decode.ensures.sound in
    let passes : c.has_few_chunks.result ≡ true = search rules in
    let few = leb-true (chunks_of c.args.v.now c.in_ok-header.header) 1048576 (sym c.has_few_chunks.ensures ∙ passes) in
    let count : c.count-chunks.result ≡ chunks_of c.args.v.now c.in_ok-header.header = c.count-chunks.ensures.count ∙ c.new.ensures.count in
    let width : c.from-sectors.result ≡ bitmap_sectors (chunks_of c.args.v.now c.in_ok-header.header) = c.from-sectors.ensures ∙ c.sectors_of_bitmap.ensures.sectors ∙ ap bitmap_sectors count in
    let fails : c.is_placed.result ≡ false = search rules in
    (c.in_ok-header.header, header, few, λ p. let placed : IsTrue c.is_placed.result = c.is_placed.ensures.1 (placed_of content c.args.v.now c.sectors-device_sectors.result _ c.from-sectors.result c.sectors-device_sectors.ensures.size width p) in absurd (search rules))

pub returns-in_err-marks-clause-reads : goal.returns-in_err-marks-clause-reads
returns-in_err-marks-clause-reads g c =
    let content = g.D.Device.content c.args.device.now in
    let v = c.args.v.now in
    let read : IsRead content (g.D.Device.honest c.args.device.now) c.start_of_bitmap-start.result 512 c.read_sectors.new.buf = c.in_ok-read_sectors.ensures.ok in
    let own = own_is _ c.decode.result _ c.in_ok-header.header c.in_ok-header.ensures.cases c.in_ok-header.ensures.variant refl in
    let header = header_read content _ v c.in_ok-header.header c.start_of_bitmap-start.result c.read_sectors.new.buf c.array_at.result c.decode.result own c.start_of_bitmap-start.ensures.start read c.array_at.ensures c.decode.ensures.ok c.decode.ensures.sound in
    let passes : c.has_few_chunks.result ≡ true = search rules in
    let few = leb-true (chunks_of v c.in_ok-header.header) 1048576 (sym c.has_few_chunks.ensures ∙ passes) in
    let count : c.count-chunks.result ≡ chunks_of v c.in_ok-header.header = c.count-chunks.ensures.count ∙ c.new.ensures.count in
    let width : c.from-sectors.result ≡ bitmap_sectors (chunks_of v c.in_ok-header.header) = c.from-sectors.ensures ∙ c.sectors_of_bitmap.ensures.sectors ∙ ap bitmap_sectors count in
    let fits : IsTrue c.is_placed.result = search rules in
    let placed = placed_by content v c.sectors-device_sectors.result _ c.from-sectors.result c.sectors-device_sectors.ensures.size width (c.is_placed.ensures.0 fits) in
    let p = err_from_is_err_and c.from_residual-in_err-marks.result c.from_residual-in_err-marks.ensures.1 in
    rw (p.1, p.2) (bitmap_by_marks content _ _ _ _ v c.in_ok-header.header c.start_of_bitmap-start.result c.from-sectors.result c.in_err-marks.field-0.0
    (λ P. fails_later g.D.Device c.args.device.now c.read_sectors.new.device c.read_marks.new.device P (IsReadOf 0 0) c.read_sectors.ensures.counted (subst (λ (xs : List Fault). EachNewFault (g.D.Device.faults c.args.device.now) xs (IsReadOf 0 0)) (sym c.in_ok-read_sectors.ensures.faults) (fails_none _ _)))
    c.start_of_bitmap-start.ensures.start width header few placed c.in_err-marks.ensures.reads)

pub returns-in_err-marks-clause-within : goal.returns-in_err-marks-clause-within
returns-in_err-marks-clause-within g c =
    leaves_same _ _ _ _ _ _ _ c.read_sectors.ensures.kept c.read_sectors.ensures.honest c.read_sectors.ensures.within c.read_marks.ensures.within

pub returns-clause-within : goal.returns-clause-within
returns-clause-within g c =
    leaves_same _ _ _ _ _ _ _ c.read_sectors.ensures.kept c.read_sectors.ensures.honest c.read_sectors.ensures.within c.read_marks.ensures.within

pub returns-clause-reads : goal.returns-clause-reads
returns-clause-reads g c =
    let content = g.D.Device.content c.args.device.now in
    let read : IsRead content (g.D.Device.honest c.args.device.now) c.start_of_bitmap-start.result 512 c.read_sectors.new.buf = c.in_ok-read_sectors.ensures.ok in
    let own = own_is _ c.decode.result _ c.in_ok-header.header c.in_ok-header.ensures.cases c.in_ok-header.ensures.variant refl in
    let header = header_read content _ c.args.v.now c.in_ok-header.header c.start_of_bitmap-start.result c.read_sectors.new.buf c.array_at.result c.decode.result own c.start_of_bitmap-start.ensures.start read c.array_at.ensures c.decode.ensures.ok c.decode.ensures.sound in
    let passes : c.has_few_chunks.result ≡ true = search rules in
    let few = leb-true (chunks_of c.args.v.now c.in_ok-header.header) 1048576 (sym c.has_few_chunks.ensures ∙ passes) in
    let count : c.count-chunks.result ≡ chunks_of c.args.v.now c.in_ok-header.header = c.count-chunks.ensures.count ∙ c.new.ensures.count in
    let width : c.from-sectors.result ≡ bitmap_sectors (chunks_of c.args.v.now c.in_ok-header.header) = c.from-sectors.ensures ∙ c.sectors_of_bitmap.ensures.sectors ∙ ap bitmap_sectors count in
    let placed : IsTrue c.is_placed.result = search rules in
    record {
      header = header;
      few_chunks = few;
      placed = placed_by content c.args.v.now c.sectors-device_sectors.result _ c.from-sectors.result c.sectors-device_sectors.ensures.size width (c.is_placed.ensures.0 placed);
      start = c.start_of_bitmap-start.result;
      at = c.start_of_bitmap-start.ensures.start;
      marks = marks_as content _ _ _ c.start_of_bitmap-start.result c.count-chunks.result _ c.from-sectors.result _ c.in_ok-marks.marks c.read_sectors.ensures.kept c.read_sectors.ensures.honest count width c.in_ok-marks.ensures.reads;
    }
