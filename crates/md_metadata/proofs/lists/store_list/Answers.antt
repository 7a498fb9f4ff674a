use Rattle.std.proofs.Common.{◌≡◌, Err, rules}
use Rattle.md_metadata.proofs.StoredLists.{earlier_still, logged_due, sector_then_fails, stored_or_fails}
use Rattle.md_metadata.proofs.StoredRecords.{in_sync_due, still_recorded}
use Rattle.md_metadata.proofs.lists.store_list.Goals as goal

pub returns-in_err-store_sector : goal.returns-in_err-store_sector
returns-in_err-store_sector g c =
    let is : c.from_residual-in_err-store_sector.result ≡ Err c.in_err-store_sector.field-0.0 = search rules in
    rw is (sector_then_fails c.args.k c.args.mirror.now c.store_member_log.new.mirror c.in_ok-store_member_log.ensures c.store_sector.new.mirror c.in_err-store_sector.field-0.0 c.in_err-store_sector.ensures)

pub store_record-requires-clause-active : goal.store_record-requires-clause-active
store_record-requires-clause-active g c = still_recorded c.args.k c.store_member_log.new.mirror c.store_sector.new.mirror c.in_ok-store_sector.ensures

pub returns : goal.returns
returns g c =
    let k = c.args.k in
    let old = c.args.mirror.now in
    let logged = c.store_member_log.new.mirror in
    let marked = c.store_sector.new.mirror in
    let log = c.in_ok-store_member_log.ensures in
    let marks = c.in_ok-store_sector.ensures in
    let due = in_sync_due k logged marked marks (logged_due k old logged log) (earlier_still k old logged log c.requires.earlier) in
    stored_or_fails k old logged log marked marks c.store_record.new.mirror due c.store_record.result c.store_record.ensures
