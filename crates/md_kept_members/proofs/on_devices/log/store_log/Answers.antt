use Rattle.std.proofs.Common.{◌≡◌, ◌∙◌, ℕ, ◌*◌, true, length, sym, ap, subst, arith}
use Rattle.std.proofs.lemmas.List.{length-take-le}
use Rattle.md_device.specs.Splice.{SameOutside}
use Rattle.md_super.specs.Log.{has_bad_block_log}
use Rattle.md_members.specs.Members.{sectors_of_device}
use Rattle.md_members.specs.Reading.{LogStartsAt}
use Rattle.md_kept_members.specs.View.{MemberView}
use Rattle.md_kept_members.specs.OnDevices.Storing.{sector_from_super, sector_at}
use Rattle.md_kept_members.proofs.OnDeviceLemmas.Beside.{data_beside_log}
use Rattle.md_kept_members.proofs.on_devices.log.store_log.Goals as goal

pub returns-clause-data : goal.returns-clause-data
returns-clause-data g c =
    let n = c.args.member.now in
    let was = g.D.Device.content c.args.device.now in
    let now = g.D.Device.content c.put.new.device in
    let own = n.superblock in
    let there : has_bad_block_log own ≡ true =
    subst (λ (m : MemberView). has_bad_block_log m.superblock ≡ true) c.member.view_is (sym c.has_bad_block_log.ensures ∙ c.if-not-has_bad_block_log.false) in
    let starts : LogStartsAt own c.log_start.result = subst (λ (m : MemberView). LogStartsAt m.superblock c.log_start.result) c.member.view_is c.log_start.ensures in
    let start : ◌≡◌ {A = ℕ} c.log_start.result (sector_from_super own.bblog_offset) = ap sector_at starts in
    let size : c.member.inside.superblock.bblog_size ≡ own.bblog_size = ap (λ (m : MemberView). m.superblock.bblog_size) c.member.view_is in
    let log = c.requires.placed.log there in
    let long : length c.to_log.new.buf ≡ 512 * own.bblog_size =
    c.to_log.auto.buf ∙ length-take-le (512 * c.member.inside.superblock.bblog_size) _ (omega (arith, size, log.short)) ∙ ap (λ n. 512 * n) size in
    data_beside_log n was now (sectors_of_device was) c.requires.placed there
    (subst (λ (x : ℕ). SameOutside (512 * x) (512 * own.bblog_size) was now) start
    (subst (λ (x : ℕ). SameOutside (512 * c.log_start.result) x was now) long c.put.ensures.outside))
