use Rattle.std.proofs.Common.{◌≡◌, codes, min, arith}
use Rattle.std.specs.List.{filter}
use Rattle.md_raw_reports.specs.RawJson.RawSuper.{has_role, role_object}
use Rattle.md_format.specs.Fields.{number_at}
use Rattle.md_raw_reports.specs.SuperFaults.{roles_read_in}
use Rattle.md_raw_reports.specs.SuperFields.{roles_there}
use Rattle.md_report.proofs.JsonLemmas.Texts.{puts_list}
use Rattle.md_raw_reports.proofs.raw_json.raw_super_object.roles.Goals as goal

pub returns : goal.returns
returns g c =
    let most = c.min-count.ensures in
    let told = c.u32_at.ensures in
    let there = c.roles_read_in.ensures in
    let many : c.min-count.result ≡ min (number_at 4 220 c.args.bytes.now) (roles_read_in c.args.read) = omega arith in
    let own = c.in_ok-role_elements.ensures in
    let own = rw many at own in
    puts_list g.S.Sink.contents g.S.Sink.failed (role_object c.args.bytes.now) (codes "roles") (filter (has_role c.args.bytes.now) (roles_there c.args.read c.args.bytes.now)) c.in_ok-next_key.ensures c.in_ok-put.ensures own c.in_ok-put-2.ensures
