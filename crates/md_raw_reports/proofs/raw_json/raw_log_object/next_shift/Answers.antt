use Rattle.std.proofs.Common.{ℕ, List, codes, nat_lt, subst}
use Rattle.serde_json.specs.Data.{string}
use Rattle.md_format.specs.Fields.{number_at}
use Rattle.md_streams.specs.Sink.{Puts}
use Rattle.md_raw_reports.specs.RawJson.RawLog.{shift_faults}
use Rattle.md_report.proofs.JsonLemmas.Chosen.{one_where}
use Rattle.md_report.proofs.JsonLemmas.Texts.{puts_list}
use Rattle.md_raw_reports.proofs.raw_json.raw_log_object.next_shift.Goals as goal

pub returns : goal.returns
returns g c =
    let own = c.in_ok-text_where.ensures in
    let own = rw (c.is_far_shifted.ensures) at own in
    let P : List ℕ → Type 0 = λ t. Puts g.S.Sink.contents g.S.Sink.failed c.put.new.self c.text_where.new.out t in
    puts_list g.S.Sink.contents g.S.Sink.failed string (codes "faults") (shift_faults c.args.superblock.now) c.in_ok-next_key.ensures c.in_ok-put.ensures
    (subst P (one_where string (nat_lt 9 (number_at 1 185 c.args.superblock.now)) (codes "Shift")) own) c.in_ok-put-2.ensures
