use Rattle.std.proofs.Common.{◌∙◌, ◌*◌, ℕ, List, ap, drop, subst, sym}
use Rattle.md_read_commands.specs.Fronted.{fronted, fronted_disk}
use Rattle.md_read_commands.specs.StandIn.{HoldsLog}
use Rattle.md_read_commands.proofs.Stands.{reads_on, same_log_by}
use Rattle.md_read_commands.proofs.stand_in.put.with_both.Goals as goal

pub returns-clause-reads : goal.returns-clause-reads
returns-clause-reads g c =
    reads_on c.args.wanted c.args.made.now c.args.header.now.chunksize c.args.freshest.now (fronted_disk g.D.Device c.put_and_read.new.device) (fronted_disk g.D.Device c.check_log.new.device)
    c.check_log.ensures.kept c.check_log.ensures.honest c.in_ok-put_and_read.ensures.reads

pub returns-clause-same_data : goal.returns-clause-same_data
returns-clause-same_data g c =
    let offset = c.args.made.now.data_offset in
    ap (drop (512 * offset)) c.check_log.ensures.kept
    ∙ c.in_ok-put_and_read.ensures.same_data ∙ c.in_ok-fronted.ensures.same_data ∙ ap (drop (512 * offset)) c.log_of.ensures.kept

pub returns-clause-log : goal.returns-clause-log
returns-clause-log g c told =
    let made = c.args.made.now in
    let before = c.put_and_read.new.device in
    let after = c.check_log.new.device in
    let bytes = c.as_slice.ensures.value in
    let honest = c.put_and_read.ensures.honest ∙ c.in_ok-fronted.ensures.honest ∙ c.log_of.ensures.honest ∙ told in
    same_log_by made (g.D.Device.content c.args.device) (fronted after.front.items (g.D.Device.content after.inner)) c.in_ok-log.log.items
    (c.in_ok-log.ensures.log told)
    (subst (λ (xs : List ℕ). HoldsLog made xs c.in_ok-log.log.items) (sym c.check_log.ensures.kept)
    (subst (λ (ys : List ℕ). HoldsLog made (fronted before.front.items (g.D.Device.content before.inner)) ys) bytes (c.in_ok-check_log.ensures.log honest)))
