use Rattle.std.proofs.Common.{◌≡◌, ℕ, Bool, false, List, arith, rules, inr, Err, subst}
use Rattle.md_members.specs.Reading.{CallFails}
use Rattle.md_members.proofs.Failed.{fails_later}
use Rattle.md_raw_reports.specs.RawMembers.Raw.{ReadsLogOf, RefusesArea}
use Rattle.md_raw_reports.proofs.RawMemberLemmas.Later.{fails_before, front_later, log_later, tried_later}
use Rattle.md_raw_reports.proofs.raw_members.parts.read_raw_log.Goals as goal

pub returns-clause-ok : goal.returns-clause-ok
returns-clause-ok g c =
    let d = g.D.Device in
    let old = c.args.device.now in
    let mid = c.read_super_bytes.new.device in
    let new = c.read_log_area.new.device in
    front_later (d.content old) (d.honest old) (CallFails d old mid) (CallFails d old new)
    (λ P failed. fails_before d old mid new P failed c.read_log_area.ensures.counted c.read_log_area.ensures.grown) c.in_ok-read.read c.read_super_bytes.new.bytes c.in_ok-read.ensures.ok

pub returns-clause-log : goal.returns-clause-log
returns-clause-log g c =
    let d = g.D.Device in
    let old = c.args.device.now in
    let mid = c.read_super_bytes.new.device in
    let new = c.read_log_area.new.device in
    let superblock = c.read_super_bytes.new.bytes in
    let bytes = c.read_log_area.new.bytes in
    let log = c.in_ok-log.log in
    let later = CallFails d mid new in
    let some = c.if-read-eq0.false in
    inr (
      omega (arith, some),
      log_later (d.content old) (d.honest old) later (CallFails d old new) (λ P. fails_later d old mid new P (λ f. f.writes ≡ false) c.read_super_bytes.ensures.counted c.read_super_bytes.ensures.grown) superblock bytes log
          (subst (λ (b : List ℕ). ReadsLogOf b (d.honest old) later superblock bytes log) c.read_super_bytes.ensures.kept
          (subst (λ (h : Bool). ReadsLogOf (d.content mid) h later superblock bytes log) c.read_super_bytes.ensures.honest c.in_ok-log.ensures.ok)),
    )

pub returns-clause-tried : goal.returns-clause-tried
returns-clause-tried g c =
    let d = g.D.Device in
    let old = c.args.device.now in
    tried_later (d.honest old) (d.failures old) (d.failures c.read_super_bytes.new.device) (d.failures c.read_log_area.new.device) c.in_ok-read.read c.read_log_area.ensures.counted c.in_ok-read.ensures.tried

pub returns-in_err-log-clause-refused : goal.returns-in_err-log-clause-refused
returns-in_err-log-clause-refused g c =
    let d = g.D.Device in
    let old = c.args.device.now in
    let mid = c.read_super_bytes.new.device in
    let new = c.read_log_area.new.device in
    let superblock = c.read_super_bytes.new.bytes in
    let fault = c.in_err-log.field-0.0 in
    let some = c.if-read-eq0.false in
    let is : c.from_residual-in_err-log.result ≡ Err fault = search rules in
    rw is (inr (record {
      sectors = c.in_ok-read.read;
      superblock = superblock;
      some = omega (arith, some);
      front = front_later (d.content old) (d.honest old) (CallFails d old mid) (CallFails d old new)
          (λ P failed. fails_before d old mid new P failed c.read_log_area.ensures.counted c.read_log_area.ensures.grown) c.in_ok-read.read superblock c.in_ok-read.ensures.ok;
      refused = subst (λ (b : List ℕ). RefusesArea b superblock fault) c.read_super_bytes.ensures.kept c.in_err-log.ensures.refused;
    }))
