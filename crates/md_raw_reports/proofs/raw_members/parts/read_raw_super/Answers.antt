use Rattle.std.proofs.Common.{◌≡◌, ℕ, Bool, false, List, subst}
use Rattle.md_members.specs.Reading.{CallFails}
use Rattle.md_members.proofs.Failed.{fails_later}
use Rattle.md_raw_reports.specs.RawMembers.Elsewhere.{FindsElsewhere}
use Rattle.md_raw_reports.proofs.RawMemberLemmas.Found.{finds_all}
use Rattle.md_raw_reports.proofs.RawMemberLemmas.Later.{fails_before, front_later, tried_later}
use Rattle.md_raw_reports.proofs.raw_members.parts.read_raw_super.Goals as goal

pub returns-clause-finds : goal.returns-clause-finds
returns-clause-finds g c =
    let d = g.D.Device in
    let read = c.read_super_bytes in
    let find = c.find_elsewhere in
    let old = c.args.device.now in
    let later = CallFails d read.new.device find.new.device in
    let all = CallFails d old find.new.device in
    let found : FindsElsewhere (d.content old) (d.honest old) later find.result =
    subst (λ (bytes : List ℕ). FindsElsewhere bytes (d.honest old) later find.result) read.ensures.kept
    (subst (λ (honest : Bool). FindsElsewhere (d.content read.new.device) honest later find.result) read.ensures.honest find.ensures.finds) in
    finds_all (d.content old) (d.honest old) later all find.result (λ P. fails_later d old read.new.device find.new.device P (λ f. f.writes ≡ false) read.ensures.counted read.ensures.grown) found

pub returns-clause-ok : goal.returns-clause-ok
returns-clause-ok g c =
    let d = g.D.Device in
    let old = c.args.device.now in
    let mid = c.read_super_bytes.new.device in
    let new = c.find_elsewhere.new.device in
    front_later (d.content old) (d.honest old) (CallFails d old mid) (CallFails d old new)
    (λ P failed. fails_before d old mid new P failed c.find_elsewhere.ensures.counted c.find_elsewhere.ensures.grown) c.in_ok-read.read c.read_super_bytes.new.bytes c.in_ok-read.ensures.ok

pub returns-clause-tried : goal.returns-clause-tried
returns-clause-tried g c =
    let d = g.D.Device in
    let old = c.args.device.now in
    tried_later (d.honest old) (d.failures old) (d.failures c.read_super_bytes.new.device) (d.failures c.find_elsewhere.new.device) c.in_ok-read.read c.find_elsewhere.ensures.counted c.in_ok-read.ensures.tried
