use Rattle.std.proofs.Common.{◌≡◌, ◌∙◌, ℕ, List, length, subst, sym, take, arith}
use Rattle.std.proofs.lemmas.List.{length-take-le, take_at}
use Rattle.md_members.specs.Reading.{IsRead}
use Rattle.md_raw_reports.proofs.RawMemberLemmas.Later.{read_nothing}
use Rattle.md_raw_reports.proofs.raw_members.read_parts.read_first.Goals as goal

pub returns-in-Ok-clause-read : goal.returns-in-Ok-clause-read
returns-in-Ok-clause-read g c =
    let d = g.D.Device in
    let old = c.args.device.now in
    let buf = c.read_sectors.new.buf in
    let all = c.told-bytes in
    let front : length (take 512 c.args.bytes.now) ≡ 512 = length-take-le 512 c.args.bytes.now (omega (arith, all)) in
    subst (λ (b : List ℕ). IsRead (d.content old) (d.honest old) 8 512 b) (sym (take_at buf _ 512 (c.in-Ok.ensures.len ∙ front)))
    (subst (λ (n : ℕ). IsRead (d.content old) (d.honest old) 8 n buf) front c.in-Ok.ensures.ok)

pub returns-in-Err-clause-read : goal.returns-in-Err-clause-read
returns-in-Err-clause-read g c =
    let long = c.requires.long in
    read_nothing (g.D.Device.content c.args.device.now) (g.D.Device.honest c.args.device.now) 8 (omega (arith, long))
