use Rattle.std.proofs.Common.{◌*◌, ℕ, Bool, List, inl, inr, refl, subst, sym, take, arith}
use Rattle.std.proofs.lemmas.List.{take_all}
use Rattle.md_members.specs.Reading.{CallFails, IsRead, IsReadOf}
use Rattle.md_raw_reports.proofs.RawMemberLemmas.Later.{fails_before}
use Rattle.md_raw_reports.proofs.raw_members.read_parts.read_front.Goals as goal

pub returns-in-Ok-clause-front : goal.returns-in-Ok-clause-front
returns-in-Ok-clause-front g c =
    let d = g.D.Device in
    let old = c.args.device.now in
    let buf = c.read_sectors.new.buf in
    let whole = c.told-bytes in
    let same = c.in-Ok.ensures.len in
    record {
      long = c.requires.long;
      few = omega arith;
      read = subst (λ (b : List ℕ). IsRead (d.content old) (d.honest old) 8 4096 b) (sym (take_all 4096 buf (omega (arith, same, whole))))
          (subst (λ (n : ℕ). IsRead (d.content old) (d.honest old) 8 n buf) whole c.in-Ok.ensures.ok);
      failed = λ less. absurd (omega (arith, less));
    }

pub returns-in-Err-clause-front : goal.returns-in-Err-clause-front
returns-in-Err-clause-front g c =
    let d = g.D.Device in
    let old = c.args.device.now in
    let mid = c.read_sectors.new.device in
    let new = c.read_first.new.device in
    let n = c.read_first.result in
    let bytes = take (512 * n) c.read_first.new.bytes in
    let few = c.read_first.ensures.few in
    record {
      long = c.requires.long;
      few = omega (arith, few);
      read = subst (λ (b : List ℕ). IsRead b (d.honest old) 8 (512 * n) bytes) c.in-Err.ensures.kept
          (subst (λ (h : Bool). IsRead (d.content mid) h 8 (512 * n) bytes) c.in-Err.ensures.honest c.read_first.ensures.read);
      failed = λ less. fails_before d old mid new (IsReadOf 8 4096)
          (subst (λ (n : ℕ). CallFails d old mid (IsReadOf 8 n)) c.told-bytes c.in-Err.ensures.failed) c.read_first.ensures.counted c.read_first.ensures.grown;
    }

pub returns-in-Ok-clause-tried : goal.returns-in-Ok-clause-tried
returns-in-Ok-clause-tried g c = record { counts = inl refl; twice = λ none honest. absurd (omega (arith, none)) }

pub returns-in-Err-clause-tried : goal.returns-in-Err-clause-tried
returns-in-Err-clause-tried g c = record {
  counts = inr c.read_first.ensures.few;
  twice = λ none honest.
      let one = c.in-Err.ensures.failed.0 in
      let two = c.read_first.ensures.tried none in
      omega (arith, one, two);
}
