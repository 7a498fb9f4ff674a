use Rattle.std.proofs.Common.{arith, ap, ◌∙◌, ◌≡◌, ◌-◌, ◌*◌, ℕ, drop, length, length-drop, subst}
use Rattle.std.proofs.lemmas.List.{take_all, take_at}
use Rattle.md_members.specs.Reading.{IsRead}
use Rattle.md_members.proofs.bitmap.read_marks.Goals as goal

pub returns-in-Ok-from_bytes-clause-reads : goal.returns-in-Ok-from_bytes-clause-reads
returns-in-Ok-from_bytes-clause-reads g c =
    let old = c.args.device.now in
    let bytes = c.read_sectors.new.buf in
    let long : length c.deref_mut.result.now ≡ 512 * c.args.sectors = ap length c.deref_mut.ensures.value ∙ c.in-Ok.ensures in
    let size : length bytes ≡ c.in-Ok.area.len = c.read_sectors.auto.buf ∙ c.deref_mut.ensures.len in
    let area : c.deref.result.now ≡ bytes = c.deref.ensures.value ∙ take_at bytes _ c.in-Ok.area.len size in
    record {
      area = bytes;
      read = subst (λ (n : ℕ). IsRead (g.D.Device.content old) (g.D.Device.honest old) c.args.start n bytes) long c.in_ok-read_sectors.ensures.ok;
      chunks_are = c.in-Ok-from_bytes.ensures.chunks;
      bits = c.in-Ok-from_bytes.ensures.bytes
          ∙ take_all (length c.deref.result.now - 256) (drop 256 c.deref.result.now) (omega (arith, length-drop 256 c.deref.result.now))
          ∙ ap (drop 256) area;
    }
