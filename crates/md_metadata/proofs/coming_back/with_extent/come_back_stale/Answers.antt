use Rattle.std.proofs.Common.{ℕ, ◌<◌, List, [], ◌∷◌, length, ap, subst, arith}
use Rattle.md_format.specs.Fields.{number_at}
use Rattle.md_state.specs.DiskWrites.{IsWritten}
use Rattle.md_state.specs.View.{disk_of}
use Rattle.md_array.proofs.General.Answered.{ok_of}
use Rattle.md_metadata.specs.ComingBack.{first_write}
use Rattle.md_metadata.proofs.ComingBack.{re_add_long, written_long}
use Rattle.md_metadata.proofs.coming_back.with_extent.come_back_stale.Goals as goal

pub put_back-requires : goal.put_back-requires
put_back-requires g c =
    let of = disk_of g.D.Device in
    let read = ap length c.in-Ok.ensures.only_read.0.0 in
    let written = written_long (of c.read_first.new.device) (of c.write_first.new.device) _ c.write_first.result c.write_first.ensures in
    let back = re_add_long (of c.write_first.new.device) (of c.in-Err.device) c.args.mirror.now c.re_add.new.self c.in-Err.fault c.in-Err.ensures.gives in
    let room = c.requires.room in
    omega (arith, room, read, written, back)

pub returns-in-Ok-re_add-clause-gives : goal.returns-in-Ok-re_add-clause-gives
returns-in-Ok-re_add-clause-gives g c =
    let of = disk_of g.D.Device in
    let read = of c.read_first.new.device in
    let stale = of c.write_first.new.device in
    let start : ℕ = c.args.start in
    record {
      sector = c.in-Ok.sector;
      stale = stale;
      made = record {
        read = read;
        reads = record { first = c.in-Ok.ensures.reads; only_read = c.in-Ok.ensures.only_read };
        flagged = subst (λ (bytes : List ℕ). 0 < number_at 4 48 bytes) c.with_stale_flag.ensures.bytes c.with_stale_flag.ensures.flagged;
        written = subst (λ (bytes : List ℕ). IsWritten 0 (first_write start bytes) (read ∷ []) (stale ∷ [])) c.with_stale_flag.ensures.bytes
            (ok_of c.write_first.result _ _ c.if-is_err.ensures.value c.write_first.ensures);
      };
      re_adds = c.in-Ok-re_add.ensures.gives;
    }
