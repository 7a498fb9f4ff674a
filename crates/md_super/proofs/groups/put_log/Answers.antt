use Rattle.std.proofs.Common.{◌∷◌, [], take, FitsSigned, arith, rules}
use Rattle.std.specs.Int.{w32, cast_unsigned}
use Rattle.byteorder.specs.Endian.{little_bytes}
use Rattle.md_super.specs.Encoding.{log_field_bytes}
use Rattle.md_super.proofs.Joined.{group_4, signed_field}
use Rattle.md_super.proofs.groups.put_log.Goals as goal

pub returns-clause-front : goal.returns-clause-front
unfolding log_field_bytes
returns-clause-front c =
    let v = c.args.v.now in
    let fits : FitsSigned w32 c.args.v.now.bblog_offset = search rules in
    group_4 (take 184 c.args.out.now) (v.devflags ∷ []) (v.bblog_shift ∷ []) (little_bytes 2 v.bblog_size) (little_bytes 4 (cast_unsigned w32 v.bblog_offset))
    c.put_u8.ensures.front c.put_u8-2.ensures.front c.put_u16.ensures.front (signed_field (take 188 c.put_u16.new.out) v.bblog_offset c.cast_unsigned.result fits c.cast_unsigned.ensures c.put_u32.ensures.front)

pub returns-clause-fit : goal.returns-clause-fit
returns-clause-fit c = record {
  devflags = omega arith;
  bblog_shift = omega arith;
  bblog_size = omega arith;
  bblog_offset = search rules;
}
