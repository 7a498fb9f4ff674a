use Rattle.std.proofs.Common.{◌≡◌, ◌+◌, ◌++◌, length, take, arith}
use Rattle.md_super.specs.Encoding.{front_bytes, head_bytes, shape_bytes, bitmap_offset_bytes, reshape_bytes, place_bytes, log_field_bytes, state_bytes}
use Rattle.md_super.proofs.Joined.{joined}
use Rattle.md_super.proofs.encoding.put_front.Goals as goal

pub returns-clause-front : goal.returns-clause-front
unfolding front_bytes head_bytes shape_bytes bitmap_offset_bytes reshape_bytes place_bytes log_field_bytes state_bytes
returns-clause-front c =
    let s = c.args.shared.now in
    let o = c.args.own.now in
    let to_uuid : 16 + length c.as_bytes.result.now ≡ 32 = omega arith in
    let to_uuid-2 : 168 + length c.as_bytes-2.result.now ≡ 184 = omega arith in
    let name_long : 32 + length c.args.shared.now.set_name ≡ 64 = omega arith in
    let set_uuid : take 32 c.put_bytes.new.out ≡ take 16 c.put_head.new.out ++ s.set_uuid = rw (to_uuid, c.as_bytes.ensures) at c.put_bytes.ensures.front in
    let set_name : take 64 c.put_bytes-2.new.out ≡ take 32 c.put_bytes.new.out ++ s.set_name = rw name_long at c.put_bytes-2.ensures.front in
    let device_uuid : take 184 c.put_bytes-3.new.out ≡ take 168 c.put_places.new.out ++ o.device_uuid = rw (to_uuid-2, c.as_bytes-2.ensures) at c.put_bytes-3.ensures.front in
    let to_name = joined s.set_name (joined s.set_uuid c.put_head.ensures.front set_uuid) set_name in
    let to_bitmap = joined (bitmap_offset_bytes o) (joined (shape_bytes s) to_name c.put_shape.ensures.front) c.put_bitmap_offset.ensures.front in
    let to_places = joined (place_bytes o) (joined (reshape_bytes s) to_bitmap c.put_reshape.ensures.front) c.put_places.ensures.front in
    joined (state_bytes s) (joined (log_field_bytes o) (joined o.device_uuid to_places device_uuid) c.put_log.ensures.front) c.put_counts.ensures.front
