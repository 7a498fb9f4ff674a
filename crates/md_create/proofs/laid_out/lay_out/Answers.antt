use Rattle.std.proofs.Common.{arith, ◌≡◌, ◌*◌, ◌∷◌, [], ◌++◌, List, ℕ, ap, subst, sym, length, ◌∙◌, OnOk, Result, Ok, Err}
use Rattle.md_device.specs.Splice.{SameOutside}
use Rattle.md_device.proofs.Leaving.{leaves_less}
use Rattle.md_super.specs.Checksum.{checksum_of}
use Rattle.md_super.specs.Faults.{NoSuperFault}
use Rattle.md_super.specs.Format.{IsSuper}
use Rattle.md_create.specs.Layout.{IsHalfLaidOut, IsLaidOutAs, empty_log, bitmap_sectors_of, super_write_of, wipe, writes_of}
use Rattle.md_create.proofs.HalfLaid.{half_laid}
use Rattle.md_create.proofs.Laid.{bitmap_keeps, keeps_then, laid_out, log_keeps, super_keeps}
use Rattle.md_create.proofs.laid_out.lay_out.Goals as goal
use Rattle.md_members.specs.DeviceWrites.Bitmaps.{bitmap_writes}
use Rattle.md_members.specs.DeviceWrites.Writes.{IsCutShort, MakesWrites}
use Rattle.md_members.proofs.DeviceWriteLemmas.Runs.{all_done_of, does_any, stops_any, stops_front, stops_then}

on_ok : {T E : Type 0} {P : Type 0} (r : Result T E) → P → OnOk r P
on_ok (Ok x) p = p
on_ok (Err e) p = tt

pub returns-in_err-put-clause-writes : goal.returns-in_err-put-clause-writes
returns-in_err-put-clause-writes g c =
    let v = c.args.member.now in
    let bitmap = bitmap_writes 16 v.header v.marks (bitmap_sectors_of v) in
    stops_any g.D.Device (writes_of v) c.args.device.now c.put.new.device c.from_residual.result
    (stops_front g.D.Device (wipe ∷ []) (empty_log ∷ (bitmap ++ super_write_of v.superblock ∷ [])) c.args.device.now c.put.new.device c.in_err-put.ensures.writes)
    c.from_residual.ensures.0

pub returns-in_err-put-clause-outside : goal.returns-in_err-put-clause-outside
returns-in_err-put-clause-outside g c =
    super_keeps c.args.member.now (g.D.Device.content c.args.device.now) (g.D.Device.content c.put.new.device) c.put.ensures.outside

pub returns-in_err-put-2-clause-writes : goal.returns-in_err-put-2-clause-writes
returns-in_err-put-2-clause-writes g c =
    let v = c.args.member.now in
    let bitmap = bitmap_writes 16 v.header v.marks (bitmap_sectors_of v) in
    stops_any g.D.Device (writes_of v) c.args.device.now c.put-2.new.device c.from_residual-in_err-put-2.result
    (stops_then g.D.Device (wipe ∷ []) (empty_log ∷ (bitmap ++ super_write_of v.superblock ∷ [])) c.args.device.now c.put.new.device c.put-2.new.device c.in_ok-put.ensures.writes
    (stops_front g.D.Device (empty_log ∷ []) (bitmap ++ super_write_of v.superblock ∷ []) c.put.new.device c.put-2.new.device c.in_err-put-2.ensures.writes))
    c.from_residual-in_err-put-2.ensures.0

pub returns-in_err-put-2-clause-outside : goal.returns-in_err-put-2-clause-outside
returns-in_err-put-2-clause-outside g c =
    let member = c.args.member.now in
    let first = g.D.Device.content c.args.device.now in
    let second = g.D.Device.content c.put.new.device in
    let third = g.D.Device.content c.put-2.new.device in
    keeps_then member first second third (super_keeps member first second c.put.ensures.outside) (log_keeps member second third c.put-2.ensures.outside)

pub returns-in_err-store_bitmap-clause-writes : goal.returns-in_err-store_bitmap-clause-writes
returns-in_err-store_bitmap-clause-writes g c =
    let v = c.args.member.now in
    let bitmap = bitmap_writes 16 v.header v.marks (bitmap_sectors_of v) in
    stops_any g.D.Device (writes_of v) c.args.device.now c.store_bitmap.new.device c.from_residual-in_err-store_bitmap.result
    (stops_then g.D.Device (wipe ∷ []) (empty_log ∷ (bitmap ++ super_write_of v.superblock ∷ [])) c.args.device.now c.put.new.device c.store_bitmap.new.device c.in_ok-put.ensures.writes
    (stops_then g.D.Device (empty_log ∷ []) (bitmap ++ super_write_of v.superblock ∷ []) c.put.new.device c.put-2.new.device c.store_bitmap.new.device c.in_ok-put-2.ensures.writes
    (stops_front g.D.Device bitmap (super_write_of v.superblock ∷ []) c.put-2.new.device c.store_bitmap.new.device c.in_err-store_bitmap.ensures.writes)))
    c.from_residual-in_err-store_bitmap.ensures.0

pub returns-in_err-store_bitmap-clause-outside : goal.returns-in_err-store_bitmap-clause-outside
returns-in_err-store_bitmap-clause-outside g c =
    let member = c.args.member.now in
    let first = g.D.Device.content c.args.device.now in
    let second = g.D.Device.content c.put.new.device in
    let third = g.D.Device.content c.put-2.new.device in
    let fourth = g.D.Device.content c.store_bitmap.new.device in
    keeps_then member first third fourth
    (keeps_then member first second third (super_keeps member first second c.put.ensures.outside) (log_keeps member second third c.put-2.ensures.outside))
    (bitmap_keeps member third fourth c.store_bitmap.ensures.outside)

made : (g : _) (c : goal.After-put-3 g) → MakesWrites g.D.Device (writes_of c.args.member.now) c.args.device.now c.put-3.new.device c.put-3.result
made g c =
    let v = c.args.member.now in
    let bitmap = bitmap_writes 16 v.header v.marks (bitmap_sectors_of v) in
    does_any g.D.Device (wipe ∷ []) (empty_log ∷ (bitmap ++ super_write_of v.superblock ∷ [])) c.args.device.now c.put.new.device c.put-3.new.device c.put-3.result c.in_ok-put.ensures.writes
    (does_any g.D.Device (empty_log ∷ []) (bitmap ++ super_write_of v.superblock ∷ []) c.put.new.device c.put-2.new.device c.put-3.new.device c.put-3.result c.in_ok-put-2.ensures.writes
    (does_any g.D.Device bitmap (super_write_of v.superblock ∷ []) c.put-2.new.device c.store_bitmap.new.device c.put-3.new.device c.put-3.result c.in_ok-store_bitmap.ensures.writes
    (subst (λ (bytes : List ℕ). MakesWrites g.D.Device (record { sector = 8; bytes = bytes } ∷ []) c.store_bitmap.new.device c.put-3.new.device c.put-3.result) c.encode.ensures.bytes c.put-3.ensures.writes)))

pub returns-clause-writes : goal.returns-clause-writes
returns-clause-writes g c = made g c

pub returns-clause-outside : goal.returns-clause-outside
returns-clause-outside g c =
    let member = c.args.member.now in
    let first = g.D.Device.content c.args.device.now in
    let second = g.D.Device.content c.put.new.device in
    let third = g.D.Device.content c.put-2.new.device in
    let fourth = g.D.Device.content c.store_bitmap.new.device in
    let fifth = g.D.Device.content c.put-3.new.device in
    let block : length c.encode.new.out ≡ 4096 = omega arith in
    let named : SameOutside (512 * 8) 4096 fourth fifth = subst (λ (k : ℕ). SameOutside (512 * 8) k fourth fifth) block c.put-3.ensures.outside in
    keeps_then member first fourth fifth
    (keeps_then member first third fourth
    (keeps_then member first second third (super_keeps member first second c.put.ensures.outside) (log_keeps member second third c.put-2.ensures.outside))
    (bitmap_keeps member third fourth c.store_bitmap.ensures.outside))
    (super_keeps member fourth fifth named)

pub returns-clause-readable : goal.returns-clause-readable
returns-clause-readable g c =
    let v = c.args.member.now.superblock in
    let block : length c.encode.new.out ≡ 4096 = omega arith in
    on_ok c.put-3.result (record {
      size = ap length (sym c.encode.ensures.bytes) ∙ block;
      fields = subst (λ (bytes : List ℕ). IsSuper bytes (record v { sb_csum = checksum_of bytes (length v.roles) })) c.encode.ensures.bytes c.encode.ensures.fields;
      sound = subst NoSuperFault c.encode.ensures.bytes c.encode.ensures.sound;
    })

pub returns-clause-laid_out : goal.returns-clause-laid_out
returns-clause-laid_out g c =
    let v = c.args.member.now in
    let old = g.D.Device.content c.args.device.now in
    let block : length c.encode.new.out ≡ 4096 = omega arith in
    let long = ap length (sym c.encode.ensures.bytes) ∙ block in
    all_done_of g.D.Device (writes_of v) c.args.device.now c.put-3.new.device c.put-3.result (made g c)
    (λ does honest. subst (IsLaidOutAs old v) (sym (does.all_done honest)) (laid_out v old c.requires long))

pub returns-clause-crashes : goal.returns-clause-crashes
returns-clause-crashes g c =
    let v = c.args.member.now in
    let old = g.D.Device.content c.args.device.now in
    let block : length c.encode.new.out ≡ 4096 = omega arith in
    let long = ap length (sym c.encode.ensures.bytes) ∙ block in
    all_done_of g.D.Device (writes_of v) c.args.device.now c.put-3.new.device c.put-3.result (made g c)
    (λ does honest. leaves_less (g.D.Device.crashes c.args.device.now) (g.D.Device.crashes c.put-3.new.device) (IsCutShort old (writes_of v)) (IsHalfLaidOut old v)
    (λ left cut. half_laid v old left c.requires long cut) (does.within honest))
