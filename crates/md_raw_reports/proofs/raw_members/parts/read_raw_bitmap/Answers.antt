use Rattle.std.proofs.Common.{◌≡◌, ℕ, Bool, false, List, arith, subst}
use Rattle.md_members.specs.Reading.{CallFails}
use Rattle.md_members.proofs.Failed.{fails_later}
use Rattle.md_raw_reports.specs.RawMembers.Raw.{ReadsPlacedBitmap}
use Rattle.md_raw_reports.proofs.RawMemberLemmas.Later.{bitmap_later, fails_before, front_later, placed_bitmap, tried_later}
use Rattle.md_raw_reports.proofs.raw_members.parts.read_raw_bitmap.Goals as goal

pub returns-clause-bitmap : goal.returns-clause-bitmap
returns-clause-bitmap g c =
    let d = g.D.Device in
    let old = c.args.device.now in
    let mid = c.read_super_bytes.new.device in
    let new = c.read_bitmap.new.device in
    let superblock = c.read_super_bytes.new.bytes in
    let bitmap = c.in_ok-bitmap.bitmap in
    let counted = c.read_super_bytes.ensures.counted in
    let later = CallFails d mid new in
    let all = CallFails d old new in
    let some = c.if-read-eq0.false in
    placed_bitmap (d.content old) (d.honest old) all c.in_ok-read.read superblock bitmap (omega (arith, some))
    (bitmap_later (d.content old) (d.honest old) later all (λ P. fails_later d old mid new P (λ f. f.writes ≡ false) counted c.read_super_bytes.ensures.grown) superblock bitmap
    (subst (λ (b : List ℕ). ReadsPlacedBitmap b (d.honest old) later superblock bitmap) c.read_super_bytes.ensures.kept
    (subst (λ (h : Bool). ReadsPlacedBitmap (d.content mid) h later superblock bitmap) c.read_super_bytes.ensures.honest c.in_ok-bitmap.ensures.ok)))

pub returns-clause-ok : goal.returns-clause-ok
returns-clause-ok g c =
    let d = g.D.Device in
    let old = c.args.device.now in
    let mid = c.read_super_bytes.new.device in
    let new = c.read_bitmap.new.device in
    front_later (d.content old) (d.honest old) (CallFails d old mid) (CallFails d old new)
    (λ P failed. fails_before d old mid new P failed c.read_bitmap.ensures.counted c.read_bitmap.ensures.grown) c.in_ok-read.read c.read_super_bytes.new.bytes c.in_ok-read.ensures.ok

pub returns-clause-tried : goal.returns-clause-tried
returns-clause-tried g c =
    let d = g.D.Device in
    let old = c.args.device.now in
    tried_later (d.honest old) (d.failures old) (d.failures c.read_super_bytes.new.device) (d.failures c.read_bitmap.new.device) c.in_ok-read.read c.read_bitmap.ensures.counted c.in_ok-read.ensures.tried
