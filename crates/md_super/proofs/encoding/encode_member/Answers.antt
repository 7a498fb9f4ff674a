use Rattle.std.proofs.Common.{◌≡◌, ◌≤◌, ◌++◌, length, take, refl}
use Rattle.byteorder.specs.Endian.{little_bytes}
use Rattle.md_super.specs.Checksum.{checksum_of}
use Rattle.md_super.specs.Encoding.{back_bytes, bytes_with, super_bytes}
use Rattle.md_super.specs.Fits.{RolesFit}
use Rattle.md_super.specs.Format.{IsSuper}
use Rattle.md_super.specs.Merge.{merged}
use Rattle.md_super.proofs.Joined.{joined}
use Rattle.md_super.proofs.Sealed.{sealed, sealed_reads_back, no_fault_in}
use Rattle.md_super.proofs.encoding.encode_member.Goals as goal

-- before the checksum is in its place
plain : (c : goal.After-put_u32-2) → c.put_back.new.out ≡ bytes_with 0 (merged c.args.shared.now c.args.own.now)
unfolding bytes_with
plain c =
    let back : c.put_back.new.out ≡ take 220 c.put_u32.new.out ++ back_bytes c.args.shared.now.roles = rw c.as_slice.ensures at c.put_back.ensures.whole in
    joined (back_bytes c.args.shared.now.roles) (joined (little_bytes 4 0) c.put_front.ensures.front c.put_u32.ensures.front) back

whole : (c : goal.After-put_u32-2) → c.put_u32-2.new.out ≡ super_bytes (merged c.args.shared.now c.args.own.now)
whole c =
    let m = merged c.args.shared.now c.args.own.now in
    let sum : c.checksum-sum.result ≡ checksum_of c.put_back.new.out (length c.args.shared.now.roles) = rw c.max_dev-max_dev.ensures.value at c.checksum-sum.ensures in
    sealed m c.checksum-sum.result c.put_back.new.out c.put_u32-2.new.out c.put_front.ensures.fit (plain c) sum c.put_u32-2.ensures.whole

few : (c : goal.After-put_u32-2) → length c.args.shared.now.roles ≤ 1920
few c = rw c.max_dev-max_dev.ensures.value at c.max_dev-max_dev.ensures.few

fields : (c : goal.After-put_u32-2) →
    IsSuper (super_bytes (merged c.args.shared.now c.args.own.now)) (record (merged c.args.shared.now c.args.own.now) { sb_csum = checksum_of (super_bytes (merged c.args.shared.now c.args.own.now)) (length c.args.shared.now.roles) })
fields c =
    let roles : RolesFit c.args.shared.now.roles = rw c.as_slice.ensures at c.put_back.ensures.fit in
    sealed_reads_back (merged c.args.shared.now c.args.own.now) c.put_front.ensures.fit roles (few c)

pub returns-clause-bytes : goal.returns-clause-bytes
returns-clause-bytes c = whole c

pub returns-clause-fields : goal.returns-clause-fields
returns-clause-fields c = rw (whole c) (fields c)

pub returns-clause-sound : goal.returns-clause-sound
returns-clause-sound c = rw (whole c) (no_fault_in _ _ (fields c) refl (few c))
