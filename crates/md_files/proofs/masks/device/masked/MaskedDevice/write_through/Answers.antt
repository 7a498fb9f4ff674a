use Rattle.std.proofs.Common.{◌≡◌, ◌*◌, ℕ, List, length, refl, sym, ap, subst, rules}
use Rattle.md_device.specs.Splice.{SameOutside}
use Rattle.md_files.specs.Masks.Device.Masked.{IsUnmasked, Masked, disk_content}
use Rattle.md_files.proofs.MaskLemmas.DeviceLemmas.Disks.{disk_kept, disk_unmasked}
use Rattle.md_files.proofs.masks.device.masked.MaskedDevice.write_through.Goals as goal

pub returns-in_err-write-clause-outside : goal.returns-in_err-write-clause-outside
returns-in_err-write-clause-outside g c =
    let same : SameOutside (512 * c.args.sector) (length c.args.bytes.now) (g.D.Device.content c.args.self.now.inner) (g.D.Device.content c.write.new.self) =
    subst (λ (d : Masked _). SameOutside (512 * c.args.sector) (length c.args.bytes.now) (g.D.Device.content d.inner) (g.D.Device.content c.write.new.self)) c.self.view_is c.write.ensures.outside in
    let fits = c.requires.within in
    subst (λ (d : Masked _). SameOutside (512 * c.args.sector) (length c.args.bytes.now) (disk_content c.args.self.now.mask c.args.self.now.disk (g.D.Device.content c.args.self.now.inner)) (disk_content d.mask d.disk (g.D.Device.content c.write.new.self))) (sym c.self.view_is)
    (disk_kept c.args.self.now.mask c.args.self.now.mask c.args.self.now.disk (g.D.Device.content c.args.self.now.inner) (g.D.Device.content c.write.new.self) c.args.sector (length c.args.bytes.now) refl same c.requires.whole c.requires.within)

pub returns-then-is_err-clause-outside : goal.returns-then-is_err-clause-outside
returns-then-is_err-clause-outside g c =
    let same : SameOutside (512 * c.args.sector) (length c.args.bytes.now) (g.D.Device.content c.args.self.now.inner) (g.D.Device.content c.write.new.self) =
    subst (λ (d : Masked _). SameOutside (512 * c.args.sector) (length c.args.bytes.now) (g.D.Device.content d.inner) (g.D.Device.content c.write.new.self)) c.self.view_is c.write.ensures.outside in
    let disk : c.self.inside.disk.bytes ≡ c.args.self.now.disk = ap (λ (d : Masked _). d.disk) c.self.view_is in
    let mask : c.remove.new.self ≡ c.args.self.now.mask = search rules in
    subst (λ (bytes : List ℕ). SameOutside (512 * c.args.sector) (length c.args.bytes.now) (disk_content c.args.self.now.mask c.args.self.now.disk (g.D.Device.content c.args.self.now.inner)) (disk_content c.remove.new.self bytes (g.D.Device.content c.write.new.self))) (sym disk)
    (disk_kept c.args.self.now.mask c.remove.new.self c.args.self.now.disk (g.D.Device.content c.args.self.now.inner) (g.D.Device.content c.write.new.self) c.args.sector (length c.args.bytes.now) mask same c.requires.whole c.requires.within)

pub returns-clause-outside : goal.returns-clause-outside
returns-clause-outside g c =
    let same : SameOutside (512 * c.args.sector) (length c.args.bytes.now) (g.D.Device.content c.args.self.now.inner) (g.D.Device.content c.write.new.self) =
    subst (λ (d : Masked _). SameOutside (512 * c.args.sector) (length c.args.bytes.now) (g.D.Device.content d.inner) (g.D.Device.content c.write.new.self)) c.self.view_is c.write.ensures.outside in
    let disk : c.self.inside.disk.bytes ≡ c.args.self.now.disk = ap (λ (d : Masked _). d.disk) c.self.view_is in
    let mask : IsUnmasked c.args.sector (length c.args.bytes.now) c.args.self.now.mask c.remove.new.self = search rules in
    subst (λ (bytes : List ℕ). SameOutside (512 * c.args.sector) (length c.args.bytes.now) (disk_content c.args.self.now.mask c.args.self.now.disk (g.D.Device.content c.args.self.now.inner)) (disk_content c.remove.new.self bytes (g.D.Device.content c.write.new.self))) (sym disk)
    (disk_unmasked c.args.self.now.mask c.remove.new.self c.args.self.now.disk (g.D.Device.content c.args.self.now.inner) (g.D.Device.content c.write.new.self) c.args.sector (length c.args.bytes.now) mask same c.requires.whole c.requires.within)
