use Rattle.std.proofs.Common.{◌≡◌, ◌*◌, ◌∷◌, [], List, ℕ, ap, arith, length, subst, sym, ◌∙◌}
use Rattle.md_device.specs.Splice.{SameOutside}
use Rattle.md_super.specs.Faults.{NoSuperFault}
use Rattle.md_super.specs.Format.{IsSuper}
use Rattle.md_super.specs.Checksum.{checksum_of}
use Rattle.md_super.specs.Merge.{merged}
use Rattle.md_kept_members.specs.OnDevices.Superblocks.{IsReadable, own_write}
use Rattle.md_members.specs.DeviceWrites.Writes.{MakesWrites, Write}
use Rattle.md_state.specs.View.{disk_of}
use Rattle.md_array.proofs.Openings.StoredOn.{stays_made}
use Rattle.md_metadata.specs.Grow.Stored.{KeepsAllBeside, sectors_of}
use Rattle.md_metadata.proofs.GrowLemmas.StoredOn.{fails_in_part, gets_superblock, keeps_super, made_as_disk}
use Rattle.md_metadata.proofs.bitmap_grow.store.put_superblock.Goals as goal

module _ (g : _) (c : goal.After-put g) where
  abbrev naming : List Write
  naming = own_write c.args.growth.now.shared c.args.own.now ∷ []

  made : MakesWrites g.D.Device naming c.args.device.now c.put.new.device c.put.result
  made = subst (λ (bytes : List ℕ). MakesWrites g.D.Device (record { sector = 8; bytes = bytes } ∷ []) c.args.device.now c.put.new.device c.put.result) c.encode_member.ensures.bytes c.put.ensures.writes

  kept : KeepsAllBeside c.args.growth.now.start (sectors_of c.args.growth.now) (g.D.Device.content c.args.device.now) (g.D.Device.content c.put.new.device)
  kept =
      let w = c.args.growth.now in
      let old = g.D.Device.content c.args.device.now in
      let new = g.D.Device.content c.put.new.device in
      let block : length c.encode_member.new.out ≡ 4096 = omega arith in
      let named : SameOutside (512 * 8) 4096 old new = subst (λ (k : ℕ). SameOutside (512 * 8) k old new) block c.put.ensures.outside in
      keeps_super w.start (sectors_of w) old new named

  readable : IsReadable (merged c.args.growth.now.shared c.args.own.now)
  readable =
      let v = merged c.args.growth.now.shared c.args.own.now in
      let block : length c.encode_member.new.out ≡ 4096 = omega arith in
      record {
        size = ap length (sym c.encode_member.ensures.bytes) ∙ block;
        sum = checksum_of c.encode_member.new.out (length v.roles);
        fields = subst (λ (bytes : List ℕ). IsSuper bytes (record v { sb_csum = checksum_of c.encode_member.new.out (length v.roles) })) c.encode_member.ensures.bytes c.encode_member.ensures.fields;
        sound = subst NoSuperFault c.encode_member.ensures.bytes c.encode_member.ensures.sound;
      }

pub returns-clause-stays : goal.returns-clause-stays
returns-clause-stays g c = stays_made g.D.Device (naming g c) c.args.device.now c.put.new.device c.put.result (made g c)

pub returns-clause-ok : goal.returns-clause-ok
returns-clause-ok g c =
    gets_superblock c.args.growth.now (disk_of g.D.Device c.args.device.now) (disk_of g.D.Device c.put.new.device) (kept g c) c.args.own.now (readable g c) c.put.result
    (made_as_disk g.D.Device (naming g c) c.args.device.now c.put.new.device c.put.result (made g c))

pub returns-clause-fails : goal.returns-clause-fails
returns-clause-fails g c =
    fails_in_part c.args.growth.now (disk_of g.D.Device c.args.device.now) (disk_of g.D.Device c.put.new.device) (kept g c) (naming g c) c.put.result
    (made_as_disk g.D.Device (naming g c) c.args.device.now c.put.new.device c.put.result (made g c))
