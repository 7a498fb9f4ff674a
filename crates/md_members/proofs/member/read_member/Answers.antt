use Rattle.std.proofs.Common.{◌≡◌, false, ◌*◌, ◌∙◌, sym, ap, refl, rules, arith, inr, IsTrue, subst, length}
use Rattle.std.proofs.lemmas.Result.{err_from_is_err_and}
use Rattle.md_members.specs.Areas.{AreAreasPlaced}
use Rattle.md_members.specs.Members.{by_place, sectors_of_device}
use Rattle.md_members.proofs.Headers.{placed_by, placed_of}
use Rattle.md_members.proofs.Refusals.{rest_by_bitmap, rest_by_log, bitmap_as, bad_set_as}
use Rattle.md_device.proofs.Failing.{fails_then}
use Rattle.md_members.specs.Reading.{IsReadOf}
use Rattle.md_members.proofs.Failed.{fails_later, reads_alone}
use Rattle.md_members.proofs.Untouched.{leaves_same}
use Rattle.md_members.proofs.member.read_member.Goals as goal

pub returns-then-not-is_placed-clause-reads : goal.returns-then-not-is_placed-clause-reads
returns-then-not-is_placed-clause-reads g c =
    let old = g.D.Device.content c.args.device.now in
    let size : length old ≡ 512 * c.sectors-sectors.result = ap length (sym c.read_super.ensures.kept) ∙ c.sectors-sectors.ensures.size in
    inr (
      c.in_ok-superblock.superblock,
      c.in_ok-superblock.ensures.reads,
      by_place refl (λ p.
          let placed : IsTrue c.is_placed.result = c.is_placed.ensures.1 (placed_of old c.in_ok-superblock.superblock c.sectors-sectors.result 1 1 size refl p) in
          absurd (search rules)),
    )

pub read_any_bitmap-requires : goal.read_any_bitmap-requires
read_any_bitmap-requires g c =
    let placed : IsTrue c.is_placed.result = search rules in
    record { placed = placed_by (g.D.Device.content c.read_super.new.device) c.in_ok-superblock.superblock c.sectors-sectors.result 1 1 c.sectors-sectors.ensures.size refl (c.is_placed.ensures.0 placed) }

pub returns-in_err-header-clause-reads : goal.returns-in_err-header-clause-reads
returns-in_err-header-clause-reads g c =
    let old = g.D.Device.content c.args.device.now in
    let v = c.in_ok-superblock.superblock in
    let placed : IsTrue c.is_placed.result = search rules in
    let there = placed_by (g.D.Device.content c.read_super.new.device) v c.sectors-sectors.result 1 1 c.sectors-sectors.ensures.size refl (c.is_placed.ensures.0 placed) in
    let p = err_from_is_err_and c.from_residual-in_err-header.result c.from_residual-in_err-header.ensures.1 in
    rw (p.1, p.2) (inr (
      v,
      c.in_ok-superblock.ensures.reads,
      rest_by_bitmap old _ _ _ _ _ v c.in_err-header.field-0.0 c.read_super.ensures.kept c.read_super.ensures.honest
          (λ P. fails_later g.D.Device c.args.device.now c.read_super.new.device c.read_any_bitmap.new.device P (IsReadOf 8 4096) c.read_super.ensures.counted c.read_super.ensures.grown)
          there c.in_err-header.ensures.reads,
    ))

pub read_bad_set-requires : goal.read_bad_set-requires
read_bad_set-requires g c =
    let placed : IsTrue c.is_placed.result = search rules in
    let there = placed_by (g.D.Device.content c.read_super.new.device) c.in_ok-superblock.superblock c.sectors-sectors.result 1 1 c.sectors-sectors.ensures.size refl (c.is_placed.ensures.0 placed) in
    record { placed = subst (λ bytes. AreAreasPlaced (sectors_of_device bytes) c.in_ok-superblock.superblock 1) (sym c.read_any_bitmap.ensures.kept) there }

pub returns-in_err-bad-clause-reads : goal.returns-in_err-bad-clause-reads
returns-in_err-bad-clause-reads g c =
    let old = g.D.Device.content c.args.device.now in
    let v = c.in_ok-superblock.superblock in
    let size : length old ≡ 512 * c.sectors-sectors.result = ap length (sym c.read_super.ensures.kept) ∙ c.sectors-sectors.ensures.size in
    let fits : IsTrue c.is_placed.result = search rules in
    let placed = placed_by old v c.sectors-sectors.result 1 1 size refl (c.is_placed.ensures.0 fits) in
    let p = err_from_is_err_and c.from_residual-in_err-bad.result c.from_residual-in_err-bad.ensures.1 in
    rw (p.1, p.2) (inr (
      v,
      c.in_ok-superblock.ensures.reads,
      rest_by_log old _ _ _ _ _ v c.in_ok-header.header c.in_ok-header.marks c.in_err-bad.field-0.0 c.read_super.ensures.kept c.read_super.ensures.honest
          (λ P. fails_later g.D.Device c.args.device.now c.read_any_bitmap.new.device c.read_bad_set.new.device P (λ f. f.writes ≡ false) (omega (arith, c.read_super.ensures.counted, c.read_any_bitmap.ensures.counted))
          (fails_then _ _ _ _ (reads_alone _ _ 8 4096 c.read_super.ensures.grown) c.read_any_bitmap.ensures.grown))
          placed c.in_ok-header.ensures.reads c.in_err-bad.ensures.reads,
    ))

pub returns-clause-reads : goal.returns-clause-reads
returns-clause-reads g c =
    let old = g.D.Device.content c.args.device.now in
    let v = c.in_ok-superblock.superblock in
    let size : length old ≡ 512 * c.sectors-sectors.result = ap length (sym c.read_super.ensures.kept) ∙ c.sectors-sectors.ensures.size in
    let placed : IsTrue c.is_placed.result = search rules in
    record {
      superblock = c.in_ok-superblock.ensures.reads;
      size = size;
      placed = placed_by old v c.sectors-sectors.result 1 1 size refl (c.is_placed.ensures.0 placed);
      bitmap = bitmap_as old _ _ _ v c.in_ok-header.header c.in_ok-header.marks c.read_super.ensures.kept c.read_super.ensures.honest c.in_ok-header.ensures.reads;
      bad = bad_set_as old _ _ _ v c.in_ok-bad.bad (c.read_any_bitmap.ensures.kept ∙ c.read_super.ensures.kept) (c.read_any_bitmap.ensures.honest ∙ c.read_super.ensures.honest) c.in_ok-bad.ensures.reads;
    }

pub returns-in_err-header-clause-within : goal.returns-in_err-header-clause-within
returns-in_err-header-clause-within g c =
    leaves_same _ _ _ _ _ _ _ c.read_super.ensures.kept c.read_super.ensures.honest c.read_super.ensures.within c.read_any_bitmap.ensures.within

pub returns-in_err-bad-clause-within : goal.returns-in_err-bad-clause-within
returns-in_err-bad-clause-within g c =
    leaves_same _ _ _ _ _ _ _ (c.read_any_bitmap.ensures.kept ∙ c.read_super.ensures.kept) (c.read_any_bitmap.ensures.honest ∙ c.read_super.ensures.honest)
    (leaves_same _ _ _ _ _ _ _ c.read_super.ensures.kept c.read_super.ensures.honest c.read_super.ensures.within c.read_any_bitmap.ensures.within)
    c.read_bad_set.ensures.within

pub returns-clause-within : goal.returns-clause-within
returns-clause-within g c =
    leaves_same _ _ _ _ _ _ _ (c.read_any_bitmap.ensures.kept ∙ c.read_super.ensures.kept) (c.read_any_bitmap.ensures.honest ∙ c.read_super.ensures.honest)
    (leaves_same _ _ _ _ _ _ _ c.read_super.ensures.kept c.read_super.ensures.honest c.read_super.ensures.within c.read_any_bitmap.ensures.within)
    c.read_bad_set.ensures.within
