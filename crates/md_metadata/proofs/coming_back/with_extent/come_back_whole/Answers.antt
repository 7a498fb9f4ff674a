use Rattle.std.proofs.Common.{◌≡◌, ◌∙◌, false, inl, refl, sym, subst}
use Rattle.md_state.specs.View.{disk_of}
use Rattle.md_state.proofs.Stays.{stays_read}
use Rattle.md_array.specs.Steps.ReAdd.{IsOnlyRead}
use Rattle.md_array.proofs.StepLemmas.ReAdd.{refused_device, refused_info}
use Rattle.md_metadata.specs.ComingBack.{FindsBitmap, RefusesWhole}
use Rattle.md_metadata.proofs.ComingBack.{stale_or_whole, unread_other, untaken_other}
use Rattle.md_metadata.proofs.coming_back.with_extent.come_back_whole.Given as given
use Rattle.md_metadata.proofs.coming_back.with_extent.come_back_whole.Goals as goal
use Rattle.md_metadata.proofs.coming_back.with_extent.come_back_whole.Goals.{After-read_member}

running : (g : given.Over) (c : After-read_member g) → c.args.mirror.now.array.halted ≡ false
running g c = sym c.halted.ensures ∙ c.if-halted.false

only_read : (g : given.Over) (c : After-read_member g) → IsOnlyRead (disk_of g.D.Device c.args.device) (disk_of g.D.Device c.read_member.new.device)
only_read g c = ((c.read_member.ensures.kept, c.read_member.ensures.within), stays_read g.D.Device c.args.device c.read_member.new.device c.read_member.ensures.honest c.read_member.ensures.counted c.read_member.ensures.grown)

pub returns-in-Err-clause-gives : goal.returns-in-Err-clause-gives
returns-in-Err-clause-gives g c =
    let of = disk_of g.D.Device in
    let at = (goal.at.returns-in-Err-clause-gives g c).After-read_member in
    subst (RefusesWhole (of c.args.device) (of c.read_member.new.device) c.args.mirror.now c.args.mirror.now) (sym c.unread.ensures)
    (inl (
      unread_other c.in-Err.fault,
      refused_device (of c.args.device) (of c.read_member.new.device) c.args.mirror.now (running g at) (only_read g at) c.in-Err.fault c.in-Err.ensures.reads c.in-Err.ensures.unfailing,
    ))

pub returns-in-Some-clause-gives : goal.returns-in-Some-clause-gives
returns-in-Some-clause-gives g c =
    let of = disk_of g.D.Device in
    let at = (goal.at.returns-in-Some-clause-gives g c).After-read_member in
    inl (
      untaken_other c.args.mirror.now.array c.in-Ok.info c.in-Some.fault c.in-Some.ensures.refused,
      refused_info (of c.args.device) (of c.read_member.new.device) c.args.mirror.now (running g at) (only_read g at) c.in-Ok.ensures.unfailing c.in-Ok.info c.in-Ok.ensures.reads c.in-Some.fault c.in-Some.ensures.refused,
    )

pub returns-clause-gives : goal.returns-clause-gives
returns-clause-gives g c =
    let of = disk_of g.D.Device in
    let at = (goal.at.returns-clause-gives g c).After-read_member in
    let finds : FindsBitmap c.args.mirror.now.array (of c.args.device) (of c.read_member.new.device) c.bitmap_start-start.result = record {
      info = c.in-Ok.info;
      member = c.in-Ok.ensures.reads;
      may = c.in_default.ensures.may refl;
      at = c.bitmap_start-start.ensures;
      only_read = only_read g at;
    } in
    stale_or_whole of (of c.args.device) (of c.read_member.new.device) c.args.mirror.now c.come_back_stale.new.mirror c.bitmap_start-start.result c.requires.sound finds c.come_back_stale.result c.come_back_stale.ensures.gives
