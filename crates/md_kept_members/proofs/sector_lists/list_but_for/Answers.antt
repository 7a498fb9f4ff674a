use Rattle.std.proofs.Common.{◌↔◌, ◌⊎◌, ℕ, List, subst, sym}
use Rattle.md_badblocks.specs.declared.run.Run.{Run}
use Rattle.md_badblocks.specs.Runs.{IsBad}
use Rattle.md_kept_members.specs.Enrolling.{AreRemoved}
use Rattle.md_kept_members.proofs.SectorSets.{IsPlacedOf, of_removed}
use Rattle.md_kept_members.proofs.sector_lists.list_but_for.Goals as goal

pub returns : goal.returns
returns c = λ m bad_is offset_is.
    let copied = c.args.copied.now in
    let lost = c.args.lost.now in
    of_removed c.args.chunks copied lost m c.in_ok-list.list c.remove_chunks.new.list c.add_sectors.new.list
    (subst (λ (xs : List Run). (s : ℕ) → IsBad c.in_ok-list.list s ↔ IsBad xs s) (sym bad_is) c.in_ok-list.ensures.same)
    (subst (λ (offset : ℕ). AreRemoved c.args.chunks offset copied c.in_ok-list.list c.remove_chunks.new.list) (sym offset_is) c.in_ok-remove_chunks.ensures)
    c.add_sectors.ensures.canonical
    (subst (λ (offset : ℕ). (s : ℕ) → IsBad c.add_sectors.new.list s ↔ (IsBad c.remove_chunks.new.list s ⊎ IsPlacedOf lost offset s)) (sym offset_is) c.in_ok-add_sectors.ensures.bad)
    c.in_ok-list.ensures.canonical
