use Rattle.std.proofs.Common.{◌↔◌, ◌⊎◌, ℕ, List, subst, sym}
use Rattle.md_badblocks.specs.declared.run.Run.{Run}
use Rattle.md_badblocks.specs.Runs.{IsBad}
use Rattle.md_kept_members.proofs.SectorSets.{IsPlacedOf, more_added}
use Rattle.md_kept_members.proofs.sector_lists.list_with_sectors.Goals as goal

pub returns : goal.returns
returns c = λ m bad_is offset_is.
    let sectors = c.args.sectors.now in
    more_added sectors m c.in_ok-list.list c.add_sectors.new.list
    (subst (λ (xs : List Run). (s : ℕ) → IsBad c.in_ok-list.list s ↔ IsBad xs s) (sym bad_is) c.in_ok-list.ensures.same)
    c.add_sectors.ensures.canonical
    (subst (λ (offset : ℕ). (s : ℕ) → IsBad c.add_sectors.new.list s ↔ (IsBad c.in_ok-list.list s ⊎ IsPlacedOf sectors offset s)) (sym offset_is) c.in_ok-add_sectors.ensures.bad)
