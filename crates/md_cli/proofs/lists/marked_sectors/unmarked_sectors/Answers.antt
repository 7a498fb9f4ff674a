use Rattle.std.proofs.Common.{◌≡◌, ◌∙◌, ◌↔◌, ℕ, ap, false, subst, sym}
use Rattle.std.specs.Int.{div_ceil}
use Rattle.md_badblocks.specs.Runs.{IsBad}
use Rattle.md_bitmap.specs.Marks.{Bitmap}
use Rattle.md_bitmap.specs.declared.chunks.Chunks.{Chunks}
use Rattle.md_kept_members.specs.SectorLists.{in_chunks}
use Rattle.md_cli.proofs.GivenSectors.{unmarked_of}
use Rattle.md_cli.proofs.lists.marked_sectors.unmarked_sectors.Goals as goal

pub remove_chunks-requires-clause-all : goal.remove_chunks-requires-clause-all
remove_chunks-requires-clause-all g c =
    ap (λ (b : Bitmap). b.chunks) c.marks.ensures ∙ c.requires.sound.chunks.count ∙ sym (ap (λ (q : Chunks). div_ceil q.size q.sectors) c.chunks.ensures)

pub returns-clause-unmarked : goal.returns-clause-unmarked
returns-clause-unmarked g c =
    let a = c.args.mirror.now.array in
    let list = c.remove_chunks.new.list in
    let sectors = c.args.sectors.now in
    subst (λ (q : Chunks). (s : ℕ) → IsBad list s ↔ (IsBad sectors s × (in_chunks q a.marks s ≡ false))) c.chunks.ensures
    (subst (λ (b : Bitmap). (s : ℕ) → IsBad list s ↔ (IsBad sectors s × (in_chunks c.chunks.result b s ≡ false))) c.marks.ensures
    (unmarked_of c.chunks.result c.marks.result.now sectors c.in_ok-rest.rest c.in_ok-rest.ensures.same list c.in_ok-remove_chunks.ensures))
