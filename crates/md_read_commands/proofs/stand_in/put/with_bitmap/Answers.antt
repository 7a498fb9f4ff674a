use Rattle.std.proofs.Common.{◌≡◌, ◌∙◌, ℕ, ◌+◌, ◌*◌, ◌≤◌, length, drop, ap, arith, subst, sym}
use Rattle.md_bitmap.specs.Sectors.{bitmap_sectors}
use Rattle.md_read_commands.specs.Fronted.{fronted}
use Rattle.md_read_commands.proofs.Fronts.{drop_fronted, drop_outside, length-fronted}
use Rattle.md_read_commands.proofs.stand_in.put.with_bitmap.Goals as goal

-- so many sectors that end by this one lie on a device
ends_there : (start sectors need end all size : ℕ) → sectors ≡ need → start + sectors ≡ end → end ≤ all → size ≡ 512 * all → 512 * (start + need) ≤ size
ends_there start sectors need end all size same ends inside is = omega (arith, same, ends, inside, is)

ends_before : (start sectors need end offset : ℕ) → sectors ≡ need → start + sectors ≡ end → end ≤ offset → 512 * start + 512 * need ≤ 512 * offset
ends_before start sectors need end offset same ends before = omega (arith, same, ends, before)

kept_before : (kept end offset : ℕ) → kept ≤ 512 * end → end ≤ offset → kept ≤ 512 * offset
kept_before kept end offset few before = omega (arith, few, before)

pub put_all_marked-requires-clause-room : goal.put_all_marked-requires-clause-room
put_all_marked-requires-clause-room g c =
    let f = c.in-Ok.fronted in
    let long : length (fronted f.front.items (g.D.Device.content f.inner)) ≡ length (g.D.Device.content c.args.device) = length-fronted f.front.items (g.D.Device.content f.inner) ∙ ap length c.in-Ok.ensures.kept in
    let need = bitmap_sectors c.chunks_of-chunks.result in
    let room = c.in-Some.ensures in
    subst (λ (n : ℕ). 512 * (c.in-Some.start + need) ≤ n) (sym long)
    (ends_there c.in-Some.start c.sectors_of_bitmap.result need c.in-Some.end c.sectors.result (length (g.D.Device.content c.args.device)) c.sectors_of_bitmap.ensures.sectors room.0 room.2 c.sectors.ensures.size)

pub returns-clause-same_data : goal.returns-clause-same_data
returns-clause-same_data g c =
    let offset = c.args.made.now.data_offset in
    let f = c.in-Ok.fronted in
    let after = c.put_all_marked.new.device in
    let need = bitmap_sectors c.chunks_of-chunks.result in
    let room = c.in-Some.ensures in
    drop_outside (fronted f.front.items (g.D.Device.content f.inner)) (fronted after.front.items (g.D.Device.content after.inner)) (512 * c.in-Some.start) (512 * need) (512 * offset)
    c.in_ok-put_all_marked.ensures.outside
    (ends_before c.in-Some.start c.sectors_of_bitmap.result need c.in-Some.end offset c.sectors_of_bitmap.ensures.sectors room.0 room.3)
    ∙ drop_fronted f.front.items (g.D.Device.content f.inner) (512 * offset) (kept_before (length f.front.items) c.in-Some.end offset c.in-Ok.ensures.few room.3)
    ∙ ap (drop (512 * offset)) c.in-Ok.ensures.kept
