use Rattle.std.proofs.Common.{◌≡◌, ◌∙◌, ◌+◌, ◌-◌, ◌<◌, ◌≤◌, ℕ, Bool, false, List, ap, drop, length-drop, refl, subst, sym, take, arith}
use Rattle.std.proofs.lemmas.List.{take_all}
use Rattle.md_bitmap.specs.Marks.{count_set}
use Rattle.md_bitmap.specs.Sectors.{bitmap_sectors}
use Rattle.md_bitmap.proofs.Bits.{count_set-le}
use Rattle.md_device.proofs.Failing.{fails_none, fails_then}
use Rattle.md_members.specs.Reading.{CallFails, IsRead, IsReadOf}
use Rattle.md_members.proofs.Failed.{fails_later}
use Rattle.md_raw_reports.specs.RawMembers.Raw.{AreCounted, IsOn, chunks_in}
use Rattle.md_raw_reports.proofs.RawMemberLemmas.Counted.{counted_first, counted_more}
use Rattle.md_raw_reports.proofs.raw_members.counting.count_chunks.Goals as goal

pub loop-k-init : goal.loop-k-init
loop-k-init g c =
    let d = g.D.Device in
    let least = c.min-done.ensures in
    let sector = c.args.sector.now in
    let size = c.requires.read.size in
    let rest = length-drop 256 sector in
    let whole : take 256 (drop 256 sector) ≡ drop 256 sector = take_all 256 (drop 256 sector) (omega (arith, size, rest)) in
    record {
      kept = refl;
      honest = refl;
      calls = omega arith;
      grown = fails_none (d.faults c.args.device.now) (λ f. f.writes ≡ false);
      done_is = omega (arith, least);
      counted = counted_first (d.content c.args.device.now) (d.honest c.args.device.now) c.args.start c.args.sector.now c.args.chunks c.count_bits-marked.result c.requires.read
          (c.count_bits-marked.ensures.count ∙ ap (λ (b : List ℕ). count_set b c.min-done.result) whole ∙ ap (count_set (drop 256 sector)) least);
    }

pub overflow_add-marked : goal.overflow_add-marked
overflow_add-marked g c =
    let so_far = c.loop-k.invariant in
    let few = count_set-le (drop 256 so_far.counted.area) (chunks_in c.loop-k.k c.args.chunks) in
    let is = so_far.counted.marked_is in
    let more = c.count_bits-marked-in-loop-k.ensures.few in
    let least = c.min-more.ensures in
    let all = c.requires.few in
    let done = so_far.done_is in
    omega (arith, few, is, more, least, all, done)

pub loop-k-preserved : goal.loop-k-preserved
loop-k-preserved g c =
    let d = g.D.Device in
    let old = c.args.device.now in
    let so_far = c.loop-k.invariant in
    let k = c.loop-k.k in
    let low : k < bitmap_sectors c.args.chunks = subst (λ (n : ℕ). k < n) c.sectors_of_bitmap-sectors.ensures.sectors c.loop-k-test.true in
    let least = c.min-more.ensures in
    let done = so_far.done_is in
    let from = c.loop-k.auto.k in
    let calls = so_far.calls in
    let later = c.read_if_there.ensures.counted in
    let block = c.read_if_there.new.bytes in
    let last : IsRead (d.content old) (d.honest old) (c.args.start + k) 512 block =
    subst (λ (n : ℕ). IsRead (d.content old) (d.honest old) (c.args.start + n) 512 block) c.from.ensures
    (subst (λ (b : List ℕ). IsRead b (d.honest old) (c.args.start + c.from.result) 512 block) so_far.kept
    (subst (λ (h : Bool). IsRead (d.content c.loop-k.device) h (c.args.start + c.from.result) 512 block) so_far.honest (c.read_if_there.ensures.read c.if-not-read_if_there.false))) in
    record {
      kept = c.read_if_there.ensures.kept ∙ so_far.kept;
      honest = c.read_if_there.ensures.honest ∙ so_far.honest;
      calls = omega (arith, calls, later);
      grown = fails_then (d.faults old) (d.faults c.loop-k.device) (d.faults c.read_if_there.new.device) (λ f. f.writes ≡ false) so_far.grown c.read_if_there.ensures.grown;
      done_is = omega (arith, least, done, from);
      counted = subst (λ (n : ℕ). AreCounted (d.content old) (d.honest old) c.args.start c.args.sector.now c.args.chunks (k + 1) (c.loop-k.marked + n)) (sym c.count_bits-marked-in-loop-k.ensures.count)
          (counted_more (d.content old) (d.honest old) c.args.start c.args.sector.now c.args.chunks k c.loop-k.done c.loop-k.marked c.min-more.result block from low done least so_far.counted last);
    }

pub returns-clause-marks : goal.returns-clause-marks
returns-clause-marks g c =
    let so_far = c.loop-k.invariant in
    let sectors = c.sectors_of_bitmap-sectors.ensures.sectors in
    let past = c.loop-k-test.false in
    let end = c.loop-k.auto.k-end in
    let some : 1 ≤ c.sectors_of_bitmap-sectors.result = omega (arith, sectors) in
    let all : c.loop-k.k ≡ c.sectors_of_bitmap-sectors.result = omega (arith, past, end, some) in
    record { chunks_are = refl; sectors = c.loop-k.k; counted = so_far.counted; rest = all ∙ sectors }

pub returns-then-not-read_if_there-clause-marks : goal.returns-then-not-read_if_there-clause-marks
returns-then-not-read_if_there-clause-marks g c =
    let d = g.D.Device in
    let old = c.args.device.now in
    let mid = c.loop-k.device in
    let new = c.read_if_there.new.device in
    let so_far = c.loop-k.invariant in
    let at : ℕ = c.args.start + c.from.result in
    let failed : IsOn (d.content old) at → CallFails d old new (IsReadOf at 512) = λ on.
    fails_later d old mid new (IsReadOf at 512) (λ f. f.writes ≡ false) so_far.calls so_far.grown
    (c.read_if_there.ensures.unread c.if-not-read_if_there.true (subst (λ (b : List ℕ). IsOn b at) (sym so_far.kept) on)) in
    record {
      chunks_are = refl;
      sectors = c.loop-k.k;
      counted = so_far.counted;
      rest = record {
        more = subst (λ (n : ℕ). c.loop-k.k < n) c.sectors_of_bitmap-sectors.ensures.sectors c.loop-k-test.true;
        sector = ap (λ (n : ℕ). c.args.start + n) c.from.ensures;
        chunks_are = ap (λ (n : ℕ). c.args.chunks - n) so_far.done_is;
        failed = failed;
      };
    }
