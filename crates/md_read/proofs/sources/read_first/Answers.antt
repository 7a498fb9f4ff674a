use Rattle.std.proofs.Common.{◌≡◌, ◌∙◌, ◌*◌, ◌≤◌, ℕ, List, ◌++◌, length, drop, take, sym, ap, subst, arith, refl}
use Rattle.std.proofs.Math.Seq.{take-append_seam}
use Rattle.std.proofs.lemmas.List.{length-take-le}
use Rattle.md_read.specs.Unresynced.{GivesPart, IsSectorMarked}
use Rattle.md_read.proofs.PartsRead.{all_given, nothing_given, source_failed}
use Rattle.md_read.proofs.sources.read_first.Goals as goal

one_long : (buf : List ℕ) → 512 ≤ length buf → length (take 512 buf) ≡ 512
one_long buf some = length-take-le 512 buf some

pub read_source-requires-clause-inside : goal.read_source-requires-clause-inside
read_source-requires-clause-inside g c =
    let long = one_long c.args.buf.now c.requires.some in
    let inside = c.requires.inside in
    let some = c.requires.some in
    omega arith

pub unreachable-requires : goal.unreachable-requires
unreachable-requires g c =
    let long = one_long c.args.buf.now c.requires.some in
    let several = c.in-Several.ensures.1 in
    omega arith

pub returns-in-All : goal.returns-in-All
returns-in-All g c =
    let old = c.args.mirror.now in
    let new = c.read_source.new.mirror in
    let was = take 512 c.args.buf.now in
    let bytes = c.read_source.new.buf in
    let rest = drop 512 c.args.buf.now in
    let long = one_long c.args.buf.now c.requires.some in
    let same : length bytes ≡ length was = c.read_source.auto.buf in
    let some = c.requires.some in
    let front : take (512 * 1) (bytes ++ rest) ≡ bytes = ap (λ (n : ℕ). take n (bytes ++ rest)) (let e : 512 * 1 ≡ length bytes = omega arith in e) ∙ take-append_seam bytes rest in (
      refl,
      subst (λ (xs : List ℕ). GivesPart c.args.sector xs old new) (sym front)
          (all_given c.args.sector was bytes old new same (omega arith)
          (λ s from below. subst (λ (x : ℕ). IsSectorMarked old.array x) (let here : c.args.sector ≡ s = omega arith in here) c.requires.marked) c.in-All.ensures),
    )

pub returns-in-Nothing : goal.returns-in-Nothing
returns-in-Nothing g c =
    let long = one_long c.args.buf.now c.requires.some in
    nothing_given c.args.sector (take 512 c.args.buf.now) c.read_source.new.buf c.args.mirror.now c.read_source.new.mirror (omega arith) c.requires.marked c.in-Nothing.ensures

pub returns-in-Failed : goal.returns-in-Failed
returns-in-Failed g c =
    let long = one_long c.args.buf.now c.requires.some in
    source_failed c.args.sector (take 512 c.args.buf.now) c.read_source.new.buf c.args.mirror.now c.read_source.new.mirror c.in-Failed.k (omega arith) c.requires.marked c.in-Failed.ensures
