use Rattle.std.proofs.Common.{◌≡◌, ◌∙◌, ◌*◌, ◌/◌, ◌<◌, ◌≤◌, ℕ, List, ◌++◌, length, drop, take, sym, ap, subst, arith, length-append, length-drop, inl, inr}
use Rattle.std.proofs.Math.Seq.{take-append_seam}
use Rattle.std.proofs.lemmas.List.{length-take-le}
use Rattle.md_array.proofs.General.Resting.{rests_sound}
use Rattle.md_laws.proofs.Runs.Rests.{rests_then}
use Rattle.md_state.specs.Rests.{Rests}
use Rattle.md_read.specs.Reading.{GivesRun, MayGiveFewer}
use Rattle.md_read.proofs.RunsRead.{cut_later, fewer_earlier, none_gives_earlier, run_earlier}
use Rattle.md_read.proofs.runs.read_front.Goals as goal

run_long : (buf : List ℕ) (sectors : ℕ) → sectors ≤ length buf / 512 → length (take (512 * sectors) buf) ≡ 512 * sectors
run_long buf sectors few = length-take-le (512 * sectors) buf (omega arith)

pub returns-in-All : goal.returns-in-All
returns-in-All g c =
    let old = c.args.mirror.now in
    let mid = c.loop-sectors.mirror in
    let new = c.read_run.new.mirror in
    let rests = c.loop-sectors.invariant.rests in
    let bytes = c.read_run.new.buf in
    let rest = drop (512 * c.loop-sectors.sectors) c.loop-sectors.buf in
    let long = run_long c.loop-sectors.buf c.loop-sectors.sectors (let same = c.loop-sectors.invariant.long in omega arith) in
    let same = c.read_run.auto.buf in
    record {
      some = c.loop-sectors.invariant.some;
      few = c.loop-sectors.invariant.few;
      given =
          let front : take (512 * c.loop-sectors.sectors) (bytes ++ rest) ≡ bytes = ap (λ (n : ℕ). take n (bytes ++ rest)) (sym (same ∙ long)) ∙ take-append_seam bytes rest in
          subst (λ (xs : List ℕ). GivesRun c.args.sector xs old new) (sym front) (run_earlier old mid new rests c.in-All.ensures.rests c.args.sector bytes c.in-All.ensures);
      cut = elim c.loop-sectors.invariant.cut [
        | inl whole ↦ inl whole
        | inr cut ↦ inr (cut_later old mid new rests c.in-All.ensures.rests c.args.sector c.loop-sectors.sectors (length c.args.buf.now / 512) cut)
      ];
    }

-- all list the first of them
pub returns-in-Nothing : goal.returns-in-Nothing
returns-in-Nothing g c =
    let old = c.args.mirror.now in
    let mid = c.loop-sectors.mirror in
    let new = c.read_run.new.mirror in
    let rests = c.loop-sectors.invariant.rests in
    let few = c.loop-sectors.invariant.few in
    let some = c.loop-sectors.invariant.some in
    let long = run_long c.loop-sectors.buf c.loop-sectors.sectors (let same = c.loop-sectors.invariant.long in omega arith) in
    record {
      rests = rests_then old mid new rests c.in-Nothing.ensures.0;
      none = none_gives_earlier old mid new rests c.in-Nothing.ensures.0 c.args.sector (λ k m on. inl (c.in-Nothing.ensures.1 c.args.sector (omega arith) (omega arith) k m on));
    }

-- nobody gave it, when it was read alone
pub returns-in-Failed : goal.returns-in-Failed
returns-in-Failed g c =
    let old = c.args.mirror.now in
    let mid = c.loop-sectors.mirror in
    let new = c.read_run.new.mirror in
    let rests = c.loop-sectors.invariant.rests in
    record {
      rests = rests_then old mid new rests c.in-Failed.ensures.0;
      none = none_gives_earlier old mid new rests c.in-Failed.ensures.0 c.args.sector c.in-Failed.ensures.2;
    }

pub loop-sectors-preserved : goal.loop-sectors-preserved
loop-sectors-preserved g c =
    let old = c.args.mirror.now in
    let mid = c.loop-sectors.mirror in
    let new = c.read_run.new.mirror in
    let sectors = c.loop-sectors.sectors in
    let some = c.loop-sectors.invariant.some in
    let few = c.loop-sectors.invariant.few in
    let same = c.loop-sectors.invariant.long in
    let long = run_long c.loop-sectors.buf sectors (omega arith) in
    let halves : Rests mid new × (1 < sectors) = (c.in-Perhaps.ensures.0, let two = c.in-Perhaps.ensures.1 in omega arith) in
    let all : length (take (512 * sectors) c.loop-sectors.buf) / 512 ≡ sectors = omega arith in
    let given = c.read_run.auto.buf in
    let rest = length-drop (512 * sectors) c.loop-sectors.buf in
    record {
      rests = rests_then old mid new c.loop-sectors.invariant.rests halves.0;
      sound = rests_sound mid new halves.0 c.loop-sectors.invariant.sound;
      long = length-append c.read_run.new.buf (drop (512 * sectors) c.loop-sectors.buf) ∙ (omega arith);
      some = let two = halves.1 in omega arith;
      few = omega arith;
      cut = inr (record {
        more = sectors;
        above = let two = halves.1 in omega arith;
        half = omega arith;
        within = few;
        why = fewer_earlier old mid new c.loop-sectors.invariant.rests halves.0 c.args.sector sectors (subst (λ (n : ℕ). MayGiveFewer c.args.sector n mid new) all c.in-Perhaps.ensures.2);
      });
    }
