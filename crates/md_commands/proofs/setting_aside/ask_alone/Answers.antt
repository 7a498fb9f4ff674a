use Rattle.std.proofs.Common.{◌<◌, length, sym, ap, subst, arith}
use Rattle.md_laws.proofs.Runs.Rests.{rests_same, rests_then}
use Rattle.md_state.specs.View.{ArrayView}
use Rattle.md_commands.proofs.SetAside.{found_more, found_next, found_none}
use Rattle.md_commands.proofs.setting_aside.ask_alone.Goals as goal

pub loop-sector-init : goal.loop-sector-init
loop-sector-init g c = record {
  rests = rests_same c.args.mirror.now;
  found = found_none c.args.k c.args.not_given.now c.args.mirror.now c.args.mirror.now;
  canonical = c.requires.canonical;
  sound = c.requires.sound;
}

pub gives-requires-clause-within : goal.gives-requires-clause-within
gives-requires-clause-within g c = subst (λ (a : ArrayView). c.args.k < length a.members) (sym c.loop-sector.invariant.rests.array) c.requires.within

pub gives-requires-clause-inside : goal.gives-requires-clause-inside
gives-requires-clause-inside g c =
    let same = ap (λ (a : ArrayView). a.chunks.size) c.loop-sector.invariant.rests.array in
    let low = (c.requires.marked c.loop-sector.sector c.loop-sector.auto.sector c.loop-sector-test.true).0 in
    omega arith

pub gives-requires-clause-sound : goal.gives-requires-clause-sound
gives-requires-clause-sound g c = c.loop-sector.invariant.sound

pub loop-sector-preserved-then-gives : goal.loop-sector-preserved-then-gives
loop-sector-preserved-then-gives g c =
    let so_far = c.loop-sector.invariant in
    let rests = c.gives.ensures.rests in
    record {
      rests = rests_then c.args.mirror.now c.loop-sector.mirror c.gives.new.mirror so_far.rests rests;
      found = found_more c.args.mirror.now c.loop-sector.mirror c.gives.new.mirror so_far.rests rests c.args.k c.args.not_given.now c.loop-sector.not_given c.loop-sector.not_given so_far.found
          (found_none c.args.k c.loop-sector.not_given c.loop-sector.mirror c.gives.new.mirror);
      canonical = so_far.canonical;
      sound = c.gives.ensures.sound;
    }

pub loop-sector-preserved : goal.loop-sector-preserved
loop-sector-preserved g c =
    let so_far = c.loop-sector.invariant in
    let rests = c.gives.ensures.rests in
    record {
      rests = rests_then c.args.mirror.now c.loop-sector.mirror c.gives.new.mirror so_far.rests rests;
      found = found_next c.args.mirror.now c.loop-sector.mirror c.gives.new.mirror so_far.rests rests c.args.k c.loop-sector.sector c.args.not_given.now c.loop-sector.not_given c.add.new.self so_far.found
          (c.requires.marked c.loop-sector.sector c.loop-sector.auto.sector c.loop-sector-test.true) (c.gives.ensures.asked c.if-gives.false) c.in_ok-add.ensures.ok;
      canonical = c.add.ensures.canonical;
      sound = c.gives.ensures.sound;
    }

pub returns-in_err-add-clause-rests : goal.returns-in_err-add-clause-rests
returns-in_err-add-clause-rests g c = rests_then c.args.mirror.now c.loop-sector.mirror c.gives.new.mirror c.loop-sector.invariant.rests c.gives.ensures.rests

pub returns-in_err-add-clause-found : goal.returns-in_err-add-clause-found
returns-in_err-add-clause-found g c =
    rw c.in_err-add.ensures.err
    (found_more c.args.mirror.now c.loop-sector.mirror c.gives.new.mirror c.loop-sector.invariant.rests c.gives.ensures.rests c.args.k c.args.not_given.now c.loop-sector.not_given c.loop-sector.not_given
    c.loop-sector.invariant.found (found_none c.args.k c.loop-sector.not_given c.loop-sector.mirror c.gives.new.mirror))

pub returns-clause-rests : goal.returns-clause-rests
returns-clause-rests g c = c.loop-sector.invariant.rests

pub returns-clause-found : goal.returns-clause-found
returns-clause-found g c = c.loop-sector.invariant.found

pub returns-clause-canonical : goal.returns-clause-canonical
returns-clause-canonical g c = c.loop-sector.invariant.canonical

pub returns-clause-sound : goal.returns-clause-sound
returns-clause-sound g c = c.loop-sector.invariant.sound
