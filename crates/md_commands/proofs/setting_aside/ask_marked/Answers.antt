use Rattle.std.proofs.Common.{◌<◌, length, sym, ap, subst, arith}
use Rattle.md_bitmap.specs.declared.chunks.Chunks.{Chunks}
use Rattle.md_laws.proofs.Runs.Rests.{rests_same, rests_then}
use Rattle.md_state.specs.View.{ArrayView}
use Rattle.md_commands.proofs.SetAside.{found_more, found_none}
use Rattle.md_commands.proofs.setting_aside.ask_marked.Goals as goal

pub loop-sector-init : goal.loop-sector-init
loop-sector-init g c = record {
  rests = rests_same c.args.mirror.now;
  found = found_none c.args.k c.args.not_given.now c.args.mirror.now c.args.mirror.now;
  canonical = c.requires.canonical;
  sound = c.requires.sound;
}

pub ask_if_marked-requires-clause-within : goal.ask_if_marked-requires-clause-within
ask_if_marked-requires-clause-within g c = subst (λ (a : ArrayView). c.args.k < length a.members) (sym c.loop-sector.invariant.rests.array) c.requires.within

pub ask_if_marked-requires-clause-inside : goal.ask_if_marked-requires-clause-inside
ask_if_marked-requires-clause-inside g c =
    let size = ap (λ (x : Chunks). x.size) c.chunks-size.ensures in
    let same = ap (λ (a : ArrayView). a.chunks.size) c.loop-sector.invariant.rests.array in
    let low = c.loop-sector-test.true in
    omega arith

pub ask_if_marked-requires-clause-sound : goal.ask_if_marked-requires-clause-sound
ask_if_marked-requires-clause-sound g c = c.loop-sector.invariant.sound

pub ask_if_marked-requires-clause-canonical : goal.ask_if_marked-requires-clause-canonical
ask_if_marked-requires-clause-canonical g c = c.loop-sector.invariant.canonical

pub loop-sector-preserved : goal.loop-sector-preserved
loop-sector-preserved g c =
    let so_far = c.loop-sector.invariant in
    record {
      rests = rests_then c.args.mirror.now c.loop-sector.mirror c.ask_if_marked.new.mirror so_far.rests c.ask_if_marked.ensures.rests;
      found = found_more c.args.mirror.now c.loop-sector.mirror c.ask_if_marked.new.mirror so_far.rests c.ask_if_marked.ensures.rests c.args.k c.args.not_given.now c.loop-sector.not_given c.ask_if_marked.new.not_given so_far.found c.ask_if_marked.ensures.found;
      canonical = c.ask_if_marked.ensures.canonical;
      sound = c.ask_if_marked.ensures.sound;
    }

pub returns-in_err-sector-clause-rests : goal.returns-in_err-sector-clause-rests
returns-in_err-sector-clause-rests g c = rests_then c.args.mirror.now c.loop-sector.mirror c.ask_if_marked.new.mirror c.loop-sector.invariant.rests c.ask_if_marked.ensures.rests

pub returns-in_err-sector-clause-found : goal.returns-in_err-sector-clause-found
returns-in_err-sector-clause-found g c =
    found_more c.args.mirror.now c.loop-sector.mirror c.ask_if_marked.new.mirror c.loop-sector.invariant.rests c.ask_if_marked.ensures.rests c.args.k c.args.not_given.now c.loop-sector.not_given c.ask_if_marked.new.not_given c.loop-sector.invariant.found c.ask_if_marked.ensures.found

pub returns-clause-rests : goal.returns-clause-rests
returns-clause-rests g c = c.loop-sector.invariant.rests

pub returns-clause-found : goal.returns-clause-found
returns-clause-found g c = c.loop-sector.invariant.found

pub returns-clause-canonical : goal.returns-clause-canonical
returns-clause-canonical g c = c.loop-sector.invariant.canonical

pub returns-clause-sound : goal.returns-clause-sound
returns-clause-sound g c = c.loop-sector.invariant.sound
