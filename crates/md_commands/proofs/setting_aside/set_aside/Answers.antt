use Rattle.std.proofs.Common.{◌≡◌, ◌∙◌, ◌<◌, ◌++◌, ◌∷◌, [], ℕ, length, refl, sym, ap, subst, arith}
use Rattle.std.proofs.lemmas.Result.{err_from_is_err_and}
use Rattle.md_assembly.specs.States.{is_in_sync}
use Rattle.md_state.proofs.Members.At.{told}
use Rattle.md_commands.proofs.SetAside.{aside_then}
use Rattle.md_commands.proofs.setting_aside.set_aside.Goals as goal

pub loop-k-init : goal.loop-k-init
loop-k-init g c = record { members = []; sets = refl; running = c.requires.running; as_many = refl; sound = c.requires.sound }

pub state-requires : goal.state-requires
state-requires g c =
    let many = c.loop-k.invariant.as_many in
    let count = c.members-k-end.ensures in
    let below = c.loop-k-test.true in
    omega arith

pub set_aside_on-requires-clause-within : goal.set_aside_on-requires-clause-within
set_aside_on-requires-clause-within g c =
    let many = c.loop-k.invariant.as_many in
    let count = c.members-k-end.ensures in
    let below = c.loop-k-test.true in
    omega arith

pub set_aside_on-requires-clause-in_sync : goal.set_aside_on-requires-clause-in_sync
set_aside_on-requires-clause-in_sync g c m at =
    ap is_in_sync (told (λ x. x.state) c.loop-k.mirror.array c.loop-k.k m c.state.result c.state.ensures at) ∙ sym c.is_in_sync.ensures ∙ (let yes = c.if-not-is_in_sync.false in cc)

pub set_aside_on-requires-clause-running : goal.set_aside_on-requires-clause-running
set_aside_on-requires-clause-running g c = c.loop-k.invariant.running

pub set_aside_on-requires-clause-sound : goal.set_aside_on-requires-clause-sound
set_aside_on-requires-clause-sound g c = c.loop-k.invariant.sound

pub loop-k-preserved-then-not-is_in_sync : goal.loop-k-preserved-then-not-is_in_sync
loop-k-preserved-then-not-is_in_sync g c = c.loop-k.invariant

pub loop-k-preserved : goal.loop-k-preserved
loop-k-preserved g c =
    let so_far = c.loop-k.invariant in
    record {
      members = so_far.members ++ c.loop-k.k ∷ [];
      sets = aside_then so_far.members c.loop-k.k c.args.mirror.now c.loop-k.mirror c.set_aside_on.new.mirror so_far.sets c.in_ok-set_aside_on.ensures.gives;
      running = c.in_ok-set_aside_on.ensures.running;
      as_many = c.in_ok-set_aside_on.ensures.members ∙ so_far.as_many;
      sound = c.set_aside_on.ensures.sound;
    }

pub returns-in_err-set_aside_on-clause-gives : goal.returns-in_err-set_aside_on-clause-gives
returns-in_err-set_aside_on-clause-gives g c =
    let p = err_from_is_err_and c.from_residual.result c.from_residual.ensures.1 in
    rw (p.1, p.2) (record {
      members = c.loop-k.invariant.members;
      begun = c.loop-k.mirror;
      sets = c.loop-k.invariant.sets;
      member = c.loop-k.k;
      fails = c.in_err-set_aside_on.ensures.gives;
    })

pub returns-clause-gives : goal.returns-clause-gives
returns-clause-gives g c = (c.loop-k.invariant.members, c.loop-k.invariant.sets)

pub returns-clause-sound : goal.returns-clause-sound
returns-clause-sound g c = c.loop-k.invariant.sound
