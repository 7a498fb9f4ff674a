use Rattle.std.proofs.Common.{◌∙◌, ◌<◌, arith, length, refl}
use Rattle.std.proofs.lemmas.Result.{err_from_is_err_and}
use Rattle.md_cli.specs.StoringLists.{FailsFrom, StoresFrom}
use Rattle.md_cli.proofs.lists.storing_lists.store_lists.Goals as goal

pub loop-k-init : goal.loop-k-init
loop-k-init g c = record { sound = c.requires.sound; members = refl; as_many = refl; stores = λ last h. h; fails = λ fault last h. h }

pub store_one-requires-clause-within : goal.store_one-requires-clause-within
store_one-requires-clause-within g c =
    let many = c.loop-k.invariant.members in
    let count = c.members-k-end.ensures in
    let below = c.loop-k-test.true in
    omega arith

pub store_one-requires-clause-sound : goal.store_one-requires-clause-sound
store_one-requires-clause-sound g c = c.loop-k.invariant.sound

pub loop-k-preserved : goal.loop-k-preserved
loop-k-preserved g c =
    let many = c.loop-k.invariant.members in
    let count = c.members-k-end.ensures in
    let below = c.loop-k-test.true in
    let within : c.loop-k.k < length c.loop-k.mirror.array.members = omega arith in
    record {
      sound = c.in_ok-store_one.ensures.sound;
      members = c.in_ok-store_one.ensures.members ∙ many;
      as_many = c.store_one.ensures.as_many ∙ c.loop-k.invariant.as_many;
      stores = λ last h. c.loop-k.invariant.stores last (StoresFrom.one within c.in_ok-store_one.ensures.gives h);
      fails = λ fault last h. c.loop-k.invariant.fails fault last (FailsFrom.later within c.in_ok-store_one.ensures.gives h);
    }

pub returns-in_err-store_one-clause-gives : goal.returns-in_err-store_one-clause-gives
returns-in_err-store_one-clause-gives g c =
    let p = err_from_is_err_and c.from_residual.result c.from_residual.ensures.1 in
    rw (p.1, p.2) (c.loop-k.invariant.fails _ c.store_one.new.mirror (FailsFrom.here c.in_err-store_one.ensures.gives))

pub returns-in_err-store_one-clause-as_many : goal.returns-in_err-store_one-clause-as_many
returns-in_err-store_one-clause-as_many g c = c.store_one.ensures.as_many ∙ c.loop-k.invariant.as_many

pub returns-clause-gives : goal.returns-clause-gives
returns-clause-gives g c =
    let many = c.loop-k.invariant.members in
    let count = c.members-k-end.ensures in
    let past = c.loop-k-test.false in
    c.loop-k.invariant.stores c.loop-k.mirror (StoresFrom.past (omega arith))

pub returns-clause-as_many : goal.returns-clause-as_many
returns-clause-as_many g c = c.loop-k.invariant.as_many

pub returns-clause-sound : goal.returns-clause-sound
returns-clause-sound g c = c.loop-k.invariant.sound
