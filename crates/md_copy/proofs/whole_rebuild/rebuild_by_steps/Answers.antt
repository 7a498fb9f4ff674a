use Rattle.std.proofs.Common.{◌∙◌, sym, ap}
use Rattle.std.proofs.lemmas.Result.{err_from_is_err_and}
use Rattle.std.specs.Int.{div_ceil}
use Rattle.md_assembly.proofs.Indices.{got_within}
use Rattle.md_bitmap.specs.declared.chunks.Chunks.{Chunks}
use Rattle.std.proofs.lemmas.Option.{slice_get_within}
use Rattle.md_copy.proofs.Ready.Lowered.{lowered_then}
use Rattle.md_copy.proofs.Ready.Readied.{may_lowered}
use Rattle.md_copy.proofs.SalvageLemmas.WholePass.{may_leave_of}
use Rattle.md_copy.proofs.Steps.Answered.{rebuilds, refused_at_once, refused_readied, refused_ready, refused_set}
use Rattle.md_copy.proofs.Steps.Begun.{begins, ready_then, set_ready, within_ready}
use Rattle.md_copy.proofs.Steps.EndedWithin.{stopped_within}
use Rattle.md_copy.proofs.whole_rebuild.rebuild_by_steps.Goals as goal

pub returns-in_err-check_rebuild-clause-gives : goal.returns-in_err-check_rebuild-clause-gives
returns-in_err-check_rebuild-clause-gives g c =
    let p = err_from_is_err_and c.from_residual.result c.from_residual.ensures.1 in
    let v = c.args.mirror.now in
    let it = got_within v.array.members c.args.target c.requires.within in
    rw (p.1, p.2) (refused_at_once c.args.target v it.0 it.1 c.in_err-check_rebuild.field-0.0 (c.in_err-check_rebuild.ensures it.0 it.1))

pub returns-in-Err-clause-gives : goal.returns-in-Err-clause-gives
returns-in-Err-clause-gives g c =
    let v = c.args.mirror.now in
    let it = got_within v.array.members c.args.target c.requires.within in
    refused_set c.args.target v it.0 it.1 (c.in_ok-check_rebuild.ensures it.0 it.1)

pub returns-in-Err-no_orphans-clause-gives : goal.returns-in-Err-no_orphans-clause-gives
returns-in-Err-no_orphans-clause-gives g c =
    let v = c.args.mirror.now in
    let it = got_within v.array.members c.args.target c.requires.within in
    refused_set c.args.target v it.0 it.1 (c.in_ok-check_rebuild.ensures it.0 it.1)

pub returns-in_err-make_ready-clause-gives : goal.returns-in_err-make_ready-clause-gives
returns-in_err-make_ready-clause-gives g c =
    let p = err_from_is_err_and c.from_residual-in_err-make_ready.result c.from_residual-in_err-make_ready.ensures.1 in
    let v = c.args.mirror.now in
    let it = got_within v.array.members c.args.target c.requires.within in
    let many = c.in-Ok.ensures.chunks ∙ c.count.ensures.count ∙ ap (λ (q : Chunks). div_ceil q.size q.sectors) c.chunks.ensures ∙ sym c.requires.sound.chunks.count in
    let mid = c.lower_target.new.mirror in
    let n = lowered_then c.args.target c.in-Ok.copied v mid c.requires.sound c.lower_target.ensures.gives c.args.target it.0 it.1 in
    rw (p.1, p.2)
    (refused_ready c.args.target v mid it.0 it.1 (c.in_ok-check_rebuild.ensures it.0 it.1) c.in-Ok.copied (record { chunks = many; bits = c.in-Ok.ensures.bits }) c.lower_target.ensures.gives
    c.make_ready.new.mirror c.in_err-make_ready.field-0.0 (c.in_err-make_ready.ensures.gives n.0 n.1))

pub lower_target-requires-clause-running : goal.lower_target-requires-clause-running
lower_target-requires-clause-running g c =
    (let it = got_within c.args.mirror.now.array.members c.args.target c.requires.within in (c.in_ok-check_rebuild.ensures it.0 it.1).idle.running)

pub lower_target-requires-clause-none : goal.lower_target-requires-clause-none
lower_target-requires-clause-none g c =
    (let many = c.in-Ok.ensures.chunks ∙ c.count.ensures.count ∙ ap (λ (q : Chunks). div_ceil q.size q.sectors) c.chunks.ensures ∙ sym c.requires.sound.chunks.count in
    record { chunks = many; bits = c.in-Ok.ensures.bits })

pub make_ready-requires-clause-within : goal.make_ready-requires-clause-within
make_ready-requires-clause-within g c =
    let v = c.args.mirror.now in
    let mid = c.lower_target.new.mirror in
    let it = got_within v.array.members c.args.target c.requires.within in
    let n = lowered_then c.args.target c.in-Ok.copied v mid c.requires.sound c.lower_target.ensures.gives c.args.target it.0 it.1 in
    slice_get_within mid.array.members c.args.target n.0 n.1

pub make_ready-requires-clause-may : goal.make_ready-requires-clause-may
make_ready-requires-clause-may g c m at =
    let v = c.args.mirror.now in
    let it = got_within v.array.members c.args.target c.requires.within in
    may_lowered c.args.target c.in-Ok.copied v c.lower_target.new.mirror c.requires.sound c.lower_target.ensures.gives it.0 it.1 (c.in_ok-check_rebuild.ensures it.0 it.1) m at

pub rebuild_readied-requires-clause-within : goal.rebuild_readied-requires-clause-within
rebuild_readied-requires-clause-within g c κs within =
    let v = c.args.mirror.now in
    let it = got_within v.array.members c.args.target c.requires.within in
    let many = c.in-Ok.ensures.chunks ∙ c.count.ensures.count ∙ ap (λ (q : Chunks). div_ceil q.size q.sectors) c.chunks.ensures ∙ sym c.requires.sound.chunks.count in
    within_ready c.args.target v c.lower_target.new.mirror c.make_ready.new.mirror c.requires.sound it.0 it.1 (c.in_ok-check_rebuild.ensures it.0 it.1) c.in-Ok.copied many c.in-Ok.ensures.bits c.lower_target.ensures.gives c.in_ok-make_ready.ensures.gives

pub rebuild_readied-requires-clause-ready : goal.rebuild_readied-requires-clause-ready
rebuild_readied-requires-clause-ready g c κs within =
    let v = c.args.mirror.now in
    let it = got_within v.array.members c.args.target c.requires.within in
    let many = c.in-Ok.ensures.chunks ∙ c.count.ensures.count ∙ ap (λ (q : Chunks). div_ceil q.size q.sectors) c.chunks.ensures ∙ sym c.requires.sound.chunks.count in
    ready_then c.args.target v c.lower_target.new.mirror c.make_ready.new.mirror c.requires.sound it.0 it.1 (c.in_ok-check_rebuild.ensures it.0 it.1) c.in-Ok.copied many c.in-Ok.ensures.bits c.lower_target.ensures.gives c.in_ok-make_ready.ensures.gives

pub rebuild_readied-requires-clause-none : goal.rebuild_readied-requires-clause-none
rebuild_readied-requires-clause-none g c κs within =
    let v = c.args.mirror.now in
    let it = got_within v.array.members c.args.target c.requires.within in
    let many = c.in-Ok.ensures.chunks ∙ c.count.ensures.count ∙ ap (λ (q : Chunks). div_ceil q.size q.sectors) c.chunks.ensures ∙ sym c.requires.sound.chunks.count in
    set_ready c.args.target v c.lower_target.new.mirror c.make_ready.new.mirror c.requires.sound it.0 it.1 (c.in_ok-check_rebuild.ensures it.0 it.1) c.in-Ok.copied many c.in-Ok.ensures.bits c.lower_target.ensures.gives c.in_ok-make_ready.ensures.gives

pub returns-in-Ok-rebuild_readied-clause-gives : goal.returns-in-Ok-rebuild_readied-clause-gives
returns-in-Ok-rebuild_readied-clause-gives g c =
    let v = c.args.mirror.now in
    let it = got_within v.array.members c.args.target c.requires.within in
    let many = c.in-Ok.ensures.chunks ∙ c.count.ensures.count ∙ ap (λ (q : Chunks). div_ceil q.size q.sectors) c.chunks.ensures ∙ sym c.requires.sound.chunks.count in
    let b = begins c.args.target v c.lower_target.new.mirror c.make_ready.new.mirror c.requires.sound it.0 it.1 (c.in_ok-check_rebuild.ensures it.0 it.1) c.in-Ok.copied many c.in-Ok.ensures.bits c.lower_target.ensures.gives c.in_ok-make_ready.ensures.gives in
    rebuilds c.args.target v c.make_ready.new.mirror c.in-Ok.copied b c.rebuild_readied.new.mirror c.in-Ok-rebuild_readied.told (c.in-Ok-rebuild_readied.ensures.gives b.now b.there)

pub leave-requires-clause-may : goal.leave-requires-clause-may
leave-requires-clause-may g c = may_leave_of c.args.target c.rebuild_readied.new.copied c.rebuild_readied.new.mirror c.in-Err-rebuild_readied.fault c.in-Err-rebuild_readied.ensures.leaves

pub leave-requires-clause-within : goal.leave-requires-clause-within
leave-requires-clause-within g c =
    let v = c.args.mirror.now in
    let it = got_within v.array.members c.args.target c.requires.within in
    let many = c.in-Ok.ensures.chunks ∙ c.count.ensures.count ∙ ap (λ (q : Chunks). div_ceil q.size q.sectors) c.chunks.ensures ∙ sym c.requires.sound.chunks.count in
    let b = begins c.args.target v c.lower_target.new.mirror c.make_ready.new.mirror c.requires.sound it.0 it.1 (c.in_ok-check_rebuild.ensures it.0 it.1) c.in-Ok.copied many c.in-Ok.ensures.bits c.lower_target.ensures.gives c.in_ok-make_ready.ensures.gives in
    stopped_within c.args.target b.now c.in-Ok.copied c.make_ready.new.mirror b.there c.rebuild_readied.new.copied c.rebuild_readied.new.mirror c.in-Err-rebuild_readied.fault
    (c.in-Err-rebuild_readied.ensures.gives b.now b.there) c.rebuild_readied.ensures.sound

pub returns-clause-gives : goal.returns-clause-gives
returns-clause-gives g c =
    let v = c.args.mirror.now in
    let it = got_within v.array.members c.args.target c.requires.within in
    let many = c.in-Ok.ensures.chunks ∙ c.count.ensures.count ∙ ap (λ (q : Chunks). div_ceil q.size q.sectors) c.chunks.ensures ∙ sym c.requires.sound.chunks.count in
    let b = begins c.args.target v c.lower_target.new.mirror c.make_ready.new.mirror c.requires.sound it.0 it.1 (c.in_ok-check_rebuild.ensures it.0 it.1) c.in-Ok.copied many c.in-Ok.ensures.bits c.lower_target.ensures.gives c.in_ok-make_ready.ensures.gives in
    refused_readied c.args.target v c.make_ready.new.mirror c.in-Ok.copied b c.rebuild_readied.new.copied c.rebuild_readied.new.mirror c.leave.new.mirror c.in-Err-rebuild_readied.fault
    (c.in-Err-rebuild_readied.ensures.gives b.now b.there) c.leave.ensures.leaves
