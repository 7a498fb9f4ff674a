-- Members that drop out.
use Rattle.std.specs.Prelude.{◌&&◌, Bool, true, false}
use Rattle.md_assembly.specs.declared.state.MemberState.{MemberState}
use Rattle.md_assembly.specs.declared.state.MemberState.TheVariants.{InSync, Recovering, Stale, Spare, Faulty}
use Rattle.md_assembly.specs.States.{is_in_sync}

abbrev pub is_faulty : MemberState → Bool
is_faulty Faulty = true
is_faulty (InSync role) = false
is_faulty (Recovering role) = false
is_faulty (Stale role) = false
is_faulty Spare = false

-- a member that was in sync is faulty
abbrev pub dropped_out : MemberState → MemberState → Bool
dropped_out before after = is_in_sync before && is_faulty after
