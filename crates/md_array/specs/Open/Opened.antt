-- What opening devices as a mirror gives: the array that they make, whose marks are stored where they have to be.
use Rattle.std.specs.Prelude.{List}
use Rattle.md_members.specs.declared.info.MemberInfo.{MemberInfo}
use Rattle.md_assembly.specs.declared.assembling.Assembly.{Assembly}
use Rattle.md_assembly.specs.Assembled.{IsAssembled}
use Rattle.md_assembly.specs.Faults.{NoAssembleFault}
use Rattle.md_state.specs.View.{Disk, ArrayView, MirrorView}
use Rattle.md_state.specs.Remembered.{IsRemembered}
use Rattle.md_array.specs.Open.Members.{AreRead}
use Rattle.md_array.specs.Open.Marks.{AreMarksOnDisks}

-- the array that these devices make, as it is kept
pub record IsArrayOf (before : List Disk) (a : ArrayView) : Type 0 where
  pub infos : List MemberInfo
  pub read : AreRead before infos
  pub assembly : Assembly
  pub assembled : IsAssembled infos assembly
  pub sound : NoAssembleFault infos
  pub remembered : IsRemembered infos assembly a

-- a mirror that was opened from devices
pub record IsOpenedFrom (before : List Disk) (m : MirrorView) : Type 0 where
  pub array : IsArrayOf before m.array
  pub marked : AreMarksOnDisks before m.disks m.array
