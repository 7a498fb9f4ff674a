use Rattle.std.proofs.Common.{List, map, refl, subst}
use Rattle.std.specs.Prelude.{OnOk}
use Rattle.std.proofs.lemmas.Result.{IfOk-at_ok}
use Rattle.md_members.specs.declared.info.MemberInfo.{MemberInfo}
use Rattle.md_members.proofs.Wrapped.{own_is}
use Rattle.md_assembly.specs.Assembled.{IsAssembled}
use Rattle.md_assembly.specs.Faults.{NoAssembleFault}
use Rattle.md_state.specs.View.{disk_of}
use Rattle.md_array.proofs.Openings.Whole.{are_whole}
use Rattle.md_array.proofs.open.array_of.Given as given
use Rattle.md_array.proofs.open.array_of.Goals as goal
use Rattle.md_array.proofs.open.array_of.Goals.{In_ok-assembly}

-- what assembly answered, before its fault was made one of opening
assembled : (g : given.Over) (c : In_ok-assembly g) → IsAssembled c.in_ok-infos.infos.items c.in_ok-assembly.assembly
assembled g c =
    let own = own_is _ c.assemble.result _ c.in_ok-assembly.assembly c.in_ok-assembly.ensures.cases c.in_ok-assembly.ensures.variant refl in
    subst (λ (infos : List MemberInfo). IsAssembled infos c.in_ok-assembly.assembly) c.deref.ensures.value (IfOk-at_ok (IsAssembled c.deref.result.now) own c.assemble.ensures.ok)

sound : (g : given.Over) (c : In_ok-assembly g) → NoAssembleFault c.in_ok-infos.infos.items
sound g c =
    let own = own_is _ c.assemble.result _ c.in_ok-assembly.assembly c.in_ok-assembly.ensures.cases c.in_ok-assembly.ensures.variant refl in
    subst NoAssembleFault c.deref.ensures.value (subst (λ r. OnOk r (NoAssembleFault c.deref.result.now)) own c.assemble.ensures.sound)

pub remember-requires-clause-assembled : goal.remember-requires-clause-assembled
remember-requires-clause-assembled g c = assembled g c

pub remember-requires-clause-sound : goal.remember-requires-clause-sound
remember-requires-clause-sound g c = sound g c

pub remember-requires-clause-whole : goal.remember-requires-clause-whole
remember-requires-clause-whole g c =
    let disks = map (disk_of g.D.Device) in
    are_whole (disks c.args.devices.now) c.in_ok-infos.infos.items c.in_ok-infos.ensures.read (sound g c)

pub returns-clause-ok : goal.returns-clause-ok
returns-clause-ok g c = record {
  infos = c.in_ok-infos.infos.items;
  read = c.in_ok-infos.ensures.read;
  assembly = c.in_ok-assembly.assembly;
  assembled = assembled g (goal.at.returns-clause-ok g c).In_ok-assembly;
  sound = sound g (goal.at.returns-clause-ok g c).In_ok-assembly;
  remembered = c.in_ok-remember.ensures;
}
