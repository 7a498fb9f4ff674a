use Rattle.std.proofs.Common.{◌∙◌, Bool, List, ap, rules, sym}
use Rattle.std.specs.Prelude.{position, not}
use Rattle.std.proofs.lemmas.Result.{err_from_is_err_and}
use Rattle.md_members.specs.declared.info.MemberInfo.{MemberInfo}
use Rattle.md_assembly.specs.declared.fault.AssembleFault.{AssembleFault}
use Rattle.md_assembly.specs.declared.fault.AssembleFault.TheVariants.{Empty, TooMany, Stranger, DoubleNumber, NoBitmap, Geometry, DoubleRole, NotEnough, NoMemory}
use Rattle.md_assembly.specs.declared.state.MemberState.{MemberState}
use Rattle.md_assembly.specs.Faults.{IsFirstAssembleFault}
use Rattle.md_assembly.specs.States.{is_in_sync}
use Rattle.md_metadata.specs.Grow.Faults.{grow_refusal_of}
use Rattle.md_metadata.specs.Grow.Growth.{RefusesInSync}
use Rattle.md_metadata.proofs.bitmap_grow.growth.freshest_in_sync.Goals as goal

refused : (members : List MemberInfo) (some_lack : Bool) (f : AssembleFault) → IsFirstAssembleFault members f → RefusesInSync members some_lack (grow_refusal_of f)
refused members some_lack Empty first = first
refused members some_lack TooMany first = first
refused members some_lack (Stranger k) first = first
refused members some_lack (DoubleNumber j k) first = first
refused members some_lack (NoBitmap k) first = first
refused members some_lack (Geometry k) first = first
refused members some_lack (DoubleRole role) first = first
refused members some_lack NotEnough first = first
refused members some_lack NoMemory first = tt

pub returns-in_err-assembly : goal.returns-in_err-assembly
returns-in_err-assembly c =
    let p = err_from_is_err_and c.from_residual.result c.from_residual.ensures.1 in
    rw (p.1, p.2) (refused c.args.members.now c.args.some_lack c.in_err-assembly.field-0.0 c.in_err-assembly.ensures.refused)

pub returns-in-Some : goal.returns-in-Some
returns-in-Some c =
    let a = c.in_ok-assembly.ensures.ok in (
      c.in_ok-assembly.assembly.freshest,
      a.superblock,
      record { sound = c.in_ok-assembly.ensures.sound; freshest = a.freshest },
      ap (position (λ (s : MemberState). not (is_in_sync s))) (sym a.states ∙ sym c.deref.ensures.value) ∙ sym c.in-Some.ensures,
    )

pub returns : goal.returns
returns c =
    let a = c.in_ok-assembly.ensures.ok in (
      a.superblock,
      record {
        array = record { sound = c.in_ok-assembly.ensures.sound; freshest = a.freshest };
        some = search rules;
        in_sync = ap (position (λ (s : MemberState). not (is_in_sync s))) (sym a.states ∙ sym c.deref.ensures.value) ∙ sym c.in-None.ensures;
      },
    )
