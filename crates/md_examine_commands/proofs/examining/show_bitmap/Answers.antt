use Rattle.std.proofs.Common.{◌≡◌, refl, rules, inl}
use Rattle.md_members.specs.Reading.{CallFails}
use Rattle.std.specs.Prelude.{Err}
use Rattle.md_refusals.specs.declared.fault.CommandFault.TheVariants.{Member}
use Rattle.md_refusals.proofs.Wrapped.{own_err, own_ok}
use Rattle.md_examine_commands.specs.Examining.{IsBitmapRefusal, IsBitmapText, bitmap_shown}
use Rattle.md_examine_commands.proofs.Reported.{reported}
use Rattle.md_examine_commands.proofs.examining.show_bitmap.Goals as goal

pub returns-in_err-member-clause-gives : goal.returns-in_err-member-clause-gives
returns-in_err-member-clause-gives g c =
    let own = own_err _ _ _ c.read_member.result _ _ c.read_member.ensures.reads c.in_err-member.ensures.cases refl in
    let is : c.from_residual.result ≡ Err (Member own.0) = let post = own.2 in search rules in
    rw is (refl, own.1)

pub returns-in_default-clause-gives : goal.returns-in_default-clause-gives
returns-in_default-clause-gives g c =
    let own = own_ok _ _ _ c.read_member.result _ _ c.read_member.ensures.reads c.in_ok-member.ensures.cases c.in_ok-member.ensures.variant refl in
    (refl, (c.in_ok-member.member, own, inl c.in_default.is))

pub returns-clause-gives : goal.returns-clause-gives
returns-clause-gives g c =
    let d = g.D.Device in
    let was = c.args.device.now in
    let Failed = CallFails d was c.read_member.new.device in
    let call = c.put_bitmap in
    let own = own_ok _ _ _ c.read_member.result _ _ c.read_member.ensures.reads c.in_ok-member.ensures.cases c.in_ok-member.ensures.variant refl in
    reported g.S.Sink (IsBitmapText (d.content was) (d.honest was) c.args.json) (IsBitmapRefusal (d.content was) (d.honest was) Failed) c.args.out.now call.new.out (bitmap_shown c.args.json c.in-Some.header c.in-Some-marks.marks) call.result (c.in_ok-member.member, c.in-Some.header, c.in-Some-marks.marks, own, c.in-Some.is, c.in-Some-marks.is, refl) call.ensures
