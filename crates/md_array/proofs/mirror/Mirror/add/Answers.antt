use Rattle.std.proofs.Common.{ℕ, subst}
use Rattle.md_members.specs.Members.{sectors_of_device}
use Rattle.md_state.specs.Steps.Add.{MayAdd, RefusesToAdd}
use Rattle.md_state.specs.View.{MirrorView, disk_of}
use Rattle.md_array.proofs.StepLemmas.Add.{add_is_consistent, add_keeps_pending, once_numbered, refused_unwritten, told}
use Rattle.md_array.proofs.StepLemmas.AddEvent.{add_is_event}
use Rattle.md_array.proofs.mirror.Mirror.add.Goals as goal

pub returns-in-Err : goal.returns-in-Err
returns-in-Err g c =
    let old = c.args.self.now in
    let same = told c.sectors.result (g.D.Device.content c.args.device) c.sectors.ensures.size in
    record {
      gives = refused_unwritten (disk_of g.D.Device c.args.device) old c.in-Err.fault
          (subst (λ (v : MirrorView). RefusesToAdd v.array (sectors_of_device (g.D.Device.content c.args.device)) c.in-Err.fault) c.self.view_is (subst (λ (n : ℕ). RefusesToAdd c.self.inside.array n c.in-Err.fault) same c.in-Err.ensures));
      event = tt;
      sound = c.requires.sound;
      pending = λ p is. is;
    }

pub lay_out_last-requires : goal.lay_out_last-requires
lay_out_last-requires g c =
    let same = told c.sectors.result (g.D.Device.content c.args.device) c.sectors.ensures.size in
    record {
      sound = c.requires.sound;
      may = subst (λ (v : MirrorView). MayAdd v.array (sectors_of_device (g.D.Device.content c.args.device)) c.in-Ok.number) c.self.view_is (subst (λ (n : ℕ). MayAdd c.self.inside.array n c.in-Ok.number) same c.in-Ok.ensures);
    }

pub returns : goal.returns
returns g c =
    let of = disk_of g.D.Device in
    let device = of c.args.device in
    let old = c.args.self.now in
    let new = c.lay_out_last.new.self in
    let same = told c.sectors.result (g.D.Device.content c.args.device) c.sectors.ensures.size in
    let may = subst (λ (v : MirrorView). MayAdd v.array (sectors_of_device (g.D.Device.content c.args.device)) c.in-Ok.number) c.self.view_is (subst (λ (n : ℕ). MayAdd c.self.inside.array n c.in-Ok.number) same c.in-Ok.ensures) in
    let gives = once_numbered of device c.in-Ok.number old new may c.lay_out_last.result c.lay_out_last.ensures in
    record {
      gives = gives;
      event = add_is_event of device old new c.requires.sound c.lay_out_last.result gives;
      sound = add_is_consistent of device old new c.requires.sound c.lay_out_last.result gives;
      pending = add_keeps_pending of device old new c.requires.sound c.lay_out_last.result gives;
    }
