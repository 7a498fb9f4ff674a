use Rattle.std.proofs.Common.{true, map, refl, sym, subst}
use Rattle.md_state.specs.Steps.MakeClean.{IsIdle}
use Rattle.md_state.specs.View.{MirrorView, disk_of}
use Rattle.md_array.specs.Consistency.{IsConsistent}
use Rattle.md_array.specs.Steps.NoteResynced.{AllAgreeWhereMarked, AreNoted, BecomesResynced}
use Rattle.md_array.proofs.Worlds.ResyncMarked.{marked_is_consistent, marked_keeps_pending, resynced_happens}
use Rattle.md_array.proofs.mirror.Mirror.note_resynced.Goals as goal

pub returns : goal.returns
returns g c =
    let old : MirrorView = record { disks = map (disk_of g.D.Device) c.self.inside.devices.items; array = c.self.inside.array } in
    let new : MirrorView = record old { array = c.note_resynced.new.self } in
    let sound = subst IsConsistent (sym c.self.view_is) c.requires.sound in
    let marked : BecomesResynced old new = record {
      marks = record { idle = subst (λ (v : MirrorView). IsIdle v.array) (sym c.self.view_is) c.requires.idle; disks = refl; array = c.note_resynced.ensures };
      agree = subst AllAgreeWhereMarked (sym c.self.view_is) c.requires.agree;
      stored = subst (λ (v : MirrorView). AreNoted v.array) (sym c.self.view_is) c.requires.stored;
    } in
    rw (← c.self.view_is) (record {
      gives = marked;
      event = resynced_happens old new sound marked;
      sound = marked_is_consistent true old new sound marked.marks;
      pending = marked_keeps_pending true old new sound marked.marks;
    })
