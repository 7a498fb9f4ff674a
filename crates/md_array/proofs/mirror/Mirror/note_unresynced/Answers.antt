use Rattle.std.proofs.Common.{false, map, refl, sym, subst}
use Rattle.md_state.specs.Steps.MakeClean.{IsIdle}
use Rattle.md_state.specs.View.{MirrorView, disk_of}
use Rattle.md_array.specs.Consistency.{IsConsistent}
use Rattle.md_array.specs.Steps.NoteResynced.{NotesResynced}
use Rattle.md_array.proofs.Worlds.ResyncMarked.{marked_is_consistent, marked_keeps_pending, unresynced_happens}
use Rattle.md_array.proofs.mirror.Mirror.note_unresynced.Goals as goal

pub returns : goal.returns
returns g c =
    let old : MirrorView = record { disks = map (disk_of g.D.Device) c.self.inside.devices.items; array = c.self.inside.array } in
    let new : MirrorView = record old { array = c.note_resynced.new.self } in
    let sound = subst IsConsistent (sym c.self.view_is) c.requires.sound in
    let marked : NotesResynced false old new = record {
      idle = subst (λ (v : MirrorView). IsIdle v.array) (sym c.self.view_is) c.requires.idle;
      disks = refl;
      array = c.note_resynced.ensures;
    } in
    rw (← c.self.view_is) (record {
      gives = marked;
      event = unresynced_happens old new sound marked;
      sound = marked_is_consistent false old new sound marked;
      pending = marked_keeps_pending false old new sound marked;
    })
