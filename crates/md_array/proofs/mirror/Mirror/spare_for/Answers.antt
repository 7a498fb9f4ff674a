use Rattle.std.proofs.Common.{◌≡◌, false, sym, subst, arith}
use Rattle.std.proofs.lemmas.Option.{slice_get_within}
use Rattle.md_assembly.proofs.Indices.{got_within}
use Rattle.md_array.specs.Consistency.{IsConsistent}
use Rattle.md_state.specs.View.{MirrorView}
use Rattle.md_array.proofs.mirror.Mirror.spare_for.Goals as goal

pub new_spare-requires-clause-sound : goal.new_spare-requires-clause-sound
new_spare-requires-clause-sound g c k m at =
    let sound = subst IsConsistent (sym c.self.view_is) c.requires.sound in
    let many = sound.fits.as_many in
    let low = slice_get_within c.self.inside.array.members k m at in
    let d = got_within _ k (omega arith) in
    (sound.fits.each k d.0 m d.1 at).sound

pub new_spare-requires-clause-some_size : goal.new_spare-requires-clause-some_size
new_spare-requires-clause-some_size g c =
    let sound = subst IsConsistent (sym c.self.view_is) c.requires.sound in
    let running = subst (λ (v : MirrorView). v.array.halted ≡ false) (sym c.self.view_is) c.requires.may.running in
    let s = sound.roles.serving running in
    let many = sound.fits.as_many in
    let low = slice_get_within c.self.inside.array.members s.0 s.1 s.2.member in
    let d = got_within _ s.0 (omega arith) in
    let some = (sound.fits.each s.0 d.0 s.1 d.1 s.2.member).placed.some_size in
    let size = sound.chunks.member_size s.0 s.1 s.2.member in
    omega arith
