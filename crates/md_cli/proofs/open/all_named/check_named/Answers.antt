use Rattle.std.proofs.Common.{◌≡◌, ◌∙◌, List, ap, false, inl, inr, map, refl, subst, sym, true}
use Rattle.md_state.specs.View.{Disk, disk_of}
use Rattle.md_words.specs.Asks.{ask_of}
use Rattle.md_cli.specs.AllNamed.{MakesNone, NotesArray}
use Rattle.md_cli.specs.Arrays.{disks, overlaid}
use Rattle.md_cli.proofs.Overlaid.{overlay_ghosts, shown_over}
use Rattle.md_cli.proofs.open.all_named.check_named.Goals as goal

pub returns-in-Ok-note_array : goal.returns-in-Ok-note_array
returns-in-Ok-note_array g c =
    let over : disks (overlay_ghosts g.D.Device) c.in-Ok.overlays.items ≡ map overlaid (disks g.D.Device c.args.devices.now) = ap (map (disk_of (overlay_ghosts g.D.Device))) c.in-Ok.ensures ∙ shown_over g.D.Device c.args.devices.now in
    let looked = c.in-Ok-note_array.looked in
    let may : c.may_part.result ≡ true = (let yes = c.if-not-may_part.false in cc) in
    inl (record {
      may = sym c.may_part.ensures ∙ may;
      notes = subst (λ (devices : List Disk). NotesArray (ask_of c.args.command) c.args.chunk devices looked) over c.in-Ok-note_array.ensures;
      asks = c.ask_of_absent.ensures;
    })

pub returns-in-Err : goal.returns-in-Err
returns-in-Err g c =
    let over : disks (overlay_ghosts g.D.Device) c.in-Ok.overlays.items ≡ map overlaid (disks g.D.Device c.args.devices.now) = ap (map (disk_of (overlay_ghosts g.D.Device))) c.in-Ok.ensures ∙ shown_over g.D.Device c.args.devices.now in
    let why = c.in-Err.fault in
    let may : c.may_part.result ≡ true = (let yes = c.if-not-may_part.false in cc) in
    inr (inl (record {
      may = sym c.may_part.ensures ∙ may;
      why = why;
      none = subst (λ (devices : List Disk). MakesNone (ask_of c.args.command) c.args.chunk devices why) over c.in-Err.ensures;
      is = c.answer_unopened.ensures;
      unasked = (refl, refl);
    }))

-- there is no memory for the overlays
pub returns-in_default : goal.returns-in_default
returns-in_default g c =
    let may : c.may_part.result ≡ true = (let yes = c.if-not-may_part.false in cc) in
    inr (inr (inr (sym c.may_part.ensures ∙ may, refl), (refl, refl)))

-- it parts no array
pub returns-then-not-may_part : goal.returns-then-not-may_part
returns-then-not-may_part g c =
    let parts : c.may_part.result ≡ false = (let no = c.if-not-may_part.true in cc) in
    inr (inr (inl (sym c.may_part.ensures ∙ parts, refl), (refl, refl)))
