use Rattle.std.proofs.Common.{◌∙◌, ap, sym}
use Rattle.md_assembly.specs.States.{is_in_sync}
use Rattle.md_assembly.proofs.Indices.{got_within}
use Rattle.md_state.proofs.Members.At.{told}
use Rattle.md_copy.specs.Salvaging.Losing.{every_role}
use Rattle.md_copy.proofs.Listings.ListsStored.{stops_one, stored_none, stored_one}
use Rattle.md_copy.proofs.SalvageLemmas.EveryRole.{in_every_role, in_no_role}
use Rattle.md_copy.proofs.salvaging.losing.store_if_in_sync.Goals as goal

pub returns-then-not-is_in_sync : goal.returns-then-not-is_in_sync
returns-then-not-is_in_sync g c =
    stored_none every_role c.args.k c.args.mirror.now c.requires.sound c.requires.recorded
    (λ m at. in_no_role m (ap is_in_sync (told (λ x. x.state) c.args.mirror.now.array c.args.k m c.state.result c.state.ensures at) ∙ sym c.is_in_sync.ensures ∙ (let no = c.if-not-is_in_sync.true in cc)))

pub store_list-requires-clause-in_sync : goal.store_list-requires-clause-in_sync
store_list-requires-clause-in_sync g c m at =
    ap is_in_sync (told (λ x. x.state) c.args.mirror.now.array c.args.k m c.state.result c.state.ensures at) ∙ sym c.is_in_sync.ensures ∙ (let yes = c.if-not-is_in_sync.false in cc)

pub store_list-requires-clause-room : goal.store_list-requires-clause-room
store_list-requires-clause-room g c m at =
    c.requires.room m at (in_every_role c.args.mirror.now.array c.requires.sound.roles c.args.k m at
    (ap is_in_sync (told (λ x. x.state) c.args.mirror.now.array c.args.k m c.state.result c.state.ensures at) ∙ sym c.is_in_sync.ensures ∙ (let yes = c.if-not-is_in_sync.false in cc)))

pub store_list-requires-clause-earlier : goal.store_list-requires-clause-earlier
store_list-requires-clause-earlier g c j m low in_sync = c.requires.recorded j m in_sync

pub returns-in-Ok : goal.returns-in-Ok
returns-in-Ok g c =
    stored_one every_role c.args.k c.args.mirror.now c.store_list.new.mirror c.requires.sound c.requires.recorded
    (λ m at. in_every_role c.args.mirror.now.array c.requires.sound.roles c.args.k m at
    (ap is_in_sync (told (λ x. x.state) c.args.mirror.now.array c.args.k m c.state.result c.state.ensures at) ∙ sym c.is_in_sync.ensures ∙ (let yes = c.if-not-is_in_sync.false in cc)))
    c.in-Ok.ensures

pub returns-in-Err : goal.returns-in-Err
returns-in-Err g c =
    let it = got_within c.args.mirror.now.array.members c.args.k c.requires.within in
    stops_one every_role c.args.k c.args.mirror.now c.store_list.new.mirror c.requires.sound c.requires.recorded
    (λ m at. in_every_role c.args.mirror.now.array c.requires.sound.roles c.args.k m at
    (ap is_in_sync (told (λ x. x.state) c.args.mirror.now.array c.args.k m c.state.result c.state.ensures at) ∙ sym c.is_in_sync.ensures ∙ (let yes = c.if-not-is_in_sync.false in cc)))
    it.0 it.1 c.requires.unspent c.in-Err.field-0 c.in-Err.ensures
