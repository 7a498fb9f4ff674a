use Rattle.std.proofs.Common.{inl, inr, refl}
use Rattle.md_cli.proofs.Lacked.{has_room, in_sync_at}
use Rattle.md_cli.proofs.Stored.{stored_as_many, unstored_as_many}
use Rattle.md_cli.proofs.lists.storing_lists.store_one.Goals as goal

pub store_list-requires-clause-running : goal.store_list-requires-clause-running
store_list-requires-clause-running g c = (c.may_store.ensures.may (let yes = c.if-not-may_store.false in cc)).running

pub store_list-requires-clause-in_sync : goal.store_list-requires-clause-in_sync
store_list-requires-clause-in_sync g c = in_sync_at c.args.lacking.now c.args.mirror.now.array c.args.k (c.may_store.ensures.may (let yes = c.if-not-may_store.false in cc)).lacks

pub store_list-requires-clause-room : goal.store_list-requires-clause-room
store_list-requires-clause-room g c = λ m at. has_room m.superblock m.bad ((c.may_store.ensures.may (let yes = c.if-not-may_store.false in cc)).room m at)

pub store_list-requires-clause-earlier : goal.store_list-requires-clause-earlier
store_list-requires-clause-earlier g c = (c.may_store.ensures.may (let yes = c.if-not-may_store.false in cc)).earlier

pub returns-then-not-may_store-clause-gives : goal.returns-then-not-may_store-clause-gives
returns-then-not-may_store-clause-gives g c = inr (c.may_store.ensures.may_not (let no = c.if-not-may_store.true in cc), refl)

pub returns-in-Ok-clause-gives : goal.returns-in-Ok-clause-gives
returns-in-Ok-clause-gives g c = inl (c.may_store.ensures.may (let yes = c.if-not-may_store.false in cc), c.in-Ok.ensures)

pub returns-in-Ok-clause-members : goal.returns-in-Ok-clause-members
returns-in-Ok-clause-members g c = c.in-Ok.ensures.goes.array.as_many

pub returns-in-Ok-clause-as_many : goal.returns-in-Ok-clause-as_many
returns-in-Ok-clause-as_many g c = stored_as_many c.args.k c.args.mirror.now c.store_list.new.mirror c.requires.sound c.in-Ok.ensures

pub returns-in-Ok-clause-sound : goal.returns-in-Ok-clause-sound
returns-in-Ok-clause-sound g c = c.in-Ok.ensures.goes.sound

pub returns-in-Err-clause-gives : goal.returns-in-Err-clause-gives
returns-in-Err-clause-gives g c = (c.may_store.ensures.may (let yes = c.if-not-may_store.false in cc), refl, (_, c.in-Err.ensures))

pub returns-in-Err-clause-as_many : goal.returns-in-Err-clause-as_many
returns-in-Err-clause-as_many g c = unstored_as_many c.args.k c.args.mirror.now c.store_list.new.mirror _ c.requires.sound c.in-Err.ensures
