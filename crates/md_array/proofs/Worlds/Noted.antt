-- Each member in sync has the marks of memory stored, as the model has it.
use Rattle.std.proofs.Common.{◌≡◌, ℕ, true, false, ◌&&◌, nat_lt, Option, ◌∙◌}
use Rattle.std.proofs.lemmas.Bool.{and_from, and_parts}
use Rattle.md_bitmap.specs.Marks.{is_set}
use Rattle.md_model.specs.Worlds as worlds
use Rattle.md_model.specs.Worlds.{Request}
use Rattle.md_model.proofs.Cases.{is_below}
use Rattle.md_state.specs.View.{MirrorView}
use Rattle.md_array.specs.Steps.NoteResynced.{AreNoted}
use Rattle.md_array.specs.Worlds.{world_of}
use Rattle.md_array.proofs.StepLemmas.OneMember.{member_there}
use Rattle.md_array.proofs.Worlds.InSync.{in_sync_is}

pub noted_there : (v : MirrorView) (requests : ℕ → Option Request) → AreNoted v.array → (i c : ℕ) → worlds.IsInSync (world_of v requests) i
    → (world_of v requests).marks c ≡ true → (world_of v requests).known i c ≡ true
noted_there v requests noted i c on marked =
    let x = in_sync_is v.disks v.array requests i on in
    let parts = and_parts (nat_lt c v.array.marks.chunks) (is_set v.array.marks.bytes c) marked in
    member_there v.array i x.0 false (λ y. nat_lt c v.array.marks.chunks && is_set y.stored.bytes c) x.1.member
    ∙ and_from (nat_lt c v.array.marks.chunks) (is_set x.0.stored.bytes c) parts.0 (noted i c x.0 x.1 (is_below c v.array.marks.chunks parts.0) parts.1)
