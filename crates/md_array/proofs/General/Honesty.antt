-- Devices that do what they answer do so after a call.
use Rattle.std.proofs.Common.{◌≡◌, ℕ, List, slice_get, Some, sym, ap, ◌∙◌, arith}
use Rattle.std.proofs.lemmas.Option.{slice_get_within}
use Rattle.md_model.proofs.Puts.{by_same}
use Rattle.md_members.specs.DeviceWrites.Writes.{Write}
use Rattle.md_state.specs.DeviceChanges.{AreSame}
use Rattle.md_state.specs.DiskWrites.{IsTried}
use Rattle.md_state.specs.View.{Disk, MirrorView}
use Rattle.md_array.specs.Open.Opened.{IsOpenedFrom}
use Rattle.md_array.specs.Worlds.{AreHonest}
use Rattle.md_assembly.proofs.Indices.{got_within}

pub same_honest : (before after : List Disk) → AreSame before after → AreHonest before → AreHonest after
same_honest before after same honest j e at =
    let low = slice_get_within after j e at in
    let many = same.as_many in
    let d = got_within before j (omega arith) in
    (same.honest j d.0 e d.1 at).honest ∙ honest j d.0 d.1

-- a write to one of them
pub tried_honest : (k : ℕ) (w : Write) (before after : List Disk) → IsTried k w before after → AreHonest before → AreHonest after
tried_honest k w before after tried honest j e at =
    by_same j k
    (λ here.
    let now : slice_get after k ≡ Some e = sym (ap (slice_get after) here) ∙ at in
    let low = slice_get_within after k e now in
    let many = tried.as_many in
    let d = got_within before k (omega arith) in
    (tried.stays d.0 e d.1 now).honest ∙ honest k d.0 d.1)
    (λ apart. honest j e (sym (tried.others j apart) ∙ at))

pub opened_honest : (before : List Disk) (m : MirrorView) → AreHonest before → IsOpenedFrom before m → AreHonest m.disks
opened_honest before m honest opened = same_honest before m.disks opened.marked.same honest
