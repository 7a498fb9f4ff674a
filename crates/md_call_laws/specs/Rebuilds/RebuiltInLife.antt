-- What a rebuild makes of its target in the life of a mirror.
use Rattle.std.specs.Prelude.{◌≡◌, ◌⊎◌, ℕ, ◌+◌, ◌*◌, ◌/◌, ◌<◌, true, false, List, slice_get, Some}
use Rattle.md_assembly.specs.States.{is_in_sync, is_recovering, is_spare}
use Rattle.md_badblocks.specs.Runs.{IsBad}
use Rattle.md_bitmap.specs.Chunks.{InChunk}
use Rattle.md_bitmap.specs.Marks.{is_set}
use Rattle.md_device.specs.Splice.{part}
use Rattle.md_kept_members.specs.View.{MemberView}
use Rattle.md_model.specs.Behind.{IsBehind}
use Rattle.md_model.specs.Content.{Content, Holds}
use Rattle.md_model.specs.Devices.{Stored}
use Rattle.md_model.specs.Events.{Event}
use Rattle.md_model.specs.RebuiltBehind.{IsRebuiltFrom}
use Rattle.md_model.specs.Recovering.{RecoveringHolds}
use Rattle.md_state.specs.Members.{IsMember}
use Rattle.md_state.specs.Missing.{is_missing, is_re_added}
use Rattle.md_state.specs.View.{Disk, MirrorView, geometry_of}
use Rattle.md_array.specs.Consistency.{IsConsistent}
use Rattle.md_array.specs.Worlds.{lists_of, none_in_flight, world_of}
use Rattle.md_laws.specs.Lives.{MirrorLifeWith}
use Rattle.md_laws.specs.Recovering.{MirrorLifeJoins}
use Rattle.md_laws.specs.Runs.{IsStart, Moment}
use Rattle.md_copy.specs.declared.rebuilt.Rebuilt.{Rebuilt}
use Rattle.md_copy.specs.Rebuilding.{Rebuilds}
use Rattle.md_copy.specs.Rebuilt.{HasRebuilt}

-- A statement holds of each rebuild that is done at some moment of a life, with the content that the life has
-- there.
abbrev pub OfRebuildsInLives : ((target : ℕ) (content : Content) (told : Rebuilt) (old new : MirrorView) → HasRebuilt target told old new → Type 0) → Type 0
OfRebuildsInLives Of =
    (before : List Disk) (m : MirrorView) (a : Content) → IsStart before m → Holds (geometry_of m.array) a (world_of m none_in_flight)
    → (es : List Event) (rest : List (List Event)) (final : MirrorView) (last : Moment) (b : Content) → MirrorLifeWith m a es rest final last b
    → (target : ℕ) (told : Rebuilt) (new : MirrorView) → Rebuilds target told last.mirror new
    → (r : HasRebuilt target told last.mirror new) × Of target b told last.mirror new r

-- In each sector of the chunks that were copied the new member holds it.
abbrev pub CopiesContent : Type 0
CopiesContent = OfRebuildsInLives (λ target content told old new r.
    ((e : Disk) → slice_get new.disks target ≡ Some e → (c s : ℕ) → c < old.array.marks.chunks → is_set r.copied.bytes c ≡ true
    → InChunk old.array.chunks.sectors old.array.chunks.size c s → part e.content (512 * (r.rebuilt.member.superblock.data_offset + s)) 512 ≡ content s))

-- In chunks that it did not lack the member held it, on each sector that it did not list.
abbrev pub HeldWhatItHad : ℕ → Content → MirrorView → Type 0
HeldWhatItHad target content old =
    (d : Disk) (m : MemberView) → slice_get old.disks target ≡ Some d → IsMember old.array target m
    → (s : ℕ) → s < old.array.chunks.size → is_missing old.array m (s / old.array.chunks.sectors) ≡ false → (IsBad m.bad (m.superblock.data_offset + s) → ⊥)
    → part d.content (512 * (m.superblock.data_offset + s)) 512 ≡ content s

-- a member of which nothing is rebuilt: a spare, or one that is recovering and whose offset has passed nothing
abbrev pub HasNothing : MemberView → Type 0
HasNothing m = (is_spare m.state ≡ true) ⊎ ((is_recovering m.state ≡ true) × (m.offset ≡ 0))

-- A member of which nothing is rebuilt lacks every chunk, and nothing is asked of it.
abbrev pub NewHadNothing : Type 0
NewHadNothing =
    (target : ℕ) (content : Content) (old : MirrorView) (m : MemberView) → IsConsistent old → IsMember old.array target m → HasNothing m → HeldWhatItHad target content old

-- A member that lacks the marked chunks alone, as one that was re-added does, held the content where it
-- lacked nothing, if the device that left lies behind the content by what is marked. The member still has the
-- data of that device in chunks without a mark, and lists there what that listed, or more.
abbrev pub TakenBackHeldIt : Type 0
TakenBackHeldIt =
    (t : Moment) (target : ℕ) (content : Content) (m : MemberView) → IsMember t.mirror.array target m → is_re_added t.mirror.array m ≡ true
    → (device : Stored) → IsBehind (geometry_of t.mirror.array) content device (world_of t.mirror t.requests)
    → IsRebuiltFrom (geometry_of t.mirror.array) device (world_of t.mirror t.requests) target (lists_of t.mirror.array m) → HeldWhatItHad target content t.mirror

-- Every member that is not in sync held the content where it lacked nothing, if at that moment a recovering
-- member differs from the content only in what it lacks: by what is marked, and by what its offset has not
-- passed.
abbrev pub RecoveringHeldIt : Type 0
RecoveringHeldIt =
    (t : Moment) (target : ℕ) (content : Content) (m : MemberView) → IsMember t.mirror.array target m → is_in_sync m.state ≡ false
    → RecoveringHolds (geometry_of t.mirror.array) content (world_of t.mirror t.requests) → HeldWhatItHad target content t.mirror

-- Members that are not in sync hold the content where they lack nothing, at each moment of a life that is
-- told what its recovering members have: those of the first opening, each device that is taken back, and of
-- those that a later opening finds what `MirrorLifeJoins` asks.
abbrev pub HeldInLives : Type 0
HeldInLives =
    (before : List Disk) (m : MirrorView) (a : Content) → IsStart before m → Holds (geometry_of m.array) a (world_of m none_in_flight)
    → RecoveringHolds (geometry_of m.array) a (world_of m none_in_flight)
    → (es : List Event) (rest : List (List Event)) (final : MirrorView) (last : Moment) (b : Content) (life : MirrorLifeWith m a es rest final last b)
    → MirrorLifeJoins m a es rest final last b life
    → (target : ℕ) (n : MemberView) → IsMember last.mirror.array target n → is_in_sync n.state ≡ false → HeldWhatItHad target b last.mirror

-- A rebuilt member that held the content where it lacked nothing holds it afterwards on each sector of the
-- array that it does not list.
abbrev pub RebuildsContent : Type 0
RebuildsContent = OfRebuildsInLives (λ target content told old new r.
    (HeldWhatItHad target content old → (e : Disk) → slice_get new.disks target ≡ Some e
    → (s : ℕ) → s < old.array.chunks.size → (IsBad r.rebuilt.now.bad (r.rebuilt.member.superblock.data_offset + s) → ⊥)
    → part e.content (512 * (r.rebuilt.member.superblock.data_offset + s)) 512 ≡ content s))

-- In a life that is told what its recovering members have, a rebuilt member holds the content on each sector
-- that it does not list, with nothing asked of the member.
abbrev pub RebuildsResumed : Type 0
RebuildsResumed =
    (before : List Disk) (m : MirrorView) (a : Content) → IsStart before m → Holds (geometry_of m.array) a (world_of m none_in_flight)
    → RecoveringHolds (geometry_of m.array) a (world_of m none_in_flight)
    → (es : List Event) (rest : List (List Event)) (final : MirrorView) (last : Moment) (b : Content) (life : MirrorLifeWith m a es rest final last b)
    → MirrorLifeJoins m a es rest final last b life
    → (target : ℕ) (told : Rebuilt) (new : MirrorView) → Rebuilds target told last.mirror new
    → (r : HasRebuilt target told last.mirror new) × ((e : Disk) → slice_get new.disks target ≡ Some e
    → (s : ℕ) → s < last.mirror.array.chunks.size → (IsBad r.rebuilt.now.bad (r.rebuilt.member.superblock.data_offset + s) → ⊥)
    → part e.content (512 * (r.rebuilt.member.superblock.data_offset + s)) 512 ≡ b s)
