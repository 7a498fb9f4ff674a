-- Room for sectors that are not given.
use Rattle.std.proofs.Common.{◌≡◌, ◌∙◌, ℕ, ◌<◌, ◌≤◌, arith}
use Rattle.md_read_commands.specs.declared.holes.Holes.{Holes}
use Rattle.md_read_commands.specs.Holes.{HasFewMore, HasRoomForMore, HasSameRoom, capacity_of}

pub same_room_then : (old mid new : Holes) → HasSameRoom old mid → HasSameRoom mid new → HasSameRoom old new
same_room_then old mid new first second = (second.0 ∙ first.0, second.1 ∙ first.1)

pub same_capacity : (old new : Holes) → HasSameRoom old new → capacity_of new ≡ capacity_of old
same_capacity old new same = let one = same.0 in let other = same.1 in omega arith

-- of an empty one
pub all_room : (was now : Holes) (sectors : ℕ) → HasRoomForMore (capacity_of was) now → sectors ≤ capacity_of was → HasRoomForMore sectors now
all_room was now sectors empty room = let one = empty.0 in let other = empty.1 in (omega arith, omega arith)

-- fewer were added than there are sectors
pub room_left : (old now : Holes) (done sectors : ℕ) → done < sectors → HasFewMore done old now → HasSameRoom old now → HasRoomForMore sectors old → HasRoomForMore 1 now
room_left old now done sectors before few same room =
    let few_missing = few.0 in
    let few_others = few.1 in
    let one = same.0 in
    let other = same.1 in
    let room_missing = room.0 in
    let room_others = room.1 in
    (omega arith, omega arith)

pub few_more : (old mid new : Holes) (done more : ℕ) → done < more → HasFewMore done old mid → HasFewMore 1 mid new → HasFewMore more old new
few_more old mid new done more before first second =
    let a = first.0 in
    let b = first.1 in
    let c = second.0 in
    let d = second.1 in
    (omega arith, omega arith)
