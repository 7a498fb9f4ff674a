-- An opened array, and a device beside it.
use Rattle.md_device.specs.declared.device.Device.{Ghosts}
use Rattle.std.specs.Prelude.{ℕ, ◌||◌, Bool, List, [], ◌∷◌, ◌++◌, length, Option, Some, None, is_some, option_map, unwrap_or}
use Rattle.std.specs.List.{insert}
use Rattle.md_state.specs.View.{Disk, MirrorView, disk_of}
use Rattle.md_words.specs.Asks.{Ask, device_to_add, leaving_of}
use Rattle.md_cli.specs.declared.open.opened.Opened.{Opened}

-- The array, and a device that is none of its members': before a command one that is to join, and after it one that did not, or
-- that of a member which left.
pub record OpenedView : Type 0 where
  pub mirror : MirrorView
  pub beside : Option Disk

abbrev pub opened_view : {D : Type 0} → Ghosts D → Opened D → OpenedView
opened_view g o = record { mirror = o.mirror; beside = option_map (disk_of g) o.beside }

-- how many devices it is
abbrev pub count : {X : Type 0} → Option X → ℕ
count None = 0
count (Some x) = 1

-- whether a device may leave or join
abbrev pub moves_device : Ask → Bool
moves_device ask = is_some (device_to_add ask) || is_some (leaving_of ask)

-- the devices of the members, and after them the one that is to join
abbrev pub with_last : {X : Type 0} → List X → Option X → List X
with_last xs None = xs
with_last xs (Some x) = xs ++ x ∷ []

-- the place of the one beside the array, which has so many members: that of the member which left, or else the last
abbrev pub beside_place : Ask → ℕ → ℕ
beside_place ask last = unwrap_or (leaving_of ask) last

-- all devices, in the order of their images
abbrev pub with_beside : {X : Type 0} → Ask → List X → Option X → List X
with_beside ask xs None = xs
with_beside ask xs (Some x) = insert xs (beside_place ask (length xs)) x
