-- A device of which the first bytes stand in memory.
use Rattle.std.specs.Prelude.{ℕ, List, [], ◌++◌, drop, length, take}
use Rattle.md_device.specs.declared.device.Device.{Ghosts}
use Rattle.md_state.specs.View.{Disk}
use Rattle.md_read_commands.specs.declared.stand_in.fronted.FrontedDevice.{FrontedDevice}

-- the content of a device of which these bytes stand in memory, over what is below them
unfoldable pub fronted : List ℕ → List ℕ → List ℕ
fronted front below = take (length below) front ++ drop (length front) below

-- a fronted device, as contracts see devices: what it holds in memory no crash leaves
abbrev pub fronted_disk : {D : Type 0} → Ghosts D → FrontedDevice D → Disk
fronted_disk g d = record {
  content = fronted d.front.items (g.content d.inner);
  honest = g.honest d.inner;
  faults = g.faults d.inner;
  failures = g.failures d.inner;
  crashes = [];
}

-- a device of which no crash leaves anything
abbrev pub in_memory : Disk → Disk
in_memory d = record d { crashes = [] }
