-- What a mirror ends as, where a `&mut` to its devices is returned.
use Rattle.std.specs.Prelude.{map}
use Rattle.std.specs.Borrow.{Fml, Lends, MutBor, RattleType}
use Rattle.std.specs.contracts.alloc.Global as global
use Rattle.std.specs.contracts.impls.GlobalAllocator.TheImpl.{ghosts}
use Rattle.std.specs.contracts.vec.Vec as vec
use Rattle.md_device.specs.declared.device.Device.{Ghosts}
use Rattle.md_state.specs.View.{MirrorView, disk_of}
use Rattle.md_array.specs.contracts.mirror.Mirror.{the_row}

-- the list of a mirror's devices, as the logic holds it
abbrev pub devices_row : RattleType → RattleType
devices_row D = vec.the_row D global.the_row ghosts

-- once the borrow r ends, the mirror's devices are those behind it, and what it keeps in memory is as it was
abbrev pub LendsDevices : (D : RattleType) → Ghosts D.Denot → MutBor MirrorView → MutBor (devices_row D).Denot → Fml
LendsDevices D g mirror r = Lends (the_row D g) (devices_row D) mirror r (λ devices. record mirror.now { disks = map (disk_of g) devices.items })
