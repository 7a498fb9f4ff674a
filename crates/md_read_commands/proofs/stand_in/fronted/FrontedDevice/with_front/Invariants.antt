use Rattle.std.proofs.Common.{◌≡◌, ◌*◌, ◌≤◌, length}
use Rattle.md_read_commands.proofs.stand_in.fronted.FrontedDevice.with_front.Given as goal

abbrev pub invariant-loop-sector : goal.invariant-loop-sector
invariant-loop-sector g l = record {
  few : length l.front.items ≡ 512 * l.sector;
  kept : g.D.Device.content l.inner ≡ g.D.Device.content l.fn.inner;
  honest : g.D.Device.honest l.inner ≡ g.D.Device.honest l.fn.inner;
  counted : g.D.Device.failures l.fn.inner ≤ g.D.Device.failures l.inner;
}
