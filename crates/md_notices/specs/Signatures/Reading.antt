-- What a test of a device tells. An honest device gives its content; of another one nothing is said.
use Rattle.std.specs.Prelude.{◌≡◌, ◌⊎◌, ℕ, ◌+◌, ◌*◌, ◌<◌, ◌≤◌, Bool, true, false, List, length}
use Rattle.md_device.specs.declared.device.Device.{Ghosts}
use Rattle.md_device.specs.Device.{held}
use Rattle.md_device.specs.Crashes.{LeavesMore}
use Rattle.md_device.specs.Failing.{OnlyReadsFailed}

module _ {D : Type 0} (g : Ghosts D) where
  -- the device is as it was, but that more reads of it may have failed
  pub record IsOnlySearched (old new : D) : Type 0 where
    pub kept : g.content new ≡ g.content old
    pub honest : g.honest new ≡ g.honest old
    pub counted : g.failures old ≤ g.failures new
    pub grown : OnlyReadsFailed (g.faults old) (g.faults new)
    pub within : g.honest old ≡ true
        → LeavesMore (g.crashes old) (g.crashes new) (λ left. left ≡ g.content old)

  -- It is noted whether a call failed: what is noted is kept, and nothing else is.
  pub record Heeds (old new : D) (was is : Bool) : Type 0 where
    pub none : is ≡ false → (was ≡ false) × (g.failures new ≡ g.failures old)
    pub some : is ≡ true → (was ≡ true) ⊎ (g.honest old ≡ true → g.failures old < g.failures new)

  -- what the test finds is there, and where no call failed, it finds what is there
  pub record TellsWhetherThere (old new : D) (there found : Bool) : Type 0 where
    pub sound : g.honest old ≡ true → found ≡ true → there ≡ true
    pub whole : g.honest old ≡ true → g.failures new ≡ g.failures old → found ≡ there

  -- the sector that was read
  pub record GivesSector (old new : D) (sector : ℕ) (bytes : List ℕ) : Type 0 where
    pub within : 512 * sector + 512 ≤ length (g.content old)
    pub given : g.honest old ≡ true → bytes ≡ held (g.content old) sector 512

  -- there is no such sector, or the read of it failed
  abbrev pub Misses : D → D → ℕ → Type 0
  Misses old new sector =
      (length (g.content old) ≤ 512 * sector) ⊎ (g.honest old ≡ true → g.failures old < g.failures new)
