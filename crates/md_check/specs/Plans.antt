-- What a member's worker has to know of it, made before its device is lent.
use Rattle.std.specs.Prelude.{◌≡◌, ℕ, ◌+◌, ◌<◌, ◌↔◌, true, is_some, List, length, slice_get, Some}
use Rattle.md_badblocks.specs.Runs.{IsBad}
use Rattle.md_assembly.specs.States.{is_in_sync, is_in_sync_as}
use Rattle.md_kept_members.specs.View.{MemberView}
use Rattle.md_state.specs.Members.{IsMember}
use Rattle.md_state.specs.View.{ArrayView}
use Rattle.md_check.specs.declared.reader.Reader.{Reader}
use Rattle.md_check.specs.declared.order.Order.{Order}

-- the order for a member's worker, with room for so many bytes
pub record IsOrderFor (m : MemberView) (room : ℕ) (order : Order) : Type 0 where
  pub reads : is_some order.role ≡ is_in_sync m.state
  pub role : (role : ℕ) → is_in_sync_as role m.state ≡ true → role < 256 → order.role ≡ Some role
  pub offset : order.offset ≡ m.superblock.data_offset
  pub listed : (s : ℕ) → IsBad order.listed s ↔ IsBad m.bad (m.superblock.data_offset + s)
  pub room_is : length order.bytes.items ≡ room

-- one for each member, in their order
pub record AreOrders (a : ArrayView) (room : ℕ) (orders : List Order) : Type 0 where
  pub as_many : length orders ≡ length a.members
  pub each : (k : ℕ) (m : MemberView) (order : Order) → IsMember a k m → slice_get orders k ≡ Some order → IsOrderFor m room order

-- the reader of a device whose worker has this order
pub record IsReaderOf {D : Type 0} (order : Order) (device : D) (reader : Reader D) : Type 0 where
  pub device_is : reader.device ≡ device
  pub role : reader.role ≡ order.role
  pub offset : reader.offset ≡ order.offset
  pub listed : reader.listed ≡ order.listed
  pub bytes : reader.bytes ≡ order.bytes
