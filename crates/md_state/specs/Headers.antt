-- The header that is stored with marks.
use Rattle.std.specs.Prelude.{◌≡◌, length}
use Rattle.md_bitmap.specs.declared.header.BitmapHeader.{BitmapHeader}
use Rattle.md_bitmap.specs.Header.{CountsFit, SettingsFit}
use Rattle.md_kept_members.specs.View.{MemberView}
use Rattle.md_state.specs.View.{ArrayView}

-- the header that is stored with a member's marks: the array's uuid, size, events and events_cleared, state 0, the rest its
-- own; its numbers fit their fields
pub record IsHeaderFor (a : ArrayView) (m : MemberView) (h : BitmapHeader) : Type 0 where
  pub uuid : h.uuid ≡ a.shared.set_uuid
  pub events : h.events ≡ a.shared.events
  pub events_cleared : h.events_cleared ≡ a.events_cleared
  pub sync_size : h.sync_size ≡ a.shared.size
  pub state : h.state ≡ 0
  pub chunksize : h.chunksize ≡ m.header.chunksize
  pub daemon_sleep : h.daemon_sleep ≡ m.header.daemon_sleep
  pub write_behind : h.write_behind ≡ m.header.write_behind
  pub sectors_reserved : h.sectors_reserved ≡ m.header.sectors_reserved
  pub nodes : h.nodes ≡ m.header.nodes
  pub cluster_name : h.cluster_name ≡ m.header.cluster_name
  pub uuid_long : length h.uuid ≡ 16
  pub name_long : length h.cluster_name ≡ 64
  pub counts_fit : CountsFit h
  pub settings_fit : SettingsFit h
