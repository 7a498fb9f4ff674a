-- The header of a bitmap (`struct bitmap_super_s` of md-bitmap.h), 256 bytes.
use Rattle.std.specs.Prelude.{◌≡◌, ℕ, ◌<◌, ◌^◌, List, ◌++◌, replicate}
use Rattle.byteorder.specs.Endian.{little_bytes}
use Rattle.md_format.specs.Fields.{number_at, bytes_at}
use Rattle.md_bitmap.specs.declared.header.BitmapHeader.{BitmapHeader}

-- the bytes spell the header: an equation for each field
pub record IsHeader (bytes : List ℕ) (v : BitmapHeader) : Type 0 where
  pub magic : number_at 4 0 bytes ≡ 0x6d746962
  pub version : number_at 4 4 bytes ≡ 4
  pub uuid : v.uuid ≡ bytes_at 16 8 bytes
  pub events : v.events ≡ number_at 8 24 bytes
  pub events_cleared : v.events_cleared ≡ number_at 8 32 bytes
  pub sync_size : v.sync_size ≡ number_at 8 40 bytes
  pub state : v.state ≡ number_at 4 48 bytes
  pub chunksize : v.chunksize ≡ number_at 4 52 bytes
  pub daemon_sleep : v.daemon_sleep ≡ number_at 4 56 bytes
  pub write_behind : v.write_behind ≡ number_at 4 60 bytes
  pub sectors_reserved : v.sectors_reserved ≡ number_at 4 64 bytes
  pub nodes : v.nodes ≡ number_at 4 68 bytes
  pub cluster_name : v.cluster_name ≡ bytes_at 64 72 bytes

-- bytes 0 to 7
unfoldable pub format_bytes : List ℕ
format_bytes = little_bytes 4 0x6d746962 ++ little_bytes 4 4

-- bytes 24 to 47
unfoldable pub count_bytes : BitmapHeader → List ℕ
count_bytes v = little_bytes 8 v.events ++ little_bytes 8 v.events_cleared ++ little_bytes 8 v.sync_size

-- bytes 48 to 71
unfoldable pub setting_bytes : BitmapHeader → List ℕ
setting_bytes v =
    little_bytes 4 v.state ++ little_bytes 4 v.chunksize ++ little_bytes 4 v.daemon_sleep
    ++ little_bytes 4 v.write_behind ++ little_bytes 4 v.sectors_reserved ++ little_bytes 4 v.nodes

-- the bytes that are written for a header: its fields, and zeros
unfoldable pub header_bytes : BitmapHeader → List ℕ
header_bytes v = format_bytes ++ v.uuid ++ count_bytes v ++ setting_bytes v ++ v.cluster_name ++ replicate 120 0

-- the numbers fit their fields
pub record CountsFit (v : BitmapHeader) : Type 0 where
  pub events : v.events < 2 ^ 64
  pub events_cleared : v.events_cleared < 2 ^ 64
  pub sync_size : v.sync_size < 2 ^ 64

pub record SettingsFit (v : BitmapHeader) : Type 0 where
  pub state : v.state < 2 ^ 32
  pub chunksize : v.chunksize < 2 ^ 32
  pub daemon_sleep : v.daemon_sleep < 2 ^ 32
  pub write_behind : v.write_behind < 2 ^ 32
  pub sectors_reserved : v.sectors_reserved < 2 ^ 32
  pub nodes : v.nodes < 2 ^ 32
