-- What `create` makes of its options.
use Rattle.std.specs.Prelude.{◌≡◌, ℕ, ◌-◌, ◌*◌, ◌^◌, ◌==◌, ◌||◌, Bool, List, [], ◌∷◌, ◌++◌, codes, length, nat_lt, replicate, Option, Some, None, is_some, if◌then◌else◌}
use Rattle.std.specs.Str.{bytes_eq}
use Rattle.clap.specs.Words.{Text}
use Rattle.md_format.specs.FirstFault.{check, first_fault}
use Rattle.md_create.specs.declared.params.CreateParams.{CreateParams}
use Rattle.md_refusals.specs.declared.option_fault.OptionFault.{OptionFault}
use Rattle.md_refusals.specs.declared.option_fault.OptionFault.TheVariants.{BadLevel, BadUuid, BadName, BadCount, BadChunk, BadSize}
use Rattle.md_words.specs.Asks.{Options}
use Rattle.md_cli.specs.SetUuid.{set_uuid_of}

-- the names of RAID 1
abbrev pub is_raid1 : Text → Bool
is_raid1 level =
    bytes_eq level (codes "1") || (bytes_eq level (codes "raid1") || bytes_eq level (codes "mirror"))

-- the name as a superblock has it: 32 bytes, filled with zeros
abbrev pub set_name_of : Text → Option (List ℕ)
set_name_of name = if nat_lt 32 (length name) then None else Some (name ++ replicate (32 - length name) 0)

-- KiB in bytes, which are to fit 32 bits
abbrev pub bytes_of_kib : ℕ → Option ℕ
bytes_of_kib kib = if nat_lt (1024 * kib) (2 ^ 32) then Some (1024 * kib) else None

-- KiB in sectors, which are to fit 64 bits
abbrev pub sectors_of_kib : Option ℕ → Option (Option ℕ)
sectors_of_kib None = Some None
sectors_of_kib (Some kib) = if nat_lt (2 * kib) (2 ^ 64) then Some (Some (2 * kib)) else None

-- why the options are refused with these random bytes and so many image words, looked for in this order
unfoldable pub create_option_fault : Options → Option (List ℕ) → ℕ → Option OptionFault
create_option_fault o random count =
    first_fault (
    check (is_raid1 o.level) BadLevel
    ∷ check (is_some (set_uuid_of o.uuid random)) BadUuid
    ∷ check (is_some (set_name_of o.name)) BadName
    ∷ check (count == o.raid_devices) BadCount
    ∷ check (is_some (bytes_of_kib o.bitmap_chunk)) BadChunk
    ∷ check (is_some (sectors_of_kib o.size)) BadSize
    ∷ [])

-- what the array is to be made from
pub record AreParamsOf (o : Options) (random : Option (List ℕ)) (p : CreateParams) : Type 0 where
  pub set_uuid : Some p.set_uuid ≡ set_uuid_of o.uuid random
  pub name : Some p.name ≡ set_name_of o.name
  pub ctime : p.ctime ≡ o.time
  pub size : Some p.size ≡ sectors_of_kib o.size
  pub chunk_bytes : Some p.chunk_bytes ≡ bytes_of_kib o.bitmap_chunk
  pub assume_clean : p.assume_clean ≡ o.assume_clean
  pub write_mostly : p.write_mostly ≡ o.write_mostly
