-- What a new array demands of its devices (this project's own limits). All sizes are in sectors.
use Rattle.std.specs.Prelude.{◌≡◌, ℕ, ◌+◌, ◌<◌, ◌≤◌, List, length, min, ⊤, Option, Some, None, slice_get}
use Rattle.md_bitmap.specs.Sound.{IsSoundHeader}
use Rattle.md_create.specs.declared.params.CreateParams.{CreateParams}

-- the device for a role is there, and has so many sectors
abbrev pub HasDevice : List (Option ℕ) → ℕ → ℕ → Type 0
HasDevice sizes role sectors = slice_get sizes role ≡ Some (Some sectors)

-- the lesser of two sizes, or the one that there is
abbrev pub lesser_of : Option ℕ → Option ℕ → Option ℕ
lesser_of None b = b
lesser_of (Some a) None = Some a
lesser_of (Some a) (Some b) = Some (min a b)

-- the size of the least device
pub record IsLeastDevice (sizes : List (Option ℕ)) (sectors : ℕ) : Type 0 where
  pub role : ℕ
  pub reached : HasDevice sizes role sectors
  pub least : (other n : ℕ) → HasDevice sizes other n → sectors ≤ n

-- the array's size: the one that is asked for, or all that the least device has after its first 2048 sectors
abbrev pub IsSize : Option ℕ → List (Option ℕ) → ℕ → Type 0
IsSize (Some asked) sizes size = size ≡ asked
IsSize None sizes size = IsLeastDevice sizes (2048 + size)

-- the role that is to be write-mostly, if one is, has a device
abbrev pub IsWriteMostlyRole : Option ℕ → List (Option ℕ) → Type 0
IsWriteMostlyRole None sizes = ⊤
IsWriteMostlyRole (Some role) sizes = (n : ℕ) × HasDevice sizes role n

-- an array of this size can be made of these devices
pub record IsGeometry (params : CreateParams) (sizes : List (Option ℕ)) (size : ℕ) : Type 0 where
  pub some_roles : 0 < length sizes
  pub few_roles : length sizes ≤ 32
  pub one_there : (role : ℕ) × (n : ℕ) × HasDevice sizes role n
  pub size_is : IsSize params.size sizes size
  pub some_size : 0 < size
  pub room : (role n : ℕ) → HasDevice sizes role n → 2048 + size ≤ n
  pub chunks : IsSoundHeader size params.chunk_bytes
  pub write_mostly : IsWriteMostlyRole params.write_mostly sizes
