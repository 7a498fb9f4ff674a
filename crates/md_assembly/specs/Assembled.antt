-- What array members make (analyze_sbs of the kernel's md driver; that on a tie a member has a say is this project's own).
use Rattle.std.specs.Prelude.{◌≡◌, ℕ, ◌≤◌, ◌==◌, ◌&&◌, Bool, false, not, List, map, slice_get, Some}
use Rattle.std.specs.List.{list_any}
use Rattle.md_super.specs.declared.superblock.Superblock.{Superblock}
use Rattle.md_members.specs.declared.info.MemberInfo.{MemberInfo}
use Rattle.md_assembly.specs.declared.state.MemberState.{MemberState}
use Rattle.md_assembly.specs.declared.assembling.Assembly.{Assembly}
use Rattle.md_assembly.specs.States.{is_active, is_in_sync, role_in, state_of, states_by}

abbrev pub superblocks : List MemberInfo → List Superblock
superblocks members = map (λ m. m.superblock) members

-- the superblock at the index has the greatest events, and is the first listed that has
pub record IsFirstFreshest (all : List Superblock) (i : ℕ) (v : Superblock) : Type 0 where
  pub listed : slice_get all i ≡ Some v
  pub greatest : (j : ℕ) (w : Superblock) → slice_get all j ≡ Some w → w.events ≤ v.events
  pub first : (j : ℕ) (w : Superblock) → slice_get all j ≡ Some w → w.events ≡ v.events → i ≤ j

-- By the first superblock the third's member is up to date in a role, which the second does not give it.
abbrev pub tells_otherwise : Superblock → Superblock → Superblock → Bool
tells_otherwise v w x = is_active (state_of v x) && not (role_in w x.dev_number == role_in v x.dev_number)

-- The second superblock is as new as the first, by which its member is in sync, and it tells otherwise of a member: the array went on
-- without that one, to the same count.
abbrev pub disputes : List Superblock → Superblock → Superblock → Bool
disputes all v w = (w.events == v.events && is_in_sync (state_of v w)) && list_any (tells_otherwise v w) all

abbrev pub is_disputed : List Superblock → Superblock → Bool
is_disputed all v = list_any (disputes all v) all

-- The superblock at the index decides. It has the greatest events, and is the first listed that has and that is not disputed, or
-- the first listed that has where each is.
pub record DecidesRoles (all : List Superblock) (i : ℕ) (v : Superblock) : Type 0 where
  pub listed : slice_get all i ≡ Some v
  pub greatest : (j : ℕ) (w : Superblock) → slice_get all j ≡ Some w → w.events ≤ v.events
  pub undisputed : (j : ℕ) (w : Superblock) → slice_get all j ≡ Some w → w.events ≡ v.events → is_disputed all w ≡ false → is_disputed all v ≡ false
  pub first : (j : ℕ) (w : Superblock) → slice_get all j ≡ Some w → w.events ≡ v.events → is_disputed all w ≡ is_disputed all v → i ≤ j

-- there is a freshest superblock, and the fact holds of the states by it
pub record ByFreshest (Fact : List MemberState → Type 0) (all : List Superblock) : Type 0 where
  pub index : ℕ
  pub superblock : Superblock
  pub freshest : DecidesRoles all index superblock
  pub holds : Fact (states_by superblock all)

-- the array that the members make
pub record IsAssembled (members : List MemberInfo) (assembly : Assembly) : Type 0 where
  pub superblock : Superblock
  pub freshest : DecidesRoles (superblocks members) assembly.freshest superblock
  pub states : assembly.states.items ≡ states_by superblock (superblocks members)
