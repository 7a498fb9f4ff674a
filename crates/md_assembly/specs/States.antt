-- The state of a member by the freshest superblock and its own (super_1_validate of the kernel's md driver, without
-- replacement and journal; that a member one event behind is up to date is the kernel's rule too; that its own superblock
-- has to give it the same role is this project's own).
use Rattle.std.specs.Prelude.{ℕ, ◌+◌, ◌==◌, nat_le, Bool, true, false, not, bit_and, slice_index_or, List, map, Option, Some, None, if◌then◌else◌}
use Rattle.md_super.specs.declared.superblock.Superblock.{Superblock}
use Rattle.md_assembly.specs.declared.state.MemberState.{MemberState}
use Rattle.md_assembly.specs.declared.state.MemberState.TheVariants.{InSync, Recovering, Stale, Spare, Faulty}

-- the role of a device by a superblock, 0xffff where it has none for the number
abbrev pub role_in : Superblock → ℕ → ℕ
role_in v dev_number = slice_index_or v.roles dev_number 0xffff

-- the events are the freshest's or one less
abbrev pub is_up_to_date : Superblock → Superblock → Bool
is_up_to_date freshest own = nat_le freshest.events (own.events + 1)

-- The member's recovery is not done: its feature map has RECOVERY_OFFSET.
abbrev pub has_recovery_offset : Superblock → Bool
has_recovery_offset own = not (bit_and own.feature_map 2 == 0)

-- The member's own superblock gives it the role. It gives another where each half of an array was completed with a new disk of
-- the same number, or where a crash came between the superblocks that tell of a new role.
abbrev pub bears : Superblock → ℕ → Bool
bears own role = role_in own own.dev_number == role

-- the state of a member whose role this is: 0xfffe is that of a failed device
abbrev pub state_by_role : Superblock → Superblock → ℕ → MemberState
state_by_role freshest own role =
    if role == 0xfffe then Faulty else
    if nat_le freshest.raid_disks role then Spare else
    if not (is_up_to_date freshest own) then Stale role else
    if not (bears own role) then Stale role else
    if has_recovery_offset own then Recovering role else InSync role

unfoldable pub state_of : Superblock → Superblock → MemberState
state_of freshest own = state_by_role freshest own (role_in freshest own.dev_number)

-- the states of all members
abbrev pub states_by : Superblock → List Superblock → List MemberState
states_by freshest all = map (state_of freshest) all

abbrev pub role_of : MemberState → Option ℕ
role_of (InSync role) = Some role
role_of (Recovering role) = Some role
role_of (Stale role) = Some role
role_of Spare = None
role_of Faulty = None

abbrev pub is_in_sync : MemberState → Bool
is_in_sync (InSync role) = true
is_in_sync (Recovering role) = false
is_in_sync (Stale role) = false
is_in_sync Spare = false
is_in_sync Faulty = false

-- the member's superblock is kept up to date
abbrev pub is_recorded : MemberState → Bool
is_recorded (InSync role) = true
is_recorded (Recovering role) = true
is_recorded (Stale role) = false
is_recorded Spare = true
is_recorded Faulty = false

-- the member is in sync in this role
abbrev pub is_in_sync_as : ℕ → MemberState → Bool
is_in_sync_as wanted (InSync role) = role == wanted
is_in_sync_as wanted _ = false

-- the member is in sync or recovering, so that its role is not free
abbrev pub is_active : MemberState → Bool
is_active (InSync role) = true
is_active (Recovering role) = true
is_active (Stale role) = false
is_active Spare = false
is_active Faulty = false

abbrev pub is_recovering : MemberState → Bool
is_recovering (InSync role) = false
is_recovering (Recovering role) = true
is_recovering (Stale role) = false
is_recovering Spare = false
is_recovering Faulty = false

abbrev pub is_spare : MemberState → Bool
is_spare (InSync role) = false
is_spare (Recovering role) = false
is_spare (Stale role) = false
is_spare Spare = true
is_spare Faulty = false

-- the member has a role, but is more than one event behind, or its own superblock gives it another
abbrev pub is_stale : MemberState → Bool
is_stale (InSync role) = false
is_stale (Recovering role) = false
is_stale (Stale role) = true
is_stale Spare = false
is_stale Faulty = false

-- the member is in sync or recovering in this role, so that no other may have it
abbrev pub takes_role : ℕ → MemberState → Bool
takes_role wanted (InSync role) = role == wanted
takes_role wanted (Recovering role) = role == wanted
takes_role wanted (Stale role) = false
takes_role wanted Spare = false
takes_role wanted Faulty = false
