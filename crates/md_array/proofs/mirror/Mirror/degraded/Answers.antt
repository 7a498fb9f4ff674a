use Rattle.std.proofs.Common.{◌↔◌, ◌<◌, IsTrue, subst}
use Rattle.md_state.specs.View.{MirrorView}
use Rattle.md_array.specs.Consistency.{IsConsistent}
use Rattle.md_array.specs.InSyncCount.{count_in_sync}
use Rattle.md_array.proofs.General.InSyncCounted.{counted}
use Rattle.md_array.proofs.mirror.Mirror.degraded.Goals as goal

pub returns-clause-counted : goal.returns-clause-counted
returns-clause-counted g c sound =
    subst (λ (v : MirrorView). IsConsistent v → IsTrue c.is_degraded.result ↔ (count_in_sync v.array < v.array.shared.raid_disks)) c.self.view_is
    (λ (is : IsConsistent _). counted c.self.inside.array is.roles c.is_degraded.result c.is_degraded.ensures) sound
