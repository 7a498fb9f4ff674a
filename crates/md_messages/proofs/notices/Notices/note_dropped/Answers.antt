use Rattle.std.proofs.Common.{◌≡◌, ◌∙◌, ℕ, Bool, List, Option, ap}
use Rattle.md_notices.specs.Kernel.{why_unready}
use Rattle.md_notices.specs.ListedSectors.{all_longer_lists}
use Rattle.md_notices.specs.LostSectors.{lost_in}
use Rattle.md_notices.specs.Noticing.{all_dropped, in_sync_count}
use Rattle.md_notices.specs.declared.kernel.Unready.{Unready}
use Rattle.md_notices.specs.declared.lost_sectors.Lost.{Lost}
use Rattle.md_super.specs.declared.superblock.Superblock.{Superblock}
use Rattle.md_words.specs.Asks.{ask_of}
use Rattle.md_messages.specs.Noticed.{asked_of}
use Rattle.md_messages.proofs.notices.Notices.note_dropped.Goals as goal

pub returns : goal.returns
returns g c =
    let n = c.args.self.now in
    let members = c.args.mirror.now.array.members in
    let asked = asked_of (ask_of c.args.command) c.args.has_left in
    let all = all_dropped n.states members asked in
    let grown = all_longer_lists n.listed members asked in
    let lost = lost_in c.args.mirror.now.array in
    let why = why_unready c.args.mirror.now.array in
    let count = in_sync_count members in
    let dropped : c.members_dropped-self.result ≡ all = c.members_dropped-self.ensures ∙ ap (all_dropped n.states members) c.asked_of-asked.ensures in
    let more : c.members_listing_more-self.result ≡ grown = c.members_listing_more-self.ensures ∙ ap (all_longer_lists n.listed members) c.asked_of-asked.ensures in
    ap (λ (xs : List Bool). record n { dropped = xs; more_listed = c.members_listing_more-self.result; lost = c.find_lost-self.result; unready = c.unready_for_kernel-self.result; in_sync = c.in_sync_count-self.result; raid_disks = c.shared.result.now.raid_disks }) dropped
    ∙ ap (λ (xs : List (Option ℕ)). record n { dropped = all; more_listed = xs; lost = c.find_lost-self.result; unready = c.unready_for_kernel-self.result; in_sync = c.in_sync_count-self.result; raid_disks = c.shared.result.now.raid_disks }) more
    ∙ ap (λ (sectors : Lost). record n { dropped = all; more_listed = grown; lost = sectors; unready = c.unready_for_kernel-self.result; in_sync = c.in_sync_count-self.result; raid_disks = c.shared.result.now.raid_disks }) c.find_lost-self.ensures
    ∙ ap (λ (reason : Option Unready). record n { dropped = all; more_listed = grown; lost = lost; unready = reason; in_sync = c.in_sync_count-self.result; raid_disks = c.shared.result.now.raid_disks }) c.unready_for_kernel-self.ensures
    ∙ ap (λ (found : ℕ). record n { dropped = all; more_listed = grown; lost = lost; unready = why; in_sync = found; raid_disks = c.shared.result.now.raid_disks }) c.in_sync_count-self.ensures
    ∙ ap (λ (v : Superblock). record n { dropped = all; more_listed = grown; lost = lost; unready = why; in_sync = count; raid_disks = v.raid_disks }) c.shared.ensures
