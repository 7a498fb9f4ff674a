use Rattle.std.proofs.Common.{◌≡◌, ◌≢◌, true, false, rules}
use Rattle.md_members.specs.declared.fault.MemberFault.TheVariants.{NoMemory, ReadFault}
use Rattle.md_notices.specs.Signatures.Reading.{IsOnlySearched}
use Rattle.md_state.specs.View.{disk_of, of_disks}
use Rattle.md_members.proofs.Failed.{reads_alone}
use Rattle.md_notices.proofs.HeldLemmas.Seen.{seen_then}
use Rattle.md_notices.proofs.held.held.held_on.Goals as goal

pub returns-else-eq-clause-holds : goal.returns-else-eq-clause-holds
returns-else-eq-clause-holds g c =
    let disk = disk_of g.D.Device in
    let read = c.in-Err.ensures in
    let first : IsOnlySearched of_disks (disk c.args.device.now) (disk c.read_super.new.device) = record { kept = read.kept; honest = read.honest; counted = read.counted; grown = reads_alone _ _ 8 4096 read.grown; within = read.within } in
    let other : c.in-Err.fault ≢ NoMemory = search rules in
    let yes : c.eq-has_failed.result ≡ true → c.in-Err.fault ≡ ReadFault = search rules in
    let no : c.eq-has_failed.result ≡ false → c.in-Err.fault ≢ ReadFault = search rules in
    seen_then (disk c.args.device.now) (disk c.read_super.new.device) (disk c.signature_on.new.device) c.in-Err.fault first c.signature_on.ensures.only_read other read.reads c.eq-has_failed.result yes no c.signature_on.result c.signature_on.ensures.holds
