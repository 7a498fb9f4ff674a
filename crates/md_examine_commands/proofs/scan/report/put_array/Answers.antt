use Rattle.std.proofs.Common.{ℕ, List, subst}
use Rattle.md_super.specs.declared.superblock.Superblock.{Superblock}
use Rattle.md_streams.specs.Sink.{Puts}
use Rattle.md_streams.proofs.Puts.{puts_then}
use Rattle.md_examine_commands.specs.ScanText.{array_text, decided}
use Rattle.md_examine_commands.proofs.scan.report.put_array.Goals as goal

pub returns : goal.returns
unfolding array_text
returns g c =
    let s = g.S.Sink in
    let Shows : Superblock → Type 0 = λ v. Puts s.contents s.failed c.args.out.now c.put_comments.new.out (decided v c.args.first.now c.args.rest.now c.args.all.now) in
    subst Shows c.decider-v.ensures
    (puts_then s.contents s.failed (puts_then s.contents s.failed (puts_then s.contents s.failed c.in_ok-put_array_line.ensures c.in_ok-put_spares.ensures) c.in_ok-put_devices_line.ensures) c.in_ok-put_comments.ensures)
