use Rattle.std.proofs.Common.{◌≡◌, ◌∙◌, true, sym}
use Rattle.md_metadata.specs.Stopping.{makes_clean}
use Rattle.md_metadata.proofs.Stopped.{clean_made}
use Rattle.md_metadata.proofs.whole_stop.clean_if_active.Goals as goal

pub returns-then-makes_clean : goal.returns-then-makes_clean
returns-then-makes_clean g c =
    let e = c.make_clean-made.ensures in
    let old = c.args.mirror.now in
    let makes : makes_clean old.array ≡ true = sym c.makes_clean.ensures ∙ c.if-makes_clean.true in
    clean_made old c.make_clean-made.new.self c.requires.idle makes (c.requires.unspent makes) c.make_clean-made.result e.gives e.event e.sound e.pending
