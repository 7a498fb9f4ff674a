use Rattle.std.proofs.Common.{codes, inl}
use Rattle.md_commands.specs.Objects.{summary_shown}
use Rattle.md_messages.specs.Telling.{texts}
use Rattle.md_cli.proofs.Flushed.{shown_flushed}
use Rattle.md_cli.proofs.create.show_devices.show_created.Goals as goal

pub returns-in-Ok-clause-gives : goal.returns-in-Ok-clause-gives
returns-in-Ok-clause-gives g c = inl (record {
  mirror = c.in-Ok.mirror;
  opened = c.in-Ok.ensures.gives;
  devices = c.into_devices.ensures;
  shown = c.show_short-shown.ensures.shows;
})

pub returns-in-Ok-clause-flushed : goal.returns-in-Ok-clause-flushed
returns-in-Ok-clause-flushed g c = c.show_short-shown.ensures.flushed
