-- The input and the output of a run, who is asked, and what it noticed.
use Rattle.std.specs.Prelude.{◌≡◌, ℕ, Bool, Option}
use Rattle.md_streams.specs.declared.asker.Asker.{Ghosts as AskerGhosts}
use Rattle.md_streams.specs.declared.messages.Audience.{Audience}
use Rattle.md_streams.specs.declared.messages.Messages.{Messages}
use Rattle.md_messages.specs.declared.notices.Notices.{Notices}
use Rattle.md_streams.specs.declared.gaps.Gaps.{Gaps}
use Rattle.md_read_commands.specs.declared.stand_in.put.StandIn.{StandIn}
use Rattle.md_cli.specs.declared.session.Session.{Session}

pub record Streams (R S A : Type 0) : Type 0 where
  pub input : R
  pub output : S
  pub gaps : Option Gaps  -- the sectors for which zeros were put out, or what another member has; before a read those that stand already
  pub mismatched : Option ℕ  -- in how many chunks a check found members to differ
  pub asker : A  -- who is asked, and was
  pub all_out : Bool  -- whether all sectors of a read that was to put out zeros are put out
  pub stand_in : Option StandIn  -- the image that counts as a device of the array whose superblock can't be read
  pub stands : ℕ  -- how many of the sectors that a read is to put out stand already, from the first on

abbrev pub streams_of : {T R S W A : Type 0} → Session T R S W A → Streams R S A
streams_of session = record {
  input = session.input;
  output = session.out;
  gaps = session.gaps;
  mismatched = session.mismatched;
  asker = session.asker;
  all_out = session.is_all_out;
  stand_in = session.stand_in;
  stands = session.stands;
}

-- The streams of a command that is done, and what was noticed of the array beside them.
pub record Told (R S A : Type 0) : Type 0 where
  pub streams : Streams R S A
  pub notices : Notices

abbrev pub told_of : {T R S W A : Type 0} → Session T R S W A → Notices → Told R S A
told_of session notices = record { streams = streams_of session; notices = notices }

-- Nothing but the output is another: nothing was read from the input, nobody was asked, and nothing was noticed.
abbrev pub OnlyPutsOut : {R S A : Type 0} → Told R S A → Told R S A → Type 0
OnlyPutsOut old new = new ≡ record old { streams = record old.streams { output = new.streams.output } }

-- who reads standard error, where so much is told: what a command is asked of was shown there before, where the session's asker says so
abbrev pub audience_of : {T R S W A : Type 0} → AskerGhosts A → Session T R S W A → Messages → Audience
audience_of a session messages = record { messages = messages; was_shown = a.told_first session.asker }
