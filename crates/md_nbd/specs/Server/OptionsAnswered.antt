-- The options of a client, from the first to the last (the NBD protocol, "Option haggling").
use Rattle.std.specs.Prelude.{◌≡◌, ◌<◌, ℕ, ◌-◌, ◌^◌, Bool, true, List, length}
use Rattle.std.specs.List.{flat_map, AllByRecursion}
use Rattle.md_nbd.specs.declared.export.Export.{Export}
use Rattle.md_nbd.specs.declared.haggling.Next.{Next}
use Rattle.md_nbd.specs.declared.haggling.Next.TheVariants as after
use Rattle.md_nbd.specs.Haggling.{Asked, answer_to_asked, asked_bytes, next_after, next_after_asked, option_answer}
use Rattle.md_streams.specs.declared.source.Source.{Ghosts as Sources}
use Rattle.md_streams.specs.declared.sink.Sink.{Ghosts as Sinks}
use Rattle.md_nbd.specs.declared.server.agreement.Haggled.{Haggled}
use Rattle.md_nbd.specs.declared.server.agreement.Haggled.TheVariants as haggled
use Rattle.md_nbd.specs.declared.server.session_fault.SessionFault.{SessionFault}
use Rattle.md_nbd.specs.declared.server.session_fault.SessionFault.TheVariants as fault
use Rattle.md_streams.specs.Source.{Gives}
use Rattle.md_streams.specs.Putting.{PutsOut}
use Rattle.md_streams.specs.Sink.{Puts}
use Rattle.md_nbd.specs.Server.RequestsTaken.{EndsThere}
use Rattle.md_nbd.specs.Server.OptionsTaken.{EndsWithinOption, GivesNoOption, GivesTooLongOption}

-- ---- one answer
-- The answer to an option is put out, and what comes next is what the protocol says.
pub record PutsAnswer {O : Type 0} (o : Sinks O) (e : Export) (no_zeroes : Bool) (option : ℕ) (body : List ℕ) (was now : O) (next : Next) : Type 0 where
  pub puts : PutsOut o was now (option_answer e no_zeroes option body)
  pub comes : next ≡ next_after option body

-- The sink has failed, or nothing was put out for lack of memory.
abbrev pub FailsToAnswer : {O : Type 0} → Sinks O → O → O → SessionFault → Type 0
FailsToAnswer o was now fault.Source = ⊥
FailsToAnswer o was now fault.Sink = o.failed now ≡ true
FailsToAnswer o was now fault.NoMemory = now ≡ was

-- ---- all answers
-- The source gave these options, the sink took the answers to them in this order and no other byte and holds none back, and another may
-- come after each.
pub record HasHaggled {I O : Type 0} (i : Sources I) (o : Sinks O) (e : Export) (no_zeroes : Bool) (asked : List Asked) (from to : I) (was now : O) : Type 0 where
  pub gives : Gives i.remaining i.failed from to (flat_map asked_bytes asked)
  pub puts : Puts o.contents o.failed was now (flat_map (answer_to_asked e no_zeroes) asked)
  pub flushed : 0 < length asked → o.is_flushed now
  pub goes_on : AllByRecursion (λ a. next_after_asked a ≡ after.Haggling) asked

-- One more option came and was answered, after which something else comes.
pub record AnswersLast {I O : Type 0} (i : Sources I) (o : Sinks O) (e : Export) (no_zeroes : Bool) (next : Next) (at to : I) (before now : O) : Type 0 where
  pub last : Asked
  pub gives : Gives i.remaining i.failed at to (asked_bytes last)
  pub puts : PutsOut o before now (answer_to_asked e no_zeroes last)
  pub comes : next_after_asked last ≡ next

-- Why no option is answered any more, after so many. Where the client or the server goes for another reason than an option, no
-- further byte was put out.
abbrev pub EndsHaggling : {I O : Type 0} → Sources I → Sinks O → Export → Bool → ℕ → I → I → O → O → Haggled → Type 0
EndsHaggling i o e z count at to before now haggled.Agreed = AnswersLast i o e z after.Transmission at to before now
EndsHaggling i o e z count at to before now haggled.Closed = AnswersLast i o e z after.Closed at to before now
EndsHaggling i o e z count at to before now haggled.Ended = EndsThere i at to × (now ≡ before)
EndsHaggling i o e z count at to before now haggled.Cut = EndsWithinOption i at to × (now ≡ before)
EndsHaggling i o e z count at to before now haggled.NoOption = GivesNoOption i at to × (now ≡ before)
EndsHaggling i o e z count at to before now haggled.TooLong = GivesTooLongOption i at to × (now ≡ before)
EndsHaggling i o e z count at to before now haggled.Exhausted = (count ≡ 2 ^ 64 - 1) × (to ≡ at) × (now ≡ before)

-- Options came and were answered, and then none came any more, for this reason.
pub record Haggles {I O : Type 0} (i : Sources I) (o : Sinks O) (e : Export) (no_zeroes : Bool) (from to : I) (was now : O) (why : Haggled) : Type 0 where
  pub asked : List Asked
  pub at : I
  pub before : O
  pub answered : HasHaggled i o e no_zeroes asked from at was before
  pub ends : EndsHaggling i o e no_zeroes (length asked) at to before now why

-- An option came that was not answered, or not surely.
pub record IsUnanswered {I O : Type 0} (i : Sources I) (o : Sinks O) (at to : I) (before now : O) (why : SessionFault) : Type 0 where
  pub last : Asked
  pub gives : Gives i.remaining i.failed at to (asked_bytes last)
  pub fails : FailsToAnswer o before now why

-- The stream that is named has failed, or there was no memory for an answer.
abbrev pub FailsHaggling : {I O : Type 0} → Sources I → Sinks O → I → I → O → O → SessionFault → Type 0
FailsHaggling i o at to before now fault.Source = (i.failed to ≡ true) × (now ≡ before)
FailsHaggling i o at to before now fault.Sink = IsUnanswered i o at to before now fault.Sink
FailsHaggling i o at to before now fault.NoMemory = IsUnanswered i o at to before now fault.NoMemory

-- Options came and were answered, and then a stream failed, or memory.
pub record BreaksHaggling {I O : Type 0} (i : Sources I) (o : Sinks O) (e : Export) (no_zeroes : Bool) (from to : I) (was now : O) (why : SessionFault) : Type 0 where
  pub asked : List Asked
  pub at : I
  pub before : O
  pub answered : HasHaggled i o e no_zeroes asked from at was before
  pub fails : FailsHaggling i o at to before now why
