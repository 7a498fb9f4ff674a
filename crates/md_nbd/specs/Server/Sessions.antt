-- A whole session with a client: the greeting, the client's flags, its options, and its requests (the NBD protocol, "Fixed newstyle
-- negotiation").
use Rattle.std.specs.Prelude.{◌≡◌, ◌≢◌, ◌⊎◌, ℕ, ◌<◌, Bool, true, false, List, length, Option, Some, None, Result, MatchResult}
use Rattle.std.specs.Int.{w32, to_be_bytes}
use Rattle.std.proofs.Common.{inl, inr}
use Rattle.std.specs.Io.KnownBytes.{IsAtEnd}
use Rattle.md_streams.specs.declared.sink.Sink.{Ghosts as Sinks}
use Rattle.md_streams.specs.Putting.{PutsOut}
use Rattle.md_streams.specs.declared.source.Source.{Ghosts as Sources}
use Rattle.md_streams.specs.Source.{Gives}
use Rattle.md_nbd.specs.declared.export.Export.{Export}
use Rattle.md_nbd.specs.declared.server.session_fault.SessionFault.{SessionFault}
use Rattle.md_nbd.specs.declared.server.agreement.Haggled.{Haggled}
use Rattle.md_nbd.specs.declared.server.agreement.Haggled.TheVariants as haggled
use Rattle.md_nbd.specs.declared.server.session.SessionEnd.{SessionEnd}
use Rattle.md_nbd.specs.declared.server.session.SessionEnd.TheVariants.{NoFlags, UnknownFlags, Unagreed, Gone}
use Rattle.md_nbd.specs.declared.server.session_fault.SessionFault.TheVariants as fault
use Rattle.md_nbd.specs.declared.server.store.Store.{Ghosts as Stores}
use Rattle.md_nbd.specs.declared.server.transmission.Gone.{Gone as GoneWhy}
use Rattle.md_nbd.specs.declared.server.transmission.Gone.TheVariants as gone
use Rattle.md_nbd.specs.Handshake.{greeting_bytes, no_zeroes_of}
use Rattle.md_nbd.specs.Server.OptionsAnswered.{BreaksHaggling, Haggles}
use Rattle.md_nbd.specs.Server.Transmission.{BreaksOff, IsToldOfLast, Transmits}
use Rattle.md_nbd.specs.Server.Told.{IsToldOfRefusals}
use Rattle.md_nbd.specs.declared.server.refusal.RefusedRequest.{RefusedRequest}

-- whether the client went as the protocol has it, between two of its messages
abbrev pub is_orderly : SessionEnd → Bool
is_orderly (Unagreed haggled.Closed) = true
is_orderly (Unagreed haggled.Ended) = true
is_orderly (Gone gone.Disconnected) = true
is_orderly (Gone gone.Ended) = true
is_orderly end = false

-- ---- the greeting
module _ {I O : Type 0} (i : Sources I) (o : Sinks O) (from to : I) (was now : O) where
  -- The greeting was put out, and the client's flags came.
  pub record TakesFlags (meaning : Option Bool) : Type 0 where
    pub flags : ℕ
    pub meant : no_zeroes_of flags ≡ meaning
    pub gives : Gives i.remaining i.failed from to (to_be_bytes w32 flags)
    pub puts : PutsOut o was now greeting_bytes

  -- The greeting was put out, and the source ended before the client's flags were there.
  pub record TakesNoFlags : Type 0 where
    pub bytes : List ℕ
    pub few : length bytes < 4
    pub gives : Gives i.remaining i.failed from to bytes
    pub end : IsAtEnd (i.remaining to)
    pub puts : PutsOut o was now greeting_bytes

  abbrev pub EndsAtFlags : SessionEnd → Type 0
  EndsAtFlags NoFlags = TakesNoFlags
  EndsAtFlags UnknownFlags = TakesFlags None
  EndsAtFlags (Unagreed why) = ⊥
  EndsAtFlags (Gone why) = ⊥

  -- The client's flags say whether it wants no zeros, or the session ends.
  abbrev pub GreetsOrEnds : Result Bool SessionEnd → Type 0
  GreetsOrEnds result = MatchResult result (λ no_zeroes. TakesFlags (Some no_zeroes)) EndsAtFlags

  -- A stream has failed.
  abbrev pub FailsToGreet : SessionFault → Type 0
  FailsToGreet fault.Source = (i.failed to ≡ true) × PutsOut o was now greeting_bytes
  FailsToGreet fault.Sink = (to ≡ from) × (o.failed now ≡ true)
  FailsToGreet fault.NoMemory = ⊥

-- ---- the session
-- The client was greeted and got the export.
pub record GetsExport {I O : Type 0} (i : Sources I) (o : Sinks O) (e : Export) (from to : I) (was now : O) : Type 0 where
  pub no_zeroes : Bool
  pub flagged : I
  pub greeted : O
  pub greets : TakesFlags i o from flagged was greeted (Some no_zeroes)
  pub haggles : Haggles i o e no_zeroes flagged to greeted now haggled.Agreed

module _ {S M I O : Type 0} (s : Stores S M) (i : Sources I) (o : Sinks O) (e : Export) (old new : S × M)
    (from to : I) (was now : O) where
  -- The client was greeted, and did not get the export: nothing was asked of the store.
  pub record HagglesInVain (why : Haggled) : Type 0 where
    pub no_zeroes : Bool
    pub flagged : I
    pub greeted : O
    pub greets : TakesFlags i o from flagged was greeted (Some no_zeroes)
    pub haggles : Haggles i o e no_zeroes flagged to greeted now why
    pub vain : why ≢ haggled.Agreed
    pub store : new ≡ old

  -- It was, and then its requests were answered, until none came any more.
  pub record AnswersAll (why : GoneWhy) : Type 0 where
    pub ready : I
    pub answered : O
    pub agrees : GetsExport i o e from ready was answered
    pub transmits : Transmits s i o e old new ready to answered now why

  -- How a session goes that ends so.
  abbrev pub EndsSession : SessionEnd → Type 0
  EndsSession NoFlags = TakesNoFlags i o from to was now × (new ≡ old)
  EndsSession UnknownFlags = TakesFlags i o from to was now None × (new ≡ old)
  EndsSession (Unagreed why) = HagglesInVain why
  EndsSession (Gone why) = AnswersAll why

  -- A stream failed, or memory, while options were answered.
  pub record BreaksAtOptions (f : SessionFault) : Type 0 where
    pub no_zeroes : Bool
    pub flagged : I
    pub greeted : O
    pub greets : TakesFlags i o from flagged was greeted (Some no_zeroes)
    pub breaks : BreaksHaggling i o e no_zeroes flagged to greeted now f
    pub store : new ≡ old

  -- A stream failed while requests were answered.
  pub record BreaksAtRequests (f : SessionFault) : Type 0 where
    pub ready : I
    pub answered : O
    pub agrees : GetsExport i o e from ready was answered
    pub breaks : BreaksOff s i o e old new ready to answered now f

  pub record BreaksAtGreeting (f : SessionFault) : Type 0 where
    pub fails : FailsToGreet i o from to was now f
    pub store : new ≡ old

  -- How a session goes that a fault ends.
  abbrev pub BreaksSession : SessionFault → Type 0
  BreaksSession f = BreaksAtGreeting f ⊎ BreaksAtOptions f ⊎ BreaksAtRequests f

  -- ---- who looks on
  module _ (has_refused : RefusedRequest → Type 0) where
    -- The watch was told of each request that was refused.
    abbrev pub IsToldBeforeEnd : (end : SessionEnd) → EndsSession end → Type 0
    IsToldBeforeEnd NoFlags h = Unit {0}
    IsToldBeforeEnd UnknownFlags h = Unit {0}
    IsToldBeforeEnd (Unagreed why) h = Unit {0}
    IsToldBeforeEnd (Gone why) h = IsToldOfRefusals has_refused h.transmits.exchanges

    -- Also of one whose reply was not put out.
    abbrev pub IsToldBeforeFault : (f : SessionFault) → BreaksSession f → Type 0
    IsToldBeforeFault f (inl h) = Unit {0}
    IsToldBeforeFault f (inr (inl h)) = Unit {0}
    IsToldBeforeFault f (inr (inr h)) =
        IsToldOfRefusals has_refused h.breaks.exchanges
        × IsToldOfLast s i o e has_refused h.breaks.mid new h.breaks.at to h.breaks.before now f h.breaks.failed

    -- A session ends so, and the watch was told of what was refused in it.
    abbrev pub EndsToldSession : SessionEnd → Type 0
    EndsToldSession end = (h : EndsSession end) × IsToldBeforeEnd end h

    abbrev pub BreaksToldSession : SessionFault → Type 0
    BreaksToldSession f = (h : BreaksSession f) × IsToldBeforeFault f h
