-- Whatever comes of a session, it is a list of exchanges.
use Rattle.std.proofs.Common.{◌⊎◌, inl, inr, List, [], ◌∷◌, ◌++◌, Ok, Err, refl, subst}
use Rattle.md_state.specs.View.{MirrorView}
use Rattle.md_streams.specs.declared.sink.Sink.{Ghosts as Sinks}
use Rattle.md_refusals.specs.declared.fault.CommandFault.TheVariants.{InputFault, NoPieceMemory, OutputFault}
use Rattle.md_streams.specs.declared.source.Source.{Ghosts as Sources}
use Rattle.md_nbd.specs.declared.export.Export.{Export}
use Rattle.md_nbd.specs.declared.server.session.SessionEnd.{SessionEnd}
use Rattle.md_nbd.specs.declared.server.session.SessionEnd.TheVariants.{Gone, NoFlags, Unagreed, UnknownFlags}
use Rattle.md_nbd.specs.declared.server.session_fault.SessionFault.{SessionFault}
use Rattle.md_nbd.specs.declared.server.session_fault.SessionFault.TheVariants as stream
use Rattle.md_nbd.specs.Server.Exchanges.{AnswersInTurn, Exchange}
use Rattle.md_nbd.specs.Server.Sessions.{BreaksAtRequests, BreaksSession, EndsSession}
use Rattle.md_nbd.specs.Server.Transmission.{HasFailed}
use Rattle.md_serve_commands.specs.declared.writer.ArrayWriter.{ArrayWriter}
use Rattle.md_serve_commands.specs.Waiting.{writer_store}
use Rattle.md_serve_commands.specs.Writable.{writable_export}
use Rattle.md_serve_commands.specs.Sessions.{EndsTelling, HasExchanged, IsUnasked, PutsNoMore, SessionsAreExchanges, untold}

in_turn_on : (e : Export) (old mid new : ArrayWriter × MirrorView) (xs ys : List Exchange) → AnswersInTurn writer_store e old xs mid → AnswersInTurn writer_store e mid ys new
    → AnswersInTurn writer_store e old (xs ++ ys) new
in_turn_on e old mid new [] ys h on = subst (λ (p : ArrayWriter × MirrorView). AnswersInTurn writer_store e p ys new) h on
in_turn_on e old mid new (x ∷ xs) ys h on = (h.0, h.1, in_turn_on e h.0 mid new xs ys h.2 on)

module _ {I S : Type 0} (i : Sources I) (o : Sinks S) (first last : ArrayWriter) (old new : MirrorView) (from to : I) (was now : S) where
  abbrev e : Export
  e = writable_export old.array

  abbrev Comes : Type 0
  Comes = HasExchanged i o first last old new from to was now ⊎ IsUnasked i o first last old new from to was now

  -- what was put out up to there
  module _ (told : S) (no_more : PutsNoMore i o first last old new from to was now told) where
    ended : (end : SessionEnd) → EndsSession writer_store i o e (first, old) (last, new) from to was told end → Comes
    ended NoFlags h = inr (record { unchanged = h.1; before = inl (NoFlags, (told, no_more, h)) })
    ended UnknownFlags h = inr (record { unchanged = h.1; before = inl (UnknownFlags, (told, no_more, h)) })
    ended (Unagreed why) h = inr (record { unchanged = h.store; before = inl (Unagreed why, (told, no_more, h)) })
    ended (Gone why) h = inl (record {
      ready = h.ready;
      greeted = h.answered;
      agrees = h.agrees;
      told = h.transmits.exchanges;
      mid = (last, new);
      at = h.transmits.at;
      before = told;
      answered = h.transmits.answered;
      ends = inl (refl, no_more);
      all = in_turn_on e (first, old) (last, new) (last, new) h.transmits.exchanges [] h.transmits.answered.runs refl;
    })

  broken_off : (f : SessionFault) → BreaksAtRequests writer_store i o e (first, old) (last, new) from to was now f → Comes
  broken_off f h =
      let b = h.breaks in
      let rest : (ends : EndsTelling i o first last old new from to was now b.mid b.at b.before)
      × AnswersInTurn writer_store e b.mid (untold i o first last old new from to was now b.mid b.at b.before ends) (last, new) = by b.mid b.at b.before f b.failed in
      inl (record {
        ready = h.ready;
        greeted = h.answered;
        agrees = h.agrees;
        told = b.exchanges;
        mid = b.mid;
        at = b.at;
        before = b.before;
        answered = b.answered;
        ends = rest.0;
        all = in_turn_on e (first, old) b.mid (last, new) b.exchanges (untold i o first last old new from to was now b.mid b.at b.before rest.0) b.answered.runs rest.1;
      })
    where
      by : (mid : ArrayWriter × MirrorView) (at : I) (before : S) (why : SessionFault) → HasFailed writer_store i o e mid (last, new) at to before now why
          → (ends : EndsTelling i o first last old new from to was now mid at before)
          × AnswersInTurn writer_store e mid (untold i o first last old new from to was now mid at before ends) (last, new)
      by mid at before stream.Source x = (inl (x.1, inl x.2), x.1)
      by mid at before stream.NoMemory x = (inl (x.0, inl x.1), x.0)
      by mid at before stream.Sink x = (inr x, ((last, new), x.answers, refl))

  broken : (f : SessionFault) → BreaksSession writer_store i o e (first, old) (last, new) from to was now f → Comes
  broken f (inl h) = inr (record { unchanged = h.store; before = inr (f, inl h) })
  broken f (inr (inl h)) = inr (record { unchanged = h.store; before = inr (f, inr h) })
  broken f (inr (inr h)) = broken_off f h

module _ {I S : Type 0} (i : Sources I) (o : Sinks S) where
  pub sessions_exchange : SessionsAreExchanges i o
  sessions_exchange first last old new from to was now (Ok x) h = ended i o first last old new from to was now h.told (inr (inl h.flushed)) h.end h.session
  sessions_exchange first last old new from to was now (Err InputFault) (inl h) = ended i o first last old new from to was now now (inl refl) h.end h.session
  sessions_exchange first last old new from to was now (Err InputFault) (inr h) = broken i o first last old new from to was now _ h
  sessions_exchange first last old new from to was now (Err OutputFault) (inl h) = broken i o first last old new from to was now _ h
  sessions_exchange first last old new from to was now (Err OutputFault) (inr h) = ended i o first last old new from to was now h.told (inr (inr h.failed)) h.end h.session
  sessions_exchange first last old new from to was now (Err NoPieceMemory) h = broken i o first last old new from to was now _ h
  sessions_exchange first last old new from to was now (Err fault) h = absurd h
