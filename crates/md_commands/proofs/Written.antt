-- The parts of a write, and its end.
use Rattle.std.proofs.Common.{◌≡◌, ◌*◌, ◌%◌, ◌<◌, ◌≤◌, inl, inr, List, ℕ, Option, Some, None, refl, sym, subst, arith}
use Rattle.std.specs.Prelude.{IfOk, MatchResult, Result, Ok, Err}
use Rattle.md_streams.specs.declared.sink.Sink.{Ghosts as SinkGhosts}
use Rattle.md_state.specs.View.{MirrorView}
use Rattle.md_report.specs.AsText.WholeArray.SummaryReport.{summary_text}
use Rattle.md_refusals.specs.declared.fault.CommandFault.{CommandFault}
use Rattle.md_refusals.specs.declared.fault.CommandFault.TheVariants.{BadLength, InputFault, NoPieceMemory, OutOfRange, Resync, Write}
use Rattle.md_streams.specs.declared.source.Source.{Ghosts as SourceGhosts}
use Rattle.md_refusals.specs.Output.{FailsOutput}
use Rattle.md_streams.specs.Putting.{PutsOut}
use Rattle.md_commands.specs.ReadingInput.{IsInput, RefusesInput}
use Rattle.md_commands.specs.Stopping.{StopsAfter}
use Rattle.md_commands.specs.ToldLength.{MayBeRead, MayBeTaken, RefusesKnown, known_length}
use Rattle.md_commands.specs.Writing.{FailsInput, RefusesBytes, RefusesInMemory, RefusesToWrite, RefusesToldInput, RefusesWriting, WritesArray, WritesBytes, WritesInput, WritesReadied}
use Rattle.md_commands.specs.WritingPieces.{IsToldOfFront, RefusesPieces, WritesInPieces}

-- where nothing stands, nothing has to be told
pub told_of_none : {W : Type 0} (has_written : W → ℕ → Type 0) (watch : W) → IsToldOfFront has_written watch 0
told_of_none has_written watch = λ (some : 0 < 0). absurd (omega arith)

-- what holds in any case does so at Ok
pub on_ok : {T E P : Type 0} (result : Result T E) → P → IfOk result (λ _. P)
on_ok (Ok x) p = p
on_ok (Err e) p = tt

module _ {I : Type 0} (i : SourceGhosts I) (sector : ℕ) (old new : MirrorView) (input rest : I) where
  -- ---- from memory
  pub unread : (fault : CommandFault) → RefusesInput i old.array.chunks.size input rest fault → RefusesInMemory i sector old old input rest fault
  unread (Resync fault) h = absurd h
  unread (Write fault) h = absurd h
  unread fault h = (h, refl)

  pub read_and_written : (bytes : List ℕ) → IsInput i old.array.chunks.size input rest bytes → (result : Result (Unit {0}) CommandFault)
      → MatchResult result (λ _. WritesReadied sector bytes old new) (RefusesBytes sector bytes old new)
      → MatchResult result (λ _. WritesInput i sector old new input rest None) (RefusesInMemory i sector old new input rest)
  read_and_written bytes is (Ok x) h = record { bytes = bytes; is = is; writes = h }
  read_and_written bytes is (Err (Resync fault)) h = record { bytes = bytes; is = is; refused = h }
  read_and_written bytes is (Err (Write fault)) h = record { bytes = bytes; is = is; refused = h }
  read_and_written bytes is (Err fault) h = absurd h

  pub at_once_or_not : (result : Result (Unit {0}) CommandFault)
      → MatchResult result (λ _. WritesInput i sector old new input rest None) (RefusesInMemory i sector old new input rest)
      → MatchResult result (λ _. WritesInput i sector old new input rest None) (RefusesWriting i sector old new input rest None 0)
  at_once_or_not (Ok x) h = h
  at_once_or_not (Err fault) h = (refl, h)

  -- ---- piece by piece
  pub pieces_or_not : (len written : ℕ) → MayBeRead old.array sector (Some len) → (result : Result (Unit {0}) CommandFault)
      → MatchResult result (λ _. WritesInPieces i sector len old new input rest) (RefusesPieces i sector len written old new input rest)
      → MatchResult result (λ _. WritesInput i sector old new input rest (Some len)) (RefusesWriting i sector old new input rest (Some len) written)
  pieces_or_not len written may (Ok x) h = record {
    bytes = h.bytes;
    is = record {
      gives = h.takes.gives;
      all = h.takes.end h.many;
      good = record {
        few = subst (λ (n : ℕ). n ≤ 512 * old.array.chunks.size) (sym h.many) may.0.few;
        whole = subst (λ (n : ℕ). n % 512 ≡ 0) (sym h.many) may.0.whole;
      };
    };
    writes = (h.many, h.writes);
  }
  pieces_or_not len written may (Err fault) h = h

module _ {I S : Type 0} (i : SourceGhosts I) (s : SinkGhosts S) (sector : ℕ) (count : Option ℕ) (old new : MirrorView) (input rest : I) (before after : S) where
  -- ---- a refusal is one of the command
  pub refused_known : (asked told : Option ℕ) (fault : CommandFault) → RefusesKnown old.array sector asked told fault
      → RefusesToldInput i s sector count old new input rest before after fault → RefusesToWrite i s sector count old new input rest before after 0 fault
  refused_known asked told OutOfRange h f = inl f
  refused_known asked told BadLength h f = inl f
  refused_known asked told (Write fault) h f = inr (inl f)
  refused_known None None fault h f = absurd h
  refused_known None (Some len) fault h f = absurd h
  refused_known (Some n) told fault h f = absurd h

  pub refused_writing : (told : Option ℕ) (written : ℕ) (fault : CommandFault) → RefusesWriting i sector old new input rest told written fault
      → FailsInput i s sector count old new input rest before after written fault → RefusesToWrite i s sector count old new input rest before after written fault
  refused_writing told written InputFault h f = f
  refused_writing told written NoPieceMemory h f = f
  refused_writing told written OutOfRange h f = inr f
  refused_writing told written BadLength h f = inr f
  refused_writing told written (Resync fault) h f = f
  refused_writing told written (Write fault) h f = inr (inr f)
  refused_writing None written fault h f = absurd h.1.0
  refused_writing (Some len) written fault h f = absurd h

  -- ---- the end
  pub written_or_not : (bytes : List ℕ) → MayBeTaken old.array sector count (i.told input) → IsInput i old.array.chunks.size input rest bytes
      → StopsAfter (WritesBytes (known_length count (i.told input)) sector bytes old) new → (result : Result (Unit {0}) CommandFault)
      → MatchResult result (λ _. PutsOut s before after (summary_text new.array)) (FailsOutput s after)
      → MatchResult result (λ _. WritesArray i s sector count old new input rest before after) (RefusesToWrite i s sector count old new input rest before after 0)
  written_or_not bytes may is done (Ok x) shown = record { may = may; bytes = bytes; is = is; done = done; shown = shown }
  written_or_not bytes may is done (Err fault) fails =
      subst (λ (f : CommandFault). RefusesToWrite i s sector count old new input rest before after 0 f) (sym fails.is) (record { may = may; bytes = bytes; is = is; done = done; failed = fails.failed })
