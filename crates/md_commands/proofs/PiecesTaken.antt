-- A piece of an input is taken, part by part.
use Rattle.std.proofs.Common.{◌≡◌, ◌∙◌, inl, inr, ⊎_elim, ℕ, ◌+◌, ◌<◌, ◌≤◌, Bool, true, false, List, [], ◌++◌, length, take, refl, sym, subst, arith, true≢false}
use Rattle.std.specs.Prelude.{MatchResult, Result, Ok, Err}
use Rattle.std.specs.Io.KnownBytes.{IsAtEnd}
use Rattle.std.proofs.KnownBytes.{Consumes-nil, Consumes-trans}
use Rattle.std.proofs.lemmas.List.{append-nil, length-append, length-take-le}
use Rattle.md_refusals.specs.declared.fault.CommandFault.{CommandFault}
use Rattle.md_refusals.specs.declared.fault.CommandFault.TheVariants.{BadLength, InputFault}
use Rattle.md_streams.specs.declared.source.Source.{Ghosts}
use Rattle.md_streams.specs.FrontFilled.{FailsAfter}
use Rattle.md_streams.specs.Source.{Gives}
use Rattle.md_commands.specs.WritingPieces.{FailsToEnd, FailsToTakePiece, HasEnded, TakesPiece}

module _ {I : Type 0} (i : Ghosts I) where
  pub gives_both : (old mid new : I) (xs ys : List ℕ) → Gives i.remaining i.failed old mid xs → Gives i.remaining i.failed mid new ys → Gives i.remaining i.failed old new (xs ++ ys)
  gives_both old mid new xs ys g h = record {
    consumes = Consumes-trans (i.remaining old) (i.remaining mid) (i.remaining new) xs ys g.consumes h.consumes;
    well = h.well ∙ g.well;
  }

  pub gives_nothing : (at : I) → Gives i.remaining i.failed at at []
  gives_nothing at = record { consumes = Consumes-nil (i.remaining at); well = refl }

  -- bytes came, and then a call failed
  pub fails_later : (old mid new : I) (bytes : List ℕ) (most long : ℕ) → Gives i.remaining i.failed old mid bytes → FailsAfter i most mid new → length bytes + most ≤ long → FailsAfter i long old new
  fails_later old mid new bytes most long given fails fits = record {
    bytes = bytes ++ fails.bytes;
    few = let few = fails.few in omega (arith, length-append bytes fails.bytes);
    taken = Consumes-trans (i.remaining old) (i.remaining mid) (i.remaining new) bytes fails.bytes given.consumes fails.taken;
    has_failed = fails.has_failed;
  }

  -- it ended within a piece
  pub ends_within : (old new : I) (piece : List ℕ) (n long : ℕ) → Gives i.remaining i.failed old new (take n piece) → n < long → length piece ≡ long → IsAtEnd (i.remaining new)
      → FailsToTakePiece i false long old new BadLength
  ends_within old new piece n long gives few long_is end = record {
    bytes = take n piece;
    gives = gives;
    other = inl (let at = length-take-le n piece (omega arith) in omega arith, end);
  }

  -- also of the last one
  pub any_last : (is_last : Bool) (long : ℕ) (old new : I) (fault : CommandFault) → FailsToTakePiece i false long old new fault → FailsToTakePiece i is_last long old new fault
  any_last is_last long old new InputFault h = h
  any_last is_last long old new BadLength h = record {
    bytes = h.bytes;
    gives = h.gives;
    other = ⊎_elim (λ early. inl early) (λ late. absurd (true≢false (sym late.0))) h.other;
  }
  any_last is_last long old new fault h = absurd h

  -- after the last one it ended or went on, or a call failed
  pub taken_or_not : (old mid new : I) (piece : List ℕ) → Gives i.remaining i.failed old mid piece → (result : Result (Unit {0}) CommandFault)
      → MatchResult result (λ _. HasEnded i mid new) (FailsToEnd i mid new) → MatchResult result (λ _. TakesPiece i true old new piece) (FailsToTakePiece i true (length piece) old new)
  taken_or_not old mid new piece given (Ok x) h = record {
    gives = subst (λ (bytes : List ℕ). Gives i.remaining i.failed old new bytes) (append-nil piece) (gives_both old mid new piece [] given h.gives);
    end = λ _. h.end;
  }
  taken_or_not old mid new piece given (Err InputFault) h = fails_later old mid new piece 0 (length piece) given h (omega arith)
  taken_or_not old mid new piece given (Err BadLength) h = record {
    bytes = piece ++ h.bytes;
    gives = gives_both old mid new piece h.bytes given h.gives;
    other = inr (refl, let one = h.one in omega (arith, length-append piece h.bytes));
  }
  taken_or_not old mid new piece given (Err fault) h = absurd h
