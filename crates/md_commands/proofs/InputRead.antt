-- An input that is read piece by piece, and why it is not read to its end.
use Rattle.std.proofs.Common.{ℕ, ◌+◌, ◌*◌, ◌<◌, ◌≤◌, ◌++◌, ◌∙◌, List, [], length, refl, arith}
use Rattle.std.proofs.lemmas.List.{length-append}
use Rattle.std.proofs.KnownBytes.{Consumes-kept, Consumes-nil, Consumes-trans}
use Rattle.md_refusals.specs.declared.fault.CommandFault.{CommandFault}
use Rattle.md_refusals.specs.declared.fault.CommandFault.TheVariants.{InputFault, NoPieceMemory}
use Rattle.md_streams.specs.declared.source.Source.{Ghosts}
use Rattle.md_commands.specs.ReadingInput.{AppendingFails, LacksMemoryFor, ReadingInputFails}
use Rattle.md_streams.specs.FrontFilled.{FailsAfter}
use Rattle.md_streams.specs.Source.{FailsToGive, Gives}

module _ {I : Type 0} (i : Ghosts I) where
  -- a call failed, before which nothing came
  pub fails_at_once : (old new : I) → FailsToGive i.remaining i.failed old new → FailsAfter i 0 old new
  fails_at_once old new fails = record {
    bytes = [];
    few = omega arith;
    taken = Consumes-kept (i.remaining old) (i.remaining old) (i.remaining new) [] (Consumes-nil (i.remaining old)) fails.keeps;
    has_failed = fails.has_failed;
  }

  -- there was no memory before anything came
  pub lacks_at_once : (most : ℕ) (at : I) → LacksMemoryFor i most at at
  lacks_at_once most at = record {
    bytes = [];
    few = omega arith;
    gives = record { consumes = Consumes-nil (i.remaining at); well = refl };
  }

  -- bytes came, and then a piece was not appended to them
  pub fails_after_pieces : (size room : ℕ) (old mid new : I) (bytes : List ℕ) → Gives i.remaining i.failed old mid bytes → 0 < room → length bytes + room ≤ 512 * size + 1
      → (fault : CommandFault) → AppendingFails i room mid new fault → ReadingInputFails i size old new fault
  fails_after_pieces size room old mid new bytes given some few InputFault fails = record {
    bytes = bytes ++ fails.bytes;
    few = omega (arith, length-append bytes fails.bytes, fails.few);
    taken = Consumes-trans (i.remaining old) (i.remaining mid) (i.remaining new) bytes fails.bytes given.consumes fails.taken;
    has_failed = fails.has_failed;
  }
  fails_after_pieces size room old mid new bytes given some few NoPieceMemory lacks = record {
    bytes = bytes ++ lacks.bytes;
    few = omega (arith, length-append bytes lacks.bytes, lacks.few);
    gives = record {
      consumes = Consumes-trans (i.remaining old) (i.remaining mid) (i.remaining new) bytes lacks.bytes given.consumes lacks.gives.consumes;
      well = lacks.gives.well ∙ given.well;
    };
  }
  fails_after_pieces size room old mid new bytes given some few fault fails = absurd fails
