-- What is put out, and what is told.
use Rattle.std.specs.Prelude.{◌≡◌, ◌⊎◌, ℕ, true, List}
use Rattle.md_streams.specs.declared.sink.Sink.{Ghosts}
use Rattle.md_streams.specs.Sink.{Puts}

-- the output took the bytes, and holds none back
pub record PutsOut {S : Type 0} (s : Ghosts S) (old new : S) (bytes : List ℕ) : Type 0 where
  pub puts : Puts s.contents s.failed old new bytes
  pub flushed : s.is_flushed new

-- The text was put out, or standard error has failed.
abbrev pub PutsTold : {E : Type 0} → Ghosts E → E → E → List ℕ → Type 0
PutsTold e old new text = Puts e.contents e.failed old new text ⊎ (e.failed new ≡ true)
