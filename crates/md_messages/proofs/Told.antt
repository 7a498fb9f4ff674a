-- What standard error is told: the lines of names that are there.
use Rattle.std.proofs.Common.{◌≡◌, ◌∙◌, ℕ, Bool, true, false, List, [], Option, Result, Ok, Err, get_or, ap, inl, inr, refl, sym}
use Rattle.std.specs.Prelude.{slice_get, if◌then◌else◌}
use Rattle.clap.specs.Words.{Text}
use Rattle.md_streams.specs.Sink.{PutsOrFails}
use Rattle.md_streams.specs.Putting.{PutsTold}
use Rattle.md_streams.specs.declared.sink.Sink.{Ghosts}
use Rattle.md_streams.specs.declared.sink.SinkFault.{SinkFault}
use Rattle.md_words.specs.Asks.{Ask, device_to_add, overwritten_by}
use Rattle.md_words.specs.declared.overwritten.Overwritten.{Overwritten}
use Rattle.md_messages.specs.declared.notices.Notices.{Notices}
use Rattle.md_messages.specs.Noticed.{asks_first}
use Rattle.md_messages.specs.Telling.{first_by, first_text, line_at, line_of}

-- what is said before, by what is overwritten
pub first_is : (ask : Ask) (names : List Text) (n : Notices) (o : Overwritten) → asks_first ask n ≡ true → o ≡ overwritten_by ask → first_by o (device_to_add ask) names n ≡ first_text ask names n
first_is ask names n o there is =
    ap (λ (x : Overwritten). first_by x (device_to_add ask) names n) is
    ∙ sym (ap (λ (b : Bool). if b then first_by (overwritten_by ask) (device_to_add ask) names n else []) there)

-- the line of a place
module _ (line : Text → List ℕ) (which : List Bool) (names : List Text) (k : ℕ) where
  pub no_line_at : get_or which k false ≡ false → line_at line which names k ≡ []
  no_line_at e = rw e refl

  pub its_line_at : (o : Option Text) → get_or which k false ≡ true → o ≡ slice_get names k → line_at line which names k ≡ line_of line o
  its_line_at o e is = rw e (ap (line_of line) (sym is))
