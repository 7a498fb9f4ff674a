use Rattle.std.proofs.Common.{◌≡◌, ◌∙◌, Bool, false, not, refl, sym, true, true≢false}
use Rattle.md_cli.proofs.GivenSectors.{all_ok, if_ok}
use Rattle.md_cli.proofs.lists.holes.fits_log.Goals as goal

is_true : (b : Bool) → not b ≡ false → b ≡ true
is_true true e = refl
is_true false e = absurd (true≢false e)

pub returns-then-not-how-clause-room : goal.returns-then-not-how-clause-room
returns-then-not-how-clause-room g c = λ _ must. (let no : c.args.how.must_fit ≡ false = (let test = c.if-not-how.true in cc) in absurd (true≢false (sym must ∙ no)))

pub returns-clause-room : goal.returns-clause-room
returns-clause-room g c = if_ok c.has_room_with.result (λ fits h yes must. h yes) c.has_room_with.ensures.room

pub returns-clause-must_fit : goal.returns-clause-must_fit
returns-clause-must_fit g c = all_ok c.has_room_with.result (λ fits no. is_true c.args.how.must_fit c.if-not-how.false)
