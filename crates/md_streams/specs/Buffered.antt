-- What callers see of a buffered sink.
use Rattle.std.specs.Prelude.{◌≡◌, ℕ, Bool, false, true, List, [], ◌||◌, Option, MatchResult, Result}
use Rattle.std.specs.Vec.{vec_capacity}
use Rattle.std.specs.Io.KnownBytes.{append_known}
use Rattle.md_streams.specs.declared.buffered.Buffered.{Buffered}
use Rattle.md_streams.specs.Sink.{Puts}

-- the sink below
abbrev pub sink_of : {S : Type 0} → Buffered S → S
sink_of b = b.sink

-- the bytes that the sink below has yet to take
abbrev pub held_back : {S : Type 0} → Buffered S → List ℕ
held_back b = b.held.items

-- how many bytes it can hold back
abbrev pub room : {S : Type 0} → Buffered S → ℕ
room b = vec_capacity b.held

-- whether a call has failed
abbrev pub is_broken : {S : Type 0} → Buffered S → Bool
is_broken b = b.broken

-- the bytes of the sink below, and then those that are held back
abbrev pub buffered_contents : {S : Type 0} → (S → Option (List ℕ)) → Buffered S → Option (List ℕ)
buffered_contents contents b = append_known (contents b.sink) b.held.items

-- whether it or the sink below has failed
abbrev pub buffered_failed : {S : Type 0} → (S → Bool) → Buffered S → Bool
buffered_failed failed b = b.broken || failed b.sink

-- the sink below has all bytes, and holds none back
abbrev pub is_passed_on : {S : Type 0} → (S → Type 0) → Buffered S → Type 0
is_passed_on is_flushed b = (held_back b ≡ []) × is_flushed b.sink

-- what is held back goes to the sink below, or that fails
pub record Spilled {S : Type 0} (contents : S → Option (List ℕ)) (failed : S → Bool) (old new : Buffered S) : Type 0 where
  pub puts : Puts (buffered_contents contents) (buffered_failed failed) old new []
  pub empty : held_back new ≡ []
  pub well : is_broken new ≡ false

abbrev pub Spills : {S T E : Type 0} → (S → Option (List ℕ)) → (S → Bool) → Buffered S → Buffered S → Result T E → Type 0
Spills contents failed old new result = MatchResult result (λ _. Spilled contents failed old new) (λ _. (is_broken new ≡ true) × (failed (sink_of new) ≡ true))
