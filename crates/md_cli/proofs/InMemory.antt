-- A bitmap in memory, by what `grow` answered.
use Rattle.std.proofs.Common.{◌≡◌, ℕ, List, Some, Result, Ok, Err, inl, inr, refl, subst}
use Rattle.std.specs.Prelude.{MatchResult}
use Rattle.md_state.specs.View.{Disk}
use Rattle.md_metadata.specs.Grow.Growing.{Grows, RefusesToGrow}
use Rattle.md_metadata.specs.declared.bitmap_grow.fault.GrowFault.{GrowFault}
use Rattle.md_metadata.specs.declared.bitmap_grow.fault.GrowFault.TheVariants.{HasBitmap}
use Rattle.md_cli.specs.InMemory.{GetsBitmapInMemory, GetsNoBitmap, given_or_had}

module _ (chunk_bytes : ℕ) (before after : List Disk) where
  abbrev pub Answers : Result (Unit {0}) GrowFault → Type 0
  Answers answer = MatchResult answer (λ _. Grows chunk_bytes before after) (RefusesToGrow chunk_bytes before after)

  pub given : (answer : Result (Unit {0}) GrowFault) (v : Unit {0}) → Answers answer → given_or_had answer ≡ Ok v → GetsBitmapInMemory (Some chunk_bytes) before after
  given (Ok u) v h e = inl h
  given (Err HasBitmap) v h e = inr h
  given (Err _) v h e = absurd cc

  pub not_given : (answer : Result (Unit {0}) GrowFault) (why : GrowFault) → Answers answer → given_or_had answer ≡ Err why → GetsNoBitmap (Some chunk_bytes) before why
  not_given (Ok u) why h e = absurd cc
  not_given (Err HasBitmap) why h e = absurd cc
  not_given (Err fault) why h e =
      let same : fault ≡ why = cc in
      record {
        chunk_bytes = chunk_bytes;
        asked = refl;
        left = after;
        refused = subst (RefusesToGrow chunk_bytes before after) same h;
        lacking = λ had. cc;
      }
