-- One of two sinks.
use Rattle.std.specs.Prelude.{ℕ, Bool, List, Option}
use Rattle.md_files.specs.declared.streams.destination.Destination.{Destination}
use Rattle.md_files.specs.declared.streams.destination.Destination.TheVariants.{Standard, File}

module _ {S F : Type 0} where
  -- what the one of them has, for which it stands
  abbrev pub destination_contents : (S → Option (List ℕ)) → (F → Option (List ℕ)) → Destination S F → Option (List ℕ)
  destination_contents s f (Standard sink) = s sink
  destination_contents s f (File sink) = f sink

  abbrev pub destination_failed : (S → Bool) → (F → Bool) → Destination S F → Bool
  destination_failed s f (Standard sink) = s sink
  destination_failed s f (File sink) = f sink

  abbrev pub is_destination_flushed : (S → Type 0) → (F → Type 0) → Destination S F → Type 0
  is_destination_flushed s f (Standard sink) = s sink
  is_destination_flushed s f (File sink) = f sink
