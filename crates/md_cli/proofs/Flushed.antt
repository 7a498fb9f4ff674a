-- What was put out, and passed on, where a command is done.
use Rattle.std.proofs.Common.{◌≡◌, Bool, List, ℕ, Option, Result, Ok, Err, IfOk, subst, sym}
use Rattle.std.specs.Prelude.{◌≢◌}
use Rattle.md_streams.specs.declared.sink.Sink.{Ghosts}
use Rattle.md_refusals.specs.Output.{ShowsText}
use Rattle.md_refusals.specs.declared.fault.CommandFault.{CommandFault}
use Rattle.md_cli.specs.Refusing.{ShowsIfRefused}
use Rattle.md_cli.specs.Running.{status_of}

-- a report on an array that was put out
module _ {S : Type 0} (s : Ghosts S) (text : List ℕ) (a b : S) where
  pub shown_flushed : (result : Result (Unit {0}) CommandFault) → ShowsText s text a b result → IfOk result (λ _. s.is_flushed b)
  shown_flushed (Ok v) h = h.flushed
  shown_flushed (Err f) h = tt

-- an object that says why a command is refused comes only where it is
pub still_flushed : {S : Type 0} (s : Ghosts S) (json : Bool) (a b : S) (result : Result (Unit {0}) CommandFault) → ShowsIfRefused s json a b result → IfOk result (λ _. s.is_flushed a) → IfOk result (λ _. s.is_flushed b)
still_flushed s json a b (Ok v) same h = subst s.is_flushed (sym same) h
still_flushed s json a b (Err f) shown h = tt

-- a command that is refused answers 1
pub when_done : {P : Type 0} (tells : Bool) (mismatched : Option ℕ) (result : Result (Unit {0}) CommandFault) (status : ℕ) → status ≡ status_of tells mismatched result → status ≢ 1 → IfOk result (λ _. P) → P
when_done tells mismatched (Ok v) status is other p = p
when_done tells mismatched (Err f) status is other p = absurd (other is)
