-- A write that does not wait, and a flush.
use Rattle.std.proofs.Common.{◌≡◌, ◌∙◌, inl, inr, ℕ, Bool, true, false, List, [], Result, Ok, Err}
use Rattle.std.specs.Prelude.{IfErr, MatchResult, OnErr, OnOk}
use Rattle.md_state.specs.View.{MirrorView}
use Rattle.md_nbd.specs.declared.server.store.StoreFault.{StoreFault}
use Rattle.md_nbd.specs.declared.server.store.StoreFault.TheVariants.{Halted, NoMemory}
use Rattle.md_serve_commands.specs.declared.writer.ArrayWriter.{ArrayWriter}
use Rattle.md_serve_commands.specs.Waiting.{ClearsMarks, FailsToClear, FailsToFlush, FlushesAll, RestsAll, StillWaits, TakesWrite, WhyUnflushed, WhyUntaken, WritesThrough, WritesWaiting}

module _ (p q : ArrayWriter × MirrorView) where
  -- it may be one that has to stand, and one that need not
  pub taken_through : (sector : ℕ) (bytes : List ℕ) (through : Bool) → WritesThrough p q sector bytes → TakesWrite p q sector bytes through
  taken_through sector bytes true h = h
  taken_through sector bytes false h = inr (inr h)

  pub rested : {T E : Type 0} (mid : MirrorView) (cleared : Result T E) → WritesWaiting p.0 p.1 mid → q.0.run.items ≡ []
      → MatchResult cleared (λ _. ClearsMarks mid q.1) (λ _. FailsToClear mid q.1) → OnOk cleared (RestsAll p q)
  rested mid (Ok x) waited none h = record { mid = mid; waited = waited; none = none; marks = h }
  rested mid (Err e) waited none h = tt

  pub flushed_or_not : {T E : Type 0} (mid : MirrorView) (cleared : Result T E) → p.1.array.halted ≡ false → WritesWaiting p.0 p.1 mid → q.0.run.items ≡ []
      → MatchResult cleared (λ _. ClearsMarks mid q.1) (λ _. FailsToClear mid q.1) → MatchResult cleared (λ _. FlushesAll p q) (λ _. FailsToFlush p q)
  flushed_or_not mid (Ok x) running waited none h = record { running = running; mid = mid; waited = waited; none = none; marks = inr h }
  flushed_or_not mid (Err e) running waited none h = inr (inr (record { mid = mid; waited = waited; none = none; refused = h }))

  -- ---- why not
  pub why_unflushed : {T : Type 0} (mid : MirrorView) (cleared : Result T StoreFault) → WritesWaiting p.0 p.1 mid → q.0.run.items ≡ []
      → MatchResult cleared (λ _. ClearsMarks mid q.1) (λ _. FailsToClear mid q.1) → IfErr cleared (λ why. why ≡ Halted) → IfErr cleared (λ why. WhyUnflushed p q why)
  why_unflushed mid (Ok x) waited none h is = tt
  why_unflushed mid (Err e) waited none h is = inr (inr (record { mid = mid; waited = waited; none = none; refused = h }, is))

  -- what was to wait is not there, and nothing else was done, or what waited before was written
  pub why_unjoined : {T : Type 0} (sector : ℕ) (bytes : List ℕ) (joined : Result T StoreFault) → p.1.array.halted ≡ false → q.1 ≡ p.1 → OnErr joined (StillWaits p.0 q.0)
      → IfErr joined (λ why. why ≡ NoMemory) → IfErr joined (λ why. WhyUntaken p q sector bytes why)
  why_unjoined sector bytes (Ok x) running same still is = tt
  why_unjoined sector bytes (Err e) running same still is = inr (inl (record { running = running; left = inl (record { mirror = same; still = still }); is = is }))

  pub why_not_anew : {T : Type 0} (sector : ℕ) (bytes : List ℕ) (w : ArrayWriter) (joined : Result T StoreFault) → p.1.array.halted ≡ false → WritesWaiting p.0 p.1 q.1 → w.run.items ≡ []
      → OnErr joined (StillWaits w q.0) → IfErr joined (λ why. why ≡ NoMemory) → IfErr joined (λ why. WhyUntaken p q sector bytes why)
  why_not_anew sector bytes w (Ok x) running waited none still is = tt
  why_not_anew sector bytes w (Err e) running waited none still is = inr (inl (record { running = running; left = inr (record { waited = waited; none = still.run ∙ none }); is = is }))
