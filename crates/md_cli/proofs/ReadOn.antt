-- What is left of a read is put out, and what was not given of it is joined to what was not given before.
use Rattle.std.proofs.Common.{◌≡◌, inl, inr, ℕ, true, false, true≢false, Option, None, Some, Result, Ok, Err, ap, refl, sym}
use Rattle.std.specs.Prelude.{Bool, IfOk, is_err}
use Rattle.md_refusals.specs.declared.fault.CommandFault.{CommandFault}
use Rattle.md_refusals.specs.declared.fault.CommandFault.TheVariants.{Read}
use Rattle.md_read.specs.declared.fault.UnreadFault.TheVariants.{Unreadable}
use Rattle.md_streams.specs.declared.sink.Sink.{Ghosts}
use Rattle.md_state.specs.View.{MirrorView}
use Rattle.md_streams.specs.declared.gaps.Gaps.{Gaps}
use Rattle.md_read_commands.specs.Filling.{ReadsFilled, has_put_all}
use Rattle.md_cli.specs.Performing.{JoinsEarlier}

-- ---- the output
module _ {S : Type 0} (o : Ghosts S) (readonly : Bool) (sector count : ℕ) (old new : MirrorView) (before after : S) where
  -- where all sectors are put out it holds nothing back
  flushed_if_put : (told : Option Gaps) (part : Result (Unit {0}) CommandFault) → ReadsFilled o readonly sector count old new before after told part → has_put_all part ≡ true → o.is_flushed after
  flushed_if_put told (Ok v) reads all = reads.gives.puts.puts.shown.flushed
  flushed_if_put told (Err (Read (Unreadable s))) reads all = reads.gives.0.puts.shown.flushed
  flushed_if_put told (Err fault) reads all = absurd (true≢false (sym all))

  put_if_ok : (was told : Option Gaps) (part : Result (Unit {0}) CommandFault) (all : Option Gaps) (v : Unit {0}) → JoinsEarlier was told part all (Ok v) → has_put_all part ≡ true
  put_if_ok None told part all v goes = ap has_put_all (sym goes.1)
  put_if_ok (Some was) None part all v goes = ap has_put_all (sym goes.1)
  put_if_ok (Some was) (Some now) part all v (inl joins) = by (has_put_all part) refl
    where
      by : (b : Bool) → has_put_all part ≡ b → has_put_all part ≡ true
      by true is = is
      by false is = ap has_put_all (sym (joins.cut is))
  put_if_ok (Some was) (Some now) part all v (inr short) = absurd (true≢false (ap is_err (sym short.1)))

  pub flushed_on : (was told : Option Gaps) (part : Result (Unit {0}) CommandFault) (all : Option Gaps) (result : Result (Unit {0}) CommandFault) → ReadsFilled o readonly sector count old new before after told part → JoinsEarlier was told part all result → IfOk result (λ _. o.is_flushed after)
  flushed_on was told part all (Ok v) reads goes = flushed_if_put told part reads (put_if_ok was told part all v goes)
  flushed_on was told part all (Err fault) reads goes = record {}
