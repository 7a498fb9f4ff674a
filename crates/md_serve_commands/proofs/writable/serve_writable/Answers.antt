use Rattle.std.proofs.Common.{rules, Err, ◌≡◌, ◌∙◌, ap, inl, inr, refl, subst, sym}
use Rattle.md_refusals.specs.declared.fault.CommandFault.TheVariants.{Stop, Write}
use Rattle.md_refusals.proofs.Wrapped.{own_err, own_ok}
use Rattle.md_serve_commands.specs.Waiting.{IsFreshWriter}
use Rattle.md_serve_commands.specs.Writable.{told_after}
use Rattle.md_serve_commands.proofs.Written.{answer_is}
use Rattle.md_serve_commands.proofs.writable.serve_writable.Goals as goal

pub returns-in_err-map_err-clause-gives : goal.returns-in_err-map_err-clause-gives
returns-in_err-map_err-clause-gives g c =
    let own = own_err _ _ _ c.stop.result _ _ c.stop.ensures.gives c.in_err-map_err.ensures.cases refl in
    let passed : c.from_residual-in_err-map_err.result ≡ Err (Stop own.0) = let post = own.2 in search rules in
    inl (record {
      ready = c.begin.new.mirror;
      readied = c.in_ok-room.ensures.gives;
      first = c.new-writer.result;
      fresh = subst (λ k. IsFreshWriter k.size c.new-writer.result) c.chunks.ensures c.new-writer.ensures;
      last = c.serve-served.new.writer;
      served = c.serve-served.new.mirror;
      told = c.serve-served.result;
      session = c.serve-served.ensures.gives;
      within = c.serve-served.ensures.waits;
      ends = record {
        written = c.write_waiting-late.new.mirror;
        kept = c.write_waiting-late.result;
        late = c.write_waiting-late.ensures.gives;
        stops = inr (own.0, own.1, passed);
      };
    })

pub returns-in_err-map_err-2-clause-gives : goal.returns-in_err-map_err-2-clause-gives
returns-in_err-map_err-2-clause-gives g c =
    let own = own_err _ _ _ c.write_waiting-late.result _ _ (answer_is c.write_waiting-late.result) c.in_err-map_err-2.ensures.cases refl in
    let passed : c.from_residual-in_err-map_err-2.result ≡ Err (Write own.0) = let post = own.2 in search rules in
    inl (record {
      ready = c.begin.new.mirror;
      readied = c.in_ok-room.ensures.gives;
      first = c.new-writer.result;
      fresh = subst (λ k. IsFreshWriter k.size c.new-writer.result) c.chunks.ensures c.new-writer.ensures;
      last = c.serve-served.new.writer;
      served = c.serve-served.new.mirror;
      told = c.serve-served.result;
      session = c.serve-served.ensures.gives;
      within = c.serve-served.ensures.waits;
      ends = record {
        written = c.write_waiting-late.new.mirror;
        kept = c.write_waiting-late.result;
        late = c.write_waiting-late.ensures.gives;
        stops = inl (
          own_ok _ _ _ c.stop.result _ _ c.stop.ensures.gives c.in_ok-map_err.ensures.cases c.in_ok-map_err.ensures.variant refl,
          passed ∙ ap (λ k. told_after k c.serve-served.result) (sym own.1),
        );
      };
    })

pub returns-clause-gives : goal.returns-clause-gives
returns-clause-gives g c = inl (record {
  ready = c.begin.new.mirror;
  readied = c.in_ok-room.ensures.gives;
  first = c.new-writer.result;
  fresh = subst (λ k. IsFreshWriter k.size c.new-writer.result) c.chunks.ensures c.new-writer.ensures;
  last = c.serve-served.new.writer;
  served = c.serve-served.new.mirror;
  told = c.serve-served.result;
  session = c.serve-served.ensures.gives;
  within = c.serve-served.ensures.waits;
  ends = record {
    written = c.write_waiting-late.new.mirror;
    kept = c.write_waiting-late.result;
    late = c.write_waiting-late.ensures.gives;
    stops = inl (
      own_ok _ _ _ c.stop.result _ _ c.stop.ensures.gives c.in_ok-map_err.ensures.cases c.in_ok-map_err.ensures.variant refl,
      ap (λ k. told_after k c.serve-served.result)
          (sym (own_ok _ _ _ c.write_waiting-late.result _ _ (answer_is c.write_waiting-late.result) c.in_ok-map_err-2.ensures.cases c.in_ok-map_err-2.ensures.variant refl)),
    );
  };
})
