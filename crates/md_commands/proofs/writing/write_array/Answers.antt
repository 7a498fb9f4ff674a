use Rattle.std.proofs.Common.{rules, Ok, Err, ◌≡◌, ◌∙◌, ℕ, Option, true, false, refl, inl, ap, sym, subst}
use Rattle.md_refusals.specs.declared.fault.CommandFault.TheVariants.{Stop}
use Rattle.md_commands.specs.ToldLength.{MayBeRead, MayBeTaken, RefusesKnown, known_length}
use Rattle.md_commands.specs.Writing.{IsToldOfLength, RefusesWriting, WritesInput}
use Rattle.md_refusals.proofs.Wrapped.{own_err, own_ok}
use Rattle.md_commands.proofs.Written.{on_ok, pieces_or_not, refused_known, refused_writing, told_of_none, written_or_not}
use Rattle.md_commands.proofs.writing.write_array.Goals as goal
use Rattle.md_commands.proofs.writing.write_array.Goals.{in-Some+in_ok-write_in_pieces-in-Some, in-None+in_ok-write_at_once-in-None}

pub returns-then-halted-clause-gives : goal.returns-then-halted-clause-gives
returns-then-halted-clause-gives g c =
    let halted : c.args.mirror.now.array.halted ≡ true = search rules in (
      0,
      told_of_none g.W.Watch.has_written c.args.watch.now,
      inl (record { is = refl; refused = record { unchanged = refl; reason = halted }; unread = refl; unwritten = refl }),
    )

pub returns-in_err-len-clause-gives : goal.returns-in_err-len-clause-gives
returns-in_err-len-clause-gives g c =
    let old = c.args.mirror.now in
    let fault = c.in_err-len.field-0.0 in
    let passed : c.from_residual.result ≡ Err fault = search rules in
    let running : old.array.halted ≡ false = search rules in
    let known = subst (λ (t : Option ℕ). RefusesKnown old.array c.args.sector c.args.count t fault) c.bytes_left.ensures c.in_err-len.ensures in
    let refused = refused_known g.I.Source g.S.Sink c.args.sector c.args.count old old c.args.input.now c.args.input.now c.args.out.now c.args.out.now c.args.count (g.I.Source.told c.args.input.now) fault known
    (record { running = running; refused = known; unchanged = refl; unread = refl; unwritten = refl }) in
    (0, told_of_none g.W.Watch.has_written c.args.watch.now, rw passed refused)

pub write_in_pieces-requires-clause-whole : goal.write_in_pieces-requires-clause-whole
write_in_pieces-requires-clause-whole g c =
    let read = subst (λ (t : Option ℕ). MayBeRead c.args.mirror.now.array c.args.sector t) (sym c.in_ok-len.ensures.is ∙ c.in-Some.is) c.in_ok-len.ensures.may.may in
    read.0.whole

pub returns-in_err-write_in_pieces-in-Some-clause-gives : goal.returns-in_err-write_in_pieces-in-Some-clause-gives
returns-in_err-write_in_pieces-in-Some-clause-gives g c =
    let s = g.I.Source in
    let old = c.args.mirror.now in
    let new = c.write_in_pieces.new.mirror in
    let rest = c.write_in_pieces.new.input in
    let told = s.told c.args.input.now in
    let fault = c.in_err-write_in_pieces-in-Some.field-0.0 in
    let passed : c.from_residual-in_err-write_in_pieces-in-Some.result ≡ Err fault = search rules in
    let running : old.array.halted ≡ false = search rules in
    let h = c.in_err-write_in_pieces-in-Some.ensures.gives in
    let may = subst (λ (t : Option ℕ). MayBeTaken old.array c.args.sector c.args.count t) c.bytes_left.ensures c.in_ok-len.ensures.may in
    let known : c.in_ok-len.len ≡ known_length c.args.count told = c.in_ok-len.ensures.is ∙ ap (known_length c.args.count) c.bytes_left.ensures in
    let refused = subst (λ (len : Option ℕ). RefusesWriting s c.args.sector old new c.args.input.now rest len h.0 fault) (sym c.in-Some.is ∙ known) h.2 in (
      h.0,
      h.1,
      rw passed (refused_writing s g.S.Sink c.args.sector c.args.count old new c.args.input.now rest c.args.out.now c.args.out.now (known_length c.args.count told) h.0 fault refused
          (record { running = running; may = may; refused = refused; unwritten = refl })),
    )

pub returns-in_err-write_at_once-in-None-clause-gives : goal.returns-in_err-write_at_once-in-None-clause-gives
returns-in_err-write_at_once-in-None-clause-gives g c =
    let s = g.I.Source in
    let old = c.args.mirror.now in
    let new = c.write_at_once.new.mirror in
    let rest = c.write_at_once.new.input in
    let told = s.told c.args.input.now in
    let fault = c.in_err-write_at_once-in-None.field-0.0 in
    let passed : c.from_residual-in_err-write_at_once-in-None.result ≡ Err fault = search rules in
    let running : old.array.halted ≡ false = search rules in
    let may = subst (λ (t : Option ℕ). MayBeTaken old.array c.args.sector c.args.count t) c.bytes_left.ensures c.in_ok-len.ensures.may in
    let known : c.in_ok-len.len ≡ known_length c.args.count told = c.in_ok-len.ensures.is ∙ ap (known_length c.args.count) c.bytes_left.ensures in
    let refused = subst (λ (len : Option ℕ). RefusesWriting s c.args.sector old new c.args.input.now rest len 0 fault) (sym c.in-None.is ∙ known) (refl, c.in_err-write_at_once-in-None.ensures.gives) in (
      0,
      told_of_none g.W.Watch.has_written c.args.watch.now,
      rw passed (refused_writing s g.S.Sink c.args.sector c.args.count old new c.args.input.now rest c.args.out.now c.args.out.now (known_length c.args.count told) 0 fault refused
          (record { running = running; may = may; refused = refused; unwritten = refl })),
    )

pub returns-in_err-map_err-clause-gives : goal.returns-in_err-map_err-clause-gives
returns-in_err-map_err-clause-gives g c =
    let s = g.I.Source in
    let old = c.args.mirror.now in
    let mid = c.match-len.mirror in
    let rest = c.match-len.input in
    let told = s.told c.args.input.now in
    let running : old.array.halted ≡ false = search rules in
    let may = subst (λ (t : Option ℕ). MayBeTaken old.array c.args.sector c.args.count t) c.bytes_left.ensures c.in_ok-len.ensures.may in
    let known : c.in_ok-len.len ≡ known_length c.args.count told = c.in_ok-len.ensures.is ∙ ap (known_length c.args.count) c.bytes_left.ensures in
    let writes : WritesInput s c.args.sector old mid c.args.input.now rest c.in_ok-len.len = elim c.match-len.branch [
      | in-Some+in_ok-write_in_pieces-in-Some w ↦
          let gives = w.in_ok-write_in_pieces-in-Some.ensures.gives in
          let read = subst (λ (t : Option ℕ). MayBeRead old.array c.args.sector t) (sym c.in_ok-len.ensures.is ∙ w.in-Some.is) c.in_ok-len.ensures.may.may in
          rw (w.mirror-is, w.input-is, w.in-Some.is)
          (pieces_or_not s c.args.sector old w.write_in_pieces.new.mirror c.args.input.now w.write_in_pieces.new.input w.in-Some.len gives.0 read (Ok tt) gives.2)
      | in-None+in_ok-write_at_once-in-None w ↦ rw (w.mirror-is, w.input-is, w.in-None.is) w.in_ok-write_at_once-in-None.ensures.gives
    ] in
    let all = subst (λ (len : Option ℕ). WritesInput s c.args.sector old mid c.args.input.now rest len) known writes in
    let own = own_err _ _ _ c.stop.result _ _ c.stop.ensures.gives c.in_err-map_err.ensures.cases refl in
    let is : c.from_residual-in_err-map_err.result ≡ Err (Stop own.0) = let post = own.2 in search rules in (
      0,
      told_of_none g.W.Watch.has_written c.args.watch.now,
      rw is (record { running = running; may = may; bytes = all.bytes; is = all.is; refused = record { mid = mid; through = all.writes; refused = own.1 }; unwritten = refl }),
    )

pub returns-clause-gives : goal.returns-clause-gives
returns-clause-gives g c =
    let s = g.I.Source in
    let old = c.args.mirror.now in
    let mid = c.match-len.mirror in
    let rest = c.match-len.input in
    let told = s.told c.args.input.now in
    let new = c.stop.new.mirror in
    let may = subst (λ (t : Option ℕ). MayBeTaken old.array c.args.sector c.args.count t) c.bytes_left.ensures c.in_ok-len.ensures.may in
    let known : c.in_ok-len.len ≡ known_length c.args.count told = c.in_ok-len.ensures.is ∙ ap (known_length c.args.count) c.bytes_left.ensures in
    let writes : WritesInput s c.args.sector old mid c.args.input.now rest c.in_ok-len.len = elim c.match-len.branch [
      | in-Some+in_ok-write_in_pieces-in-Some w ↦
          let gives = w.in_ok-write_in_pieces-in-Some.ensures.gives in
          let read = subst (λ (t : Option ℕ). MayBeRead old.array c.args.sector t) (sym c.in_ok-len.ensures.is ∙ w.in-Some.is) c.in_ok-len.ensures.may.may in
          rw (w.mirror-is, w.input-is, w.in-Some.is)
          (pieces_or_not s c.args.sector old w.write_in_pieces.new.mirror c.args.input.now w.write_in_pieces.new.input w.in-Some.len gives.0 read (Ok tt) gives.2)
      | in-None+in_ok-write_at_once-in-None w ↦ rw (w.mirror-is, w.input-is, w.in-None.is) w.in_ok-write_at_once-in-None.ensures.gives
    ] in
    let all = subst (λ (len : Option ℕ). WritesInput s c.args.sector old mid c.args.input.now rest len) known writes in
    let stopped = own_ok _ _ _ c.stop.result _ _ c.stop.ensures.gives c.in_ok-map_err.ensures.cases c.in_ok-map_err.ensures.variant refl in (
      0,
      told_of_none g.W.Watch.has_written c.args.watch.now,
      written_or_not s g.S.Sink c.args.sector c.args.count old new c.args.input.now rest c.args.out.now c.put_summary.new.out all.bytes may all.is
          (record { mid = mid; through = all.writes; stops = stopped }) c.put_summary.result c.put_summary.ensures,
    )

pub returns-clause-told : goal.returns-clause-told
returns-clause-told g c =
    let known : c.in_ok-len.len ≡ known_length c.args.count (g.I.Source.told c.args.input.now) = c.in_ok-len.ensures.is ∙ ap (known_length c.args.count) c.bytes_left.ensures in
    let told : IsToldOfLength g.W.Watch.writes g.W.Watch.has_written c.args.watch.now c.in_ok-len.len = elim c.match-len.branch [
      | in-Some+in_ok-write_in_pieces-in-Some w ↦ rw w.in-Some.is w.in_ok-write_in_pieces-in-Some.ensures.told
      | in-None+in_ok-write_at_once-in-None w ↦ rw w.in-None.is tt
    ] in
    on_ok c.put_summary.result (subst (λ (len : Option ℕ). IsToldOfLength g.W.Watch.writes g.W.Watch.has_written c.args.watch.now len) known told)

pub stop-requires : goal.stop-requires
stop-requires g c = record {
  sound = elim c.match-len.branch [
    | in-Some+in_ok-write_in_pieces-in-Some w ↦ rw w.mirror-is w.write_in_pieces.ensures.sound
    | in-None+in_ok-write_at_once-in-None w ↦ rw w.mirror-is w.write_at_once.ensures.sound
  ];
}

pub returns-in_err-map_err-clause-pending : goal.returns-in_err-map_err-clause-pending
returns-in_err-map_err-clause-pending g c p before = c.stop.ensures.pending p (elim c.match-len.branch [
  | in-Some+in_ok-write_in_pieces-in-Some w ↦ rw w.mirror-is (w.write_in_pieces.ensures.pending p before)
  | in-None+in_ok-write_at_once-in-None w ↦ rw w.mirror-is (w.write_at_once.ensures.pending p before)
])

pub returns-clause-pending : goal.returns-clause-pending
returns-clause-pending g c p before = c.stop.ensures.pending p (elim c.match-len.branch [
  | in-Some+in_ok-write_in_pieces-in-Some w ↦ rw w.mirror-is (w.write_in_pieces.ensures.pending p before)
  | in-None+in_ok-write_at_once-in-None w ↦ rw w.mirror-is (w.write_at_once.ensures.pending p before)
])
