-- Filled pieces are put out, each once it is read.
use Rattle.std.proofs.Common.{◌≡◌, ◌∙◌, inl, inr, ℕ, ◌+◌, ◌*◌, ◌/◌, ◌≤◌, true, List, [], ◌++◌, length, take, refl, sym, subst, arith, length-append, append-nil}
use Rattle.std.proofs.Math.Seq.{take-append_seam}
use Rattle.md_streams.specs.declared.sink.Sink.{Ghosts}
use Rattle.md_streams.specs.Sink.{Flushes, Puts}
use Rattle.md_streams.proofs.Puts.{puts_nothing, puts_then}
use Rattle.md_laws.proofs.Runs.Rests.{rests_same}
use Rattle.md_state.specs.View.{MirrorView}
use Rattle.md_refusals.specs.declared.fault.CommandFault.{CommandFault}
use Rattle.md_refusals.specs.declared.fault.CommandFault.TheVariants.{NoPieceMemory, OutputFault}
use Rattle.md_streams.specs.declared.gaps.Gaps.{Gaps}
use Rattle.md_read_commands.specs.declared.way.Way.{Way}
use Rattle.md_read_commands.specs.Filling.{FillsMore, FillsSome, FillsSomeMore, FillsUnnoted, IsClear, PutsFilled, PutsFilledPiece, RefusesFilled, RefusesFilledPiece}
use Rattle.md_streams.specs.Gaps.{HasNoGaps, no_gaps}
use Rattle.md_read_commands.proofs.Filled.{clear_after, filled, fills_noted, fills_nothing, fills_then}
use Rattle.md_read_commands.proofs.Noted.{bad_both, no_gaps_is}

module _ {S : Type 0} (o : Ghosts S) (way : Way) (sector : ℕ) where
  -- so many sectors were filled and put out
  pub record FilledSoFar (sectors : ℕ) (gaps : Gaps) (old new : MirrorView) (before after : S) : Type 0 where
    pub bytes : List ℕ
    pub many : length bytes ≡ 512 * sectors
    pub more : FillsMore way sector bytes no_gaps gaps old new
    pub puts : Puts o.contents o.failed before after bytes

  pub puts_first : (gaps : Gaps) → HasNoGaps gaps → (v : MirrorView) (out : S) → FilledSoFar 0 gaps v v out out
  puts_first gaps none v out = record {
    bytes = [];
    many = refl;
    more = subst (λ (m : Gaps). FillsMore way sector [] no_gaps m v v) (sym (no_gaps_is gaps none)) (fills_nothing way sector no_gaps v v (rests_same v));
    puts = puts_nothing o.contents o.failed out;
  }

  -- there is no memory for a piece
  pub no_piece : (count : ℕ) (gaps : Gaps) → HasNoGaps gaps → (v : MirrorView) (out : S) → RefusesFilled o way sector count gaps v v out out NoPieceMemory
  no_piece count gaps none v out = inl (record { none = none; unread = refl; unwritten = refl })

  module _ (gaps : Gaps) (old new : MirrorView) (before after : S) where
    -- the end of the range
    pub puts_all : (count : ℕ) (last : S) → FilledSoFar count gaps old new before last → Flushes o.contents o.failed o.is_flushed last after → PutsFilled o way sector count gaps old new before after
    puts_all count last so_far flushes = record {
      bytes = so_far.bytes;
      many = so_far.many;
      filled = filled way sector so_far.bytes gaps old new so_far.more;
      shown = record {
        puts = subst (λ (b : List ℕ). Puts o.contents o.failed before after b) (append-nil so_far.bytes) (puts_then o.contents o.failed so_far.puts flushes.puts);
        flushed = flushes.flushed;
      };
    }

    pub not_flushed : (count : ℕ) (last : S) → FilledSoFar count gaps old new before last → o.failed after ≡ true → RefusesFilled o way sector count gaps old new before after OutputFault
    not_flushed count last so_far failed = (
      record { bytes = so_far.bytes; few = let many = so_far.many in omega arith; filled = filled way sector so_far.bytes gaps old new so_far.more },
      failed,
    )

  -- ---- one piece more
  module _ (done : ℕ) (was : Gaps) (old mid : MirrorView) (before between : S) (so_far : FilledSoFar done was old mid before between) where
    abbrev b : List ℕ
    b = so_far.bytes

    here : sector + done ≡ sector + length b / 512
    here = let many = so_far.many in omega arith

    pub clear_next : IsClear was (sector + done)
    clear_next = subst (λ (s : ℕ). IsClear was s) (sym here) (clear_after way sector b no_gaps was old mid so_far.more (λ s gap. elim gap [ inl bad ↦ absurd bad | inr bad ↦ absurd bad ]))

    module _ (gaps : Gaps) (new : MirrorView) (after : S) (sectors : ℕ) where
      then_more : (piece : List ℕ) → FillsMore way (sector + done) piece was gaps mid new → FillsMore way sector (b ++ piece) no_gaps gaps old new
      then_more piece more = fills_then way sector b piece no_gaps was gaps old mid new so_far.more (subst (λ (s : ℕ). FillsMore way s piece was gaps mid new) here more)

      pub puts_more : (piece : List ℕ) → length piece ≡ 512 * sectors → PutsFilledPiece o way (sector + done) piece was gaps mid new between after → FilledSoFar (done + sectors) gaps old new before after
      puts_more piece long puts = record {
        bytes = b ++ piece;
        many = let many = so_far.many in length-append b piece ∙ omega arith;
        more = then_more piece puts.more;
        puts = puts_then o.contents o.failed so_far.puts puts.puts;
      }

      module _ (count : ℕ) (within : done + sectors ≤ count) where
        some_more : (some : FillsSomeMore way (sector + done) sectors was gaps mid new) → length (b ++ some.bytes) ≤ 512 * count
        some_more some = let many = so_far.many in let few = some.few in let long = length-append b some.bytes in omega arith

        abbrev fills_some : (some : FillsSomeMore way (sector + done) sectors was gaps mid new) → FillsSome way sector count gaps old new
        fills_some some = record { bytes = b ++ some.bytes; few = some_more some; filled = filled way sector (b ++ some.bytes) gaps old new (then_more some.bytes some.more) }

        until : FillsUnnoted way (sector + done) sectors was gaps mid new → after ≡ between → RefusesFilled o way sector count gaps old new before after NoPieceMemory
        until h same =
            let all : Gaps = record { missing = was.missing ++ h.gaps.missing; others = was.others ++ h.gaps.others } in
            let both_missing = bad_both was.missing h.gaps.missing in
            let both_others = bad_both was.others h.gaps.others in
            let more : FillsMore way (sector + done) h.bytes was all mid new =
            fills_noted way (sector + done) h.bytes was h.gaps all mid new h.more clear_next (both_missing, both_others) in
            let many = so_far.many in
            let few = h.few in
            let long = length-append b h.bytes in
            let inside = (filled way (sector + done) h.bytes h.gaps mid new h.more).within in
            inr (record {
              gaps = all;
              put = record {
                some = record {
                  bytes = b ++ h.bytes;
                  few = omega arith;
                  filled = filled way sector (b ++ h.bytes) all old new
                      (fills_then way sector b h.bytes no_gaps was all old mid new so_far.more (subst (λ (s : ℕ). FillsMore way s h.bytes was all mid new) here more));
                };
                taken = length b;
                puts = subst (λ (x : S). Puts o.contents o.failed before x (take (length b) (b ++ h.bytes))) (sym same)
                    (subst (λ (xs : List ℕ). Puts o.contents o.failed before between xs) (sym (take-append_seam b h.bytes)) so_far.puts);
              };
              told = λ s low. (
                λ bad. h.part.0.0 s (elim ((both_missing s).0 bad) [
                  | inl early ↦ early
                  | inr late ↦ let from = (inside s (inl late)).0 in absurd (omega arith)
                ]),
                λ bad. h.part.1.0 s (elim ((both_others s).0 bad) [
                  | inl early ↦ early
                  | inr late ↦ let from = (inside s (inr late)).0 in absurd (omega arith)
                ]),
              );
              only = λ s. (λ bad. (both_missing s).1 (h.part.0.1 s bad), λ bad. (both_others s).1 (h.part.1.1 s bad));
              s = h.s;
              lacks = elim h.lacks [ inl bad ↦ inl ((both_missing h.s).1 (inr bad)) | inr bad ↦ inr ((both_others h.s).1 (inr bad)) ];
              from = let from = (inside h.s h.lacks).0 in omega arith;
            })

        pub refuses_more : (n : ℕ) → n ≡ sectors → (fault : CommandFault) → RefusesFilledPiece o way (sector + done) n was gaps mid new between after fault → RefusesFilled o way sector count gaps old new before after fault
        refuses_more n same NoPieceMemory h =
            until (subst (λ (k : ℕ). FillsUnnoted way (sector + done) k was gaps mid new) same h.0) h.1
        refuses_more n same OutputFault h = (fills_some (subst (λ (k : ℕ). FillsSomeMore way (sector + done) k was gaps mid new) same h.0), h.1)
        refuses_more n same fault h = absurd h
