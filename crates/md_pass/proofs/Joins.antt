-- What waits to be written, and what the target holds once it is.
use Rattle.std.proofs.Common.{◌≡◌, ℕ, ◌+◌, ◌*◌, ◌<◌, ◌≤◌, ◌==◌, ◌++◌, ◌∷◌, [], Bool, true, false, not, List, Option, None, Some, cond, min, take, drop, length, length-append, length-take-le, take-append-drop, take_at, append_assoc, inl, inr, refl, ap, sym, ◌∙◌, arith, subst}
use Rattle.std.proofs.lemmas.Bool.{eqb-true}
use Rattle.md_bitmap.specs.declared.chunks.Chunks.{Chunks}
use Rattle.md_bitmap.specs.Marks.{is_set}
use Rattle.md_device.specs.Splice.{SameOutside, part, spliced}
use Rattle.md_device.specs.Device.{written}
use Rattle.md_device.proofs.Splices.{drop-spliced, length-spliced, spliced_outside}
use Rattle.md_collect.specs.Places.{HasRoom, IsChunk, bytes_of_chunk, start_of, with_chunk}
use Rattle.md_collect.specs.Reports.{ReportView, has_length, is_planned, with_report}
use Rattle.md_collect.specs.Targets.{ChangesChunk}
use Rattle.md_collect.specs.declared.refusal.Refusal.TheVariants.{Double, Length, Spoiled, Stranger}
use Rattle.md_collect.specs.Collecting.{CollectorView, copying, report_refusal}
use Rattle.md_collect.proofs.WorkerLemmas.Tests.{other_number}
use Rattle.md_pass.specs.Beside.{LiesBesideChunk}
use Rattle.md_pass.specs.Joining.{FitsOn, Follows, GrowsByChunk, IsFollowed, JoinedView, LiesBesideJoined, TakesOneReport, as_if_written, joined_with}
use Rattle.md_pass.proofs.ChunkPlaces.{chunk_start}

-- a list in which nothing was replaced
spliced_none : (xs : List ℕ) (at : ℕ) → spliced xs at [] ≡ xs
unfolding spliced
spliced_none xs at = ap (λ n. take at xs ++ drop n xs) (let z : at + 0 ≡ at = omega arith in z) ∙ take-append-drop at xs

-- one part after another
spliced_more : (xs : List ℕ) (at : ℕ) (ys zs : List ℕ) → at + length ys ≤ length xs → spliced xs at (ys ++ zs) ≡ spliced (spliced xs at ys) (at + length ys) zs
unfolding spliced
spliced_more xs at ys zs fits =
    let front = take at xs in
    let back = drop (at + length ys) xs in
    let last = drop (at + length ys + length zs) xs in
    let both : length (front ++ ys) ≡ at + length ys = length-append front ys ∙ ap (λ n. n + length ys) (length-take-le at xs (omega (arith, fits))) in
    let first : take (at + length ys) (front ++ (ys ++ back)) ≡ front ++ ys = ap (take (at + length ys)) (sym (append_assoc front ys back)) ∙ take_at (front ++ ys) back (at + length ys) both in
    let rest : drop (at + length ys + length zs) (front ++ (ys ++ back)) ≡ last = drop-spliced xs at ys (at + length ys + length zs) (omega arith) (omega (arith, fits)) in
    let n : at + length (ys ++ zs) ≡ at + length ys + length zs = ap (λ k. at + k) (length-append ys zs) ∙ omega arith in
    ap (λ k. front ++ ((ys ++ zs) ++ drop k xs)) n
    ∙ ap (λ t. front ++ t) (append_assoc ys zs last)
    ∙ sym (append_assoc front ys (zs ++ last))
    ∙ ap (λ t. t ++ (zs ++ last)) (sym first)
    ∙ ap (λ t. take (at + length ys) (front ++ (ys ++ back)) ++ (zs ++ t)) (sym rest)

pub outside_none : (at : ℕ) (xs ys : List ℕ) → SameOutside at 0 xs ys → ys ≡ xs
outside_none at xs ys same =
    let after : drop at ys ≡ drop at xs = subst (λ n. drop n ys ≡ drop n xs) (let z : at + 0 ≡ at = omega arith in z) same.after in
    sym (take-append-drop at ys) ∙ ap (λ t. t ++ drop at ys) same.before ∙ ap (λ t. take at xs ++ t) after ∙ take-append-drop at xs

pub part_none : (xs ys : List ℕ) (at : ℕ) → part xs at 0 ≡ part ys at 0
unfolding part
part_none xs ys at = refl

pub nothing_waits : (content : List ℕ) (joined : JoinedView) → joined.run ≡ [] → as_if_written content joined ≡ content
nothing_waits content joined none = ap (spliced content (512 * joined.start)) none ∙ spliced_none content (512 * joined.start)

pub same_size : (content : List ℕ) (joined : JoinedView) → FitsOn content joined → length (as_if_written content joined) ≡ length content
same_size content joined fits = length-spliced content (512 * joined.start) joined.run fits

some_wait : (x : ℕ) (xs : List ℕ) → (length (x ∷ xs) == 0) ≡ false
some_wait x xs = other_number (length (x ∷ xs)) 0 (λ e. absurd (omega (arith, e)))

-- bytes that wait with the others stand behind them
pub one_more : (content : List ℕ) (joined : JoinedView) (sector : ℕ) (bytes : List ℕ) → Follows joined sector bytes → FitsOn content joined
    → as_if_written content (joined_with joined sector bytes) ≡ written (as_if_written content joined) sector bytes
one_more content joined sector bytes follows fits = by joined.run refl
  where
    by : (o : List ℕ) → joined.run ≡ o → as_if_written content (record { start = cond (length o == 0) sector joined.start; run = o ++ bytes }) ≡ written (as_if_written content joined) sector bytes
    by [] e = ap (λ xs. spliced xs (512 * sector) bytes) (sym (nothing_waits content joined e))
    by (x ∷ xs) e =
        rw (some_wait x xs) (elim follows [
          | inl none ↦ absurd (let z : x ∷ xs ≡ [] = sym e ∙ none in cc)
          | inr behind ↦
              let (at, room, short) = behind in
              subst (λ o. as_if_written content (record { start = joined.start; run = o ++ bytes }) ≡ written (as_if_written content joined) sector bytes) e
              (spliced_more content (512 * joined.start) joined.run bytes fits ∙ ap (λ n. spliced (as_if_written content joined) n bytes) (sym at))
        ])

pub fits_more : (content : List ℕ) (joined : JoinedView) (sector : ℕ) (bytes : List ℕ) → Follows joined sector bytes → 512 * sector + length bytes ≤ length content
    → FitsOn content (joined_with joined sector bytes)
fits_more content joined sector bytes follows within = by joined.run refl
  where
    by : (o : List ℕ) → joined.run ≡ o → FitsOn content (record { start = cond (length o == 0) sector joined.start; run = o ++ bytes })
    by [] e = within
    by (x ∷ xs) e =
        rw (some_wait x xs) (elim follows [
          | inl none ↦ absurd (let z : x ∷ xs ≡ [] = sym e ∙ none in cc)
          | inr behind ↦
              let (at, room, short) = behind in
              let n = length-append (x ∷ xs) bytes in
              let m = ap length e in
              omega (arith, at, n, m, within)
        ])

-- they are the chunk's
pub grown : (v : CollectorView) (chunk : ℕ) (joined : JoinedView) (bytes : List ℕ) → Follows joined (v.offset + start_of v.chunks chunk) bytes → length bytes ≡ bytes_of_chunk v.chunks chunk
    → GrowsByChunk v chunk true joined (joined_with joined (v.offset + start_of v.chunks chunk) bytes)
grown v chunk joined bytes follows whole = λ at m some before beside. by joined.run refl at m some before (beside refl)
  where
    by : (o : List ℕ) → joined.run ≡ o → (at m : ℕ) → 0 < m → LiesBesideJoined at m joined → LiesBesideChunk v.chunks v.offset at m chunk
        → LiesBesideJoined at m (record { start = cond (length o == 0) (v.offset + start_of v.chunks chunk) joined.start; run = o ++ bytes })
    by [] e at m some before beside = λ waits. elim beside [ inl below ↦ inl below | inr above ↦ inr (omega (arith, above, whole)) ]
    by (x ∷ xs) e at m some before beside =
        let n = length-append (x ∷ xs) bytes in
        let long = ap length e in
        rw (some_wait x xs) (elim follows [
          | inl none ↦ absurd (let z : x ∷ xs ≡ [] = sym e ∙ none in cc)
          | inr behind ↦
              let (next, room, short) = behind in
              λ waits.
              elim (before (omega (arith, long))) [
                | inl below ↦ inl below
                | inr above ↦ elim beside [ inl under ↦ absurd (omega (arith, next, above, under, some)) | inr over ↦ inr (omega (arith, next, n, long, over, whole)) ]
              ]
        ])

-- the chunk lies on the target
pub chunk_within : (chunks : Chunks) (offset c : ℕ) (content : List ℕ) → HasRoom content offset chunks → IsChunk chunks c → 512 * (offset + start_of chunks c) + bytes_of_chunk chunks c ≤ length content
chunk_within chunks offset c content room is =
    let start = chunk_start chunks c is in
    let least : min ((c + 1) * chunks.sectors) chunks.size ≤ chunks.size = omega arith in
    omega (arith, room, start, least)

last_reason : {X : Type 0} (a b c d : Bool) (w x y z : X) → cond a (Some w) (cond b (Some x) (cond c (Some y) (cond d (Some z) None))) ≡ None → d ≡ false
last_reason true b c d w x y z none = cc
last_reason false true c d w x y z none = cc
last_reason false false true d w x y z none = cc
last_reason false false false true w x y z none = cc
last_reason false false false false w x y z none = refl

-- the bytes of a report that counts
pub whole_bytes : (v : CollectorView) (r : ReportView) (bytes : List ℕ) → report_refusal v r ≡ None → r.bytes ≡ Some bytes → length bytes ≡ bytes_of_chunk v.chunks r.chunk
whole_bytes v r bytes counts e =
    let long = last_reason v.spoiled (not (is_planned v.slots r.chunk r.source)) (is_set v.reported.bytes r.chunk) (not (has_length v.chunks r)) Spoiled Stranger Double Length counts in
    eqb-true (length bytes) (bytes_of_chunk v.chunks r.chunk) (by r.bytes e ∙ twice (has_length v.chunks r) long)
  where
    twice : (b : Bool) → not b ≡ false → b ≡ true
    twice true h = refl
    twice false h = cc

    by : (o : Option (List ℕ)) → o ≡ Some bytes → (length bytes == bytes_of_chunk v.chunks r.chunk) ≡ has_length v.chunks (record r { bytes = o })
    by o e' = rw e' refl

report_written : (v : CollectorView) (old : List ℕ) (r : ReportView) (bytes : List ℕ) → r.bytes ≡ Some bytes → with_report (copying v) old r ≡ written old (v.offset + start_of v.chunks r.chunk) bytes
unfolding with_chunk
report_written v old r bytes e = by r.bytes e
  where
    by : (o : Option (List ℕ)) → o ≡ Some bytes → with_report (copying v) old (record r { bytes = o }) ≡ written old (v.offset + start_of v.chunks r.chunk) bytes
    by o e' = rw e' refl

-- a short chunk's bytes wait
pub short_taken : (honest : Bool) (v : CollectorView) (r : ReportView) (bytes content : List ℕ) (joined : JoinedView) (sector : ℕ) → sector ≡ v.offset + start_of v.chunks r.chunk → IsFollowed v joined r → r.bytes ≡ Some bytes
    → report_refusal v r ≡ None → IsChunk v.chunks r.chunk → HasRoom content v.offset v.chunks → FitsOn content joined → TakesOneReport honest v r content content joined (joined_with joined sector bytes)
short_taken honest v r bytes content joined sector there followed e counts chunk room fits =
    rw there (
    let follows = followed bytes e in
    let place = v.offset + start_of v.chunks r.chunk in
    let whole = whole_bytes v r bytes counts e in
    let within = chunk_within v.chunks v.offset r.chunk content room chunk in
    let size = same_size content joined fits in
    let more = one_more content joined place bytes follows fits in
    record {
      changes = subst (λ t. ChangesChunk v r.chunk (as_if_written content joined) t) (sym more) (spliced_outside (as_if_written content joined) (512 * place) bytes (bytes_of_chunk v.chunks r.chunk) (sym whole) (omega (arith, within, size)));
      unwritten = λ none. absurd (let z : Some bytes ≡ None = sym e ∙ none in cc);
      holds = λ h. more ∙ sym (report_written v (as_if_written content joined) r bytes e);
      fits = fits_more content joined place bytes follows (omega (arith, within, whole));
      grows = λ at m some before beside. grown v r.chunk joined bytes follows whole at m some before (λ t. beside (rw e refl));
    }
    )

-- a long chunk's bytes were written, and so were none where the read failed
pub long_taken : (honest : Bool) (v : CollectorView) (r : ReportView) (content content' : List ℕ) (joined : JoinedView) → IsFollowed v joined r → ((bytes : List ℕ) → r.bytes ≡ Some bytes → 65536 ≤ length bytes) → (r.bytes ≡ None → content' ≡ content)
    → ChangesChunk v r.chunk content content' → (honest ≡ true → content' ≡ with_report (copying v) content r) → FitsOn content joined → TakesOneReport honest v r content content' joined joined
long_taken honest v r content content' joined followed many unwritten changes holds fits = by r.bytes refl
  where
    by : (o : Option (List ℕ)) → r.bytes ≡ o → TakesOneReport honest v r content content' joined joined
    by None e =
        rw (unwritten e) (
        record {
          changes = record { size = refl; before = refl; after = refl };
          unwritten = λ none. refl;
          holds = λ h. rw e refl;
          fits = fits;
          grows = λ at m some before beside. before;
        }
        )
    by (Some bytes) e =
        let none : joined.run ≡ [] = elim (followed bytes e) [ inl none ↦ none | inr behind ↦ absurd (let (at, room, short) = behind in let long = many bytes e in omega (arith, short, long)) ] in
        let before = nothing_waits content joined none in
        let after = nothing_waits content' joined none in
        record {
          changes = rw (before, after) changes;
          unwritten = λ no. absurd (let z : Some bytes ≡ None = sym e ∙ no in cc);
          holds = λ h. rw (before, after) (holds h);
          fits = (let size = changes.size in omega (arith, fits, size));
          grows = λ at m some beside other. beside;
        }
