-- Sectors are read, and those that are not given are filled.
use Rattle.std.proofs.Common.{◌≡◌, ◌∙◌, ◌⊎◌, ◌↔◌, inl, inr, ℕ, ◌+◌, ◌*◌, ◌-◌, ◌/◌, ◌%◌, ◌<◌, ◌≤◌, ◌^◌, false, List, [], ◌∷◌, ◌++◌, length, replicate, take, Ok, refl, sym, ap, subst, arith, length-append, append-nil}
use Rattle.std.proofs.lemmas.Bool.{cases_lt}
use Rattle.std.proofs.lemmas.List.{length-replicate, length-take-le, take_all}
use Rattle.std.proofs.lemmas.Option.{slice_get_within}
use Rattle.md_badblocks.specs.declared.run.Run.{Run}
use Rattle.md_badblocks.specs.Runs.{IsBad}
use Rattle.md_device.specs.Device.{held}
use Rattle.md_device.specs.Splice.{part}
use Rattle.md_array.specs.Consistency.{IsConsistent}
use Rattle.md_array.specs.Worlds.{AreHonest, world_of}
use Rattle.md_array.proofs.General.Resting.{geometry_rests, world_rests}
use Rattle.md_array.proofs.Worlds.PartsApart.{ends_below}
use Rattle.md_assembly.proofs.Indices.{got_within}
use Rattle.md_model.specs.Content.{HoldsAtRest}
use Rattle.md_model.specs.Sectors.{Geometry}
use Rattle.md_model.specs.Worlds.{IsQuiet, World}
use Rattle.md_laws.proofs.Runs.Rests.{rests_same, rests_then}
use Rattle.md_read.specs.declared.fault.UnreadFault.TheVariants.{Unreadable}
use Rattle.md_read.specs.declared.unresynced_fault.UnresyncedFault.TheVariants as unresynced
use Rattle.md_read.specs.Reading.{NoneGives, RefusesRead}
use Rattle.md_read.specs.Unresynced.{EndsAt, MayReadSectors, NoneGivesPart, SourceFails}
use Rattle.md_read.proofs.PartsInTurn.{given_rests}
use Rattle.md_read.proofs.ReadAnswers.{read_answer}
use Rattle.md_read.proofs.RunsInTurn.{gives_rests}
use Rattle.md_read.proofs.SectorsGiven.{held_end, held_front, length-replaced, take-replaced}
use borrow.Rule.Slice.PartMut.{put_mid}
use Rattle.md_resync.specs.declared.fault.ResyncFault.TheVariants.{ReadFault}
use Rattle.md_state.specs.Rests.{Rests}
use Rattle.md_state.specs.Requests.{AreInFlight}
use Rattle.md_state.specs.View.{ArrayView, MirrorView, geometry_of}
use Rattle.md_refusals.specs.declared.fault.CommandFault.{CommandFault}
use Rattle.md_refusals.specs.declared.fault.CommandFault.TheVariants.{Read, Resync}
use Rattle.md_streams.specs.declared.gaps.Gaps.{Gaps}
use Rattle.md_read_commands.specs.declared.way.Way.{Way}
use Rattle.md_read_commands.specs.declared.way.Way.TheVariants.{Resynced, Unresynced}
use Rattle.md_read_commands.specs.Filling.{FillsBlock, FillsContent, FillsFront, FillsMore, IsClear, IsFilled, IsGivenByRead, NotesOne, zeros}
use Rattle.md_streams.specs.Gaps.{AreFit, AreFitGaps, HasBothGaps, IsGap, IsKeptAt, IsSameAt, no_gaps}
use Rattle.md_read_commands.specs.Others.{IsGivenByNoneInSync, IsGivenByOther, IsGivenByStandIn, IsNotGiven, IsTakenFromOther, IsTakenFromStandIn}
use Rattle.md_nbd.specs.declared.server.store.StoreFault.TheVariants.{Lacks}
use Rattle.md_read_commands.specs.Serving.{LacksAsTold, LacksSector}
use Rattle.md_read_commands.specs.Ways.{EndsReading, ReadsBy}
use Rattle.md_read_commands.proofs.Noted.{bad_both}
use Rattle.md_read_commands.proofs.OtherMembers.{first_stand_in_earlier, gives_other_earlier, no_other_earlier, nobody_gives, none_gives_later, none_gives_part_later, none_rests, source_fails_later}
use Rattle.md_read_commands.proofs.Ways.{reads_rests, reads_some}

-- what a buffer is filled with
pub zeros_are : (n : ℕ) → n ≡ 512 → replicate n 0 ≡ zeros
unfolding zeros
zeros_are n is = ap (λ (k : ℕ). replicate k 0) is

zeros_long : length zeros ≡ 512
unfolding zeros
zeros_long = length-replicate {A = ℕ} 512 0

-- a sector alone is all of its bytes
sector_alone : (bytes : List ℕ) → length bytes ≡ 512 → held bytes 0 512 ≡ bytes
unfolding part
sector_alone bytes long = take_all 512 bytes (omega arith)

-- no device is longer, so that no sector of the array is left out of a set
pub size_fits : (v : MirrorView) → IsConsistent v → v.array.halted ≡ false → v.array.chunks.size ≤ 2 ^ 54
size_fits v sound running =
    let on = sound.roles.serving running in
    let low = ends_below v sound on.0 on.1 on.2.member in
    omega arith

-- a list with one sector more
pub noted_one : (s : ℕ) (was : List Run) (run : Run) → run.start ≡ s → run.len ≡ 1 → (t : ℕ) → IsBad (was ++ run ∷ []) t ↔ (IsBad was t ⊎ (t ≡ s))
noted_one s was run start one t = (
  λ bad. elim ((bad_both was (run ∷ []) t).0 bad) [
    | inl earlier ↦ inl earlier
    | inr last ↦ elim last [
      | inl here ↦ let low = here.0 in let high = here.1 in inr (omega arith)
      | inr never ↦ absurd never
    ]
  ],
  λ bad. (bad_both was (run ∷ []) t).1 (elim bad [
    | inl earlier ↦ inl earlier
    | inr same ↦ inr (inl (omega arith, omega arith))
  ]),
)

-- the same is known of a sector
pub same_at : (gaps : Gaps) (s : ℕ) → IsSameAt gaps gaps s
same_at gaps s = ((λ bad. bad, λ bad. bad), (λ bad. bad, λ bad. bad))

-- two sets are one
same_set : (now was : List Run) (s : ℕ) → now ≡ was → IsBad now s ↔ IsBad was s
same_set now was s same = (λ bad. subst (λ (l : List Run). IsBad l s) same bad, λ bad. subst (λ (l : List Run). IsBad l s) (sym same) bad)

-- one that is a gap in the one is a gap in the other
pub gap_kept : (one other : Gaps) (s : ℕ) → IsKeptAt one other s → IsGap one s → IsGap other s
gap_kept one other s kept gap = elim gap [ inl bad ↦ inl (kept.0 bad) | inr bad ↦ inr (kept.1 bad) ]

same_kept : (one other : Gaps) (s : ℕ) → IsSameAt one other s → IsKeptAt one other s
same_kept one other s same = (λ bad. same.0.0 bad, λ bad. same.1.0 bad)

kept_back : (one other : Gaps) (s : ℕ) → IsSameAt one other s → IsKeptAt other one s
kept_back one other s same = (λ bad. same.0.1 bad, λ bad. same.1.1 bad)

module _ (way : Way) where
  -- ---- between views further apart
  given_wider : (s : ℕ) (block : List ℕ) (first old new last : MirrorView) → Rests first old → IsGivenByRead way s block old new → Rests new last → IsGivenByRead way s block first last
  given_wider s block first old new last before g after = record {
    mid = g.mid;
    later = g.later;
    before = rests_then first old g.mid before g.before;
    from = g.from;
    bytes = g.bytes;
    reads = g.reads;
    after = rests_then g.later new last g.after after;
    low = g.low;
    high = g.high;
    is = g.is;
  }

  -- ---- the first of them
  pub fills_nothing : (sector : ℕ) (was : Gaps) (old new : MirrorView) → Rests old new → FillsMore way sector [] was was old new
  fills_nothing sector was old new rests = record {
    fills = record {
      whole = refl;
      rests = rests;
      given = λ i low free. absurd (omega arith);
      apart = λ i low missing other. absurd (omega arith);
      asked = λ _. old;
      over = λ _. old;
      begins = λ i low. rests_same old;
      within = λ i low. rests_same old;
      ends = λ i low. rests;
      in_turn = λ i j before low. rests_same old;
      lost = λ i low bad. absurd (omega arith);
      taken = λ i low bad. absurd (omega arith);
    };
    outside = λ s out. same_at was s;
  }

  -- sectors that a read gave
  pub read_fills : (sector : ℕ) (bytes : List ℕ) (was : Gaps) (old new : MirrorView) → length bytes % 512 ≡ 0 → Rests old new → (0 < length bytes / 512 → ReadsBy way sector bytes old new) → IsClear was sector
      → FillsMore way sector bytes was was old new
  read_fills sector bytes was old new whole rests reads clear = record {
    fills = record {
      whole = whole;
      rests = rests;
      given = λ i low free. record {
        mid = old;
        later = new;
        before = rests_same old;
        from = sector;
        bytes = bytes;
        reads = reads (omega arith);
        after = rests_same new;
        low = omega arith;
        high = omega arith;
        is = let at : i ≡ sector + i - sector = omega arith in ap (λ (n : ℕ). held bytes n 512) at;
      };
      apart = λ i low missing other. let early = clear (sector + i) (inl missing) in absurd (omega arith);
      asked = λ _. old;
      over = λ _. old;
      begins = λ i low. rests_same old;
      within = λ i low. rests_same old;
      ends = λ i low. rests;
      in_turn = λ i j before low. rests_same old;
      lost = λ i low bad. let early = clear (sector + i) (inl bad) in absurd (omega arith);
      taken = λ i low bad. let early = clear (sector + i) (inr bad) in absurd (omega arith);
    };
    outside = λ s out. same_at was s;
  }

  -- one that was not given
  module _ (sector : ℕ) (block : List ℕ) (long : length block ≡ 512) (was gaps : Gaps) (old new : MirrorView) (asked : Rests old new) (gap : IsGap gaps sector)
      (apart : IsBad gaps.missing sector → IsBad gaps.others sector → ⊥)
      (lost : IsBad gaps.missing sector → (block ≡ zeros) × IsNotGiven way sector old new × NoneGives sector old new)
      (taken : IsBad gaps.others sector → IsTakenFromOther way sector block old new)
      (outside : (t : ℕ) → (t ≡ sector → ⊥) → IsSameAt gaps was t) where
    -- it is the only one
    the_one : (i : ℕ) → i < length block / 512 → (i ≡ 0) × (sector ≡ sector + i)
    the_one i low = (omega arith, omega arith)

    its_bytes : (i : ℕ) → i < length block / 512 → block ≡ held block i 512
    its_bytes i low = sym (subst (λ (n : ℕ). held block n 512 ≡ block) (sym (the_one i low).0) (sector_alone block long))

    here : (set : List Run) (i : ℕ) → i < length block / 512 → IsBad set (sector + i) → IsBad set sector
    here set i low bad = subst (λ (s : ℕ). IsBad set s) (sym (the_one i low).1) bad

    lost_here : (i : ℕ) → i < length block / 512 → IsBad gaps.missing (sector + i) → (held block i 512 ≡ zeros) × IsNotGiven way (sector + i) old new × NoneGives (sector + i) old new
    lost_here i low bad =
        let is = lost (here gaps.missing i low bad) in (
          sym (its_bytes i low) ∙ is.0,
          subst (λ (s : ℕ). IsNotGiven way s old new) (the_one i low).1 is.1,
          subst (λ (s : ℕ). NoneGives s old new) (the_one i low).1 is.2,
        )

    taken_here : (i : ℕ) → i < length block / 512 → IsBad gaps.others (sector + i) → IsTakenFromOther way (sector + i) (held block i 512) old new
    taken_here i low bad =
        subst (λ (b : List ℕ). IsTakenFromOther way (sector + i) b old new) (its_bytes i low)
        (subst (λ (s : ℕ). IsTakenFromOther way s block old new) (the_one i low).1 (taken (here gaps.others i low bad)))

    one_fills : FillsMore way sector block was gaps old new
    one_fills = record {
      fills = record {
        whole = omega arith;
        rests = asked;
        given = λ i low free. absurd (free (subst (λ (s : ℕ). IsGap gaps s) (the_one i low).1 gap));
        apart = λ i low missing other. apart (here gaps.missing i low missing) (here gaps.others i low other);
        asked = λ _. old;
        over = λ _. new;
        begins = λ i low. rests_same old;
        within = λ i low. asked;
        ends = λ i low. rests_same new;
        in_turn = λ i j before low. absurd (omega arith);
        lost = lost_here;
        taken = taken_here;
      };
      outside = λ s out. outside s (λ same. elim out [ inl low ↦ absurd (omega arith) | inr high ↦ absurd (omega arith) ]);
    }

  -- it is noted
  module _ (s : ℕ) (was now : List Run) (notes : NotesOne s was now) where
    noted_here : IsBad now s
    noted_here = (notes.noted s).1 (inr refl)

    noted_elsewhere : (t : ℕ) → (t ≡ s → ⊥) → IsBad now t ↔ IsBad was t
    noted_elsewhere t other = (
      λ bad. elim ((notes.noted t).0 bad) [ inl earlier ↦ earlier | inr same ↦ absurd (other same) ],
      λ earlier. (notes.noted t).1 (inl earlier),
    )

  module _ (s : ℕ) (block : List ℕ) (long : length block ≡ 512) (was gaps : Gaps) (old new : MirrorView) (asked : Rests old new) (clear : IsClear was s) where
    -- as missing
    pub lost_fills : block ≡ zeros → IsNotGiven way s old new → NoneGives s old new → NotesOne s was.missing gaps.missing → gaps.others ≡ was.others → FillsMore way s block was gaps old new
    lost_fills is none nobody notes same =
        let not_other : IsBad gaps.others s → ⊥ = λ bad. let early = clear s (inr ((same_set gaps.others was.others s same).0 bad)) in absurd (omega arith) in
        one_fills s block long was gaps old new asked (inl (noted_here s was.missing gaps.missing notes))
        (λ missing other. not_other other)
        (λ bad. (is, none, nobody))
        (λ bad. absurd (not_other bad))
        (λ t other. (noted_elsewhere s was.missing gaps.missing notes t other, same_set gaps.others was.others t same))

    -- or as another member's
    pub taken_fills : IsTakenFromOther way s block old new → NotesOne s was.others gaps.others → gaps.missing ≡ was.missing → FillsMore way s block was gaps old new
    taken_fills taken notes same =
        let not_missing : IsBad gaps.missing s → ⊥ = λ bad. let early = clear s (inl ((same_set gaps.missing was.missing s same).0 bad)) in absurd (omega arith) in
        one_fills s block long was gaps old new asked (inr (noted_here s was.others gaps.others notes))
        (λ missing other. not_missing missing)
        (λ bad. absurd (not_missing bad))
        (λ bad. taken)
        (λ t other. (same_set gaps.missing was.missing t same, noted_elsewhere s was.others gaps.others notes t other))

  -- ---- one after another
  module _ (sector : ℕ) (xs ys : List ℕ) (was now gaps : Gaps) (old mid new : MirrorView) (first : FillsMore way sector xs was now old mid)
      (second : FillsMore way (sector + length xs / 512) ys now gaps mid new) where
    whole : length (xs ++ ys) % 512 ≡ 0
    whole = let long = length-append xs ys in let one = first.fills.whole in let two = second.fills.whole in omega arith

    count : length (xs ++ ys) / 512 ≡ length xs / 512 + length ys / 512
    count = let long = length-append xs ys in let one = first.fills.whole in let two = second.fills.whole in omega arith

    -- of the first sectors it stays known which were not given
    stays : (i : ℕ) → i < length xs / 512 → IsSameAt gaps now (sector + i)
    stays i low = second.outside (sector + i) (inl (omega arith))

    -- a later sector, by its place among the later ones
    module _ (i : ℕ) (low : i < length (xs ++ ys) / 512) (late : length xs / 512 ≤ i) where
      abbrev j : ℕ
      j = i - length xs / 512

      abbrev at : ℕ
      at = sector + length xs / 512 + j

      among : j < length ys / 512
      among = let many = count in omega arith

      place : at ≡ sector + i
      place = omega arith

      bytes_are : held ys j 512 ≡ held (xs ++ ys) i 512
      bytes_are =
          let there : length xs / 512 + j ≡ i = omega arith in
          sym (held_end xs ys j first.fills.whole) ∙ ap (λ (k : ℕ). held (xs ++ ys) k 512) there

      late_given : (IsGap gaps (sector + i) → ⊥) → IsGivenByRead way (sector + i) (held (xs ++ ys) i 512) old new
      late_given free =
          let here = second.fills.given j among (λ gap. free (subst (λ (s : ℕ). IsGap gaps s) place gap)) in
          subst (λ (s : ℕ). IsGivenByRead way s (held (xs ++ ys) i 512) old new) place
          (subst (λ (b : List ℕ). IsGivenByRead way at b old new) bytes_are
          (given_wider at (held ys j 512) old mid new new first.fills.rests here (rests_same new)))

      late_lost : IsBad gaps.missing (sector + i)
          → (held (xs ++ ys) i 512 ≡ zeros) × IsNotGiven way (sector + i) (second.fills.asked j) (second.fills.over j) × NoneGives (sector + i) (second.fills.asked j) (second.fills.over j)
      late_lost bad =
          let here = second.fills.lost j among (subst (λ (s : ℕ). IsBad gaps.missing s) (sym place) bad) in (
            sym bytes_are ∙ here.0,
            subst (λ (s : ℕ). IsNotGiven way s (second.fills.asked j) (second.fills.over j)) place here.1,
            subst (λ (s : ℕ). NoneGives s (second.fills.asked j) (second.fills.over j)) place here.2,
          )

      late_taken : IsBad gaps.others (sector + i) → IsTakenFromOther way (sector + i) (held (xs ++ ys) i 512) (second.fills.asked j) (second.fills.over j)
      late_taken bad =
          let here = second.fills.taken j among (subst (λ (s : ℕ). IsBad gaps.others s) (sym place) bad) in
          subst (λ (s : ℕ). IsTakenFromOther way s (held (xs ++ ys) i 512) (second.fills.asked j) (second.fills.over j)) place
          (subst (λ (b : List ℕ). IsTakenFromOther way at b (second.fills.asked j) (second.fills.over j)) bytes_are here)

      late_apart : IsBad gaps.missing (sector + i) → IsBad gaps.others (sector + i) → ⊥
      late_apart missing other =
          second.fills.apart j among (subst (λ (s : ℕ). IsBad gaps.missing s) (sym place) missing) (subst (λ (s : ℕ). IsBad gaps.others s) (sym place) other)

    -- when each was asked for
    abbrev n : ℕ
    n = length xs / 512

    abbrev asked_at : (i : ℕ) → (i < n) ⊎ (n ≤ i) → MirrorView
    asked_at i (inl early) = first.fills.asked i
    asked_at i (inr late) = second.fills.asked (i - n)

    abbrev over_at : (i : ℕ) → (i < n) ⊎ (n ≤ i) → MirrorView
    over_at i (inl early) = first.fills.over i
    over_at i (inr late) = second.fills.over (i - n)

    begins_at : (i : ℕ) → i < length (xs ++ ys) / 512 → (c : (i < n) ⊎ (n ≤ i)) → Rests old (asked_at i c)
    begins_at i low (inl early) = first.fills.begins i early
    begins_at i low (inr late) = rests_then old mid (second.fills.asked (i - n)) first.fills.rests (second.fills.begins (i - n) (let many = count in omega arith))

    within_at : (i : ℕ) → i < length (xs ++ ys) / 512 → (c : (i < n) ⊎ (n ≤ i)) → Rests (asked_at i c) (over_at i c)
    within_at i low (inl early) = first.fills.within i early
    within_at i low (inr late) = second.fills.within (i - n) (let many = count in omega arith)

    ends_at : (i : ℕ) → i < length (xs ++ ys) / 512 → (c : (i < n) ⊎ (n ≤ i)) → Rests (over_at i c) new
    ends_at i low (inl early) = rests_then (first.fills.over i) mid new (first.fills.ends i early) second.fills.rests
    ends_at i low (inr late) = second.fills.ends (i - n) (let many = count in omega arith)

    in_turn_at : (i j : ℕ) → i < j → j < length (xs ++ ys) / 512 → (c : (i < n) ⊎ (n ≤ i)) (d : (j < n) ⊎ (n ≤ j)) → Rests (over_at i c) (asked_at j d)
    in_turn_at i j before low (inl early) (inl too) = first.fills.in_turn i j before too
    in_turn_at i j before low (inl early) (inr late) =
        rests_then (first.fills.over i) mid (second.fills.asked (j - n)) (first.fills.ends i early) (second.fills.begins (j - n) (let many = count in omega arith))
    in_turn_at i j before low (inr late) (inl early) = absurd (omega arith)
    in_turn_at i j before low (inr late) (inr too) = second.fills.in_turn (i - n) (j - n) (omega arith) (let many = count in omega arith)

    lost_at : (i : ℕ) → i < length (xs ++ ys) / 512 → IsBad gaps.missing (sector + i) → (c : (i < n) ⊎ (n ≤ i))
        → (held (xs ++ ys) i 512 ≡ zeros) × IsNotGiven way (sector + i) (asked_at i c) (over_at i c) × NoneGives (sector + i) (asked_at i c) (over_at i c)
    lost_at i low bad (inl early) = let here = first.fills.lost i early ((stays i early).0.0 bad) in (held_front xs ys i early ∙ here.0, here.1, here.2)
    lost_at i low bad (inr late) = late_lost i low late bad

    taken_at : (i : ℕ) → i < length (xs ++ ys) / 512 → IsBad gaps.others (sector + i) → (c : (i < n) ⊎ (n ≤ i)) → IsTakenFromOther way (sector + i) (held (xs ++ ys) i 512) (asked_at i c) (over_at i c)
    taken_at i low bad (inl early) =
        subst (λ (b : List ℕ). IsTakenFromOther way (sector + i) b (first.fills.asked i) (first.fills.over i)) (sym (held_front xs ys i early)) (first.fills.taken i early ((stays i early).1.0 bad))
    taken_at i low bad (inr late) = late_taken i low late bad

    apart_at : (i : ℕ) → i < length (xs ++ ys) / 512 → (c : (i < n) ⊎ (n ≤ i)) → IsBad gaps.missing (sector + i) → IsBad gaps.others (sector + i) → ⊥
    apart_at i low (inl early) missing other = first.fills.apart i early ((stays i early).0.0 missing) ((stays i early).1.0 other)
    apart_at i low (inr late) missing other = late_apart i low late missing other

    given : (i : ℕ) → i < length (xs ++ ys) / 512 → (IsGap gaps (sector + i) → ⊥) → IsGivenByRead way (sector + i) (held (xs ++ ys) i 512) old new
    given i low free = elim (cases_lt i (length xs / 512)) [
      | inl early ↦
          subst (λ (b : List ℕ). IsGivenByRead way (sector + i) b old new) (sym (held_front xs ys i early))
          (given_wider (sector + i) (held xs i 512) old old mid new (rests_same old) (first.fills.given i early (λ gap. free (gap_kept now gaps (sector + i) (kept_back gaps now (sector + i) (stays i early)) gap))) second.fills.rests)
      | inr late ↦ late_given i low late free
    ]

    outside : (s : ℕ) → (s < sector) ⊎ (sector + length (xs ++ ys) / 512 ≤ s) → ((s < sector) ⊎ (sector + length xs / 512 ≤ s)) × ((s < sector + length xs / 512) ⊎ (sector + length xs / 512 + length ys / 512 ≤ s))
    outside s (inl low) = (inl low, inl (omega arith))
    outside s (inr high) = let many = count in (inr (omega arith), inr (omega arith))

    pub fills_then : FillsMore way sector (xs ++ ys) was gaps old new
    fills_then = record {
      fills = record {
        whole = whole;
        rests = rests_then old mid new first.fills.rests second.fills.rests;
        given = given;
        apart = λ i low missing other. apart_at i low (cases_lt i n) missing other;
        asked = λ i. asked_at i (cases_lt i n);
        over = λ i. over_at i (cases_lt i n);
        begins = λ i low. begins_at i low (cases_lt i n);
        within = λ i low. within_at i low (cases_lt i n);
        ends = λ i low. ends_at i low (cases_lt i n);
        in_turn = λ i j before low. in_turn_at i j before low (cases_lt i n) (cases_lt j n);
        lost = λ i low bad. lost_at i low bad (cases_lt i n);
        taken = λ i low bad. taken_at i low bad (cases_lt i n);
      };
      outside = λ s out.
          let a = first.outside s (outside s out).0 in
          let b = second.outside s (outside s out).1 in
          ((λ bad. a.0.0 (b.0.0 bad), λ bad. b.0.1 (a.0.1 bad)), (λ bad. a.1.0 (b.1.0 bad), λ bad. b.1.1 (a.1.1 bad)));
    }

  -- devices are read after it
  pub fills_later : (sector : ℕ) (bytes : List ℕ) (was gaps : Gaps) (old mid new : MirrorView) → FillsMore way sector bytes was gaps old mid → Rests mid new → FillsMore way sector bytes was gaps old new
  fills_later sector bytes was gaps old mid new first rests =
      subst (λ (b : List ℕ). FillsMore way sector b was gaps old new) (append-nil bytes)
      (fills_then sector bytes [] was gaps gaps old mid new first (fills_nothing (sector + length bytes / 512) gaps mid new rests))

  -- no sector after it is one that was not given
  pub clear_after : (sector : ℕ) (bytes : List ℕ) (was gaps : Gaps) (old new : MirrorView) → FillsMore way sector bytes was gaps old new → IsClear was sector → IsClear gaps (sector + length bytes / 512)
  clear_after sector bytes was gaps old new more clear s gap = elim (cases_lt s (sector + length bytes / 512)) [
    | inl low ↦ low
    | inr high ↦ let early = clear s (gap_kept gaps was s (same_kept gaps was s (more.outside s (inr high))) gap) in absurd (omega arith)
  ]

  -- what was not given was added to what was noted before
  pub fills_noted : (sector : ℕ) (bytes : List ℕ) (was holes gaps : Gaps) (old new : MirrorView) → FillsMore way sector bytes no_gaps holes old new → IsClear was sector → HasBothGaps was holes gaps
      → FillsMore way sector bytes was gaps old new
  fills_noted sector bytes was holes gaps old new h clear both =
      let missing_here : (i : ℕ) → IsBad gaps.missing (sector + i) → IsBad holes.missing (sector + i) = λ i bad. elim ((both.0 (sector + i)).0 bad) [
        | inl early ↦ let before = clear (sector + i) (inl early) in absurd (omega arith)
        | inr here ↦ here
      ] in
      let other_here : (i : ℕ) → IsBad gaps.others (sector + i) → IsBad holes.others (sector + i) = λ i bad. elim ((both.1 (sector + i)).0 bad) [
        | inl early ↦ let before = clear (sector + i) (inr early) in absurd (omega arith)
        | inr here ↦ here
      ] in
      record {
        fills = record {
          whole = h.fills.whole;
          rests = h.fills.rests;
          given = λ i low free. h.fills.given i low (λ gap. free (elim gap [ inl bad ↦ inl ((both.0 (sector + i)).1 (inr bad)) | inr bad ↦ inr ((both.1 (sector + i)).1 (inr bad)) ]));
          apart = λ i low missing other. h.fills.apart i low (missing_here i missing) (other_here i other);
          asked = h.fills.asked;
          over = h.fills.over;
          begins = h.fills.begins;
          within = h.fills.within;
          ends = h.fills.ends;
          in_turn = h.fills.in_turn;
          lost = λ i low bad. h.fills.lost i low (missing_here i bad);
          taken = λ i low bad. h.fills.taken i low (other_here i bad);
        };
        outside = λ s out. (
          (
            λ bad. elim ((both.0 s).0 bad) [ inl early ↦ early | inr here ↦ absurd ((h.outside s out).0.0 here) ],
            λ early. (both.0 s).1 (inl early),
          ),
          (
            λ bad. elim ((both.1 s).0 bad) [ inl early ↦ early | inr here ↦ absurd ((h.outside s out).1.0 here) ],
            λ early. (both.1 s).1 (inl early),
          ),
        );
      }

  -- where none was one before, none is but those
  none_before : (gaps : Gaps) (s : ℕ) → IsSameAt gaps no_gaps s → IsGap gaps s → ⊥
  none_before gaps s same gap = elim gap [ inl bad ↦ absurd (same.0.0 bad) | inr bad ↦ absurd (same.1.0 bad) ]

  pub filled : (sector : ℕ) (bytes : List ℕ) (gaps : Gaps) (old new : MirrorView) → FillsMore way sector bytes no_gaps gaps old new → IsFilled way sector bytes gaps old new
  filled sector bytes gaps old new more = record {
    fills = more.fills;
    within = λ s gap. elim (cases_lt s sector) [
      | inl low ↦ absurd (none_before gaps s (more.outside s (inl low)) gap)
      | inr from ↦ elim (cases_lt s (sector + length bytes / 512)) [
        | inl below ↦ (from, below)
        | inr high ↦ absurd (none_before gaps s (more.outside s (inr high)) gap)
      ]
    ];
  }

-- ---- a read that ended at a sector
-- why the sector was not given, before another member was asked for it
abbrev IsUngivenBy : Way → CommandFault → ℕ → MirrorView → MirrorView → Type 0
IsUngivenBy way (Read (Unreadable t)) s old new = IsNotGiven way s old new × NoneGives s old new
IsUngivenBy Unresynced (Resync (ReadFault k c)) s old new = SourceFails k s old new
IsUngivenBy way fault s old new = ⊥

not_given_by : (way : Way) (fault : CommandFault) (s : ℕ) (old new : MirrorView) → IsUngivenBy way fault s old new → IsNotGiven way s old new
not_given_by Resynced (Read (Unreadable t)) s old new why = why.0
not_given_by Unresynced (Read (Unreadable t)) s old new why = why.0
not_given_by Unresynced (Resync (ReadFault k c)) s old new why = inr (k, why)
not_given_by way fault s old new why = absurd why

-- all list it, or nobody gave it
none_gives_part : (s : ℕ) (old new : MirrorView) → NoneGivesPart s old new → NoneGives s old new
none_gives_part s old new none = elim none [ inl listed ↦ λ k m on. inl (listed.1 k m on) | inr unread ↦ unread.1 ]

-- the sectors before it were given, and then it was not
record EndsWith (sector s : ℕ) (piece : List ℕ) (old new : MirrorView) (way : Way) (fault : CommandFault) : Type 0 where
  pub from : sector ≤ s
  pub below : s < sector + length piece / 512
  pub mid : MirrorView
  pub before : Rests old mid
  pub front : 0 < length (take (512 * (s - sector)) piece) / 512 → ReadsBy way sector (take (512 * (s - sector)) piece) old mid
  pub asked : Rests mid new
  pub why : IsUngivenBy way fault s mid new

module _ (old new : MirrorView) (sound : IsConsistent old) (sector s : ℕ) (piece : List ℕ) where
  abbrev front : List ℕ
  front = take (512 * (s - sector)) piece

  long : s < sector + length piece / 512 → length front ≡ 512 * (s - sector)
  long below = length-take-le (512 * (s - sector)) piece (omega arith)

  ends_resynced : (t : ℕ) → RefusesRead sector piece old new (Unreadable s) → EndsWith sector s piece old new Resynced (Read (Unreadable t))
  ends_resynced t unread = record {
    from = unread.1.from;
    below = unread.1.below;
    mid = unread.1.mid;
    before = gives_rests sector front old unread.1.mid unread.1.earlier;
    front = λ some.
        let may = unread.0 in
        let inside = may.range.inside in
        let below = unread.1.below in
        let as_long = long below in
        read_answer old unread.1.mid sound sector front
        (record { running = may.running; range = record { some = some; inside = omega arith }; resynced = may.resynced })
        {T = Unit {0}} (Ok tt) unread.1.earlier;
    asked = unread.1.later;
    why = (unread.1.none, unread.1.none);
  }

  module _ (reason : _) (may : MayReadSectors old.array sector (length piece / 512)) (ends : EndsAt sector s piece reason old new) where
    ends_unresynced : (fault : CommandFault) → IsUngivenBy Unresynced fault s ends.mid new → EndsWith sector s piece old new Unresynced fault
    ends_unresynced fault why = record {
      from = ends.from;
      below = ends.below;
      mid = ends.mid;
      before = given_rests sector front old ends.mid ends.earlier;
      front = λ some.
          let inside = may.range.inside in
          let below = ends.below in
          let as_long = long below in
          record {
            may = record { running = may.running; range = record { some = some; inside = omega arith } };
            rests = given_rests sector front old ends.mid ends.earlier;
            given = ends.earlier;
          };
      asked = ends.later;
      why = why;
    }

  ends_with : (way : Way) (fault : CommandFault) → EndsReading way sector s piece old new fault → EndsWith sector s piece old new way fault
  ends_with Resynced (Read (Unreadable t)) h = ends_resynced t h.1
  ends_with Unresynced (Read (Unreadable t)) h =
      ends_unresynced (unresynced.Unreadable s) h.1.0 h.1.1 (Read (Unreadable t)) (inl h.1.1.ends.1, none_gives_part s h.1.1.mid new h.1.1.ends.1)
  ends_with Unresynced (Resync (ReadFault k c)) h = ends_unresynced (unresynced.ReadFault k s) h.1.0 h.1.1 (Resync (ReadFault k c)) h.1.1.ends.1
  ends_with way fault h = absurd h

  -- it is one of these sectors, and was asked for after devices were read
  pub lacks_as_told : (way : Way) (fault : CommandFault) → EndsReading way sector s piece old new fault → (sectors : ℕ) → length piece / 512 ≡ sectors → LacksAsTold way sector sectors old new (Lacks s)
  lacks_as_told way fault ends sectors many =
      let there = ends_with way fault ends in
      let below = there.below in (
        record {
          s = s;
          from = there.from;
          below = omega arith;
          asked = there.mid;
          over = new;
          before = there.before;
          within = there.asked;
          after = rests_same new;
          lost = not_given_by way fault s there.mid new there.why;
        },
        refl,
      )

  pub not_given : (way : Way) (fault : CommandFault) → EndsReading way sector s piece old new fault → (sectors : ℕ) → length piece / 512 ≡ sectors → LacksSector way sector sectors old new
  not_given way fault ends sectors many = (lacks_as_told way fault ends sectors many).0

-- ---- such a sector is filled
other_rests : (fault : CommandFault) (s : ℕ) (block : List ℕ) (old new : MirrorView) → IsGivenByOther fault s block old new → Rests old new
other_rests fault s block old new (inr given) = rests_then old given.mid new (none_rests fault s old given.mid given.none) given.gives.gives.rests
other_rests (Resync (ReadFault k c)) s block old new (inl given) = given.gives.rests
other_rests fault s block old new (inl given) = absurd given

pub block_rests : (fault : CommandFault) (s : ℕ) (block : List ℕ) (was gaps : Gaps) (old new : MirrorView) → FillsBlock fault s block was gaps old new → Rests old new
block_rests fault s block was gaps old new (inl h) = other_rests fault s block old new h.0
block_rests fault s block was gaps old new (inr h) = rests_then old h.0.mid new (none_rests fault s old h.0.mid h.0.none) h.0.last.rests

pub block_fits : (fault : CommandFault) (s : ℕ) (block : List ℕ) (was gaps : Gaps) (old new : MirrorView) → FillsBlock fault s block was gaps old new → s < 2 ^ 54 → AreFitGaps was → AreFitGaps gaps
block_fits fault s block was gaps old new fills low fit = elim fills [
  | inl given ↦ (subst AreFit (sym given.2) fit.0, given.1.fit low fit.1)
  | inr none ↦ (none.2.fit low fit.0, subst AreFit (sym none.3) fit.1)
]

module _ (s : ℕ) (block : List ℕ) (long : length block ≡ 512) (was gaps : Gaps) (old mid new : MirrorView) (asked : Rests old mid) (clear : IsClear was s) where
  -- no member in sync gave it
  none_gave : (way : Way) (fault : CommandFault) → IsUngivenBy way fault s old mid → (late : MirrorView) → IsGivenByNoneInSync fault s mid late → NoneGives s old late
  none_gave way (Read (Unreadable t)) why late none = none_gives_later old mid asked late (none_rests (Read (Unreadable t)) s mid late none) s why.1
  none_gave Unresynced (Resync (ReadFault k c)) why late none =
      nobody_gives k s old late (source_fails_later old mid asked late none.rests k s why) (no_other_earlier old mid asked late k s none)
  none_gave way fault why late none = absurd why

  -- nor was it given in this way once others were asked
  still_not_given : (way : Way) (fault : CommandFault) → IsUngivenBy way fault s old mid → Rests mid new → IsNotGiven way s old new
  still_not_given Resynced (Read (Unreadable t)) why later = none_gives_later old mid asked new later s why.0
  still_not_given Unresynced (Read (Unreadable t)) why later = elim why.0 [
    | inl part ↦ inl (none_gives_part_later old mid asked new later s part)
    | inr fails ↦ inr (fails.0, source_fails_later old mid asked new later fails.0 s fails.1)
  ]
  still_not_given Unresynced (Resync (ReadFault k c)) why later = inr (k, source_fails_later old mid asked new later k s why)
  still_not_given way fault why later = absurd why

  taken_of_stand_in : (way : Way) (fault : CommandFault) → IsUngivenBy way fault s old mid → IsGivenByStandIn fault s block mid new → IsTakenFromStandIn way s block old new
  taken_of_stand_in way fault why given =
      let to = none_rests fault s mid given.mid given.none in
      let there = rests_then old mid given.mid asked to in
      record {
        not_given = still_not_given way fault why (rests_then mid given.mid new to given.gives.gives.rests);
        none = none_gives_later old given.mid there new given.gives.gives.rests s (none_gave way fault why given.mid given.none);
        gives = first_stand_in_earlier old given.mid there new s block given.gives;
      }

  as_taken : (way : Way) → IsTakenFromStandIn way s block old new → IsTakenFromOther way s block old new
  as_taken Resynced taken = taken
  as_taken Unresynced taken = inr taken

  taken_of_other : (way : Way) (fault : CommandFault) → IsUngivenBy way fault s old mid → IsGivenByOther fault s block mid new → IsTakenFromOther way s block old new
  taken_of_other way fault why (inr given) = as_taken way (taken_of_stand_in way fault why given)
  taken_of_other way (Read (Unreadable t)) why (inl given) = absurd given
  taken_of_other Unresynced (Resync (ReadFault k c)) why (inl given) =
      inl (k, source_fails_later old mid asked new given.gives.rests k s why, gives_other_earlier old mid asked new k s block given)
  taken_of_other way fault why given = absurd why

  block_fills : (way : Way) (fault : CommandFault) → IsUngivenBy way fault s old mid → FillsBlock fault s block was gaps mid new → FillsMore way s block was gaps old new
  block_fills way fault why (inl h) =
      taken_fills way s block long was gaps old new (rests_then old mid new asked (other_rests fault s block mid new h.0)) clear
      (taken_of_other way fault why h.0) h.1 h.2
  block_fills way fault why (inr h) =
      let to = none_rests fault s mid h.0.mid h.0.none in
      let later = rests_then mid h.0.mid new to h.0.last.rests in
      lost_fills way s block long was gaps old new (rests_then old mid new asked later) clear
      h.1 (still_not_given way fault why later)
      (none_gives_later old h.0.mid (rests_then old mid h.0.mid asked to) new h.0.last.rests s (none_gave way fault why h.0.mid h.0.none)) h.2 h.3

module _ (old mid new : MirrorView) (sound : IsConsistent old) (sector s : ℕ) (piece : List ℕ) (way : Way) (fault : CommandFault) (ends : EndsReading way sector s piece old mid fault) (block : List ℕ)
    (block_long : length block ≡ 512) (was gaps : Gaps) (clear : IsClear was sector) (fills : FillsBlock fault s block was gaps mid new) where
  there : EndsWith sector s piece old mid way fault
  there = ends_with old mid sound sector s piece way fault ends

  abbrev before : List ℕ
  before = take (512 * (s - sector)) piece

  begins : (s ≡ sector + length before / 512) × (length before % 512 ≡ 0)
  begins = let from = there.from in let as_long = long old mid sound sector s piece there.below in (omega arith, omega arith)

  ends_fill : FillsMore way sector (before ++ block) was gaps old new
  ends_fill =
      let from = there.from in
      fills_then way sector before block was was gaps old there.mid new
      (read_fills way sector before was old there.mid begins.1 there.before there.front clear)
      (subst (λ (x : ℕ). FillsMore way x block was gaps there.mid new) begins.0
      (block_fills s block block_long was gaps there.mid mid new there.asked (λ t gap. let low = clear t gap in omega arith) way fault there.why fills))

  -- it stands in its place
  pub front_filled : (done n sectors : ℕ) → done ≡ 512 * (s - sector) → n ≡ 512 → sectors ≡ s - sector + 1
      → FillsFront way sector sectors (put_mid done n piece block) was gaps old new
  front_filled done n sectors is_done is_n many =
      let from = there.from in
      let below = there.below in
      let same = length-replaced done n piece block (omega arith) (omega arith) (omega arith) in
      let end : 512 * sectors ≡ done + 512 = omega arith in
      let all : take 512 block ≡ block = take_all 512 block (omega arith) in
      let bytes : take (512 * sectors) (put_mid done n piece block) ≡ before ++ block =
      ap (λ (k : ℕ). take k (put_mid done n piece block)) end
      ∙ take-replaced done n piece block (omega arith) 512 (omega arith)
      ∙ ap (λ (z : List ℕ). take done piece ++ z) all
      ∙ ap (λ (k : ℕ). take k piece ++ block) is_done in
      record {
        some = omega arith;
        few = omega arith;
        more = subst (λ (b : List ℕ). FillsMore way sector b was gaps old new) (sym bytes) ends_fill;
      }

-- all of them are given
pub front_given : (way : Way) (sector : ℕ) (bytes : List ℕ) (was : Gaps) (old new : MirrorView) → length bytes % 512 ≡ 0 → ReadsBy way sector bytes old new → IsClear was sector → (sectors : ℕ) → sectors ≡ length bytes / 512
    → FillsFront way sector sectors bytes was was old new
front_given way sector bytes was old new whole reads clear sectors many =
    let some = reads_some way sector bytes old new reads in
    record {
      some = omega arith;
      few = omega arith;
      more = subst (λ (b : List ℕ). FillsMore way sector b was was old new) (sym (take_all (512 * sectors) bytes (omega arith)))
          (read_fills way sector bytes was old new whole (reads_rests way sector bytes old new reads) (λ some. reads) clear);
    }

-- ---- a piece, filled from its front
module _ (way : Way) (sector : ℕ) (piece : List ℕ) (done : ℕ) (inside : 512 * done ≤ length piece) (was now : Gaps) (old mid : MirrorView)
    (first : FillsMore way sector (take (512 * done) piece) was now old mid) where
  so_long : length (take (512 * done) piece) ≡ 512 * done
  so_long = length-take-le (512 * done) piece inside

  at_done : sector + done ≡ sector + length (take (512 * done) piece) / 512
  at_done = let long = so_long in omega arith

  pub clear_there : IsClear was sector → IsClear now (sector + done)
  clear_there clear = subst (λ (s : ℕ). IsClear now s) (sym at_done) (clear_after way sector (take (512 * done) piece) was now old mid first clear)

  -- some sectors more
  pub front_more : (gaps : Gaps) (new : MirrorView) (at n sectors : ℕ) (part : List ℕ) → at ≡ 512 * done → FillsFront way (sector + done) sectors part now gaps mid new
      → FillsMore way sector (take (512 * (done + sectors)) (put_mid at n piece part)) was gaps old new
  front_more gaps new at n sectors part is_at front =
      let few = front.few in
      let end : 512 * (done + sectors) ≡ at + 512 * sectors = omega arith in
      let bytes : take (512 * (done + sectors)) (put_mid at n piece part) ≡ take (512 * done) piece ++ take (512 * sectors) part =
      ap (λ (k : ℕ). take k (put_mid at n piece part)) end
      ∙ take-replaced at n piece part (omega arith) (512 * sectors) (omega arith)
      ∙ ap (λ (k : ℕ). take k piece ++ take (512 * sectors) part) is_at in
      subst (λ (b : List ℕ). FillsMore way sector b was gaps old new) (sym bytes)
      (fills_then way sector (take (512 * done) piece) (take (512 * sectors) part) was now gaps old mid new first
      (subst (λ (s : ℕ). FillsMore way s (take (512 * sectors) part) now gaps mid new) at_done front.more))

  -- all of it
  pub piece_filled : length piece ≡ 512 * done → FillsMore way sector piece was now old mid
  piece_filled long = subst (λ (b : List ℕ). FillsMore way sector b was now old mid) (take_all (512 * done) piece (omega arith)) first

-- ---- what it tells of the content
honest_later : (old mid : MirrorView) → Rests old mid → AreHonest old.disks → AreHonest mid.disks
honest_later old mid first honest k e at =
    let low = slice_get_within mid.disks k e at in
    let many = first.disks.same.as_many in
    let d = got_within old.disks k (omega arith) in
    (first.disks.same.honest k d.0 e d.1 at).honest ∙ honest k d.0 d.1

pub filled_content : FillsContent
filled_content sector bytes gaps old new fills honest requests in_flight a rest i low free quiet =
    let s : ℕ = sector + i in
    let g = fills.given i low free in
    let first = g.before in
    let at = g.low in
    let below = g.high in
    let place : g.from + (s - g.from) ≡ s = omega arith in
    let world = world_rests old g.mid first requests in
    let there : HoldsAtRest (geometry_of g.mid.array) a (world_of g.mid requests) =
    subst (λ (w : World). HoldsAtRest (geometry_of g.mid.array) a w) (sym world)
    (subst (λ (x : Geometry). HoldsAtRest x a (world_of old requests)) (sym (geometry_rests old g.mid first)) rest) in
    g.is
    ∙ g.reads.content (honest_later old g.mid first honest) requests (subst (λ (x : ArrayView). AreInFlight x requests) (sym first.array) in_flight) a there (s - g.from) (omega arith)
    (subst (λ (w : World). IsQuiet w (g.from + (s - g.from))) (sym world) (subst (λ (n : ℕ). IsQuiet (world_of old requests) n) (sym place) quiet))
    ∙ ap a place
