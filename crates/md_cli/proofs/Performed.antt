-- No command wins or loses a device: all come back from an opened array, and from beside it.
use Rattle.md_device.specs.declared.device.Device.{Ghosts}
use Rattle.std.proofs.Common.{◌≡◌, ◌∙◌, ◌+◌, ◌-◌, ◌<◌, ◌≤◌, ℕ, Bool, true, false, List, length, map, Option, None, Some, option_map, Result, Ok, Err, inl, inr, ap, ap₂, refl, sym, subst, arith, true≢false}
use Rattle.std.specs.List.{insert}
use Rattle.std.proofs.lemmas.List.{length-map}
use Rattle.std.proofs.lemmas.List.Edits.{length-insert}
use Rattle.std.specs.Prelude.{is_some}
use Rattle.std.proofs.Math.Nat.{le_refl}
use Rattle.std.proofs.lemmas.Option.{slice_get_within}
use Rattle.md_commands.proofs.DeviceCounts.{AsMany, checks_as_many, done_check, done_fail, done_list, done_resync, done_write, fails_as_many, lists_as_many, resyncs_as_many, stops_as_many, writes_as_many, stopped}
use Rattle.md_commands.proofs.RebuildCounts.{done_rebuild, rebuilds_as_many}
use Rattle.md_commands.proofs.SalvageCounts.{done_salvage, salvages_as_many}
use Rattle.md_read_commands.proofs.ReadCounts.{done_read, done_readonly, fills_as_many, reads_as_many, reads_readonly_as_many}
use Rattle.md_serve_commands.proofs.ServeCounts.{serves_as_many}
use Rattle.md_streams.specs.declared.source.Source.{Ghosts as SourceGhosts}
use Rattle.md_commands.specs.Adding.{KeepsDevice}
use Rattle.md_commands.specs.Removing.{HandsBack}
use Rattle.md_streams.specs.declared.sink.Sink.{Ghosts as SinkGhosts}
use Rattle.md_state.specs.View.{Disk, disk_of}
use Rattle.md_images.specs.Taking.{Text}
use Rattle.md_words.specs.declared.form.CheckForm.TheVariants as check_form
use Rattle.md_words.specs.declared.loss.Loss.TheVariants as loss
use Rattle.md_words.specs.Asks.{Ask, device_to_add, leaving_of, examines, examines_bitmap, examines_badblocks, scans, creates, grows, assembles, details, plans, reads, serves, serves_writable, checks, writes, resyncs, stops, fails, removes, adds, re_adds, rebuilds}
use Rattle.md_refusals.specs.declared.fault.CommandFault.{CommandFault}
use Rattle.md_cli.specs.Opened.{OpenedView, count, moves_device, beside_place, with_beside}
use Rattle.md_cli.specs.Performing.{Performs, PerformsRead, PutsRest, rebuilt_told, rest_from, salvaged_told, sectors_asked}
use Rattle.md_cli.specs.Streams.{Streams}
use Rattle.md_cli.proofs.StoodIn.{map-insert}

-- Where there was a device beside the array only if the command brought one: as many devices as before come back, the one beside
-- the array has its place among them, and there is one only where one may leave or join.
pub record AllBack (ask : Ask) (before after : List Disk) (was left : Option Disk) : Type 0 where
  pub as_many : length after + count left ≡ length before + count was
  pub within : is_some left ≡ true → beside_place ask (length after) ≤ length after
  pub moves : is_some left ≡ true → moves_device ask ≡ true

none_there : {X : Type 0} (o : Option X) → is_some o ≡ false → o ≡ None
none_there None e = refl
none_there (Some x) e = absurd (true≢false e)

one_there : {X : Type 0} (o : Option X) (x : X) → o ≡ Some x → count o ≡ 1
one_there o x e = ap count e

-- of a command by which none leaves or joins
kept : (ask : Ask) (before after : OpenedView) → is_some before.beside ≡ false → after.beside ≡ before.beside → AsMany before.mirror after.mirror
    → AllBack ask before.mirror.disks after.mirror.disks before.beside after.beside
kept ask before after none same as_many = record {
  as_many = ap (λ o. length after.mirror.disks + count o) same ∙ ap (λ n. n + count before.beside) as_many;
  within = λ there. absurd (true≢false (sym there ∙ ap is_some same ∙ none));
  moves = λ there. absurd (true≢false (sym there ∙ ap is_some same ∙ none));
}

-- the device of the member that leaves
left_place : (k : ℕ) (before after : List Disk) (beside : Option Disk) → HandsBack k before after beside → length after + count beside ≡ length before
left_place k before after None h = omega (arith, h)
left_place k before after (Some d) h = h.1

joins_count : (before after : List Disk) (beside : Option Disk) → KeepsDevice before after beside → length after + count beside ≡ length before + 1
joins_count before after None h = omega (arith, h)
joins_count before after (Some d) h = ap (λ (n : ℕ). n + 1) h

left_within : (k : ℕ) (before after : List Disk) (beside : Option Disk) → HandsBack k before after beside → is_some beside ≡ true → k ≤ length after
left_within k before after None h e = absurd (true≢false (sym e))
left_within k before after (Some d) h e = let place = slice_get_within before k d h.0 in omega (arith, place, h.1)

module _ {R S A : Type 0} (r : SourceGhosts R) (s : SinkGhosts S) (names : List Text) (before after : OpenedView) (old new : Streams R S A) where
  -- of a read, whatever of it stands already
  part_kept : (sector count : ℕ) (fill readonly : Bool) (result : Result (Unit {0}) CommandFault) → PerformsRead s sector count fill readonly before after old new result → AsMany before.mirror after.mirror
  part_kept sector count true readonly result h = fills_as_many s readonly sector count before.mirror after.mirror old.output new.output h.0.told h.0.part h.0.reads
  part_kept sector count false false (Ok v) h = done_read s before.mirror after.mirror old.output new.output sector count h
  part_kept sector count false false (Err f) h = reads_as_many s before.mirror after.mirror old.output new.output sector count f h
  part_kept sector count false true (Ok v) h = done_readonly s before.mirror after.mirror old.output new.output sector count h
  part_kept sector count false true (Err f) h = reads_readonly_as_many s before.mirror after.mirror old.output new.output sector count f h

  rest_kept : (sector count : ℕ) (fill readonly : Bool) (result : Result (Unit {0}) CommandFault) → PutsRest s sector count fill readonly before after old new result → AsMany before.mirror after.mirror
  rest_kept sector count fill readonly result rest = part_kept (rest_from sector old.stands) (count - old.stands) fill readonly result rest.reads

  pub all_kept : (ask : Ask) (result : Result (Unit {0}) CommandFault) → is_some before.beside ≡ is_some (device_to_add ask) → Performs r s names ask before after old new result → AllBack ask before.mirror.disks after.mirror.disks before.beside after.beside
  all_kept (examines form) result brings h = absurd h
  all_kept (examines_bitmap form) result brings h = absurd h
  all_kept (examines_badblocks form) result brings h = absurd h
  all_kept (scans json) result brings h = absurd h
  all_kept (creates o) result brings h = absurd h
  all_kept (grows bitmap kib) result brings h = absurd h
  all_kept (assembles json readonly) result brings h = kept _ before after brings (ap (λ (o : OpenedView). o.beside) h.0) (ap (λ (o : OpenedView). length o.mirror.disks) h.0)
  all_kept (details form readonly) result brings h = kept _ before after brings (ap (λ (o : OpenedView). o.beside) h.0) (ap (λ (o : OpenedView). length o.mirror.disks) h.0)
  all_kept (plans k json readonly) result brings h = kept _ before after brings (ap (λ (o : OpenedView). o.beside) h.0) (ap (λ (o : OpenedView). length o.mirror.disks) h.0)
  all_kept (reads sector count fill readonly) result brings h = elim h.2 [
    | inl rest ↦ kept _ before after brings h.0 (rest_kept sector (sectors_asked before.mirror.array sector count) fill readonly result rest)
    | inr none ↦ kept _ before after brings h.0 (ap (λ (o : OpenedView). length o.mirror.disks) none.same)
  ]
  all_kept (serves fill) result brings h = kept _ before after brings h.0 h.1.rests.disks.same.as_many
  all_kept serves_writable result brings h =
      kept _ before after brings h.0 (serves_as_many r s before.mirror after.mirror old.input new.input old.output new.output result h.1)
  all_kept (checks check_form.List exit_code readonly) (Ok v) brings h = kept _ before after brings h.0 (done_list s before.mirror after.mirror old.output new.output _ h.2.count h.2.shows)
  all_kept (checks check_form.List exit_code readonly) (Err f) brings h =
      kept _ before after brings h.0 (lists_as_many s before.mirror after.mirror old.output new.output f h.2)
  all_kept (checks check_form.Json exit_code readonly) (Ok v) brings h = kept _ before after brings h.0 (done_list s before.mirror after.mirror old.output new.output _ h.2.count h.2.shows)
  all_kept (checks check_form.Json exit_code readonly) (Err f) brings h =
      kept _ before after brings h.0 (lists_as_many s before.mirror after.mirror old.output new.output f h.2)
  all_kept (checks check_form.Count exit_code readonly) (Ok v) brings h = kept _ before after brings h.0 (done_check s before.mirror after.mirror old.output new.output h.2.count h.2.shows)
  all_kept (checks check_form.Count exit_code readonly) (Err f) brings h =
      kept _ before after brings h.0 (checks_as_many s before.mirror after.mirror old.output new.output f h.2)
  all_kept (writes sector count) (Ok v) brings h = kept _ before after brings h.0 (done_write r s sector count before.mirror after.mirror old.input new.input old.output new.output h.1.writes)
  all_kept (writes sector count) (Err f) brings h =
      kept _ before after brings h.0 (writes_as_many s before.mirror after.mirror old.output new.output r sector count old.input new.input h.1.written f h.1.writes)
  all_kept resyncs (Ok v) brings h = kept _ before after brings h.0 (done_resync before.mirror after.mirror h.2.stops)
  all_kept resyncs (Err f) brings h =
      kept _ before after brings h.0 (resyncs_as_many s before.mirror after.mirror old.output new.output f h.2)
  all_kept (stops json) (Ok v) brings h = kept _ before after brings h.0 (stopped before.mirror after.mirror h.2.stops)
  all_kept (stops json) (Err f) brings h =
      kept _ before after brings h.0 (stops_as_many s before.mirror after.mirror old.output new.output f h.2)
  all_kept (fails k) (Ok v) brings h = kept _ before after brings h.0 (done_fail s k before.mirror after.mirror old.output new.output h.2)
  all_kept (fails k) (Err f) brings h =
      kept _ before after brings h.0 (fails_as_many s k before.mirror after.mirror old.output new.output f h.2)
  all_kept (rebuilds k loss.Chunks form) (Ok v) brings h = kept _ before after brings h.0 (done_rebuild s k before.mirror after.mirror old.output new.output (rebuilt_told form k) h.2)
  all_kept (rebuilds k loss.Chunks form) (Err f) brings h =
      kept _ before after brings h.0 (rebuilds_as_many s k before.mirror after.mirror old.output new.output f h.2)
  all_kept (rebuilds k loss.Sectors form) (Ok v) brings h = kept _ before after brings h.0 (done_salvage s k before.mirror after.mirror old.output new.output (salvaged_told form k) h.2)
  all_kept (rebuilds k loss.Sectors form) (Err f) brings h =
      kept _ before after brings h.0 (salvages_as_many s k before.mirror after.mirror old.output new.output f h.2)
  all_kept (removes k) result brings h = record {
    as_many = left_place k before.mirror.disks after.mirror.disks after.beside h.1.handed_back
        ∙ omega (arith, ap (λ o. count o) (none_there before.beside brings));
    within = left_within k before.mirror.disks after.mirror.disks after.beside h.1.handed_back;
    moves = λ _. refl;
  }
  all_kept (adds name json) result brings h = record {
    as_many = joins_count before.mirror.disks after.mirror.disks after.beside h.1.kept ∙ ap (λ (n : ℕ). length before.mirror.disks + n) (sym (one_there before.beside h.1.device h.1.is));
    within = λ _. le_refl _;
    moves = λ _. refl;
  }
  all_kept (re_adds name full json) result brings h = record {
    as_many = joins_count before.mirror.disks after.mirror.disks after.beside h.1.kept ∙ ap (λ (n : ℕ). length before.mirror.disks + n) (sym (one_there before.beside h.1.device h.1.is));
    within = λ _. le_refl _;
    moves = λ _. refl;
  }

-- Of who is asked nothing is said there: what is done after a question is done as without it.
module _ {R S A : Type 0} (r : SourceGhosts R) (s : SinkGhosts S) (names : List Text) (before after : OpenedView) (old new : Streams R S A) (asker : A) (result : Result (Unit {0}) CommandFault) where
  part_asked : (sector count : ℕ) (fill readonly : Bool) → PerformsRead s sector count fill readonly before after (record old { asker = asker }) new result → PerformsRead s sector count fill readonly before after old new result
  part_asked sector count true readonly h = h
  part_asked sector count false readonly h = h

  rest_asked : (sector count : ℕ) (fill readonly : Bool) → PutsRest s sector count fill readonly before after (record old { asker = asker }) new result → PutsRest s sector count fill readonly before after old new result
  rest_asked sector count fill readonly rest = record { left = rest.left; reads = part_asked (rest_from sector old.stands) (count - old.stands) fill readonly rest.reads }

  pub performs_asked : (ask : Ask) → Performs r s names ask before after (record old { asker = asker }) new result → Performs r s names ask before after old new result
  performs_asked (examines form) h = h
  performs_asked (examines_bitmap form) h = h
  performs_asked (examines_badblocks form) h = h
  performs_asked (scans json) h = h
  performs_asked (creates o) h = h
  performs_asked (grows bitmap kib) h = h
  performs_asked (assembles json readonly) h = h
  performs_asked (details form readonly) h = h
  performs_asked (plans k json readonly) h = h
  performs_asked (reads sector count fill readonly) h = (h.0, h.1, elim h.2 [ inl rest ↦ inl (rest_asked sector (sectors_asked before.mirror.array sector count) fill readonly rest) | inr none ↦ inr (record { some = none.some; all = none.all; same = none.same; gaps = none.gaps; answer = none.answer }) ])
  performs_asked (serves fill) h = (h.0, record { gaps = h.1.gaps; serves = h.1.serves; rests = h.1.rests; noted = h.1.noted })
  performs_asked serves_writable h = h
  performs_asked (checks form exit_code readonly) h = h
  performs_asked (writes sector count) h = h
  performs_asked resyncs h = h
  performs_asked (stops json) h = h
  performs_asked (fails k) h = h
  performs_asked (removes k) h = h
  performs_asked (adds name json) h = h
  performs_asked (re_adds name full json) h = h
  performs_asked (rebuilds k loss.Chunks form) h = h
  performs_asked (rebuilds k loss.Sectors form) h = h

-- one that is to join comes last
pub joins_last : (ask : Ask) → is_some (device_to_add ask) ≡ true → leaving_of ask ≡ None
joins_last (removes k) e = absurd (true≢false (sym e))
joins_last _ e = refl

-- where the members make no array, the device that was to join comes back too
pub refused_back : (ask : Ask) (before after : List Disk) (was : Option Disk) → is_some was ≡ is_some (device_to_add ask) → length after ≡ length before → AllBack ask before after was was
refused_back ask before after was brings same = record {
  as_many = ap (λ (n : ℕ). n + count was) same;
  within = λ there. rw (joins_last ask (sym brings ∙ there)) (le_refl _);
  moves = λ there. rw (sym brings ∙ there) refl;
}

counted : {X Y : Type 0} (f : X → Y) (o : Option X) → count (option_map f o) ≡ count o
counted f None = refl
counted f (Some x) = refl

seen_there : {X Y : Type 0} (f : X → Y) (o : Option X) → is_some o ≡ true → is_some (option_map f o) ≡ true
seen_there f None e = e
seen_there f (Some x) e = refl

pub there_same : {X Y : Type 0} (f : X → Y) (o : Option X) → is_some (option_map f o) ≡ is_some o
there_same f None = refl
there_same f (Some x) = refl

one_counted : {X : Type 0} (o : Option X) → is_some o ≡ true → count o ≡ 1
one_counted None e = absurd (true≢false (sym e))
one_counted (Some x) e = refl

plus_zero : (n : ℕ) → n + 0 ≡ n
plus_zero n = omega arith

-- the devices themselves, of which `members` were opened and `given` come back
module _ {D : Type 0} (g : Ghosts D) (ask : Ask) (members given : List D) (was left : Option D) (before after : List Disk) (many : length before ≡ length members) (are : map (disk_of g) given ≡ after) (back : AllBack ask before after (option_map (disk_of g) was) (option_map (disk_of g) left)) where
  long : length given ≡ length after
  long = sym (length-map given (disk_of g)) ∙ ap length are

  sum_is : length given + count left ≡ length members + count was
  sum_is =
      ap₂ (λ (m n : ℕ). m + n) long (sym (counted (disk_of g) left)) ∙ back.as_many ∙ ap₂ (λ (m n : ℕ). m + n) many (counted (disk_of g) was)

  pub room_back : (room : ℕ) → (moves_device ask ≡ true → length members + count was ≤ room) → is_some left ≡ true → length given < room
  room_back room enough there =
      let fits = enough (back.moves (seen_there (disk_of g) left there)) in
      omega (arith, fits, sum_is, one_counted left there)

  pub within_back : is_some left ≡ true → beside_place ask (length given) ≤ length given
  within_back there = subst (λ (n : ℕ). beside_place ask n ≤ n) (sym long) (back.within (seen_there (disk_of g) left there))

  pub as_many_back : (all : List D) → all ≡ with_beside ask given left → length all ≡ length members + count was
  as_many_back all is = by left all is sum_is within_back
    where
      by : (o : Option D) (ds : List D) → ds ≡ with_beside ask given o → length given + count o ≡ length members + count was → (is_some o ≡ true → beside_place ask (length given) ≤ length given) → length ds ≡ length members + count was
      by None ds e sum fits = ap length e ∙ sym (plus_zero (length given)) ∙ sum
      by (Some d) ds e sum fits = ap length e ∙ length-insert given (beside_place ask (length given)) d (fits refl) ∙ sum

  pub shown_back : (all : List D) → all ≡ with_beside ask given left → map (disk_of g) all ≡ with_beside ask after (option_map (disk_of g) left)
  shown_back all is = ap (map (disk_of g)) is ∙ by left
    where
      by : (o : Option D) → map (disk_of g) (with_beside ask given o) ≡ with_beside ask after (option_map (disk_of g) o)
      by None = are
      by (Some d) =
          map-insert (disk_of g) given (beside_place ask (length given)) d
          ∙ ap₂ (λ (n : ℕ) (ds : List Disk). insert ds (beside_place ask n) (disk_of g d)) long are

-- how many devices come back, and in which order
beside_long : {X : Type 0} (ask : Ask) (xs : List X) (o : Option X) → (is_some o ≡ true → beside_place ask (length xs) ≤ length xs) → length (with_beside ask xs o) ≡ length xs + count o
beside_long ask xs None fits = sym (plus_zero (length xs))
beside_long ask xs (Some x) fits = length-insert xs (beside_place ask (length xs)) x (fits refl)

pub shown_beside : {D : Type 0} (g : Ghosts D) (ask : Ask) (given : List D) (left : Option D) (after : List Disk) → map (disk_of g) given ≡ after → map (disk_of g) (with_beside ask given left) ≡ with_beside ask after (option_map (disk_of g) left)
shown_beside g ask given None after are = are
shown_beside g ask given (Some d) after are =
    map-insert (disk_of g) given (beside_place ask (length given)) d
    ∙ ap₂ (λ (n : ℕ) (ds : List Disk). insert ds (beside_place ask n) (disk_of g d)) (sym (length-map given (disk_of g)) ∙ ap length are) are

-- the same, of devices as contracts see them
module _ {D : Type 0} (g : Ghosts D) (ask : Ask) (members : List D) (was left : Option D) (before after : List Disk) (many : length before ≡ length members) (back : AllBack ask before after (option_map (disk_of g) was) (option_map (disk_of g) left)) where
  pub room_left : (room : ℕ) → (moves_device ask ≡ true → length members + count was ≤ room) → is_some left ≡ true → length after < room
  room_left room enough there =
      let fits = enough (back.moves (seen_there (disk_of g) left there)) in
      let sum : length after + count left ≡ length members + count was = ap (λ (n : ℕ). length after + n) (sym (counted (disk_of g) left)) ∙ back.as_many ∙ ap₂ (λ (m n : ℕ). m + n) many (counted (disk_of g) was) in
      omega (arith, fits, sum, one_counted left there)

  pub within_left : is_some left ≡ true → beside_place ask (length after) ≤ length after
  within_left there = back.within (seen_there (disk_of g) left there)

  pub as_many_left : (all : List D) → map (disk_of g) all ≡ with_beside ask after (option_map (disk_of g) left) → length all ≡ length members + count was
  as_many_left all is =
      sym (length-map all (disk_of g)) ∙ ap length is ∙ beside_long ask after (option_map (disk_of g) left) back.within
      ∙ back.as_many ∙ ap₂ (λ (m n : ℕ). m + n) many (counted (disk_of g) was)
