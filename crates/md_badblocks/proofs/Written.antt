-- What the log that is written holds, and what it is read as.
use Rattle.std.proofs.Common.{◌≡◌, ℕ, zero, suc, ◌+◌, ◌-◌, ◌*◌, ◌/◌, ◌%◌, ◌^◌, ◌<◌, ◌≤◌, inl, inr, min, Bool, true, false, cond, not, eqb, List, [], ◌∷◌, ◌++◌, length, map, take, drop, replicate, slice_index, refl, sym, subst, ap, ◌∙◌, arith}
use Rattle.std.specs.List.{AllByRecursion, range_with_len, flat_map, before_first, prefix_len}
use Rattle.std.proofs.lemmas.Bool.{cases_lt, ne_eqb}
use Rattle.std.proofs.lemmas.List.{append-nil, drop_all, take_all, length-drop, length-take-le, get_or-append-add, map-append}
use Rattle.std.proofs.lemmas.Grind.{flat_map-append}
use borrow.Rule.Slice.PartMut.{put_mid}
use Rattle.byteorder.specs.Endian.{little_bytes, little_from}
use Rattle.byteorder.specs.Numbers.{little_number-reads_back}
use Rattle.md_format.specs.Fields.{number_at}
use Rattle.md_badblocks.specs.declared.run.Run.{Run}
use Rattle.md_badblocks.specs.Runs.{IsBad, RisesFrom, entry_count, entries_needed}
use Rattle.md_badblocks.specs.Log.{all_ones, entries_in, run_of, named_runs, IsReadAs, entry_at, entries_of, log_bytes}
use Rattle.md_badblocks.proofs.Rising.{bad_below, bad_left, bad_right, bad_side}
use Rattle.md_badblocks.proofs.Entries.{length-bytes, bytes-ones}

-- the area once the runs are written up to a place, and the rest is filled
pub log_written : (runs : List Run) (buf tail : List ℕ) (place index room : ℕ) → place ≡ entries_needed (take index runs) → take (8 * place) buf ≡ flat_map (little_bytes 8) (flat_map entries_of (take index runs)) → length runs ≤ index → length buf ≡ 8 * room → 8 * place ≤ length buf → tail ≡ replicate (length (take (length buf - 8 * place) (drop (8 * place) buf))) 255 → put_mid (8 * place) (length buf - 8 * place) buf tail ≡ log_bytes runs room
log_written runs buf tail place index room needed front all whole within filled =
    let behind = length-drop (8 * place) buf in
    let rest = length-take-le (length buf - 8 * place) (drop (8 * place) buf) (omega arith) in
    let none : drop (length buf - 8 * place) (drop (8 * place) buf) ≡ [] = drop_all (length buf - 8 * place) (drop (8 * place) buf) (omega arith) in
    let same : take index runs ≡ runs = take_all index runs all in
    let count : place ≡ entries_needed runs = needed ∙ ap (λ xs. entries_needed xs) same in
    let many : length (take (length buf - 8 * place) (drop (8 * place) buf)) ≡ 8 * (room - entries_needed runs) = omega arith in
    let ones : tail ≡ flat_map (little_bytes 8) (replicate (room - entries_needed runs) all_ones) = filled ∙ ap (λ n. replicate n 255) many ∙ sym (bytes-ones (room - entries_needed runs)) in
    let left : take (8 * place) buf ≡ flat_map (little_bytes 8) (flat_map entries_of runs) = front ∙ ap (λ xs. flat_map (little_bytes 8) (flat_map entries_of xs)) same in
    ap (λ xs. take (8 * place) buf ++ (tail ++ xs)) none
    ∙ ap (λ xs. take (8 * place) buf ++ xs) (append-nil tail)
    ∙ ap (λ xs. xs ++ tail) left
    ∙ ap (λ xs. flat_map (little_bytes 8) (flat_map entries_of runs) ++ xs) ones
    ∙ sym (flat_map-append (little_bytes 8) (flat_map entries_of runs) (replicate (room - entries_needed runs) all_ones))

-- the numbers after some bytes
little_from-behind : (front xs : List ℕ) (n i : ℕ) → little_from (length front + i) n (front ++ xs) ≡ little_from i n xs
little_from-behind front xs zero i = refl
little_from-behind front xs (suc n) i =
    let byte : slice_index (front ++ xs) (length front + i) ≡ slice_index xs i = get_or-append-add front xs i 0 in
    let more : suc (length front + i) ≡ length front + suc i = omega arith in
    let rest = little_from-behind front xs n (suc i) in
    rw (byte, more, rest) refl

number_behind : (front xs : List ℕ) (i : ℕ) → length front ≡ 8 → number_at 8 (8 * (i + 1)) (front ++ xs) ≡ number_at 8 (8 * i) xs
unfolding number_at
number_behind front xs i eight =
    let place : 8 * (i + 1) ≡ length front + 8 * i = omega arith in
    ap (λ k. little_from k 8 (front ++ xs)) place ∙ little_from-behind front xs 8 (8 * i)

number_first : (e : ℕ) (xs : List ℕ) → e < 2 ^ 64 → number_at 8 (8 * 0) (little_bytes 8 e ++ xs) ≡ e
unfolding number_at
number_first e xs fits = little_number-reads_back 8 e xs fits

map_next : (f g : ℕ → ℕ) → ((i : ℕ) → f (i + 1) ≡ g i) → (a n : ℕ) → map f (range_with_len (a + 1) n) ≡ map g (range_with_len a n)
map_next f g same a zero = refl
map_next f g same a (suc n) = rw (same a, map_next f g same (a + 1) n) refl

numbers_back : (es : List ℕ) → AllByRecursion (λ e. e < 2 ^ 64) es → map (λ i. number_at 8 (8 * i) (flat_map (little_bytes 8) es)) (range_with_len 0 (length es)) ≡ es
numbers_back [] all = refl
numbers_back (e ∷ es) all =
    let first = number_first e (flat_map (little_bytes 8) es) all.0 in
    let later = map_next (λ i. number_at 8 (8 * i) (little_bytes 8 e ++ flat_map (little_bytes 8) es)) (λ i. number_at 8 (8 * i) (flat_map (little_bytes 8) es)) (λ i. number_behind (little_bytes 8 e) (flat_map (little_bytes 8) es) i refl) 0 (length es) in
    ap (λ x. x ∷ map (λ i. number_at 8 (8 * i) (little_bytes 8 e ++ flat_map (little_bytes 8) es)) (range_with_len 1 (length es))) first
    ∙ ap (λ xs. e ∷ xs) (later ∙ numbers_back es all.1)

entries_in-bytes : (es : List ℕ) → AllByRecursion (λ e. e < 2 ^ 64) es → entries_in (flat_map (little_bytes 8) es) ≡ es
entries_in-bytes es all =
    let size = length-bytes es in
    let count : length (flat_map (little_bytes 8) es) / 8 ≡ length es = omega arith in
    ap (λ n. map (λ i. number_at 8 (8 * i) (flat_map (little_bytes 8) es)) (range_with_len 0 n)) count ∙ numbers_back es all

-- the list ends at the first entry of all ones
pub before_first-cons : (p : ℕ → Bool) (e : ℕ) (es : List ℕ) → before_first p (e ∷ es) ≡ cond (p e) [] (e ∷ before_first p es)
before_first-cons p e es =
    let one : 1 + prefix_len (λ x. not (p x)) es ≡ suc (prefix_len (λ x. not (p x)) es) = omega arith in
    elim (p e) as (λ b. take (cond (not b) (1 + prefix_len (λ x. not (p x)) es) 0) (e ∷ es) ≡ cond b [] (e ∷ take (prefix_len (λ x. not (p x)) es) es)) [
      | true ↦ refl
      | false ↦ ap (λ n. take n (e ∷ es)) one
    ]

listed_ones : (n : ℕ) → before_first (λ e. eqb e all_ones) (replicate n all_ones) ≡ []
listed_ones zero = refl
listed_ones (suc n) = before_first-cons (λ e. eqb e all_ones) all_ones (replicate n all_ones)

listed : (es : List ℕ) (n : ℕ) → AllByRecursion (λ e. e < all_ones) es → before_first (λ e. eqb e all_ones) (es ++ replicate n all_ones) ≡ es
listed [] n all = listed_ones n
listed (e ∷ es) n all =
    let below : e < all_ones = all.0 in
    let other : eqb e all_ones ≡ false = ne_eqb e all_ones (λ same. omega arith) in
    before_first-cons (λ x. eqb x all_ones) e (es ++ replicate n all_ones)
    ∙ ap (λ b. cond b [] (e ∷ before_first (λ x. eqb x all_ones) (es ++ replicate n all_ones))) other
    ∙ ap (λ xs. e ∷ xs) (listed es n all.1)

-- no entry of a run is all ones
entries_small : (run : Run) (a n : ℕ) → 512 * (a + n) < run.len + 512 → run.start + run.len ≤ 2 ^ 54 → AllByRecursion (λ e. e < all_ones) (map (entry_at run) (range_with_len a n))
entries_small run a zero few fits = tt
entries_small run a (suc n) few fits = (omega arith, entries_small run (a + 1) n (omega arith) fits)

all_append : (P : ℕ → Type 0) (xs ys : List ℕ) → AllByRecursion P xs → AllByRecursion P ys → AllByRecursion P (xs ++ ys)
all_append P [] ys a b = b
all_append P (x ∷ xs) ys a b = (a.0, all_append P xs ys a.1 b)

all_small : (low : ℕ) (runs : List Run) → RisesFrom low runs → AllByRecursion (λ e. e < all_ones) (flat_map entries_of runs)
all_small low [] h = tt
all_small low (r ∷ rs) h =
    all_append (λ e. e < all_ones) (entries_of r) (flat_map entries_of rs) (entries_small r 0 (entry_count r) (omega arith) h.2) (all_small (r.start + r.len + 1) rs h.3)

all_fit : (es : List ℕ) (n : ℕ) → AllByRecursion (λ e. e < all_ones) es → AllByRecursion (λ e. e < 2 ^ 64) (es ++ replicate n all_ones)
all_fit [] zero all = tt
all_fit [] (suc n) all = (omega arith, all_fit [] n tt)
all_fit (e ∷ es) n all = let below : e < all_ones = all.0 in (omega arith, all_fit es n all.1)

-- the entries of a run name its sectors
pieces_bad : (run : Run) (a n s : ℕ) → IsBad (map (run_of 0) (map (entry_at run) (range_with_len a n))) s → (run.start + 512 * a ≤ s) × (s < run.start + run.len) × (s < run.start + 512 * (a + n))
pieces_bad run a zero s bad = absurd bad
pieces_bad run a (suc n) s bad =
    elim bad [
      | inl here ↦
          let from : ((run.start + 512 * a) * 1024 + min 512 (run.len - 512 * a)) / 1024 * 1 ≤ s = here.0 in
          let to : s < ((run.start + 512 * a) * 1024 + min 512 (run.len - 512 * a)) / 1024 * 1 + ((run.start + 512 * a) * 1024 + min 512 (run.len - 512 * a)) % 1024 * 1 = here.1 in
          (omega arith, omega arith, omega arith)
      | inr later ↦ let rest = pieces_bad run (a + 1) n s later in (omega arith, rest.1, omega arith)
    ]

bad_pieces : (run : Run) (a n s : ℕ) → run.start + 512 * a ≤ s → s < run.start + run.len → s < run.start + 512 * (a + n) → IsBad (map (run_of 0) (map (entry_at run) (range_with_len a n))) s
bad_pieces run a zero s from to end = absurd (omega arith)
bad_pieces run a (suc n) s from to end =
    elim (cases_lt s (run.start + 512 * (a + 1))) [
      | inl here ↦ inl (omega arith, omega arith)
      | inr later ↦ inr (bad_pieces run (a + 1) n s later to (omega arith))
    ]

named_bad : (runs : List Run) (s : ℕ) → IsBad (map (run_of 0) (flat_map entries_of runs)) s → IsBad runs s
named_bad [] s bad = bad
named_bad (r ∷ rs) s bad =
    let B : List Run → Type 0 = λ xs. IsBad xs s in
    elim (bad_side (map (run_of 0) (entries_of r)) (map (run_of 0) (flat_map entries_of rs)) s (subst B (map-append (run_of 0) (entries_of r) (flat_map entries_of rs)) bad)) [
      | inl here ↦ let lies = pieces_bad r 0 (entry_count r) s here in inl (omega arith, lies.1)
      | inr later ↦ inr (named_bad rs s later)
    ]

bad_named : (runs : List Run) (s : ℕ) → IsBad runs s → IsBad (map (run_of 0) (flat_map entries_of runs)) s
bad_named [] s bad = bad
bad_named (r ∷ rs) s bad =
    rw map-append (elim bad [
      | inl here ↦ bad_left (map (run_of 0) (entries_of r)) (map (run_of 0) (flat_map entries_of rs)) s (bad_pieces r 0 (entry_count r) s (omega arith) here.1 (omega arith))
      | inr later ↦ bad_right (map (run_of 0) (entries_of r)) (map (run_of 0) (flat_map entries_of rs)) s (bad_named rs s later)
    ])

named_runs-log : (runs : List Run) (room : ℕ) → RisesFrom 0 runs → named_runs 0 (log_bytes runs room) ≡ map (run_of 0) (flat_map entries_of runs)
named_runs-log runs room h =
    let small = all_small 0 runs h in
    let entries = entries_in-bytes (flat_map entries_of runs ++ replicate (room - entries_needed runs) all_ones) (all_fit (flat_map entries_of runs) (room - entries_needed runs) small) in
    ap (λ es. map (run_of 0) (before_first (λ e. eqb e all_ones) es)) entries ∙ ap (λ es. map (run_of 0) es) (listed (flat_map entries_of runs) (room - entries_needed runs) small)

pub log_read : (runs : List Run) (room : ℕ) → RisesFrom 0 runs → IsReadAs 0 (log_bytes runs room) runs
log_read runs room h =
    record {
      canonical = h;
      named = λ s. rw (named_runs-log runs room h) ((λ bad. (bad_named runs s bad, bad_below 0 runs s h bad), λ both. named_bad runs s both.0));
    }
