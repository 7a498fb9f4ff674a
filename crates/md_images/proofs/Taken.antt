-- Devices that are taken out of their images one by one, and put back.
use Rattle.std.proofs.Common.{◌≡◌, ◌≢◌, ◌⊎◌, ◌∙◌, ◌+◌, ◌<◌, ◌≤◌, ◌||◌, ℕ, zero, suc, Bool, true, false, take, List, [], ◌∷◌, ◌++◌, length, map, Option, Some, None, Result, Ok, Err, is_ok, IsOk, if◌then◌else◌, refl, sym, ap, subst, inl, inr, arith, true≢false}
use Rattle.std.specs.Prelude.{slice_get, slice_index_or}
use Rattle.std.specs.List.{list_any}
use Rattle.std.specs.Str.{bytes_eq}
use Rattle.std.proofs.lemmas.List.{length-append, length-map, get_or-map}
use Rattle.std.proofs.lemmas.Slice.Eq.{bytes_eq-Decides}
use Rattle.md_images.specs.declared.image_word.ImageWord.{ImageWord}
use Rattle.md_images.specs.declared.image_fault.ImageFault.{ImageFault}
use Rattle.md_images.specs.declared.image_refusal.ImageRefusal.TheVariants.{Unopened}
use Rattle.md_images.specs.Images.{IsImageRefused}
use Rattle.md_images.specs.Taking.{AreOut, ArePut, IsNameRefused, IsDistinct, IsOther, IsThere, Repeats, TakesFirst, Text, name_at, names_of, word_of}

-- two texts are the same or not
pub same_text : (a b : Text) → (a ≡ b) ⊎ (a ≢ b)
same_text a b = by (bytes_eq a b) refl
  where
    by : (t : Bool) → bytes_eq a b ≡ t → (a ≡ b) ⊎ (a ≢ b)
    by true e = inl ((bytes_eq-Decides a b).0 e)
    by false e = inr (λ same. true≢false (sym ((bytes_eq-Decides a b).1 same) ∙ e))

-- a number below the next one
below_next : (i k : ℕ) → i < k + 1 → (i < k) ⊎ (i ≡ k)
below_next i k lt = grind arith

at_or_past : (n i : ℕ) → n ≤ i → (i ≡ n) ⊎ (n < i)
at_or_past n i le = grind arith

-- a text is one of the first n names, or another
pub among : (names : List Text) (n : ℕ) (text : Text) → ((i : ℕ) × (i < n) × (text ≡ name_at names i)) ⊎ IsOther names n text
among names zero text = inr (λ i lt. absurd (omega (arith, lt)))
among names (suc n) text = elim (among names n text) [
  | inl found ↦ inl (found.0, omega (arith, found.1), found.2)
  | inr other ↦ elim (same_text text (name_at names n)) [
    | inl same ↦ inl (n, omega arith, same)
    | inr not ↦ inr (λ i lt. elim (below_next i n (omega (arith, lt))) [
      | inl less ↦ other i less
      | inr is ↦ subst (λ (j : ℕ). text ≢ name_at names j) (sym is) not
    ])
  ]
]

-- what an index past the end would read
abbrev pub no_word : ImageWord
no_word = record { index = 0; name = record { ref_ptr = (0, 0); now = [] } }

abbrev pub names_in : List ImageWord → List Text
names_in words = names_of (map word_of words)

-- the name of word i
pub name_of_word : (words : List ImageWord) (i : ℕ) → i < length words → name_at (names_in words) i ≡ (slice_index_or words i no_word).name.now
name_of_word words i lt =
    let inside : i < length (map word_of words) = subst (λ (n : ℕ). i < n) (sym (length-map words word_of)) lt in
    get_or-map (λ v. v.1) (map word_of words) i (word_of no_word) [] inside ∙ ap (λ v. v.1) (get_or-map word_of words i no_word (word_of no_word) lt)

-- its place among the image words
pub index_of_word : (words : List ImageWord) (i : ℕ) → i < length words → (slice_index_or (map word_of words) i (0, [])).0 ≡ (slice_index_or words i no_word).index
index_of_word words i lt = ap (λ v. v.0) (get_or-map word_of words i no_word (0, []) lt)

abbrev bears : Text → ImageWord → Bool
bears name w = bytes_eq w.name.now name

neither : (a b : Bool) → (a || b) ≡ false → (a ≡ false) × (b ≡ false)
neither true b e = absurd (true≢false e)
neither false b e = (refl, e)

-- no earlier word has the name
none_before : (words : List ImageWord) (k i : ℕ) (name : Text) → list_any (bears name) (take k words) ≡ false → i < k → i < length words → name_at (names_in words) i ≢ name
none_before [] k i name e less lt same = absurd (omega (arith, lt))
none_before (w ∷ words) zero i name e less lt same = absurd (omega (arith, less))
none_before (w ∷ words) (suc k) zero name e less lt same = true≢false (sym ((bytes_eq-Decides w.name.now name).1 same) ∙ (neither _ _ e).0)
none_before (w ∷ words) (suc k) (suc i) name e less lt same = none_before words k i name (neither _ _ e).1 (omega (arith, less)) (omega (arith, lt)) same

-- an earlier word has it
some_before : (words : List ImageWord) (k : ℕ) (name : Text) → list_any (bears name) (take k words) ≡ true → (i : ℕ) × (i < k) × (name_at (names_in words) i ≡ name)
some_before [] zero name e = absurd (true≢false (sym e))
some_before [] (suc k) name e = absurd (true≢false (sym e))
some_before (w ∷ words) zero name e = absurd (true≢false (sym e))
some_before (w ∷ words) (suc k) name e = by (bears name w) refl (some_before words k name)
  where
    by : (b : Bool) → bears name w ≡ b → (list_any (bears name) (take k words) ≡ true → (i : ℕ) × (i < k) × (name_at (names_in words) i ≡ name)) → (i : ℕ) × (i < suc k) × (name_at (names_in (w ∷ words)) i ≡ name)
    by true is later = (0, omega arith, (bytes_eq-Decides w.name.now name).0 is)
    by false is later =
        let found = later (sym (ap (λ b. b || list_any (bears name) (take k words)) is) ∙ e) in
        (suc found.0, omega (arith, found.1), found.2)

-- then the name repeats an earlier one
pub repeated_bad : (words : List ImageWord) (k : ℕ) (name : Text) → name_at (names_in words) k ≡ name → list_any (bears name) (take k words) ≡ true → Repeats (names_in words) k
repeated_bad words k name here e =
    let found = some_before words k name e in
    (found.0, found.1, found.2 ∙ sym here)

-- the next name repeats none of the first, so that these and it are distinct
distinct_more : (names : List Text) (k : ℕ) → IsDistinct names k → ((i : ℕ) → i < k → name_at names i ≢ name_at names k) → IsDistinct names (k + 1)
distinct_more names k distinct fresh i j less lt = elim (below_next j k lt) [
  | inl inside ↦ distinct i j less inside
  | inr is ↦ subst (λ (n : ℕ). name_at names i ≢ name_at names n) (sym is) (fresh i (subst (λ (n : ℕ). i < n) is less))
]

-- what a push leaves that succeeds
pub pushed : {X R E : Type 0} (r : Result R E) (x y z : X) → IsOk r → z ≡ (if is_ok r then x else y) → z ≡ x
pushed (Ok v) x y z is e = e
pushed (Err v) x y z is e = absurd (true≢false (sym is))

module _ {D : Type 0} where
  pub get_before : (xs ys : List D) (i : ℕ) → i < length xs → slice_get (xs ++ ys) i ≡ slice_get xs i
  get_before [] ys i lt = absurd (omega (arith, lt))
  get_before (x ∷ xs) ys zero lt = refl
  get_before (x ∷ xs) ys (suc i) lt = get_before xs ys i (omega (arith, lt))

  pub get_last : (xs : List D) (x : D) (i : ℕ) → i ≡ length xs → slice_get (xs ++ x ∷ []) i ≡ Some x
  get_last [] x zero e = refl
  get_last [] x (suc i) e = absurd (omega (arith, e))
  get_last (y ∷ xs) x zero e = absurd (omega (arith, e))
  get_last (y ∷ xs) x (suc i) e = get_last xs x i (omega (arith, e))

  more_length : (xs : List D) (x : D) (k : ℕ) → length xs ≡ k → length (xs ++ x ∷ []) ≡ k + 1
  more_length xs x k e = length-append xs (x ∷ []) ∙ ap (λ (n : ℕ). n + 1) e

  -- before the first device is taken
  pub none_out : (at : Text → Option D) (names : List Text) (devices : List D) → devices ≡ [] → AreOut at at names 0 devices
  none_out at names devices e = record {
    were = record { many = ap length e; each = λ i lt. absurd (omega (arith, lt)) };
    out = λ i lt. absurd (omega (arith, lt));
    others = λ other h. refl;
  }

  module _ (before mid after : Text → Option D) (names : List Text) (k : ℕ) (devices : List D) where
    -- what one call changes
    abbrev OnlyAt : Type 0
    OnlyAt = (other : Text) → other ≢ name_at names k → after other ≡ mid other

    abbrev IsFresh : Type 0
    IsFresh = (i : ℕ) → i < k → name_at names i ≢ name_at names k

    fresh_other : IsFresh → IsOther names k (name_at names k)
    fresh_other fresh i lt e = fresh i lt (sym e)

    -- one more device is taken
    pub one_out : (d : D) → AreOut before mid names k devices → IsFresh → mid (name_at names k) ≡ Some d → after (name_at names k) ≡ None → OnlyAt → AreOut before after names (k + 1) (devices ++ d ∷ [])
    one_out d so fresh there gone only = record {
      were = record {
        many = more_length devices d k so.were.many;
        each = λ i lt. elim (below_next i k lt) [
          | inl less ↦ so.were.each i less ∙ sym (get_before devices (d ∷ []) i (subst (λ (n : ℕ). i < n) (sym so.were.many) less))
          | inr is ↦ ap (λ (j : ℕ). before (name_at names j)) is ∙ sym (so.others (name_at names k) (fresh_other fresh)) ∙ there ∙ sym (get_last devices d i (is ∙ sym so.were.many))
        ];
      };
      out = λ i lt. elim (below_next i k lt) [
        | inl less ↦ only (name_at names i) (fresh i less) ∙ so.out i less
        | inr is ↦ ap (λ (j : ℕ). after (name_at names j)) is ∙ gone
      ];
      others = λ other h. only other (h k (omega arith)) ∙ so.others other (λ i less. h i (omega (arith, less)));
    }

    -- what stood under the next name before
    pub next_was : AreOut before mid names k devices → IsFresh → mid (name_at names k) ≡ before (name_at names k)
    next_was so fresh = so.others (name_at names k) (fresh_other fresh)

    -- the next one is refused
    pub refused_out : AreOut before mid names k devices → IsFresh → after (name_at names k) ≡ mid (name_at names k) → OnlyAt → AreOut before after names k devices
    refused_out so fresh stays only = record {
      were = so.were;
      out = λ i less. only (name_at names i) (fresh i less) ∙ so.out i less;
      others = λ other h. elim (same_text other (name_at names k)) [
        | inl same ↦ ap after same ∙ stays ∙ ap mid (sym same) ∙ so.others other h
        | inr not ↦ only other not ∙ so.others other h
      ];
    }

  -- of all devices those after the ones that are left were put back
  pub record PutDown (before now : Text → Option D) (names : List Text) (all left : List D) : Type 0 where
    pub shorter : length left ≤ length all
    pub same : (i : ℕ) → i < length left → slice_get left i ≡ slice_get all i
    pub back : (i : ℕ) → length left ≤ i → i < length all → now (name_at names i) ≡ slice_get all i
    pub others : (other : Text) → ((i : ℕ) → length left ≤ i → i < length all → other ≢ name_at names i) → now other ≡ before other

  pub none_put : (at : Text → Option D) (names : List Text) (all : List D) → PutDown at at names all all
  none_put at names all = record {
    shorter = omega arith;
    same = λ i lt. refl;
    back = λ i le lt. absurd (omega (arith, le, lt));
    others = λ other h. refl;
  }

  pub all_put : (before now : Text → Option D) (names : List Text) (all left : List D) → length left ≡ 0 → PutDown before now names all left → ArePut before now names (length all) all
  all_put before now names all left none so = record {
    back = record { many = refl; each = λ i lt. so.back i (omega (arith, none)) lt };
    others = λ other h. so.others other (λ i le lt. h i lt);
  }

  pub one_put : (before now after : Text → Option D) (names : List Text) (all left rest : List D) (d : D) → PutDown before now names all left → IsDistinct names (length all) → left ≡ rest ++ d ∷ []
      → after (name_at names (length rest)) ≡ Some d → ((other : Text) → other ≢ name_at names (length rest) → after other ≡ now other) → PutDown before after names all rest
  one_put before now after names all left rest d so distinct e put only =
      let longer : length left ≡ length rest + 1 = ap length e ∙ more_length rest d (length rest) refl in
      let last : slice_get all (length rest) ≡ Some d = sym (so.same (length rest) (omega (arith, longer))) ∙ ap (λ (xs : List D). slice_get xs (length rest)) e ∙ get_last rest d (length rest) refl in
      let within : length rest < length all = omega (arith, longer, so.shorter) in
      record {
        shorter = omega (arith, longer, so.shorter);
        same = λ i lt. sym (get_before rest (d ∷ []) i lt) ∙ ap (λ (xs : List D). slice_get xs i) (sym e) ∙ so.same i (omega (arith, lt, longer));
        back = λ i le lt. elim (at_or_past (length rest) i le) [
          | inl is ↦ ap (λ (j : ℕ). after (name_at names j)) is ∙ put ∙ sym last ∙ ap (slice_get all) (sym is)
          | inr past ↦ only (name_at names i) (λ same. distinct (length rest) i past lt (sym same)) ∙ so.back i (omega (arith, past, longer)) lt
        ];
        others = λ other h. only other (h (length rest) (omega arith) within) ∙ so.others other (λ i le lt. h i (omega (arith, le, longer)) lt);
      }

  -- what was taken and put back is as it was
  pub restored : (before mid after : Text → Option D) (names : List Text) (n : ℕ) (devices : List D) → AreOut before mid names n devices → ArePut mid after names (length devices) devices → (text : Text) → after text ≡ before text
  restored before mid after names n devices taken put text =
      let back : ArePut mid after names n devices = subst (λ (m : ℕ). ArePut mid after names m devices) taken.were.many put in
      elim (among names n text) [
        | inl found ↦ ap after found.2 ∙ back.back.each found.0 found.1 ∙ sym (taken.were.each found.0 found.1) ∙ ap before (sym found.2)
        | inr other ↦ back.others text other ∙ taken.others text other
      ]

  not_none : (o : Option D) (d : D) → o ≡ Some d → o ≢ None
  not_none o d e none = absurd cc

-- Images while devices are taken out of them, or put back. `known`, `holds`, `at` and `allowed` are what contracts see of
-- them; the last is whether the image under a name may be had.
module _ {I D : Type 0} (known : I → Bool) (holds : I → Text → Bool) (at : I → Text → Option D) (allowed : I → Text → Bool) where
  -- what a call for the device under a name changes, and what it leaves
  pub record Calls (name : Text) (old new : I) : Type 0 where
    pub known_kept : known new ≡ known old
    pub places : known old ≡ true → (n : Text) → holds new n ≡ holds old n
    pub rights : known old ≡ true → (n : Text) → allowed new n ≡ allowed old n
    pub others : known old ≡ true → (other : Text) → other ≢ name → at new other ≡ at old other

  -- the devices of the first k words are out
  pub record Taking (names : List Text) (before now : I) (k : ℕ) (devices : List D) : Type 0 where
    pub known_kept : known now ≡ known before
    pub took : TakesFirst (known before) (allowed before) (at before) (at now) names k devices
    pub held : known before ≡ true → (i : ℕ) → i < k → holds now (name_at names i) ≡ true
    pub rights : known before ≡ true → (n : Text) → allowed now n ≡ allowed before n

  pub taking_none : (names : List Text) (images : I) (devices : List D) → devices ≡ [] → Taking names images images 0 devices
  taking_none names images devices e = record {
    known_kept = refl;
    took = record {
      distinct = λ i k less lt. absurd (omega (arith, lt));
      many = ap length e;
      taken = λ is. none_out (at images) names devices e;
      there = λ is i lt. absurd (omega (arith, lt));
    };
    held = λ is i lt. absurd (omega (arith, lt));
    rights = λ is n. refl;
  }

  -- as many were taken as there are devices
  pub all_taken : (names : List Text) (before now : I) (k : ℕ) (devices : List D) → Taking names before now k devices → Taking names before now (length devices) devices
  all_taken names before now k devices so = subst (λ (n : ℕ). Taking names before now n devices) (sym so.took.many) so

  module _ (words : List ImageWord) (before now after : I) (k : ℕ) (devices : List D) (name : Text) (lt : k < length words) (here : name_at (names_in words) k ≡ name) (so : Taking (names_in words) before now k devices) (calls : Calls name now after) where
    fresh : list_any (bears name) (take k words) ≡ false → (i : ℕ) → i < k → name_at (names_in words) i ≢ name_at (names_in words) k
    fresh none i less same = none_before words k i name none less (omega (arith, lt, less)) (same ∙ here)

    only : known before ≡ true → (other : Text) → other ≢ name_at (names_in words) k → at after other ≡ at now other
    only is other h = calls.others (so.known_kept ∙ is) other (λ same. h (same ∙ sym here))

    -- what stood under the name before the first call
    was : (is : known before ≡ true) → list_any (bears name) (take k words) ≡ false → at before (name_at (names_in words) k) ≡ at now name
    was is none = sym (next_was (at before) (at now) (at after) (names_in words) k devices (so.took.taken is) (fresh none)) ∙ ap (at now) here

    might : (is : known before ≡ true) → allowed before (name_at (names_in words) k) ≡ allowed now name
    might is = ap (allowed before) here ∙ sym (so.rights is name)

    pub taking_more : (d : D) → list_any (bears name) (take k words) ≡ false → (known now ≡ true → (holds now name ≡ true) × (at now name ≡ Some d)) → (known now ≡ true → allowed now name ≡ true) → (known now ≡ true → at after name ≡ None) → Taking (names_in words) before after (k + 1) (devices ++ d ∷ [])
    taking_more d none gives may gone = record {
      known_kept = calls.known_kept ∙ so.known_kept;
      took = record {
        distinct = distinct_more (names_in words) k so.took.distinct (fresh none);
        many = length-append devices (d ∷ []) ∙ ap (λ (n : ℕ). n + 1) so.took.many;
        taken = λ is.
            one_out (at before) (at now) (at after) (names_in words) k devices d (so.took.taken is) (fresh none) (ap (at now) here ∙ (gives (so.known_kept ∙ is)).1) (ap (at after) here ∙ gone (so.known_kept ∙ is)) (only is);
        there = λ is i less. elim (below_next i k less) [
          | inl inside ↦ so.took.there is i inside
          | inr last ↦ subst (λ (j : ℕ). IsThere (allowed before) (at before) (names_in words) j) (sym last)
              (not_none _ d (was is none ∙ (gives (so.known_kept ∙ is)).1), might is ∙ may (so.known_kept ∙ is))
        ];
      };
      held = λ is i less. elim (below_next i k less) [
        | inl inside ↦ calls.places (so.known_kept ∙ is) (name_at (names_in words) i) ∙ so.held is i inside
        | inr last ↦ calls.places (so.known_kept ∙ is) (name_at (names_in words) i) ∙ ap (λ (j : ℕ). holds now (name_at (names_in words) j)) last ∙ ap (holds now) here ∙ (gives (so.known_kept ∙ is)).0
      ];
      rights = λ is n. calls.rights (so.known_kept ∙ is) n ∙ so.rights is n;
    }

    pub taking_refused : list_any (bears name) (take k words) ≡ false → (known now ≡ true → at after name ≡ at now name) → Taking (names_in words) before after k devices
    taking_refused none stays = record {
      known_kept = calls.known_kept ∙ so.known_kept;
      took = record {
        distinct = so.took.distinct;
        many = so.took.many;
        taken = λ is. refused_out (at before) (at now) (at after) (names_in words) k devices (so.took.taken is) (fresh none) (ap (at after) here ∙ stays (so.known_kept ∙ is) ∙ sym (ap (at now) here)) (only is);
        there = so.took.there;
      };
      held = λ is i less. calls.places (so.known_kept ∙ is) (name_at (names_in words) i) ∙ so.held is i less;
      rights = λ is n. calls.rights (so.known_kept ∙ is) n ∙ so.rights is n;
    }

    pub refused_bad : (fault : ImageFault) → list_any (bears name) (take k words) ≡ false → (known now ≡ true → IsImageRefused (at now name) (allowed now name) fault) → IsNameRefused (known before) (allowed before) (at before) (names_in words) k (Unopened fault)
    refused_bad fault none refused = λ is. elim (refused (so.known_kept ∙ is)) [
      | inl missing ↦ inl (was is none ∙ missing)
      | inr forbidden ↦ inr (might is ∙ forbidden.0, forbidden.1)
    ]

  -- of all devices those after the ones that are left are back
  pub record Putting (names : List Text) (before now : I) (all left : List D) : Type 0 where
    pub known_kept : known now ≡ known before
    pub places : known before ≡ true → (n : Text) → holds now n ≡ holds before n
    pub shorter : length left ≤ length all
    pub down : known before ≡ true → PutDown (at before) (at now) names all left

  pub putting_none : (names : List Text) (images : I) (all : List D) → Putting names images images all all
  putting_none names images all = record {
    known_kept = refl;
    places = λ is n. refl;
    shorter = omega arith;
    down = λ is. none_put (at images) names all;
  }

  pub putting_more : (names : List Text) (before now after : I) (all left rest : List D) (d : D) (name : Text) → Putting names before now all left → IsDistinct names (length all) → left ≡ rest ++ d ∷ [] → name_at names (length rest) ≡ name → Calls name now after
      → (known now ≡ true → at after name ≡ Some d) → Putting names before after all rest
  putting_more names before now after all left rest d name so distinct e here calls back =
      let longer : length left ≡ length rest + 1 = ap length e ∙ length-append rest (d ∷ []) in
      record {
        known_kept = calls.known_kept ∙ so.known_kept;
        places = λ is n. calls.places (so.known_kept ∙ is) n ∙ so.places is n;
        shorter = omega (arith, longer, so.shorter);
        down = λ is.
            one_put (at before) (at now) (at after) names all left rest d (so.down is) distinct e (ap (at after) here ∙ back (so.known_kept ∙ is)) (λ other h. calls.others (so.known_kept ∙ is) other (λ same. h (same ∙ sym here)));
      }
