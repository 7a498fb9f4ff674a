-- One write after another.
use Rattle.std.proofs.Common.{suc, ◌+◌, ◌<◌, length, get_or, map, take, arith, sym, append-nil, ◌≡◌, ℕ, Bool, List, [], ◌∷◌, ◌++◌, Option, Some, None, Result, Ok, Err, append_assoc, inl, inr, ap, ◌∙◌, refl}
use Rattle.std.specs.Io.KnownBytes.{Appends}
use Rattle.std.specs.List.{flat_map}
use Rattle.std.proofs.lemmas.List.{flat_map_more, take_more}
use Rattle.md_streams.specs.Putting.{PutsTold}
use Rattle.md_streams.specs.Sink.{Puts, PutsOrFails}
use Rattle.md_streams.specs.declared.sink.Sink.{Ghosts}
use Rattle.md_streams.specs.declared.sink.SinkFault.{SinkFault}

appends_then : (a b c : Option (List ℕ)) (xs ys : List ℕ) → Appends a b xs → Appends b c ys → Appends a c (xs ++ ys)
appends_then None b c xs ys p q = tt
appends_then (Some o) None c xs ys p q = absurd p
appends_then (Some o) (Some n) None xs ys p q = absurd q
appends_then (Some o) (Some n) (Some m) xs ys p q = q ∙ ap (λ (t : List ℕ). t ++ ys) p ∙ append_assoc o xs ys

pub puts_then : {S : Type 0} (contents : S → Option (List ℕ)) (failed : S → Bool) {a b c : S} {xs ys : List ℕ} → Puts contents failed a b xs → Puts contents failed b c ys → Puts contents failed a c (xs ++ ys)
puts_then contents failed {a = a} {b = b} {c = c} {xs = xs} {ys = ys} p q = record {
  appends = appends_then (contents a) (contents b) (contents c) xs ys p.appends q.appends;
  well = q.well ∙ p.well;
}

-- a list that f gives element by element
pub is_map : (f : ℕ → ℕ) (xs ys : List ℕ) → length ys ≡ length xs → ((k : ℕ) → k < length xs → get_or ys k 0 ≡ f (get_or xs k 0)) → ys ≡ map f xs
is_map f [] [] e h = refl
is_map f [] (y ∷ ys) e h = absurd (omega arith)
is_map f (x ∷ xs) [] e h = absurd (omega arith)
is_map f (x ∷ xs) (y ∷ ys) e h =
    let front : y ≡ f x = h 0 (omega arith) in
    let rest = is_map f xs ys (omega arith) (λ k lt. h (suc k) (omega arith)) in
    rw (front, rest) refl

pub four_parts : (front a b c d end : List ℕ) → front ++ a ++ b ++ c ++ d ++ end ≡ front ++ (a ++ b ++ c ++ d) ++ end
four_parts front a b c d end = simp append_assoc

appends_nothing : (a : Option (List ℕ)) → Appends a a []
appends_nothing None = tt
appends_nothing (Some o) = sym (append-nil o)

pub puts_nothing : {S : Type 0} (contents : S → Option (List ℕ)) (failed : S → Bool) (a : S) → Puts contents failed a a []
puts_nothing contents failed a = record { appends = appends_nothing (contents a); well = refl }

-- the text of one more element
pub flat_map_at : {X : Type 0} (f : X → List ℕ) (xs : List X) (i : ℕ) (d : X) → i < length xs → flat_map f (take i xs) ++ f (get_or xs i d) ≡ flat_map f (take (i + 1) xs)
flat_map_at f xs i d lt = flat_map_more f [] (take i xs) (get_or xs i d) ∙ ap (flat_map f) (sym (take_more xs i d lt))

pub told_or_failed : {E : Type 0} (e : Ghosts E) {a b : E} {text : List ℕ} (result : Result (Unit {0}) SinkFault) → PutsOrFails e.contents e.failed a b text result → PutsTold e a b text
told_or_failed e (Ok v) h = inl h
told_or_failed e (Err f) h = inr h
