-- The front of a buffer is filled, piece by piece.
use Rattle.std.proofs.Common.{◌≡◌, ℕ, ◌+◌, ◌≤◌, Bool, Option, Some, None, List, ◌++◌, length, take, refl, sym, ap, ◌∙◌, append_assoc, arith}
use Rattle.std.specs.Io.KnownBytes.{Consumes}
use Rattle.std.proofs.KnownBytes.{Consumes-kept}
use Rattle.std.proofs.Math.Seq.{take-append-add}
use Rattle.std.proofs.lemmas.List.{length-append, length-take-le, take-take}
use Rattle.std.proofs.lemmas.Slice.{take-put_mid}
use borrow.Rule.Slice.PartMut.{put_mid, post_of}
use Rattle.md_streams.specs.declared.source.Source.{Ghosts}
use Rattle.md_streams.specs.FrontFilled.{FailsAfter}
use Rattle.md_streams.specs.Source.{FailsToGive, Gives}

consumes_both : (a b c : Option (List ℕ)) (xs ys : List ℕ) → Consumes a b xs → Consumes b c ys → Consumes a c (xs ++ ys)
consumes_both None b c xs ys h k = tt
consumes_both (Some u) None c xs ys h k = absurd h
consumes_both (Some u) (Some v) None xs ys h k = absurd k
consumes_both (Some u) (Some v) (Some w) xs ys h k = h ∙ ap (λ (t : List ℕ). xs ++ t) k ∙ sym (append_assoc xs ys w)

pub gives_both : {I : Type 0} (remaining : I → Option (List ℕ)) (failed : I → Bool) (old mid new : I) (xs ys : List ℕ) → Gives remaining failed old mid xs → Gives remaining failed mid new ys → Gives remaining failed old new (xs ++ ys)
gives_both remaining failed old mid new xs ys g h = record { consumes = consumes_both (remaining old) (remaining mid) (remaining new) xs ys g.consumes h.consumes; well = h.well ∙ g.well }

-- the front of a buffer, after a piece was put behind it
pub front_grows : (a n k : ℕ) (xs ys : List ℕ) → a ≤ length xs → n ≤ length ys → take (a + n) (put_mid a k xs ys) ≡ take a xs ++ take n ys
front_grows a n k xs ys le few =
    let whole : take (a + length ys) (put_mid a k xs ys) ≡ take a xs ++ ys = take-put_mid a k xs ys (a + length ys) refl le in
    let len : length (take a xs) ≡ a = length-take-le a xs le in
    let cut : take (a + n) (put_mid a k xs ys) ≡ take (a + n) (take (a + length ys) (put_mid a k xs ys)) = sym (take-take (a + n) (a + length ys) (put_mid a k xs ys) (omega arith)) in
    cut ∙ ap (take (a + n)) whole ∙ ap (λ (m : ℕ). take (m + n) (take a xs ++ ys)) (sym len) ∙ take-append-add (take a xs) ys n

pub front_fits : (a n k : ℕ) (xs ys : List ℕ) → a ≤ length xs → n ≤ length ys → a + n ≤ length (put_mid a k xs ys)
front_fits a n k xs ys le few = omega (arith, length-append (take a xs) (ys ++ post_of a k xs), length-append ys (post_of a k xs), length-take-le a xs le)

-- the front after a last piece without a byte
pub front_stays : {I : Type 0} (remaining : I → Option (List ℕ)) (failed : I → Bool) (old mid new : I) (a n k : ℕ) (xs ys : List ℕ) → a ≤ length xs → n ≤ length ys → n ≡ 0
    → Gives remaining failed old mid (take a xs) → Gives remaining failed mid new (take n ys) → Gives remaining failed old new (take a (put_mid a k xs ys))
front_stays remaining failed old mid new a n k xs ys le few none g h =
    let both = gives_both remaining failed old mid new (take a xs) (take n ys) g h in
    let same : take a (put_mid a k xs ys) ≡ take a xs ++ take n ys = ap (λ (m : ℕ). take m (put_mid a k xs ys)) (omega (arith, none)) ∙ front_grows a n k xs ys le few in
    rw same both

-- bytes came, and then a call failed
pub fails_there : {I : Type 0} (i : Ghosts I) (old mid new : I) (bytes : List ℕ) (long : ℕ) → Gives i.remaining i.failed old mid bytes → FailsToGive i.remaining i.failed mid new → length bytes ≤ long → FailsAfter i long old new
fails_there i old mid new bytes long given fails fits = record {
  bytes = bytes;
  few = fits;
  taken = Consumes-kept (i.remaining old) (i.remaining mid) (i.remaining new) bytes given.consumes fails.keeps;
  has_failed = fails.has_failed;
}
