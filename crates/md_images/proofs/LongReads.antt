-- Long reads, piece by piece.
use Rattle.std.proofs.Common.{◌≡◌, ℕ, ◌+◌, ◌-◌, ◌*◌, ◌/◌, ◌%◌, ◌≤◌, List, [], ◌++◌, length, take, drop, refl, sym, ap, ◌∙◌, arith, drop-drop, length-append, length-drop}
use Rattle.std.proofs.Math.Seq.{take-add}
use Rattle.std.proofs.lemmas.List.{length-take-le}
use Rattle.std.proofs.lemmas.Slice.{take-put_mid}
use borrow.Rule.Slice.PartMut.{put_mid}
use Rattle.md_device.specs.Device.{held}
use Rattle.md_device.specs.Splice.{part}

-- nothing was read yet
pub held_none : (content : List ℕ) (sector : ℕ) → [] ≡ held content sector 0
unfolding part
held_none content sector = refl

-- what was read of the first bytes, and then of as many more
held_then : (content : List ℕ) (sector done n : ℕ) → done % 512 ≡ 0 → held content sector (done + n) ≡ held content sector done ++ held content (sector + done / 512) n
unfolding part
held_then content sector done n whole =
    let at : 512 * sector + done ≡ 512 * (sector + done / 512) = omega arith in
    take-add done n (drop (512 * sector) content)
    ∙ ap (λ (xs : List ℕ). take done (drop (512 * sector) content) ++ take n xs) (drop-drop done (512 * sector) content ∙ ap (λ (k : ℕ). drop k content) at)

-- one piece more was read into a buffer
pub piece_read : (content : List ℕ) (sector done len k : ℕ) (xs ys : List ℕ) → done % 512 ≡ 0 → done ≤ length xs → length ys ≡ len
    → take done xs ≡ held content sector done → ys ≡ held content (sector + done / 512) len
    → take (done + len) (put_mid done k xs ys) ≡ held content sector (done + len)
piece_read content sector done len k xs ys whole inside long before is =
    take-put_mid done k xs ys (done + len) (ap (λ (m : ℕ). done + m) (sym long)) inside
    ∙ ap (λ (zs : List ℕ). zs ++ ys) before ∙ ap (λ (zs : List ℕ). held content sector done ++ zs) is
    ∙ sym (held_then content sector done len whole)

-- a part of a buffer was read into, and is as long as before
pub length-replaced : (done n : ℕ) (xs ys : List ℕ) → done + n ≤ length xs → length ys ≡ n → length (put_mid done n xs ys) ≡ length xs
length-replaced done n xs ys within as_long =
    let front = length-take-le done xs (omega arith) in
    let past = length-drop done xs in
    let rest = length-drop n (drop done xs) in
    length-append (take done xs) (ys ++ drop n (drop done xs)) ∙ ap (λ (m : ℕ). length (take done xs) + m) (length-append ys (drop n (drop done xs))) ∙ (omega arith)

-- how long a part of a buffer is
pub length-middle : (done len : ℕ) (xs : List ℕ) → done + len ≤ length xs → length (take (done + len - done) (drop done xs)) ≡ len
length-middle done len xs within =
    let past = length-drop done xs in
    let e : done + len - done ≡ len = omega arith in
    length-take-le (done + len - done) (drop done xs) (omega arith) ∙ e
