-- An image that can't be opened, and one image more that is looked at.
use Rattle.std.proofs.Common.{◌≡◌, ◌≢◌, ◌∙◌, ℕ, ◌+◌, ◌<◌, Bool, true, List, [], ◌∷◌, ◌++◌, Option, None, Result, Ok, Err, is_err, length, take, get_or, refl, sym, ap, subst, inl, inr, arith, append_assoc, append-nil, true≢false}
use Rattle.std.specs.Prelude.{MatchResult, IsErrAnd}
use Rattle.std.proofs.lemmas.List.{length-append, length-take, take_all, take_more}
use Rattle.std.proofs.lemmas.List.Elements.{All-push}
use Rattle.md_members.specs.declared.fault.MemberFault.TheVariants.{NoMemory}
use Rattle.md_device.specs.declared.device.Device.{Ghosts}
use Rattle.md_images.specs.Images.{IsImageRefused}
use Rattle.md_images.specs.declared.image_fault.ImageFault.{ImageFault}
use Rattle.md_images.specs.declared.images.Images.{Ghosts as ImagesGhosts}
use Rattle.md_examine_commands.specs.Examining.{OthersStay}
use Rattle.md_examine_commands.specs.declared.scan.seen.Seen.{Seen}
use Rattle.md_examine_commands.specs.declared.scan.each_image.Looked.{Looked}
use Rattle.md_examine_commands.specs.declared.scan.refused.Refused.{Refused}
use Rattle.md_examine_commands.specs.declared.scan.refused.ScanFault.{ScanFault}
use Rattle.md_examine_commands.specs.declared.scan.refused.ScanFault.TheVariants.{Image, Member}
use Rattle.md_examine_commands.specs.EachImage.{AreKnownWhy, IsKnownWhy, LooksAt, LooksAtAll, LooksAtEach, LooksAtFirst, Name, RefusesToLook, Shown, refused_in, refused_of, seen_in, seen_of}

-- an image that may always be looked at is refused where it has no device
is_absent : {D : Type 0} (device : Option D) (fault : ImageFault) → IsImageRefused device true fault → device ≡ None
is_absent {D = D} device fault (inl none) = none
is_absent {D = D} device fault (inr refused) = absurd (true≢false refused.0)

-- an image that can't be opened, by the answer of the call that opens it
pub refuses_to_look : {I D : Type 0} (i : ImagesGhosts I D) (g : Ghosts D) (name : List ℕ) (before after : I) (Given : D → Type 0)
    (own : Result D ImageFault) (opened : Result D ScanFault) (fault : ScanFault) (shown : Shown) → opened ≡ Err fault → shown ≡ Err fault
    → MatchResult own (λ d. opened ≡ Ok d) (λ f. IsErrAnd opened (λ told. told ≡ Image f))
    → (i.known before ≡ true → MatchResult own Given (IsImageRefused (i.device_at before name) true))
    → (i.known before ≡ true → MatchResult own (λ _. i.device_at after name ≡ None) (λ _. i.device_at after name ≡ i.device_at before name))
    → (i.known before ≡ true → OthersStay (i.device_at before) (i.device_at after) name)
    → RefusesToLook i g name before after shown
refuses_to_look {D = D} i g name before after Given (Ok d) opened fault shown is told cases gives gone others =
    absurd (true≢false (sym (ap (λ (t : Result D ScanFault). is_err t) (sym cases ∙ is))))
refuses_to_look {D = D} i g name before after Given (Err f) opened fault shown is told cases gives gone others =
    let own : fault ≡ Image f = subst (λ (t : Result D ScanFault). IsErrAnd t (λ told. told ≡ Image f)) is cases in
    let absent : i.known before ≡ true → i.device_at before name ≡ None = λ k. is_absent (i.device_at before name) f (gives k) in
    record {
      fault = f;
      is = subst (λ (t : ScanFault). shown ≡ Err t) own told;
      was = absent;
      stays = λ k. gone k ∙ absent k;
      others = others;
    }

pub seen_more : (names : List Name) (shown : List Shown) (name : Name) (one : Shown) → length shown ≡ length names
    → seen_of (names ++ name ∷ []) (shown ++ one ∷ []) ≡ seen_of names shown ++ seen_in name one
unfolding seen_of
seen_more [] [] name one e = append-nil (seen_in name one)
seen_more [] (x ∷ shown) name one e = absurd (omega arith)
seen_more (n ∷ names) [] name one e = absurd (omega arith)
seen_more (n ∷ names) (x ∷ shown) name one e =
    ap (λ (t : List Seen). seen_in n x ++ t) (seen_more names shown name one (omega arith))
    ∙ sym (append_assoc (seen_in n x) (seen_of names shown) (seen_in name one))

pub refused_more : (names : List Name) (shown : List Shown) (name : Name) (one : Shown) → length shown ≡ length names
    → refused_of (names ++ name ∷ []) (shown ++ one ∷ []) ≡ refused_of names shown ++ refused_in name one
unfolding refused_of
refused_more [] [] name one e = append-nil (refused_in name one)
refused_more [] (x ∷ shown) name one e = absurd (omega arith)
refused_more (n ∷ names) [] name one e = absurd (omega arith)
refused_more (n ∷ names) (x ∷ shown) name one e =
    ap (λ (t : List Refused). refused_in n x ++ t) (refused_more names shown name one (omega arith))
    ∙ sym (append_assoc (refused_in n x) (refused_of names shown) (refused_in name one))

-- one refusal more, of an image of which it is known why
pub known_more : (refused : List Refused) (name : Name) (one : Shown) → AreKnownWhy refused → IsKnownWhy one → AreKnownWhy (refused ++ refused_in name one)
known_more refused name (Ok v) h known = subst AreKnownWhy (sym (append-nil refused)) h
known_more refused name (Err f) h known = All-push (λ (one : Refused). one.fault ≢ Member NoMemory) refused (record { name = name; fault = f }) h (λ e. known (ap (λ (t : ScanFault). Err t) e))

module _ {I D : Type 0} (i : ImagesGhosts I D) (g : Ghosts D) where
  pub each_more : (names : List Name) (before mid after : I) (shown : List Shown) (name : Name) (one : Shown)
      → LooksAtEach i g names before mid shown → LooksAt i g name.now mid after one
      → LooksAtEach i g (names ++ name ∷ []) before after (shown ++ one ∷ [])
  each_more [] before mid after [] name one h last =
      (after, subst (λ (m : I). LooksAt i g name.now m after one) h last, refl)
  each_more [] before mid after (x ∷ shown) name one h last = absurd h
  each_more (n ∷ names) before mid after [] name one h last = absurd h
  each_more (n ∷ names) before mid after (x ∷ shown) name one h last =
      (h.0, h.1, each_more names h.0 mid after shown name one h.2 last)

  -- so many images were looked at, and this is what they show
  pub record Looking (names : List Name) (count : ℕ) (before after : I) (looked : Looked) : Type 0 where
    pub shown : List Shown
    pub first : LooksAtFirst i g names count before after shown
    pub seen : looked.seen.items ≡ seen_of (take count names) shown
    pub refused : looked.refused.items ≡ refused_of (take count names) shown
    pub memory : AreKnownWhy looked.refused.items

  pub first_more : (names : List Name) (count : ℕ) (before mid after : I) (shown : List Shown) (name : Name) (one : Shown) → count < length names
      → LooksAtFirst i g names count before mid shown → get_or names count name ≡ name → LooksAt i g name.now mid after one
      → LooksAtFirst i g names (count + 1) before after (shown ++ one ∷ [])
  first_more names count before mid after shown name one lt so is last =
      let next : take (count + 1) names ≡ take count names ++ name ∷ [] = take_more names count name lt ∙ ap (λ (n : Name). take count names ++ n ∷ []) is in
      record {
        many = length-append shown (one ∷ []) ∙ ap (λ (n : ℕ). n + 1) so.many;
        each = rw next (each_more (take count names) before mid after shown name one so.each last);
      }

  pub one_more : (names : List Name) (count : ℕ) (before mid after : I) (looked new : Looked) (name : Name) (one : Shown) → count < length names
      → Looking names count before mid looked → get_or names count name ≡ name → LooksAt i g name.now mid after one
      → new.seen.items ≡ looked.seen.items ++ seen_in name one → new.refused.items ≡ looked.refused.items ++ refused_in name one
      → IsKnownWhy one
      → Looking names (count + 1) before after new
  one_more names count before mid after looked new name one lt so is last seen refused known =
      let next : take (count + 1) names ≡ take count names ++ name ∷ [] = take_more names count name lt ∙ ap (λ (n : Name). take count names ++ n ∷ []) is in
      let cut = length-take count names in
      let long : length (take count names) ≡ count = omega (arith, lt, cut) in
      let same : length so.shown ≡ length (take count names) = so.first.many ∙ sym long in
      record {
        shown = so.shown ++ one ∷ [];
        first = first_more names count before mid after so.shown name one lt so.first is last;
        seen = seen ∙ ap (λ (t : List Seen). t ++ seen_in name one) so.seen ∙ sym (seen_more (take count names) so.shown name one same) ∙ ap (λ (t : List Name). seen_of t (so.shown ++ one ∷ [])) (sym next);
        refused = refused ∙ ap (λ (t : List Refused). t ++ refused_in name one) so.refused ∙ sym (refused_more (take count names) so.shown name one same) ∙ ap (λ (t : List Name). refused_of t (so.shown ++ one ∷ [])) (sym next);
        memory = subst AreKnownWhy (sym refused) (known_more looked.refused.items name one so.memory known);
      }

  -- all of them
  pub all_looked : (names : List Name) (count : ℕ) (before after : I) (looked : Looked) → count ≡ length names → Looking names count before after looked → LooksAtAll i g names before after looked
  all_looked names count before after looked all so =
      let whole : take (length names) names ≡ names = take_all (length names) names (omega arith) in
      let so : Looking names (length names) before after looked = subst (λ (n : ℕ). Looking names n before after looked) all so in
      record {
        shown = so.shown;
        first = so.first;
        seen = so.seen ∙ ap (λ (t : List Name). seen_of t so.shown) whole;
        refused = so.refused ∙ ap (λ (t : List Name). refused_of t so.shown) whole;
        memory = so.memory;
      }
