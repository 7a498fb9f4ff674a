-- A line is read byte by byte, and it is known so far whether it may be a yes.
use Rattle.std.proofs.Common.{◌≡◌, ◌≢◌, ◌⊎◌, ◌∙◌, ℕ, ◌+◌, ◌-◌, ◌^◌, Bool, true, false, ◌&&◌, ◌||◌, eqb, List, [], ◌∷◌, ◌++◌, append_assoc, append-nil, codes, length, length-append, inl, inr, refl, ap, sym, subst, arith}
use Rattle.std.specs.Io.KnownBytes.{Consumes, IsAtEnd}
use Rattle.std.specs.List.{AllByRecursion}
use Rattle.std.proofs.KnownBytes.{Consumes-kept, Consumes-nil, Consumes-trans}
use Rattle.std.proofs.lemmas.Bool.Decides.{eqb_tells}
use Rattle.std.specs.Prelude.{None, Some, if◌then◌else◌, slice_index, take}
use Rattle.std.specs.Str.{bytes_eq}
use Rattle.md_streams.specs.Source.{FailsToGive, Gives, GivesToBuffer}
use Rattle.md_streams.specs.declared.source.Source.{Ghosts}
use Rattle.md_streams.specs.Answer.{Answers, IsWithinLine, TakesByte, TakesLine, TakesNoLine, is_agreed, is_yes}
use Rattle.md_streams.specs.Heard.{answer_of, heard_with}
use Rattle.md_streams.specs.declared.answer.Answer.{Answer}
use Rattle.md_streams.specs.declared.answer.Heard.{Heard}
use Rattle.md_streams.specs.declared.answer.Heard.TheVariants.{Nothing, Y, Ye, Yes, Other}

-- no yes begins so
abbrev pub IsAstray : List ℕ → Type 0
IsAstray line = (rest : List ℕ) → is_yes (line ++ rest) ≡ false

abbrev pub IsHeard : List ℕ → Heard → Type 0
IsHeard line Nothing = line ≡ []
IsHeard line Y = line ≡ codes "y"
IsHeard line Ye = line ≡ codes "ye"
IsHeard line Yes = line ≡ codes "yes"
IsHeard line Other = IsAstray line

abbrev Tells : ℕ → ℕ → Type 0
Tells byte letter = ((eqb byte letter ≡ true) × (byte ≡ letter)) ⊎ ((eqb byte letter ≡ false) × (byte ≢ letter))

first_byte : (byte : ℕ) → Tells byte 121 → IsHeard (byte ∷ []) (heard_with Nothing byte)
first_byte byte (inl e) = subst (λ (b : Bool). IsHeard (byte ∷ []) (if b then Y else Other)) (sym e.0) (ap (λ x. x ∷ []) e.1)
first_byte byte (inr e) =
    subst (λ (b : Bool). IsHeard (byte ∷ []) (if b then Y else Other)) (sym e.0)
    (λ rest. subst (λ (b : Bool). ((b && bytes_eq rest (101 ∷ 115 ∷ [])) || (b && bytes_eq rest [])) ≡ false) (sym e.0) refl)

second_byte : (byte : ℕ) → Tells byte 101 → IsHeard (121 ∷ byte ∷ []) (heard_with Y byte)
second_byte byte (inl e) = subst (λ (b : Bool). IsHeard (121 ∷ byte ∷ []) (if b then Ye else Other)) (sym e.0) (ap (λ x. 121 ∷ x ∷ []) e.1)
second_byte byte (inr e) =
    subst (λ (b : Bool). IsHeard (121 ∷ byte ∷ []) (if b then Ye else Other)) (sym e.0)
    (λ rest. subst (λ (b : Bool). ((b && bytes_eq rest (115 ∷ [])) || false) ≡ false) (sym e.0) refl)

third_byte : (byte : ℕ) → Tells byte 115 → IsHeard (121 ∷ 101 ∷ byte ∷ []) (heard_with Ye byte)
third_byte byte (inl e) = subst (λ (b : Bool). IsHeard (121 ∷ 101 ∷ byte ∷ []) (if b then Yes else Other)) (sym e.0) (ap (λ x. 121 ∷ 101 ∷ x ∷ []) e.1)
third_byte byte (inr e) =
    subst (λ (b : Bool). IsHeard (121 ∷ 101 ∷ byte ∷ []) (if b then Yes else Other)) (sym e.0)
    (λ rest. subst (λ (b : Bool). ((b && bytes_eq rest []) || false) ≡ false) (sym e.0) refl)

also : (P : ℕ → Type 0) (xs : List ℕ) (x : ℕ) → AllByRecursion P xs → P x → AllByRecursion P (xs ++ x ∷ [])
also P [] x h p = (p, tt)
also P (y ∷ xs) x h p = (h.0, also P xs x h.1 p)

pub heard_then : (line : List ℕ) (heard : Heard) (byte : ℕ) → IsHeard line heard → IsHeard (line ++ byte ∷ []) (heard_with heard byte)
heard_then line Nothing byte h = subst (λ (l : List ℕ). IsHeard (l ++ byte ∷ []) (heard_with Nothing byte)) (sym h) (first_byte byte (eqb_tells byte 121))
heard_then line Y byte h = subst (λ (l : List ℕ). IsHeard (l ++ byte ∷ []) (heard_with Y byte)) (sym h) (second_byte byte (eqb_tells byte 101))
heard_then line Ye byte h = subst (λ (l : List ℕ). IsHeard (l ++ byte ∷ []) (heard_with Ye byte)) (sym h) (third_byte byte (eqb_tells byte 115))
heard_then line Yes byte h = subst (λ (l : List ℕ). IsAstray (l ++ byte ∷ [])) (sym h) (λ rest. refl)
heard_then line Other byte h = λ rest. ap is_yes (append_assoc line (byte ∷ []) rest) ∙ h (byte ∷ rest)

pub heard_tells : (line : List ℕ) (heard : Heard) → IsHeard line heard → is_yes line ≡ is_agreed (answer_of heard)
heard_tells line Nothing h = ap is_yes h
heard_tells line Y h = ap is_yes h
heard_tells line Ye h = ap is_yes h
heard_tells line Yes h = ap is_yes h
heard_tells line Other h = ap is_yes (sym (append-nil line)) ∙ h []

module _ {R : Type 0} (r : Ghosts R) where
  -- so many bytes of a line were read
  pub record IsSoFar (old now : R) (heard : Heard) (taken : ℕ) : Type 0 where
    pub line : List ℕ
    pub one : IsWithinLine line
    pub gives : Gives r.remaining r.failed old now line
    pub is : IsHeard line heard
    pub many : length line ≡ taken

  pub no_byte_yet : (at : R) → IsSoFar at at Nothing 0
  no_byte_yet at = record { line = []; one = tt; gives = record { consumes = Consumes-nil (r.remaining at); well = refl }; is = refl; many = refl }

  gives_both : (old mid new : R) (xs ys : List ℕ) → Gives r.remaining r.failed old mid xs → Gives r.remaining r.failed mid new ys → Gives r.remaining r.failed old new (xs ++ ys)
  gives_both old mid new xs ys g h = record { consumes = Consumes-trans (r.remaining old) (r.remaining mid) (r.remaining new) xs ys g.consumes h.consumes; well = h.well ∙ g.well }

  -- one more, which is no line feed
  pub one_byte_more : (old mid new : R) (heard : Heard) (taken byte : ℕ) → IsSoFar old mid heard taken → Gives r.remaining r.failed mid new (byte ∷ []) → byte ≢ 10
      → IsSoFar old new (heard_with heard byte) (taken + 1)
  one_byte_more old mid new heard taken byte h gives other = record {
    line = h.line ++ byte ∷ [];
    one = also (λ (x : ℕ). x ≢ 10) h.line byte h.one other;
    gives = gives_both old mid new h.line (byte ∷ []) h.gives gives;
    is = heard_then h.line heard byte h.is;
    many = omega (arith, h.many, length-append h.line (byte ∷ []));
  }

  -- a byte was taken into a buffer of one, or none
  pub byte_taken : (old new : R) (buf : List ℕ) (n : ℕ) → length buf ≡ 1 → GivesToBuffer r.remaining r.failed old new buf n → n ≢ 0 → TakesByte r old new (Some (slice_index buf 0))
  byte_taken old new (x ∷ []) n one gives some =
      let all : n ≡ 1 = omega (arith, gives.few, some) in
      subst (λ (k : ℕ). Gives r.remaining r.failed old new (take k (x ∷ []))) all gives.gives
  byte_taken old new (x ∷ y ∷ rest) n one gives some = absurd (omega (arith, one))
  byte_taken old new [] n one gives some = absurd (omega (arith, one))

  pub none_taken : (old new : R) (buf : List ℕ) (n : ℕ) → length buf ≡ 1 → GivesToBuffer r.remaining r.failed old new buf n → n ≡ 0 → TakesByte r old new None
  none_taken old new buf n one gives none =
      (subst (λ (k : ℕ). Gives r.remaining r.failed old new (take k buf)) none gives.gives, gives.end none (omega (arith, one)))

  takes_line : (old mid new : R) (heard : Heard) (taken byte : ℕ) (agreed : Bool) → IsSoFar old mid heard taken → Gives r.remaining r.failed mid new (byte ∷ []) → byte ≡ 10
      → is_agreed (answer_of heard) ≡ agreed → TakesLine r old new agreed
  takes_line old mid new heard taken byte agreed h gives end answers = record {
    line = h.line;
    one = h.one;
    gives = subst (λ (b : ℕ). Gives r.remaining r.failed old new (h.line ++ b ∷ [])) end (gives_both old mid new h.line (byte ∷ []) h.gives gives);
    is = heard_tells h.line heard h.is ∙ answers;
  }

  -- a line feed ends it
  pub line_ends : (old mid new : R) (heard : Heard) (taken byte : ℕ) → IsSoFar old mid heard taken → Gives r.remaining r.failed mid new (byte ∷ []) → byte ≡ 10
      → Answers r old new (answer_of heard)
  line_ends old mid new Nothing taken byte h gives end = takes_line old mid new Nothing taken byte false h gives end refl
  line_ends old mid new Y taken byte h gives end = takes_line old mid new Y taken byte true h gives end refl
  line_ends old mid new Ye taken byte h gives end = takes_line old mid new Ye taken byte false h gives end refl
  line_ends old mid new Yes taken byte h gives end = takes_line old mid new Yes taken byte true h gives end refl
  line_ends old mid new Other taken byte h gives end = takes_line old mid new Other taken byte false h gives end refl

  -- the input ends before that
  pub input_ends : (old mid new : R) (heard : Heard) (taken : ℕ) → IsSoFar old mid heard taken → Gives r.remaining r.failed mid new [] → IsAtEnd (r.remaining new) → TakesNoLine r old new
  input_ends old mid new heard taken h gives end = record {
    bytes = h.line;
    one = h.one;
    taken = subst (Consumes (r.remaining old) (r.remaining new)) (append-nil h.line) (gives_both old mid new h.line [] h.gives gives).consumes;
    why = inl end;
  }

  pub input_fails : (old mid new : R) (heard : Heard) (taken : ℕ) → IsSoFar old mid heard taken → FailsToGive r.remaining r.failed mid new → TakesNoLine r old new
  input_fails old mid new heard taken h fails = record {
    bytes = h.line;
    one = h.one;
    taken = Consumes-kept (r.remaining old) (r.remaining mid) (r.remaining new) h.line h.gives.consumes fails.keeps;
    why = inr (inl fails.has_failed);
  }

  pub line_is_long : (old now : R) (heard : Heard) (taken : ℕ) → IsSoFar old now heard taken → taken ≡ 2 ^ 64 - 1 → TakesNoLine r old now
  line_is_long old now heard taken h most = record { bytes = h.line; one = h.one; taken = h.gives.consumes; why = inr (inr (h.many ∙ most)) }
