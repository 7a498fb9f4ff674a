-- Texts in which no byte is escaped: numbers, and the words of a fault.
use Rattle.std.proofs.Common.{◌≡◌, ◌∙◌, ℕ, zero, suc, ◌+◌, ◌/◌, ◌%◌, ◌<◌, ◌==◌, Bool, true, false, List, [], ◌∷◌, ◌++◌, codes, refl, sym, ap, subst, arith, lt-ltb}
use Rattle.std.specs.Prelude.{decimal, if◌then◌else◌}
use Rattle.std.proofs.lemmas.Grind.{flat_map-append}
use Rattle.std.specs.Fmt.{digit_glyph, digits, digits_onto}
use Rattle.json.specs.Print.{escape, escape_byte, quoted}
use Rattle.json.proofs.Printed.Strings.{escape_byte_plain}
use Rattle.md_badblocks.specs.declared.log.LogFault.{LogFault}
use Rattle.md_badblocks.specs.declared.log.LogFault.TheVariants as log
use Rattle.md_bitmap.specs.declared.fault.BitmapFault.{BitmapFault}
use Rattle.md_bitmap.specs.declared.fault.BitmapFault.TheVariants as bitmap
use Rattle.md_super.specs.declared.fault.SuperFault.{SuperFault}
use Rattle.md_super.specs.declared.fault.SuperFault.TheVariants as super
use Rattle.md_members.specs.declared.fault.MemberFault.{MemberFault}
use Rattle.md_members.specs.declared.fault.MemberFault.TheVariants as member
use Rattle.md_examine.specs.Members.{bitmap_refusal_text, log_refusal_text, member_refusal_text, super_text}
use Rattle.md_examine_commands.specs.Unshown.{fault_word}
use Rattle.md_examine_commands.specs.declared.scan.refused.ScanFault.{ScanFault}
use Rattle.md_examine_commands.specs.declared.scan.refused.ScanFault.TheVariants.{Image, Member}

abbrev IsPlain : List ℕ → Type 0
IsPlain text = escape text ≡ text

digit_plain : (d : ℕ) → d < 10 → escape_byte (digit_glyph false d) ≡ digit_glyph false d ∷ []
digit_plain d h =
    subst (λ (x : ℕ). escape_byte x ≡ x ∷ []) (ap (λ (b : Bool). if b then 48 + d else 87 + d) (sym (lt-ltb d 10 h)))
    (escape_byte_plain (48 + d) (λ e. omega arith) (λ e. omega arith) (omega arith))

onto_plain : (k n : ℕ) (rest : List ℕ) → IsPlain rest → IsPlain (digits_onto k 10 false n rest)
onto_plain zero n rest h = h
onto_plain (suc k) n rest h = either (n / 10 == 0) _ _ more (onto_plain k (n / 10) (digit_glyph false (n % 10) ∷ rest) more)
  where
    more : IsPlain (digit_glyph false (n % 10) ∷ rest)
    more = ap (λ (t : List ℕ). t ++ escape rest) (digit_plain (n % 10) (omega arith)) ∙ ap (λ (t : List ℕ). digit_glyph false (n % 10) ∷ t) h

    either : (b : Bool) (xs ys : List ℕ) → IsPlain xs → IsPlain ys → IsPlain (if b then xs else ys)
    either true xs ys p q = p
    either false xs ys p q = q

decimal_plain : (n : ℕ) → IsPlain (decimal n)
unfolding digits
decimal_plain n = onto_plain 64 n [] refl

join : (xs ys : List ℕ) → IsPlain xs → IsPlain ys → IsPlain (xs ++ ys)
join xs ys p q = flat_map-append escape_byte xs ys ∙ ap (λ (t : List ℕ). t ++ escape ys) p ∙ ap (λ (t : List ℕ). xs ++ t) q

super_plain : (f : SuperFault) → IsPlain (super_text f)
unfolding escape_byte
super_plain super.Magic = refl
super_plain super.Major = refl
super_plain super.MaxDev = refl
super_plain super.Checksum = refl
super_plain super.SuperOffset = refl
super_plain (super.Feature bits) = join (codes "Feature ") (decimal bits) refl (decimal_plain bits)
super_plain super.Level = refl
super_plain super.RaidDisks = refl
super_plain super.NoMemory = refl

bitmap_plain : (f : BitmapFault) → IsPlain (bitmap_refusal_text f)
unfolding escape_byte
bitmap_plain bitmap.Magic = refl
bitmap_plain bitmap.Version = refl
bitmap_plain bitmap.ChunkSize = refl
bitmap_plain bitmap.TooManyChunks = refl

log_plain : (f : LogFault) → IsPlain (log_refusal_text f)
unfolding escape_byte
log_plain log.Shift = refl
log_plain log.NoMemory = refl

member_plain : (f : MemberFault) → IsPlain (member_refusal_text f)
unfolding escape_byte
member_plain member.TooShort = refl
member_plain member.ReadFault = refl
member_plain (member.Super f) = join (codes "Super ") (super_text f) refl (super_plain f)
member_plain member.Region = refl
member_plain (member.Bitmap f) = join (codes "Bitmap ") (bitmap_refusal_text f) refl (bitmap_plain f)
member_plain (member.Log f) = join (codes "Log ") (log_refusal_text f) refl (log_plain f)
member_plain member.NoMemory = refl

word_plain : (f : ScanFault) → IsPlain (fault_word f)
unfolding escape_byte
word_plain (Image f) = refl
word_plain (Member f) = member_plain f

pub quoted_word : (f : ScanFault) → quoted (fault_word f) ≡ (34 ∷ [] ++ fault_word f) ++ 34 ∷ []
quoted_word f = ap (λ (t : List ℕ). 34 ∷ (t ++ 34 ∷ [])) (word_plain f)
