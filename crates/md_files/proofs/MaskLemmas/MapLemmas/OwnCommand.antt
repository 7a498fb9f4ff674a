-- Lemmas on the command that made a map.
use Rattle.std.proofs.Common.{◌≡◌, ℕ, ◌+◌, ◌==◌, Bool, true, cond, List, [], ◌∷◌, length, take, drop, Option, Some, None, position, unwrap_or, refl, ap, sym, ◌∙◌, arith}
use Rattle.std.specs.List.{starts_with}
use Rattle.std.proofs.lemmas.List.{take_all}
use Rattle.md_files.specs.Masks.Maps.Lines.{is_line_feed, lines_of}
use Rattle.md_files.specs.Masks.Maps.OwnCommand.{command_in, command_mark, command_of, is_by_ddrescue, second_of}
use Rattle.md_files.proofs.MaskLemmas.MapLemmas.Lines.{lines-first, lines-last}

-- a line that says a command
pub says : (line command : List ℕ) → starts_with (λ a b. a == b) line command_mark ≡ true → command ≡ drop 16 line → is_by_ddrescue command ≡ true → Some command ≡ command_in (Some line)
says line command marks is by =
    ap Some is
    ∙ sym (ap (λ (b : Bool). cond b (cond (is_by_ddrescue (drop 16 line)) (Some (drop 16 line)) None) None) marks
    ∙ ap (λ (b : Bool). cond b (Some (drop 16 line)) None) (ap is_by_ddrescue (sym is) ∙ by))

-- a text of one line
pub one_line : (text : List ℕ) → position is_line_feed text ≡ None → None ≡ command_of text
unfolding command_of
one_line text none = sym (ap (λ (lines : List (List ℕ)). command_in (second_of lines)) (lines-last text none))

next_line : (rest line : List ℕ) (o : Option ℕ) → position is_line_feed rest ≡ o → line ≡ take (unwrap_or o (length rest)) rest → (more : List (List ℕ)) × (lines_of rest ≡ line ∷ more)
next_line rest line None e is =
    let whole : take (length rest) rest ≡ rest = take_all (length rest) rest (omega arith) in
    ([], lines-last rest e ∙ ap (λ (l : List ℕ). l ∷ []) (sym (is ∙ whole)))
next_line rest line (Some m) e is = (lines_of (drop (m + 1) rest), lines-first rest m e ∙ ap (λ (l : List ℕ). l ∷ lines_of (drop (m + 1) rest)) (sym is))

pub second_line : (text rest line : List ℕ) (n : ℕ) → position is_line_feed text ≡ Some n → rest ≡ drop (n + 1) text → line ≡ take (unwrap_or (position is_line_feed rest) (length rest)) rest
    → command_in (Some line) ≡ command_of text
unfolding command_of
second_line text rest line n found after is =
    let next = next_line rest line (position is_line_feed rest) refl is in
    sym (ap (λ (lines : List (List ℕ)). command_in (second_of lines)) (lines-first text n found ∙ ap (λ (r : List ℕ). take n text ∷ lines_of r) (sym after) ∙ ap (λ (lines : List (List ℕ)). take n text ∷ lines) next.1))
