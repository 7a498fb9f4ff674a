-- Lemmas on the fault of a line.
use Rattle.std.proofs.Common.{◌≡◌, ◌≢◌, ℕ, Bool, List, [], ◌∷◌, length, Option, Some, None, refl, ap, sym, ◌∙◌}
use Rattle.std.specs.Option.{option_to_list}
use Rattle.md_files.specs.Masks.Maps.Numbers.{number_of}
use Rattle.md_files.specs.Masks.Maps.Rows.{rescued_of, is_current_status, pass_of, place_fault, block_fault, status_fault, line_fault_of}
use Rattle.md_files.specs.declared.masks.maps.fault.LineFault.{LineFault}
use Rattle.md_files.specs.declared.masks.maps.fault.LineFault.TheVariants.{Fields}

pub fields_fault : (size : ℕ) (end : Option ℕ) (row : List (List ℕ)) (f : LineFault) → f ≡ Fields → row ≢ [] → length row ≢ 2 → length row ≢ 3 → line_fault_of size end row ≡ Some f
unfolding line_fault_of
fields_fault size end [] f is some two three = absurd (some refl)
fields_fault size None (a ∷ []) f is some two three = ap Some (sym is)
fields_fault size (Some from) (a ∷ []) f is some two three = ap Some (sym is)
fields_fault size end (a ∷ b ∷ []) f is some two three = absurd (two refl)
fields_fault size end (a ∷ b ∷ c ∷ []) f is some two three = absurd (three refl)
fields_fault size None (a ∷ b ∷ c ∷ d ∷ e) f is some two three = ap Some (sym is)
fields_fault size (Some from) (a ∷ b ∷ c ∷ d ∷ e) f is some two three = ap Some (sym is)

-- the line of a block with two fields
pub pair_fault : (size from : ℕ) (end : Option ℕ) (row : List (List ℕ)) (a b : List ℕ) (c : Option (List ℕ)) → end ≡ Some from → row ≡ a ∷ b ∷ option_to_list c → c ≡ None
    → line_fault_of size end row ≡ Some Fields
unfolding line_fault_of
pair_fault size from end row a b c there are none =
    ap (λ (e : Option ℕ). line_fault_of size e row) there ∙ ap (line_fault_of size (Some from)) (are ∙ ap (λ (o : Option (List ℕ)). a ∷ b ∷ option_to_list o) none)

pub status_fault_at : (size : ℕ) (end : Option ℕ) (row : List (List ℕ)) (a b : List ℕ) (c : Option (List ℕ)) (f : LineFault) → end ≡ None → row ≡ a ∷ b ∷ option_to_list c
    → status_fault (number_of a) (is_current_status b) (pass_of c) ≡ Some f → line_fault_of size end row ≡ Some f
unfolding line_fault_of
status_fault_at size end row a b None f none are fault = ap (λ (e : Option ℕ). line_fault_of size e row) none ∙ ap (line_fault_of size None) are ∙ fault
status_fault_at size end row a b (Some c) f none are fault = ap (λ (e : Option ℕ). line_fault_of size e row) none ∙ ap (line_fault_of size None) are ∙ fault

pub block_fault_at : (size from : ℕ) (end : Option ℕ) (row : List (List ℕ)) (a b c : List ℕ) (f : LineFault) → end ≡ Some from → row ≡ a ∷ b ∷ c ∷ []
    → block_fault size from (number_of a) (number_of b) (rescued_of c) ≡ Some f → line_fault_of size end row ≡ Some f
unfolding line_fault_of
block_fault_at size from end row a b c f there are fault = ap (λ (e : Option ℕ). line_fault_of size e row) there ∙ ap (line_fault_of size (Some from)) are ∙ fault

pub place_fault_at : (size from : ℕ) (end : Option ℕ) (row : List (List ℕ)) (a b c : List ℕ) (start len : ℕ) (rescued : Bool) (f : LineFault) → end ≡ Some from → row ≡ a ∷ b ∷ c ∷ []
    → number_of a ≡ Some start → number_of b ≡ Some len → rescued_of c ≡ Some rescued → place_fault size from start len ≡ Some f → line_fault_of size end row ≡ Some f
place_fault_at size from end row a b c start len rescued f there are is_start is_len is_rescued fault =
    block_fault_at size from end row a b c f there are
    (ap (λ (o : Option ℕ). block_fault size from o (number_of b) (rescued_of c)) is_start ∙ ap (λ (o : Option ℕ). block_fault size from (Some start) o (rescued_of c)) is_len ∙ ap (block_fault size from (Some start) (Some len)) is_rescued ∙ fault)
