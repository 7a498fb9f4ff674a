-- The object of a scan that finds no array.
use Rattle.std.proofs.Common.{◌≡◌, ◌∙◌, ℕ, Bool, true, List, [], ◌∷◌, ◌++◌, codes, ap, append_assoc}
use Rattle.json.specs.Print.{escape_byte}
use Rattle.serde_json.specs.Written.{compact_text}
use Rattle.md_report.specs.AsJson.Objects.{object_line}
use Rattle.md_examine_commands.specs.Examining.{no_array_line, scan_shown}
use Rattle.md_examine_commands.specs.ScanObject.{scan_fields, scan_object}
use Rattle.md_examine_commands.specs.Unshown.{refused_value}
use Rattle.md_examine_commands.specs.declared.scan.refused.Refused.{Refused}
use Rattle.md_examine_commands.specs.declared.scan.seen.Seen.{Seen}

no_array : (named : Bool) (refused : List Refused) → object_line (scan_object named [] refused) ≡ no_array_line named refused
unfolding escape_byte scan_fields
no_array named refused =
    ap (λ (t : List ℕ). codes "{\"report\":\"scan\",\"arrays\":[],\"refused\":" ++ t) (append_assoc (compact_text (refused_value named refused)) (125 ∷ []) (10 ∷ []))

pub nothing_shown : (json named : Bool) (seen : List Seen) (refused : List Refused) → json ≡ true → seen ≡ [] → scan_shown json named seen refused ≡ no_array_line named refused
nothing_shown json named seen refused as_object none =
    ap (λ (b : Bool). scan_shown b named seen refused) as_object
    ∙ ap (λ (all : List Seen). scan_shown true named all refused) none
    ∙ no_array named refused
