-- What the server answers to an option, and what comes after it (the NBD protocol, "Option haggling").
use Rattle.std.specs.Prelude.{ℕ, Option, Some, None, ◌==◌, Bool, true, false, List, [], ◌∷◌, ◌++◌, length, replicate, if◌then◌else◌}
use Rattle.std.specs.Int.{w16, w32, w64, to_be_bytes}
use Rattle.md_nbd.specs.declared.export.Export.{Export}
use Rattle.md_nbd.specs.declared.haggling.Next.{Next}
use Rattle.md_nbd.specs.declared.haggling.Next.TheVariants.{Haggling, Transmission, Closed}
use Rattle.md_nbd.specs.Export.{transmission_flags_of}
use Rattle.md_nbd.specs.Options.{OPT_ABORT, OPT_EXPORT_NAME, OPT_GO, OPT_INFO, OPT_LIST, asked_name_of, option_bytes}
use Rattle.md_nbd.specs.OptionReplies.{REP_ACK, REP_ERR_INVALID, REP_ERR_UNKNOWN, REP_ERR_UNSUP, REP_SERVER, export_replies, option_reply}

-- INFO and GO: the one export has the empty name
abbrev pub answer_to_name : Export → ℕ → Option (List ℕ) → List ℕ
answer_to_name e option None = option_reply option REP_ERR_INVALID []
answer_to_name e option (Some []) = export_replies e option
answer_to_name e option (Some (b ∷ name)) = option_reply option REP_ERR_UNKNOWN []

-- LIST, which comes with nothing: one export, of the empty name
abbrev pub answer_to_list : List ℕ → List ℕ
answer_to_list [] = option_reply OPT_LIST REP_SERVER (to_be_bytes w32 0) ++ option_reply OPT_LIST REP_ACK []
answer_to_list (b ∷ body) = option_reply OPT_LIST REP_ERR_INVALID []

-- EXPORT_NAME, whose answer has no head: where the name is not known the server goes without one
abbrev pub answer_to_export_name : Export → Bool → List ℕ → List ℕ
answer_to_export_name e no_zeroes [] = to_be_bytes w64 e.size ++ to_be_bytes w16 (transmission_flags_of e) ++ (if no_zeroes then [] else replicate 124 0)
answer_to_export_name e no_zeroes (b ∷ body) = []

-- all other options are unknown to this server
abbrev pub option_answer : Export → Bool → ℕ → List ℕ → List ℕ
option_answer e no_zeroes option body =
    if option == OPT_EXPORT_NAME then answer_to_export_name e no_zeroes body
    else (if option == OPT_ABORT then option_reply OPT_ABORT REP_ACK []
    else (if option == OPT_LIST then answer_to_list body
    else (if option == OPT_INFO then answer_to_name e OPT_INFO (asked_name_of body)
    else (if option == OPT_GO then answer_to_name e OPT_GO (asked_name_of body)
    else option_reply option REP_ERR_UNSUP []))))

abbrev pub is_export_name : Option (List ℕ) → Bool
is_export_name None = false
is_export_name (Some []) = true
is_export_name (Some (b ∷ name)) = false

abbrev pub next_after : ℕ → List ℕ → Next
next_after option body =
    if option == OPT_EXPORT_NAME then (if length body == 0 then Transmission else Closed)
    else (if option == OPT_ABORT then Closed
    else (if option == OPT_GO then (if is_export_name (asked_name_of body) then Transmission else Haggling)
    else Haggling))

-- ---- an option as it came
pub record Asked : Type 0 where
  pub option : ℕ
  pub body : List ℕ

abbrev pub asked_bytes : Asked → List ℕ
asked_bytes a = option_bytes a.option a.body

abbrev pub answer_to_asked : Export → Bool → Asked → List ℕ
answer_to_asked e no_zeroes a = option_answer e no_zeroes a.option a.body

abbrev pub next_after_asked : Asked → Next
next_after_asked a = next_after a.option a.body
