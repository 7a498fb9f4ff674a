use Rattle.std.proofs.Common.{◌≡◌, ap, ◌∙◌, map, List, subst}
use Rattle.std.proofs.lemmas.Result.{IfOk-weaker}
use Rattle.clap.specs.Words.{App, FailsBy, Kinds, Text, app_of, fault_of, is_simple, is_simple_and_free, subcommand_of}
use Rattle.md_words.specs.Words.{mdcli}
use Rattle.md_words.proofs.CommandLine.{is_simple_command, is_free_command}
use Rattle.md_words.proofs.parsing.matches.Goals as goal

pub returns-clause-ok : goal.returns-clause-ok
returns-clause-ok c =
    let app_is : app_of c.in_ok-command_line.field-0 ≡ mdcli = c.in_ok-command_line.ensures in
    let words : List Text = map (λ s. s.now) c.args.words.now in
    IfOk-weaker c.try_get_matches_from.result _ _ (λ m h. (h (ap is_simple app_is ∙ is_simple_command)).1 ∙ ap (λ (a : App). subcommand_of a words) app_is) c.try_get_matches_from.ensures.matches

pub returns-clause-fails : goal.returns-clause-fails
returns-clause-fails c =
    let app_is : app_of c.in_ok-command_line.field-0 ≡ mdcli = c.in_ok-command_line.ensures in
    let words : List Text = map (λ s. s.now) c.args.words.now in
    let P : Kinds → Type 0 = λ kinds. FailsBy kinds c.try_get_matches_from.result in
    subst P (ap (λ (a : App). fault_of a words) app_is) (c.try_get_matches_from.ensures.kinds (ap is_simple_and_free app_is ∙ is_free_command))
