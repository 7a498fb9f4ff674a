use Rattle.std.proofs.Common.{ap, codes, ◌≡◌, ◌∙◌}
use Rattle.std.proofs.lemmas.Result.{IfOk-weaker}
use Rattle.clap.specs.Words.{app_of, new_app}
use Rattle.clap.specs.Simple.{app_of_fields}
use Rattle.md_words.specs.Words.{mdcli, required_command, with_array_commands, with_data_commands, with_examine_commands, with_member_commands, with_rebuild_commands, with_version}
use Rattle.md_words.proofs.command_line.command_line.Goals as goal

pub returns : goal.returns
unfolding mdcli
returns c =
    let program_is : app_of c.about.result ≡ new_app (codes "mdcli") = ap app_of_fields c.about.ensures ∙ c.new.ensures.app in
    let required_is : app_of c.subcommand_required-program.result ≡ required_command (with_version (new_app (codes "mdcli"))) =
    ap app_of_fields c.subcommand_required-program.ensures ∙ ap required_command (ap app_of_fields c.version.ensures ∙ ap with_version program_is) in
    let array_is = c.in_ok-program-2.ensures ∙ ap with_array_commands (c.in_ok-program.ensures ∙ ap with_examine_commands required_is) in
    let data_is = c.in_ok-program-3.ensures ∙ ap with_data_commands array_is in
    let member_is = c.in_ok-program-4.ensures ∙ ap with_member_commands data_is in
    IfOk-weaker c.rebuild_commands.result _ _ (λ r h. h ∙ ap with_rebuild_commands member_is) c.rebuild_commands.ensures
