use Rattle.std.proofs.Common.{◌∙◌, ◌+◌, ◌-◌, List, Option, ℕ, ap, sym, length, take, drop, unwrap_or}
use Rattle.md_files.proofs.MaskLemmas.MapLemmas.OwnCommand.{one_line, second_line}
use Rattle.md_files.proofs.MaskLemmas.MapLemmas.Words.{rest_whole}
use Rattle.md_files.proofs.masks.maps.own_command.command_of.Goals as goal

pub returns-in_default : goal.returns-in_default
returns-in_default c = one_line c.args.text.now (sym c.line_len.ensures ∙ c.in_default.is)

pub returns : goal.returns
returns c =
    let rest : List ℕ = take (length c.args.text.now - (c.in-Some.first + 1)) (drop (c.in-Some.first + 1) c.args.text.now) in
    c.command_in.ensures
    ∙ second_line c.args.text.now rest _ c.in-Some.first (sym c.line_len.ensures ∙ c.in-Some.is) (rest_whole c.args.text.now (c.in-Some.first + 1))
    (ap (λ (i : ℕ). take i rest) (c.unwrap_or-second.ensures ∙ ap (λ (o : Option ℕ). unwrap_or o (length rest)) c.line_len-2.ensures))
