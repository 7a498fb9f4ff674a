use Rattle.std.proofs.Common.{◌≡◌, ◌==◌, ◌∙◌, List, ℕ, ap, sym, true}
use Rattle.std.specs.List.{starts_with}
use Rattle.md_files.specs.Masks.Maps.OwnCommand.{command_mark}
use Rattle.md_files.proofs.MaskLemmas.MapLemmas.OwnCommand.{says}
use Rattle.md_files.proofs.MaskLemmas.MapLemmas.Words.{rest_whole}
use Rattle.md_files.proofs.masks.maps.own_command.command_in.Goals as goal

pub returns-then-is_by_ddrescue : goal.returns-then-is_by_ddrescue
returns-then-is_by_ddrescue c =
    let marks : starts_with (λ a b. a == b) c.args.line.now command_mark ≡ true =
    sym (c.starts_with.ensures.value ∙ ap (λ (xs : List ℕ). starts_with (λ a b. a == b) c.args.line.now xs) c.as_bytes.ensures.value) ∙ c.if-not-starts_with.false in
    says c.args.line.now _ marks (rest_whole c.args.line.now 16) (sym c.is_by_ddrescue.ensures ∙ c.if-is_by_ddrescue.true)
