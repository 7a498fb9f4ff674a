use Rattle.std.proofs.Common.{◌≡◌, ◌∙◌, ◌++◌, length, Some, ap₂, le-ltb}
use Rattle.std.proofs.lemmas.List.{drop-replicate}
use Rattle.md_cli.proofs.create.create_options.set_name_of.Goals as goal

pub returns : goal.returns
returns c =
    let bytes : c.copy_from_slice.new.self ≡ c.args.name.now = c.copy_from_slice.ensures.after ∙ c.as_bytes.ensures.value in
    rw (le-ltb 32 (length c.args.name.now) c.if-name-gt-NAME_BYTES.false) (ap₂ (λ front rest. Some (front ++ rest)) bytes (drop-replicate (length c.args.name.now) 32 0))
