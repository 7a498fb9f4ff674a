use Rattle.std.proofs.Common.{◌≡◌, ◌∙◌, Bool, ap, cond, false, refl, sym, true}
use Rattle.uuid.specs.Text.{parsed}
use Rattle.md_cli.specs.SetUuid.{has_colons, without_colons}
use Rattle.md_cli.proofs.create.set_uuid.uuid_of_text.Goals as goal

first_of_two : {X : Type 0} (b : Bool) (x y : X) → b ≡ true → x ≡ cond b x y
first_of_two true x y e = refl
first_of_two false x y e = absurd cc

pub returns-then-has_colons : goal.returns-then-has_colons
returns-then-has_colons c =
    let text = c.args.text.now in
    let bytes = c.as_bytes-text.ensures.value in
    let colons : has_colons text ≡ true = sym (ap has_colons bytes) ∙ sym c.has_colons.ensures ∙ c.if-has_colons.true in
    c.parsed_uuid.ensures ∙ ap parsed (c.without_colons.ensures ∙ ap without_colons bytes)
    ∙ first_of_two (has_colons text) (parsed (without_colons text)) (parsed text) colons
