use Rattle.std.proofs.Common.{◌≡◌, ◌∙◌, ◌↔◌, ℕ, List, Option, Some, None, Result, Ok, Err, IsOk, IfOk, refl, sym, true≢false}
use Rattle.std.specs.Result.{result_ok}
use Rattle.uuid.specs.Text.{parsed}
use Rattle.md_cli.proofs.create.set_uuid.parsed_uuid.Goals as goal

is_parsed : {E : Type 0} (r : Result (List ℕ) E) (p : Option (List ℕ)) → (IsOk r ↔ ((u : List ℕ) × (p ≡ Some u))) → IfOk r (λ u. Some u ≡ p) → result_ok r ≡ p
is_parsed (Ok u) p there bytes = bytes
is_parsed (Err e) None there bytes = refl
is_parsed (Err e) (Some u) there bytes = absurd (true≢false (sym (there.1 (u, refl))))

pub returns : goal.returns
returns c = c.ok.ensures.value ∙ is_parsed c.try_parse_ascii.result (parsed c.args.text.now) c.try_parse_ascii.ensures.ok c.try_parse_ascii.ensures.bytes
