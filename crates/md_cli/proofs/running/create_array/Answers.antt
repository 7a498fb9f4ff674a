use Rattle.std.proofs.Common.{◌∙◌, ap, inl, inr, refl}
use Rattle.std.proofs.lemmas.List.{length-map}
use Rattle.md_words.specs.Asks.{options_of}
use Rattle.md_cli.specs.CreateOptions.{create_option_fault}
use Rattle.md_cli.proofs.running.create_array.Goals as goal

pub returns-in-Ok-clause-gives : goal.returns-in-Ok-clause-gives
returns-in-Ok-clause-gives g c = inr (record {
  sound = ap (create_option_fault (options_of c.args.options) c.args.session.now.random_bytes) (length-map c.args.names.now (λ s. s.now)) ∙ c.in-Ok.ensures.sound;
  params = c.in-Ok.params;
  params_are = c.in-Ok.ensures.params;
  done = c.create_images.ensures.gives;
})

pub returns-in-Err-clause-gives : goal.returns-in-Err-clause-gives
returns-in-Err-clause-gives g c = inl (record {
  first = c.in-Err.fault;
  is_first = ap (create_option_fault (options_of c.args.options) c.args.session.now.random_bytes) (length-map c.args.names.now (λ s. s.now)) ∙ c.in-Err.ensures.refused;
  refused = refl;
  idle = (refl, refl);
})
