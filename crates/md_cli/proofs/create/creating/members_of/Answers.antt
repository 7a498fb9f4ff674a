use Rattle.std.proofs.Common.{◌∙◌, ◌<◌, length, map, arith}
use Rattle.std.proofs.lemmas.List.{length-map}
use Rattle.md_state.specs.View.{disk_of}
use Rattle.md_messages.specs.Telling.{texts}
use Rattle.md_cli.proofs.Created.{made}
use Rattle.md_cli.proofs.Sizes.{sizes_long}
use Rattle.md_cli.proofs.create.creating.members_of.Goals as goal

pub returns-in_default-clause-refused : goal.returns-in_default-clause-refused
returns-in_default-clause-refused g c = λ size geometry.
    let disk = disk_of g.D.Device in
    let names = c.args.names.now in
    let long = sizes_long (texts names) (map disk c.args.devices.now) ∙ length-map names (λ s. s.now) in
    let few = geometry.few_roles in
    let many : 32 < length names = c.in_default.ensures.too_many in
    absurd (omega (arith, long, few, many))

pub returns-in-Ok-clause-members : goal.returns-in-Ok-clause-members
returns-in-Ok-clause-members g c =
    let disk = disk_of g.D.Device in
    made c.args.params.now (texts c.args.names.now) (map disk c.args.devices.now) c.as_slice.result.now c.in-Ok.members.items (c.as_slice.ensures.value ∙ c.in-Some.ensures.sizes)
    (length-map c.args.devices.now disk ∙ c.requires.as_many) c.in-Ok.ensures.ok
