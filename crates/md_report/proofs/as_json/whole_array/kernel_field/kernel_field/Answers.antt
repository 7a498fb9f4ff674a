use Rattle.md_report.specs.AsJson.Objects.{later_text}
use Rattle.md_report.specs.AsJson.WholeArray.KernelField.{kernel_fields}
use Rattle.md_report.proofs.JsonLemmas.Texts.{puts_last}
use Rattle.md_report.proofs.as_json.whole_array.kernel_field.kernel_field.Goals as goal

pub returns : goal.returns
unfolding later_text kernel_fields
returns g c =
    let its = puts_last g.S.Sink.contents g.S.Sink.failed c.in_ok-command_field.ensures in
    rw (c.unready_for_kernel.ensures) at its
