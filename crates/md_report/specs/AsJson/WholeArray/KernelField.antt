-- What is to be run before a kernel is given the array: the last field of its reports.
use Rattle.std.specs.Prelude.{List, [], ◌∷◌, Option, Some, None, codes}
use Rattle.serde_json.specs.Data.{Data, null, string}
use Rattle.md_state.specs.View.{ArrayView}
use Rattle.md_notices.specs.Kernel.{command_before, why_unready}
use Rattle.md_notices.specs.declared.kernel.Unready.{Unready}
use Rattle.md_report.specs.AsJson.Objects.{Field, field}

-- the command, or null where there is no reason
abbrev pub command_value : Option Unready → Data
command_value None = null
command_value (Some why) = string (command_before why)

unfoldable pub kernel_fields : ArrayView → List Field
kernel_fields a = field (codes "run_before_kernel") (command_value (why_unready a)) ∷ []
