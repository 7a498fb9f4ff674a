-- What holds of a salvage by what it answers.
use Rattle.std.proofs.Common.{ℕ}
use Rattle.std.specs.Prelude.{Result, Ok, Err, IfErr, IfOk, MatchResult}
use Rattle.md_state.specs.View.{MirrorView}
use Rattle.md_array.specs.Consistency.{IsConsistent}
use Rattle.md_copy.specs.declared.beginning.fault.RebuildFault.{RebuildFault}
use Rattle.md_copy.specs.declared.salvaging.salvaged.Salvaged.{Salvaged}
use Rattle.md_copy.specs.Salvaging.Refused.{HasNotSalvaged}
use Rattle.md_copy.specs.Salvaging.Salvaged.{HasSalvaged}
use Rattle.md_copy.specs.Salvaging.Steps.{RefusesSalvage, Salvages}

pub salvaged_of : (target : ℕ) (old new : MirrorView) → ((target : ℕ) (told : Salvaged) (old new : MirrorView) → Salvages target told old new → HasSalvaged target told old new) → (r : Result Salvaged RebuildFault)
    → MatchResult r (λ told. Salvages target told old new) (RefusesSalvage target old new) → IfOk r (λ told. HasSalvaged target told old new)
salvaged_of target old new law (Ok told) h = law target told old new h
salvaged_of target old new law (Err fault) h = tt

pub not_salvaged_of : (target : ℕ) (old new : MirrorView) → IsConsistent old → ((target : ℕ) (fault : RebuildFault) (old new : MirrorView) → IsConsistent old → RefusesSalvage target old new fault → HasNotSalvaged target fault old new) → (r : Result Salvaged RebuildFault)
    → MatchResult r (λ told. Salvages target told old new) (RefusesSalvage target old new) → IfErr r (λ fault. HasNotSalvaged target fault old new)
not_salvaged_of target old new sound law (Ok told) h = tt
not_salvaged_of target old new sound law (Err fault) h = law target fault old new sound h
