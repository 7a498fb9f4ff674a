-- `new` owns no node yet. Assumes `Logic`.
use Rattle.md_inflight.proofs.Steps.{◌≡◌, [], ◌∷◌, None, refl, emp, ftrue, flft, inst_fn, tables, fact, fact_i, ‵, raw, ◌⊛◌, ◌$◌, ◌∵◌, !, qed, by, keep, use0, split, agg, lit, no_more, and_then, returns, enter, alloc_all, pass_all, free_all, look_at, get, sets, nothing, proved_at, leaves}
use Rattle.md_inflight.specs.Linked.{IsChain}
use Rattle.md_inflight.proofs.Places.{apart_none}
use Rattle.md_inflight.proofs.Nodes.{args, Cr, ends, link-Good, ends-Good, chain_made}
use Rattle.md_inflight.specs.contracts.chain.Chain.new as f
use Rattle.md_inflight.proofs.chain.Chain.new.Statement.{statement}
use Rattle.md_inflight.proofs.chain.Chain.new.Code as code

pub new_spec : {M : Type 1} → statement M
new_spec 𝓤 𝓛 𝓜 𝓡 wired Y L =
    let 𝓣 = tables 𝓤 𝓛.H 𝓜 𝓡 𝓡.env in let c = f.clauses Y 𝓛 𝓜.mem 𝓡.returns in let fn = inst_fn (args Y) code.function in
    let out : (Cr Y).Denot = record { first = None; last = None; mark = record {}; nodes = []; apart = apart_none _ } in
    let made : IsChain out.first out.last out.nodes × (out.nodes ≡ []) = (record { first = refl; last = refl; linked = tt }, refl) in
    let none = link-Good None in
    proved_at 𝓛 (f.ended Y) tt c 𝓜 𝓡 tt (f.Key.name (args Y)) fn (code.unfolded 𝓤 𝓛.H 𝓜 𝓡 wired (Y, tt)) (λ z are.
    qed 𝓛 (((‵ (flft z.0.0.0 z.0.1.0) ⊛ ‵ ftrue) ⊛ ‵ ftrue) ∷ raw ((c z.0.0 z.0.3).requires z.1) ∷ []) ∵ split ! $ keep ! (0 ∷ []) $
    enter ! 𝓣.C 𝓣.Λ fn [] _ $ alloc_all ! (λ l. pass_all ! refl tt $
    sets ! (agg ! (and_then ! (lit ! tt) (no_more !))) refl none $ sets ! (agg ! (and_then ! (lit ! tt) (no_more !))) refl none $ sets ! (agg ! (no_more !)) refl (tt, tt) $
    sets ! (agg ! (and_then ! (get ! refl) (and_then ! (get ! refl) (and_then ! (get ! refl) (no_more !))))) refl (ends-Good Y None None) $
    use0 𝓛 (raw (fact 𝓤 (IsChain out.first out.last out.nodes × (out.nodes ≡ [])))) (fact_i 𝓤 _ (emp 𝓤) made) $ nothing ! $ chain_made Y ! out $ nothing ! $
    returns ! (look_at ! 0 refl) $ free_all ! refl $ keep ! (3 ∷ 0 ∷ 1 ∷ 2 ∷ []) $
    by ! (leaves 𝓛 (f.ended Y) tt c z (ends None None) out tt tt)))
