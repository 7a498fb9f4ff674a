-- `node_mut` lends the node that lies there, and the chain follows it. Assumes `Logic`.
use Rattle.md_inflight.proofs.Steps.{◌≡◌, ℕ, List, [], ◌∷◌, ◌++◌, refl, sym, ap, subst, full_share, SProp, ent, sep, emp, never, id⊢, Fml, GName, ftrue, fsep, fat, flft, named, inst_fn, Val, vptr, Env, WpFn, Logic, sem, fact, fact_i, tables, ◌⊑◌, ‵, raw, ◌⊛◌, join, some, later, at_ret, ◌$◌, ◌∵◌, !, qed, by, move, keep, drop, use0, use1, use2, split, split3, group, pick, await, rewrite, fsplit, fsplit3, fjoin, fjoin3, fpack, feq_l, suffices, done, whole, sub, stop, fld, of_opd, addr, first, blocks, exec, returns, enter, alloc_all, pass_all, free_all, look_at, get, get_in, through, sets, sets_last, is, env, yes, no, RattleType, owns, types_at, lone, mem, cell_at, part_at, Ptr, block_ptr, ptr_val, in_a_block, lies_at, MutBor, MutRef, plain, nothing, heard, Stays, stay_dropped, walk_of, Goes-dropped, Goes-spent_ref, after, proved_at, leaves, word, word-Good}
use seplogic.Ra.Ura.{Ura}
use denote.Memory.{part_of}
use denote.Signature.{mut_ref_to}
use denote.Follow.{follows, Part, lends_Part}
use Rattle.md_inflight.specs.Placed.{IsAt, AtPlace}
use Rattle.md_inflight.specs.Ownership.{held_owns}
use Rattle.md_inflight.specs.ChainLends.{with_node}
use Rattle.md_inflight.specs.declared.node.Node.{Node}
use Rattle.md_inflight.specs.contracts.place.Place as P-type
use Rattle.md_inflight.proofs.Places.{changed_is, at_place}
use Rattle.md_inflight.proofs.Nodes.{args, R, Cr, Nr, Entry, Pl, One, ends, frees_at, place_had, chain_made, chain_opens, row_cut, row_glue}
use Rattle.md_inflight.specs.contracts.chain.Chain.node_mut as f
use Rattle.md_inflight.proofs.chain.Chain.node_mut.Statement.{statement}
use Rattle.md_inflight.proofs.chain.Chain.node_mut.Code as code

module _ (Y : RattleType) {M : Type 1} {𝓤 : Ura M} (𝓛 : Logic 𝓤) (rb ro : ℕ) (d : (Cr Y).Denot) (place : Pl.Denot) (at : IsAt d.nodes place.ptr) (b o : ℕ) where
  -- all but the node
  abbrev Rest : Fml
  Rest = fsep (frees_at Y place.ptr) (fsep (held_owns (R Y) (at.before ++ at.after)) (fat full_share (lone (Cr Y).mir) rb ro (ends d.first d.last)))

  back : place.ptr ≡ block_ptr b o → (w : Node Y.Denot) → ent 𝓤 (sep 𝓤 (sem 𝓛 ((mem (Nr Y)).own_at w b o)) (sem 𝓛 Rest)) (sem 𝓛 ((mem (Cr Y)).own_at (with_node d place.ptr w) rb ro))
  unfolding part_of
  back there w =
      let new = with_node d place.ptr w in let written : List (Entry Y) = at.before ++ (place.ptr, w) ∷ at.after in
      qed 𝓛 (‵ (part_at (Nr Y) full_share w b o) ∷ ‵ Rest ∷ []) ∵ rewrite ! 0 (λ (p : Ptr). ‵ (lies_at (Nr Y) full_share p w)) (sym there) refl $
      move ! (1 ∷ []) $ fsplit3 ! $
      -- [the right to free it; the others; the ends; the node]
      move ! (3 ∷ 0 ∷ []) $ fjoin ! $ move ! (0 ∷ 1 ∷ []) $
      use2 𝓛 (‵ (held_owns (R Y) written)) (row_glue 𝓛 Y at.before (place.ptr, w) at.after) $ rewrite ! 0 (λ (us : List (Entry Y)). ‵ (held_owns (R Y) us)) (changed_is at d.apart (λ _. w)) refl $
      chain_made Y ! new $ move ! (1 ∷ []) $ use1 𝓛 (‵ (cell_at full_share (Cr Y).mir (ends d.first d.last ∷ []) rb ro)) (𝓛.laws.at_raw full_share (lone (Cr Y).mir) rb ro (ends d.first d.last)) $ fjoin ! $
      fpack ! (List Val) (λ us. fsep (cell_at full_share (Cr Y).mir us rb ro) ((Cr Y).own_val new us)) (ends d.first d.last ∷ []) $ done !

pub node_mut_spec : {M : Type 1} → statement M
node_mut_spec 𝓤 𝓛 𝓜 𝓡 wired Y L =
    let H = 𝓛.H in let A = 𝓛.A in let 𝓣 = tables 𝓤 H 𝓜 𝓡 𝓡.env in let En = f.ended Y in let c = f.clauses Y 𝓛 𝓜.mem 𝓡.returns in let fn = inst_fn (args Y) code.function in
    let hs : Stays En.signature.params En.kept = (stay_dropped (mut_ref_to (0 ∷ []) tt (plain (λ _. Cr Y))) no, (stay_dropped (plain (λ _. Pl)) yes, tt)) in
    proved_at 𝓛 En hs c 𝓜 𝓡 (Goes-spent_ref 𝓛 2 (0 ∷ []) tt (plain (λ _. Cr Y)), (Goes-dropped 𝓛 2 (plain (λ _. Pl)) yes (λ κs x w. refl), tt))
    (f.Key.name (args Y)) fn (code.unfolded 𝓤 H 𝓜 𝓡 wired (Y, tt)) (λ z are.
    let κs = z.0.0 in let qs = z.0.1 in let self = z.0.3.0 in let d = self.now in let γ = self.ghost_name in let place = z.0.3.1.0 in let rb = self.ref_ptr.0 in let ro = self.ref_ptr.1 in let code' = (Cr Y).coded.code d in
    let Post : Val → SProp 𝓤 = (walk_of 𝓛 En hs c).post z in let Run : List Val → SProp 𝓤 = λ ws. WpFn 𝓤 H 𝓣.C 𝓣.Λ fn ws Post in
    qed 𝓛 (((‵ (flft κs.0 qs.0) ⊛ (‵ (flft κs.1.0 qs.1.0) ⊛ ‵ ftrue)) ⊛ ‵ (owns (types_at En.signature.params κs) z.0.3 z.0.4)) ∷ (raw (fact 𝓤 (κs.1.0 ⊑ Y.lives)) ⊛ raw (fact 𝓤 (IsAt d.nodes place.ptr))) ∷ []) ∵
    split ! $ split ! $ move ! (3 ∷ []) $ split ! $ drop ! $ heard ! _ (λ at. move ! (2 ∷ []) $ fsplit ! $ fsplit3 ! $ feq_l ! (λ e. move ! (2 ∷ []) $ fsplit ! $ place_had ! place z.0.4.1.0 (λ f. keep ! (1 ∷ 2 ∷ 3 ∷ 4 ∷ []) $
    let x = at.value in let ws : List Val = vptr rb ro ∷ word place.ptr ∷ [] in let new : Node Y.Denot → (Cr Y).Denot = with_node d place.ptr in
    suffices ! (Run ws) (subst (λ (us : List Val). ent 𝓤 (Run ws) (Run us)) (sym (λ i. e i ++ (f i ++ []))) (id⊢ 𝓤 (Run ws))) $
    enter ! 𝓣.C 𝓣.Λ fn ws Post $ alloc_all ! (λ l. pass_all ! refl ((tt, tt), (word-Good P-type.the_type.name place.ptr, tt)) $ let Ev : Env 𝓤 H = env fn.locals l in
    chain_opens Y ! tt d rb ro $ rewrite ! 0 (λ (us : List (Entry Y)). ‵ (held_owns (R Y) us)) at.cut refl $
    use1 𝓛 (‵ (One 𝓛 Y (place.ptr, x)) ⊛ ‵ (held_owns (R Y) (at.before ++ at.after))) (row_cut 𝓛 Y at.before (place.ptr, x) at.after) $ split ! $ fsplit ! $
    in_a_block ! place.ptr (λ p. lies_at (Nr Y) full_share p x) (id⊢ 𝓤 (never 𝓤)) (λ pb po there.
    let way = back Y 𝓛 rb ro d place at pb po there in
    -- [the node; the right to free it; the others; the ends; the open borrow; obs; auth; the other tokens]
    first ! $ blocks ! $ sets ! (is ! (of_opd ! (get_in ! (fld ! refl (stop !)) (sub ! 0 refl (whole !)))) (ap ptr_val there)) refl (tt, tt) $
    sets_last ! (addr ! (through ! refl (stop !))) refl (tt, tt) $ exec ! 𝓣.C 𝓣.Λ Ev (after 1 fn.body) (at_ret Ev Post) $ sets ! (of_opd ! (get ! refl)) refl (tt, tt) $
    move ! (1 ∷ 2 ∷ 3 ∷ []) $ fjoin3 ! $ move ! (2 ∷ 3 ∷ 4 ∷ 1 ∷ 0 ∷ []) $ group ! 5 $
    use1 𝓛 (later (some (λ (δ : GName). raw (Part 𝓛 (Cr Y) (Nr Y) new (named 0) κs.0 qs.0 rb ro pb po γ (sem 𝓛 (Rest Y 𝓛 rb ro d place at pb po)) way x δ))))
    (lends_Part 𝓛 (Cr Y) (Nr Y) new (named 0) κs.0 qs.0 rb ro pb po γ (sem 𝓛 (Rest Y 𝓛 rb ro d place at pb po)) way code' code' x) $ await ! tt $ pick ! (λ δ.
    let r : MutBor (Node Y.Denot) = record { ref_ptr = (pb, po); ghost_name = δ; now = x } in let u : Val = vptr pb po in
    returns ! (look_at ! 0 refl) $ free_all ! refl $
    use1 𝓛 (‵ ((MutRef (named 0) κs.0 (Nr Y)).own_val r (u ∷ [])) ⊛ (‵ (flft κs.0 qs.0) ⊛ ‵ (follows (Cr Y) (Nr Y) γ δ new))) (id⊢ 𝓤 _) $ split3 ! $
    -- [the loan; the token; what follows; the other tokens]
    use0 𝓛 (raw (fact 𝓤 (AtPlace d.nodes place.ptr (λ _ n _. r.now ≡ n)))) (fact_i 𝓤 _ (emp 𝓤) (at_place at d.apart (λ _ n _. r.now ≡ n) refl)) $
    move ! (3 ∷ 0 ∷ []) $ join ! $ move ! (2 ∷ 3 ∷ []) $ join ! $ nothing ! $ nothing ! $ fjoin ! $ nothing ! $ fjoin ! $
    -- [nothing of the parameters; the tokens; the ensures; the loan]
    keep ! (1 ∷ 0 ∷ 3 ∷ 2 ∷ []) $ by ! (leaves 𝓛 En hs c z u r (tt, (tt, tt)) (tt, (tt, tt))))))))))
