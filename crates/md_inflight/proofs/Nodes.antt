-- What owning the nodes of a chain means, step by step, and what a `&` to them lends. Assumes `Logic`.
use Rattle.std.proofs.Common.{◌≡◌, ℕ, ◌<◌, ◌^◌, ◌++◌, true, false, List, [], ◌∷◌, Option, Some, None, refl, sym, ap, ◌∙◌, subst, lit<, arith}
use seplogic.Ra.Ura.{Ura}
use base.Fraction.{full_share}
use mir.Syntax.{Args, a_type, ty_int, w64, impl, tnil, dnil}
use mir.Val.{Val, vint, vstruct, vcons, vnil, of_list}
use mir.Raw.{raw as bare}
use base.Logic.{ent, sep, emp, never, never_e, via, id⊢, fst∗, snd∗}
use base.Fml.{Lft, GName, Share, Fml, Incl, ftrue, fat, froom, flft, fobs, fauth, fbor, fobor}
use base.Shift.{Keyless}
use base.Stored.{Gv}
use prog.Memory.{size}
use prog.Model.{Model}
use types.Logic.{Logic, sem}
use contract.Monad.{fact, fact_i, fact_use}
use types.Kit.{Item, Goal, Seq, Step, Soaks, step, mean, prop, ‵, raw, some, ◌⊛◌, ◌$◌, ◌∵◌, !, qed, by, move, keep, drop, use0, use1, use2, pick, split, rewrite, fsplit, fjoin, fpick, fpack, feq_i, feq_l, flt_i, flt_l, done}
use types.SemTy.{Body as Borrowed}
use denote.RattleType.{RattleType, Valss}
use denote.Memory.{lone, part_at, cell_at, mem, hidden_shr}
use denote.Param.{param, layout, layouts}
use denote.Param.Laws.{Laws}
use denote.Param.Send.{IsSend, IsSync, Common, AllSend, owning_send, struct_send, struct_sync, sendable}
use denote.RawPtr.{Ptr, RawPtr, block_ptr, null_ptr, ptr_val, lies_at, in_a_block}
use denote.Shares.{Shares-less}
use denote.Sharing.{ShrLaws}
use denote.SharingLaws.{beside_shr_laws, nothing_shr_laws}
use denote.Struct.Lending.{Lends, lent_at, lent_at_shr_laws, Lends-lies, Lends-first, Lends-both, Lends-nothing}
use borrow.Table.OneValue.{part_in, part_out}
use Rattle.std.specs.contracts.impls.GlobalAllocator.TheImpl.{ghosts}
use Rattle.std.proofs.Crossing.{frees}
use Rattle.core.specs.contracts.option.Option as Opt
use Rattle.core.proofs.option.Option.TheLaws as option_laws
use Rattle.std_alloc.proofs.RcSteps.{Good, some_Good, word, word-Good, Some-of, none_of}
use denote.Steps.{nothing, facts, only, opens, closes, looks, shuts}
use denote.Laws.{Is, shows}
use denote.Struct.Struct.{Shape, within, exits_of, as_fields}
use Rattle.md_inflight.specs.declared.place.Place.{Place}
use Rattle.md_inflight.specs.contracts.place.Place as P-type
use Rattle.md_inflight.specs.contracts.chain.Chain as C-type
use Rattle.md_inflight.proofs.place.Place.TheLaws as place_laws
use denote.Struct.Owning.{shape, fields, to}
use Rattle.std.specs.declared.alloc.Global.{Global}
use Rattle.std_alloc.proofs.SendSync.{quiet, lies, seen}
use Rattle.md_inflight.specs.Placed.{same_ptr, LieElsewhere, IsAt}
use Rattle.md_inflight.proofs.Places.{same_ptr_eq}
use Rattle.md_inflight.specs.Ownership.{node_held, held_owns, held_lent}
use Rattle.md_inflight.specs.declared.node.Node.{Node}
use Rattle.md_inflight.specs.contracts.node.Node.{the_row as Node_row, the_type as Node_type}
use denote.Struct.Declared.{shape as node_shape_of}
use denote.Shadow.{makes_shadow}
use Rattle.std.specs.contracts.marker.PhantomData as marker
use Rattle.core.proofs.alloc.Calls.{Al, handle_tells}
use Rattle.std.specs.contracts.alloc.Global as heap_row
use Rattle.std.proofs.alloc.Global.TheLaws as heap_laws
use prog.Wp.{Env, Calls, Loops, Wp, after_seq}
use mir.Syntax.{Body}
use types.Kit.{Post, any_q, post}
use denote.Opens.{Shut}
use Rattle.md_inflight.proofs.node.Node.TheLaws.{the_row_laws as node_laws}

pub held_lent_laws : (R : RattleType) → Laws R → (vs : List (Ptr × Node R.Denot)) → ShrLaws (held_lent R vs)
held_lent_laws R L [] = nothing_shr_laws
held_lent_laws R L (v ∷ vs) = beside_shr_laws (lent_at (Node_row R) v.0 v.1) (held_lent R vs) (lent_at_shr_laws (Node_row R) (node_laws R L).shr_laws v.0 v.1) (held_lent_laws R L vs)

module _ {M : Type 1} {𝓤 : Ura M} (𝓛 : Logic 𝓤) (l : Lft) (R : RattleType) (L : Laws R) (inc : Incl l (Node_row R).lives) where
  pub Lends-held : (vs : List (Ptr × Node R.Denot)) → Lends 𝓛 (held_owns R vs) (held_lent R vs) l
  Lends-held [] = Lends-nothing 𝓛 ftrue l
  Lends-held (v ∷ vs) =
      let N = Node_row R in
      Lends-both 𝓛 (node_held R v.0 v.1) (held_owns R vs) (lent_at N v.0 v.1) (held_lent R vs) l
      (Lends-first 𝓛 (lies_at N full_share v.0 v.1) (ghosts.dealloc_token (record { memory = record { seal = tt } }) (bare (lone N.mir)) v.0) (lent_at N v.0 v.1) l
      (Lends-lies 𝓛 N l v.0 v.1 (Shares-less 𝓛 N N.lives l inc ((node_laws R L).shares 𝓛) v.1))) (Lends-held vs)

abbrev pub Pl : RattleType
Pl = P-type.the_row

abbrev pub Link : RattleType
Link = Opt.the_row Pl

-- the machine's values of an address, of a link, of a chain's two ends and of a node
abbrev pub link : Option Place → Val
link = option_laws.lowered Pl place_laws.the_row_laws place_laws.the_told

abbrev pub ends : Option Place → Option Place → Val
ends first last = vstruct (vcons (link first) (vcons (link last) (vcons (vstruct vnil) vnil)))

abbrev pub node_val : ℕ → Val → Option Place → Option Place → Val
node_val number v prev next = vstruct (vcons (vint w64 number) (vcons v (vcons (link prev) (vcons (link next) vnil))))

pub link-Good : (o : Option Place) → Good (lone Link.mir) (link o)
link-Good None = (tt, (record { fits = lit< tt }, tt))
link-Good (Some p) = some_Good (layout Pl) (word p.ptr) (word-Good P-type.the_type.name p.ptr)

abbrev Mark : RattleType
Mark = (marker.the_field RawPtr).row

mark_of : {M : Type 1} {𝓤 : Ura M} (𝓛 : Logic 𝓤) → ent 𝓤 (emp 𝓤) (sem 𝓛 (Mark.own_val (record {}) (vstruct vnil ∷ [])))
mark_of 𝓛 = makes_shadow 𝓛 (Mark.own_val (record {}) (vstruct vnil ∷ [])) (λ uss. (tt, tt)) (tt, (refl, tt))

abbrev one_field : Shape
one_field = record { name = []; args = []; types = []; fields = RawPtr ∷ [] }

module _ {M : Type 1} {𝓤 : Ura M} {𝓛 : Logic 𝓤} {K : Type 0} {Γ : List (Item 𝓤)} {G : Goal 𝓤 𝓛.H} where
  pub place_had : K → (p : Place) (vs : List Val) → (vs ≡ word p.ptr ∷ [] → Seq K 𝓛 Γ G) → Seq K 𝓛 (‵ (Pl.own_val p vs) ∷ Γ) G
  place_had t p vs k = fpick t (λ vss. fsplit t $ feq_l t (λ all. fsplit t $ feq_l t (λ e. drop t $ k (all ∙ ap (λ (ws : List Val). vstruct (of_list (ws ++ [])) ∷ []) e))))

  pub place_made : K → (p : Place) → Step K 𝓛 (‵ (Pl.own_val p (word p.ptr ∷ [])) ∷ Γ) G Γ G
  place_made t p = step (λ s.
      nothing t $ feq_i t (List Val) (ptr_val p.ptr ∷ []) (ptr_val p.ptr ∷ []) refl $ fjoin t $ feq_i t (List Val) (word p.ptr ∷ []) (word p.ptr ∷ []) refl $ fjoin t $
      fpack t (Valss (RawPtr ∷ [])) (within one_field (p.ptr, tt) (word p.ptr ∷ [])) (ptr_val p.ptr ∷ [], tt) $ s)

link_of : {M : Type 1} {𝓤 : Ura M} (𝓛 : Logic 𝓤) (o : Option Place) → ent 𝓤 (emp 𝓤) (sem 𝓛 (Link.own_val o (link o ∷ [])))
link_of 𝓛 None = none_of 𝓛 Pl
link_of 𝓛 (Some p) = qed 𝓛 [] ∵ place_made ! p $ by ! (Some-of 𝓛 Pl p (word p.ptr))

module _ (Y : RattleType) where
  abbrev pub args : Args
  args = layouts (a_type ∷ []) (Y, tt)

  abbrev pub R : RattleType
  R = param 0 Y

  abbrev pub Cr : RattleType
  Cr = C-type.the_row R

  abbrev pub Nr : RattleType
  Nr = Node_row R

  abbrev pub Entry : Type 0
  Entry = Ptr × Node Y.Denot

pub ends-Good : (Y : RattleType) (first last : Option Place) → Good (lone (Cr Y).mir) (ends first last)
ends-Good Y first last = as_fields (lone Link.mir ∷ lone Link.mir ∷ lone Mark.mir ∷ []) (link first ∷ link last ∷ vstruct vnil ∷ []) (link-Good first, (link-Good last, ((tt, tt), tt)))

pub node-Good : (Y : RattleType) (number : ℕ) (v : Val) (prev next : Option Place) → number < 2 ^ 64 → Good (layout Y) v → Good (lone (Nr Y).mir) (node_val number v prev next)
node-Good Y number v prev next fits good = as_fields (ty_int w64 ∷ layout Y ∷ lone Link.mir ∷ lone Link.mir ∷ []) (vint w64 number ∷ v ∷ link prev ∷ link next ∷ []) ((tt, record { fits = fits }), (good, (link-Good prev, (link-Good next, tt))))

-- the right to free a node's block
abbrev pub frees_at : RattleType → Ptr → Fml
frees_at Y p = ghosts.dealloc_token (record { memory = record { seal = tt } }) (bare (lone (Nr Y).mir)) p

module _ {M : Type 1} {𝓤 : Ura M} {𝓛 : Logic 𝓤} {K : Type 0} {Γ : List (Item 𝓤)} {G : Goal 𝓤 𝓛.H} where
  pub link_had : K → (o : Option Place) (vs : List Val) → (vs ≡ link o ∷ [] → Seq K 𝓛 Γ G) → Seq K 𝓛 (‵ (Link.own_val o vs) ∷ Γ) G
  link_had t o vs k = facts t Link (Is Link) (shows 𝓛 Link) o vs (λ is. k ((option_laws.lowers Pl place_laws.the_row_laws place_laws.the_told).val_is o vs is))

  pub link_made : K → (o : Option Place) → Step K 𝓛 (‵ (Link.own_val o (link o ∷ [])) ∷ Γ) G Γ G
  link_made t o = use0 𝓛 (‵ (Link.own_val o (link o ∷ []))) (link_of 𝓛 o)

  -- a fact that two entries show is learned, and they stay
  pub knows : K → {i j : Item 𝓤} (φ : Type 0) → ent 𝓤 (sep 𝓤 (mean 𝓛 i) (mean 𝓛 j)) (fact 𝓤 φ) → (φ → Seq K 𝓛 (i ∷ j ∷ Γ) G) → Seq K 𝓛 (i ∷ j ∷ Γ) G
  knows t {i} {j} φ h k =
      let shown : Seq K 𝓛 (i ∷ j ∷ Γ) (prop (fact 𝓤 φ)) = use2 𝓛 (raw (fact 𝓤 φ)) h $ keep t (0 ∷ []) $ done t in
      record { prf = fact_use 𝓤 φ shown.prf (λ x. (k x).prf) }

module _ (Y : RattleType) (L : Laws Y) {M : Type 1} {𝓤 : Ura M} {𝓛 : Logic 𝓤} {K : Type 0} {Γ : List (Item 𝓤)} {G : Goal 𝓤 𝓛.H} where
  -- what is owned of an item is one machine value, of its type
  pub item_had : K → (x : Y.Denot) (vs : List Val) → ((v : Val) → vs ≡ v ∷ [] → Good (layout Y) v → Seq K 𝓛 (‵ (Y.own_val x (v ∷ [])) ∷ Γ) G) → Seq K 𝓛 (‵ (Y.own_val x vs) ∷ Γ) G
  item_had = handle_tells (record { row = Y; laws = L; g = record { dealloc_token = λ a σ p. ftrue }; d = impl [] tnil dnil; drops = impl [] tnil dnil })

module _ (Y : RattleType) (L : Laws Y) {M : Type 1} {𝓤 : Ura M} {𝓛 : Logic 𝓤} {K : Type 0} {Γ : List (Item 𝓤)} {G : Goal 𝓤 𝓛.H} where
  pub node_had : K → (x : Node Y.Denot) (vs : List Val)
      → ((v : Val) → vs ≡ node_val x.number v x.prev x.next ∷ [] → Good (layout Y) v → x.number < 2 ^ 64 → Seq K 𝓛 (‵ (Y.own_val x.item (v ∷ [])) ∷ Γ) G) → Seq K 𝓛 (‵ ((Nr Y).own_val x vs) ∷ Γ) G
  node_had t x vs k =
      fpick t (λ vss. fsplit t $ feq_l t (λ all. fsplit t $ fsplit t $ feq_l t (λ e₀. flt_l t (λ fits. fsplit t $ item_had Y L t x.item vss.1.0 (λ v e₁ good. move t (1 ∷ []) $ fsplit t $ link_had t x.prev vss.1.1.0 (λ e₂. fsplit t $ link_had t x.next vss.1.1.1.0 (λ e₃. drop t $
      k v (all ∙ (λ i. vstruct (of_list (e₀ i ++ (e₁ i ++ (e₂ i ++ (e₃ i ++ []))))) ∷ [])) good fits)))))))

module _ (Y : RattleType) {M : Type 1} {𝓤 : Ura M} {𝓛 : Logic 𝓤} {K : Type 0} {Γ : List (Item 𝓤)} {G : Goal 𝓤 𝓛.H} where
  pub node_made : K → (x : Node Y.Denot) (v : Val) → x.number < 2 ^ 64 → Step K 𝓛 (‵ ((Nr Y).own_val x (node_val x.number v x.prev x.next ∷ [])) ∷ Γ) G (‵ (Y.own_val x.item (v ∷ [])) ∷ Γ) G
  node_made t x v fits = step (λ s. let w = node_val x.number v x.prev x.next in
      nothing t $ link_made t x.next $ fjoin t $ link_made t x.prev $ fjoin t $ move t (1 ∷ 0 ∷ []) $ fjoin t $
      flt_i t x.number (2 ^ 64) fits $ feq_i t (List Val) (vint w64 x.number ∷ []) (vint w64 x.number ∷ []) refl $ fjoin t $ fjoin t $ feq_i t (List Val) (w ∷ []) (w ∷ []) refl $ fjoin t $
      fpack t (Valss (node_shape_of (Node_type (R Y))).fields) (within (node_shape_of (Node_type (R Y))) ((Node_type (R Y)).to x) (w ∷ [])) (vint w64 x.number ∷ [], (v ∷ [], (link x.prev ∷ [], (link x.next ∷ [], tt)))) $ s)

module _ (Y : RattleType) (L : Laws Y) {M : Type 1} {𝓤 : Ura M} {𝓛 : Logic 𝓤} {K : Type 0} {Γ : List (Item 𝓤)} {G : Goal 𝓤 𝓛.H} where
  -- [the node's cell; the right to free it; what its item owns]
  pub held_out : K → (b o : ℕ) (x : Node Y.Denot)
      → ((v : Val) → Good (layout Y) v → x.number < 2 ^ 64 → Seq K 𝓛 (‵ (fat full_share (lone (Nr Y).mir) b o (node_val x.number v x.prev x.next)) ∷ ‵ (frees_at Y (block_ptr b o)) ∷ ‵ (Y.own_val x.item (v ∷ [])) ∷ Γ) G)
      → Seq K 𝓛 (‵ (node_held (R Y) (block_ptr b o) x) ∷ Γ) G
  held_out t b o x k =
      fsplit t $ use1 𝓛 (some (λ (w : Val). ‵ (fat full_share (lone (Nr Y).mir) b o w) ⊛ ‵ ((Nr Y).own_val x (w ∷ [])))) (part_out 𝓛 (Nr Y) refl full_share x b o) $ pick t (λ w. split t $ move t (1 ∷ []) $
      node_had Y L t x (w ∷ []) (λ v is good fits. rewrite t 1 (λ (u : Val). ‵ (fat full_share (lone (Nr Y).mir) b o u)) (ap only is) refl $ move t (1 ∷ 2 ∷ 0 ∷ []) $ k v good fits))

module _ (Y : RattleType) {M : Type 1} {𝓤 : Ura M} {𝓛 : Logic 𝓤} {K : Type 0} {Γ : List (Item 𝓤)} {G : Goal 𝓤 𝓛.H} where
  pub held_in : K → (b o : ℕ) (x : Node Y.Denot) (v : Val) → x.number < 2 ^ 64
      → Step K 𝓛 (‵ (node_held (R Y) (block_ptr b o) x) ∷ Γ) G (‵ (fat full_share (lone (Nr Y).mir) b o (node_val x.number v x.prev x.next)) ∷ ‵ (frees_at Y (block_ptr b o)) ∷ ‵ (Y.own_val x.item (v ∷ [])) ∷ Γ) G
  held_in t b o x v fits = step (λ s. let w = node_val x.number v x.prev x.next in
      move t (2 ∷ []) $ node_made Y t x v fits $ move t (1 ∷ 0 ∷ []) $ use2 𝓛 (‵ (part_at (Nr Y) full_share x b o)) (part_in 𝓛 (Nr Y) refl full_share x b o w) $ fjoin t $ s)

module _ (Y : RattleType) {M : Type 1} {𝓤 : Ura M} {𝓛 : Logic 𝓤} {K : Type 0} {Γ : List (Item 𝓤)} {G : Goal 𝓤 𝓛.H} where
  -- [the nodes] of a chain by value
  pub chain_had : K → (d : (Cr Y).Denot) (vs : List Val) → (vs ≡ ends d.first d.last ∷ [] → Seq K 𝓛 (‵ (held_owns (R Y) d.nodes) ∷ Γ) G) → Seq K 𝓛 (‵ ((Cr Y).own_val d vs) ∷ Γ) G
  chain_had t d vs k =
      fsplit t $ fpick t (λ vss. fsplit t $ feq_l t (λ all. fsplit t $ link_had t d.first vss.0 (λ e₀. fsplit t $ link_had t d.last vss.1.0 (λ e₁. fsplit t $ fpick t (λ uss. fsplit t $ feq_l t (λ e₂. drop t $ drop t $
      k (all ∙ (λ i. vstruct (of_list (e₀ i ++ (e₁ i ++ (e₂ i ++ [])))) ∷ []))))))))

module _ (Y : RattleType) {M : Type 1} {𝓤 : Ura M} {𝓛 : Logic 𝓤} {K : Type 0} {Γ : List (Item 𝓤)} {G : Goal 𝓤 𝓛.H} where
  pub chain_made : K → (d : (Cr Y).Denot) → Step K 𝓛 (‵ ((Cr Y).own_val d (ends d.first d.last ∷ [])) ∷ Γ) G (‵ (held_owns (R Y) d.nodes) ∷ Γ) G
  chain_made t d = step (λ s. let v = ends d.first d.last in let O = C-type.the_type (R Y) in
      nothing t $ use0 𝓛 (‵ (Mark.own_val (record {}) (vstruct vnil ∷ []))) (mark_of 𝓛) $ fjoin t $ link_made t d.last $ fjoin t $ link_made t d.first $ fjoin t $ feq_i t (List Val) (v ∷ []) (v ∷ []) refl $ fjoin t $
      fpack t (Valss (shape O).fields) (within (shape O) (to O d) (v ∷ [])) (link d.first ∷ [], (link d.last ∷ [], (vstruct vnil ∷ [], tt))) $ fjoin t $ s)

module _ (Y : RattleType) {M : Type 1} {𝓤 : Ura M} {𝓛 : Logic 𝓤} {K : Type 0} {Γ : List (Item 𝓤)} {G : Goal 𝓤 𝓛.H} where
  -- [the nodes; the ends; the open borrow; obs; auth]
  pub chain_opens : K → Soaks G → {κ : Lft} {q : Share} {γ : GName} (d : (Cr Y).Denot) (rb ro : ℕ)
      → Step K 𝓛 (‵ (held_owns (R Y) d.nodes) ∷ ‵ (fat full_share (lone (Cr Y).mir) rb ro (ends d.first d.last)) ∷ ‵ (fobor κ q (Borrowed (mem (Cr Y)) rb ro γ)) ∷ ‵ (fobs γ ((Cr Y).coded.code d)) ∷ ‵ (fauth γ ((Cr Y).coded.code d)) ∷ Γ) G
      (‵ (fobs γ ((Cr Y).coded.code d)) ∷ ‵ (fbor κ (Borrowed (mem (Cr Y)) rb ro γ)) ∷ ‵ (flft κ q) ∷ Γ) G
  chain_opens t z d rb ro = step (λ s.
      opens t z (Cr Y) {h = d} rb ro (λ vs. move t (1 ∷ []) $ chain_had Y t d vs (λ is. rewrite t 1 (λ (ws : List Val). ‵ (cell_at full_share (Cr Y).mir ws rb ro)) is refl $
      move t (1 ∷ []) $ use1 𝓛 (‵ (fat full_share (lone (Cr Y).mir) rb ro (ends d.first d.last))) (𝓛.laws.raw_at full_share (lone (Cr Y).mir) rb ro (ends d.first d.last)) $ move t (1 ∷ []) $ s)))

  pub chain_closes : K → Soaks G → {κ : Lft} {q : Share} {u v : Gv} {γ : GName} (d : (Cr Y).Denot) (rb ro : ℕ)
      → Step K 𝓛 (‵ (fobs γ ((Cr Y).coded.code d)) ∷ ‵ (fbor κ (Borrowed (mem (Cr Y)) rb ro γ)) ∷ ‵ (flft κ q) ∷ Γ) G
      (‵ (held_owns (R Y) d.nodes) ∷ ‵ (fat full_share (lone (Cr Y).mir) rb ro (ends d.first d.last)) ∷ ‵ (fobor κ q (Borrowed (mem (Cr Y)) rb ro γ)) ∷ ‵ (fobs γ u) ∷ ‵ (fauth γ v) ∷ Γ) G
  chain_closes t z d rb ro = step (λ s. chain_made Y t d $ move t (1 ∷ []) $
      use1 𝓛 (‵ (cell_at full_share (Cr Y).mir (ends d.first d.last ∷ []) rb ro)) (𝓛.laws.at_raw full_share (lone (Cr Y).mir) rb ro (ends d.first d.last)) $ closes t z (Cr Y) d (ends d.first d.last ∷ []) rb ro $ s)

module _ {M : Type 1} {𝓤 : Ura M} (𝓛 : Logic 𝓤) (Y : RattleType) where
  abbrev Row : List (Entry Y) → Fml
  Row = held_owns (R Y)

  abbrev pub One : Entry Y → Fml
  One v = node_held (R Y) v.0 v.1

  -- one node is taken out of the row, and put in
  pub row_cut : (xs : List (Entry Y)) (v : Entry Y) (ys : List (Entry Y)) → ent 𝓤 (sem 𝓛 (Row (xs ++ v ∷ ys))) (sep 𝓤 (sem 𝓛 (One v)) (sem 𝓛 (Row (xs ++ ys))))
  row_cut [] v ys = id⊢ 𝓤 _
  row_cut (x ∷ xs) v ys = qed 𝓛 (‵ (Row (x ∷ xs ++ v ∷ ys)) ∷ []) ∵ fsplit ! $ move ! (1 ∷ []) $
      use1 𝓛 (‵ (One v) ⊛ ‵ (Row (xs ++ ys))) (row_cut xs v ys) $ split ! $ move ! (2 ∷ 1 ∷ []) $ fjoin ! $ move ! (1 ∷ []) $ done !

  pub row_glue : (xs : List (Entry Y)) (v : Entry Y) (ys : List (Entry Y)) → ent 𝓤 (sep 𝓤 (sem 𝓛 (One v)) (sem 𝓛 (Row (xs ++ ys)))) (sem 𝓛 (Row (xs ++ v ∷ ys)))
  row_glue [] v ys = id⊢ 𝓤 _
  row_glue (x ∷ xs) v ys = qed 𝓛 (‵ (One v) ∷ ‵ (Row (x ∷ xs ++ ys)) ∷ []) ∵ move ! (1 ∷ []) $ fsplit ! $ move ! (2 ∷ 1 ∷ []) $
      use2 𝓛 (‵ (Row (xs ++ v ∷ ys))) (row_glue xs v ys) $ move ! (1 ∷ 0 ∷ []) $ fjoin ! $ done !

  -- and seen behind a `&`
  pub row_seen : (κ : Lft) (xs : List (Entry Y)) (v : Entry Y) (ys : List (Entry Y)) → ent 𝓤 (sem 𝓛 (held_lent (R Y) (xs ++ v ∷ ys) κ)) (sem 𝓛 (lent_at (Nr Y) v.0 v.1 κ))
  row_seen κ [] v ys = fst∗ 𝓤 _ (sem 𝓛 (held_lent (R Y) ys κ))
  row_seen κ (x ∷ xs) v ys = via 𝓤 _ (snd∗ 𝓤 (sem 𝓛 (lent_at (Nr Y) x.0 x.1 κ)) _) (row_seen κ xs v ys)

  pub no_node : (x : Node Y.Denot) → ent 𝓤 (sem 𝓛 (One (null_ptr, x))) (never 𝓤)
  no_node x = fst∗ 𝓤 (never 𝓤) (sem 𝓛 (frees_at Y null_ptr))

  module _ (𝓜 : Model 𝓤 𝓛.H) where
    bytes : 0 < size (lone (Nr Y).mir)
    bytes = omega arith

    -- two nodes don't lie at one place
    crowd : (p : Ptr) (x y : Node Y.Denot) → ent 𝓤 (sep 𝓤 (sem 𝓛 (lies_at (Nr Y) full_share p x)) (sem 𝓛 (lies_at (Nr Y) full_share p y))) (never 𝓤)
    crowd (block_ptr b o) x y = let τ = lone (Nr Y).mir in qed 𝓛 (‵ (part_at (Nr Y) full_share x b o) ∷ ‵ (part_at (Nr Y) full_share y b o) ∷ []) ∵
        use1 𝓛 (some (λ (v : Val). ‵ (fat full_share τ b o v) ⊛ ‵ ((Nr Y).own_val x (v ∷ [])))) (part_out 𝓛 (Nr Y) refl full_share x b o) $ pick ! (λ v. split ! $ move ! (2 ∷ []) $
        use1 𝓛 (some (λ (w : Val). ‵ (fat full_share τ b o w) ⊛ ‵ ((Nr Y).own_val y (w ∷ [])))) (part_out 𝓛 (Nr Y) refl full_share y b o) $ pick ! (λ w. split ! $ keep ! (0 ∷ 2 ∷ []) $
        use1 𝓛 (‵ (froom τ b o)) (𝓛.laws.at_room τ b o w) $ by ! (𝓜.room_at τ τ b o o o full_share v (omega (arith, bytes), omega (arith, bytes)) (omega (arith, bytes), omega (arith, bytes)))))
    crowd null_ptr x y = fst∗ 𝓤 (never 𝓤) (never 𝓤)

    differ : (p q : Ptr) (x y : Node Y.Denot) → ent 𝓤 (sep 𝓤 (sem 𝓛 (One (p, x))) (sem 𝓛 (One (q, y)))) (fact 𝓤 (same_ptr p q ≡ false))
    differ p q x y = (elim (same_ptr p q) as (λ z. same_ptr p q ≡ z → ent 𝓤 (sep 𝓤 (sem 𝓛 (One (p, x))) (sem 𝓛 (One (q, y)))) (fact 𝓤 (same_ptr p q ≡ false))) [
      | true ↦ λ e. subst (λ r. ent 𝓤 (sep 𝓤 (sem 𝓛 (One (p, x))) (sem 𝓛 (One (r, y)))) (fact 𝓤 (same_ptr p q ≡ false))) (same_ptr_eq p q e)
          (qed 𝓛 (‵ (One (p, x)) ∷ ‵ (One (p, y)) ∷ []) ∵ fsplit ! $ move ! (2 ∷ []) $ fsplit ! $ keep ! (0 ∷ 2 ∷ []) $ use2 𝓛 (raw (never 𝓤)) (crowd p y x) $ by ! (never_e 𝓤 _))
      | false ↦ λ e. fact_i 𝓤 (same_ptr p q ≡ false) _ e
    ]) refl

    -- a node lies apart from those of a row
    pub row_fresh : (v : Entry Y) (vs : List (Entry Y)) → ent 𝓤 (sep 𝓤 (sem 𝓛 (One v)) (sem 𝓛 (Row vs))) (fact 𝓤 (LieElsewhere v.0 vs))
    row_fresh v [] = fact_i 𝓤 (LieElsewhere {X = Node Y.Denot} v.0 []) _ tt
    row_fresh v (w ∷ vs) = qed 𝓛 (‵ (One v) ∷ ‵ (Row (w ∷ vs)) ∷ []) ∵ move ! (1 ∷ []) $ fsplit ! $ move ! (2 ∷ 0 ∷ []) $
        knows ! (same_ptr v.0 w.0 ≡ false) (differ v.0 w.0 v.1 w.1) (λ here. move ! (0 ∷ 2 ∷ []) $ knows ! (LieElsewhere v.0 vs) (row_fresh v vs) (λ rest.
        by ! (fact_i 𝓤 (LieElsewhere v.0 (w ∷ vs)) _ (here, rest))))

module _ (Y : RattleType) (L : Laws Y) {M : Type 1} {𝓤 : Ura M} {𝓛 : Logic 𝓤} {K : Type 0} {Γ : List (Item 𝓤)} {G : Goal 𝓤 𝓛.H} where
  -- [the cell of the node at p; the right to free it; what its item owns; the others]
  pub row_out : K → {vs : List (Entry Y)} {p : Ptr} (at : IsAt vs p)
      → ((b o : ℕ) (w : Val) → p ≡ block_ptr b o → Good (layout Y) w → at.value.number < 2 ^ 64
      → Seq K 𝓛 (‵ (fat full_share (lone (Nr Y).mir) b o (node_val at.value.number w at.value.prev at.value.next)) ∷ ‵ (frees_at Y (block_ptr b o)) ∷ ‵ (Y.own_val at.value.item (w ∷ [])) ∷ ‵ (held_owns (R Y) (at.before ++ at.after)) ∷ Γ) G)
      → Seq K 𝓛 (‵ (held_owns (R Y) vs) ∷ Γ) G
  row_out t {vs} {p} at k =
      rewrite t 0 (λ (us : List (Entry Y)). ‵ (held_owns (R Y) us)) at.cut refl $ use1 𝓛 (‵ (node_held (R Y) p at.value) ⊛ ‵ (held_owns (R Y) (at.before ++ at.after))) (row_cut 𝓛 Y at.before (p, at.value) at.after) $ split t $
      in_a_block t p (λ q. node_held (R Y) q at.value) (no_node 𝓛 Y at.value) (λ b o e. held_out Y L t b o at.value (λ w good fits. k b o w e good fits))

module _ (Y : RattleType) {M : Type 1} {𝓤 : Ura M} {𝓛 : Logic 𝓤} {K : Type 0} {Γ : List (Item 𝓤)} {G : Goal 𝓤 𝓛.H} where
  pub row_in : K → (xs : List (Entry Y)) (p : Ptr) (x : Node Y.Denot) (ys : List (Entry Y)) (b o : ℕ) → p ≡ block_ptr b o → (w : Val) → x.number < 2 ^ 64
      → Step K 𝓛 (‵ (held_owns (R Y) (xs ++ (p, x) ∷ ys)) ∷ Γ) G
      (‵ (fat full_share (lone (Nr Y).mir) b o (node_val x.number w x.prev x.next)) ∷ ‵ (frees_at Y (block_ptr b o)) ∷ ‵ (Y.own_val x.item (w ∷ [])) ∷ ‵ (held_owns (R Y) (xs ++ ys)) ∷ Γ) G
  row_in t xs p x ys b o e w fits = step (λ s.
      held_in Y t b o x w fits $ rewrite t 0 (λ (q : Ptr). ‵ (node_held (R Y) q x)) (sym e) refl $ use2 𝓛 (‵ (held_owns (R Y) (xs ++ (p, x) ∷ ys))) (row_glue 𝓛 Y xs (p, x) ys) $ s)

module _ {M : Type 1} {𝓤 : Ura M} {𝓛 : Logic 𝓤} {K : Type 0} {Γ : List (Item 𝓤)} {G : Goal 𝓤 𝓛.H} where
  -- a link behind a `&` is read, and let go
  pub link_read : K → Soaks G → {κ : Lft} {q : Share} (o : Option Place) (b at : ℕ)
      → ((part : Share) → Seq K 𝓛 (‵ (fat part (lone Link.mir) b at (link o)) ∷ Shut 𝓛 κ q (part_at Link part o b at) ∷ Γ) G) → Seq K 𝓛 (‵ (hidden_shr Link κ o b at) ∷ ‵ (flft κ q) ∷ Γ) G
  link_read t z o b at k =
      looks t z Link ((option_laws.the_row_copy Pl place_laws.the_row_laws place_laws.the_row_copy).copied M 𝓤 𝓛).opens o b at (λ part vs. move t (1 ∷ []) $ link_had t o vs (λ e.
      rewrite t 0 (λ (us : List Val). ‵ (cell_at part Link.mir us b at)) e refl $ use1 𝓛 (‵ (fat part (lone Link.mir) b at (link o))) (𝓛.laws.raw_at part (lone Link.mir) b at (link o)) $ move t (2 ∷ []) $ drop t $ k part))

  pub link_shut : K → Soaks G → {κ : Lft} {q part : Share} (o : Option Place) (b at : ℕ)
      → Step K 𝓛 (‵ (flft κ q) ∷ Γ) G (‵ (fat part (lone Link.mir) b at (link o)) ∷ Shut 𝓛 κ q (part_at Link part o b at) ∷ Γ) G
  link_shut t z {part = part} o b at = step (λ s. link_made t o $ move t (1 ∷ []) $ use1 𝓛 (‵ (cell_at part Link.mir (link o ∷ []) b at)) (𝓛.laws.at_raw part (lone Link.mir) b at (link o)) $ shuts t z Link part o (link o ∷ []) b at $ s)

-- the heap, as an allocator
abbrev pub heap : Al
heap = record { row = heap_row.the_row; laws = heap_laws.the_row_laws; g = ghosts; d = impl [] tnil dnil; drops = impl [] tnil dnil }

-- what a part of a body runs into
module _ {M : Type 1} {𝓤 : Ura M} (𝓛 : Logic 𝓤) where
  open 𝓛 use {H}

  abbrev pub then_runs : Calls 𝓤 H → Loops 𝓤 H → Env 𝓤 H → Body → Post 𝓤 H → Post 𝓤 H
  then_runs C Λ E b q = any_q (after_seq 𝓤 H (Wp 𝓤 H C Λ E b (post 𝓤 H q)) (post 𝓤 H q))

module _ (T : RattleType) where
  pub node_send : IsSend T → IsSend (Node_row T)
  node_send s = search sendable depth 20

  pub node_sync : IsSync T → IsSync (Node_row T)
  node_sync y = search sendable depth 20

  held-Keyless : IsSend T → (vs : List (Ptr × Node T.Denot)) → Keyless (held_owns T vs)
  held-Keyless s [] = tt
  held-Keyless s (v ∷ vs) =
      let heap : Global = record { memory = record { seal = tt } } in
      ((lies (Node_row T) (node_send s) v.0 v.1, frees.frees heap (bare (lone (Node_row T).mir)) v.0), held-Keyless s vs)

  held_lent-Common : IsSync T → (vs : List (Ptr × Node T.Denot)) → Common (held_lent T vs)
  held_lent-Common y [] κ = tt
  held_lent-Common y (v ∷ vs) κ = (seen (Node_row T) (node_sync y) v.0 v.1 κ, held_lent-Common y vs κ)

  pub chain_send : IsSend T → IsSend (C-type.the_row T)
  chain_send s =
      let O = C-type.the_type T in let all : AllSend (fields O) = (search sendable depth 20, (search sendable depth 20, (search sendable depth 20, tt))) in
      owning_send O all (λ d. held-Keyless s d.nodes) (λ k. quiet (to O) (exits_of k (fields O)) ((struct_send (shape O) all).leaving k))

  pub chain_sync : IsSync T → IsSync (C-type.the_row T)
  chain_sync y = let O = C-type.the_type T in record {
    shared = λ d b o κ. ((struct_sync (shape O) (search sendable depth 20, (search sendable depth 20, (search sendable depth 20, tt)))).shared (to O d) b o κ, held_lent-Common y d.nodes κ);
  }
