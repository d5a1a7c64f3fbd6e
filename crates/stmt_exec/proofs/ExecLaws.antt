-- States of a body as the domain grows and its parts are run.
use Rattle.std.proofs.Common.{◌≡◌, ℕ, ◌+◌, ◌<◌, ◌≤◌, Bool, true, false, List, [], ◌∷◌, ◌++◌, length, map, get_or, take, drop, ap, ap₂, refl, sym, subst, ◌∙◌, arith, All, Option, None}
use Rattle.std.proofs.lemmas.List.{length-map, get_or-map, drop_more, drop_all}
use Rattle.design_core.specs.declared.tree.DExpr.{DExpr}
use Rattle.design_core.specs.declared.tree.DLeft.{DLeft}
use Rattle.design_core.specs.declared.tree.DStmt.{DStmt, out-DStmt}
use Rattle.design_core.specs.Core.{St, exec, places, puts, value, write}
use Rattle.design_core.specs.Formed.{IsFormed, IsFormedOf}
use Rattle.design_core.specs.Terms.{left as core_left, stmt, term}
use Rattle.tree_parts.specs.Parts.{children_of, heads_of}
use Rattle.tree_parts.proofs.PartLaws.{formed_children, formed_heads}
use Rattle.value_domain.specs.declared.parts.Word.{Word}
use Rattle.value_domain.specs.Meaning.{Meaning, Stands, Keeps}
use Rattle.value_domain.specs.Words.{IsGuard, allows}
use Rattle.stmt_exec.specs.declared.aims.Target.{Target}
use Rattle.stmt_exec.specs.Aims.{all_places, aim_of}
use Rattle.stmt_exec.specs.Choices.{AreGuards, allowed_of, run_each}
use Rattle.stmt_exec.specs.State.{IsFrame, IsLike, assignment, expr_value, local_widths, env_state, locals_in, ran, signal_widths, signals_in, size_for, size_in, state_in}
use Rattle.stmt_exec.specs.Runs.{AreValues, AreWorth, CanAsk, CanRun, Follows, IsResolved}
use Rattle.stmt_exec.proofs.ChoiceLaws.{is_write, parts_run, run_none}
use Rattle.value_domain.proofs.KeepLaws.{keeps_trans}
use Rattle.stmt_exec.proofs.DomainLaws as d
use Rattle.stmt_exec.proofs.EvalLaws.{written_back}
use Rattle.stmt_exec.proofs.GuardLaws.{kept_allowed, kept_guards}

module _ {S V : Type 0} (m : Meaning S V) where
  pub frame_later : (d0 d1 : S) (inside : Bool) (outer now next : List V) → Keeps m d0 d1 → IsFrame m d0 inside outer now next → IsFrame m d1 inside outer now next
  frame_later d0 d1 inside outer now next k f = record {
    outer_are = d.kept_all m d0 d1 outer k f.outer_are;
    now_are = d.kept_all m d0 d1 now k f.now_are;
    next_are = d.kept_all m d0 d1 next k f.next_are;
    most = f.most;
    alike = f.alike;
  }

  pub like_now : (d0 : S) (inside : Bool) (outer now next : List V) → IsFrame m d0 inside outer now next → IsLike m d0 inside outer now next now
  like_now d0 inside outer now next f = record { frame = f; now_wide = refl }

  pub like_later : (d0 d1 : S) (inside : Bool) (outer now next from : List V) → Keeps m d0 d1 → IsLike m d0 inside outer now next from → IsLike m d1 inside outer now next from
  like_later d0 d1 inside outer now next from k l = record { frame = frame_later d0 d1 inside outer now next k l.frame; now_wide = l.now_wide }

  pub like_from : (d1 : S) (inside : Bool) (outer now next middle from : List V) → IsLike m d1 inside outer now next middle → map m.width middle ≡ map m.width from → IsLike m d1 inside outer now next from
  like_from d1 inside outer now next middle from l e = record { frame = l.frame; now_wide = l.now_wide ∙ e }

  pub values_of : (d0 : S) (inside : Bool) (outer now next : List V) → IsFrame m d0 inside outer now next → AreValues m d0 (signals_in inside outer now) (locals_in inside outer now)
  values_of d0 true outer now next f = record { signals_are = f.outer_are; locals_are = f.now_are }
  values_of d0 false outer now next f = record { signals_are = f.now_are; locals_are = f.outer_are }

  pub state_later : (d0 d1 : S) (inside : Bool) (outer now next : List V) (v : ℕ → Bool) → Keeps m d0 d1 → IsFrame m d0 inside outer now next → state_in m d1 v inside outer now next ≡ state_in m d0 v inside outer now next
  state_later d0 d1 true outer now next v k f =
      ap₂ (λ (x y : List (List Bool)). let t : St = record { now = assignment x; later = assignment x; locals = y } in t) (d.kept_reads m d0 d1 v outer k f.outer_are) (d.kept_reads m d0 d1 v now k f.now_are)
  state_later d0 d1 false outer now next v k f =
      ap₂ (λ (x y : List (List Bool)). let t : St = record { now = assignment x; later = assignment y; locals = map (m.reads d1 v) outer } in t) (d.kept_reads m d0 d1 v now k f.now_are) (d.kept_reads m d0 d1 v next k f.next_are)
      ∙ ap (λ (y : List (List Bool)). let t : St = record { now = assignment (map (m.reads d0 v) now); later = assignment (map (m.reads d0 v) next); locals = y } in t) (d.kept_reads m d0 d1 v outer k f.outer_are)

  signals_wide : (inside : Bool) (outer now from : List V) → map m.width now ≡ map m.width from → signal_widths m inside outer now ≡ signal_widths m inside outer from
  signals_wide true outer now from e = refl
  signals_wide false outer now from e = e

  locals_wide : (inside : Bool) (outer now from : List V) → map m.width now ≡ map m.width from → local_widths m inside outer now ≡ local_widths m inside outer from
  locals_wide true outer now from e = e
  locals_wide false outer now from e = refl

  -- a part of a body that can be run can be run
  pub child_runs : (inside : Bool) (outer now from : List V) (body child : DStmt) (at : ℕ) → CanRun m inside outer from body → map m.width now ≡ map m.width from → at < length (children_of body) → get_or (children_of body) at child ≡ child
      → CanRun m inside outer now child
  child_runs inside outer now from body child at r e lt is = record {
    kinds = r.kinds;
    formed = subst (λ s. IsFormedOf (signal_widths m inside outer now) (local_widths m inside outer now) inside r.kinds s) is
        (subst (λ vs. IsFormedOf vs (local_widths m inside outer now) inside r.kinds (get_or (children_of body) at child)) (sym (signals_wide inside outer now from e))
        (subst (λ ls. IsFormedOf (signal_widths m inside outer from) ls inside r.kinds (get_or (children_of body) at child)) (sym (locals_wide inside outer now from e))
        (formed_children (signal_widths m inside outer from) (local_widths m inside outer from) inside r.kinds body r.formed at child lt)));
    blocks = r.blocks;
  }

  pub can_ask : (inside : Bool) (outer now : List V) (body : DStmt) → CanRun m inside outer now body → CanAsk (map m.width (signals_in inside outer now)) (map m.width (locals_in inside outer now)) body
  can_ask inside outer now body r = record { inside = inside; kinds = r.kinds; formed = r.formed }

  pub asked_heads : (vs ls : List ℕ) (body : DStmt) → CanAsk vs ls body → All (IsFormed vs ls) (heads_of body)
  asked_heads vs ls body a = formed_heads vs ls a.inside a.kinds body a.formed

  pub guards_later : (d0 d1 : S) (gs : List (Option V)) (allowed : (ℕ → Bool) → List Bool) → Keeps m d0 d1 → AreGuards m d0 gs allowed → AreGuards m d1 gs allowed
  guards_later d0 d1 gs allowed k g = record {
    are = kept_guards m d0 d1 gs k g.are;
    allow = λ v. kept_allowed m d0 d1 v gs k g.are ∙ g.allow v;
  }

  pub guards_made : (d0 d1 d2 : S) (signals locals : List V) (body : DStmt) (guard : Option V) (ws : List (Word V)) (gs : List (Option V)) → Keeps m d0 d1 → IsGuard m d0 guard
      → AreWorth m d0 d1 signals locals (heads_of body) ws
      → AreGuards m d2 gs (λ v. allowed_of body (allows m d1 v guard) (map (λ (w : Word V). m.reads d1 v w.value) ws))
      → AreGuards m d2 gs (λ v. allowed_of body (allows m d0 v guard) (map (λ (e : DExpr). expr_value m d0 signals locals e v) (heads_of body)))
  guards_made d0 d1 d2 signals locals body guard ws gs k g w a = record {
    are = a.are;
    allow = λ v. a.allow v ∙ ap₂ (λ b vs. allowed_of body b vs) (d.kept_allows m d0 d1 v guard k g) (w.stand v);
  }

  -- before the first part is run
  pub rest_start : (d0 d1 : S) (inside : Bool) (outer now next : List V) (body : DStmt) (guard : Option V) (gs : List (Option V)) → is_write (out-DStmt body) ≡ false → Keeps m d0 d1 → IsFrame m d0 inside outer now next
      → AreGuards m d1 gs (λ v. allowed_of body (allows m d0 v guard) (map (λ (e : DExpr). expr_value m d0 (signals_in inside outer now) (locals_in inside outer now) e v) (heads_of body)))
      → (v : ℕ → Bool)
      → run_each (drop 0 (map (allows m d1 v) gs)) (map (stmt (size_for m inside outer now)) (drop 0 (children_of body))) (state_in m d1 v inside outer now next)
      ≡ ran (allows m d0 v guard) (exec (stmt (size_for m inside outer now) body) (state_in m d0 v inside outer now next)) (state_in m d0 v inside outer now next)
  rest_start d0 d1 inside outer now next body guard gs w k f g v =
      ap₂ (λ bs t. run_each bs (map (stmt (size_for m inside outer now)) (children_of body)) t) (g.allow v) (state_later d0 d1 inside outer now next v k f)
      ∙ parts_run (size_for m inside outer now) body (allows m d0 v guard) (state_in m d0 v inside outer now next) w

  -- one more part was run
  pub rest_step : (dn d1 : S) (inside : Bool) (outer now next now1 next1 from : List V) (child : DStmt) (children : List DStmt) (at : ℕ) (guard : Option V) (gs : List (Option V)) (R : St) → at < length gs → at < length children
      → get_or children at child ≡ child → guard ≡ get_or gs at guard → Keeps m dn d1 → All (IsGuard m dn) gs → map m.width now ≡ map m.width from
      → (v : ℕ → Bool)
      → run_each (drop at (map (allows m dn v) gs)) (map (stmt (size_for m inside outer from)) (drop at children)) (state_in m dn v inside outer now next) ≡ R
      → state_in m d1 v inside outer now1 next1 ≡ ran (allows m dn v guard) (exec (stmt (size_for m inside outer now) child) (state_in m dn v inside outer now next)) (state_in m dn v inside outer now next)
      → run_each (drop (at + 1) (map (allows m d1 v) gs)) (map (stmt (size_for m inside outer from)) (drop (at + 1) children)) (state_in m d1 v inside outer now1 next1) ≡ R
  rest_step dn d1 inside outer now next now1 next1 from child children at guard gs R lt less is same k are e v had new =
      let size = size_for m inside outer from in
      let bs = map (allows m dn v) gs in
      let n = length-map gs (allows m dn v) in
      let t = state_in m dn v inside outer now next in
      let guards : drop at bs ≡ allows m dn v guard ∷ drop (at + 1) bs =
      drop_more bs at false (omega (arith, lt, n)) ∙ ap (λ b. b ∷ drop (at + 1) bs) (get_or-map (allows m dn v) gs at guard false lt ∙ ap (allows m dn v) (sym same)) in
      let parts : drop at children ≡ child ∷ drop (at + 1) children = drop_more children at child less ∙ ap (λ c. c ∷ drop (at + 1) children) is in
      let later : map (allows m d1 v) gs ≡ bs = (guards_later dn d1 gs (λ u. map (allows m dn u) gs) k (record { are = are; allow = λ u. refl })).allow v in
      ap₂ (λ cs u. run_each (drop (at + 1) cs) (map (stmt size) (drop (at + 1) children)) u) later
      (new ∙ ap (λ (sz : ℕ → ℕ). ran (allows m dn v guard) (exec (stmt sz child) t) t) (ap size_in (signals_wide inside outer now from e)))
      ∙ sym (ap₂ (λ cs ss. run_each cs (map (stmt size) ss) t) guards parts)
      ∙ had

  pub rest_end : (d1 : S) (inside : Bool) (outer now next from : List V) (children : List DStmt) (at : ℕ) (gs : List (Option V)) (R : St) → length children ≤ at → (v : ℕ → Bool)
      → run_each (drop at (map (allows m d1 v) gs)) (map (stmt (size_for m inside outer from)) (drop at children)) (state_in m d1 v inside outer now next) ≡ R
      → state_in m d1 v inside outer now next ≡ R
  rest_end d1 inside outer now next from children at gs R le v had =
      sym (ap (λ ss. run_each (drop at (map (allows m d1 v) gs)) (map (stmt (size_for m inside outer from)) ss) (state_in m d1 v inside outer now next)) (drop_all at children le)
      ∙ run_none (drop at (map (allows m d1 v) gs)) (state_in m d1 v inside outer now next)) ∙ had

  -- an assignment whose value and places were read before
  pub write_made : (d0 d1 d2 d3 : S) (inside : Bool) (outer now next now3 next3 : List V) (l : DLeft) (e : DExpr) (blocking : Bool) (guard : Option V) (x : V) (ts : List (Target V))
      → IsFrame m d0 inside outer now next → IsGuard m d0 guard → Keeps m d0 d1 → Keeps m d1 d2
      → Stands m d1 x e.length (expr_value m d0 (signals_in inside outer now) (locals_in inside outer now) e)
      → IsResolved m d1 d2 inside outer now l ts
      → ((v : ℕ → Bool) → state_in m d3 v inside outer now3 next3
      ≡ ran (allows m d2 v guard)
      (puts blocking (all_places inside (map (aim_of m inside (map m.width now) d2 v) ts)) (m.reads d2 v x) (state_in m d2 v inside outer now next))
      (state_in m d2 v inside outer now next))
      → Follows m d0 d3 guard inside outer now next now3 next3 (write (core_left (size_for m inside outer now) l) (term (size_for m inside outer now) e) blocking)
  write_made d0 d1 d2 d3 inside outer now next now3 next3 l e blocking guard x ts f g k j s r done v =
      let all = keeps_trans m d0 d1 d2 k j in
      let vs = values_of d0 inside outer now next f in
      let L = core_left (size_for m inside outer now) l in
      let t = state_in m d0 v inside outer now next in
      let place : all_places inside (map (aim_of m inside (map m.width now) d2 v) ts) ≡ places L t.now t.locals =
      r.names v ∙ ap₂ (λ (a b : List (List Bool)). places L (assignment a) b) (d.kept_reads m d0 d1 v (signals_in inside outer now) k vs.signals_are) (d.kept_reads m d0 d1 v (locals_in inside outer now) k vs.locals_are) in
      let word : m.reads d2 v x ≡ value (term (size_for m inside outer now) e) t.now t.locals = j.same x v s.is_one ∙ s.reads_as v in
      done v
      ∙ ap₂ (λ b u. ran b (puts blocking (all_places inside (map (aim_of m inside (map m.width now) d2 v) ts)) (m.reads d2 v x) u) u) (d.kept_allows m d0 d2 v guard all g) (state_later d0 d2 inside outer now next v all f)
      ∙ ap₂ (λ ps us. ran (allows m d0 v guard) (puts blocking ps us t) t) place word

  -- what a body leaves in an environment of signals, written back to its lists
  pub env_ran : (d0 d1 : S) (outer now next here there now1 next1 rest1 rest2 : List V) (n k : ℕ) (body : DStmt) → outer ≡ [] → here ≡ now → there ≡ next → map m.width next ≡ map m.width now → length here ≡ n → length there ≡ k
      → IsLike m d1 false outer now1 next1 here → Follows m d0 d1 None false outer here there now1 next1 (stmt (size_for m false outer here) body)
      → (v : ℕ → Bool) → env_state m d1 v (take n (now1 ++ rest1)) (take k (next1 ++ rest2)) ≡ exec (stmt (size_in (map m.width now)) body) (env_state m d0 v now next)
  env_ran d0 d1 outer now next here there now1 next1 rest1 rest2 n k body o i j alike long also like done v =
      let wide : map m.width next1 ≡ map m.width there = like.frame.alike refl ∙ like.now_wide ∙ ap (map m.width) i ∙ sym alike ∙ ap (map m.width) (sym j) in
      ap₂ (λ (a b : List V). env_state m d1 v a b) (written_back m n now1 here rest1 like.now_wide long) (written_back m k next1 there rest2 wide also)
      ∙ sym (ap (λ (y : List V). state_in m d1 v false y now1 next1) o)
      ∙ done v
      ∙ ap (λ (y : List V). exec (stmt (size_in (map m.width here)) body) (state_in m d0 v false y here there)) o
      ∙ ap₂ (λ (a b : List V). exec (stmt (size_in (map m.width a)) body) (env_state m d0 v a b)) i j
