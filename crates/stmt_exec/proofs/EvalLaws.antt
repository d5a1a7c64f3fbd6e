-- Values of expressions, of lists of expressions and of calls, as the domain grows.
use Rattle.std.proofs.Common.{◌≡◌, ℕ, ◌+◌, ◌<◌, ◌≤◌, Bool, true, false, List, [], ◌∷◌, ◌++◌, length, map, get_or, take, ap, ap₂, refl, sym, subst, ◌∙◌, arith, All, Option, Some, None}
use Rattle.std.specs.Prelude.{slice_index_or}
use Rattle.std.proofs.lemmas.List.{length-map, map-append, take_more, take_all}
use Rattle.std.proofs.Math.Seq.{take-append_seam}
use Rattle.std.proofs.lemmas.List.Elements.{All-nil, All-cons, All-append}
use Rattle.design_core.specs.declared.tree.DExpr.{DExpr}
use Rattle.design_core.specs.declared.tree.DNode.TheVariants as node
use Rattle.design_core.specs.declared.tree.DFunction.{DFunction}
use Rattle.design_core.specs.declared.tree.DLocal.{DLocal}
use Rattle.design_core.specs.Core.{Assignment, St, Term, exec, entered, value, values}
use Rattle.design_core.specs.Formed.{IsFormed, IsFormedOf, is_vector, of_kind}
use Rattle.design_core.specs.Terms.{lengths, passed, stmt, term}
use Rattle.design_core.proofs.TermLaws.{term_call}
use Rattle.tree_parts.specs.Parts.{IsFormedFunction, operands_of}
use Rattle.tree_parts.proofs.OperandLaws.{operands_call}
use Rattle.tree_parts.proofs.PartLaws.{formed_call, formed_function}
use Rattle.value_domain.specs.declared.parts.Word.{Word}
use Rattle.value_domain.specs.Meaning.{Meaning, Stands, Keeps}
use Rattle.value_domain.specs.Words.{IsWord}
use Rattle.stmt_exec.specs.State.{IsFrame, IsLike, Standing, assignment, expr_value, size_in, size_for}
use Rattle.stmt_exec.specs.Runs.{AreValues, AreWorth, CanRun, Follows, called}
use Rattle.stmt_exec.proofs.DomainLaws as d
use Rattle.stmt_exec.proofs.StandingLaws as s

values_passed : (size : ℕ → ℕ) (es : List DExpr) (σ : Assignment) (λs : List (List Bool)) → values (passed (map (term size) es)) σ λs ≡ map (λ (e : DExpr). value (term size e) σ λs) es
values_passed size [] σ λs = refl
values_passed size (e ∷ es) σ λs = ap (λ vs. value (term size e) σ λs ∷ vs) (values_passed size es σ λs)

module _ {S V : Type 0} (m : Meaning S V) where
  pub values_later : (d0 d1 : S) (signals locals : List V) → Keeps m d0 d1 → AreValues m d0 signals locals → AreValues m d1 signals locals
  values_later d0 d1 signals locals k h = record { signals_are = d.kept_all m d0 d1 signals k h.signals_are; locals_are = d.kept_all m d0 d1 locals k h.locals_are }

  pub value_same : (d0 d1 : S) (signals locals : List V) (e : DExpr) (v : ℕ → Bool) → Keeps m d0 d1 → AreValues m d0 signals locals → expr_value m d1 signals locals e v ≡ expr_value m d0 signals locals e v
  value_same d0 d1 signals locals e v k h =
      ap₂ (λ (x y : List (List Bool)). value (term (size_in (map m.width signals)) e) (assignment x) y) (d.kept_reads m d0 d1 v signals k h.signals_are) (d.kept_reads m d0 d1 v locals k h.locals_are)

  pub values_same : (d0 d1 : S) (signals locals : List V) (es : List DExpr) (v : ℕ → Bool) → Keeps m d0 d1 → AreValues m d0 signals locals
      → map (λ (e : DExpr). expr_value m d1 signals locals e v) es ≡ map (λ (e : DExpr). expr_value m d0 signals locals e v) es
  values_same d0 d1 signals locals [] v k h = refl
  values_same d0 d1 signals locals (e ∷ es) v k h = ap₂ (λ x xs. x ∷ xs) (value_same d0 d1 signals locals e v k h) (values_same d0 d1 signals locals es v k h)

  -- a value made of values that were read before
  pub stands_back : (d0 d1 d2 : S) (signals locals : List V) (e : DExpr) (r : V) → Keeps m d0 d1 → AreValues m d0 signals locals
      → Stands m d2 r e.length (expr_value m d1 signals locals e) → Stands m d2 r e.length (expr_value m d0 signals locals e)
  stands_back d0 d1 d2 signals locals e r k h s = record { is_one = s.is_one; wide = s.wide; reads_as = λ v. s.reads_as v ∙ value_same d0 d1 signals locals e v k h }

  pub worth_here : (d0 d1 : S) (signals locals : List V) (es : List DExpr) (ws : List (Word V)) → Keeps m d0 d1 → AreValues m d0 signals locals
      → AreWorth m d0 d1 signals locals es ws → AreWorth m d1 d1 signals locals es ws
  worth_here d0 d1 signals locals es ws k h w = record { are = w.are; long = w.long; stand = λ v. w.stand v ∙ sym (values_same d0 d1 signals locals es v k h) }

  pub worth_none : (d0 d1 : S) (signals locals : List V) (es : List DExpr) → AreWorth m d0 d1 signals locals (take 0 es) []
  worth_none d0 d1 signals locals es = record { are = All-nil (IsWord m d1); long = refl; stand = λ v. refl }

  -- the value of one more expression
  pub worth_push : (d0 dn d1 : S) (signals locals : List V) (es : List DExpr) (at : ℕ) (e : DExpr) (x : V) (n : ℕ) (ws more : List (Word V)) → at < length es → get_or es at e ≡ e → is_vector e.length ≡ true → n ≡ e.length
      → Keeps m d0 dn → AreValues m d0 signals locals → Keeps m dn d1 → AreWorth m d0 dn signals locals (take at es) ws
      → Stands m d1 x e.length (expr_value m dn signals locals e) → more ≡ ws ++ (record { value = x; length = n }) ∷ []
      → AreWorth m d0 d1 signals locals (take (at + 1) es) more
  worth_push d0 dn d1 signals locals es at e x n ws more lt is vec same k h l w st p =
      let t : take (at + 1) es ≡ take at es ++ e ∷ [] = take_more es at e lt ∙ ap (λ y. take at es ++ y ∷ []) is in
      let back = stands_back d0 dn d1 signals locals e x k h st in
      s.listed_same m d1 more (map (λ (y : DExpr). y.length) (take at es) ++ n ∷ []) (map (λ (y : DExpr). y.length) (take (at + 1) es))
      (λ v. map (λ (y : DExpr). expr_value m d0 signals locals y v) (take at es) ++ expr_value m d0 signals locals e v ∷ [])
      (λ v. map (λ (y : DExpr). expr_value m d0 signals locals y v) (take (at + 1) es))
      (ap (λ q. map (λ (y : DExpr). y.length) (take at es) ++ q ∷ []) same ∙ sym (map-append (λ (y : DExpr). y.length) (take at es) (e ∷ [])) ∙ ap (map (λ (y : DExpr). y.length)) (sym t))
      (λ v. sym (map-append (λ (y : DExpr). expr_value m d0 signals locals y v) (take at es) (e ∷ [])) ∙ ap (map (λ (y : DExpr). expr_value m d0 signals locals y v)) (sym t))
      (s.listed_push m dn d1 ws more (map (λ (y : DExpr). y.length) (take at es)) (λ v. map (λ (y : DExpr). expr_value m d0 signals locals y v) (take at es))
      (record { value = x; length = n }) (expr_value m d0 signals locals e) w l
      (subst (λ q. Stands m d1 x q (expr_value m d0 signals locals e)) (sym same) back) (subst (λ q. 1 ≤ q) (sym same) (s.vector_some e.length vec)) p)

  pub worth_end : (d0 d1 : S) (signals locals : List V) (es : List DExpr) (at : ℕ) (ws : List (Word V)) → length es ≤ at → AreWorth m d0 d1 signals locals (take at es) ws → AreWorth m d0 d1 signals locals es ws
  worth_end d0 d1 signals locals es at ws le w = subst (λ l. AreWorth m d0 d1 signals locals l ws) (take_all at es le) w

  -- a call is worth what its function gives for its arguments
  pub call_made : (d0 d1 d2 : S) (signals locals : List V) (e : DExpr) (f : DFunction) (es : List DExpr) (ws : List (Word V)) (r : V) → e.node ≡ node.Call f es
      → IsFormed (map m.width signals) (map m.width locals) e → Keeps m d0 d1 → AreValues m d0 signals locals → AreWorth m d0 d1 signals locals (operands_of e) ws
      → Stands m d2 r f.length (called m d1 signals f ws) → Stands m d2 r e.length (expr_value m d0 signals locals e)
  call_made d0 d1 d2 signals locals e f es ws r is formed k h w s =
      let size = size_in (map m.width signals) in
      let parts = operands_call e f es is in
      record {
        is_one = s.is_one;
        wide = s.wide ∙ (formed_call (map m.width signals) (map m.width locals) e f es is formed).1.0;
        reads_as = λ v. s.reads_as v
            ∙ ap₂ (λ (σ : Assignment) (vs : List (List Bool)). slice_index_or (exec (stmt size f.body) (record { now = σ; later = σ; locals = entered f.length (lengths f.inputs) (lengths f.locals) vs })).locals 0 [])
            (ap assignment (d.kept_reads m d0 d1 v signals k h.signals_are))
            (w.stand v ∙ ap (map (λ (y : DExpr). expr_value m d0 signals locals y v)) parts ∙ sym (values_passed size es (assignment (map (m.reads d0 v) signals)) (map (m.reads d0 v) locals)))
            ∙ sym (ap (λ (x : Term). value x (assignment (map (m.reads d0 v) signals)) (map (m.reads d0 v) locals)) (term_call size e f es is));
      }

  pub arguments_many : (d0 d1 : S) (signals locals : List V) (e : DExpr) (f : DFunction) (es : List DExpr) (ws : List (Word V)) → e.node ≡ node.Call f es
      → IsFormed (map m.width signals) (map m.width locals) e → AreWorth m d0 d1 signals locals (operands_of e) ws → length ws ≡ length f.inputs
  arguments_many d0 d1 signals locals e f es ws is formed w =
      sym (length-map ws (λ (x : Word V). x.length)) ∙ ap length w.long ∙ length-map (operands_of e) (λ (y : DExpr). y.length) ∙ ap length (operands_call e f es is)
      ∙ (formed_call (map m.width signals) (map m.width locals) e f es is formed).1.1

  vectors_most : (ns : List ℕ) → All (λ n. is_vector n ≡ true) ns → All (λ n. n ≤ 65536) ns
  vectors_most ns h = λ i e l. s.vector_most (get_or ns i e) (h i e l)

  -- a function's body can be run on its locals
  pub inside_frame : (d : S) (signals all none : List V) (ls : List ℕ) (lists : (ℕ → Bool) → List (List Bool)) → none ≡ [] → All (m.is_value d) signals → Standing m d all ls lists → All (λ n. is_vector n ≡ true) ls
      → IsFrame m d true signals all none
  inside_frame d signals all none ls lists is h s fit = record {
    outer_are = h;
    now_are = s.are;
    next_are = subst (All (m.is_value d)) (sym is) (All-nil (m.is_value d));
    most = subst (All (λ n. n ≤ 65536)) (sym s.wide) (vectors_most ls fit);
    alike = λ i. (let e : true ≡ false = i in cc);
  }

  pub inside_runs : (d : S) (signals all : List V) (f : DFunction) (lists : (ℕ → Bool) → List (List Bool)) → IsFormedFunction (map m.width signals) f
      → Standing m d all (f.length ∷ (lengths f.inputs ++ lengths f.locals)) lists → CanRun m true signals all f.body
  inside_runs d signals all f lists formed s = record {
    kinds = of_kind true;
    formed = subst (λ ls. IsFormedOf (map m.width signals) ls true (of_kind true) f.body) (sym s.wide) (formed_function (map m.width signals) f formed).1.1.1;
    blocks = λ i b e. e;
  }

  pub function_vectors : (vs : List ℕ) (f : DFunction) → IsFormedFunction vs f → All (λ n. is_vector n ≡ true) (f.length ∷ (lengths f.inputs ++ lengths f.locals))
  function_vectors vs f formed =
      let p = formed_function vs f formed in
      All-cons (λ n. is_vector n ≡ true) f.length (lengths f.inputs ++ lengths f.locals) p.0 (All-append (λ n. is_vector n ≡ true) (lengths f.inputs) (lengths f.locals) p.1.0 p.1.1.0)

  -- the locals as a call begins
  pub locals_of_call : (d0 d1 : S) (all : List V) (f : DFunction) (ins rest : List DLocal) (arguments : List (Word V)) → ins ≡ f.inputs → rest ≡ f.locals
      → Standing m d1 all (f.length ∷ (lengths ins ++ lengths rest)) (λ v. entered f.length (lengths ins) (lengths rest) (map (λ (w : Word V). m.reads d0 v w.value) arguments))
      → Standing m d1 all (f.length ∷ (lengths f.inputs ++ lengths f.locals)) (λ v. entered f.length (lengths f.inputs) (lengths f.locals) (map (λ (w : Word V). m.reads d0 v w.value) arguments))
  locals_of_call d0 d1 all f ins rest arguments i r h = s.standing_same m d1 all (f.length ∷ (lengths ins ++ lengths rest)) (f.length ∷ (lengths f.inputs ++ lengths f.locals))
      (λ v. entered f.length (lengths ins) (lengths rest) (map (λ (w : Word V). m.reads d0 v w.value) arguments))
      (λ v. entered f.length (lengths f.inputs) (lengths f.locals) (map (λ (w : Word V). m.reads d0 v w.value) arguments))
      (ap₂ (λ (x y : List DLocal). f.length ∷ (lengths x ++ lengths y)) i r)
      (λ v. ap₂ (λ (x y : List DLocal). entered f.length (lengths x) (lengths y) (map (λ (w : Word V). m.reads d0 v w.value) arguments)) i r) h

  -- what is written back to a list of as many
  pub written_back : (n : ℕ) (new now rest : List V) → map m.width new ≡ map m.width now → length now ≡ n → take n (new ++ rest) ≡ new
  written_back n new now rest e long =
      let a = length-map new m.width in
      let b = length-map now m.width in
      let c = ap length e in
      let same : length new ≡ n = omega (arith, a, b, c, long) in
      ap (λ k. take k (new ++ rest)) (sym same) ∙ take-append_seam new rest

  -- what a function leaves in its first local is its result
  pub result_made : (d0 d1 d2 d3 : S) (signals all none after none2 : List V) (f : DFunction) (arguments : List (Word V)) (guard : Option V) (r : V) → guard ≡ None → All (m.is_value d0) signals → Keeps m d0 d1 → All (IsWord m d0) arguments
      → Standing m d1 all (f.length ∷ (lengths f.inputs ++ lengths f.locals)) (λ v. entered f.length (lengths f.inputs) (lengths f.locals) (map (λ (w : Word V). m.reads d0 v w.value) arguments))
      → IsLike m d2 true signals after none2 all
      → Follows m d1 d2 guard true signals all none after none2 (stmt (size_for m true signals all) f.body)
      → Stands m d3 r (slice_index_or (map m.width after) 0 0) (λ v. slice_index_or (map (m.reads d2 v) after) 0 [])
      → Stands m d3 r f.length (called m d0 signals f arguments)
  result_made d0 d1 d2 d3 signals all none after none2 f arguments None r g h k are s like follows st = record {
    is_one = st.is_one;
    wide = st.wide ∙ ap (λ l. slice_index_or l 0 0) (like.now_wide ∙ s.wide);
    reads_as = λ v. st.reads_as v
        ∙ ap (λ (t : St). slice_index_or t.locals 0 []) (follows v)
        ∙ ap₂ (λ (σ : Assignment) (vs : List (List Bool)). slice_index_or (exec (stmt (size_in (map m.width signals)) f.body) (record { now = σ; later = σ; locals = vs })).locals 0 [])
        (ap assignment (d.kept_reads m d0 d1 v signals k h)) (s.stand v);
  }
  result_made d0 d1 d2 d3 signals all none after none2 f arguments (Some x) r g h k are s like follows st = cc
