-- What can be run, and what running it does.
use Rattle.std.specs.Prelude.{◌≡◌, ℕ, Bool, true, false, List, [], map, slice_index_or, sum_by, All, Option}
use Rattle.design_core.specs.declared.tree.DExpr.{DExpr}
use Rattle.design_core.specs.declared.tree.DNode.{out-DNode}
use Rattle.design_core.specs.declared.tree.DLeft.TheOpen.{DNode-F}
use Rattle.design_core.specs.declared.tree.DStmt.{DStmt}
use Rattle.design_core.specs.declared.tree.DLeft.{DLeft}
use Rattle.design_core.specs.declared.tree.DFunction.{DFunction}
use Rattle.design_core.specs.Core.{Stmt, exec, places, entered}
use Rattle.design_core.specs.Terms.{stmt, left, lengths, all_left}
use Rattle.design_core.specs.Formed.{IsFormedOf, left_length}
use Rattle.tree_parts.specs.Parts.{NodeLayer}
use Rattle.value_domain.specs.declared.parts.Word.{Word}
use Rattle.value_domain.specs.Meaning.{Meaning}
use Rattle.value_domain.specs.Words.{IsWord, allows}
use Rattle.value_domain.specs.declared.variable.Start.{Start}
use Rattle.stmt_exec.specs.declared.aims.Target.{Target}
use Rattle.stmt_exec.specs.declared.aims.Spot.{Spot}
use Rattle.stmt_exec.specs.declared.aims.Spot.TheVariants as spot
use Rattle.stmt_exec.specs.State.{signal_widths, local_widths, size_for, size_in, state_in, assignment, signals_in, locals_in, expr_value, ran}
use Rattle.stmt_exec.specs.Aims.{IsTarget, all_places, aim_of}

-- a statement that is formed, with writes of some kinds, in a function with blocking ones alone
pub record IsRunnable (vs ls : List ℕ) (inside : Bool) (s : DStmt) : Type 0 where
  pub kinds : Bool → Bool
  pub formed : IsFormedOf vs ls inside kinds s
  pub blocks : inside ≡ true → (b : Bool) → kinds b ≡ true → b ≡ true

-- a statement that is formed somewhere
pub record CanAsk (vs ls : List ℕ) (s : DStmt) : Type 0 where
  pub inside : Bool
  pub kinds : Bool → Bool
  pub formed : IsFormedOf vs ls inside kinds s

abbrev pub is_call : NodeLayer → Bool
is_call (DNode-F.Const bits) = false
is_call (DNode-F.Signal s) = false
is_call (DNode-F.Local k) = false
is_call (DNode-F.Select base low) = false
is_call (DNode-F.SelectAt base index offset down) = false
is_call (DNode-F.Unary op a) = false
is_call (DNode-F.Binary op a b) = false
is_call (DNode-F.Mux c a b) = false
is_call (DNode-F.Extend a by_sign) = false
is_call (DNode-F.«DNode::Concat» parts) = false
is_call (DNode-F.Repeat count part) = false
is_call (DNode-F.Call function arguments) = true

-- an expression other than a call
unfoldable pub IsPlain : DExpr → Type 0
IsPlain e = is_call (out-DNode e.node) ≡ false

module _ {S V : Type 0} (m : Meaning S V) where
  -- a body that can be run here
  abbrev pub CanRun : Bool → List V → List V → DStmt → Type 0
  CanRun inside outer now = IsRunnable (signal_widths m inside outer now) (local_widths m inside outer now) inside

  -- the values of the signals and of the locals are of the domain
  pub record AreValues (d : S) (signals locals : List V) : Type 0 where
    pub signals_are : All (m.is_value d) signals
    pub locals_are : All (m.is_value d) locals

  -- under each valuation the statement was run where the guard allows it, and nothing changed where it does not
  abbrev pub Follows : S → S → Option V → Bool → List V → List V → List V → List V → List V → Stmt → Type 0
  Follows old new guard inside outer now0 next0 now1 next1 s = (v : ℕ → Bool) →
      state_in m new v inside outer now1 next1 ≡ ran (allows m old v guard) (exec s (state_in m old v inside outer now0 next0)) (state_in m old v inside outer now0 next0)

  -- words of these lengths, which read so
  pub record IsListed (d : S) (words : List (Word V)) (ns : List ℕ) (lists : (ℕ → Bool) → List (List Bool)) : Type 0 where
    pub are : All (IsWord m d) words
    pub long : map (λ (w : Word V). w.length) words ≡ ns
    pub stand : (v : ℕ → Bool) → map (λ (w : Word V). m.reads d v w.value) words ≡ lists v

  -- words that stand for some expressions, where the domain was `from`
  abbrev pub AreWorth : S → S → List V → List V → List DExpr → List (Word V) → Type 0
  AreWorth from d signals locals es words = IsListed d words (map (λ (e : DExpr). e.length) es) (λ v. map (λ (e : DExpr). expr_value m from signals locals e v) es)

  -- what a function gives for some arguments
  abbrev pub called : S → List V → DFunction → List (Word V) → (ℕ → Bool) → List Bool
  called d signals f arguments v = slice_index_or (exec (stmt (size_in (map m.width signals)) f.body) (record {
    now = assignment (map (m.reads d v) signals);
    later = assignment (map (m.reads d v) signals);
    locals = entered f.length (lengths f.inputs) (lengths f.locals) (map (λ (w : Word V). m.reads d v w.value) arguments);
  })).locals 0 []

  -- the targets that a left side names
  pub record IsResolved (old new : S) (inside : Bool) (outer now : List V) (l : DLeft) (targets : List (Target V)) : Type 0 where
    pub are : All (IsTarget m (map m.width now) new) targets
    pub bits : sum_by (λ (t : Target V). t.length) targets ≡ left_length (signal_widths m inside outer now) l
    pub names : (v : ℕ → Bool) → all_places inside (map (aim_of m inside (map m.width now) new v) targets)
        ≡ places (left (size_for m inside outer now) l) (assignment (map (m.reads old v) (signals_in inside outer now))) (map (m.reads old v) (locals_in inside outer now))

  -- the targets that the first parts of a concatenation name
  pub record AreResolved (old new : S) (inside : Bool) (outer now : List V) (parts : List DLeft) (targets : List (Target V)) : Type 0 where
    pub are : All (IsTarget m (map m.width now) new) targets
    pub bits : sum_by (λ (t : Target V). t.length) targets ≡ sum_by (left_length (signal_widths m inside outer now)) parts
    pub names : (v : ℕ → Bool) → all_places inside (map (aim_of m inside (map m.width now) new v) targets)
        ≡ places (all_left (map (left (size_for m inside outer now)) parts)) (assignment (map (m.reads old v) (signals_in inside outer now))) (map (m.reads old v) (locals_in inside outer now))

  -- a place given by an index that was read
  pub record IsRead (old new : S) (signals locals : List V) (e : DExpr) (from : Start) (at : Spot V) : Type 0 where
    pub index : Word V
    pub is : at ≡ spot.Variable index from
    pub is_word : IsWord m new index
    pub long : index.length ≡ e.length
    pub reads_as : (v : ℕ → Bool) → m.reads new v index.value ≡ expr_value m old signals locals e v
