-- The fault that a walk tells is the lowest of its faults.
use Rattle.std.proofs.Common.{◌≡◌, ℕ, Bool, true, false, List, [], ◌++◌, Option, Some, None, ap, refl, sym, ◌∙◌, if◌then◌else◌}
use Rattle.design_core.specs.declared.operators.Unary.{Unary}
use Rattle.vl_tree.specs.declared.faults.Code.{Code}
use Rattle.vl_size.specs.declared.constant.Const.{Const}
use Rattle.vl_size.specs.declared.operators.SystemFunction.{SystemFunction}
use Rattle.vl_size.specs.declared.operators.SystemFunction.TheVariants as s
use Rattle.vl_size.specs.declared.table.NameKind.TheVariants as kind
use Rattle.vl_size.specs.declared.table.SizeEntry.{SizeEntry}
use Rattle.vl_size.specs.declared.tree.Size.{Size}
use Rattle.vl_size.specs.declared.tree.Sizing.{Sizing}
use Rattle.vl_size.specs.Nodes.{is_kind}
use Rattle.vl_size.specs.Terms.{Term, Terms, Pick, Picks, number, name, call, system, concat, repeat, group, unary, binary, choice, index, range, up, down, whole, pick}
use Rattle.vl_size.specs.Terms as term
use Rattle.vl_const.specs.declared.answers.Answer.{Answer}
use Rattle.vl_const.specs.declared.answers.Joined.{Joined}
use Rattle.vl_tree.specs.declared.faults.Code.TheVariants.{NotConstant, WideArithmetic}
use Rattle.vl_const.specs.declared.operators.Work.{Work}
use Rattle.vl_const.specs.Answers.{tested, is_sound, answer, joined, leaf, nothing, unary_made, system_made}
use Rattle.vl_tree.specs.Order.{lower, where_true, lowest, if_any}
use Rattle.vl_tree.proofs.OrderLaws.{lower_none, lower_assoc, both, code}
use Rattle.vl_const.specs.Laws.{part_one, part_two, wide_codes, unary_codes, system_codes, faults, faults_picks, faults_pick, faults_each}
use Rattle.vl_const.specs.Operators.{unary_of, work_of}
use Rattle.vl_const.specs.Scopes.{Meaning}
use Rattle.vl_const.specs.Streams.{first_node, inside, behind, own_size, own_context, part_context}
use Rattle.vl_const.specs.Values.{Values, fault_at, rest_of}
use Rattle.vl_const.specs.Worths.{worth, worth_picks, worth_pick, worths, wide_here}

unary_fault : (op : Option Unary) (wide : Bool) (x : Size) (a : Answer) (fs : List Code) → a.fault ≡ lowest fs → (unary_made op wide x a).fault ≡ lowest (fs ++ unary_codes op wide)
unary_fault None wide x a fs e = sym (lower_none a.fault) ∙ both fs [] a.fault None e refl
unary_fault (Some op) wide x a fs e = both fs (wide_codes wide) a.fault (where_true wide WideArithmetic) e (code (where_true wide WideArithmetic))

system_fault : (f : SystemFunction) (x : Size) (a : Answer) (fs : List Code) → a.fault ≡ lowest fs → (system_made f x a).fault ≡ lowest (fs ++ system_codes f a)
system_fault s.Signed x a fs e = sym (lower_none a.fault) ∙ both fs [] a.fault None e refl
system_fault s.Unsigned x a fs e = sym (lower_none a.fault) ∙ both fs [] a.fault None e refl
system_fault s.CeilingLog x a fs e = both fs (if_any (where_true a.reads NotConstant)) a.fault (where_true a.reads NotConstant) e (code (where_true a.reads NotConstant))

two_codes : (t w : Option Code) → lower t w ≡ lowest (if_any t ++ if_any w)
two_codes t w = both (if_any t) (if_any w) t w (code t) (code w)

-- two operands, and the faults of the operator itself
both_with : (fs gs : List Code) (a b t w : Option Code) → a ≡ lowest fs → b ≡ lowest gs → lower (lower a b) (lower t w) ≡ lowest ((fs ++ gs) ++ (if_any t ++ if_any w))
both_with fs gs a b t w e f = both (fs ++ gs) (if_any t ++ if_any w) (lower a b) (lower t w) (both fs gs a b e f) (two_codes t w)

three : (fs gs hs : List Code) (a b c : Option Code) → a ≡ lowest fs → b ≡ lowest gs → c ≡ lowest hs → lower a (lower b c) ≡ lowest (fs ++ (gs ++ hs))
three fs gs hs a b c e f g = both fs (gs ++ hs) a (lower b c) e (both gs hs b c f g)

abbrev test_of : Work → List Sizing → Answer → Answer → Option Code
test_of op ss a c = tested op (is_sound (first_node (behind (inside ss))).fault c) (own_context (behind (inside ss))).signed a c

abbrev faults_one : Meaning → Term → List Sizing → Size → Values → List Code
faults_one m t ss x cs = faults m t (inside ss) (part_context ss x true (inside ss)) cs

abbrev faults_two : Meaning → Term → List Sizing → Size → Values → List Code
faults_two m t ss x cs = faults m t (behind (inside ss)) (part_context ss x false (behind (inside ss))) cs

abbrev third : List Sizing → List Sizing
third ss = behind (behind (inside ss))

one_of : (b : Bool) (v w : List Bool) (r : Bool) → (if b then answer v false None else answer w r None).fault ≡ None
one_of true v w r = refl
one_of false v w r = refl

leaf_sound : (e : Option SizeEntry) (v : Option Const) → (leaf e v).fault ≡ None
leaf_sound None v = refl
leaf_sound (Some e) v = one_of (is_kind e.kind kind.Constant) _ _ _

mutual
  pub fault_is : (m : Meaning) (t : Term) (ss : List Sizing) (x : Size) (cs : Values) → (worth m t ss x cs).0.fault ≡ lowest (faults m t ss x cs)
  fault_is m (number text) ss x cs = refl
  fault_is m (name w ps) ss x cs = fault_picks m w ps ss cs
  fault_is m (call w ts) ss x cs = fault_each m ts (inside ss) cs nothing
  fault_is m (system f a) ss x cs =
      let r = worth m a (inside ss) (own_context (inside ss)) cs in
      system_fault f x r.0 (faults m a (inside ss) (own_context (inside ss)) cs) (fault_is m a (inside ss) (own_context (inside ss)) cs)
  fault_is m (concat ts) ss x cs = fault_each m ts (inside ss) cs nothing
  fault_is m (repeat c ts) ss x cs =
      both (if_any (fault_at cs)) (faults_each m ts (inside ss) (rest_of cs)) (fault_at cs) (worths m ts (inside ss) (rest_of cs) nothing).0.fault (code (fault_at cs))
      (fault_each m ts (inside ss) (rest_of cs) nothing)
  fault_is m (group a) ss x cs = fault_is m a (inside ss) x cs
  fault_is m (unary op a) ss x cs =
      unary_fault (unary_of op) (wide_here ss x) x (part_one m a ss x cs).0 (faults_one m a ss x cs) (fault_is m a (inside ss) (part_context ss x true (inside ss)) cs)
  fault_is m (binary op a c) ss x cs =
      let r = part_one m a ss x cs in
      let q = part_two m c ss x r.1 in
      both_with (faults_one m a ss x cs) (faults_two m c ss x r.1) r.0.fault q.0.fault (test_of (work_of op) ss r.0 q.0) (where_true (wide_here ss x) WideArithmetic)
      (fault_is m a (inside ss) (part_context ss x true (inside ss)) cs) (fault_is m c (behind (inside ss)) (part_context ss x false (behind (inside ss))) r.1)
  fault_is m (choice t a c) ss x cs =
      let p = part_one m t ss x cs in
      let q = part_two m a ss x p.1 in
      let r = worth m c (third ss) (part_context ss x false (third ss)) q.1 in
      three (faults_one m t ss x cs) (faults_two m a ss x p.1) (faults m c (third ss) (part_context ss x false (third ss)) q.1) p.0.fault q.0.fault r.0.fault
      (fault_is m t (inside ss) (part_context ss x true (inside ss)) cs) (fault_is m a (behind (inside ss)) (part_context ss x false (behind (inside ss))) p.1)
      (fault_is m c (third ss) (part_context ss x false (third ss)) q.1)

  pub fault_picks : (m : Meaning) (w : List ℕ) (ps : Picks) (ss : List Sizing) (cs : Values) → (worth_picks m w ps ss cs).0.fault ≡ lowest (faults_picks m ps ss cs)
  fault_picks m w whole ss cs = leaf_sound (m.look w) (m.value w)
  fault_picks m w (pick p ps) ss cs =
      let r = worth_pick m p (inside ss) cs in
      let l = leaf (m.look w) (m.value w) in
      let v = where_true (wide_here ss (own_size ss)) WideArithmetic in
      both (faults_pick m p (inside ss) cs) (if_any v) (lower l.fault r.0.fault) v
      (ap (λ o. lower o r.0.fault) (leaf_sound (m.look w) (m.value w)) ∙ fault_pick m p (inside ss) cs) (code v)

  pub fault_pick : (m : Meaning) (p : Pick) (ss : List Sizing) (cs : Values) → (worth_pick m p ss cs).0.fault ≡ lowest (faults_pick m p ss cs)
  fault_pick m (index a) ss cs = fault_is m a ss (own_context ss) cs
  fault_pick m (range h l) ss cs = two_codes (fault_at cs) (fault_at (rest_of cs))
  fault_pick m (up a w) ss cs =
      let r = worth m a ss (own_context ss) cs in
      both (faults m a ss (own_context ss) cs) (if_any (fault_at r.1)) r.0.fault (fault_at r.1) (fault_is m a ss (own_context ss) cs) (code (fault_at r.1))
  fault_pick m (down a w) ss cs =
      let r = worth m a ss (own_context ss) cs in
      both (faults m a ss (own_context ss) cs) (if_any (fault_at r.1)) r.0.fault (fault_at r.1) (fault_is m a ss (own_context ss) cs) (code (fault_at r.1))

  pub fault_each : (m : Meaning) (ts : Terms) (ss : List Sizing) (cs : Values) (j : Joined) → (worths m ts ss cs j).0.fault ≡ lower j.fault (lowest (faults_each m ts ss cs))
  fault_each m term.none ss cs j = sym (lower_none j.fault)
  fault_each m (term.more t ts) ss cs j =
      let r = worth m t ss (own_context ss) cs in
      let rest = faults_each m ts (behind ss) r.1 in
      fault_each m ts (behind ss) r.1 (joined j (own_size ss).length r.0)
      ∙ lower_assoc j.fault r.0.fault (lowest rest)
      ∙ ap (lower j.fault) (both (faults m t ss (own_context ss) cs) rest r.0.fault (lowest rest) (fault_is m t ss (own_context ss) cs) refl)
