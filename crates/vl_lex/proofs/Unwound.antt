-- Turns of an expansion: a token of a body, a body that is opened, and the end of one.
use Rattle.std.proofs.Common.{◌≡◌, ℕ, zero, suc, ◌+◌, ◌-◌, ◌<◌, ◌≤◌, Bool, true, false, OnOk, Some, None, Result, Ok, Err, List, [], ◌∷◌, ◌++◌, length, map, drop, reverse, get_or, refl, ap, sym, ◌∙◌, arith}
use Rattle.std.proofs.lemmas.List.{reverse-append, map-append}
use Rattle.vl_tree.specs.declared.tokens.Token.{Token}
use Rattle.vl_lex.specs.declared.calls.Call.{Call}
use Rattle.vl_lex.specs.declared.gate.Halt.{Halt}
use Rattle.vl_lex.specs.Bytes.{Text}
use Rattle.vl_lex.specs.Lexed.{Seen, view}
use Rattle.vl_lex.specs.Gate.{SGate, Reached, and_then, Ends, IsReason, Gives, halt_reason, fed}
use Rattle.vl_lex.specs.Macros.{Table, updated, directive_name, is_directive, body_of, expansion_fault, marked, body_token, expanded}
use Rattle.vl_lex.specs.Calls.{SCall, call_view, calls_view, unwound, table_behind, sum_of, turns_of, turns_left, Turns}
use Rattle.vl_lex.proofs.Gives.{gives_end, ends_as, reason_ends, split_items, none_behind}
use Rattle.vl_lex.proofs.Tables.{restored}
use Rattle.vl_lex.proofs.Expands.{in_table, enters, refuses, feeds}

pub calls_in : (calls : List Call) (c : Call) → calls_view (calls ++ c ∷ []) ≡ call_view c ∷ calls_view calls
calls_in calls c = ap reverse (map-append call_view calls (c ∷ [])) ∙ reverse-append (map call_view calls) (call_view c ∷ [])

then_then : {A B C : Type 0} (o : Reached A) (f : A → Reached B) (k : B → Reached C) → and_then (and_then o f) k ≡ and_then o (λ a. and_then (f a) k)
then_then (Ok a) f k = refl
then_then (Err e) f k = refl

-- a token that is no directive
pub fed_turns : {X : Type 0} (r : Result X Halt) (new g : SGate) (levels : ℕ) (table : Table) (implicit : Bool) (t m : Seen) (cs : List SCall) → is_directive t.kind ≡ false → m ≡ marked implicit t
    → Gives r new (fed g m g.mode) → Turns r (unwound implicit table cs new) (and_then (body_token levels table implicit t g) (unwound implicit table cs))
fed_turns (Ok x) new g levels table implicit t m cs is e ok =
    sym (ap (λ z. and_then z (unwound implicit table cs)) (feeds levels table implicit t g is ∙ (ap (λ z. fed g z g.mode) (sym e) ∙ ok)))
fed_turns (Err x) new g levels table implicit t m cs is e end =
    gives_end x (body_token levels table implicit t g) (unwound implicit table cs) (ends_as x (fed g m g.mode) (body_token levels table implicit t g) (ap (λ z. fed g z g.mode) e ∙ sym (feeds levels table implicit t g is)) end)

pub one_turn : (levels : ℕ) (table : Table) (t : Seen) → is_directive t.kind ≡ false → turns_of levels table t ≡ 1
unfolding turns_of
one_turn zero table t is = refl
one_turn (suc levels) table t is = rw is refl

pub fewer_by_one : {X : Type 0} (r : Result X Halt) (levels : ℕ) (table : Table) (t : Seen) (left : ℕ) → is_directive t.kind ≡ false → OnOk r (left < turns_of levels table t + left)
fewer_by_one (Ok x) levels table t left is = let e = one_turn levels table t is in omega (arith, e)
fewer_by_one (Err e) levels table t left is = tt

-- a directive that ends the walk
pub refused_turns : (e : Halt) (g : SGate) (levels : ℕ) (table : Table) (implicit : Bool) (t : Seen) (cs : List SCall) → is_directive t.kind ≡ true
    → IsReason e (halt_reason g (expansion_fault t)) → (0 < levels → body_of table t ≡ None) → Ends e (and_then (body_token levels table implicit t g) (unwound implicit table cs))
refused_turns e g levels table implicit t cs is reason none =
    gives_end e (body_token levels table implicit t g) (unwound implicit table cs) (reason_ends e _ (body_token levels table implicit t g) reason (refuses levels table implicit t g none is))

two_more : (levels : ℕ) (table : Table) (t : Seen) (body : List Seen) → 0 < levels → is_directive t.kind ≡ true → body_of table t ≡ Some body
    → turns_of levels table t ≡ 2 + sum_of (turns_of (levels - 1) (updated table (directive_name t) None)) body
unfolding turns_of
two_more zero table t body h is there = absurd (omega arith)
two_more (suc levels) table t body h is there = let e : suc levels - 1 ≡ levels = omega arith in rw (e, is, there) refl

-- a body that is opened
module _ (levels : ℕ) (table inner_table : Table) (t : Seen) (name : Text) (body : List Seen) (cs opens : List SCall) (is : is_directive t.kind ≡ true) (there : (0 < levels) × (body_of table t ≡ Some body))
    (gone : inner_table ≡ updated table (directive_name t) None) (called : name ≡ directive_name t) (put : opens ≡ (record { levels = levels - 1; name = name; body = body; behind = body }) ∷ cs) where
  back : updated inner_table name (Some body) ≡ table
  back = ap (λ z. updated inner_table z (Some body)) called ∙ (ap (λ z. updated z (directive_name t) (Some body)) gone ∙ restored table (directive_name t) body (in_table table t body there.1))

  pub opened_turns : (implicit : Bool) (g inner : SGate) → inner ≡ g → unwound implicit inner_table opens inner ≡ and_then (body_token levels table implicit t g) (unwound implicit table cs)
  opened_turns implicit g inner calm =
      ap (λ z. unwound implicit inner_table z inner) put
      ∙ (ap (λ z. and_then (expanded (levels - 1) inner_table implicit body inner) (unwound implicit z cs)) back
      ∙ (ap (λ z. and_then (expanded (levels - 1) z implicit body inner) (unwound implicit table cs)) gone
      ∙ (ap (λ z. and_then (expanded (levels - 1) (updated table (directive_name t) None) implicit body z) (unwound implicit table cs)) calm
      ∙ ap (λ z. and_then z (unwound implicit table cs)) (sym (enters levels table implicit t body g there.0 is there.1)))))

  pub opened_behind : table_behind inner_table opens ≡ table_behind table cs
  opened_behind = ap (table_behind inner_table) put ∙ ap (λ z. table_behind z cs) back

  pub opened_fewer : turns_left inner_table opens < turns_of levels table t + turns_left table cs
  opened_fewer =
      let two : turns_of levels table t ≡ 2 + sum_of (turns_of (levels - 1) inner_table) body = two_more levels table t body there.0 is there.1 ∙ ap (λ z. 2 + sum_of (turns_of (levels - 1) z) body) (sym gone) in
      let open_ones : turns_left inner_table opens ≡ 1 + sum_of (turns_of (levels - 1) inner_table) body + turns_left (updated inner_table name (Some body)) cs = ap (turns_left inner_table) put in
      let others : turns_left (updated inner_table name (Some body)) cs ≡ turns_left table cs = ap (λ z. turns_left z cs) back in
      omega (arith, two, open_ones, others)

at_token : (levels : ℕ) (table : Table) (implicit : Bool) (t : Seen) (ts : List Seen) (g : SGate) → expanded levels table implicit (t ∷ ts) g ≡ and_then (body_token levels table implicit t g) (expanded levels table implicit ts)
unfolding expanded
at_token levels table implicit t ts g = refl

at_end : (levels : ℕ) (table : Table) (implicit : Bool) (g : SGate) → expanded levels table implicit [] g ≡ Ok g
unfolding expanded
at_end levels table implicit g = refl

-- the innermost body at one of its tokens, and behind it
module _ (levels : ℕ) (table : Table) (name : Text) (xs : List Token) (at : ℕ) (d t : Token) (cs behind : List SCall) (within : at < length xs) (here : get_or xs at d ≡ t)
    (put : behind ≡ (record { levels = levels; name = name; body = map view xs; behind = map view (drop (at + 1) xs) }) ∷ cs) where
  items : map view (drop at xs) ≡ view t ∷ map view (drop (at + 1) xs)
  items = ap (map view) (split_items xs at d t within here)

  pub token_unwound : (implicit : Bool) (g : SGate)
      → unwound implicit table ((record { levels = levels; name = name; body = map view xs; behind = map view (drop at xs) }) ∷ cs) g ≡ and_then (body_token levels table implicit (view t) g) (unwound implicit table behind)
  token_unwound implicit g =
      ap (λ z. and_then (expanded levels table implicit z g) (unwound implicit (updated table name (Some (map view xs))) cs)) items
      ∙ (ap (λ z. and_then z (unwound implicit (updated table name (Some (map view xs))) cs)) (at_token levels table implicit (view t) (map view (drop (at + 1) xs)) g)
      ∙ (then_then (body_token levels table implicit (view t) g) (expanded levels table implicit (map view (drop (at + 1) xs))) (unwound implicit (updated table name (Some (map view xs))) cs)
      ∙ ap (λ z. and_then (body_token levels table implicit (view t) g) (unwound implicit table z)) (sym put)))

  pub token_behind : table_behind table behind ≡ table_behind (updated table name (Some (map view xs))) cs
  token_behind = ap (table_behind table) put

  pub token_left : turns_of levels table (view t) + turns_left table behind ≡ turns_left table ((record { levels = levels; name = name; body = map view xs; behind = map view (drop at xs) }) ∷ cs)
  token_left =
      let one : turns_left table behind ≡ 1 + sum_of (turns_of levels table) (map view (drop (at + 1) xs)) + turns_left (updated table name (Some (map view xs))) cs = ap (turns_left table) put in
      let all : sum_of (turns_of levels table) (map view (drop at xs)) ≡ turns_of levels table (view t) + sum_of (turns_of levels table) (map view (drop (at + 1) xs)) = ap (sum_of (turns_of levels table)) items in
      omega (arith, one, all)

-- the innermost body at its end
module _ (levels : ℕ) (table next_table : Table) (name : Text) (xs : List Token) (at : ℕ) (cs : List SCall) (over : length xs ≤ at) (put : next_table ≡ updated table name (Some (map view xs))) where
  nothing : map view (drop at xs) ≡ []
  nothing = ap (map view) (none_behind xs at over)

  pub end_unwound : (implicit : Bool) (g : SGate) → unwound implicit next_table cs g ≡ unwound implicit table ((record { levels = levels; name = name; body = map view xs; behind = map view (drop at xs) }) ∷ cs) g
  end_unwound implicit g =
      ap (λ z. unwound implicit z cs g) put
      ∙ (ap (λ z. and_then z (unwound implicit (updated table name (Some (map view xs))) cs)) (sym (at_end levels table implicit g))
      ∙ ap (λ z. and_then (expanded levels table implicit z g) (unwound implicit (updated table name (Some (map view xs))) cs)) (sym nothing))

  pub end_behind : table_behind next_table cs ≡ table_behind (updated table name (Some (map view xs))) cs
  end_behind = ap (λ z. table_behind z cs) put

  pub end_fewer : turns_left next_table cs < turns_left table ((record { levels = levels; name = name; body = map view xs; behind = map view (drop at xs) }) ∷ cs)
  end_fewer = let e : turns_left next_table cs ≡ turns_left (updated table name (Some (map view xs))) cs = ap (λ z. turns_left z cs) put in omega (arith, e)

pub turns_as : {X : Type 0} (r : Result X Halt) (behind p q : Reached SGate) → q ≡ p → Turns r behind p → Turns r behind q
turns_as (Ok x) behind p q e h = h ∙ sym e
turns_as (Err x) behind p q e h = ends_as x p q (sym e) h

-- a token by itself, before any body is open
only_token : (levels : ℕ) (table : Table) (implicit : Bool) (t : Seen) (g : SGate) (calls : List Call) → calls ≡ []
    → and_then (body_token levels table implicit t g) (unwound implicit table (calls_view calls)) ≡ expanded levels table implicit (t ∷ []) g
unfolding expanded
only_token levels table implicit t g calls none = ap (λ z. and_then (body_token levels table implicit t g) (unwound implicit table (calls_view z))) none

pub first_ends : (e : Halt) (levels : ℕ) (table : Table) (implicit : Bool) (t : Seen) (g : SGate) (calls : List Call) → calls ≡ []
    → Ends e (and_then (body_token levels table implicit t g) (unwound implicit table (calls_view calls))) → Ends e (expanded levels table implicit (t ∷ []) g)
first_ends e levels table implicit t g calls none end = ends_as e _ _ (only_token levels table implicit t g calls none) end

pub first_goes : (behind : Reached SGate) (levels : ℕ) (table : Table) (implicit : Bool) (t : Seen) (g : SGate) (calls : List Call) → calls ≡ []
    → behind ≡ and_then (body_token levels table implicit t g) (unwound implicit table (calls_view calls)) → behind ≡ expanded levels table implicit (t ∷ []) g
first_goes behind levels table implicit t g calls none same = same ∙ only_token levels table implicit t g calls none

pub first_behind : (table : Table) (calls : List Call) → calls ≡ [] → table_behind table (calls_view calls) ≡ table
first_behind table calls none = ap (λ z. table_behind table (calls_view z)) none
