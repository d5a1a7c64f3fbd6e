-- What a token of a body gives.
use Rattle.std.proofs.Common.{◌≡◌, ℕ, zero, suc, ◌-◌, ◌<◌, Bool, true, false, Option, Some, None, Err, List, refl, arith}
use Rattle.vl_lex.specs.Lexed.{Seen}
use Rattle.vl_lex.specs.Gate.{SGate, halt_reason, fed}
use Rattle.vl_lex.specs.declared.directives.Directive.{Directive}
use Rattle.vl_lex.specs.declared.directives.Directive.TheVariants as d
use Rattle.vl_lex.specs.Macros.{Table, updated, directive_name, directive_of, of_macro, is_directive, body_of, expansion_fault, marked, body_token, expanded}

pub enters : (depth : ℕ) (table : Table) (implicit : Bool) (t : Seen) (body : List Seen) (g : SGate) → 0 < depth → is_directive t.kind ≡ true → body_of table t ≡ Some body
    → body_token depth table implicit t g ≡ expanded (depth - 1) (updated table (directive_name t) None) implicit body g
unfolding body_token expanded
enters zero table implicit t body g h is there = absurd (omega arith)
enters (suc depth) table implicit t body g h is there = let e : suc depth - 1 ≡ depth = omega arith in rw (e, is, there) refl

pub refuses : (depth : ℕ) (table : Table) (implicit : Bool) (t : Seen) (g : SGate) → (0 < depth → body_of table t ≡ None) → is_directive t.kind ≡ true
    → body_token depth table implicit t g ≡ Err (halt_reason g (expansion_fault t))
unfolding body_token
refuses zero table implicit t g none is = rw is refl
refuses (suc depth) table implicit t g none is = let e : body_of table t ≡ None = none (omega arith) in rw (is, e) refl

pub feeds : (depth : ℕ) (table : Table) (implicit : Bool) (t : Seen) (g : SGate) → is_directive t.kind ≡ false
    → body_token depth table implicit t g ≡ fed g (marked implicit t) g.mode
unfolding body_token
feeds zero table implicit t g is = rw is refl
feeds (suc depth) table implicit t g is = rw is refl

taken_from : (k : Directive) (o : Option (List Seen)) (b : List Seen) → of_macro k o ≡ Some b → o ≡ Some b
taken_from d.Macro o b h = h
taken_from _ o b h = absurd (cc)

pub in_table : (table : Table) (t : Seen) (b : List Seen) → body_of table t ≡ Some b → table (directive_name t) ≡ Some b
unfolding body_of
in_table table t b h = taken_from (directive_of (directive_name t)) (table (directive_name t)) b h
