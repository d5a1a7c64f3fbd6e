-- The bound on how deep macros nest is never met.
use Rattle.std.proofs.Common.{◌≡◌, ℕ, zero, suc, ◌-◌, ◌≤◌, Bool, true, false, inl, inr, if◌then◌else◌, Option, Some, None, Ok, Err, List, [], ◌∷◌, length, refl, ap, sym, ◌∙◌, subst, arith}
use Rattle.std.specs.Str.{bytes_eq}
use Rattle.std.proofs.lemmas.Slice.Eq.{bytes_eq-Decides}
use Rattle.vl_lex.specs.Bytes.{Text}
use Rattle.vl_lex.specs.Lexed.{Seen}
use Rattle.vl_lex.specs.Gate.{SGate, Reached, and_then, fed}
use Rattle.vl_lex.specs.Macros.{Table, updated, directive_name, is_directive, body_of, marked, fold_tokens, body_token, expanded}
use Rattle.vl_lex.specs.Expansion.{Expands, body_ends, goes_on, is_halted, body_goes, body_halts, no_macro, Member, Covers}
use Rattle.vl_lex.proofs.Expands.{in_table, enters, refuses, feeds}
use Rattle.vl_lex.proofs.Runs.{on_if}

without : Text → List Text → List Text
without name [] = []
without name (n ∷ ns) = if bytes_eq name n then without name ns else n ∷ without name ns

no_more : (name : Text) (ns : List Text) → length (without name ns) ≤ length ns
unfolding without
no_more name [] = omega arith
no_more name (n ∷ ns) =
    on_if (λ z. length z ≤ suc (length ns)) (bytes_eq name n) (without name ns) (n ∷ without name ns) (λ e. omega (arith, no_more name ns)) (λ e. omega (arith, no_more name ns))

same_text : (a b : Text) → a ≡ b → bytes_eq a b ≡ true
same_text a b e = (bytes_eq-Decides a b).1 e

fewer : (name : Text) (ns : List Text) → Member name ns → suc (length (without name ns)) ≤ length ns
unfolding without
fewer name [] m = absurd m
fewer name (n ∷ ns) (inl e) = let t = same_text name n e in let k = no_more name ns in rw t (omega arith)
fewer name (n ∷ ns) (inr m) =
    on_if (λ z. suc (length z) ≤ suc (length ns)) (bytes_eq name n) (without name ns) (n ∷ without name ns) (λ e. omega (arith, no_more name ns)) (λ e. omega (arith, fewer name ns m))

stays : (name q : Text) (ns : List Text) → bytes_eq name q ≡ false → Member q ns → Member q (without name ns)
unfolding without
stays name q [] f m = absurd m
stays name q (n ∷ ns) f (inl e) = let t : bytes_eq name n ≡ false = ap (bytes_eq name) (sym e) ∙ f in rw t (inl e)
stays name q (n ∷ ns) f (inr m) = on_if (λ z. Member q z) (bytes_eq name n) (without name ns) (n ∷ without name ns) (λ e. stays name q ns f m) (λ e. inr (stays name q ns f m))

-- inside a macro's body one macro fewer is defined
narrows : (table : Table) (name : Text) (ns : List Text) → Covers table ns → Covers (updated table name None) (without name ns)
narrows table name ns c q body e = go (bytes_eq name q) refl e
  where
    go : (t : Bool) → bytes_eq name q ≡ t → (if t then None else table q) ≡ Some body → Member q (without name ns)
    go true f e = absurd (cc)
    go false f e = stays name q ns f (c q body e)

-- a token of a body, and the tokens behind it
step_plain : (depth : ℕ) (table : Table) (implicit : Bool) (t : Seen) (ts : List Seen) (g : SGate) (o : Reached SGate) → is_directive t.kind ≡ false → fed g (marked implicit t) g.mode ≡ o
    → ((n : SGate) → Expands implicit table ts n (fold_tokens (body_token depth table implicit) ts n)) → Expands implicit table (t ∷ ts) g (fold_tokens (body_token depth table implicit) (t ∷ ts) g)
step_plain depth table implicit t ts g (Ok n) d is more =
    let e : body_token depth table implicit t g ≡ Ok n = feeds depth table implicit t g d ∙ is in
    subst (λ z. Expands implicit table (t ∷ ts) g (and_then z (fold_tokens (body_token depth table implicit) ts))) (sym e) (goes_on d is (more n))
step_plain depth table implicit t ts g (Err x) d is more =
    let e : body_token depth table implicit t g ≡ Err x = feeds depth table implicit t g d ∙ is in
    subst (λ z. Expands implicit table (t ∷ ts) g (and_then z (fold_tokens (body_token depth table implicit) ts))) (sym e) (is_halted d is)

step_body : (depth : ℕ) (table : Table) (implicit : Bool) (t : Seen) (ts body : List Seen) (g : SGate) (o : Reached SGate) → is_directive t.kind ≡ true → body_of table t ≡ Some body
    → body_token depth table implicit t g ≡ o → Expands implicit (updated table (directive_name t) None) body g o
    → ((n : SGate) → Expands implicit table ts n (fold_tokens (body_token depth table implicit) ts n)) → Expands implicit table (t ∷ ts) g (fold_tokens (body_token depth table implicit) (t ∷ ts) g)
step_body depth table implicit t ts body g (Ok n) d b is inner more =
    subst (λ z. Expands implicit table (t ∷ ts) g (and_then z (fold_tokens (body_token depth table implicit) ts))) (sym is) (body_goes d b inner (more n))
step_body depth table implicit t ts body g (Err x) d b is inner more =
    subst (λ z. Expands implicit table (t ∷ ts) g (and_then z (fold_tokens (body_token depth table implicit) ts))) (sym is) (body_halts d b inner)

step_none : (depth : ℕ) (table : Table) (implicit : Bool) (t : Seen) (ts : List Seen) (g : SGate) → is_directive t.kind ≡ true → body_of table t ≡ None
    → Expands implicit table (t ∷ ts) g (fold_tokens (body_token depth table implicit) (t ∷ ts) g)
step_none depth table implicit t ts g d b =
    subst (λ z. Expands implicit table (t ∷ ts) g (and_then z (fold_tokens (body_token depth table implicit) ts))) (sym (refuses depth table implicit t g (λ h. b) d)) (no_macro d b)

-- the bound is at least the number of names
abbrev pub Reaches : ℕ → Type 0
Reaches depth = (table : Table) (names : List Text) (implicit : Bool) (body : List Seen) (g : SGate) → Covers table names → length names ≤ depth → Expands implicit table body g (expanded depth table implicit body g)

any_macro : (depth : ℕ) (table : Table) (names : List Text) (implicit : Bool) (t : Seen) (ts : List Seen) (g : SGate) (o : Option (List Seen)) → Covers table names → length names ≤ depth → is_directive t.kind ≡ true → body_of table t ≡ o
    → ((small : ℕ) → suc small ≡ depth → Reaches small)
    → ((n : SGate) → Expands implicit table ts n (fold_tokens (body_token depth table implicit) ts n)) → Expands implicit table (t ∷ ts) g (fold_tokens (body_token depth table implicit) (t ∷ ts) g)
any_macro depth table names implicit t ts g None c l d b below more = step_none depth table implicit t ts g d b
any_macro zero table names implicit t ts g (Some body) c l d b below more =
    let m = c (directive_name t) body (in_table table t body b) in absurd (omega (arith, fewer (directive_name t) names m))
any_macro (suc depth) table names implicit t ts g (Some body) c l d b below more =
    let m = c (directive_name t) body (in_table table t body b) in
    let f = fewer (directive_name t) names m in
    let less : suc depth - 1 ≡ depth = omega arith in
    let e : body_token (suc depth) table implicit t g ≡ expanded depth (updated table (directive_name t) None) implicit body g =
    enters (suc depth) table implicit t body g (omega arith) d b ∙ ap (λ n. expanded n (updated table (directive_name t) None) implicit body g) less in
    step_body (suc depth) table implicit t ts body g (expanded depth (updated table (directive_name t) None) implicit body g) d b e
    (below depth refl (updated table (directive_name t) None) (without (directive_name t) names) implicit body g (narrows table (directive_name t) names c) (omega arith)) more

any_token : (depth : ℕ) (table : Table) (names : List Text) (implicit : Bool) (t : Seen) (ts : List Seen) (g : SGate) (k : Bool) → Covers table names → length names ≤ depth → is_directive t.kind ≡ k
    → ((small : ℕ) → suc small ≡ depth → Reaches small)
    → ((n : SGate) → Expands implicit table ts n (fold_tokens (body_token depth table implicit) ts n)) → Expands implicit table (t ∷ ts) g (fold_tokens (body_token depth table implicit) (t ∷ ts) g)
any_token depth table names implicit t ts g true c l d below more = any_macro depth table names implicit t ts g (body_of table t) c l d refl below more
any_token depth table names implicit t ts g false c l d below more = step_plain depth table implicit t ts g (fed g (marked implicit t) g.mode) d refl more

bodies : (depth : ℕ) (table : Table) (names : List Text) (implicit : Bool) (body : List Seen) (g : SGate) → Covers table names → length names ≤ depth → ((small : ℕ) → suc small ≡ depth → Reaches small)
    → Expands implicit table body g (fold_tokens (body_token depth table implicit) body g)
bodies depth table names implicit [] g c l below = body_ends
bodies depth table names implicit (t ∷ ts) g c l below = any_token depth table names implicit t ts g (is_directive t.kind) c l refl below (λ n. bodies depth table names implicit ts n c l below)

pub reaches : (depth : ℕ) → Reaches depth
unfolding expanded
reaches zero table names implicit body g c l = bodies zero table names implicit body g c l (λ small e. absurd (omega arith))
reaches (suc depth) table names implicit body g c l =
    bodies (suc depth) table names implicit body g c l (λ small e. let q : small ≡ depth = omega arith in subst (λ z. Reaches z) (sym q) (reaches depth))
