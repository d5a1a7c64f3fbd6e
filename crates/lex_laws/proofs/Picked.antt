-- The walk over a conditional.
use Rattle.std.proofs.Common.{◌≡◌, ℕ, Bool, true, false, ◌&&◌, ◌||◌, ◌==◌, not, Some, is_some, List, [], ◌∷◌, ◌++◌, refl, ap, sym, ◌∙◌, subst}
use Rattle.bits_core.specs.declared.names.File.{File}
use Rattle.vl_lex.specs.declared.gate.Halt.{Halt}
use Rattle.vl_lex.specs.declared.branches.Branch.{Branch}
use Rattle.vl_lex.specs.declared.directives.Directive.{Directive}
use Rattle.vl_lex.specs.declared.directives.Directive.TheVariants as d
use Rattle.vl_lex.specs.Lexed.{Placed}
use Rattle.vl_lex.specs.Gate.{Reached}
use Rattle.vl_lex.specs.Macros.{Table, directive_of, directive_name, is_directive}
use Rattle.vl_lex.specs.Walk.{SBranches, SState, Branched, opened, below, next_of, next_branch, closed_of, closed, is_name_kind, is_branch_word, branch_turn, directive_step, step, walked}
use Rattle.vl_lex.proofs.Tops.{top_of, below_of}
use Rattle.lex_laws.specs.Branches.{IsDirective, IsOther, IsNamed, is_if, IsHead, truth, is_true, Nested, nested_none, nested_token, nested_whole, Further, further_none, further_elsif, further_else, Picks, this_branch, elsif_branch, else_branch, no_branch, Picked, kept_text, true_branch}

-- one branch more, the innermost
abbrev with_branch : List Branch → Branch → Bool → SBranches
with_branch stack b active = record { stack = stack ++ b ∷ []; active = active }

abbrev next_after : Branch → Bool → Bool → Branch
next_after b cond last = record { outer = b.outer; seen = b.seen || cond; last = last }

next_is : (stack : List Branch) (b : Branch) (active cond last : Bool) → b.last ≡ false
    → next_branch (with_branch stack b active) cond last ≡ Some (with_branch stack (next_after b cond last) (b.outer && (not b.seen && cond)))
unfolding next_branch
next_is stack b active cond last may =
    ap (λ z. next_of z (below (stack ++ b ∷ [])) cond last) (top_of (stack ++ b ∷ []) stack b refl)
    ∙ (ap (λ z. next_of (Some b) z cond last) (below_of (stack ++ b ∷ []) stack b refl) ∙ rw may refl)

closed_is : (stack : List Branch) (b : Branch) (active : Bool) → closed (with_branch stack b active) ≡ Some (record { stack = stack; active = b.outer })
unfolding closed
closed_is stack b active =
    ap (λ z. closed_of z (below (stack ++ b ∷ []))) (top_of (stack ++ b ∷ []) stack b refl) ∙ ap (λ z. closed_of (Some b) z) (below_of (stack ++ b ∷ []) stack b refl)

head_turn : (dir : Directive) (bs : SBranches) (table : Table) (row : ℕ) (n : Placed) (ts : List Placed) → is_if dir ≡ true → (n.row == row && is_name_kind n.token.kind) ≡ true
    → branch_turn dir bs table row (n ∷ ts) ≡ Some (record { branches = opened bs (truth dir (is_some (table n.token.text))); more = 1 })
unfolding branch_turn
head_turn d.IfDef bs table row n ts is named = rw named refl
head_turn d.IfNdef bs table row n ts is named = rw named refl
head_turn _ bs table row n ts is named = absurd (cc)

if_is_branch : (dir : Directive) → is_if dir ≡ true → is_branch_word dir ≡ true
if_is_branch d.IfDef is = refl
if_is_branch d.IfNdef is = refl
if_is_branch _ is = absurd (cc)

elsif_turn : (stack : List Branch) (b : Branch) (active : Bool) (table : Table) (row : ℕ) (n : Placed) (ts : List Placed) → b.last ≡ false → (n.row == row && is_name_kind n.token.kind) ≡ true
    → branch_turn d.ElsIf (with_branch stack b active) table row (n ∷ ts)
    ≡ Some (record { branches = with_branch stack (next_after b (is_some (table n.token.text)) false) (b.outer && (not b.seen && is_some (table n.token.text))); more = 1 })
unfolding branch_turn
elsif_turn stack b active table row n ts may named = rw (named, next_is stack b active (is_some (table n.token.text)) false may) refl

else_turn : (stack : List Branch) (b : Branch) (active : Bool) (table : Table) (row : ℕ) (ts : List Placed) → b.last ≡ false
    → branch_turn d.Else (with_branch stack b active) table row ts ≡ Some (record { branches = with_branch stack (next_after b true true) (b.outer && (not b.seen && true)); more = 0 })
unfolding branch_turn
else_turn stack b active table row ts may = rw (next_is stack b active true true may) refl

endif_turn : (stack : List Branch) (b : Branch) (active : Bool) (table : Table) (row : ℕ) (ts : List Placed)
    → branch_turn d.EndIf (with_branch stack b active) table row ts ≡ Some (record { branches = record { stack = stack; active = b.outer }; more = 0 })
unfolding branch_turn
endif_turn stack b active table row ts = rw (closed_is stack b active) refl

no_more : (o s c : Bool) → (o && not s) ≡ false → (o && (not s && c)) ≡ false
no_more false s c h = refl
no_more true true c h = refl
no_more true false c h = absurd (cc)

still_passed : (o s c : Bool) → (o && not s) ≡ false → (o && not (s || c)) ≡ false
still_passed false s c h = refl
still_passed true true c h = refl
still_passed true false c h = absurd (cc)

and_false : (a c : Bool) → a ≡ false → (a && c) ≡ false
and_false a c h = rw h refl

module _ (levels : ℕ) (files : List File) (inner : ℕ → SState → Reached SState) (end : Halt) where
  abbrev walk : SBranches → SState → List Placed → Reached SState
  walk bs s ts = walked levels files inner end 0 bs s ts

  -- a word of a conditional
  turns : (bs : SBranches) (s : SState) (t : Placed) (ts : List Placed) (b : Branched) → is_directive t.token.kind ≡ true → is_branch_word (directive_of (directive_name t.token)) ≡ true
      → branch_turn (directive_of (directive_name t.token)) bs s.table t.row ts ≡ Some b → walk bs s (t ∷ ts) ≡ walked levels files inner end b.more b.branches s ts
  unfolding walked step directive_step
  turns bs s t ts b is word turn = rw (is, word, turn) refl

  past_name : (bs : SBranches) (s : SState) (n : Placed) (ts : List Placed) → walked levels files inner end 1 bs s (n ∷ ts) ≡ walk bs s ts
  unfolding walked
  past_name bs s n ts = refl

  other_directive : (k w : Bool) (bs : SBranches) (s : SState) (t : Placed) (ts : List Placed) → bs.active ≡ false → is_directive t.token.kind ≡ k → is_branch_word (directive_of (directive_name t.token)) ≡ w → (k && w) ≡ false
      → walk bs s (t ∷ ts) ≡ walk bs s ts
  unfolding walked step directive_step
  other_directive true true bs s t ts off is word not_so = absurd (cc)
  other_directive true false bs s t ts off is word not_so = rw (is, word, off) refl
  other_directive false w bs s t ts off is word not_so = rw (is, off) refl

  other : (bs : SBranches) (s : SState) (t : Placed) (ts : List Placed) → bs.active ≡ false → IsOther t → walk bs s (t ∷ ts) ≡ walk bs s ts
  other bs s t ts off not_so = other_directive (is_directive t.token.kind) (is_branch_word (directive_of (directive_name t.token))) bs s t ts off refl refl not_so

  head : (bs : SBranches) (s : SState) (t n : Placed) (ts : List Placed) → IsHead t n → walk bs s (t ∷ n ∷ ts) ≡ walk (opened bs (is_true s.table t n)) s ts
  head bs s t n ts h =
      turns bs s t (n ∷ ts) (record { branches = opened bs (is_true s.table t n); more = 1 }) h.directive (if_is_branch _ h.word) (head_turn (directive_of (directive_name t.token)) bs s.table t.row n ts h.word h.name)
      ∙ past_name (opened bs (is_true s.table t n)) s n ts

  elsif : (stack : List Branch) (b : Branch) (active : Bool) (s : SState) (t n : Placed) (ts : List Placed) → b.last ≡ false → IsDirective d.ElsIf t → IsNamed t n
      → walk (with_branch stack b active) s (t ∷ n ∷ ts) ≡ walk (with_branch stack (next_after b (is_some (s.table n.token.text)) false) (b.outer && (not b.seen && is_some (s.table n.token.text)))) s ts
  elsif stack b active s t n ts may is named =
      let after = with_branch stack (next_after b (is_some (s.table n.token.text)) false) (b.outer && (not b.seen && is_some (s.table n.token.text))) in
      turns (with_branch stack b active) s t (n ∷ ts) (record { branches = after; more = 1 }) is.0 (ap is_branch_word is.1)
      (ap (λ z. branch_turn z (with_branch stack b active) s.table t.row (n ∷ ts)) is.1 ∙ elsif_turn stack b active s.table t.row n ts may named)
      ∙ past_name after s n ts

  otherwise : (stack : List Branch) (b : Branch) (active : Bool) (s : SState) (t : Placed) (ts : List Placed) → b.last ≡ false → IsDirective d.Else t
      → walk (with_branch stack b active) s (t ∷ ts) ≡ walk (with_branch stack (next_after b true true) (b.outer && (not b.seen && true))) s ts
  otherwise stack b active s t ts may is =
      turns (with_branch stack b active) s t ts (record { branches = with_branch stack (next_after b true true) (b.outer && (not b.seen && true)); more = 0 }) is.0 (ap is_branch_word is.1)
      (ap (λ z. branch_turn z (with_branch stack b active) s.table t.row ts) is.1 ∙ else_turn stack b active s.table t.row ts may)

  endif : (stack : List Branch) (b : Branch) (active : Bool) (s : SState) (t : Placed) (ts : List Placed) → IsDirective d.EndIf t
      → walk (with_branch stack b active) s (t ∷ ts) ≡ walk (record { stack = stack; active = b.outer }) s ts
  endif stack b active s t ts is =
      turns (with_branch stack b active) s t ts (record { branches = record { stack = stack; active = b.outer }; more = 0 }) is.0 (ap is_branch_word is.1)
      (ap (λ z. branch_turn z (with_branch stack b active) s.table t.row ts) is.1 ∙ endif_turn stack b active s.table t.row ts)

  now_off : (stack : List Branch) (b : Branch) (active : Bool) (s : SState) (ts : List Placed) → active ≡ false → walk (with_branch stack b active) s ts ≡ walk (with_branch stack b false) s ts
  now_off stack b active s ts off = ap (λ z. walk (with_branch stack b z) s ts) off

  mutual
    -- text that is not kept changes nothing
    pub skip_nested : {ts rest : List Placed} → Nested ts rest → (bs : SBranches) (s : SState) → bs.active ≡ false → walk bs s ts ≡ walk bs s rest
    skip_nested nested_none bs s off = refl
    skip_nested (nested_token {t = t} {ts = ts} not_so more) bs s off = other bs s t ts off not_so ∙ skip_nested more bs s off
    skip_nested (nested_whole {t = t} {n = n} {ts = ts} {further = further} h text branches more) bs s off =
        head bs s t n ts h
        ∙ (skip_nested text (opened bs (is_true s.table t n)) s (and_false bs.active (is_true s.table t n) off)
        ∙ (now_off bs.stack (record { outer = bs.active; seen = is_true s.table t n; last = false }) (bs.active && is_true s.table t n) s further (and_false bs.active (is_true s.table t n) off)
        ∙ (skip_further branches bs.stack (record { outer = bs.active; seen = is_true s.table t n; last = false }) s (and_false bs.active (not (is_true s.table t n)) off) (λ e. refl)
        ∙ skip_nested more bs s off)))

    -- nor do further branches behind a true one, or in text that is not kept
    pub skip_further : {may : Bool} {ts rest : List Placed} → Further may ts rest → (stack : List Branch) (b : Branch) (s : SState) → (b.outer && not b.seen) ≡ false → (may ≡ true → b.last ≡ false)
        → walk (with_branch stack b false) s ts ≡ walk (record { stack = stack; active = b.outer }) s rest
    skip_further (further_none {t = t} {rest = rest} is) stack b s passed may = endif stack b false s t rest is
    skip_further (further_elsif {t = t} {n = n} {ts = ts} {further = further} is named text branches) stack b s passed may =
        let c = is_some (s.table n.token.text) in
        let off : (b.outer && (not b.seen && is_some (s.table n.token.text))) ≡ false = no_more b.outer b.seen c passed in
        elsif stack b false s t n ts (may refl) is named
        ∙ (skip_nested text (with_branch stack (next_after b c false) (b.outer && (not b.seen && c))) s off
        ∙ (now_off stack (next_after b c false) (b.outer && (not b.seen && c)) s further off
        ∙ skip_further branches stack (next_after b c false) s (still_passed b.outer b.seen c passed) (λ e. refl)))
    skip_further (further_else {t = t} {ts = ts} {further = further} is text branches) stack b s passed may =
        let off : (b.outer && (not b.seen && true)) ≡ false = no_more b.outer b.seen true passed in
        otherwise stack b false s t ts (may refl) is
        ∙ (skip_nested text (with_branch stack (next_after b true true) (b.outer && (not b.seen && true))) s off
        ∙ (now_off stack (next_after b true true) (b.outer && (not b.seen && true)) s further off
        ∙ skip_further branches stack (next_after b true true) s (still_passed b.outer b.seen true passed) (λ e. absurd (cc))))

  -- a branch in text that is kept, before a true one was seen
  abbrev unseen : Bool → Branch
  unseen cond = record { outer = true; seen = cond; last = false }

  picks : {table : Table} {cond : Bool} {ts picked : List Placed} {may : Bool} → Picks table cond ts picked may → (stack : List Branch) (s : SState) → s.table ≡ table
      → walk (with_branch stack (unseen cond) cond) s ts ≡ walk (true_branch stack may) s picked
  picks this_branch stack s same = refl
  picks {table} (elsif_branch {t = t} {n = n} {ts = ts} {inner = rest} text is named more) stack s same =
      skip_nested text (with_branch stack (unseen false) false) s refl
      ∙ (elsif stack (unseen false) false s t n rest refl is named
      ∙ (ap (λ z. walk (with_branch stack (unseen (is_some (z n.token.text))) (is_some (z n.token.text))) s rest) same
      ∙ picks more stack s same))
  picks (else_branch {t = t} {inner = rest} text is) stack s same =
      skip_nested text (with_branch stack (unseen false) false) s refl ∙ otherwise stack (unseen false) false s t rest refl is
  picks (no_branch {t = t} {rest = rest} text is) stack s same =
      skip_nested text (with_branch stack (unseen false) false) s refl
      ∙ (endif stack (unseen false) false s t rest is ∙ sym (endif stack (unseen true) true s t rest is))

  -- up to the first true branch
  pub picked_on : (stack : List Branch) (s : SState) (t n : Placed) (ts picked : List Placed) (may : Bool) → IsHead t n → Picks s.table (is_true s.table t n) ts picked may
      → walk (kept_text stack) s (t ∷ n ∷ ts) ≡ walk (true_branch stack may) s picked
  picked_on stack s t n ts picked may h p = head (kept_text stack) s t n ts h ∙ picks p stack s refl

  -- and behind it
  pub others_off : {may : Bool} {ts rest : List Placed} → Further may ts rest → (stack : List Branch) (s : SState) → walk (true_branch stack may) s ts ≡ walk (kept_text stack) s rest
  others_off (further_none {may = may} {t = t} {rest = rest} is) stack s = endif stack (record { outer = true; seen = true; last = not may }) true s t rest is
  others_off (further_elsif {t = t} {n = n} {ts = ts} is named text branches) stack s =
      elsif stack (unseen true) true s t n ts refl is named
      ∙ (skip_nested text (with_branch stack (unseen true) false) s refl
      ∙ skip_further branches stack (unseen true) s refl (λ e. refl))
  others_off (further_else {t = t} {ts = ts} is text branches) stack s =
      otherwise stack (unseen true) true s t ts refl is
      ∙ (skip_nested text (with_branch stack (next_after (unseen true) true true) false) s refl
      ∙ skip_further branches stack (next_after (unseen true) true true) s refl (λ e. absurd (cc)))

-- each whole conditional has a first true branch, or none
pub some_picked : {may : Bool} {further rest : List Placed} → Further may further rest → may ≡ true → (table : Table) (cond : Bool) (ts : List Placed) → Nested ts further → Picked table cond ts rest
some_picked {further = further} {rest = rest} branches first table true ts text = record { text = ts; further = further; may = true; picks = this_branch; nested = text; ends = subst (λ z. Further z further rest) first branches }
some_picked (further_none {t = t} {rest = rest} is) first table false ts text = record { text = t ∷ rest; further = t ∷ rest; may = true; picks = no_branch text is; nested = nested_none; ends = further_none is }
some_picked (further_elsif {t = t} {n = n} {ts = us} is named inner branches) first table false ts text =
    let p = some_picked branches refl table (is_some (table n.token.text)) us inner in
    record { text = p.text; further = p.further; may = p.may; picks = elsif_branch text is named p.picks; nested = p.nested; ends = p.ends }
some_picked (further_else {t = t} {ts = us} {further = others} is inner branches) first table false ts text =
    record { text = us; further = others; may = false; picks = else_branch text is; nested = inner; ends = branches }
