-- What was read after some turns over the parts of a list of tokens.
use Rattle.std.proofs.Common.{◌≡◌, ◌<◌, ◌≤◌, length, length-drop, get_or, Result, Err, arith, ℕ, Bool, true, false, if◌then◌else◌, List, [], ◌∷◌, ◌++◌, refl, ap, sym, ◌∙◌, subst, append_assoc}
use Rattle.std.proofs.Common.{append-nil, ◌+◌, ◌-◌, take, drop}
use Rattle.std.proofs.Math.Seq.{drop-drop, drop-length, take-length}
use Rattle.vl_tree.specs.declared.tokens.Token.{Token}
use Rattle.vl_tree.specs.declared.words.Word.TheVariants as word
use Rattle.vl_tree.specs.declared.modules.Module.{Module}
use Rattle.vl_tree.specs.Words.{word_of, same_word}
use Rattle.vl_grammar.specs.Read.{Tokens}
use Rattle.vl_rules.specs.Modules.{module_form, Stands}
use Rattle.vl_rules.specs.Files.{into_first, cut, Spelled, Breaks}
use Rattle.vl_rules.proofs.Parts.{from_parts, broken}
use Rattle.vl_tree.specs.declared.faults.Stop.{Stop}
use Rattle.vl_tree.specs.declared.faults.Stop.TheVariants as stop
use Rattle.vl_expr.specs.declared.errors.ReadError.{ReadError}
use Rattle.vl_expr.specs.declared.errors.ReadError.TheVariants as error
use Rattle.vl_parse.specs.Sources.{IsSource, NoSource, IsFirst, FirstRefused, Refuses, refusal}

-- the modules spell the parts before the rest
pub record Reads (tokens : Tokens) (ms : List Module) (rest : Tokens) : Type 0 where
  pub front : List Tokens
  pub spelled : Spelled ms front
  pub is : cut tokens ≡ front ++ cut rest

pub reads_none : (tokens : Tokens) → Reads tokens [] tokens
reads_none tokens = record { front = []; spelled = tt; is = refl }

one_more : (ms : List Module) (front : List Tokens) (m : Module) (p : Tokens) → Spelled ms front → Stands module_form m p [] → Spelled (ms ++ m ∷ []) (front ++ p ∷ [])
one_more [] [] m p s d = (d, tt)
one_more [] (q ∷ qs) m p s d = absurd s
one_more (n ∷ ms) [] m p s d = absurd s
one_more (n ∷ ms) (q ∷ qs) m p s d = (s.0, one_more ms qs m p s.1 d)

pub reads_more : (tokens rest part behind : Tokens) (ms : List Module) (m : Module) → Reads tokens ms rest → cut rest ≡ part ∷ cut behind → Stands module_form m part []
    → Reads tokens (ms ++ m ∷ []) behind
reads_more tokens rest part behind ms m r h d = record {
  front = r.front ++ part ∷ [];
  spelled = one_more ms r.front m part r.spelled d;
  is = r.is ∙ (ap (λ z. r.front ++ z) h ∙ sym (append_assoc r.front (part ∷ []) (cut behind)));
}

pub reads_all : (tokens rest : Tokens) (ms : List Module) → rest ≡ [] → Reads tokens ms rest → IsSource ms tokens
reads_all tokens rest ms none r =
    from_parts ms tokens (subst (λ z. Spelled ms z) (sym (r.is ∙ (ap (λ z. r.front ++ cut z) none ∙ append-nil r.front))) r.spelled)

abbrev heads : List Tokens → Tokens → Tokens
heads [] other = other
heads (p ∷ ps) other = p

abbrev behind_first : Tokens → Tokens
behind_first [] = []
behind_first (t ∷ ts) = ts

into_first_is : (t : Token) (ps : List Tokens) (other : Tokens) → heads (into_first t ps) other ≡ t ∷ behind_first (heads (into_first t ps) other)
into_first_is t [] other = refl
into_first_is t (p ∷ ps) other = refl

begins_by : (t : Token) (ts : Tokens) (b : Bool) (other : Tokens)
    → heads (if b then (t ∷ []) ∷ cut ts else into_first t (cut ts)) other ≡ t ∷ behind_first (heads (if b then (t ∷ []) ∷ cut ts else into_first t (cut ts)) other)
begins_by t ts true other = refl
begins_by t ts false other = into_first_is t (cut ts) other

-- the first part begins with the first token
begins : (t : Token) (ts part : Tokens) (ps : List Tokens) → cut (t ∷ ts) ≡ part ∷ ps → part ≡ t ∷ behind_first part
begins t ts part ps h =
    subst (λ z. z ≡ t ∷ behind_first z) (ap (λ z. heads z part) h) (begins_by t ts (same_word (word_of t) word.EndModule) part)

breaks : (tokens rest part behind us : Tokens) (ms : List Module) (t : Token) → Reads tokens ms rest → rest ≡ t ∷ us → cut rest ≡ part ∷ cut behind
    → ((m : Module) → Stands module_form m part [] → ⊥) → Breaks (cut tokens) t
breaks tokens rest part behind us ms t r starts h none =
    let first = begins t us part (cut behind) (sym (ap cut starts) ∙ h) in
    record {
      front = r.front;
      modules = ms;
      spelled = r.spelled;
      rest = behind_first part;
      behind = cut behind;
      is = r.is ∙ ap (λ z. r.front ++ z) (h ∙ ap (λ z. z ∷ cut behind) first);
      none = subst (λ z. (m : Module) → Stands module_form m z [] → ⊥) first none;
    }

pub reads_no_more : (tokens rest part behind us : Tokens) (ms : List Module) (t : Token) → Reads tokens ms rest → rest ≡ t ∷ us → cut rest ≡ part ∷ cut behind
    → ((m : Module) → Stands module_form m part [] → ⊥) → NoSource tokens × Breaks (cut tokens) t
reads_no_more tokens rest part behind us ms t r starts h none =
    let b = breaks tokens rest part behind us ms t r starts h none in ((λ ns d. broken tokens t b ns d), b)

pub turn_more : (tokens rest behind : Tokens) (ms : List Module) (m : Module) → Reads tokens ms rest → IsFirst m rest behind → Reads tokens (ms ++ m ∷ []) behind
turn_more tokens rest behind ms m r f = reads_more tokens rest f.part behind ms m r f.is f.stands

pub turn_refused : (tokens rest : Tokens) (ms : List Module) (s : Stop) → Reads tokens ms rest → FirstRefused rest s → Refuses tokens s
turn_refused tokens rest ms (stop.Fault fault) r (t, is, b) =
    let both = reads_no_more tokens rest b.part b.behind b.rest ms t r b.begins b.is b.none in
    (both.0, ap (λ f. f.code) is, (t, both.1, ap (λ f. f.place) is))
turn_refused tokens rest ms (stop.Limit limit) r d = absurd d
turn_refused tokens rest ms stop.NoMemory r d = tt

first_is : (ts : Tokens) (d : Token) → 0 < length ts → ts ≡ get_or ts 0 d ∷ behind_first ts
first_is [] d some = absurd (omega (arith, some))
first_is (t ∷ ts) d some = refl

-- what is answered for a first part that is not read
pub first_refused : (tokens part behind : Tokens) (first other : Token) (e : ReadError) → 0 < length tokens → first ≡ get_or tokens 0 other → cut tokens ≡ part ∷ cut behind
    → (◌≡◌ {A = Result Module ReadError} (Err e) (Err error.Refused) → (m : Module) → Stands module_form m part [] → ⊥) → FirstRefused tokens (refusal e first)
first_refused tokens part behind first other error.NoMemory some is h none = tt
first_refused tokens part behind first other error.Refused some is h none = (
  first,
  refl,
  record {
    rest = behind_first tokens;
    part = part;
    behind = behind;
    begins = first_is tokens other some ∙ ap (λ z. z ∷ behind_first tokens) (sym is);
    is = h;
    none = none refl;
  },
)

-- the same of a list that is known in two ways
pub refused_first : (rest behind : Tokens) (count : ℕ) (e : ReadError) (other : Token) (s : Stop) → rest ≡ behind → 0 < length behind
    → cut rest ≡ take count rest ∷ cut (drop count rest) → s ≡ refusal e (get_or rest 0 other)
    → (◌≡◌ {A = Result Module ReadError} (Err e) (Err error.Refused) → (m : Module) → Stands module_form m (take count rest) [] → ⊥) → FirstRefused behind s
refused_first rest behind count e other s same some is why none =
    let here : 0 < length rest = subst (λ z. 0 < length z) (sym same) some in
    subst (λ z. FirstRefused z s) same
    (subst (λ z. FirstRefused rest z) (sym why) (first_refused rest (take count rest) (drop count rest) (get_or rest 0 other) other e here refl is none))

-- a slice from a place on has all that stands there
pub all_behind : (ts : Tokens) (at : ℕ) → take (length ts - at) (drop at ts) ≡ drop at ts
all_behind ts at = ap (λ n. take n (drop at ts)) (sym (length-drop at ts)) ∙ take-length (drop at ts)

-- the module of the first part of what stands behind some tokens
pub found_first : (m : Module) (tokens : Tokens) (at count : ℕ) → cut (drop at tokens) ≡ take count (drop at tokens) ∷ cut (drop count (drop at tokens))
    → Stands module_form m (take count (drop at tokens)) [] → IsFirst m (drop at tokens) (drop (at + count) tokens)
found_first m tokens at count is d = record {
  part = take count (drop at tokens);
  is = is ∙ ap (λ z. take count (drop at tokens) ∷ cut z) (drop-drop count at tokens);
  stands = d;
}

-- before the first turn
pub reads_start : (tokens all : Tokens) (ms : List Module) → ms ≡ [] → all ≡ tokens → Reads tokens ms (drop 0 all)
reads_start tokens all ms none e = subst (λ z. Reads tokens z (drop 0 all)) (sym none) (subst (λ z. Reads tokens [] z) (sym e) (reads_none tokens))

-- behind the last turn
pub reads_done : (tokens all : Tokens) (at : ℕ) (ms : List Module) → at ≤ length all → length all ≤ at → Reads tokens ms (drop at all) → IsSource ms tokens
reads_done tokens all at ms a b r =
    let e : at ≡ length all = omega arith in
    reads_all tokens (drop at all) ms (ap (λ n. drop n all) e ∙ drop-length all) r
