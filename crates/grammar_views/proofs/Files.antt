-- Parts of tokens that say the same; each list of tokens is a source or breaks, and at one place.
use Rattle.std.proofs.Common.{◌≡◌, Bool, true, false, ◌⊎◌, inl, inr, if◌then◌else◌, List, [], ◌∷◌, ◌++◌, map, length, Option, Some, None, refl, ap, sym, ◌∙◌, subst, arith}
use Rattle.vl_tree.specs.declared.tokens.Token.{Token}
use Rattle.vl_tree.specs.declared.words.Word.TheVariants as word
use Rattle.vl_tree.specs.declared.modules.Module.{Module}
use Rattle.vl_tree.specs.Words.{word_of, same_word}
use Rattle.vl_lex.specs.Lexed.{Seen, view}
use Rattle.vl_grammar.specs.Read.{Tokens}
use Rattle.vl_rules.specs.Form.{reads}
use Rattle.vl_rules.specs.Modules.{module_form, source, read_to, Stands}
use Rattle.vl_rules.specs.Files.{into_first, cut, Spelled, Breaks}
use Rattle.vl_rules.proofs.Modules.{module_spelled, none_refused, none_left}
use Rattle.vl_rules.proofs.Parts.{from_parts, broken}
use Rattle.grammar_views.specs.Views.{IsSpelled, BreaksAt}
use Rattle.grammar_views.proofs.Like.{Same, Like, like_of, like_back, word_same}
use Rattle.grammar_views.proofs.Rules.{module_like, source_like}

-- Parts

abbrev Parts : List Tokens → List Tokens → Type 0
Parts [] [] = Unit {0}
Parts (p ∷ ps) (q ∷ qs) = Like p q × Parts ps qs
Parts _ _ = ⊥

into_like : (t u : Token) (ps qs : List Tokens) → Same t u → Parts ps qs → Parts (into_first t ps) (into_first u qs)
into_like t u [] [] s d = ((s, tt), tt)
into_like t u [] (q ∷ qs) s d = absurd d
into_like t u (p ∷ ps) [] s d = absurd d
into_like t u (p ∷ ps) (q ∷ qs) s d = ((s, d.0), d.1)

cut_by : (t u : Token) (ps qs : List Tokens) (b : Bool) → Same t u → Parts ps qs
    → Parts (if b then (t ∷ []) ∷ ps else into_first t ps) (if b then (u ∷ []) ∷ qs else into_first u qs)
cut_by t u ps qs true s d = ((s, tt), d)
cut_by t u ps qs false s d = into_like t u ps qs s d

cut_like : (ts us : Tokens) → Like ts us → Parts (cut ts) (cut us)
cut_like [] [] l = tt
cut_like [] (u ∷ us) l = absurd l
cut_like (t ∷ ts) [] l = absurd l
cut_like (t ∷ ts) (u ∷ us) l =
    let same : same_word (word_of t) word.EndModule ≡ same_word (word_of u) word.EndModule = ap (λ w. same_word w word.EndModule) (word_same t u l.0) in
    let P : Bool → Type 0 = λ b. Parts (cut (t ∷ ts)) (if b then (u ∷ []) ∷ cut us else into_first u (cut us)) in
    subst P same (cut_by t u (cut ts) (cut us) (same_word (word_of t) word.EndModule) l.0 (cut_like ts us l.1))

spelled_like : (ms : List Module) (ps qs : List Tokens) → Spelled ms ps → Parts ps qs → (ns : List Module) × Spelled ns qs
spelled_like [] [] [] d l = ([], tt)
spelled_like [] [] (q ∷ qs) d l = absurd l
spelled_like [] (p ∷ ps) qs d l = absurd d
spelled_like (m ∷ ms) [] qs d l = absurd d
spelled_like (m ∷ ms) (p ∷ ps) [] d l = absurd l
spelled_like (m ∷ ms) (p ∷ ps) (q ∷ qs) d l =
    let i = module_like m p q d.0 l.0 in
    let j = spelled_like ms ps qs d.1 l.1 in
    (i.0 ∷ j.0, (i.1, j.1))

-- Breaks

-- parts that break behind some parts that are spelled
pub break_behind : (m : Module) (p : Tokens) (ps : List Tokens) (t : Token) → Stands module_form m p [] → Breaks ps t → Breaks (p ∷ ps) t
break_behind m p ps t d b = record {
  front = p ∷ b.front;
  modules = m ∷ b.modules;
  spelled = (d, b.spelled);
  rest = b.rest;
  behind = b.behind;
  is = ap (λ (z : List Tokens). p ∷ z) b.is;
  none = b.none;
}

-- a break at a token that says this
record Broken (qs : List Tokens) (t : Token) : Type 0 where
  token : Token
  same : Same t token
  breaks : Breaks qs token

broken_here : (t : Token) (rest q : Tokens) (qs : List Tokens) → ((m : Module) → Stands module_form m (t ∷ rest) [] → ⊥) → Like (t ∷ rest) q → Broken (q ∷ qs) t
broken_here t rest [] qs h l = absurd l
broken_here t rest (u ∷ us) qs h l = record {
  token = u;
  same = l.0;
  breaks = record {
    front = [];
    modules = [];
    spelled = tt;
    rest = us;
    behind = qs;
    is = refl;
    none = λ m d. let i = module_like m (u ∷ us) (t ∷ rest) d (like_back (t ∷ rest) (u ∷ us) l) in h i.0 i.1;
  };
}

broken_like : (front : List Tokens) (ms : List Module) (t : Token) (rest : Tokens) (behind qs : List Tokens) → Spelled ms front
    → ((m : Module) → Stands module_form m (t ∷ rest) [] → ⊥) → Parts (front ++ (t ∷ rest) ∷ behind) qs → Broken qs t
broken_like [] ms t rest behind [] d h l = absurd l
broken_like [] ms t rest behind (q ∷ qs) d h l = broken_here t rest q qs h l.0
broken_like (p ∷ front) ms t rest behind [] d h l = absurd l
broken_like (p ∷ front) [] t rest behind (q ∷ qs) d h l = absurd d
broken_like (p ∷ front) (m ∷ ms) t rest behind (q ∷ qs) d h l =
    let i = module_like m p q d.0 l.0 in
    let b = broken_like front ms t rest behind qs d.1 h l.1 in
    record { token = b.token; same = b.same; breaks = break_behind i.0 q qs b.token i.1 b.breaks }

break_like : (ts us : Tokens) (t : Token) → Like ts us → Breaks (cut ts) t → Broken (cut us) t
break_like ts us t l b = broken_like b.front b.modules t b.rest b.behind (cut us) b.spelled b.none (subst (λ z. Parts z (cut us)) b.is (cut_like ts us l))

-- The two laws over lists that say the same

pub spelled_by_views : (ts us : Tokens) (ms : List Module) → map view ts ≡ map view us → Stands source ms ts [] → (ns : List Module) × Stands source ns us []
spelled_by_views ts us ms h d = source_like ms ts us d (like_of ts us h)

pub breaks_by_views : (ts us : Tokens) (t : Token) → map view ts ≡ map view us → Breaks (cut ts) t → (u : Token) × (view u ≡ view t) × Breaks (cut us) u
breaks_by_views ts us t h b = let i = break_like ts us t (like_of ts us h) b in (i.token, sym i.same, i.breaks)

-- One place

abbrev head_or : Token → List Tokens → Token
head_or t ((u ∷ us) ∷ ps) = u
head_or t _ = t

abbrev first_part : List Tokens → Tokens
first_part [] = []
first_part (p ∷ ps) = p

abbrev other_parts : List Tokens → List Tokens
other_parts [] = []
other_parts (p ∷ ps) = ps

abbrev Refused : Tokens → Type 0
Refused p = (m : Module) → Stands module_form m p [] → ⊥

one_break : (front gront : List Tokens) (ms ns : List Module) (t u : Token) (rest vest : Tokens) (behind yond : List Tokens)
    → Spelled ms front → Spelled ns gront → Refused (t ∷ rest) → Refused (u ∷ vest)
    → front ++ (t ∷ rest) ∷ behind ≡ gront ++ (u ∷ vest) ∷ yond → t ≡ u
one_break [] [] ms ns t u rest vest behind yond d e h k is = ap (head_or t) is
one_break [] (q ∷ gront) ms [] t u rest vest behind yond d e h k is = absurd e
one_break [] (q ∷ gront) ms (n ∷ ns) t u rest vest behind yond d e h k is =
    absurd (h n (subst (λ z. Stands module_form n z []) (sym (ap first_part is)) e.0))
one_break (p ∷ front) [] [] ns t u rest vest behind yond d e h k is = absurd d
one_break (p ∷ front) [] (m ∷ ms) ns t u rest vest behind yond d e h k is =
    absurd (k m (subst (λ z. Stands module_form m z []) (ap first_part is) d.0))
one_break (p ∷ front) (q ∷ gront) [] ns t u rest vest behind yond d e h k is = absurd d
one_break (p ∷ front) (q ∷ gront) (m ∷ ms) [] t u rest vest behind yond d e h k is = absurd e
one_break (p ∷ front) (q ∷ gront) (m ∷ ms) (n ∷ ns) t u rest vest behind yond d e h k is =
    one_break front gront ms ns t u rest vest behind yond d.1 e.1 h k (ap other_parts is)

one_place : (ps : List Tokens) (t u : Token) → Breaks ps t → Breaks ps u → t ≡ u
one_place ps t u b c = one_break b.front c.front b.modules c.modules t u b.rest c.rest b.behind c.behind b.spelled c.spelled b.none c.none (sym b.is ∙ c.is)

pub breaks_in_one_place : (tokens : List Seen) (s t : Seen) → BreaksAt tokens s → BreaksAt tokens t → s ≡ t
breaks_in_one_place tokens s t b c =
    let i = breaks_by_views b.at c.at b.token (b.say ∙ sym c.say) b.breaks in
    sym b.says ∙ (sym i.1 ∙ (ap view (one_place (cut c.at) i.0 c.token i.2 c.breaks) ∙ c.says))

pub never_both : (tokens : List Seen) (first : Seen) → IsSpelled tokens → BreaksAt tokens first → ⊥
never_both tokens first d b =
    let i = spelled_by_views d.at b.at d.modules (d.say ∙ sym b.say) d.stands in
    broken b.at b.token b.breaks i.0 i.1

-- One or the other

-- whether a module spells a part
abbrev Judged : Tokens → Type 0
Judged p = ((m : Module) × Stands module_form m p []) ⊎ Refused p

judge_rest : (p : Tokens) (m : Module) (rest : Tokens) → reads (read_to (length p)) module_form p ≡ Some (m, rest) → Judged p
judge_rest p m [] h = inl (m, module_spelled (length p) m p [] h)
judge_rest p m (t ∷ ts) h = inr (none_left p m (t ∷ ts) h (omega arith))

judge_by : (p : Tokens) (o : Option (Module × Tokens)) → reads (read_to (length p)) module_form p ≡ o → Judged p
judge_by p None h = inr (none_refused p h)
judge_by p (Some x) h = judge_rest p x.0 x.1 h

judge : (p : Tokens) → Judged p
judge p = judge_by p (reads (read_to (length p)) module_form p) refl

-- no part is empty
abbrev Filled : List Tokens → Type 0
Filled [] = Unit {0}
Filled ([] ∷ ps) = ⊥
Filled ((t ∷ ts) ∷ ps) = Filled ps

filled_into : (t : Token) (ps : List Tokens) → Filled ps → Filled (into_first t ps)
filled_into t [] h = tt
filled_into t ([] ∷ ps) h = absurd h
filled_into t ((u ∷ us) ∷ ps) h = h

filled_by : (t : Token) (ps : List Tokens) (b : Bool) → Filled ps → Filled (if b then (t ∷ []) ∷ ps else into_first t ps)
filled_by t ps true h = h
filled_by t ps false h = filled_into t ps h

filled : (ts : Tokens) → Filled (cut ts)
filled [] = tt
filled (t ∷ ts) = filled_by t (cut ts) (same_word (word_of t) word.EndModule) (filled ts)

abbrev Settled : List Tokens → Type 0
Settled ps = ((ms : List Module) × Spelled ms ps) ⊎ ((t : Token) × Breaks ps t)

settled_behind : (m : Module) (p : Tokens) (ps : List Tokens) → Stands module_form m p [] → Settled ps → Settled (p ∷ ps)
settled_behind m p ps d (inl h) = inl (m ∷ h.0, (d, h.1))
settled_behind m p ps d (inr h) = inr (h.0, break_behind m p ps h.0 d h.1)

settled_by : (t : Token) (ts : Tokens) (ps : List Tokens) → Judged (t ∷ ts) → Settled ps → Settled ((t ∷ ts) ∷ ps)
settled_by t ts ps (inl h) s = settled_behind h.0 (t ∷ ts) ps h.1 s
settled_by t ts ps (inr h) s = inr (t, record { front = []; modules = []; spelled = tt; rest = ts; behind = ps; is = refl; none = h })

settled : (ps : List Tokens) → Filled ps → Settled ps
settled [] h = inl ([], tt)
settled ([] ∷ ps) h = absurd h
settled ((t ∷ ts) ∷ ps) h = settled_by t ts ps (judge (t ∷ ts)) (settled ps h)

-- a token that says this, with its text at an address
abbrev at_address : Seen → Token
at_address s = record { kind = s.kind; text = record { ref_ptr = (0, 0); now = s.text }; span = s.span; implicit = s.implicit }

says_so : (tokens : List Seen) → map view (map at_address tokens) ≡ tokens
says_so [] = refl
says_so (s ∷ tokens) = ap (λ (z : List Seen). s ∷ z) (says_so tokens)

settled_views : (tokens : List Seen) → Settled (cut (map at_address tokens)) → IsSpelled tokens ⊎ ((first : Seen) × BreaksAt tokens first)
settled_views tokens (inl h) = inl (record { at = map at_address tokens; say = says_so tokens; modules = h.0; stands = from_parts h.0 (map at_address tokens) h.1 })
settled_views tokens (inr h) = inr (view h.0, record { at = map at_address tokens; say = says_so tokens; token = h.0; says = refl; breaks = h.1 })

pub spelled_or_broken : (tokens : List Seen) → IsSpelled tokens ⊎ ((first : Seen) × BreaksAt tokens first)
spelled_or_broken tokens = settled_views tokens (settled (cut (map at_address tokens)) (filled (map at_address tokens)))
