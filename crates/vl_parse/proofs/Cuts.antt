-- The first part of a list of tokens, by how many tokens stand before the first `endmodule`.
use Rattle.std.proofs.Common.{◌≡◌, ℕ, zero, suc, ◌+◌, ◌<◌, ◌≤◌, Bool, true, false, not, if◌then◌else◌, [], ◌∷◌, length, take, drop, take_while, refl, ap, sym, ◌∙◌, arith}
use Rattle.std.specs.List.{prefix_len}
use Rattle.std.proofs.lemmas.List.Folds.{length-prefix_len}
use Rattle.std.proofs.Math.Seq.{drop-length, take-length}
use Rattle.vl_tree.specs.declared.tokens.Token.{Token}
use Rattle.vl_tree.specs.declared.words.Word.TheVariants as word
use Rattle.vl_tree.specs.Words.{word_of, same_word}
use Rattle.vl_grammar.specs.Read.{Tokens}
use Rattle.vl_rules.specs.Files.{into_first, cut}

abbrev pub closes : Token → Bool
closes t = same_word (word_of t) word.EndModule

abbrev pub stays : Token → Bool
stays t = not (closes t)

-- how many tokens stand before the first `endmodule`
abbrev pub before : Tokens → ℕ
before ts = prefix_len stays ts

-- tokens in two: up to the end, and behind it
abbrev pub Cuts : ℕ → Tokens → Type 0
Cuts n ts = cut ts ≡ take (suc n) ts ∷ cut (drop (suc n) ts)

closed_step : (t : Token) (ts : Tokens) (n : ℕ) (b : Bool) → (if not b then 1 + before ts else 0) ≡ n → n < suc (length ts)
    → ((k : ℕ) → before ts ≡ k → k < length ts → Cuts k ts)
    → (if b then (t ∷ []) ∷ cut ts else into_first t (cut ts)) ≡ (t ∷ take n ts) ∷ cut (drop n ts)
closed_step t ts zero true h less go = refl
closed_step t ts (suc n) true h less go = absurd (omega (arith, h))
closed_step t ts zero false h less go = absurd (omega (arith, h))
closed_step t ts (suc n) false h less go = ap (into_first t) (go n (omega (arith, h)) (omega (arith, less)))

cut_at : (ts : Tokens) (n : ℕ) → before ts ≡ n → n < length ts → Cuts n ts
cut_at [] n h less = absurd (omega (arith, less))
cut_at (t ∷ ts) n h less = closed_step t ts n (closes t) h less (λ k e l. cut_at ts k e l)

whole_step : (t : Token) (ts : Tokens) (b : Bool) → suc (length ts) ≤ (if not b then 1 + before ts else 0)
    → (length ts ≤ before ts → into_first t (cut ts) ≡ (t ∷ ts) ∷ [])
    → (if b then (t ∷ []) ∷ cut ts else into_first t (cut ts)) ≡ (t ∷ ts) ∷ []
whole_step t ts true le go = absurd (omega (arith, le))
whole_step t ts false le go = go (omega (arith, le))

-- where no `endmodule` stands, all tokens are one part
whole_from : (t : Token) (ts : Tokens) → suc (length ts) ≤ before (t ∷ ts) → cut (t ∷ ts) ≡ (t ∷ ts) ∷ []
whole_from t [] le = whole_step t [] (closes t) le (λ _. refl)
whole_from t (u ∷ us) le = whole_step t (u ∷ us) (closes t) le (λ k. ap (into_first t) (whole_from u us k))

cut_whole : (ts : Tokens) → 0 < length ts → length ts ≤ before ts → cut ts ≡ ts ∷ []
cut_whole [] some le = absurd (omega (arith, some))
cut_whole (t ∷ ts) some le = whole_from t ts le

-- the first part, where some `endmodule` stands
pub cut_front : (ts : Tokens) (n : ℕ) → n ≡ length (take_while stays ts) → n < length ts → cut ts ≡ take (n + 1) ts ∷ cut (drop (n + 1) ts)
cut_front ts n h less =
    let one : n + 1 ≡ suc n = omega arith in
    rw one (cut_at ts n (sym (h ∙ length-prefix_len stays ts)) less)

-- the first part, where none stands
pub cut_rest : (ts : Tokens) (n : ℕ) → n ≡ length (take_while stays ts) → length ts ≤ n → 0 < length ts → cut ts ≡ take (length ts) ts ∷ cut (drop (length ts) ts)
cut_rest ts n h le some =
    let e : n ≡ before ts = h ∙ length-prefix_len stays ts in
    cut_whole ts some (omega (arith, e, le)) ∙ (ap (λ z. z ∷ []) (sym (take-length ts)) ∙ ap (λ z. take (length ts) ts ∷ z) (sym (ap cut (drop-length ts))))
