-- What the gate keeps of a list of tokens.
use Rattle.std.proofs.Common.{◌≡◌, ℕ, zero, suc, ◌≤◌, nat_le, Bool, true, false, ◌&&◌, ◌⊎◌, inl, inr, not, if◌then◌else◌, Option, Some, None, Ok, Err, List, [], ◌∷◌, ◌++◌, length, refl, ap, sym, ◌∙◌, subst, append_assoc, arith}
use Rattle.std.proofs.lemmas.List.{append-nil, length-append}
use Rattle.vl_tree.specs.declared.faults.Code.{Code}
use Rattle.vl_lex.specs.declared.gate.Mode.{Mode}
use Rattle.vl_lex.specs.declared.gate.Mode.TheVariants as m
use Rattle.vl_lex.specs.Lexed.{Seen}
use Rattle.vl_lex.specs.Gate.{SGate, Reached, and_then, flaw_of, most_tokens, kept_if, kept_one, kept_all, flushed, fed_plain, fed}
use Rattle.lex_laws.specs.Attributes.{is_open, is_star, is_close, begins_with_star, never_ends, Leaves, leaves_none, leaves_token, leaves_bracket, leaves_all_signals, drops_attribute, leaves_unended, kept_so_far, all_fed}

then_then : {A B C : Type 0} (o : Reached A) (f : A → Reached B) (k : B → Reached C) → and_then (and_then o f) k ≡ and_then o (λ a. and_then (f a) k)
then_then (Ok a) f k = refl
then_then (Err e) f k = refl

-- two continuations that agree where no token waits
abbrev Agree : (SGate → Reached SGate) → (SGate → Reached SGate) → Type 0
Agree f k = (before : List Seen) → f (kept_so_far before) ≡ k (kept_so_far before)

kept_if_then : (flaw : Option Code) (full : Bool) (before : List Seen) (t : Seen) (f k : SGate → Reached SGate) → nat_le most_tokens (length before) ≡ full → Agree f k
    → and_then (kept_if flaw (kept_so_far before) t) f ≡ and_then (kept_if flaw (kept_so_far before) t) k
kept_if_then (Some c) full before t f k e same = refl
kept_if_then None true before t f k e same = rw e refl
kept_if_then None false before t f k e same = rw e (same (before ++ t ∷ []))

kept_then : (before : List Seen) (t : Seen) (f k : SGate → Reached SGate) → Agree f k → and_then (kept_one (kept_so_far before) t) f ≡ and_then (kept_one (kept_so_far before) t) k
unfolding kept_one
kept_then before t f k same = kept_if_then (flaw_of t) (nat_le most_tokens (length before)) before t f k refl same

-- where tokens wait
abbrev waiting_with : List Seen → List Seen → Mode → SGate
waiting_with before waiting mode = record { kept = before; waiting = waiting; mode = mode }

flushes : (before waiting : List Seen) (mode : Mode) → flushed (waiting_with before waiting mode) ≡ kept_all waiting (kept_so_far before)
unfolding flushed
flushes before waiting mode = refl

ends_flushed : Agree (all_fed []) (kept_all [])
ends_flushed before = flushes before [] m.Plain

-- a token that opens nothing
plain_token : (before : List Seen) (t : Seen) → is_open t ≡ false → fed (kept_so_far before) t m.Plain ≡ kept_one (kept_so_far before) t
unfolding fed fed_plain
plain_token before t not_so = rw not_so refl

opens : (before : List Seen) (t : Seen) → is_open t ≡ true → fed (kept_so_far before) t m.Plain ≡ Ok (waiting_with before (t ∷ []) m.Open)
unfolding fed fed_plain
opens before t so = rw so refl

-- behind `(` a token that is no `*`
after_open : (before : List Seen) (t u : Seen) → is_star u ≡ false → fed (waiting_with before (t ∷ []) m.Open) u m.Open ≡ and_then (kept_one (kept_so_far before) t) (λ n. fed_plain n u)
unfolding fed
after_open before t u not_so =
    rw not_so (ap (λ z. and_then z (λ n. fed_plain n u)) (flushes before (t ∷ []) m.Open) ∙ then_then (kept_one (kept_so_far before) t) (kept_all []) (λ n. fed_plain n u))

is_fed_plain : (before : List Seen) (u : Seen) → fed_plain (kept_so_far before) u ≡ fed (kept_so_far before) u m.Plain
unfolding fed
is_fed_plain before u = refl

starred : (before : List Seen) (t s : Seen) → is_star s ≡ true → fed (waiting_with before (t ∷ []) m.Open) s m.Open ≡ Ok (waiting_with before (t ∷ s ∷ []) m.Starred)
unfolding fed
starred before t s so = rw so refl

all_signals : (before : List Seen) (t s c : Seen) → is_close c ≡ true → fed (waiting_with before (t ∷ s ∷ []) m.Starred) c m.Starred ≡ and_then (kept_all (t ∷ s ∷ []) (kept_so_far before)) (λ n. kept_one n c)
unfolding fed
all_signals before t s c so = rw so (ap (λ z. and_then z (λ n. kept_one n c)) (flushes before (t ∷ s ∷ []) m.Starred))

-- inside an attribute, behind a `*` or not
abbrev mode_behind : Bool → Mode
mode_behind star = if star then m.Closing else m.Inside

waits_more : (before waiting : List Seen) (star : Bool) (t : Seen) → (star && is_close t) ≡ false
    → fed (waiting_with before waiting (mode_behind star)) t (mode_behind star) ≡ Ok (waiting_with before (waiting ++ t ∷ []) (mode_behind (is_star t)))
unfolding fed
waits_more before waiting true t not_so = rw not_so refl
waits_more before waiting false t not_so = refl

first_waits : (before waiting : List Seen) (t : Seen) → is_close t ≡ false → fed (waiting_with before waiting m.Starred) t m.Starred ≡ Ok (waiting_with before (waiting ++ t ∷ []) (mode_behind (is_star t)))
unfolding fed
first_waits before waiting t not_so = rw not_so refl

ends_here : (before waiting : List Seen) (c : Seen) → is_close c ≡ true → fed (waiting_with before waiting m.Closing) c m.Closing ≡ Ok (kept_so_far before)
unfolding fed
ends_here before waiting c so = rw so refl

-- a step whose outcome is known
steps_on : (g n : SGate) (t : Seen) (ts : List Seen) → fed g t g.mode ≡ Ok n → all_fed (t ∷ ts) g ≡ all_fed ts n
steps_on g n t ts e = ap (λ z. and_then z (all_fed ts)) e

not_and : (a b : Bool) → (not a && b) ≡ true → (a ≡ false) × (b ≡ true)
not_and true b h = absurd (cc)
not_and false b h = (refl, h)

-- an attribute is dropped
dropped : (before waiting inner ts : List Seen) (star : Bool) (e c : Seen) → never_ends star (inner ++ e ∷ []) ≡ true → is_star e ≡ true → is_close c ≡ true
    → all_fed (inner ++ e ∷ c ∷ ts) (waiting_with before waiting (mode_behind star)) ≡ all_fed ts (kept_so_far before)
dropped before waiting [] ts star e c never so close =
    let p = not_and (star && is_close e) (never_ends (is_star e) []) never in
    steps_on (waiting_with before waiting (mode_behind star)) (waiting_with before (waiting ++ e ∷ []) (mode_behind (is_star e))) e (c ∷ ts) (waits_more before waiting star e p.0)
    ∙ (ap (λ z. all_fed (c ∷ ts) (waiting_with before (waiting ++ e ∷ []) (mode_behind z))) so
    ∙ steps_on (waiting_with before (waiting ++ e ∷ []) m.Closing) (kept_so_far before) c ts (ends_here before (waiting ++ e ∷ []) c close))
dropped before waiting (x ∷ inner) ts star e c never so close =
    let p = not_and (star && is_close x) (never_ends (is_star x) (inner ++ e ∷ [])) never in
    steps_on (waiting_with before waiting (mode_behind star)) (waiting_with before (waiting ++ x ∷ []) (mode_behind (is_star x))) x (inner ++ e ∷ c ∷ ts) (waits_more before waiting star x p.0)
    ∙ dropped before (waiting ++ x ∷ []) inner ts (is_star x) e c p.1 so close

-- an attribute that does not end stays
stays : (before waiting ts : List Seen) (star : Bool) → never_ends star ts ≡ true → all_fed ts (waiting_with before waiting (mode_behind star)) ≡ kept_all (waiting ++ ts) (kept_so_far before)
stays before waiting [] star never = flushes before waiting (mode_behind star) ∙ ap (λ z. kept_all z (kept_so_far before)) (sym (append-nil waiting))
stays before waiting (t ∷ ts) star never =
    let p = not_and (star && is_close t) (never_ends (is_star t) ts) never in
    steps_on (waiting_with before waiting (mode_behind star)) (waiting_with before (waiting ++ t ∷ []) (mode_behind (is_star t))) t ts (waits_more before waiting star t p.0)
    ∙ (stays before (waiting ++ t ∷ []) ts (is_star t) p.1
    ∙ ap (λ z. kept_all z (kept_so_far before)) (append_assoc waiting (t ∷ []) ts))

-- behind the first two tokens of an attribute
abbrev two : List Seen → Seen → Seen → SGate
two before t s = waiting_with before (t ∷ s ∷ []) m.Starred

two_dropped : (before inner ts : List Seen) (t s e c : Seen) → never_ends true (inner ++ e ∷ []) ≡ true → is_star e ≡ true → is_close c ≡ true → all_fed (inner ++ e ∷ c ∷ ts) (two before t s) ≡ all_fed ts (kept_so_far before)
two_dropped before [] ts t s e c never so close =
    let p = not_and (is_close e) (never_ends (is_star e) []) never in
    steps_on (two before t s) (waiting_with before (t ∷ s ∷ e ∷ []) (mode_behind (is_star e))) e (c ∷ ts) (first_waits before (t ∷ s ∷ []) e p.0)
    ∙ (ap (λ z. all_fed (c ∷ ts) (waiting_with before (t ∷ s ∷ e ∷ []) (mode_behind z))) so
    ∙ steps_on (waiting_with before (t ∷ s ∷ e ∷ []) m.Closing) (kept_so_far before) c ts (ends_here before (t ∷ s ∷ e ∷ []) c close))
two_dropped before (x ∷ inner) ts t s e c never so close =
    let p = not_and (is_close x) (never_ends (is_star x) (inner ++ e ∷ [])) never in
    steps_on (two before t s) (waiting_with before (t ∷ s ∷ x ∷ []) (mode_behind (is_star x))) x (inner ++ e ∷ c ∷ ts) (first_waits before (t ∷ s ∷ []) x p.0)
    ∙ dropped before (t ∷ s ∷ x ∷ []) inner ts (is_star x) e c p.1 so close

two_stay : (before ts : List Seen) (t s : Seen) → never_ends true ts ≡ true → all_fed ts (two before t s) ≡ kept_all (t ∷ s ∷ ts) (kept_so_far before)
two_stay before [] t s never = flushes before (t ∷ s ∷ []) m.Starred
two_stay before (x ∷ ts) t s never =
    let p = not_and (is_close x) (never_ends (is_star x) ts) never in
    steps_on (two before t s) (waiting_with before (t ∷ s ∷ x ∷ []) (mode_behind (is_star x))) x ts (first_waits before (t ∷ s ∷ []) x p.0)
    ∙ stays before (t ∷ s ∷ x ∷ []) ts (is_star x) p.1

begun : (before ts : List Seen) (t s : Seen) → is_open t ≡ true → is_star s ≡ true → all_fed (t ∷ s ∷ ts) (kept_so_far before) ≡ all_fed ts (two before t s)
begun before ts t s so star =
    steps_on (kept_so_far before) (waiting_with before (t ∷ []) m.Open) t (s ∷ ts) (opens before t so)
    ∙ steps_on (waiting_with before (t ∷ []) m.Open) (two before t s) s ts (starred before t s star)

-- a token that opens nothing, and tokens of which something is left
one_kept : (before ts left : List Seen) (t : Seen) → is_open t ≡ false → Agree (all_fed ts) (kept_all left) → all_fed (t ∷ ts) (kept_so_far before) ≡ kept_all (t ∷ left) (kept_so_far before)
one_kept before ts left t not_so same = ap (λ z. and_then z (all_fed ts)) (plain_token before t not_so) ∙ kept_then before t (all_fed ts) (kept_all left) same

bracket_kept : (before ts left : List Seen) (t : Seen) → is_open t ≡ true → begins_with_star ts ≡ false → Agree (all_fed ts) (kept_all left) → all_fed (t ∷ ts) (kept_so_far before) ≡ kept_all (t ∷ left) (kept_so_far before)
bracket_kept before [] left t so not_so same =
    steps_on (kept_so_far before) (waiting_with before (t ∷ []) m.Open) t [] (opens before t so)
    ∙ (flushes before (t ∷ []) m.Open
    ∙ kept_then before t (kept_all []) (kept_all left) (λ b. sym (ends_flushed b) ∙ same b))
bracket_kept before (u ∷ us) left t so not_so same =
    steps_on (kept_so_far before) (waiting_with before (t ∷ []) m.Open) t (u ∷ us) (opens before t so)
    ∙ (ap (λ z. and_then z (all_fed us)) (after_open before t u not_so)
    ∙ (then_then (kept_one (kept_so_far before) t) (λ n. fed_plain n u) (all_fed us)
    ∙ kept_then before t (λ n. and_then (fed_plain n u) (all_fed us)) (kept_all left) (λ b. ap (λ z. and_then z (all_fed us)) (is_fed_plain b u) ∙ same b)))

three_kept : (before ts left : List Seen) (t s c : Seen) → is_open t ≡ true → is_star s ≡ true → is_close c ≡ true → Agree (all_fed ts) (kept_all left)
    → all_fed (t ∷ s ∷ c ∷ ts) (kept_so_far before) ≡ kept_all (t ∷ s ∷ c ∷ left) (kept_so_far before)
three_kept before ts left t s c so star close same =
    begun before (c ∷ ts) t s so star
    ∙ (ap (λ z. and_then z (all_fed ts)) (all_signals before t s c close)
    ∙ (then_then (kept_all (t ∷ s ∷ []) (kept_so_far before)) (λ n. kept_one n c) (all_fed ts)
    ∙ (then_then (kept_one (kept_so_far before) t) (kept_all (s ∷ [])) (λ n. and_then (kept_one n c) (all_fed ts))
    ∙ kept_then before t (λ n. and_then (kept_all (s ∷ []) n) (λ k. and_then (kept_one k c) (all_fed ts))) (kept_all (s ∷ c ∷ left))
    (λ b. then_then (kept_one (kept_so_far b) s) (kept_all []) (λ k. and_then (kept_one k c) (all_fed ts))
    ∙ kept_then b s (λ k. and_then (kept_one k c) (all_fed ts)) (kept_all (c ∷ left)) (λ d. kept_then d c (all_fed ts) (kept_all left) same)))))

pub keeps_left : (ts left : List Seen) → Leaves ts left → (before : List Seen) → all_fed ts (kept_so_far before) ≡ kept_all left (kept_so_far before)
keeps_left _ _ leaves_none before = ends_flushed before
keeps_left _ _ (leaves_token {t = t} {ts = ts} {left = left} not_so more) before = one_kept before ts left t not_so (keeps_left ts left more)
keeps_left _ _ (leaves_bracket {t = t} {ts = ts} {left = left} so not_so more) before = bracket_kept before ts left t so not_so (keeps_left ts left more)
keeps_left _ _ (leaves_all_signals {t = t} {s = s} {c = c} {ts = ts} {left = left} so star close more) before = three_kept before ts left t s c so star close (keeps_left ts left more)
keeps_left _ _ (drops_attribute {t = t} {s = s} {ts = ts} {left = left} inner e c so star never ends close more) before =
    begun before (inner ++ e ∷ c ∷ ts) t s so star ∙ (two_dropped before inner ts t s e c never ends close ∙ keeps_left ts left more before)
keeps_left _ _ (leaves_unended {t = t} {s = s} {ts = ts} so star never) before = begun before ts t s so star ∙ two_stay before ts t s never

-- an end of an attribute among some tokens
record Ending (star : Bool) (ts : List Seen) : Type 0 where
  inner : List Seen
  star_token : Seen
  close_token : Seen
  rest : List Seen
  whole : ts ≡ inner ++ star_token ∷ close_token ∷ rest
  never : never_ends star (inner ++ star_token ∷ []) ≡ true
  is_star_token : is_star star_token ≡ true
  is_close_token : is_close close_token ≡ true

abbrev begins_with_close : List Seen → Bool
begins_with_close [] = false
begins_with_close (t ∷ ts) = is_close t

may_begin : (a b : Bool) → a ≡ false → b ≡ true → (not a && b) ≡ true
may_begin a b p q = rw (p, q) refl

and_nothing : (a : Bool) → (a && false) ≡ true → ⊥
and_nothing true h = cc
and_nothing false h = cc

both : (a b : Bool) → (a && b) ≡ true → (a ≡ true) × (b ≡ true)
both true b h = (refl, h)
both false b h = absurd (cc)

abbrev Ended : Bool → List Seen → Type 0
Ended star ts = (never_ends star ts ≡ true) ⊎ Ending star ts

further : (star : Bool) (t : Seen) (ts : List Seen) → (star && is_close t) ≡ false → Ended (is_star t) ts → Ended star (t ∷ ts)
further star t ts not_so (inl never) = inl (may_begin (star && is_close t) (never_ends (is_star t) ts) not_so never)
further star t ts not_so (inr e) = inr (record {
  inner = t ∷ e.inner;
  star_token = e.star_token;
  close_token = e.close_token;
  rest = e.rest;
  whole = ap (λ z. t ∷ z) e.whole;
  never = may_begin (star && is_close t) (never_ends (is_star t) (e.inner ++ e.star_token ∷ [])) not_so e.never;
  is_star_token = e.is_star_token;
  is_close_token = e.is_close_token;
})

ended_at : (star : Bool) (t : Seen) (ts : List Seen) (b : Bool) → (star && is_close t) ≡ false → (is_star t && begins_with_close ts) ≡ b → ((is_star t && begins_with_close ts) ≡ false → Ended (is_star t) ts) → Ended star (t ∷ ts)
ended_at star t [] true not_so e behind = absurd (and_nothing (is_star t) e)
ended_at star t (c ∷ ts) true not_so e behind =
    let p = both (is_star t) (is_close c) e in
    inr (record { inner = []; star_token = t; close_token = c; rest = ts; whole = refl; never = may_begin (star && is_close t) true not_so refl; is_star_token = p.0; is_close_token = p.1 })
ended_at star t ts false not_so e behind = further star t ts not_so (behind e)

ends_or_not : (star : Bool) (ts : List Seen) → (star && begins_with_close ts) ≡ false → Ended star ts
ends_or_not star [] not_so = inl refl
ends_or_not star (t ∷ ts) not_so = ended_at star t ts (is_star t && begins_with_close ts) not_so refl (ends_or_not (is_star t) ts)

abbrev pub Some_left : List Seen → Type 0
Some_left ts = (left : List Seen) × Leaves ts left

abbrev Below : ℕ → Type 0
Below n = (ts : List Seen) → length ts ≤ n → Some_left ts

after_two : (n : ℕ) (t s : Seen) (us : List Seen) → Below n → length us ≤ n → is_open t ≡ true → is_star s ≡ true → Ended true us → Some_left (t ∷ s ∷ us)
after_two n t s us below small so star (inl never) = (t ∷ s ∷ us, leaves_unended so star never)
after_two n t s us below small so star (inr e) =
    let len : length us ≡ length (e.inner ++ e.star_token ∷ e.close_token ∷ e.rest) = ap length e.whole in
    let fewer : length e.rest ≤ n = omega (arith, len, length-append e.inner (e.star_token ∷ e.close_token ∷ e.rest)) in
    let more = below e.rest fewer in
    let P : List Seen → Type 0 = λ z. Some_left (t ∷ s ∷ z) in
    subst P (sym e.whole) (more.0, drops_attribute e.inner e.star_token e.close_token so star e.never e.is_star_token e.is_close_token more.1)

after_star : (n : ℕ) (t s : Seen) (us : List Seen) (b : Bool) → Below n → length us ≤ n → is_open t ≡ true → is_star s ≡ true → begins_with_close us ≡ b → Some_left (t ∷ s ∷ us)
after_star n t s [] true below small so star e = absurd (cc)
after_star n t s (c ∷ us) true below small so star e = let more = below us (omega arith) in (t ∷ s ∷ c ∷ more.0, leaves_all_signals so star e more.1)
after_star n t s us false below small so star e = after_two n t s us below small so star (ends_or_not true us e)

after_open_token : (n : ℕ) (t : Seen) (ts : List Seen) (b : Bool) → Below n → length ts ≤ n → is_open t ≡ true → begins_with_star ts ≡ b → Some_left (t ∷ ts)
after_open_token n t [] true below small so e = absurd (cc)
after_open_token n t (s ∷ us) true below small so e = after_star n t s us (begins_with_close us) below (omega arith) so e refl
after_open_token n t ts false below small so e = let more = below ts small in (t ∷ more.0, leaves_bracket so e more.1)

any_token : (n : ℕ) (t : Seen) (ts : List Seen) (b : Bool) → Below n → length ts ≤ n → is_open t ≡ b → Some_left (t ∷ ts)
any_token n t ts true below small e = after_open_token n t ts (begins_with_star ts) below small e refl
any_token n t ts false below small e = let more = below ts small in (t ∷ more.0, leaves_token e more.1)

left_below : (n : ℕ) → Below n
left_below n [] small = ([], leaves_none)
left_below zero (t ∷ ts) small = absurd (omega arith)
left_below (suc n) (t ∷ ts) small = any_token n t ts (is_open t) (left_below n) (omega arith) refl

pub some_left : (ts : List Seen) → Some_left ts
some_left ts = left_below (length ts) ts (omega arith)
