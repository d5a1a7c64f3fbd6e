-- Guards and tests that are made one after the other.
use Rattle.std.proofs.Common.{◌≡◌, ℕ, ◌+◌, ◌-◌, ◌<◌, ◌≤◌, Bool, true, false, not, ◌&&◌, ◌||◌, List, [], ◌∷◌, ◌++◌, length, map, get_or, take, drop, replicate, ap, ap₂, refl, sym, subst, ◌∙◌, arith, All, Option, Some}
use Rattle.std.proofs.lemmas.List.{append_assoc, append-nil, drop-drop, drop-map, drop_all, drop_more, get_or_default, get_or-map, get_or-take, length-drop, length-map, length-take, map-append, replicate-append-replicate, take_rest}
use Rattle.std.proofs.lemmas.List.Elements.{All-drop, All-head, All-push, All-tail, All-weaker}
use Rattle.bits_core.specs.Places.{is_set}
use Rattle.design_core.specs.declared.tree.DArm.{DArm, out-DArm}
use Rattle.design_core.specs.declared.tree.DExpr.{DExpr}
use Rattle.design_core.specs.declared.tree.DMatch.{DMatch, out-DMatch}
use Rattle.design_core.specs.Operators.{all_match, one_bit}
use Rattle.design_core.specs.Terms.{free_bits}
use Rattle.tree_parts.specs.Parts.{items_of}
use Rattle.value_domain.specs.declared.parts.Word.{Word}
use Rattle.value_domain.specs.Meaning.{Meaning, Keeps}
use Rattle.value_domain.specs.Words.{IsGuard, IsWord, allows, turned}
use Rattle.stmt_exec.specs.Choices.{AllTell, AreGuards, ItemFits, Tells, arm_hits, firsts, some_hit}
use Rattle.stmt_exec.proofs.ChoiceLaws.{set_one}
use Rattle.value_domain.proofs.KeepLaws.{keeps_trans}
use Rattle.stmt_exec.proofs.DomainLaws as d
use Rattle.stmt_exec.proofs.StandingLaws as s

-- the guard and the test, and the guard and not the test, in place of the first test
first_more : (old : List Bool) (left t : Bool) (ts : List Bool) → (old ++ (left && turned true t) ∷ []) ++ firsts (left && turned false t) ts ≡ old ++ firsts left (t ∷ ts)
first_more old left t ts = append_assoc old ((left && t) ∷ []) (firsts (left && not t) ts)

or_more : (a b r : Bool) → ((a || b) || r) ≡ (a || (b || r))
or_more true b r = refl
or_more false b r = refl

module _ {S V : Type 0} (m : Meaning S V) where
  pub kept_guards : (old new : S) (gs : List (Option V)) → Keeps m old new → All (IsGuard m old) gs → All (IsGuard m new) gs
  kept_guards old new gs k h = All-weaker (IsGuard m old) (IsGuard m new) (λ x i. d.kept_guard m old new x k i) gs h

  pub kept_allowed : (old new : S) (v : ℕ → Bool) (gs : List (Option V)) → Keeps m old new → All (IsGuard m old) gs → map (allows m new v) gs ≡ map (allows m old v) gs
  kept_allowed old new v [] k h = refl
  kept_allowed old new v (x ∷ gs) k h =
      ap₂ (λ a b. a ∷ b) (d.kept_allows m old new v x k (All-head (IsGuard m old) x gs h)) (kept_allowed old new v gs k (All-tail (IsGuard m old) x gs h))

  pub kept_truths : (old new : S) (v : ℕ → Bool) (xs : List V) → Keeps m old new → All (m.is_value old) xs → map (λ (x : V). is_set (m.reads new v x)) xs ≡ map (λ (x : V). is_set (m.reads old v x)) xs
  kept_truths old new v [] k h = refl
  kept_truths old new v (x ∷ xs) k h =
      ap₂ (λ a b. is_set a ∷ b) (k.same x v (All-head (m.is_value old) x xs h)) (kept_truths old new v xs k (All-tail (m.is_value old) x xs h))

  -- one more copy of a guard
  pub copied_guard : (d0 dn d1 : S) (guard : Option V) (at : ℕ) (gs more : List (Option V)) (x : Option V) → IsGuard m d0 guard → Keeps m d0 dn → Keeps m dn d1
      → AreGuards m dn gs (λ v. replicate at (allows m d0 v guard))
      → IsGuard m d1 x × ((v : ℕ → Bool) → allows m d1 v x ≡ allows m dn v guard)
      → more ≡ gs ++ x ∷ []
      → AreGuards m d1 more (λ v. replicate (at + 1) (allows m d0 v guard))
  copied_guard d0 dn d1 guard at gs more x i k l h c e = subst (λ o. AreGuards m d1 o (λ v. replicate (at + 1) (allows m d0 v guard))) (sym e) (record {
    are = All-push (IsGuard m d1) gs x (kept_guards dn d1 gs l h.are) c.0;
    allow = λ v. map-append (allows m d1 v) gs (x ∷ [])
        ∙ ap₂ (λ a b. a ++ b ∷ []) (kept_allowed dn d1 v gs l h.are ∙ h.allow v) (c.1 v ∙ d.kept_allows m d0 dn v guard k i)
        ∙ replicate-append-replicate at 1 (allows m d0 v guard);
  })

  -- one more guard, where the next test is the first that holds
  pub more_guards : (dn d1 d2 : S) (gs more : List (Option V)) (on : V) → Keeps m dn d1 → Keeps m d1 d2 → All (IsGuard m dn) gs → m.is_value d1 on → more ≡ gs ++ Some on ∷ []
      → All (IsGuard m d2) more
  more_guards dn d1 d2 gs more on k l are i e =
      subst (All (IsGuard m d2)) (sym e) (All-push (IsGuard m d2) gs (Some on) (kept_guards dn d2 gs (keeps_trans m dn d1 d2 k l) are) (l.still on i))

  -- one more test
  pub first_step : (d0 dn d1 d2 : S) (guard left : Option V) (tests : List V) (at : ℕ) (t u : V) (gs more : List (Option V)) (on off : V) → at < length tests → All (m.is_value d0) tests
      → t ≡ get_or tests at t → u ≡ get_or tests at u → Keeps m d0 dn → Keeps m dn d1 → Keeps m d1 d2 → All (IsGuard m dn) gs → IsGuard m dn left
      → m.is_value d1 on × ((v : ℕ → Bool) → is_set (m.reads d1 v on) ≡ (allows m dn v left && turned true (is_set (m.reads dn v t))))
      → m.is_value d2 off × ((v : ℕ → Bool) → is_set (m.reads d2 v off) ≡ (allows m d1 v left && turned false (is_set (m.reads d1 v u))))
      → more ≡ gs ++ Some on ∷ []
      → (v : ℕ → Bool)
      → map (allows m dn v) gs ++ firsts (allows m dn v left) (map (λ (x : V). is_set (m.reads d0 v x)) (drop at tests)) ≡ firsts (allows m d0 v guard) (map (λ (x : V). is_set (m.reads d0 v x)) tests)
      → map (allows m d2 v) more ++ firsts (is_set (m.reads d2 v off)) (map (λ (x : V). is_set (m.reads d0 v x)) (drop (at + 1) tests))
      ≡ firsts (allows m d0 v guard) (map (λ (x : V). is_set (m.reads d0 v x)) tests)
  first_step d0 dn d1 d2 guard left tests at t u gs more on off lt all is also k l n are left_is o p e v h =
      let t_is : m.is_value d0 t = subst (m.is_value d0) (sym is) (all at t lt) in
      let u_is : m.is_value d0 u = subst (m.is_value d0) (sym also) (all at u lt) in
      let told : List V → List Bool = map (λ (x : V). is_set (m.reads d0 v x)) in
      let b = is_set (m.reads d0 v t) in
      let a = allows m dn v left in
      let one : is_set (m.reads dn v t) ≡ b = ap is_set (k.same t v t_is) in
      let two : u ≡ t = also ∙ get_or_default tests at u t lt ∙ sym is in
      let other : is_set (m.reads d1 v u) ≡ b = ap is_set (l.same u v (k.still u u_is) ∙ k.same u v u_is ∙ ap (m.reads d0 v) two) in
      let on_is : is_set (m.reads d2 v on) ≡ (a && turned true b) = ap is_set (n.same on v o.0) ∙ o.1 v ∙ ap (λ y. a && turned true y) one in
      let off_is : is_set (m.reads d2 v off) ≡ (a && turned false b) = p.1 v ∙ ap₂ (λ x y. x && turned false y) (d.kept_allows m dn d1 v left l left_is) other in
      let front : map (allows m d2 v) more ≡ map (allows m dn v) gs ++ (a && turned true b) ∷ [] =
      ap (map (allows m d2 v)) e ∙ map-append (allows m d2 v) gs (Some on ∷ []) ∙ ap₂ (λ x y. x ++ y ∷ []) (kept_allowed dn d2 v gs (keeps_trans m dn d1 d2 l n) are) on_is in
      let next : b ∷ told (drop (at + 1) tests) ≡ told (drop at tests) =
      ap (λ x. is_set (m.reads d0 v x) ∷ told (drop (at + 1) tests)) is ∙ sym (ap told (drop_more tests at t lt)) in
      ap₂ (λ x y. x ++ firsts y (told (drop (at + 1) tests))) front off_is
      ∙ first_more (map (allows m dn v) gs) a b (told (drop (at + 1) tests))
      ∙ ap (λ r. map (allows m dn v) gs ++ firsts a r) next
      ∙ h

  -- at the end the guard that is left
  pub firsts_end : (d0 dn : S) (guard left : Option V) (tests : List V) (at : ℕ) (gs more : List (Option V)) → length tests ≤ at → All (IsGuard m dn) gs → IsGuard m dn left
      → ((v : ℕ → Bool) → map (allows m dn v) gs ++ firsts (allows m dn v left) (map (λ (x : V). is_set (m.reads d0 v x)) (drop at tests)) ≡ firsts (allows m d0 v guard) (map (λ (x : V). is_set (m.reads d0 v x)) tests))
      → more ≡ gs ++ left ∷ []
      → AreGuards m dn more (λ v. firsts (allows m d0 v guard) (map (λ (x : V). is_set (m.reads d0 v x)) tests))
  firsts_end d0 dn guard left tests at gs more le are left_is h e =
      subst (λ o. AreGuards m dn o (λ v. firsts (allows m d0 v guard) (map (λ (x : V). is_set (m.reads d0 v x)) tests))) (sym e) (record {
        are = All-push (IsGuard m dn) gs left are left_is;
        allow = λ v. map-append (allows m dn v) gs (left ∷ [])
            ∙ ap (λ l. map (allows m dn v) gs ++ firsts (allows m dn v left) (map (λ (x : V). is_set (m.reads d0 v x)) l)) (sym (drop_all at tests le))
            ∙ h v;
      })

-- an item's value has the selector's length
item_length : (n : ℕ) (items : List DMatch) (ns : List ℕ) (at : ℕ) (x : DMatch) → at < length items → All (ItemFits n) items → take (length items) ns ≡ map (λ (y : DMatch). (out-DMatch y).value.length) items
    → (at < length ns) × (get_or ns at 0 ≡ n)
item_length n items ns at x lt fit long =
    let front = ap length long ∙ length-map items (λ (y : DMatch). (out-DMatch y).value.length) in
    let t = length-take (length items) ns in (
      omega (arith, lt, front, t),
      sym (get_or-take (length items) ns at 0 lt) ∙ ap (λ l. get_or l at 0) long ∙ get_or-map (λ (y : DMatch). (out-DMatch y).value.length) items at x 0 lt ∙ (fit at x lt).0,
    )

hit_more : (items : List DMatch) (selector : List Bool) (vs : List (List Bool)) (at : ℕ) (x : DMatch) (u : List Bool) → at < length items → at < length vs
    → (all_match selector (get_or vs at u) (free_bits (out-DMatch (get_or items at x)).free) || some_hit (drop (at + 1) items) selector (drop (at + 1) vs)) ≡ some_hit (drop at items) selector (drop at vs)
hit_more items selector vs at x u lt more =
    ap₂ (λ a b. some_hit a selector b) (sym (drop_more items at x lt)) (sym (drop_more vs at u more))

module _ {S V : Type 0} (m : Meaning S V) where
  pub same_width : (d0 : S) (items : List DMatch) (selector : Word V) (values : List (Word V)) (at : ℕ) (x : DMatch) (w : Word V) → at < length items → IsWord m d0 selector → All (IsWord m d0) values
      → All (ItemFits selector.length) items → take (length items) (map (λ (w : Word V). w.length) values) ≡ map (λ (y : DMatch). (out-DMatch y).value.length) items
      → m.width selector.value ≡ m.width (get_or values at w).value
  same_width d0 items selector values at x w lt h all fit long =
      let i = item_length selector.length items (map (λ (w : Word V). w.length) values) at x lt fit long in
      let n = length-map values (λ (w : Word V). w.length) in
      let here : at < length values = (let p = i.0 in omega (arith, p, n)) in
      h.wide ∙ sym (i.1) ∙ get_or-map (λ (w : Word V). w.length) values at w 0 here ∙ sym (all at w here).wide

  -- one more item
  pub hit_step : (d0 dn d1 d2 : S) (items : List DMatch) (selector : Word V) (values : List (Word V)) (at : ℕ) (x : DMatch) (w : Word V) (any hit new : V) → at < length items → IsWord m d0 selector → All (IsWord m d0) values
      → All (ItemFits selector.length) items → take (length items) (map (λ (w : Word V). w.length) values) ≡ map (λ (y : DMatch). (out-DMatch y).value.length) items
      → Keeps m d0 dn → Keeps m dn d1 → m.is_value dn any
      → ((v : ℕ → Bool) → m.reads d1 v hit ≡ one_bit (all_match (m.reads dn v selector.value) (m.reads dn v (get_or values at w).value) (free_bits (out-DMatch (get_or items at x)).free)))
      → ((v : ℕ → Bool) → m.reads d2 v new ≡ one_bit (is_set (m.reads d1 v any) || is_set (m.reads d1 v hit)))
      → (v : ℕ → Bool)
      → (is_set (m.reads dn v any) || some_hit (drop at items) (m.reads d0 v selector.value) (drop at (map (λ (w : Word V). m.reads d0 v w.value) values)))
      ≡ some_hit items (m.reads d0 v selector.value) (map (λ (w : Word V). m.reads d0 v w.value) values)
      → (is_set (m.reads d2 v new) || some_hit (drop (at + 1) items) (m.reads d0 v selector.value) (drop (at + 1) (map (λ (w : Word V). m.reads d0 v w.value) values)))
      ≡ some_hit items (m.reads d0 v selector.value) (map (λ (w : Word V). m.reads d0 v w.value) values)
  hit_step d0 dn d1 d2 items selector values at x w any hit new lt h all fit long k l any_is o p v rest =
      let i = item_length selector.length items (map (λ (w : Word V). w.length) values) at x lt fit long in
      let n = length-map values (λ (w : Word V). w.length) in
      let here : at < length values = (let p = i.0 in omega (arith, p, n)) in
      let vs = map (λ (w : Word V). m.reads d0 v w.value) values in
      let sel = m.reads d0 v selector.value in
      let many = length-map values (λ (w : Word V). m.reads d0 v w.value) in
      let there : at < length vs = omega (arith, here, many) in
      let item = get_or values at w in
      let free = free_bits (out-DMatch (get_or items at x)).free in
      let a = is_set (m.reads dn v any) in
      let b = all_match sel (get_or vs at []) free in
      let r = some_hit (drop (at + 1) items) sel (drop (at + 1) vs) in
      let had : is_set (m.reads d1 v any) ≡ a = ap is_set (l.same any v any_is) in
      let own : is_set (m.reads d1 v hit) ≡ b =
      ap is_set (o v) ∙ set_one (all_match (m.reads dn v selector.value) (m.reads dn v item.value) free)
      ∙ ap₂ (λ y z. all_match y z free) (k.same selector.value v h.is_one) (k.same item.value v (all at w here).is_one ∙ sym (get_or-map (λ (w : Word V). m.reads d0 v w.value) values at w [] here)) in
      let now : is_set (m.reads d2 v new) ≡ (a || b) = ap is_set (p v) ∙ set_one (is_set (m.reads d1 v any) || is_set (m.reads d1 v hit)) ∙ ap₂ (λ y z. y || z) had own in
      ap (λ y. y || r) now ∙ or_more a b r ∙ ap (λ y. a || y) (hit_more items sel vs at x [] lt there) ∙ rest

-- the lengths of the items of one arm, and of those after it
front_lengths : (ms : List DMatch) (more : List DExpr) → take (length ms) (map (λ (e : DExpr). e.length) (map (λ (x : DMatch). (out-DMatch x).value) ms ++ more)) ≡ map (λ (x : DMatch). (out-DMatch x).value.length) ms
front_lengths [] more = refl
front_lengths (x ∷ ms) more = ap (λ l. (out-DMatch x).value.length ∷ l) (front_lengths ms more)

back_lengths : (ms : List DMatch) (more : List DExpr) → drop (length ms) (map (λ (e : DExpr). e.length) (map (λ (x : DMatch). (out-DMatch x).value) ms ++ more)) ≡ map (λ (e : DExpr). e.length) more
back_lengths [] more = refl
back_lengths (x ∷ ms) more = back_lengths ms more

enough : (ms : List DMatch) (more : List DExpr) → length ms ≤ length (map (λ (e : DExpr). e.length) (map (λ (x : DMatch). (out-DMatch x).value) ms ++ more))
enough [] more = omega arith
enough (x ∷ ms) more = let e = enough ms more in omega (arith, e)

module _ {S V : Type 0} (m : Meaning S V) where
  abbrev pub long_left : List (Word V) → List DArm → ℕ → ℕ → Type 0
  long_left values arms from at = map (λ (w : Word V). w.length) (drop from values) ≡ map (λ (e : DExpr). e.length) (items_of (drop at arms))

  next_long : (values : List (Word V)) (arms : List DArm) (from at : ℕ) (a : DArm) → at < length arms → long_left values arms from at
      → map (λ (w : Word V). w.length) (drop from values)
      ≡ map (λ (e : DExpr). e.length) (map (λ (x : DMatch). (out-DMatch x).value) (out-DArm (get_or arms at a)).matches ++ items_of (drop (at + 1) arms))
  next_long values arms from at a lt long = long ∙ ap (λ l. map (λ (e : DExpr). e.length) (items_of l)) (drop_more arms at a lt)

  -- the values from a place on begin with those of an arm's items
  pub arm_long : (values : List (Word V)) (arms : List DArm) (from at : ℕ) (a : DArm) (ms : List DMatch) → at < length arms → ms ≡ (out-DArm (get_or arms at a)).matches → long_left values arms from at
      → take (length ms) (map (λ (w : Word V). w.length) (take (length values - from) (drop from values))) ≡ map (λ (x : DMatch). (out-DMatch x).value.length) ms
  arm_long values arms from at a ms lt is long =
      let own = (out-DArm (get_or arms at a)).matches in
      ap (λ l. take (length ms) (map (λ (w : Word V). w.length) l)) (take_rest values from)
      ∙ ap₂ (λ l ns. take (length l) ns) is (next_long values arms from at a lt long)
      ∙ front_lengths own (items_of (drop (at + 1) arms))
      ∙ ap (map (λ (x : DMatch). (out-DMatch x).value.length)) (sym is)

  pub arm_within : (values : List (Word V)) (arms : List DArm) (from at k : ℕ) (a : DArm) → at < length arms → k ≡ length (out-DArm (get_or arms at a)).matches → from ≤ length values → long_left values arms from at
      → from + k ≤ length values
  arm_within values arms from at k a lt is le long =
      let e = enough (out-DArm (get_or arms at a)).matches (items_of (drop (at + 1) arms)) in
      let n = ap length (next_long values arms from at a lt long) in
      let d = length-map (drop from values) (λ (w : Word V). w.length) in
      let r = length-drop from values in
      omega (arith, e, n, d, r, is, le)

  pub arm_next : (values : List (Word V)) (arms : List DArm) (from at k : ℕ) (a : DArm) → at < length arms → k ≡ length (out-DArm (get_or arms at a)).matches → long_left values arms from at
      → long_left values arms (from + k) (at + 1)
  arm_next values arms from at k a lt is long =
      ap (map (λ (w : Word V). w.length)) (sym (drop-drop k from values))
      ∙ sym (drop-map (λ (w : Word V). w.length) k (drop from values))
      ∙ ap₂ (λ n ns. drop n ns) is (next_long values arms from at a lt long)
      ∙ back_lengths (out-DArm (get_or arms at a)).matches (items_of (drop (at + 1) arms))

  -- one more value
  pub more_values : (old new : S) (xs more : List V) (x : V) → Keeps m old new → All (m.is_value old) xs → m.is_value new x → more ≡ xs ++ x ∷ [] → All (m.is_value new) more
  more_values old new xs more x k are is e = subst (All (m.is_value new)) (sym e) (All-push (m.is_value new) xs x (d.kept_all m old new xs k are) is)

  -- one more arm
  pub arm_step : (d0 dn d1 : S) (arms : List DArm) (selector : Word V) (values : List (Word V)) (from at k : ℕ) (a b : DArm) (ms : List DMatch) (xs more : List V) (x : V) → at < length arms
      → ms ≡ (out-DArm (get_or arms at a)).matches → k ≡ length (out-DArm (get_or arms at b)).matches → IsWord m d0 selector → All (IsWord m d0) values → Keeps m d0 dn → Keeps m dn d1 → All (m.is_value dn) xs
      → Tells m d1 x (λ v. some_hit ms (m.reads dn v selector.value) (map (λ (w : Word V). m.reads dn v w.value) (take (length values - from) (drop from values))))
      → more ≡ xs ++ x ∷ []
      → (v : ℕ → Bool)
      → map (λ (x : V). is_set (m.reads dn v x)) xs ++ arm_hits (drop at arms) (m.reads d0 v selector.value) (drop from (map (λ (w : Word V). m.reads d0 v w.value) values))
      ≡ arm_hits arms (m.reads d0 v selector.value) (map (λ (w : Word V). m.reads d0 v w.value) values)
      → map (λ (x : V). is_set (m.reads d1 v x)) more ++ arm_hits (drop (at + 1) arms) (m.reads d0 v selector.value) (drop (from + k) (map (λ (w : Word V). m.reads d0 v w.value) values))
      ≡ arm_hits arms (m.reads d0 v selector.value) (map (λ (w : Word V). m.reads d0 v w.value) values)
  arm_step d0 dn d1 arms selector values from at k a b ms xs more x lt is many h all k0 l are tells e v rest =
      let sel = m.reads d0 v selector.value in
      let vs = map (λ (w : Word V). m.reads d0 v w.value) values in
      let own = (out-DArm (get_or arms at a)).matches in
      let told = map (λ (x : V). is_set (m.reads dn v x)) xs in
      let later = arm_hits (drop (at + 1) arms) sel (drop (length own) (drop from vs)) in
      let words : map (λ (w : Word V). m.reads dn v w.value) (take (length values - from) (drop from values)) ≡ drop from vs =
      ap (map (λ (w : Word V). m.reads dn v w.value)) (take_rest values from)
      ∙ s.kept_words m d0 dn v (drop from values) k0 (All-drop (IsWord m d0) from values all)
      ∙ sym (drop-map (λ (w : Word V). m.reads d0 v w.value) from values) in
      let hit : is_set (m.reads d1 v x) ≡ some_hit own sel (drop from vs) =
      tells.tells v ∙ ap (λ l. some_hit l (m.reads dn v selector.value) (map (λ (w : Word V). m.reads dn v w.value) (take (length values - from) (drop from values)))) is
      ∙ ap₂ (some_hit own) (k0.same selector.value v h.is_one) words in
      let front : map (λ (x : V). is_set (m.reads d1 v x)) more ≡ told ++ some_hit own sel (drop from vs) ∷ [] =
      ap (map (λ (x : V). is_set (m.reads d1 v x))) e ∙ map-append (λ (x : V). is_set (m.reads d1 v x)) xs (x ∷ []) ∙ ap₂ (λ y z. y ++ z ∷ []) (kept_truths m dn d1 v xs l are) hit in
      let back : drop (from + k) vs ≡ drop (length own) (drop from vs) =
      sym (drop-drop k from vs) ∙ ap (λ n. drop n (drop from vs)) (many ∙ ap (λ (y : DArm). length (out-DArm y).matches) (get_or_default arms at b a lt)) in
      ap₂ (λ y z. y ++ arm_hits (drop (at + 1) arms) sel z) front back
      ∙ append_assoc told (some_hit own sel (drop from vs) ∷ []) later
      ∙ ap (λ l. told ++ arm_hits l sel (drop from vs)) (sym (drop_more arms at a lt))
      ∙ rest

  pub arms_end : (d0 dn : S) (arms : List DArm) (selector : V) (values : List (Word V)) (from at : ℕ) (xs : List V) → length arms ≤ at → All (m.is_value dn) xs
      → ((v : ℕ → Bool) → map (λ (x : V). is_set (m.reads dn v x)) xs ++ arm_hits (drop at arms) (m.reads d0 v selector) (drop from (map (λ (w : Word V). m.reads d0 v w.value) values))
      ≡ arm_hits arms (m.reads d0 v selector) (map (λ (w : Word V). m.reads d0 v w.value) values))
      → AllTell m dn xs (λ v. arm_hits arms (m.reads d0 v selector) (map (λ (w : Word V). m.reads d0 v w.value) values))
  arms_end d0 dn arms selector values from at xs le are rest = record {
    are = are;
    tell = λ v. sym (append-nil (map (λ (x : V). is_set (m.reads dn v x)) xs))
        ∙ ap (λ l. map (λ (x : V). is_set (m.reads dn v x)) xs ++ arm_hits l (m.reads d0 v selector) (drop from (map (λ (w : Word V). m.reads d0 v w.value) values))) (sym (drop_all at arms le))
        ∙ rest v;
  }
