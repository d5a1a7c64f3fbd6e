-- A launch-free row that some window breaks is broken by a run at its first launch.
use Rattle.std.proofs.Common.{◌≡◌, ℕ, zero, suc, ◌+◌, ◌-◌, ◌≤◌, Bool, true, false, List, [], ◌∷◌, inl, inr, refl, sym, ◌∙◌, ap, subst, if◌then◌else◌, ◌||◌, Option, Some, None, arith, not}
use Rattle.std.specs.Prelude.{nat_le}
use Rattle.std.proofs.lemmas.Bool.Decides.{nat_tests}
use Rattle.design_core.specs.Cells.{Bitmap, Cell, In, driven, IsLawful, IsFirst, IsOrdered, IsTrace, states, assigned}
use Rattle.design_core.specs.Rows.{Row, Breaks, CanBreak, IsChecked}
use Rattle.design_core.specs.Reach.{HasNeeds, Reach, source, dest, condition, wire, reset, before, IsLaunchFree, IsFreeReach, IsReached}
use Rattle.design_laws.proofs.OrderLaws.{false_or, either, if_true, if_false, settle_keeps, settle_holds}
use Rattle.design_laws.proofs.TraceLaws.{held_or, next_steps}

zero_plus : (k : ℕ) → k ≡ 0 + k
zero_plus k = omega arith

plus_zero : (k : ℕ) → k + 0 ≡ k
plus_zero k = omega arith

module _ {B : Type 0} where
  trace_to : (s σ : ℕ → Bitmap B) (E : List (Cell B)) (held : ℕ → B → Option Bool) (m k : ℕ) → k ≡ m → IsTrace E held m s σ → IsTrace E held k s σ
  trace_to s σ E held m k e w = let P : ℕ → Type 0 = λ j. IsTrace E held j s σ in subst P (sym e) w

  -- why a bit of Q that c drives is the same under σ and τ
  pub record Because (Q : B → Type 0) (σ τ : Bitmap B) (c : Cell B) (b : B) : Type 1 where
    pub deps : B → Type 0
    pub in_reads : (a : B) → deps a → c.reads a ≡ true
    pub in_set : (a : B) → deps a → Q a
    pub gives : ((a : B) → deps a → σ a ≡ τ a) → σ b ≡ τ b

  agree_there : (Q : B → Type 0) (σ τ : Bitmap B) (c : Cell B) (cs : List (Cell B)) → IsFirst c cs
      → ((b : B) → Q b → (c.drives b || driven cs b) ≡ false → σ b ≡ τ b)
      → (b : B) → c.drives b ≡ true → Because Q σ τ c b → σ b ≡ τ b
  agree_there Q σ τ c cs first base b h why = why.gives (λ a d. base a (why.in_set a d) (first.reads_before a (why.in_reads a d)))

  -- two assignments agree on Q where each driven bit of Q has a reason
  pub agree_because : (Q : B → Type 0) (σ τ : Bitmap B) (E : List (Cell B)) → IsOrdered E
      → ((c : Cell B) → In c E → (b : B) → Q b → c.drives b ≡ true → Because Q σ τ c b)
      → ((b : B) → Q b → driven E b ≡ false → σ b ≡ τ b)
      → (b : B) → Q b → σ b ≡ τ b
  agree_because Q σ τ [] o why base b r = base b r refl
  agree_because Q σ τ (c ∷ cs) o why base b r =
      agree_because Q σ τ cs o.1 (λ d m. why d (inr m))
      (λ a q u. elim (either (c.drives a)) [
        | inl h ↦ agree_there Q σ τ c cs o.0 base a h (why c (inl refl) a q h)
        | inr h ↦ base a q (false_or (c.drives a) (driven cs a) h u)
      ])
      b r

  module _ (E : List (Cell B)) (needs : Cell B → B → B → Type 0) (Q : ℕ → B → Type 0) (o : IsOrdered E)
      (laws : (c : Cell B) → In c E → IsLawful c) (has : (c : Cell B) → In c E → HasNeeds c (needs c)) (reach : IsFreeReach E needs Q)
      (last : ℕ) (n : ℕ) (held held' : ℕ → B → Option Bool) (s σ t τ : ℕ → Bitmap B)
      (w : IsTrace E held last s σ) (v : IsTrace E held' (n + last) t τ)
      (inputs : (k : ℕ) → k ≤ last → (b : B) → Q k b → driven E b ≡ false → σ k b ≡ τ (n + k) b) where
    because : (k : ℕ) → k ≤ last
        → ((c : Cell B) → In c E → c.clocked ≡ true → (b : B) → c.drives b ≡ true → Q k b → s k b ≡ t (n + k) b)
        → (c : Cell B) → In c E → (b : B) → Q k b → c.drives b ≡ true → Because (Q k) (σ k) (τ (n + k)) c b
    because k l stored c m b q d = elim (either c.clocked) [
      | inl yes' ↦ record {
        deps = λ a. c.reads a ≡ true;
        in_reads = λ a r. r;
        in_set = λ a r. reach.resets k c m yes' b a d q r;
        gives = λ same. (w.settled k l c m).gives b d
            ∙ (laws c m).within_same (s k) (t (n + k)) (σ k) (τ (n + k)) b d same (λ u. stored c m yes' b d q)
            ∙ sym ((v.settled (n + k) (omega arith) c m).gives b d);
      }
      | inr not' ↦ record {
        deps = needs c b;
        in_reads = λ a r. (has c m).among_reads not' b a d r;
        in_set = λ a r. reach.wires k c m not' b a d q r;
        gives = λ same. (w.settled k l c m).gives b d
            ∙ (has c m).within_needs (s k) (t (n + k)) (σ k) (τ (n + k)) b not' d same
            ∙ sym ((v.settled (n + k) (omega arith) c m).gives b d);
      }
    ]

    agree_at : (k : ℕ) → k ≤ last
        → ((c : Cell B) → In c E → c.clocked ≡ true → (b : B) → c.drives b ≡ true → Q k b → s k b ≡ t (n + k) b)
        → (b : B) → Q k b → σ k b ≡ τ (n + k) b
    agree_at k l stored = agree_because (Q k) (σ k) (τ (n + k)) E o (because k l stored) (inputs k l)

    -- the stored bits that are reached are the same
    stored_at : (k : ℕ) → k ≤ last → (c : Cell B) → In c E → c.clocked ≡ true → (b : B) → c.drives b ≡ true → Q k b → s k b ≡ t (n + k) b
    stored_at zero l c m y b d q = absurd (reach.launch_free c m y b d q)
    stored_at (suc k) l c m y b d q =
        let up : n + suc k ≡ suc (n + k) = omega arith in
        let step = (v.steps (n + k) (omega arith) c m).stores b y d in
        (w.steps k (omega arith) c m).stores b y d
        ∙ (has c m).after_needs (s k) (t (n + k)) (σ k) (τ (n + k)) b y d (w.settled k (omega arith) c m) (v.settled (n + k) (omega arith) c m)
        (λ a u. agree_at k (omega arith) (stored_at k (omega arith)) a (reach.befores k c m y b a d q u))
        ∙ sym step ∙ ap (λ j. t j b) (sym up)

    pub reached_same : (k : ℕ) → k ≤ last → (b : B) → Q k b → σ k b ≡ τ (n + k) b
    reached_same k l = agree_at k l (stored_at k l)

  pub reached_breaks : (Q : ℕ → B → Type 0) (row : Row B) (n : ℕ) (σ τ : ℕ → Bitmap B) → IsReached Q row
      → ((k : ℕ) → k ≤ row.latency → (b : B) → Q k b → σ k b ≡ τ (n + k) b) → Breaks row 0 σ → Breaks row n τ
  reached_breaks Q row n σ τ among same w = record {
    met = λ k l c m. sym (same k l c.0 (among.conditions_in k l c m)) ∙ ap (λ j. σ j c.0) (zero_plus k) ∙ w.met k l c m;
    pair = w.pair;
    is_one = w.is_one;
    differs = sym (same row.latency (omega arith) w.pair.1 (among.dests_in w.pair w.is_one))
        ∙ ap (λ j. σ j w.pair.1) (zero_plus row.latency) ∙ w.differs
        ∙ ap not (same 0 (omega arith) w.pair.0 (among.sources_in w.pair w.is_one) ∙ ap (λ j. τ j w.pair.0) (plus_zero n));
  }

  -- inputs of the run: held or 0 before the launch, and then those of the window
  abbrev launched : ℕ → (ℕ → B → Option Bool) → (ℕ → Bitmap B) → ℕ → Bitmap B
  launched n held σ j b = if nat_le n j then σ (j - n) b else held_or (held j b)

  pub free_launch : (E : List (Cell B)) (needs : Cell B → B → B → Type 0) (Q : ℕ → B → Type 0) (held held' : ℕ → B → Option Bool) (p : Bitmap B) (n : ℕ) (row : Row B)
      → IsChecked E held' → ((c : Cell B) → In c E → HasNeeds c (needs c)) → IsFreeReach E needs Q → IsReached Q row
      → ((k : ℕ) (b : B) → held' (n + k) b ≡ held k b)
      → CanBreak E held None row 0 → CanBreak E held' (Some p) row n
  free_launch E needs Q held held' p n row checked has reach among shifted w =
      let i : ℕ → Bitmap B = launched n held' w.σ in
      let τ : ℕ → Bitmap B = assigned E p i in
      let v : IsTrace E held' (n + row.latency) (states E p i) (assigned E p i) = record {
        settled = λ k l c m. settle_holds E (states E p i k) (i k) checked.ordered checked.lawful c m;
        steps = λ k l c m. next_steps E (states E p i k) (assigned E p i k) checked.ordered c m;
        holding = λ k l b x h. settle_keeps E (states E p i k) (i k) b (checked.free k b x h)
            ∙ elim (either (nat_le n k)) [
              | inl r ↦ (let le : n ≤ k = grind (arith, nat_tests) in
                  let back : n + (k - n) ≡ k = omega arith in
                  if_true (nat_le n k) (w.σ (k - n) b) (held_or (held' k b)) r
                  ∙ w.trace.holding (k - n) (omega arith) b x (sym (shifted (k - n) b) ∙ ap (λ j. held' j b) back ∙ h))
              | inr r ↦ if_false (nat_le n k) (w.σ (k - n) b) (held_or (held' k b)) r ∙ ap held_or h
            ];
      } in
      record {
        s = states E p i;
        σ = assigned E p i;
        trace = v;
        begins = λ c m b h k. refl;
        hits = reached_breaks Q row n w.σ (assigned E p i) among
            (reached_same E needs Q checked.ordered checked.lawful has reach row.latency n held held' w.s w.σ (states E p i) (assigned E p i)
            (trace_to w.s w.σ E held (0 + row.latency) row.latency (zero_plus row.latency) w.trace) v
            (λ k l b q u. (let r : nat_le n (n + k) ≡ true = grind (arith, nat_tests) in
            let back : n + k - n ≡ k = omega arith in
            sym (settle_keeps E (states E p i (n + k)) (i (n + k)) b u
            ∙ if_true (nat_le n (n + k)) (w.σ (n + k - n) b) (held_or (held' (n + k) b)) r
            ∙ ap (λ j. w.σ j b) back))))
            w.hits;
      }

  -- the reach of a row is such a set, where the row is launch-free
  pub least_reach : (E : List (Cell B)) (needs : Cell B → B → B → Type 0) (row : Row B) → IsLaunchFree E needs row → IsFreeReach E needs (Reach E needs row)
  least_reach E needs row free = record {
    wires = λ k c m y b a d q n. wire c m y d q a n;
    resets = λ k c m y b a d q n. reset c m y d q a n;
    befores = λ k c m y b a d q n. before c m y d q a n;
    launch_free = free;
  }

  pub row_reached : (E : List (Cell B)) (needs : Cell B → B → B → Type 0) (row : Row B) → IsReached (Reach E needs row) row
  row_reached E needs row = record { sources_in = source; dests_in = dest; conditions_in = condition }

  -- and it is the least: it stands in each such set that has the bits of the row
  pub reach_inside : (E : List (Cell B)) (needs : Cell B → B → B → Type 0) (row : Row B) (Q : ℕ → B → Type 0) → IsFreeReach E needs Q → IsReached Q row
      → {k : ℕ} {b : B} → Reach E needs row k b → Q k b
  reach_inside E needs row Q w r (source p m) = r.sources_in p m
  reach_inside E needs row Q w r (dest p m) = r.dests_in p m
  reach_inside E needs row Q w r (condition k l c m) = r.conditions_in k l c m
  reach_inside E needs row Q w r (wire {k} {b} c m y d q a n) = w.wires k c m y b a d (reach_inside E needs row Q w r q) n
  reach_inside E needs row Q w r (reset {k} {b} c m y d q a n) = w.resets k c m y b a d (reach_inside E needs row Q w r q) n
  reach_inside E needs row Q w r (before {k} {b} c m y d q a n) = w.befores k c m y b a d (reach_inside E needs row Q w r q) n

  -- so a row is launch-free exactly where there is such a set
  pub free_by_set : (E : List (Cell B)) (needs : Cell B → B → B → Type 0) (row : Row B) (Q : ℕ → B → Type 0) → IsFreeReach E needs Q → IsReached Q row → IsLaunchFree E needs row
  free_by_set E needs row Q w r c m y b d q = w.launch_free c m y b d (reach_inside E needs row Q w r q)
