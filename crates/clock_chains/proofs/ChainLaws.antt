-- The slice of the clocks has the signals to which a clock leads.
use Rattle.std.proofs.Common.{◌≡◌, ℕ, zero, suc, ◌+◌, ◌<◌, ◌≤◌, Bool, true, false, ◌||◌, All, List, [], ◌∷◌, ◌++◌, ◌⊎◌, inl, inr, Option, Some, None, map, length, replicate, append_assoc, refl, sym, ap, ◌∙◌, subst, arith, if◌then◌else◌, nat_lt, nat_le}
use Rattle.std.specs.Prelude.{◌==◌, ◌&&◌, slice_index_or, slice_set}
use Rattle.std.specs.List.{list_any, range_with_len}
use Rattle.std.proofs.lemmas.Bool.{eqb-true}
use Rattle.std.proofs.lemmas.Bool.Decides.{nat_tests}
use Rattle.std.proofs.lemmas.List.{length-replicate, append-nil}
use Rattle.std.proofs.lemmas.List.FromFn.{length-map-range_with_len}
use Rattle.design_core.specs.Cells.{In}
use Rattle.item_order.specs.declared.spans.Span.{Span}
use Rattle.item_order.specs.Circles.{Graph, Needs, graph}
use Rattle.item_order.specs.Slices.{IsWanted, at_start, by_need, IsSliced}
use Rattle.item_order.specs.Spans.{holds, some_holds, driver_in}
use Rattle.clock_chains.specs.declared.chains.Step.{Step}
use Rattle.clock_chains.specs.Chains.{Leads, listed, by_step, IsTold, AreTold}
use Rattle.clock_chains.specs.Links.{span, reads_of, own_drivers, no_reads, with_span, with_steps, with_marks, marks}
use Rattle.clock_chains.proofs.ListLaws.{set_here, set_there, set_length, own_zero, own_back, in_all, all_in, all_none, all_more, past}

holds_own : (k : ℕ) → holds (span k) k ≡ true
holds_own k = grind (arith, nat_tests)

holds_same : (k b : ℕ) → holds (span k) b ≡ true → b ≡ k
holds_same k b h = omega (arith, both.0, both.1)
  where
    both : (k ≤ b) × (b < suc k)
    both = (grind (arith, nat_tests), grind (arith, nat_tests))

or_right : (a c : Bool) → c ≡ true → (a || c) ≡ true
or_right true c e = refl
or_right false c e = e

or_left : (a c : Bool) → a ≡ true → (a || c) ≡ true
or_left true c e = refl
or_left false c e = absurd (cc)

or_either : (a c : Bool) → (a || c) ≡ true → (a ≡ true) ⊎ (c ≡ true)
or_either true c e = inl refl
or_either false c e = inr e

same : (a b : ℕ) → (a == b) ≡ true → a ≡ b
same a b h = grind (arith, nat_tests)

own_same : (a : ℕ) → (a == a) ≡ true
own_same a = grind (arith, nat_tests)

-- what a signal leads to at once

record IsStep (ss : List Step) (k b : ℕ) : Type 0 where
  step : Step
  there : In step ss
  from : step.from ≡ k
  to : step.to ≡ b

later : (s : Step) (ss : List Step) (k b : ℕ) → IsStep ss k b → IsStep (s ∷ ss) k b
later s ss k b r = record { step = r.step; there = inr r.there; from = r.from; to = r.to }

read_step : (ss : List Step) (k b : ℕ) → some_holds (reads_of ss k) b ≡ true → IsStep ss k b
read_step [] k b h = absurd (cc)
read_step (s ∷ ss) k b h = go (read_step ss k b) (s.from == k) refl h
  where
    first : (some_holds (reads_of ss k) b ≡ true → IsStep ss k b) → (s.from == k) ≡ true → (holds (span s.to) b ≡ true) ⊎ (some_holds (reads_of ss k) b ≡ true) → IsStep (s ∷ ss) k b
    first rest e (inl f) = record { step = s; there = inl refl; from = same s.from k e; to = sym (holds_same s.to b f) }
    first rest e (inr f) = later s ss k b (rest f)

    go : (some_holds (reads_of ss k) b ≡ true → IsStep ss k b) → (t : Bool) → (s.from == k) ≡ t → some_holds (if t then span s.to ∷ reads_of ss k else reads_of ss k) b ≡ true → IsStep (s ∷ ss) k b
    go rest true e h = first rest e (or_either (holds (span s.to) b) (some_holds (reads_of ss k) b) h)
    go rest false e h = later s ss k b (rest h)

step_read : (ss : List Step) (s : Step) → In s ss → some_holds (reads_of ss s.from) s.to ≡ true
step_read [] s i = absurd i
step_read (t ∷ ss) s (inl e) = subst (λ (u : Step). some_holds (reads_of (t ∷ ss) u.from) u.to ≡ true) (sym e) here
  where
    here : some_holds (reads_of (t ∷ ss) t.from) t.to ≡ true
    here = ap (λ c. some_holds (if c then span t.to ∷ reads_of ss t.from else reads_of ss t.from) t.to) (own_same t.from) ∙ or_left (holds (span t.to) t.to) (some_holds (reads_of ss t.from) t.to) (holds_own t.to)
step_read (t ∷ ss) s (inr i) = go (step_read ss s i) (t.from == s.from)
  where
    go : some_holds (reads_of ss s.from) s.to ≡ true → (c : Bool) → some_holds (if c then span t.to ∷ reads_of ss s.from else reads_of ss s.from) s.to ≡ true
    go h true = or_right (holds (span t.to) s.to) (some_holds (reads_of ss s.from) s.to) h
    go h false = h

-- the lists of the graph

with_length : (reads : List (List Span)) (ss : List Step) → length (with_steps reads ss) ≡ length reads
with_length reads [] = refl
with_length reads (s ∷ ss) = with_length (with_span reads s.from (span s.to)) ss ∙ set_length reads s.from (slice_index_or reads s.from [] ++ span s.to ∷ [])

none_there : (n k : ℕ) → slice_index_or (no_reads n) k [] ≡ []
none_there zero k = refl
none_there (suc n) zero = refl
none_there (suc n) (suc k) = none_there n k

one_more : (reads : List (List Span)) (s : Step) (ss : List Step) (k : ℕ) → k < length reads
    → slice_index_or (with_span reads s.from (span s.to)) k [] ++ reads_of ss k ≡ slice_index_or reads k [] ++ reads_of (s ∷ ss) k
one_more reads s ss k below = go (s.from == k) refl
  where
    go : (t : Bool) → (s.from == k) ≡ t
        → slice_index_or (with_span reads s.from (span s.to)) k [] ++ reads_of ss k ≡ slice_index_or reads k [] ++ (if t then span s.to ∷ reads_of ss k else reads_of ss k)
    go true e =
        let is = same s.from k e in
        let place : s.from < length reads = omega (arith, is, below) in
        let own : slice_index_or (with_span reads s.from (span s.to)) k [] ≡ slice_index_or reads k [] ++ span s.to ∷ [] =
        subst (λ (j : ℕ). slice_index_or (with_span reads s.from (span s.to)) j [] ≡ slice_index_or reads j [] ++ span s.to ∷ []) is
        (set_here [] reads s.from (slice_index_or reads s.from [] ++ span s.to ∷ []) place) in
        ap (λ (l : List Span). l ++ reads_of ss k) own ∙ append_assoc (slice_index_or reads k []) (span s.to ∷ []) (reads_of ss k)
    go false e = ap (λ (l : List Span). l ++ reads_of ss k) (set_there [] reads s.from (slice_index_or reads s.from [] ++ span s.to ∷ []) k (λ f. other e f))
      where
        other : (s.from == k) ≡ false → k ≡ s.from → ⊥
        other e f = grind (arith, nat_tests)

reads_are : (reads : List (List Span)) (ss : List Step) (k : ℕ) → k < length reads → slice_index_or (with_steps reads ss) k [] ≡ slice_index_or reads k [] ++ reads_of ss k
reads_are reads [] k below = sym (append-nil (slice_index_or reads k []))
reads_are reads (s ∷ ss) k below =
    let long = set_length reads s.from (slice_index_or reads s.from [] ++ span s.to ∷ []) in
    reads_are (with_span reads s.from (span s.to)) ss k (omega (arith, long, below)) ∙ one_more reads s ss k below

abbrev graph_by : ℕ → List Step → Graph
graph_by count steps = graph (with_steps (no_reads count) steps) (own_drivers count)

abbrev start_of : List ℕ → List Span
start_of clocks = map span clocks

start_in : (clocks : List ℕ) (b : ℕ) → some_holds (start_of clocks) b ≡ true → In b clocks
start_in [] b h = absurd (cc)
start_in (k ∷ ks) b h = go (start_in ks b) (or_either (holds (span k) b) (some_holds (start_of ks) b) h)
  where
    go : (some_holds (start_of ks) b ≡ true → In b ks) → (holds (span k) b ≡ true) ⊎ (some_holds (start_of ks) b ≡ true) → In b (k ∷ ks)
    go rest (inl f) = inl (holds_same k b f)
    go rest (inr f) = inr (rest f)

in_start : (clocks : List ℕ) (k : ℕ) → In k clocks → some_holds (start_of clocks) k ≡ true
in_start [] k i = absurd i
in_start (c ∷ cs) k (inl e) = subst (λ (j : ℕ). some_holds (start_of (c ∷ cs)) j ≡ true) (sym e) (or_left (holds (span c) c) (some_holds (start_of cs) c) (holds_own c))
in_start (c ∷ cs) k (inr i) = or_right (holds (span c) k) (some_holds (start_of cs) k) (in_start cs k i)

module _ (count : ℕ) (steps : List Step) (clocks : List ℕ) where
  places : length (with_steps (no_reads count) steps) ≡ count
  places = with_length (no_reads count) steps ∙ length-replicate count []

  reads_here : (k : ℕ) → k < count → slice_index_or (with_steps (no_reads count) steps) k [] ≡ reads_of steps k
  reads_here k below =
      let many : length (no_reads count) ≡ count = length-replicate count [] in
      reads_are (no_reads count) steps k (omega (arith, many, below)) ∙ ap (λ (l : List Span). l ++ reads_of steps k) (none_there count k)

  -- only a signal that is there leads to others
  read_below : (k b : ℕ) → some_holds (slice_index_or (with_steps (no_reads count) steps) k []) b ≡ true → k < count
  read_below k b h = go (nat_lt k count) refl
    where
      beyond : nat_lt k count ≡ false → k < count
      beyond e =
          let many = places in
          let far : length (with_steps (no_reads count) steps) ≤ k = omega (arith, many, low) in
          absurd (nothing (ap (λ (l : List Span). some_holds l b) (sym (past [] (with_steps (no_reads count) steps) k far)) ∙ h))
        where
          low : count ≤ k
          low = grind (arith, nat_tests)

          nothing : false ≡ true → ⊥
          nothing e = absurd (cc)

      go : (t : Bool) → nat_lt k count ≡ t → k < count
      go true e = grind (arith, nat_tests)
      go false e = beyond e

  below_wanted : (k : ℕ) → IsWanted (graph_by count steps) (start_of clocks) k → k < count
  below_wanted k (at_start {b = b} h d) = let r = own_back 0 count b k d in let s = r.0 in let t = r.1 in omega (arith, s, t)
  below_wanted k (by_need w n) = let r = own_back 0 count n.bit k n.is_driven in let s = r.0 in let t = r.1 in omega (arith, s, t)

  wanted_leads : (k : ℕ) → IsWanted (graph_by count steps) (start_of clocks) k → Leads steps clocks k
  wanted_leads k (at_start {b = b} h d) =
      let r = own_back 0 count b k d in
      let t = r.1 in
      let is : b ≡ k = omega (arith, t) in listed (subst (λ (j : ℕ). In j clocks) is (start_in clocks b h))
  wanted_leads k (by_need {i = i} w n) =
      let r = own_back 0 count n.bit k n.is_driven in
      let t = r.1 in
      let is : n.bit ≡ k = omega (arith, t) in
      let s = read_step steps i n.bit (ap (λ (l : List Span). some_holds l n.bit) (sym (reads_here i (read_below i n.bit n.is_read))) ∙ n.is_read) in
      subst (λ (j : ℕ). Leads steps clocks j) (s.to ∙ is) (by_step s.there (subst (λ (j : ℕ). Leads steps clocks j) (sym s.from) (wanted_leads i w)))

  leads_wanted : All (λ (s : Step). (s.from < count) × (s.to < count)) steps → All (λ (k : ℕ). k < count) clocks → (k : ℕ) → Leads steps clocks k
      → IsWanted (graph_by count steps) (start_of clocks) k
  leads_wanted are named k (listed i) = at_start (in_start clocks k i) (own_zero count k (in_all (λ (k : ℕ). k < count) clocks k named i))
  leads_wanted are named k (by_step {s = s} i l) =
      let both = in_all (λ (s : Step). (s.from < count) × (s.to < count)) steps s are i in
      by_need (leads_wanted are named s.from l) (record {
        bit = s.to;
        is_read = ap (λ (l : List Span). some_holds l s.to) (reads_here s.from both.0) ∙ step_read steps s i;
        is_driven = own_zero count s.to both.1;
      })

  pub members_below : (members : List ℕ) → IsSliced (graph_by count steps) (start_of clocks) members → All (λ (k : ℕ). k < count) members
  members_below members are = all_in (λ (k : ℕ). k < count) members (λ k i. below_wanted k (are.only k i))

abbrev Ends : ℕ → Span → Type 0
Ends count s = s.to ≤ count

pub reads_end : (count : ℕ) (ss : List Step) (k : ℕ) → ((s : Step) → In s ss → s.to < count) → All (Ends count) (reads_of ss k)
reads_end count [] k h = all_none (Ends count)
reads_end count (s ∷ ss) k h = go (reads_end count ss k (λ t i. h t (inr i))) (s.from == k)
  where
    go : All (Ends count) (reads_of ss k) → (t : Bool) → All (Ends count) (if t then span s.to ∷ reads_of ss k else reads_of ss k)
    go rest true = all_more (Ends count) (span s.to) (reads_of ss k) (h s (inl refl)) rest
    go rest false = rest

pub starts_end : (count : ℕ) (clocks : List ℕ) → ((k : ℕ) → In k clocks → k < count) → All (Ends count) (map span clocks)
starts_end count [] h = all_none (Ends count)
starts_end count (k ∷ ks) h = all_more (Ends count) (span k) (map span ks) (h k (inl refl)) (starts_end count ks (λ j i. h j (inr i)))

-- what is read ends at a signal or before
pub all_end : (count : ℕ) (steps : List Step) → All (λ (s : Step). (s.from < count) × (s.to < count)) steps → (k : ℕ)
    → All (Ends count) (slice_index_or (with_steps (no_reads count) steps) k [])
all_end count steps are k = go (nat_lt k count) refl
  where
    ends : All (Ends count) (reads_of steps k)
    ends = reads_end count steps k (λ s i. (in_all (λ (s : Step). (s.from < count) × (s.to < count)) steps s are i).1)

    high : nat_lt k count ≡ true → k < count
    high e = grind (arith, nat_tests)

    low : nat_lt k count ≡ false → count ≤ k
    low e = grind (arith, nat_tests)

    long : length (with_steps (no_reads count) steps) ≡ count
    long = with_length (no_reads count) steps ∙ length-replicate count []

    go : (t : Bool) → nat_lt k count ≡ t → All (Ends count) (slice_index_or (with_steps (no_reads count) steps) k [])
    go true e = subst (λ (l : List Span). All (Ends count) l) (sym (reads_here count steps [] k (high e))) ends
    go false e =
        let far = low e in
        let over : length (with_steps (no_reads count) steps) ≤ k = omega (arith, far, long) in
        subst (λ (l : List Span). All (Ends count) l) (sym (past [] (with_steps (no_reads count) steps) k over)) (all_none (Ends count))

pub reads_count : (count : ℕ) (steps : List Step) → length (with_steps (no_reads count) steps) ≡ count
reads_count count steps = with_length (no_reads count) steps ∙ length-replicate count []

pub drivers_below : (count : ℕ) (b i : ℕ) → slice_index_or (own_drivers count) b None ≡ Some i → i < count
drivers_below count b i h = let r = own_back 0 count b i h in let s = r.0 in let t = r.1 in omega (arith, s, t)

pub drivers_count : (count : ℕ) → length (own_drivers count) ≡ count
drivers_count count = length-map-range_with_len Some 0 count

pub sliced_here : (count : ℕ) (steps : List Step) (clocks : List ℕ) (reads : List (List Span)) (drivers : List (Option ℕ)) (start : List Span) (members : List ℕ)
    → reads ≡ with_steps (no_reads count) steps → drivers ≡ own_drivers count → start ≡ start_of clocks → IsSliced (graph reads drivers) start members
    → IsSliced (graph_by count steps) (start_of clocks) members
sliced_here count steps clocks reads drivers start members e f g h =
    subst (λ (r : List (List Span)). IsSliced (graph r (own_drivers count)) (start_of clocks) members) e
    (subst (λ (d : List (Option ℕ)). IsSliced (graph reads d) (start_of clocks) members) f (subst (λ (s : List Span). IsSliced (graph reads drivers) s members) g h))

-- marks

marks_long : (ms : List Bool) (ks : List ℕ) → length (with_marks ms ks) ≡ length ms
marks_long ms [] = refl
marks_long ms (k ∷ ks) = marks_long (slice_set ms k true) ks ∙ set_length ms k true

stays : (ms : List Bool) (ks : List ℕ) (k : ℕ) → k < length ms → slice_index_or ms k false ≡ true → slice_index_or (with_marks ms ks) k false ≡ true
stays ms [] k below h = h
stays ms (j ∷ ks) k below h = let long = set_length ms j true in stays (slice_set ms j true) ks k (omega (arith, long, below)) (go (j == k) refl)
  where
    go : (t : Bool) → (j == k) ≡ t → slice_index_or (slice_set ms j true) k false ≡ true
    go true e = subst (λ (i : ℕ). slice_index_or (slice_set ms i true) k false ≡ true) (sym (same j k e)) (set_here false ms k true below)
    go false e = set_there false ms j true k (λ f. other e f) ∙ h
      where
        other : (j == k) ≡ false → k ≡ j → ⊥
        other e f = grind (arith, nat_tests)

in_marked : (ms : List Bool) (ks : List ℕ) (k : ℕ) → k < length ms → In k ks → slice_index_or (with_marks ms ks) k false ≡ true
in_marked ms [] k below i = absurd i
in_marked ms (j ∷ ks) k below (inl e) =
    let long = set_length ms j true in
    stays (slice_set ms j true) ks k (omega (arith, long, below)) (subst (λ (i : ℕ). slice_index_or (slice_set ms i true) k false ≡ true) e (set_here false ms k true below))
in_marked ms (j ∷ ks) k below (inr i) = let long = set_length ms j true in in_marked (slice_set ms j true) ks k (omega (arith, long, below)) i

marked_in : (ms : List Bool) (ks : List ℕ) (k : ℕ) → slice_index_or (with_marks ms ks) k false ≡ true → (slice_index_or ms k false ≡ true) ⊎ In k ks
marked_in ms [] k h = inl h
marked_in ms (j ∷ ks) k h = go (marked_in (slice_set ms j true) ks k h) (j == k) refl
  where
    go : (slice_index_or (slice_set ms j true) k false ≡ true) ⊎ In k ks → (t : Bool) → (j == k) ≡ t → (slice_index_or ms k false ≡ true) ⊎ In k (j ∷ ks)
    go r true e = inr (inl (sym (same j k e)))
    go (inr i) false e = inr (inr i)
    go (inl f) false e = inl (sym (set_there false ms j true k (λ f. other e f)) ∙ f)
      where
        other : (j == k) ≡ false → k ≡ j → ⊥
        other e f = grind (arith, nat_tests)

no_mark : (n k : ℕ) → slice_index_or (replicate n false) k false ≡ false
no_mark zero k = refl
no_mark (suc n) zero = refl
no_mark (suc n) (suc k) = no_mark n k

pub are_told : (count : ℕ) (steps : List Step) (clocks members : List ℕ) → All (λ (s : Step). (s.from < count) × (s.to < count)) steps → All (λ (k : ℕ). k < count) clocks
    → IsSliced (graph_by count steps) (start_of clocks) members → AreTold steps clocks count (marks count members)
are_told count steps clocks members are named sliced = record {
  many = marks_long (replicate count false) members ∙ length-replicate count false;
  each = λ k below. told k below (slice_index_or (marks count members) k false) refl;
}
  where
    member : (k : ℕ) → (slice_index_or (replicate count false) k false ≡ true) ⊎ In k members → In k members
    member k (inl e) = absurd (bad (sym (no_mark count k) ∙ e))
      where
        bad : false ≡ true → ⊥
        bad e = absurd (cc)
    member k (inr i) = i

    told : (k : ℕ) → k < count → (t : Bool) → slice_index_or (marks count members) k false ≡ t → IsTold steps clocks k t
    told k below true e = wanted_leads count steps clocks k (sliced.only k (member k (marked_in (replicate count false) members k e)))
    told k below false e = λ l. bad (sym e ∙ in_marked (replicate count false) members k (omega (arith, below, long)) (sliced.all k (leads_wanted count steps clocks are named k l)))
      where
        long : length (replicate count false) ≡ count
        long = length-replicate count false

        bad : false ≡ true → ⊥
        bad e = absurd (cc)
