-- What a design keeps of its scopes, signals, items and power-up values.
use Rattle.std.specs.Prelude.{ℕ, zero, suc, ◌+◌, ◌-◌, ◌/◌, ◌%◌, ◌^◌, Bool, true, false, not, ◌&&◌, ◌==◌, nat_lt, nat_le, int_lt, if◌then◌else◌, List, [], ◌∷◌, ◌++◌, length, map, drop, sum, slice_index_or, Option, Some, None, ℤ, pos, negsuc, ◌+ℤ◌, ◌-ℤ◌}
use Rattle.std.specs.List.{list_all, list_any, filter}
use Rattle.design_core.specs.declared.place.BitRef.{BitRef}
use Rattle.design_core.specs.declared.items.Item.{Item}
use Rattle.design_core.specs.declared.items.Item.TheVariants as item
use Rattle.design_core.specs.declared.items.DReset.{DReset}
use Rattle.design_core.specs.declared.tree.DStmt.{DStmt}
use Rattle.design_core.specs.declared.signals.Scope.{Scope}
use Rattle.design_core.specs.declared.signals.Signal.{Signal}
use Rattle.design_core.specs.declared.items.PowerUp.{PowerUp}
use Rattle.bits_core.specs.Places.{is_set}
use Rattle.design_core.specs.Core.{same_bit, spots, value, Term, constant, span, own, app1, app2, app3, call, Args, stop, pass, Left, nowhere, both, slice, slice_at, Stmt, skip, seq, write, choose}
use Rattle.design_core.specs.Terms.{term, stmt}
use Rattle.design_core.specs.Formed.{is_vector, of_kind, sized_expr, sized_left, sized_stmt}
use Rattle.design_core.specs.Parts.{length_at, scope_of, is_register, bits_of_signals}
use Rattle.design_core.specs.Numbers.{is_bit}

-- the same bytes
abbrev pub same_bytes : List ℕ → List ℕ → Bool
same_bytes [] [] = true
same_bytes [] (b ∷ bs) = false
same_bytes (a ∷ rest) [] = false
same_bytes (a ∷ rest) (b ∷ bs) = (a == b) && same_bytes rest bs

-- no two are the same
abbrev pub all_distinct : List (List ℕ) → Bool
all_distinct [] = true
all_distinct (x ∷ xs) = not (list_any (same_bytes x) xs) && all_distinct xs

-- a number in decimal digits, of which there are fewer than the first number
abbrev pub digits : ℕ → ℕ → List ℕ
digits zero n = []
digits (suc k) n = if nat_lt n 10 then (48 + n) ∷ [] else digits k (n / 10) ++ (48 + n % 10) ∷ []

-- a number in decimal digits
unfoldable pub decimal : ℕ → List ℕ
decimal n = digits 20 n

-- an index as it is printed
abbrev pub index_text : ℤ → List ℕ
index_text (pos n) = decimal n
index_text (negsuc n) = 45 ∷ decimal (suc n)

-- the same between brackets
abbrev pub bracketed : ℤ → List ℕ
bracketed i = 91 ∷ (index_text i ++ 93 ∷ [])

-- a path, a dot and a name
abbrev pub dotted : List ℕ → List ℕ → List ℕ
dotted path name = path ++ 46 ∷ name

-- how far apart two bounds are, both counted (4.3)
abbrev pub distance : ℤ → ℕ
distance (pos n) = n
distance (negsuc n) = suc n

abbrev pub span_of : ℤ → ℤ → ℕ
span_of high low = suc (distance (high -ℤ low))

-- the declared index of bit k: the right bound is that of bit 0 (4.3.1)
abbrev pub bit_index : Signal → ℕ → ℤ
bit_index x k = if int_lt x.high x.low then x.low -ℤ pos k else x.low +ℤ pos k

-- a bit as it is printed: the signal's path, and where the signal has a range the index in brackets
abbrev pub bit_text : Signal → ℕ → List ℕ
bit_text x k = if x.ranged then x.path ++ bracketed (bit_index x k) else x.path

abbrev pub texts_from : Signal → ℕ → ℕ → List (List ℕ)
texts_from x k zero = []
texts_from x k (suc n) = bit_text x k ∷ texts_from x (suc k) n

abbrev pub bit_texts : List Signal → List (List ℕ)
bit_texts [] = []
bit_texts (x ∷ xs) = texts_from x 0 x.length ++ bit_texts xs

abbrev pub path_at : List Scope → ℕ → List ℕ
path_at scopes s = slice_index_or (map (λ (x : Scope). x.path) scopes) s []

-- scope k: the root stands at 0 and its path is its name; any other stands behind its parent, and its name follows the parent's path and a dot
abbrev pub scope_fits : List Scope → ℕ → Option ℕ → Scope → Bool
scope_fits scopes k None x = (k == 0) && same_bytes x.path x.name
scope_fits scopes k (Some p) x = nat_lt p k && same_bytes x.path (dotted (path_at scopes p) x.name)

abbrev pub scopes_fit : List Scope → ℕ → List Scope → Bool
scopes_fit scopes k [] = true
scopes_fit scopes k (x ∷ xs) = scope_fits scopes k x.parent x && scopes_fit scopes (suc k) xs

-- a declared bound is from -2^31 to 2^31 - 1
abbrev pub is_bound : ℤ → Bool
is_bound (pos n) = nat_lt n (2 ^ 31)
is_bound (negsuc n) = nat_lt n (2 ^ 31)

-- the first list is some bytes and then the second
abbrev pub ends_with : List ℕ → List ℕ → Bool
ends_with xs ys = nat_lt (length ys) (length xs) && same_bytes (drop (length xs - length ys) xs) ys

-- the name of a word of an array is the array's name and then the index of the word in brackets
abbrev pub word_fits : List ℕ → Option ℤ → Bool
word_fits name None = true
word_fits name (Some k) = ends_with name (bracketed k)

-- a signal's path is that of its scope, a dot and its name
abbrev pub path_fits : List Scope → Signal → Bool
path_fits scopes x = same_bytes x.path (dotted (path_at scopes x.scope) x.name) && word_fits x.name x.word

-- a signal stands in a scope, and has as many bits as its bounds span, or one where it has no range
abbrev pub signal_fits : List Scope → Signal → Bool
signal_fits scopes x = nat_lt x.scope (length scopes) && is_vector x.length
    && (if x.ranged then is_bound x.high && is_bound x.low && (span_of x.high x.low == x.length) else (x.length == 1))
    && path_fits scopes x

abbrev mutual
  -- no signal is read
  pub is_silent : Term → Bool
  is_silent (constant v) = true
  is_silent (span s m low n) = false
  is_silent (own k) = true
  is_silent (app1 f a) = is_silent a
  is_silent (app2 f a b) = is_silent a && is_silent b
  is_silent (app3 f c a b) = is_silent c && is_silent a && is_silent b
  is_silent (call arguments body n inputs locals) = silent_args arguments && silent_stmt body

  pub silent_args : Args → Bool
  silent_args stop = true
  silent_args (pass e rest) = is_silent e && silent_args rest

  pub silent_left : Left → Bool
  silent_left nowhere = true
  silent_left (both x y) = silent_left x && silent_left y
  silent_left (slice base m low n) = true
  silent_left (slice_at base m f e n) = is_silent e

  pub silent_stmt : Stmt → Bool
  silent_stmt skip = true
  silent_stmt (seq x y) = silent_stmt x && silent_stmt y
  silent_stmt (write l e blocking) = is_silent e && silent_left l
  silent_stmt (choose c x y) = is_silent c && silent_stmt x && silent_stmt y

-- place k alone is among these
abbrev pub only_place : ℕ → List (Option ℕ) → Bool
only_place k [] = true
only_place k (None ∷ ps) = only_place k ps
only_place k (Some j ∷ ps) = (k == j) && only_place k ps

-- an expression without calls reads that bit alone
abbrev pub reads_only : BitRef → Term → Bool
reads_only r (constant v) = true
reads_only r (span s m low n) = (r.signal == s) && only_place r.bit (spots m low n)
reads_only r (own k) = true
reads_only r (app1 f a) = reads_only r a
reads_only r (app2 f a b) = reads_only r a && reads_only r b
reads_only r (app3 f c a b) = reads_only r c && reads_only r a && reads_only r b
reads_only r (call arguments body n inputs locals) = false

-- the test of a reset reads the reset bit alone, and is true where that bit has its asserted value and false where it has the other
abbrev pub tells_reset : (ℕ → ℕ) → DReset → Bool
tells_reset size r = reads_only r.bit (term size r.test)
    && is_set (value (term size r.test) (λ b. same_bit b r.bit && r.asserted) [])
    && not (is_set (value (term size r.test) (λ b. same_bit b r.bit && not r.asserted) []))

-- the weight that an item carries
abbrev pub carried_weight : Item → ℕ
carried_weight (item.Assign scope weight l e) = weight
carried_weight (item.Comb scope weight body) = weight
carried_weight (item.Clocked scope weight reset body) = weight

-- the weight of a clocked item: that of its body, with a reset that of an `if` with both branches
abbrev pub reset_weight : List ℕ → Option DReset → DStmt → ℕ
reset_weight vs None body = (sized_stmt vs body).weight []
reset_weight vs (Some r) body = (sized_expr vs r.test).weight [] + 1 + (sized_stmt vs r.branch).weight [] + (sized_stmt vs body).weight []

-- what an item weighs: an assign its left side's length and what its right side weighs, a process what its statements weigh
abbrev pub weight_of : List ℕ → Item → ℕ
weight_of vs (item.Assign scope weight l e) = (sized_left vs l).length + (sized_left vs l).weight [] + (sized_expr vs e).weight []
weight_of vs (item.Comb scope weight body) = (sized_stmt vs body).weight []
weight_of vs (item.Clocked scope weight reset body) = reset_weight vs reset body

-- a reset is a bit, with a formed test that tells whether it holds, and a branch that reads no signal
abbrev pub reset_fits : List ℕ → (ℕ → ℕ) → Option DReset → Bool
reset_fits vs size None = true
reset_fits vs size (Some r) = (is_bit vs r.bit && (sized_expr vs r.test).formed [] && tells_reset size r)
    && (sized_stmt vs r.branch).formed [] false (of_kind false) && silent_stmt (stmt size r.branch)

-- an assign's left side has no variable index; writes of a combinational body are blocking, those of a clocked body and a reset branch nonblocking
abbrev pub tree_fits : List ℕ → (ℕ → ℕ) → Item → Bool
tree_fits vs size (item.Assign scope weight l e) = (sized_left vs l).formed [] false && (sized_left vs l).fixed && (sized_expr vs e).formed []
    && nat_le (sized_left vs l).length (sized_expr vs e).length
tree_fits vs size (item.Comb scope weight body) = (sized_stmt vs body).formed [] false (of_kind true)
tree_fits vs size (item.Clocked scope weight reset body) = (sized_stmt vs body).formed [] false (of_kind false) && reset_fits vs size reset

-- an item stands in a scope, is formed, and carries what it weighs
abbrev pub item_fits : List ℕ → (ℕ → ℕ) → ℕ → Item → Bool
item_fits vs size scopes i = nat_lt (scope_of i) scopes && tree_fits vs size i && (carried_weight i == weight_of vs i)

abbrev pub same_bits : List BitRef → List BitRef → Bool
same_bits [] [] = true
same_bits [] (b ∷ bs) = false
same_bits (a ∷ rest) [] = false
same_bits (a ∷ rest) (b ∷ bs) = same_bit a b && same_bits rest bs

abbrev pub signal_lengths : List Signal → List ℕ
signal_lengths signals = map (λ (x : Signal). x.length) signals

-- what the signals and the items weigh together
abbrev pub total_weight : List Signal → List Item → ℕ
total_weight signals items = sum (signal_lengths signals) + sum (map carried_weight items)

-- scopes and signals have their paths and places, and items are formed and carry their weights
unfoldable pub are_formed : List Scope → List Signal → List Item → Bool
are_formed scopes signals items =
    nat_lt 0 (length scopes)
    && scopes_fit scopes 0 scopes
    && list_all (signal_fits scopes) signals
    && list_all (item_fits (signal_lengths signals) (length_at signals) (length scopes)) items

-- no two scopes print alike
unfoldable pub scopes_apart : List Scope → Bool
scopes_apart scopes = all_distinct (map (λ (x : Scope). x.path) scopes)

-- no two signals print alike, and no two bits
unfoldable pub print_apart : List Signal → Bool
print_apart signals = all_distinct (map (λ (x : Signal). x.path) signals) && all_distinct (bit_texts signals)

-- the register bits of a design, in the order of bits
abbrev pub register_bits : List Signal → List Item → List BitRef
register_bits signals items = filter (is_register signals items) (bits_of_signals 0 signals)

-- the parts of a design fit together: scopes, signals and items are formed, nothing prints alike,
-- there is one power-up value for each register bit, in the order of bits, and the whole weighs at most 2^22
unfoldable pub is_design : List Scope → List Signal → List Item → List PowerUp → Bool
is_design scopes signals items powerup =
    are_formed scopes signals items
    && scopes_apart scopes
    && print_apart signals
    && same_bits (map (λ (x : PowerUp). x.bit) powerup) (register_bits signals items)
    && nat_le (total_weight signals items) (2 ^ 22)
