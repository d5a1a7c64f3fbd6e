-- The faults of an expression one by one, place by place: unknown names, and lengths and ranges that are against the rules.
use Rattle.std.specs.Prelude.{◌≡◌, ℕ, Bool, false, ◌||◌, not, nat_eq, nat_lt, List, [], ◌∷◌, ◌++◌, Option, Some, None}
use Rattle.vl_tree.specs.declared.faults.Code.{Code}
use Rattle.vl_tree.specs.declared.faults.Code.TheVariants.{UnknownName, BadRange, WideArithmetic}
use Rattle.vl_tree.specs.Order.{where_true, if_any, lowest}
use Rattle.vl_size.specs.declared.constant.Const.{Const}
use Rattle.vl_size.specs.declared.table.SizeEntry.{SizeEntry}
use Rattle.vl_size.specs.declared.table.NameKind.TheVariants as kind
use Rattle.vl_size.specs.declared.tree.Sizing.{Sizing}
use Rattle.vl_size.specs.Constants.{next_value, next_number, behind_next}
use Rattle.vl_size.specs.Nodes.{one, two, is_kind, is_bare, total, times, is_bad_count, width_of, is_bad_width, range_width, is_bad_range}
use Rattle.vl_size.specs.Owns.{own, owns, inputs_of}
use Rattle.vl_size.specs.Placed.{placing, is_bad_whole, widened}
use Rattle.vl_size.specs.Placed as placed
use Rattle.vl_size.specs.Sizings.{node_of, is_some_empty}
use Rattle.vl_size.specs.Tables.{Look}
use Rattle.vl_size.specs.Terms.{Term, Terms, Pick, Picks, number, name, call, system, concat, repeat, group, unary, binary, choice, index, range, up, down, whole, pick}
use Rattle.vl_size.specs.Terms as term
use Rattle.vl_size.specs.Texts.{number_size}

-- a code where the test is true
abbrev pub one_where : Bool → Code → List Code
one_where t c = if_any (where_true t c)

-- a length above 65,536
abbrev pub long_codes : ℕ → List Code
long_codes n = one_where (nat_lt 65536 n) BadRange

-- an operand without length
abbrev pub empty_codes : List Sizing → List Code
empty_codes ps = one_where (is_some_empty ps) BadRange

-- a name that is read
abbrev pub name_codes : Option SizeEntry → List Code
name_codes None = UnknownName ∷ []
name_codes (Some e) = one_where (is_kind e.kind kind.Function) UnknownName ++ long_codes e.length

abbrev pub call_codes : Option SizeEntry → List Sizing → List Code
call_codes None ps = UnknownName ∷ []
call_codes (Some e) ps = (one_where (not (is_kind e.kind kind.Function)) UnknownName ++ empty_codes ps) ++ long_codes e.length

abbrev pub select_codes : Option SizeEntry → ℕ → Bool → List Sizing → List Code
select_codes None width bad ps = (UnknownName ∷ []) ++ long_codes width
select_codes (Some e) width bad ps = (one_where (is_kind e.kind kind.Function) UnknownName ++ one_where (is_bare e || (bad || is_some_empty ps)) BadRange) ++ long_codes width

abbrev pub concat_codes : List Sizing → List Code
concat_codes ps = one_where (nat_eq (total ps) 0) BadRange ++ long_codes (total ps)

abbrev pub repeat_codes : List Const → List Sizing → List Code
repeat_codes cs ps = one_where (is_bad_count (next_value cs) || nat_eq (total ps) 0) BadRange ++ long_codes (times (next_value cs) (total ps))

abbrev mutual
  pub faults : Look → Term → List Const → List Code
  faults look (number text) cs = long_codes (number_size text).length
  faults look (name x ps) cs = faults_picks look (look x) ps cs
  faults look (call x ts) cs = faults_each look ts cs ++ call_codes (look x) (owns look ts (inputs_of (look x)) cs).0
  faults look (system f a) cs = faults look a cs ++ empty_codes (one (own look a cs).0)
  faults look (concat ts) cs = faults_each look ts cs ++ concat_codes (owns look ts [] cs).0
  faults look (repeat c ts) cs = faults_each look ts (behind_next cs) ++ repeat_codes cs (owns look ts [] (behind_next cs)).0
  faults look (group a) cs = faults look a cs
  faults look (unary op a) cs = faults look a cs ++ empty_codes (one (own look a cs).0)
  faults look (binary op a c) cs = (faults look a cs ++ faults look c (own look a cs).1) ++ empty_codes (two (own look a cs).0 (own look c (own look a cs).1).0)
  faults look (choice t a c) cs =
      ((faults look t cs ++ faults look a (own look t cs).1) ++ faults look c (own look a (own look t cs).1).1)
      ++ empty_codes ((own look t cs).0 ∷ two (own look a (own look t cs).1).0 (own look c (own look a (own look t cs).1).1).0)

  pub faults_picks : Look → Option SizeEntry → Picks → List Const → List Code
  faults_picks look e whole cs = name_codes e
  faults_picks look e (pick p ps) cs = faults_pick look e p cs

  pub faults_pick : Look → Option SizeEntry → Pick → List Const → List Code
  faults_pick look e (index a) cs = faults look a cs ++ select_codes e 1 false (one (own look a cs).0)
  faults_pick look e (range h l) cs = select_codes e (range_width (next_number cs) (next_number (behind_next cs))) (is_bad_range e (next_number cs) (next_number (behind_next cs))) []
  faults_pick look e (up a w) cs = faults look a cs ++ select_codes e (width_of (next_value (own look a cs).1)) (is_bad_width (next_value (own look a cs).1)) (one (own look a cs).0)
  faults_pick look e (down a w) cs = faults look a cs ++ select_codes e (width_of (next_value (own look a cs).1)) (is_bad_width (next_value (own look a cs).1)) (one (own look a cs).0)

  pub faults_each : Look → Terms → List Const → List Code
  faults_each look term.none cs = []
  faults_each look (term.more t ts) cs = faults look t cs ++ faults_each look ts (own look t cs).1

-- those of a whole expression in a context: its own, its length or that of the context, arithmetic on more than 128 bits
abbrev pub whole_faults : Look → List Const → ℕ → Term → List Code
whole_faults look cs n t =
    faults look t cs ++ (one_where (is_bad_whole n (own look t cs).0) BadRange ++ one_where ((placing (own look t cs).0).wide (widened n (own look t cs).0)) WideArithmetic)

-- what an expression is refused with is the lowest of its faults, before it has a context and in one
abbrev pub FaultsAreLowest : Type 0
FaultsAreLowest = (look : Look) (t : Term) (cs : List Const) → (node_of (own look t cs).0).fault ≡ lowest (faults look t cs)

abbrev pub WholeFaultsAreLowest : Type 0
WholeFaultsAreLowest = (look : Look) (t : Term) (cs : List Const) (n : ℕ) → placed.lowest n (own look t cs).0 ≡ lowest (whole_faults look cs n t)
