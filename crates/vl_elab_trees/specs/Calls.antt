-- Calls with as many arguments as their functions have inputs (IEEE 1364-2005, 10.4.4).
use Rattle.std.specs.Prelude.{ℕ, suc, Bool, true, ◌&&◌, ◌||◌, not, nat_eq, length, Option, Some, None}
use Rattle.vl_size.specs.declared.table.NameKind.TheVariants as kind
use Rattle.vl_size.specs.declared.table.SizeEntry.{SizeEntry}
use Rattle.vl_size.specs.Nodes.{is_kind}
use Rattle.vl_size.specs.Tables.{Look}
use Rattle.vl_size.specs.Terms.{Term, Terms, Pick, Picks, number, name, call, system, concat, repeat, group, unary, binary, choice, index, range, up, down, whole, pick}
use Rattle.vl_size.specs.Terms as term

abbrev pub count_of : Terms → ℕ
count_of term.none = 0
count_of (term.more t ts) = suc (count_of ts)

-- what is called with n arguments is no function with another number of inputs
abbrev pub takes : Option SizeEntry → ℕ → Bool
takes None n = true
takes (Some e) n = not (is_kind e.kind kind.Function) || nat_eq n (length e.inputs)

abbrev mutual
  -- Each call is such. What stands in a count, a bound or a width is constant, so no call is allowed there at all.
  pub calls_fit : Look → Term → Bool
  calls_fit look (number text) = true
  calls_fit look (name w ps) = picks_fit look ps
  calls_fit look (call w ts) = takes (look w) (count_of ts) && all_calls_fit look ts
  calls_fit look (system f a) = calls_fit look a
  calls_fit look (concat ts) = all_calls_fit look ts
  calls_fit look (repeat c ts) = all_calls_fit look ts
  calls_fit look (group a) = calls_fit look a
  calls_fit look (unary op a) = calls_fit look a
  calls_fit look (binary op a c) = calls_fit look a && calls_fit look c
  calls_fit look (choice t a c) = calls_fit look t && (calls_fit look a && calls_fit look c)

  pub picks_fit : Look → Picks → Bool
  picks_fit look whole = true
  picks_fit look (pick p ps) = pick_fits look p

  pub pick_fits : Look → Pick → Bool
  pick_fits look (index a) = calls_fit look a
  pick_fits look (range h l) = true
  pick_fits look (up a w) = calls_fit look a
  pick_fits look (down a w) = calls_fit look a

  pub all_calls_fit : Look → Terms → Bool
  all_calls_fit look term.none = true
  all_calls_fit look (term.more t ts) = calls_fit look t && all_calls_fit look ts
