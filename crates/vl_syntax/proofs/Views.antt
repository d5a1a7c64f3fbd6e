-- What the parser answers, by what the tokens say.
use Rattle.std.proofs.Common.{◌≡◌, ◌∙◌, List, map, refl, ap}
use Rattle.vl_tree.specs.declared.faults.Code.{Code}
use Rattle.vl_tree.specs.declared.faults.Code.TheVariants as code
use Rattle.vl_tree.specs.declared.faults.Fault.{Fault}
use Rattle.vl_tree.specs.declared.faults.Place.{Place}
use Rattle.vl_tree.specs.declared.faults.Stop.{Stop}
use Rattle.vl_tree.specs.declared.faults.Stop.TheVariants as stop
use Rattle.vl_tree.specs.declared.modules.Module.{Module}
use Rattle.vl_lex.specs.Lexed.{view}
use Rattle.vl_grammar.specs.Read.{Tokens}
use Rattle.vl_parse.specs.Sources.{IsSource, Refuses}
use Rattle.grammar_views.specs.Views.{IsSpelled}
use Rattle.vl_syntax.specs.Refused.{IsRefused, syntax_at}

pub spelled : (ts : Tokens) (ms : List Module) → IsSource ms ts → IsSpelled (map view ts)
spelled ts ms d = record { at = ts; say = refl; modules = ms; stands = d }

pub refused : (ts : Tokens) (s : Stop) → Refuses ts s → IsRefused (map view ts) s
refused ts (stop.Fault f) r =
    let t = r.2.0 in
    let by_code : ◌≡◌ {A = Fault} f (record { code = code.Syntax; place = f.place }) = ap (λ (x : Code). record { code = x; place = f.place }) r.1 in
    let by_place : ◌≡◌ {A = Fault} (record { code = code.Syntax; place = f.place }) (syntax_at (view t)) = ap (λ (x : Place). record { code = code.Syntax; place = x }) r.2.2 in
    (view t, record { at = ts; say = refl; token = t; says = refl; breaks = r.2.1 }, by_code ∙ by_place)
refused ts (stop.Limit l) r = absurd r
refused ts stop.NoMemory r = tt
