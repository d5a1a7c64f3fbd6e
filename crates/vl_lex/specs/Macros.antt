-- Macros and their expansion (IEEE 1364-2005, section 19.3).
use Rattle.std.specs.Prelude.{ℕ, zero, suc, Bool, true, false, if◌then◌else◌, Option, Some, None, Ok, List, [], ◌∷◌, drop, map, codes}
use Rattle.std.specs.Str.{bytes_eq}
use Rattle.std.specs.Option.{option_map}
use Rattle.std.specs.HashMap.{get_by}
use Rattle.vl_tree.specs.declared.tokens.Token.{Token}
use Rattle.vl_tree.specs.declared.tokens.TokenKind.{TokenKind}
use Rattle.vl_tree.specs.declared.tokens.TokenKind.TheVariants as k
use Rattle.vl_tree.specs.declared.faults.Code.{Code}
use Rattle.vl_tree.specs.declared.faults.Code.TheVariants as code
use Rattle.vl_lex.specs.declared.gate.Halt.{Halt}
use Rattle.vl_lex.specs.declared.macros.Macros.{Macros}
use Rattle.vl_lex.specs.declared.directives.Directive.{Directive}
use Rattle.vl_lex.specs.declared.directives.Directive.TheVariants as d
use Rattle.vl_lex.specs.Bytes.{Text}
use Rattle.vl_lex.specs.Lexed.{Seen, view}
use Rattle.vl_lex.specs.Gate.{SGate, Reached, and_then, fault_at, fed, halted}

-- the body of each macro that is defined
abbrev pub Table : Type 0
Table = Text → Option (List Seen)

abbrev pub updated : Table → Text → Option (List Seen) → Table
updated table name body = λ q. if bytes_eq name q then body else table q

abbrev pub look : Macros → Table
look macros = λ q. option_map (map view) (get_by (λ k. bytes_eq q k.now) macros.bodies)

-- the directives of the language by their names
abbrev pub Entry : Type 0
Entry = List ℕ × Directive

abbrev pub as_directive : List ℕ → Directive → Entry
as_directive text directive = (text, directive)

abbrev pub named : List Entry → Text → Directive
named [] text = d.Macro
named (e ∷ es) text = if bytes_eq text e.0 then e.1 else named es text

unfoldable pub directives : List Entry
directives =
    as_directive (codes "define") d.Define ∷
    as_directive (codes "undef") d.Undef ∷
    as_directive (codes "ifdef") d.IfDef ∷
    as_directive (codes "ifndef") d.IfNdef ∷
    as_directive (codes "elsif") d.ElsIf ∷
    as_directive (codes "else") d.Else ∷
    as_directive (codes "endif") d.EndIf ∷
    as_directive (codes "include") d.Include ∷
    as_directive (codes "default_nettype") d.DefaultNettype ∷
    as_directive (codes "resetall") d.ResetAll ∷
    as_directive (codes "timescale") d.DropsLine ∷
    as_directive (codes "line") d.DropsLine ∷
    as_directive (codes "pragma") d.DropsLine ∷
    as_directive (codes "begin_keywords") d.DropsLine ∷
    as_directive (codes "celldefine") d.Nothing ∷
    as_directive (codes "endcelldefine") d.Nothing ∷
    as_directive (codes "end_keywords") d.Nothing ∷
    as_directive (codes "nounconnected_drive") d.Nothing ∷
    as_directive (codes "unconnected_drive") d.UnconnectedDrive ∷
    []

unfoldable pub directive_of : Text → Directive
directive_of name = named directives name

abbrev pub is_directive : TokenKind → Bool
is_directive k.Directive = true
is_directive _ = false

-- the name behind the backquote
abbrev pub directive_name : Seen → Text
directive_name t = drop 1 t.text

abbrev pub of_macro : Directive → Option (List Seen) → Option (List Seen)
of_macro d.Macro body = body
of_macro _ body = None

-- the body of the macro that a token names; none for a directive of the language
unfoldable pub body_of : Table → Seen → Option (List Seen)
body_of table t = of_macro (directive_of (directive_name t)) (table (directive_name t))

abbrev pub code_of : Directive → Code
code_of d.UnconnectedDrive = code.LeftOut
code_of _ = code.Directive

-- why a directive ends the walk inside a body that is expanded
unfoldable pub expansion_fault : Seen → Halt
expansion_fault t = fault_at (code_of (directive_of (directive_name t))) t.span.file t.span.line

-- a kept token says whether undeclared names may be nets there
abbrev pub marked : Bool → Seen → Seen
marked implicit t = record { kind = t.kind; text = t.text; span = t.span; implicit = implicit }

abbrev pub fold_tokens : (Seen → SGate → Reached SGate) → List Seen → SGate → Reached SGate
fold_tokens f [] g = Ok g
fold_tokens f (t ∷ ts) g = and_then (f t g) (fold_tokens f ts)

abbrev pub called : (Table → List Seen → SGate → Reached SGate) → Table → Option (List Seen) → Seen → SGate → Reached SGate
called inner table None t g = halted g (expansion_fault t)
called inner table (Some body) t g = inner (updated table (directive_name t) None) body g

-- One token of a body. Inside a macro's own body it counts as not defined, so the number of macros, the first argument, bounds how deep they nest.
unfoldable pub body_token : ℕ → Table → Bool → Seen → SGate → Reached SGate
body_token zero table implicit t g = if is_directive t.kind then halted g (expansion_fault t) else fed g (marked implicit t) g.mode
body_token (suc depth) table implicit t g =
    if is_directive t.kind
    then called (λ inner body n. fold_tokens (body_token depth inner implicit) body n) table (body_of table t) t g
    else fed g (marked implicit t) g.mode

-- the tokens of a body, each expanded
unfoldable pub expanded : ℕ → Table → Bool → List Seen → SGate → Reached SGate
expanded depth table implicit body g = fold_tokens (body_token depth table implicit) body g

abbrev pub seen_body : Option (List Token) → Option (List Seen)
seen_body body = option_map (map view) body
