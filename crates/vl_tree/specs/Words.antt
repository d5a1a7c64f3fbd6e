-- What the grammar sees of a token: one word for each fixed word, and one for names, numbers, system names.
use Rattle.std.specs.Prelude.{ℕ, ◌==◌, ◌||◌, Bool, if◌then◌else◌, List, [], ◌∷◌, codes}
use Rattle.std.specs.Str.{bytes_eq}
use Rattle.std.specs.List.{list_any}
use denote.Enum.Bare.{sameb}
use Rattle.vl_tree.specs.contracts.words.Word.{the_type}
use Rattle.vl_tree.specs.declared.tokens.Token.{Token}
use Rattle.vl_tree.specs.declared.tokens.TokenKind.{TokenKind}
use Rattle.vl_tree.specs.declared.tokens.TokenKind.TheVariants as k
use Rattle.vl_tree.specs.declared.words.Word.{Word}
use Rattle.vl_tree.specs.declared.words.Word.TheVariants as w

-- a text and the word that it is
abbrev pub Entry : Type 0
Entry = List ℕ × Word

abbrev pub as_word : List ℕ → Word → Entry
as_word text word = (text, word)

-- the word of a text in a list of fixed words, a name where the list lacks it
abbrev pub named : List Entry → List ℕ → Word
named [] text = w.Name
named (e ∷ es) text = if bytes_eq text e.0 then e.1 else named es text

-- the reserved words of the grammar and the words that are left out, by their first letter

unfoldable pub words_with_a : List Entry
words_with_a =
    as_word (codes "always") w.Always ∷
    as_word (codes "and") w.And ∷
    as_word (codes "assign") w.Assign ∷
    as_word (codes "automatic") w.Automatic ∷
    []

unfoldable pub words_with_b : List Entry
words_with_b =
    as_word (codes "begin") w.Begin ∷
    as_word (codes "buf") w.Buf ∷
    as_word (codes "bufif0") w.LeftOut ∷
    as_word (codes "bufif1") w.LeftOut ∷
    []

unfoldable pub words_with_c : List Entry
words_with_c =
    as_word (codes "case") w.Case ∷
    as_word (codes "casex") w.LeftOut ∷
    as_word (codes "casez") w.CaseZ ∷
    as_word (codes "cell") w.LeftOut ∷
    as_word (codes "cmos") w.LeftOut ∷
    as_word (codes "config") w.LeftOut ∷
    []

unfoldable pub words_with_d : List Entry
words_with_d =
    as_word (codes "deassign") w.LeftOut ∷
    as_word (codes "default") w.Default ∷
    as_word (codes "defparam") w.LeftOut ∷
    as_word (codes "design") w.LeftOut ∷
    as_word (codes "disable") w.LeftOut ∷
    []

unfoldable pub words_with_e : List Entry
words_with_e =
    as_word (codes "edge") w.LeftOut ∷
    as_word (codes "else") w.Else ∷
    as_word (codes "end") w.End ∷
    as_word (codes "endcase") w.EndCase ∷
    as_word (codes "endconfig") w.LeftOut ∷
    as_word (codes "endfunction") w.EndFunction ∷
    as_word (codes "endgenerate") w.EndGenerate ∷
    as_word (codes "endmodule") w.EndModule ∷
    as_word (codes "endprimitive") w.LeftOut ∷
    as_word (codes "endspecify") w.LeftOut ∷
    as_word (codes "endtable") w.LeftOut ∷
    as_word (codes "endtask") w.LeftOut ∷
    as_word (codes "event") w.LeftOut ∷
    []

unfoldable pub words_with_f : List Entry
words_with_f =
    as_word (codes "for") w.For ∷
    as_word (codes "force") w.LeftOut ∷
    as_word (codes "forever") w.LeftOut ∷
    as_word (codes "fork") w.LeftOut ∷
    as_word (codes "function") w.Function ∷
    []

unfoldable pub words_with_g : List Entry
words_with_g =
    as_word (codes "generate") w.Generate ∷
    as_word (codes "genvar") w.GenVar ∷
    []

unfoldable pub words_with_h : List Entry
words_with_h =
    as_word (codes "highz0") w.LeftOut ∷
    as_word (codes "highz1") w.LeftOut ∷
    []

unfoldable pub words_with_i : List Entry
words_with_i =
    as_word (codes "if") w.If ∷
    as_word (codes "ifnone") w.LeftOut ∷
    as_word (codes "incdir") w.LeftOut ∷
    as_word (codes "include") w.LeftOut ∷
    as_word (codes "initial") w.Initial ∷
    as_word (codes "inout") w.LeftOut ∷
    as_word (codes "input") w.Input ∷
    as_word (codes "instance") w.LeftOut ∷
    as_word (codes "integer") w.Integer ∷
    []

unfoldable pub words_with_j : List Entry
words_with_j =
    as_word (codes "join") w.LeftOut ∷
    []

unfoldable pub words_with_l : List Entry
words_with_l =
    as_word (codes "large") w.LeftOut ∷
    as_word (codes "liblist") w.LeftOut ∷
    as_word (codes "library") w.LeftOut ∷
    as_word (codes "localparam") w.LocalParam ∷
    []

unfoldable pub words_with_m : List Entry
words_with_m =
    as_word (codes "macromodule") w.LeftOut ∷
    as_word (codes "medium") w.LeftOut ∷
    as_word (codes "module") w.Module ∷
    []

unfoldable pub words_with_n : List Entry
words_with_n =
    as_word (codes "nand") w.Nand ∷
    as_word (codes "negedge") w.Negedge ∷
    as_word (codes "nmos") w.LeftOut ∷
    as_word (codes "nor") w.Nor ∷
    as_word (codes "noshowcancelled") w.LeftOut ∷
    as_word (codes "not") w.Not ∷
    as_word (codes "notif0") w.LeftOut ∷
    as_word (codes "notif1") w.LeftOut ∷
    []

unfoldable pub words_with_o : List Entry
words_with_o =
    as_word (codes "or") w.Or ∷
    as_word (codes "output") w.Output ∷
    []

unfoldable pub words_with_p : List Entry
words_with_p =
    as_word (codes "parameter") w.Parameter ∷
    as_word (codes "pmos") w.LeftOut ∷
    as_word (codes "posedge") w.Posedge ∷
    as_word (codes "primitive") w.LeftOut ∷
    as_word (codes "pull0") w.LeftOut ∷
    as_word (codes "pull1") w.LeftOut ∷
    as_word (codes "pulldown") w.LeftOut ∷
    as_word (codes "pullup") w.LeftOut ∷
    as_word (codes "pulsestyle_ondetect") w.LeftOut ∷
    as_word (codes "pulsestyle_onevent") w.LeftOut ∷
    []

unfoldable pub words_with_r : List Entry
words_with_r =
    as_word (codes "rcmos") w.LeftOut ∷
    as_word (codes "real") w.LeftOut ∷
    as_word (codes "realtime") w.LeftOut ∷
    as_word (codes "reg") w.Reg ∷
    as_word (codes "release") w.LeftOut ∷
    as_word (codes "repeat") w.LeftOut ∷
    as_word (codes "rnmos") w.LeftOut ∷
    as_word (codes "rpmos") w.LeftOut ∷
    as_word (codes "rtran") w.LeftOut ∷
    as_word (codes "rtranif0") w.LeftOut ∷
    as_word (codes "rtranif1") w.LeftOut ∷
    []

unfoldable pub words_with_s : List Entry
words_with_s =
    as_word (codes "scalared") w.LeftOut ∷
    as_word (codes "showcancelled") w.LeftOut ∷
    as_word (codes "signed") w.Signed ∷
    as_word (codes "small") w.LeftOut ∷
    as_word (codes "specify") w.LeftOut ∷
    as_word (codes "specparam") w.LeftOut ∷
    as_word (codes "strong0") w.LeftOut ∷
    as_word (codes "strong1") w.LeftOut ∷
    as_word (codes "supply0") w.LeftOut ∷
    as_word (codes "supply1") w.LeftOut ∷
    []

unfoldable pub words_with_t : List Entry
words_with_t =
    as_word (codes "table") w.LeftOut ∷
    as_word (codes "task") w.LeftOut ∷
    as_word (codes "time") w.LeftOut ∷
    as_word (codes "tran") w.LeftOut ∷
    as_word (codes "tranif0") w.LeftOut ∷
    as_word (codes "tranif1") w.LeftOut ∷
    as_word (codes "tri") w.LeftOut ∷
    as_word (codes "tri0") w.LeftOut ∷
    as_word (codes "tri1") w.LeftOut ∷
    as_word (codes "triand") w.LeftOut ∷
    as_word (codes "trior") w.LeftOut ∷
    as_word (codes "trireg") w.LeftOut ∷
    []

unfoldable pub words_with_u : List Entry
words_with_u =
    as_word (codes "unsigned") w.LeftOut ∷
    as_word (codes "use") w.LeftOut ∷
    as_word (codes "uwire") w.LeftOut ∷
    []

unfoldable pub words_with_v : List Entry
words_with_v =
    as_word (codes "vectored") w.LeftOut ∷
    []

unfoldable pub words_with_w : List Entry
words_with_w =
    as_word (codes "wait") w.LeftOut ∷
    as_word (codes "wand") w.LeftOut ∷
    as_word (codes "weak0") w.LeftOut ∷
    as_word (codes "weak1") w.LeftOut ∷
    as_word (codes "while") w.LeftOut ∷
    as_word (codes "wire") w.Wire ∷
    as_word (codes "wor") w.LeftOut ∷
    []

unfoldable pub words_with_x : List Entry
words_with_x =
    as_word (codes "xnor") w.Xnor ∷
    as_word (codes "xor") w.Xor ∷
    []

-- the fixed words that begin with a byte
abbrev pub words_with : ℕ → List Entry
words_with b =
    if b == 97 then words_with_a else (
    if b == 98 then words_with_b else (
    if b == 99 then words_with_c else (
    if b == 100 then words_with_d else (
    if b == 101 then words_with_e else (
    if b == 102 then words_with_f else (
    if b == 103 then words_with_g else (
    if b == 104 then words_with_h else (
    if b == 105 then words_with_i else (
    if b == 106 then words_with_j else (
    if b == 108 then words_with_l else (
    if b == 109 then words_with_m else (
    if b == 110 then words_with_n else (
    if b == 111 then words_with_o else (
    if b == 112 then words_with_p else (
    if b == 114 then words_with_r else (
    if b == 115 then words_with_s else (
    if b == 116 then words_with_t else (
    if b == 117 then words_with_u else (
    if b == 118 then words_with_v else (
    if b == 119 then words_with_w else (
    if b == 120 then words_with_x else (
    []))))))))))))))))))))))

unfoldable pub name_word : List ℕ → Word
name_word [] = w.Name
name_word (b ∷ bs) = named (words_with b) (b ∷ bs)

-- `x` in either case
abbrev pub is_unknown_digit : ℕ → Bool
is_unknown_digit b = b == 120 || b == 88

-- `z` in either case, or `?`
abbrev pub is_free_digit : ℕ → Bool
is_free_digit b = b == 122 || b == 90 || b == 63

abbrev pub number_word : List ℕ → Word
number_word text = if list_any is_unknown_digit text then w.LeftOut else (if list_any is_free_digit text then w.FreeNumber else w.Number)

abbrev pub system_word : List ℕ → Word
system_word text =
    if bytes_eq text (codes "$signed") then w.System else (
    if bytes_eq text (codes "$unsigned") then w.System else (
    if bytes_eq text (codes "$clog2") then w.System else (
    w.LeftOut)))

abbrev pub operator_word : List ℕ → Word
operator_word text =
    if bytes_eq text (codes "<<<") then w.ShiftLeftSigned else (
    if bytes_eq text (codes ">>>") then w.ShiftRightSigned else (
    if bytes_eq text (codes "===") then w.LeftOut else (
    if bytes_eq text (codes "!==") then w.LeftOut else (
    if bytes_eq text (codes "<<") then w.ShiftLeft else (
    if bytes_eq text (codes ">>") then w.ShiftRight else (
    if bytes_eq text (codes "<=") then w.LessEqual else (
    if bytes_eq text (codes ">=") then w.GreaterEqual else (
    if bytes_eq text (codes "==") then w.EqualEqual else (
    if bytes_eq text (codes "!=") then w.NotEqual else (
    if bytes_eq text (codes "&&") then w.AmpersandAmpersand else (
    if bytes_eq text (codes "||") then w.BarBar else (
    if bytes_eq text (codes "**") then w.StarStar else (
    if bytes_eq text (codes "~&") then w.TildeAmpersand else (
    if bytes_eq text (codes "~|") then w.TildeBar else (
    if bytes_eq text (codes "~^") then w.TildeCaret else (
    if bytes_eq text (codes "^~") then w.CaretTilde else (
    if bytes_eq text (codes "+:") then w.PlusColon else (
    if bytes_eq text (codes "-:") then w.MinusColon else (
    w.Other)))))))))))))))))))

abbrev pub byte_word : ℕ → Word
byte_word b =
    if b == 40 then w.LeftParen else (
    if b == 41 then w.RightParen else (
    if b == 91 then w.LeftBracket else (
    if b == 93 then w.RightBracket else (
    if b == 123 then w.LeftBrace else (
    if b == 125 then w.RightBrace else (
    if b == 44 then w.Comma else (
    if b == 58 then w.Colon else (
    if b == 59 then w.Semicolon else (
    if b == 46 then w.Dot else (
    if b == 64 then w.At else (
    if b == 35 then w.Hash else (
    if b == 61 then w.EqualSign else (
    if b == 63 then w.Question else (
    if b == 33 then w.Bang else (
    if b == 126 then w.Tilde else (
    if b == 42 then w.Star else (
    if b == 47 then w.Slash else (
    if b == 37 then w.Percent else (
    if b == 43 then w.Plus else (
    if b == 45 then w.Minus else (
    if b == 60 then w.Less else (
    if b == 62 then w.Greater else (
    if b == 38 then w.Ampersand else (
    if b == 94 then w.Caret else (
    if b == 124 then w.Bar else (
    w.Other))))))))))))))))))))))))))

abbrev pub single_word : List ℕ → Word
single_word (b ∷ []) = byte_word b
single_word _ = w.Other

unfoldable pub word : TokenKind → List ℕ → Word
word k.Name text = name_word text
word k.Escaped text = w.Name
word k.Number text = number_word text
word k.System text = system_word text
word k.Operator text = operator_word text
word k.Single text = single_word text
word _ text = w.Other

abbrev pub word_of : Token → Word
word_of t = word t.kind t.text.now

-- of the first token
abbrev pub next : List Token → Word
next [] = w.EndOfTokens
next (t ∷ ts) = word_of t

unfoldable pub same_word : Word → Word → Bool
same_word = sameb the_type
