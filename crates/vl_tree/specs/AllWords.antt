-- The list of all words, and tests on all of them.
use Rattle.std.specs.Prelude.{◌≡◌, Bool, true, List, [], ◌∷◌, ◌&&◌}
use Rattle.vl_tree.specs.declared.words.Word.{Word}
use Rattle.vl_tree.specs.declared.words.Word.TheVariants as w

abbrev pub words : List Word
words =
    w.EndOfTokens ∷
    w.Name ∷
    w.Number ∷
    w.FreeNumber ∷
    w.System ∷
    w.LeftOut ∷
    w.Other ∷
    w.Always ∷
    w.And ∷
    w.Assign ∷
    w.Automatic ∷
    w.Begin ∷
    w.Buf ∷
    w.Case ∷
    w.CaseZ ∷
    w.Default ∷
    w.Else ∷
    w.End ∷
    w.EndCase ∷
    w.EndFunction ∷
    w.EndGenerate ∷
    w.EndModule ∷
    w.For ∷
    w.Function ∷
    w.Generate ∷
    w.GenVar ∷
    w.If ∷
    w.Initial ∷
    w.Input ∷
    w.Integer ∷
    w.LocalParam ∷
    w.Module ∷
    w.Nand ∷
    w.Negedge ∷
    w.Nor ∷
    w.Not ∷
    w.Or ∷
    w.Output ∷
    w.Parameter ∷
    w.Posedge ∷
    w.Reg ∷
    w.Signed ∷
    w.Wire ∷
    w.Xnor ∷
    w.Xor ∷
    w.LeftParen ∷
    w.RightParen ∷
    w.LeftBracket ∷
    w.RightBracket ∷
    w.LeftBrace ∷
    w.RightBrace ∷
    w.Comma ∷
    w.Colon ∷
    w.Semicolon ∷
    w.Dot ∷
    w.At ∷
    w.Hash ∷
    w.EqualSign ∷
    w.Question ∷
    w.Bang ∷
    w.Tilde ∷
    w.Star ∷
    w.Slash ∷
    w.Percent ∷
    w.Plus ∷
    w.Minus ∷
    w.Less ∷
    w.Greater ∷
    w.Ampersand ∷
    w.Caret ∷
    w.Bar ∷
    w.ShiftLeftSigned ∷
    w.ShiftRightSigned ∷
    w.ShiftLeft ∷
    w.ShiftRight ∷
    w.LessEqual ∷
    w.GreaterEqual ∷
    w.EqualEqual ∷
    w.NotEqual ∷
    w.AmpersandAmpersand ∷
    w.BarBar ∷
    w.StarStar ∷
    w.TildeAmpersand ∷
    w.TildeBar ∷
    w.TildeCaret ∷
    w.CaretTilde ∷
    w.PlusColon ∷
    w.MinusColon ∷
    []

abbrev pub all_of : (Word → Bool) → List Word → Bool
all_of f [] = true
all_of f (v ∷ vs) = f v && all_of f vs

-- whether all words are so
abbrev pub all : (Word → Bool) → Bool
all f = all_of f words

-- what holds of all words holds of each
abbrev pub EachWordIsListed : Type 0
EachWordIsListed = (f : Word → Bool) (v : Word) → all f ≡ true → f v ≡ true
