-- The order of the codes, and the lowest of some.
use Rattle.std.specs.Prelude.{◌≡◌, ⊤, ◌⊎◌, ℕ, ◌≤◌, Bool, true, false, nat_lt, List, [], ◌∷◌, ◌++◌, Option, Some, None, if◌then◌else◌}
use Rattle.vl_tree.specs.declared.faults.Code.{Code}
use Rattle.vl_tree.specs.declared.faults.Code.TheVariants as code
use Rattle.vl_tree.specs.Codes.{bound}

-- the order of the phases: sources, then tables and texts, and the limits, each by its number
abbrev pub rank : Code → ℕ
rank code.BadByte = 1
rank code.Unclosed = 2
rank code.BadNumber = 3
rank code.LeftOut = 4
rank code.Syntax = 5
rank code.Directive = 6
rank code.IncludeDepth = 7
rank code.UnknownModule = 8
rank code.DuplicateModule = 9
rank code.Recursive = 10
rank code.LoopTooLong = 11
rank code.BadOverride = 12
rank code.NameClash = 13
rank code.NotConstant = 14
rank code.ZeroDivisor = 15
rank code.UnknownName = 16
rank code.DuplicateName = 17
rank code.BadRange = 18
rank code.PortMismatch = 19
rank code.OtherClock = 20
rank code.ResetForm = 21
rank code.BlockingInClocked = 22
rank code.NonblockingInComb = 23
rank code.WideArithmetic = 24
rank code.MultipleDrivers = 25
rank code.Latch = 26
rank code.ReadBeforeWrite = 27
rank code.CombLoop = 28
rank code.ArrayUse = 29
rank code.NoSuchModule = 101
rank code.NoSuchInput = 102
rank code.Clash = 103
rank code.PinValue = 104
rank code.NoSuchRow = 105
rank code.BadKind = 106
rank code.FieldCount = 107
rank code.NoConnection = 108
rank code.BadValue = 109
rank code.DuplicateRow = 110
rank code.BadLatency = 111
rank code.NoSuchSignal = 112
rank code.WidthMismatch = 113
rank code.BadPlan = 114
rank code.BadScript = 115
rank code.BadTrace = 116
rank code.BadDimacs = 117
rank code.BadLrat = 118
rank code.BadVcd = 119
rank code.FileBytes = 201
rank code.Tokens = 202
rank code.Scopes = 203
rank code.Weight = 204
rank code.Rows = 205
rank code.Conditions = 206
rank code.Latency = 207
rank code.Candidates = 208
rank code.Files = 209
rank code.Ports = 210

abbrev pub is_limit : Code → Bool
is_limit c = nat_lt 0 (bound c)

-- the lower of two codes, where there are any
abbrev pub lower : Option Code → Option Code → Option Code
lower None o = o
lower (Some c) None = Some c
lower (Some c) (Some d) = if nat_lt (rank d) (rank c) then Some d else Some c

-- the code, where the test is true
abbrev pub where_true : Bool → Code → Option Code
where_true true c = Some c
where_true false c = None

-- the lowest of some codes
abbrev pub lowest : List Code → Option Code
lowest [] = None
lowest (c ∷ cs) = lower (Some c) (lowest cs)

-- a code as a list
abbrev pub if_any : Option Code → List Code
if_any None = []
if_any (Some c) = c ∷ []

-- the codes of a list in which some are missing
abbrev pub those_of : List (Option Code) → List Code
those_of [] = []
those_of (f ∷ fs) = if_any f ++ those_of fs

abbrev pub Has : List Code → Code → Type 0
Has [] c = ⊥
Has (d ∷ ds) c = (c ≡ d) ⊎ Has ds c

abbrev pub NoneIsBelow : Code → List Code → Type 0
NoneIsBelow c [] = ⊤
NoneIsBelow c (d ∷ ds) = (rank c ≤ rank d) × NoneIsBelow c ds

-- a code of the list below which none of them stands; an empty list has none
abbrev pub IsLowest : Option Code → List Code → Type 0
IsLowest None [] = ⊤
IsLowest None (d ∷ ds) = ⊥
IsLowest (Some c) ds = Has ds c × NoneIsBelow c ds

abbrev pub LowestIsLowest : Type 0
LowestIsLowest = (cs : List Code) → IsLowest (lowest cs) cs

-- the lower of the lowest of two lists is the lowest of both together
abbrev pub LowestOfBoth : Type 0
LowestOfBoth = (cs ds : List Code) (a b : Option Code) → a ≡ lowest cs → b ≡ lowest ds → lower a b ≡ lowest (cs ++ ds)
