-- The meaning of expressions and statements, over a small tree of terms: what they are worth, what they do, what they read and what they write.
-- A design's tree is read as such terms in Terms.antt; operators stand in them as functions on lists of bits.
use Rattle.std.specs.Prelude.{◌≡◌, ℕ, zero, suc, Bool, true, false, ◌&&◌, ◌||◌, if◌then◌else◌, nat_lt, ◌==◌, List, [], ◌∷◌, ◌++◌, map, replicate, slice_index_or, slice_set, Option, Some, None, ℤ, pos, negsuc, ◌+ℤ◌}
use Rattle.bits_core.specs.Places.{is_set, extended}
use Rattle.design_core.specs.declared.place.BitRef.{BitRef}

-- a value for each bit of each signal
abbrev pub Assignment : Type 0
Assignment = BitRef → Bool

-- bit k of signal s
abbrev pub bit : ℕ → ℕ → BitRef
bit s k = record { signal = s; bit = k }

-- two bits are the same
abbrev pub same_bit : BitRef → BitRef → Bool
same_bit a b = (a.signal == b.signal) && (a.bit == b.bit)

-- the assignment with one bit changed
abbrev pub set_bit : Assignment → BitRef → Bool → Assignment
set_bit σ b v = λ a. if same_bit a b then v else σ a

-- place z in a vector of m bits, if it is there
abbrev pub spot : ℕ → ℤ → Option ℕ
spot m (pos k) = if nat_lt k m then Some k else None
spot m (negsuc k) = None

-- the n places from low on in a vector of m bits
abbrev pub spots : ℕ → ℤ → ℕ → List (Option ℕ)
spots m low zero = []
spots m low (suc n) = spot m low ∷ spots m (low +ℤ pos 1) n

-- the bit at a place, 0 where there is none
abbrev pub bit_in : (ℕ → Bool) → Option ℕ → Bool
bit_in row None = false
bit_in row (Some k) = row k

-- the bits of signal s at these places, 0 outside
abbrev pub taken : Assignment → ℕ → List (Option ℕ) → List Bool
taken σ s places = map (bit_in (λ k. σ (bit s k))) places

-- place k is among these
abbrev pub covers : ℕ → List (Option ℕ) → Bool
covers k [] = false
covers k (None ∷ ps) = covers k ps
covers k (Some j ∷ ps) = (k == j) || covers k ps

-- what a left side names: a signal, or a local of the function round it
pub data Base : Type 0 where
  signal : ℕ → Base
  local : ℕ → Base

mutual
  -- an expression: a constant; n places from low on of signal s of m bits; a local; an operator on one, two or three operands;
  -- a call, with the lengths of the result, of the inputs and of the locals
  pub data Term : Type 0 where
    constant : List Bool → Term
    span : ℕ → ℕ → ℤ → ℕ → Term
    own : ℕ → Term
    app1 : (List Bool → List Bool) → Term → Term
    app2 : (List Bool → List Bool → List Bool) → Term → Term → Term
    app3 : (List Bool → List Bool → List Bool → List Bool) → Term → Term → Term → Term
    call : Args → Stmt → ℕ → List ℕ → List ℕ → Term

  -- the arguments of a call, in order
  pub data Args : Type 0 where
    stop : Args
    pass : Term → Args → Args

  -- the left side of an assignment: a concatenation, the high part first; n places from low on in a vector of m bits, at a fixed place or at one that a term gives
  pub data Left : Type 0 where
    nowhere : Left
    both : Left → Left → Left
    slice : Base → ℕ → ℤ → ℕ → Left
    slice_at : Base → ℕ → (List Bool → ℤ) → Term → ℕ → Left

  -- a statement: none; two in turn; an assignment, blocking or not; a choice by a test
  pub data Stmt : Type 0 where
    skip : Stmt
    seq : Stmt → Stmt → Stmt
    write : Left → Term → Bool → Stmt
    choose : Term → Stmt → Stmt → Stmt

-- where one bit is written: nowhere, in a signal, or in a local
pub data Place : Type 0 where
  lost : Place
  in_signal : BitRef → Place
  in_local : ℕ → ℕ → Place

abbrev pub place_of : Base → Option ℕ → Place
place_of base None = lost
place_of (signal s) (Some k) = in_signal (bit s k)
place_of (local s) (Some k) = in_local s k

-- the state of a body: the signals' values, the values that are to be stored, and the locals of the function round it
pub record St : Type 0 where
  pub now : Assignment
  pub later : Assignment
  pub locals : List (List Bool)

-- bit k of local j is written; there is no effect past the local's end
abbrev pub set_local : List (List Bool) → ℕ → ℕ → Bool → List (List Bool)
set_local locals j k v = slice_set locals j (slice_set (slice_index_or locals j []) k v)

-- one bit is written: a blocking write is seen at once, a nonblocking one is stored (9.2)
abbrev pub put : Bool → Place → Bool → St → St
put blocking lost v t = t
put true (in_signal b) v t = record { now = set_bit t.now b v; later = t.later; locals = t.locals }
put false (in_signal b) v t = record { now = t.now; later = set_bit t.later b v; locals = t.locals }
put blocking (in_local j k) v t = record { now = t.now; later = t.later; locals = set_local t.locals j k v }

abbrev pub first_bit : List Bool → Bool
first_bit [] = false
first_bit (v ∷ vs) = v

abbrev pub rest_bits : List Bool → List Bool
rest_bits [] = []
rest_bits (v ∷ vs) = vs

-- the bits are written to these places, from the lowest on; the highest is written first, so of two writes to one bit that of the right part of a concatenation counts
abbrev pub puts : Bool → List Place → List Bool → St → St
puts blocking [] vs t = t
puts blocking (p ∷ ps) vs t = put blocking p (first_bit vs) (puts blocking ps (rest_bits vs) t)

abbrev pub joined : List Place → List Place → List Place
joined [] qs = qs
joined (p ∷ ps) qs = p ∷ joined ps qs

abbrev pub placed_at : Base → List (Option ℕ) → List Place
placed_at base [] = []
placed_at base (o ∷ os) = place_of base o ∷ placed_at base os

-- the arguments, each brought to the length of its input
abbrev pub fitted : List ℕ → List (List Bool) → List (List Bool)
fitted [] vs = []
fitted (n ∷ ns) [] = replicate n false ∷ fitted ns []
fitted (n ∷ ns) (v ∷ vs) = extended false n v ∷ fitted ns vs

-- the locals as a call begins: the result at 0, the inputs, and the locals at 0 (10.4)
abbrev pub entered : ℕ → List ℕ → List ℕ → List (List Bool) → List (List Bool)
entered n inputs locals vs = replicate n false ∷ (fitted inputs vs ++ map (λ k. replicate k false) locals)

abbrev mutual
  -- the value of a term, where σ gives the signals and λs the locals; a place outside a vector is 0 (5.2.1)
  pub value : Term → Assignment → List (List Bool) → List Bool
  value (constant v) σ λs = v
  value (span s m low n) σ λs = taken σ s (spots m low n)
  value (own k) σ λs = slice_index_or λs k []
  value (app1 f a) σ λs = f (value a σ λs)
  value (app2 f a b) σ λs = f (value a σ λs) (value b σ λs)
  value (app3 f c a b) σ λs = f (value c σ λs) (value a σ λs) (value b σ λs)
  value (call arguments body n inputs locals) σ λs =
      slice_index_or (exec body (record { now = σ; later = σ; locals = entered n inputs locals (values arguments σ λs) })).locals 0 []

  pub values : Args → Assignment → List (List Bool) → List (List Bool)
  values stop σ λs = []
  values (pass e rest) σ λs = value e σ λs ∷ values rest σ λs

  -- the places that a left side names, the lowest first, with all indices read
  pub places : Left → Assignment → List (List Bool) → List Place
  places nowhere σ λs = []
  places (both high low) σ λs = joined (places low σ λs) (places high σ λs)
  places (slice base m low n) σ λs = placed_at base (spots m low n)
  places (slice_at base m f e n) σ λs = placed_at base (spots m (f (value e σ λs)) n)

  -- the state after a statement (9.2, 9.4); a value that is too short is 0 above
  pub exec : Stmt → St → St
  exec skip t = t
  exec (seq a b) t = exec b (exec a t)
  exec (write l e blocking) t = puts blocking (places l t.now t.locals) (value e t.now t.locals) t
  exec (choose c a b) t = if is_set (value c t.now t.locals) then exec a t else exec b t

abbrev mutual
  -- the bits of signals that an expression reads, called functions included; of a constant select those alone that it takes
  pub reads : Term → BitRef → Bool
  reads (constant v) b = false
  reads (span s m low n) b = (b.signal == s) && covers b.bit (spots m low n)
  reads (own k) b = false
  reads (app1 f x) b = reads x b
  reads (app2 f x y) b = reads x b || reads y b
  reads (app3 f x y z) b = reads x b || (reads y b || reads z b)
  reads (call arguments body n inputs locals) b = args_read arguments b || stmt_reads body b

  pub args_read : Args → BitRef → Bool
  args_read stop b = false
  args_read (pass e rest) b = reads e b || args_read rest b

  -- the bits that its indices read
  pub left_reads : Left → BitRef → Bool
  left_reads nowhere b = false
  left_reads (both x y) b = left_reads x b || left_reads y b
  left_reads (slice base m low n) b = false
  left_reads (slice_at base m f e n) b = reads e b

  -- the bits of its right sides, tests and indices
  pub stmt_reads : Stmt → BitRef → Bool
  stmt_reads skip b = false
  stmt_reads (seq x y) b = stmt_reads x b || stmt_reads y b
  stmt_reads (write l e blocking) b = reads e b || left_reads l b
  stmt_reads (choose c x y) b = reads c b || (stmt_reads x b || stmt_reads y b)

-- the bits that a left side may name; a variable index names the whole signal
abbrev pub left_drives : Left → BitRef → Bool
left_drives nowhere b = false
left_drives (both x y) b = left_drives x b || left_drives y b
left_drives (slice (signal s) m low n) b = (b.signal == s) && covers b.bit (spots m low n)
left_drives (slice (local s) m low n) b = false
left_drives (slice_at (signal s) m f e n) b = (b.signal == s) && nat_lt b.bit m
left_drives (slice_at (local s) m f e n) b = false

-- the bits that a statement may write
abbrev pub drives : Stmt → BitRef → Bool
drives skip b = false
drives (seq x y) b = drives x b || drives y b
drives (write l e blocking) b = left_drives l b
drives (choose c x y) b = drives x b || drives y b

-- the bits that a left side surely names
abbrev pub surely_names : Left → BitRef → Bool
surely_names nowhere b = false
surely_names (both x y) b = surely_names x b || surely_names y b
surely_names (slice (signal s) m low n) b = (b.signal == s) && covers b.bit (spots m low n)
surely_names (slice (local s) m low n) b = false
surely_names (slice_at base m f e n) b = false

-- the bits known after a body, where those of A are known before: A, and the ones that are written on every path
abbrev pub known : Stmt → (BitRef → Bool) → BitRef → Bool
known skip A b = A b
known (seq x y) A b = known y (known x A) b
known (write l e blocking) A b = A b || (blocking && surely_names l b)
known (choose c x y) A b = known x A b && known y A b

-- each bit of F is one of A
abbrev pub Within : (BitRef → Bool) → (BitRef → Bool) → Type 0
Within F A = (b : BitRef) → F b ≡ true → A b ≡ true

-- nothing is read that is not known at that place
abbrev pub ReadsKnown : Stmt → (BitRef → Bool) → Type 0
ReadsKnown skip A = Unit {0}
ReadsKnown (seq x y) A = ReadsKnown x A × ReadsKnown y (known x A)
ReadsKnown (write l e blocking) A = Within (reads e) A × Within (left_reads l) A
ReadsKnown (choose c x y) A = Within (reads c) A × ReadsKnown x A × ReadsKnown y A
