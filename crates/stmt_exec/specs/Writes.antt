-- What an assignment to the values of an environment is: the writes of the statement, in the state that the environment stands for.
use Rattle.std.specs.Prelude.{◌≡◌, ℕ, ◌<◌, ◌≤◌, Bool, true, false, List, [], ◌∷◌, length, map, slice_index_or}
use Rattle.design_core.specs.Core.{Assignment, puts}
use Rattle.stmt_exec.specs.State.{assignment}
use Rattle.stmt_exec.specs.Aims.{Aim, Hit, all_places, all_written}

-- an aim is at one of the vectors, of these lengths; a signal has as many bits as its aim says, a local at most as many
pub record FitsAim (inside : Bool) (ws : List ℕ) (a : Aim) : Type 0 where
  pub there : a.hit.vector < length ws
  pub most : slice_index_or ws a.hit.vector 0 ≤ a.most
  pub least : inside ≡ false → a.most ≤ slice_index_or ws a.hit.vector 0

abbrev pub AllFit : Bool → List ℕ → List Aim → Type 0
AllFit inside ws [] = Unit {0}
AllFit inside ws (a ∷ as') = FitsAim inside ws a × AllFit inside ws as'

abbrev pub hits : List Aim → List Hit
hits as' = map (λ (a : Aim). a.hit) as'

-- a blocking assignment to signals
abbrev pub BlockingWrites : Type 0
BlockingWrites = (later : Assignment) (locals : List (List Bool)) (as' : List Aim) (vs : List Bool) (rows : List (List Bool)) → AllFit false (map length rows) as'
    → puts true (all_places false as') vs (record { now = assignment rows; later = later; locals = locals })
    ≡ (record { now = assignment (all_written (hits as') vs rows); later = later; locals = locals })

-- a nonblocking assignment to signals
abbrev pub StoredWrites : Type 0
StoredWrites = (now : Assignment) (locals : List (List Bool)) (as' : List Aim) (vs : List Bool) (rows : List (List Bool)) → AllFit false (map length rows) as'
    → puts false (all_places false as') vs (record { now = now; later = assignment rows; locals = locals })
    ≡ (record { now = now; later = assignment (all_written (hits as') vs rows); locals = locals })

-- an assignment to the locals of a function
abbrev pub LocalWrites : Type 0
LocalWrites = (now later : Assignment) (as' : List Aim) (vs : List Bool) (rows : List (List Bool)) → AllFit true (map length rows) as'
    → puts true (all_places true as') vs (record { now = now; later = later; locals = rows })
    ≡ (record { now = now; later = later; locals = all_written (hits as') vs rows })
