-- Settled assignments and the next state in the words of the language: each assign and each combinational process leaves the assignment as it is,
-- and a register takes the last of the nonblocking writes to it.
use Rattle.std.specs.Prelude.{◌≡◌, Bool, true, false, ◌||◌, if◌then◌else◌, List, [], ◌∷◌, ◌++◌}
use Rattle.bits_core.specs.Places.{is_set}
use Rattle.design_core.specs.declared.place.BitRef.{BitRef}
use Rattle.design_core.specs.Core.{Assignment, same_bit, Stmt, skip, seq, write, choose, Place, lost, in_signal, in_local, St, first_bit, rest_bits, value, places, exec, drives}
use Rattle.design_core.specs.Items.{CoreItem, assign, comb, clocked, reset_by, start, reset_holds}

-- one write, where the place is a bit of a signal
abbrev pub one_write : Place → Bool → List (BitRef × Bool)
one_write lost v = []
one_write (in_signal b) v = (b, v) ∷ []
one_write (in_local j k) v = []

-- the writes of an assignment, in the order in which they are made: the highest place first
abbrev pub write_list : List Place → List Bool → List (BitRef × Bool)
write_list [] vs = []
write_list (p ∷ ps) vs = write_list ps (rest_bits vs) ++ one_write p (first_bit vs)

-- the nonblocking writes of a body, in order (9.2.2)
abbrev pub writes : Stmt → St → List (BitRef × Bool)
writes skip t = []
writes (seq a b) t = writes a t ++ writes b (exec a t)
writes (write l e true) t = []
writes (write l e false) t = write_list (places l t.now t.locals) (value e t.now t.locals)
writes (choose c a b) t = if is_set (value c t.now t.locals) then writes a t else writes b t

-- the last write to a bit, or the value that it has where there is none
abbrev pub last_write : List (BitRef × Bool) → BitRef → Bool → Bool
last_write [] b v = v
last_write (w ∷ ws) b v = last_write ws b (if same_bit b w.0 then w.1 else v)

-- an item in a settled cycle: an assign, done as a write, and a combinational body leave the assignment as it is;
-- a register has its reset value where its reset holds and the reset branch writes it, and else its stored value
abbrev pub IsLeft : CoreItem → Assignment → Assignment → Type 0
IsLeft (assign l e) s σ = (exec (write l e true) (start s σ)).now ≡ σ
IsLeft (comb body) s σ = (exec body (start s σ)).now ≡ σ
IsLeft (clocked body) s σ = (b : BitRef) → drives body b ≡ true → σ b ≡ s b
IsLeft (reset_by r asserted branch body) s σ = (b : BitRef) → (drives branch b || drives body b) ≡ true
    → σ b ≡ (if reset_holds r asserted σ then last_write (writes branch (start s σ)) b (s b) else s b)

-- what a register stores after the cycle: under its reset, what the reset branch writes to it; without reset, what the body wrote to it last;
-- and what it stored before, where nothing writes it
abbrev pub stored_next : CoreItem → Assignment → Assignment → BitRef → Bool
stored_next (assign l e) s σ b = s b
stored_next (comb body) s σ b = s b
stored_next (clocked body) s σ b = last_write (writes body (start s σ)) b (s b)
stored_next (reset_by r asserted branch body) s σ b =
    if reset_holds r asserted σ then last_write (writes branch (start s σ)) b (s b) else last_write (writes body (start s σ)) b (s b)
