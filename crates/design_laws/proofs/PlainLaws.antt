-- The cells of items say what the plain words say.
use Rattle.std.proofs.Common.{◌≡◌, Bool, true, false, not, List, [], ◌∷◌, ◌++◌, refl, sym, ◌∙◌, ap, ap₂, if◌then◌else◌, ◌||◌, ◌&&◌}
use Rattle.bits_core.specs.Places.{is_set}
use Rattle.design_core.specs.declared.place.BitRef.{BitRef}
use Rattle.design_core.specs.Core.{Assignment, same_bit, Left, Term, Stmt, skip, seq, write, choose, Place, lost, in_signal, in_local, St, put, first_bit, rest_bits, puts, value, places, exec, stmt_reads, drives}
use Rattle.design_core.specs.Cells.{Holds, cell_reads}
use Rattle.design_core.specs.Items.{CoreItem, assign, comb, clocked, reset_by, start, reset_holds, cell_of, item_reads}
use Rattle.design_core.specs.Plain.{one_write, write_list, writes, last_write, IsLeft, stored_next}
use Rattle.design_core.proofs.NeedLaws.{puts_other_later}
use Rattle.design_laws.proofs.ItemLaws.{comb_settled, settled_comb}

last_of_both : (vs ws : List (BitRef × Bool)) (b : BitRef) (v : Bool) → last_write (vs ++ ws) b v ≡ last_write ws b (last_write vs b v)
last_of_both [] ws b v = refl
last_of_both (x ∷ vs) ws b v = last_of_both vs ws b (if same_bit b x.0 then x.1 else v)

put_later : (p : Place) (v : Bool) (t : St) (b : BitRef) → (put false p v t).later b ≡ last_write (one_write p v) b (t.later b)
put_later lost v t b = refl
put_later (in_signal a) v t b = refl
put_later (in_local j k) v t b = refl

puts_later : (ps : List Place) (vs : List Bool) (t : St) (b : BitRef) → (puts false ps vs t).later b ≡ last_write (write_list ps vs) b (t.later b)
puts_later [] vs t b = refl
puts_later (p ∷ ps) vs t b =
    put_later p (first_bit vs) (puts false ps (rest_bits vs) t) b
    ∙ ap (last_write (one_write p (first_bit vs)) b) (puts_later ps (rest_bits vs) t b)
    ∙ sym (last_of_both (write_list ps (rest_bits vs)) (one_write p (first_bit vs)) b (t.later b))

chosen_later : (k : Bool) (x y : St) (vs ws : List (BitRef × Bool)) (b : BitRef) (v : Bool) → x.later b ≡ last_write vs b v → y.later b ≡ last_write ws b v
    → (if k then x else y).later b ≡ last_write (if k then vs else ws) b v
chosen_later true x y vs ws b v h g = h
chosen_later false x y vs ws b v h g = g

-- what is to be stored after a body is the last write to the bit
pub later_last : (s : Stmt) (t : St) (b : BitRef) → (exec s t).later b ≡ last_write (writes s t) b (t.later b)
later_last skip t b = refl
later_last (seq x y) t b =
    later_last y (exec x t) b
    ∙ ap (last_write (writes y (exec x t)) b) (later_last x t b)
    ∙ sym (last_of_both (writes x t) (writes y (exec x t)) b (t.later b))
later_last (write l e true) t b = ap (λ (f : Assignment). f b) (puts_other_later (places l t.now t.locals) (value e t.now t.locals) t)
later_last (write l e false) t b = puts_later (places l t.now t.locals) (value e t.now t.locals) t b
later_last (choose c x y) t b = chosen_later (is_set (value c t.now t.locals)) (exec x t) (exec y t) (writes x t) (writes y t) b (t.later b)
    (later_last x t b) (later_last y t b)

assign_settled : (l : Left) (e : Term) (s σ : Assignment) → Holds (cell_of (assign l e)) s σ → IsLeft (assign l e) s σ
assign_settled l e s σ h = settled_comb (write l e true) s σ (record { gives = h.gives })

settled_assign : (l : Left) (e : Term) (s σ : Assignment) → IsLeft (assign l e) s σ → Holds (cell_of (assign l e)) s σ
settled_assign l e s σ h = record { gives = (comb_settled (write l e true) s σ h).gives }

same_branch : (k : Bool) (x y z : Bool) → x ≡ y → (if k then x else z) ≡ (if k then y else z)
same_branch k x y z e = ap (λ v. if k then v else z) e

-- an item holds as a cell where the item leaves the assignment as it is
pub holds_left : (x : CoreItem) (s σ : Assignment) → Holds (cell_of x) s σ → IsLeft x s σ
holds_left (assign l e) s σ h = assign_settled l e s σ h
holds_left (comb body) s σ h = settled_comb body s σ h
holds_left (clocked body) s σ h = h.gives
holds_left (reset_by r asserted branch body) s σ h = λ b d. h.gives b d
    ∙ same_branch (reset_holds r asserted σ) ((exec branch (start s σ)).later b) (last_write (writes branch (start s σ)) b (s b)) (s b) (later_last branch (start s σ) b)

pub left_holds : (x : CoreItem) (s σ : Assignment) → IsLeft x s σ → Holds (cell_of x) s σ
left_holds (assign l e) s σ h = settled_assign l e s σ h
left_holds (comb body) s σ h = comb_settled body s σ h
left_holds (clocked body) s σ h = record { gives = h }
left_holds (reset_by r asserted branch body) s σ h = record {
  gives = λ b d. h b d
      ∙ sym (same_branch (reset_holds r asserted σ) ((exec branch (start s σ)).later b) (last_write (writes branch (start s σ)) b (s b)) (s b) (later_last branch (start s σ) b));
}

-- and the cell stores the last write
pub after_next : (x : CoreItem) (s σ : Assignment) (b : BitRef) → (cell_of x).after s σ b ≡ stored_next x s σ b
after_next (assign l e) s σ b = refl
after_next (comb body) s σ b = refl
after_next (clocked body) s σ b = later_last body (start s σ) b
after_next (reset_by r asserted branch body) s σ b =
    ap₂ (λ x y. if reset_holds r asserted σ then x else y) (later_last branch (start s σ) b) (later_last body (start s σ) b)

-- and reads what the item reads
more_of : (r u d : Bool) → (r || ((r || u) && not d)) ≡ (r || (u && not d))
more_of true u d = refl
more_of false u d = refl

no_uses : (r d : Bool) → (r || (false && not d)) ≡ r
no_uses true d = refl
no_uses false true = refl
no_uses false false = refl

pub cell_reads_item : (x : CoreItem) (b : BitRef) → cell_reads (cell_of x) b ≡ item_reads x b
cell_reads_item (assign l e) b = no_uses (stmt_reads (write l e true) b) (drives (write l e true) b)
cell_reads_item (comb body) b = no_uses (stmt_reads body b && not (drives body b)) (drives body b)
cell_reads_item (clocked body) b = refl
cell_reads_item (reset_by r asserted branch body) b = more_of (same_bit b r) (stmt_reads body b) (drives branch b || drives body b)
