-- What a bit needs of its item decides it.
use Rattle.std.proofs.Common.{◌≡◌, Bool, true, false, not, ◌&&◌, ◌||◌, ◌⊎◌, List, [], ◌∷◌, inl, inr, refl, sym, ◌∙◌, ap, subst}
use Rattle.design_core.specs.declared.place.BitRef.{BitRef}
use Rattle.design_core.specs.Core.{Assignment, Stmt, St, exec, stmt_reads, left_drives, drives, reads, left_reads, skip, seq, write, choose}
use Rattle.design_core.specs.Needs.{writes_local, targets, known_later, needed_for, BodyNeeds, at_once, through}
use Rattle.design_core.proofs.BoolLaws.{or_cases, or_left, or_right, both_true, true_both, not_both, either, if_true, if_false}
use Rattle.design_core.proofs.CoverLaws.{completed}
use Rattle.design_core.proofs.CompletedLaws.{completed_targets, completed_local}
use Rattle.design_core.proofs.NeedLaws.{later_more}
use Rattle.design_core.proofs.LeastNeeds.{needed_drives, now_on, later_on, completed_needed}
use Rattle.design_core.specs.Cells.{Cell, In}
use Rattle.design_core.specs.Items.{CoreItem, assign, comb, clocked, reset_by, start, reset_holds, cell_of, IsGood}
use Rattle.design_core.specs.Reach.{HasNeeds, item_needs, IsClockedBody, IsProcess, Process, process_cells, needs_in, AreProcesses}
use Rattle.design_laws.proofs.ItemLaws.{lawful, reset_same}

-- what is needed for a bit is read
needed_read : (s : Stmt) (b a : BitRef) → needed_for s b a ≡ true → stmt_reads s a ≡ true
needed_read skip b a h = h
needed_read (seq x y) b a h = elim (or_cases (needed_for x b a) (needed_for y b a) h) [
  | inl r ↦ or_left (stmt_reads x a) (stmt_reads y a) (needed_read x b a r)
  | inr r ↦ or_right (stmt_reads x a) (stmt_reads y a) (needed_read y b a r)
]
needed_read (write l e blocking) b a h = (both_true (left_drives l b) (reads e a || left_reads l a) h).1
needed_read (choose c x y) b a h = elim (or_cases ((drives x b || drives y b) && reads c a) (needed_for x b a || needed_for y b a) h) [
  | inl r ↦ or_left (reads c a) (stmt_reads x a || stmt_reads y a) (both_true (drives x b || drives y b) (reads c a) r).1
  | inr r ↦ or_right (reads c a) (stmt_reads x a || stmt_reads y a) (elim (or_cases (needed_for x b a) (needed_for y b a) r) [
    | inl q ↦ or_left (stmt_reads x a) (stmt_reads y a) (needed_read x b a q)
    | inr q ↦ or_right (stmt_reads x a) (stmt_reads y a) (needed_read y b a q)
  ])
]

body_read : (s : Stmt) (b a : BitRef) → BodyNeeds s b a → stmt_reads s a ≡ true
body_read s b a (at_once h) = needed_read s b a h
body_read s b a (through {c} n d h) = needed_read s c a h

-- what a body stores at b, where what it reads for b is the same, and what was stored there too, or it surely writes b
stored_same : (body full : Stmt) (s t σ τ : Assignment) (b : BitRef) → IsClockedBody body full → ((a : BitRef) → needed_for body b a ≡ true → σ a ≡ τ a)
    → (known_later full (λ c. false) b ≡ true) ⊎ (s b ≡ t b) → (exec body (start s σ)).later b ≡ (exec body (start t τ)).later b
stored_same body full s t σ τ b p same why =
    let none : writes_local full ≡ false = completed_local p.completes ∙ p.no_local in
    let calm : (a : BitRef) → targets true full a ≡ false = λ a. completed_targets p.completes true a ∙ p.nothing_now a in
    ap (λ (u : St). u.later b) (sym (completed p.completes (start s σ)))
    ∙ elim why [
      | inl sure ↦ later_on full (λ c. false) (λ a. needed_for body b a ≡ true) (start s σ) (start t τ) b none calm (λ a h. completed_needed p.completes b a h) same refl (λ q. cc) sure
      | inr e ↦ later_on full (λ c. true) (λ a. needed_for body b a ≡ true) (start s σ) (start t τ) b none calm (λ a h. completed_needed p.completes b a h) same refl (λ q. e)
          (later_more full (λ c. true) b refl)
    ]
    ∙ ap (λ (u : St). u.later b) (completed p.completes (start t τ))

-- a bit is surely written, or what was stored is the same since the bit needs itself
sure_or_same : (k : Bool) (s t σ τ : Assignment) (b : BitRef) → σ b ≡ s b → τ b ≡ t b → (k ≡ false → σ b ≡ τ b) → (k ≡ true) ⊎ (s b ≡ t b)
sure_or_same true s t σ τ b e f same = inl refl
sure_or_same false s t σ τ b e f same = inr (sym e ∙ same refl ∙ f)

not_not : (a : Bool) → not (not a) ≡ a
not_not true = refl
not_not false = refl

and_other : (a b : Bool) → a ≡ false → (a && b) ≡ false
and_other true b h = cc
and_other false b h = refl

and_second : (a b : Bool) → b ≡ false → (a && b) ≡ false
and_second true b h = h
and_second false b h = refl

pub has_needs : (x : CoreItem) (full branch_full : Stmt) → IsGood x → IsProcess x full branch_full → HasNeeds (cell_of x) (item_needs x full branch_full)
has_needs (assign l e) full branch_full good is = record {
  among_reads = λ u b a d h. h;
  within_needs = λ s t σ τ b u d h. (lawful (assign l e) good).within_same s t σ τ b d h (λ k. cc);
  after_needs = λ s t σ τ b u. cc;
}
has_needs (comb body) full branch_full good none = let A : BitRef → Bool = λ a. stmt_reads body a && not (drives body a) in record {
  among_reads = λ u b a d h. true_both (stmt_reads body a) (not (drives body a)) (body_read body b a h.0) (ap not h.1);
  within_needs = λ s t σ τ b u d h. (let K : BitRef → Type 0 = λ a. (a ≡ b) ⊎ BodyNeeds body b a in
      ap (λ (v : St). v.now b) (sym (completed good.completes (start s σ)))
      ∙ now_on good.full A K (start s σ) (start t τ) good.reads_known (completed_local good.completes ∙ none)
      (λ c m a n. (let r = completed_needed good.completes c a n in elim m [
        | inl e ↦ inr (at_once (ap (λ x. needed_for body x a) (sym e) ∙ r))
        | inr w ↦ inr (through w (needed_drives body c a r) r)
      ]))
      (λ a k m. (let p = both_true (stmt_reads body a) (not (drives body a)) k in
      let free : drives body a ≡ false = sym (not_not (drives body a)) ∙ ap not p.1 in
      elim m [ inl e ↦ not_both (drives body a) (ap (drives body) e ∙ d) free | inr w ↦ h a (w, free) ]))
      refl b (good.all_written b d) (inl refl)
      ∙ ap (λ (v : St). v.now b) (completed good.completes (start t τ)));
  after_needs = λ s t σ τ b u. cc;
}
has_needs (clocked body) full branch_full good is = record {
  among_reads = λ u. cc;
  within_needs = λ s t σ τ b u. cc;
  after_needs = λ s t σ τ b u d p q h. stored_same body full s t σ τ b is (λ a n. h a (inl n))
      (sure_or_same (known_later full (λ c. false) b) s t σ τ b (p.gives b d) (q.gives b d) (λ free. h b (inr (refl, free))));
}
has_needs (reset_by r asserted branch body) full branch_full good is =
    let F : BitRef → Bool = known_later full (λ a. false) in let G : BitRef → Bool = known_later branch_full (λ a. false) in record {
      among_reads = λ u. cc;
      within_needs = λ s t σ τ b u. cc;
      after_needs = λ s t σ τ b u d p q h. (let e = reset_same r asserted σ τ (h r (inr (inl refl))) in
          elim (either (reset_holds r asserted σ)) [
            | inl on ↦ if_true (reset_holds r asserted σ) ((exec branch (start s σ)).later b) ((exec body (start s σ)).later b) on
                ∙ elim (either (G b)) [
                  | inl sure ↦ stored_same branch branch_full s t σ τ b is.1 (λ a n. not_both (stmt_reads branch a) (needed_read branch b a n) (good a)) (inl sure)
                  | inr free ↦ sym (if_true (reset_holds r asserted σ) ((exec branch (start s σ)).later b) (s b) on) ∙ sym (p.gives b d)
                      ∙ h b (inr (inr (refl, and_other (G b) (F b) free)))
                      ∙ q.gives b d ∙ if_true (reset_holds r asserted τ) ((exec branch (start t τ)).later b) (t b) (sym e ∙ on)
                ]
                ∙ sym (if_true (reset_holds r asserted τ) ((exec branch (start t τ)).later b) ((exec body (start t τ)).later b) (sym e ∙ on))
            | inr off ↦ if_false (reset_holds r asserted σ) ((exec branch (start s σ)).later b) ((exec body (start s σ)).later b) off
                ∙ stored_same body full s t σ τ b is.0 (λ a n. h a (inl n))
                (sure_or_same (F b) s t σ τ b
                (p.gives b d ∙ if_false (reset_holds r asserted σ) ((exec branch (start s σ)).later b) (s b) off)
                (q.gives b d ∙ if_false (reset_holds r asserted τ) ((exec branch (start t τ)).later b) (t b) (sym e ∙ off))
                (λ free. h b (inr (inr (refl, and_second (G b) (F b) free)))))
                ∙ sym (if_false (reset_holds r asserted τ) ((exec branch (start t τ)).later b) ((exec body (start t τ)).later b) (sym e ∙ off))
          ]);
    }

-- the cells of processes have the needs of their items
some_needs : (ps : List Process) → AreProcesses ps → (c : Cell BitRef) (b a : BitRef) → c.clocked ≡ false → c.drives b ≡ true → needs_in ps c b a → c.reads a ≡ true
some_needs [] all c b a u d n = elim n [ ]
some_needs (p ∷ ps) all c b a u d (inl n) = let own = all p (inl refl) in
    ap (λ (x : Cell BitRef). x.reads a) n.0 ∙ (has_needs p.item p.full p.branch_full own.0 own.1).among_reads (ap (λ (x : Cell BitRef). x.clocked) (sym n.0) ∙ u) b a (ap (λ (x : Cell BitRef). x.drives b) (sym n.0) ∙ d) n.1
some_needs (p ∷ ps) all c b a u d (inr n) = some_needs ps (λ x m. all x (inr m)) c b a u d n

found : (ps : List Process) (c : Cell BitRef) → In c (process_cells ps) → (p : Process) × In p ps × (c ≡ cell_of p.item)
found [] c m = elim m [ ]
found (p ∷ ps) c (inl e) = (p, inl refl, e)
found (p ∷ ps) c (inr m) = let r = found ps c m in (r.0, inr r.1, r.2)

own_needs : (ps : List Process) (p : Process) (c : Cell BitRef) (b a : BitRef) → In p ps → c ≡ cell_of p.item → item_needs p.item p.full p.branch_full b a → needs_in ps c b a
own_needs [] p c b a m e n = elim m [ ]
own_needs (q ∷ ps) p c b a (inl is) e n = let P : Process → Type 0 = λ x. (c ≡ cell_of x.item) × item_needs x.item x.full x.branch_full b a in inl (subst P is (e, n))
own_needs (q ∷ ps) p c b a (inr m) e n = inr (own_needs ps p c b a m e n)

pub have_needs : (ps : List Process) → AreProcesses ps → (c : Cell BitRef) → In c (process_cells ps) → HasNeeds c (needs_in ps c)
have_needs ps all c m =
    let r = found ps c m in
    let own = all r.0 r.1 in
    let has = has_needs (r.0).item (r.0).full (r.0).branch_full own.0 own.1 in
    let P : Cell BitRef → Type 0 = λ x. HasNeeds x (item_needs (r.0).item (r.0).full (r.0).branch_full) in
    let here = subst P (sym r.2) has in
    record {
      among_reads = λ u b a d n. some_needs ps all c b a u d n;
      within_needs = λ s t σ τ b u d h. here.within_needs s t σ τ b u d (λ a n. h a (own_needs ps r.0 c b a r.1 r.2 n));
      after_needs = λ s t σ τ b u d p q h. here.after_needs s t σ τ b u d p q (λ a n. h a (own_needs ps r.0 c b a r.1 r.2 n));
    }
