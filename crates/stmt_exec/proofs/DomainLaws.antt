-- What stays as a domain grows, and values under guards.
use Rattle.std.proofs.Common.{◌≡◌, ℕ, Bool, true, false, List, [], ◌∷◌, length, map, ap, ap₂, refl, sym, subst, ◌∙◌, All, Option, Some, None, if◌then◌else◌, ℤ, pos}
use Rattle.std.proofs.lemmas.List.Elements.{All-head, All-tail, All-weaker}
use Rattle.bits_core.specs.Places.{is_set, placed, selected}
use Rattle.value_domain.specs.Meaning.{Meaning, Stands, Keeps}
use Rattle.value_domain.specs.Words.{IsGuard, allows}
use Rattle.stmt_exec.specs.declared.aims.Spot.{Spot}
use Rattle.stmt_exec.specs.declared.aims.Spot.TheVariants as spot
use Rattle.stmt_exec.specs.Aims.{SpotTakes, spot_low}
use Rattle.stmt_exec.proofs.PlaceLaws.{whole_placed, placed_back}

pub choose_same : {X : Type 0} (b : Bool) (x y z : X) → x ≡ z → y ≡ z → (if b then x else y) ≡ z
choose_same true x y z e f = e
choose_same false x y z e f = f

module _ {S V : Type 0} (m : Meaning S V) where
  pub kept_all : (old new : S) (xs : List V) → Keeps m old new → All (m.is_value old) xs → All (m.is_value new) xs
  kept_all old new xs k h = All-weaker (m.is_value old) (m.is_value new) k.still xs h

  pub kept_reads : (old new : S) (v : ℕ → Bool) (xs : List V) → Keeps m old new → All (m.is_value old) xs → map (m.reads new v) xs ≡ map (m.reads old v) xs
  kept_reads old new v [] k h = refl
  kept_reads old new v (x ∷ xs) k h =
      let first = k.same x v (All-head (m.is_value old) x xs h) in
      let rest = kept_reads old new v xs k (All-tail (m.is_value old) x xs h) in
      cc

  pub kept_guard : (old new : S) (guard : Option V) → Keeps m old new → IsGuard m old guard → IsGuard m new guard
  kept_guard old new None k h = h
  kept_guard old new (Some g) k h = k.still g h

  pub kept_allows : (old new : S) (v : ℕ → Bool) (guard : Option V) → Keeps m old new → IsGuard m old guard → allows m new v guard ≡ allows m old v guard
  kept_allows old new v None k h = refl
  kept_allows old new v (Some g) k h = ap is_set (k.same g v h)

  module _ (law : (d : S) (v : ℕ → Bool) (x : V) → m.is_value d x → length (m.reads d v x) ≡ m.width x) where
    pub whole_changed : (d now : S) (guard : Option V) (part old r : V) → m.is_value d part → m.is_value d old → m.width old ≡ m.width part
        → Stands m now r (m.width old) (λ v. if allows m d v guard then m.reads d v part else m.reads d v old)
        → Stands m now r (m.width old) (λ v. if allows m d v guard then placed (pos 0) (m.reads d v part) (m.reads d v old) else m.reads d v old)
    whole_changed d now guard part old r i j e s = record {
      is_one = s.is_one;
      wide = s.wide;
      reads_as = λ v. s.reads_as v ∙ ap (λ x. if allows m d v guard then x else m.reads d v old)
          (sym (whole_placed (m.reads d v part) (m.reads d v old) (law d v part i ∙ sym e ∙ sym (law d v old j))));
    }

  part_or_back : (b : Bool) (low : ℤ) (n : ℕ) (part old : List Bool) → placed low (if b then part else selected low n old) old ≡ (if b then placed low part old else old)
  part_or_back true low n part old = refl
  part_or_back false low n part old = placed_back low n old

  pub part_changed : (d d1 d2 now : S) (guard : Option V) (part old had new r : V) (low z : ℤ) (n : ℕ) → z ≡ low → IsGuard m d guard → m.is_value d part → m.is_value d old
      → Keeps m d d1 → Keeps m d1 d2
      → Stands m d1 had n (λ v. selected z n (m.reads d v old))
      → Stands m d2 new (m.width had) (λ v. if allows m d1 v guard then m.reads d1 v part else m.reads d1 v had)
      → Stands m now r (m.width old) (λ v. placed z (m.reads d2 v new) (m.reads d2 v old))
      → Stands m now r (m.width old) (λ v. if allows m d v guard then placed low (m.reads d v part) (m.reads d v old) else m.reads d v old)
  part_changed d d1 d2 now guard part old had new r low z n at gi i j k l h w s = record {
    is_one = s.is_one;
    wide = s.wide;
    reads_as = λ v.
        let e : m.reads d2 v old ≡ m.reads d v old = l.same old v (k.still old j) ∙ k.same old v j in
        s.reads_as v ∙ ap₂ (λ x y. placed z x y)
        (w.reads_as v ∙ ap₂ (λ x y. if allows m d1 v guard then x else y) (k.same part v i) (h.reads_as v)
        ∙ ap (λ b. if b then m.reads d v part else selected z n (m.reads d v old)) (kept_allows d d1 v guard k gi)) e
        ∙ part_or_back (allows m d v guard) z n (m.reads d v part) (m.reads d v old)
        ∙ ap (λ x. if allows m d v guard then placed x (m.reads d v part) (m.reads d v old) else m.reads d v old) at;
  }

  module _ (law : (d : S) (v : ℕ → Bool) (x : V) → m.is_value d x → length (m.reads d v x) ≡ m.width x) where
    pub whole_spot : (d now : S) (guard : Option V) (part old r : V) (n : ℕ) (at : Spot V) → at ≡ spot.Whole → m.is_value d part → m.is_value d old → m.width part ≡ n → SpotTakes m d (m.width old) n at
        → Stands m now r (m.width old) (λ v. if allows m d v guard then m.reads d v part else m.reads d v old)
        → Stands m now r (m.width old) (λ v. if allows m d v guard then placed (spot_low m d v at) (m.reads d v part) (m.reads d v old) else m.reads d v old)
    whole_spot d now guard part old r n at is i j w takes s =
        subst (λ a. Stands m now r (m.width old) (λ v. if allows m d v guard then placed (spot_low m d v a) (m.reads d v part) (m.reads d v old) else m.reads d v old)) (sym is)
        (whole_changed law d now guard part old r i j (subst (SpotTakes m d (m.width old) n) is takes ∙ sym w) s)

  pub at_spot : (d d1 d2 now : S) (guard : Option V) (part old had new r : V) (low z : ℤ) (n : ℕ) (at : Spot V) → at ≡ spot.At low → z ≡ low → IsGuard m d guard → m.is_value d part → m.is_value d old
      → Keeps m d d1 → Keeps m d1 d2
      → Stands m d1 had n (λ v. selected z n (m.reads d v old))
      → Stands m d2 new (m.width had) (λ v. if allows m d1 v guard then m.reads d1 v part else m.reads d1 v had)
      → Stands m now r (m.width old) (λ v. placed z (m.reads d2 v new) (m.reads d2 v old))
      → Stands m now r (m.width old) (λ v. if allows m d v guard then placed (spot_low m d v at) (m.reads d v part) (m.reads d v old) else m.reads d v old)
  at_spot d d1 d2 now guard part old had new r low z n at is e gi i j k l h w s =
      subst (λ a. Stands m now r (m.width old) (λ v. if allows m d v guard then placed (spot_low m d v a) (m.reads d v part) (m.reads d v old) else m.reads d v old)) (sym is)
      (part_changed d d1 d2 now guard part old had new r low z n e gi i j k l h w s)
