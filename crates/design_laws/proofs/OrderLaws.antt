-- An ordered list of cells has exactly one settled assignment for each stored state and input.
use Rattle.std.proofs.Common.{◌≡◌, Bool, true, false, List, [], ◌∷◌, ◌⊎◌, inl, inr, refl, sym, ◌∙◌, subst, if◌then◌else◌, ◌||◌}
use Rattle.std.proofs.Math.Path.{fun_ext}
use Rattle.design_core.specs.Cells.{Bitmap, Cell, In, driven, IsLawful, IsFirst, IsOrdered, Holds, Settled, settle}

pub or_false : (a b : Bool) → (a || b) ≡ false → (a ≡ false) × (b ≡ false)
or_false true b h = cc
or_false false b h = (refl, h)

pub false_or : (a b : Bool) → a ≡ false → b ≡ false → (a || b) ≡ false
false_or true b h k = cc
false_or false b h k = k

pub not_both : {P : Type 0} (a : Bool) → a ≡ true → a ≡ false → P
not_both true h k = cc
not_both false h k = cc

-- a test is true or false
pub either : (a : Bool) → (a ≡ true) ⊎ (a ≡ false)
either true = inl refl
either false = inr refl

pub if_true : {A : Type 0} (c : Bool) (x y : A) → c ≡ true → (if c then x else y) ≡ x
if_true true x y h = refl
if_true false x y h = cc

pub if_false : {A : Type 0} (c : Bool) (x y : A) → c ≡ false → (if c then x else y) ≡ y
if_false true x y h = cc
if_false false x y h = refl

module _ {B : Type 0} where
  -- what settling does not drive it leaves
  pub settle_keeps : (E : List (Cell B)) (s σ : Bitmap B) (b : B) → driven E b ≡ false → settle E s σ b ≡ σ b
  settle_keeps [] s σ b h = refl
  settle_keeps (c ∷ cs) s σ b h =
      let p = or_false (c.drives b) (driven cs b) h in
      settle_keeps cs s (λ b. if c.drives b then c.within s σ b else σ b) b p.1
      ∙ if_false (c.drives b) (c.within s σ b) (σ b) p.0

  pub settle_holds : (E : List (Cell B)) (s σ : Bitmap B) → IsOrdered E → ((c : Cell B) → In c E → IsLawful c)
      → (c : Cell B) → In c E → Holds c s (settle E s σ)
  settle_holds [] s σ o laws c m = elim m [ ]
  settle_holds (c ∷ cs) s σ o laws d (inr m) = settle_holds cs s (λ b. if c.drives b then c.within s σ b else σ b) o.1 (λ e n. laws e (inr n)) d m
  settle_holds (c ∷ cs) s σ o laws d (inl is) =
      let mid : Bitmap B = λ b. if c.drives b then c.within s σ b else σ b in
      let P : Cell B → Type 0 = λ e. Holds e s (settle cs s mid) in
      subst P (sym is) (record {
        gives = λ b h.
            settle_keeps cs s mid b (o.0.alone b h)
            ∙ if_true (c.drives b) (c.within s σ b) (σ b) h
            ∙ (laws c (inl refl)).within_same s s σ (settle cs s mid) b h
            (λ a r. let f = or_false (c.drives a) (driven cs a) (o.0.reads_before a r) in
            sym (settle_keeps cs s mid a f.1 ∙ if_false (c.drives a) (c.within s σ a) (σ a) f.0))
            (λ k. refl);
      })

  -- two assignments that are as the cells give them agree on the bits R
  pub record Part (R : B → Bool) (s t σ τ : Bitmap B) (c : Cell B) : Type 0 where
    pub one : Holds c s σ
    pub other : Holds c t τ
    pub reads_in : (b : B) → c.reads b ≡ true → R b ≡ true
    pub stored : (b : B) → c.drives b ≡ true → c.clocked ≡ true → s b ≡ t b

  agree_here : (R : B → Bool) (s t σ τ : Bitmap B) (c : Cell B) (cs : List (Cell B)) → IsFirst c cs → IsLawful c
      → ((b : B) → R b ≡ true → c.drives b ≡ true → Part R s t σ τ c)
      → ((b : B) → R b ≡ true → (c.drives b || driven cs b) ≡ false → σ b ≡ τ b)
      → (b : B) → R b ≡ true → c.drives b ≡ true → σ b ≡ τ b
  agree_here R s t σ τ c cs first law parts base b r h =
      let part = parts b r h in
      part.one.gives b h
      ∙ law.within_same s t σ τ b h (λ a q. base a (part.reads_in a q) (first.reads_before a q)) (part.stored b h)
      ∙ sym (part.other.gives b h)

  pub agree : (R : B → Bool) (s t σ τ : Bitmap B) (E : List (Cell B)) → IsOrdered E → ((c : Cell B) → In c E → IsLawful c)
      → ((c : Cell B) → In c E → (b : B) → R b ≡ true → c.drives b ≡ true → Part R s t σ τ c)
      → ((b : B) → R b ≡ true → driven E b ≡ false → σ b ≡ τ b)
      → (b : B) → R b ≡ true → σ b ≡ τ b
  agree R s t σ τ [] o laws parts base b r = base b r refl
  agree R s t σ τ (c ∷ cs) o laws parts base b r =
      agree R s t σ τ cs o.1 (λ d m. laws d (inr m)) (λ d m. parts d (inr m))
      (λ a q u. elim (either (c.drives a)) [
        | inl h ↦ agree_here R s t σ τ c cs o.0 (laws c (inl refl)) (parts c (inl refl)) base a q h
        | inr h ↦ base a q (false_or (c.drives a) (driven cs a) h u)
      ])
      b r

  -- there is a settled assignment
  pub settle_settled : (E : List (Cell B)) (s i : Bitmap B) → IsOrdered E → ((c : Cell B) → In c E → IsLawful c) → Settled E s i (settle E s i)
  settle_settled E s i o laws = record { inputs = settle_keeps E s i; holds = settle_holds E s i o laws }

  -- and no other
  pub settled_once : (E : List (Cell B)) (s i σ τ : Bitmap B) → IsOrdered E → ((c : Cell B) → In c E → IsLawful c)
      → Settled E s i σ → Settled E s i τ → σ ≡ τ
  settled_once E s i σ τ o laws p q = fun_ext (λ b.
      agree (λ b. true) s s σ τ E o laws
      (λ c m a r d. record { one = p.holds c m; other = q.holds c m; reads_in = λ b h. refl; stored = λ b h k. refl })
      (λ b r u. p.inputs b u ∙ sym (q.inputs b u)) b refl)
