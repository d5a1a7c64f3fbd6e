-- Lines go out one after the other.
use Rattle.std.proofs.Common.{◌≡◌, ◌<◌, ◌+◌, ◌++◌, ◌∙◌, ℕ, List, [], ◌∷◌, length, take, drop, map, get_or, Option, Some, None, Result, Ok, Err, subst, refl, sym, ap, append_assoc, add-one, drop-cons}
use Rattle.std.proofs.lemmas.List.{append-nil, map-append, take-append-drop}
use Rattle.std.proofs.lemmas.Grind.{flat_map-append}
use Rattle.std.specs.Io.KnownBytes.{Appends}
use Rattle.shelf_io.specs.Sink.{AppendsPart}
use Rattle.conncheck.specs.Ends.{Adds, Ends}
use Rattle.conncheck.specs.declared.status.Stop.{Stop}
use Rattle.conncheck.specs.declared.status.Stop.TheVariants.{Write, Memory}
use Rattle.conncheck.specs.Reply.{Reply, joined, text_of}
use Rattle.conncheck.specs.Words.{Text}

pub start : (o : Option Text) → Appends o o []
start None = tt
start (Some xs) = sym (append-nil xs)

pub more : (a b c : Option Text) (xs ys : Text) → Appends a b xs → Appends b c ys → Appends a c (xs ++ ys)
more None b c xs ys p q = tt
more (Some a) None c xs ys p q = absurd p
more (Some a) (Some b) None xs ys p q = absurd q
more (Some a) (Some b) (Some c) xs ys p q = q ∙ ap (λ (z : Text). z ++ ys) p ∙ append_assoc a xs ys

regroup : (xs p r zs : Text) → (xs ++ p) ++ (r ++ zs) ≡ xs ++ ((p ++ r) ++ zs)
regroup xs p r zs = simp append_assoc

-- a write that failed in the middle
pub part_of : (a b c : Option Text) (xs ys zs whole : Text) → xs ++ (ys ++ zs) ≡ whole → Appends a b xs → AppendsPart b c ys → AppendsPart a c whole
part_of a b c xs ys zs whole e p q = record {
  part = xs ++ q.part;
  rest = q.rest ++ zs;
  parts = regroup xs q.part q.rest zs ∙ ap (λ (y : Text). xs ++ (y ++ zs)) q.parts ∙ e;
  follows = more a b c xs q.part p q.follows;
}

pub joined_at : (front back : List Text) (line : Text) → joined (front ++ (line ∷ back)) ≡ joined front ++ (line ++ joined back)
joined_at front back line = flat_map-append (λ (t : Text). t) front (line ∷ back)

-- the call ended at this line
pub stopped_at : (o : Reply) (old now new : Option Text) (front back : List Text) (line : Text) (e : Stop)
    → front ++ (line ∷ back) ≡ o.pieces → Appends old now (joined front) → Adds {T = Unit {0}} line now new (Err e) → Ends o old new (Err e)
stopped_at o old now new front back line Write parts front_is adds =
    part_of old now new (joined front) line (joined back) (text_of o) (sym (joined_at front back line) ∙ ap joined parts) front_is adds
stopped_at o old now new front back line Memory parts front_is adds = record {
  front = front;
  back = line ∷ back;
  parts = parts;
  follows = let e = more old now new (joined front) [] front_is adds in rw append-nil at e;
}

-- want of memory before anything was printed
pub nothing : (o : Reply) (old : Option Text) → Ends o old old (Err Memory)
nothing o old = record { front = []; back = o.pieces; parts = refl; follows = start old }

-- one line is the whole text
pub alone : (old new : Option Text) (line text : Text) → text ≡ line → Appends old new text → Appends old new (joined (line ∷ []))
alone old new line text e h = rw (append-nil line, ← e) h

-- a piece's place among the pieces of all, where the item is read by its place
pub row_at : {X : Type 0} (f : X → Text) (xs : List X) (i : ℕ) (d : X) (t : Text) → i < length xs
    → map f (take i xs) ++ (f (get_or xs i d) ∷ (map f (drop (i + 1) xs) ++ (t ∷ []))) ≡ map f xs ++ (t ∷ [])
row_at {X} f xs i d t lt =
    let x = get_or xs i d in
    let tail : drop i xs ≡ x ∷ drop (i + 1) xs = rw (add-one) (drop-cons xs i d lt) in
    let cut : take i xs ++ (x ∷ drop (i + 1) xs) ≡ xs = ap (λ (ys : List X). take i xs ++ ys) (sym tail) ∙ take-append-drop i xs in
    sym (append_assoc (map f (take i xs)) (f x ∷ map f (drop (i + 1) xs)) (t ∷ []))
    ∙ ap (λ (ys : List Text). ys ++ (t ∷ [])) (sym (map-append f (take i xs) (x ∷ drop (i + 1) xs)) ∙ ap (map f) cut)

-- the whole text, after its last piece
pub all_out : (o : Reply) (old now new : Option Text) (front : List Text) (last : Text)
    → front ++ (last ∷ []) ≡ o.pieces → Appends old now (joined front) → Appends now new last → Appends old new (text_of o)
all_out o old now new front last parts front_is last_is =
    let e : joined front ++ last ≡ text_of o = ap (λ (t : Text). joined front ++ t) (sym (append-nil last)) ∙ sym (joined_at front [] last) ∙ ap joined parts in
    let P : Text → Type 0 = λ t. Appends old new t in
    subst P e (more old now new (joined front) last front_is last_is)

-- what follows the first pieces, however the write of one more ended
pub rest_of : {T : Type 0} (old now new : Option Text) (front piece : Text) (r : Result T Stop) → Appends old now front → Adds piece now new r → (rest : Text) × Appends old new (front ++ rest)
rest_of old now new front piece (Ok x) p q = (piece, more old now new front piece p q)
rest_of old now new front piece (Err Write) p q = (q.part, more old now new front q.part p q.follows)
rest_of old now new front piece (Err Memory) p q = ([], more old now new front [] p q)
