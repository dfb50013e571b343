-- Laws of the words on lists: all, one, rising, equal. What is left of a slice is read by `_step` and `_end`. Assumes nothing.
use Rattle.std.specs.Prelude.{◌≡◌, refl, Bool, true, false, ◌&&◌, ◌||◌, List, [], ◌∷◌, ◌++◌, map, ℕ, ◌-◌, length, take, drop, eqb, ◌+◌, ◌≤◌, ◌<◌, get_or}
use Rattle.std.proofs.Common.{sym, ap, ap₂, arith, length-drop, take_all, eqb-true, eq-eqb, add-one, drop_of_length-le, drop-cons}
use Rattle.std.proofs.lemmas.Bool.{false≢true}
use Rattle.std.proofs.Math.Bool.{and_assoc, or_assoc}
use Rattle.terms.specs.Base.{every, some, rising, alike}
use Rattle.terms.specs.Laws.Bools.{and_left, and_right}

-- ---- every, some

pub every_append : {A : Type 0} (f : A → Bool) (xs ys : List A) → every f (xs ++ ys) ≡ every f xs && every f ys
unfolding every
every_append f [] ys = refl
every_append f (x ∷ xs) ys = rw (every_append f xs ys) (sym (and_assoc (f x) (every f xs) (every f ys)))

pub every_step : (f : ℕ → Bool) (s : List ℕ) (i : ℕ) → i < length s
    → every f (drop i s) ≡ f (get_or s i 0) && every f (drop (i + 1) s)
unfolding every
every_step f s i h = rw (add-one, drop-cons s i 0)

pub every_end : (f : ℕ → Bool) (s : List ℕ) (i : ℕ) → length s ≤ i → every f (drop i s) ≡ true
unfolding every
every_end f s i h = rw (drop_of_length-le s h)

pub some_append : {A : Type 0} (f : A → Bool) (xs ys : List A) → some f (xs ++ ys) ≡ some f xs || some f ys
unfolding some
some_append f [] ys = refl
some_append f (x ∷ xs) ys = rw (some_append f xs ys) (sym (or_assoc (f x) (some f xs) (some f ys)))

pub some_step : (f : ℕ → Bool) (s : List ℕ) (i : ℕ) → i < length s
    → some f (drop i s) ≡ f (get_or s i 0) || some f (drop (i + 1) s)
unfolding some
some_step f s i h = rw (add-one, drop-cons s i 0)

pub some_end : (f : ℕ → Bool) (s : List ℕ) (i : ℕ) → length s ≤ i → some f (drop i s) ≡ false
unfolding some
some_end f s i h = rw (drop_of_length-le s h)

-- ---- good and rising

-- four tests in another order
shuffle : (a b c d : Bool) → a && b && (c && d) ≡ a && c && (b && d)
shuffle true true c d = refl
shuffle true false true d = refl
shuffle true false false d = refl
shuffle false b c d = refl

-- one more element after p
pub rising_step : {A : Type 0} (good : A → Bool) (less : A → A → Bool) (p x : A) (xs : List A)
    → every good (x ∷ xs) && rising less (p ∷ x ∷ xs) ≡ good x && less p x && (every good xs && rising less (x ∷ xs))
unfolding every rising
rising_step good less p x xs = shuffle (good x) (every good xs) (less p x) (rising less (x ∷ xs))

-- an element below every good one may stand in front
pub rising_bottom : {A : Type 0} (good : A → Bool) (less : A → A → Bool) (p : A) → ((x : A) → good x ≡ true → less p x ≡ true)
    → (xs : List A) → every good xs && rising less xs ≡ every good xs && rising less (p ∷ xs)
unfolding every rising
rising_bottom good less p h [] = refl
rising_bottom good less p h (x ∷ xs) = go (good x) (every good xs) refl
  where
    go : (a b : Bool) → good x ≡ a → a && b && rising less (x ∷ xs) ≡ a && b && (less p x && rising less (x ∷ xs))
    go true b e = rw (h x e)
    go false b e = refl

-- ---- equal bytes

pub alike_refl : (s : List ℕ) → alike s s ≡ true
unfolding alike
alike_refl [] = refl
alike_refl (x ∷ s) = rw (eq-eqb x x refl) (alike_refl s)

pub alike_eq : (s t : List ℕ) → alike s t ≡ true → s ≡ t
unfolding alike
alike_eq [] [] e = refl
alike_eq [] (y ∷ t) e = absurd (false≢true e)
alike_eq (x ∷ s) [] e = absurd (false≢true e)
alike_eq (x ∷ s) (y ∷ t) e =
    ap₂ (λ (z : ℕ) (l : List ℕ). z ∷ l) (eqb-true x y (and_left (eqb x y) (alike s t) e))
    (alike_eq s t (and_right (eqb x y) (alike s t) e))

-- ---- parts

-- the part `&s[d..]` is what is left after d
pub take_rest : (d : ℕ) (s : List ℕ) → take (length s - d) (drop d s) ≡ drop d s
take_rest d s = take_all (length s - d) (drop d s) (simp length-drop (omega arith))

-- ---- under a map

pub every_map : {A B : Type 0} (f : B → Bool) (g : A → B) (xs : List A) → every f (map g xs) ≡ every (λ x. f (g x)) xs
unfolding every
every_map f g [] = refl
every_map f g (x ∷ xs) = ap (λ (b : Bool). f (g x) && b) (every_map f g xs)

pub every_ext : {A : Type 0} (f g : A → Bool) → ((x : A) → f x ≡ g x) → (xs : List A) → every f xs ≡ every g xs
unfolding every
every_ext f g h [] = refl
every_ext f g h (x ∷ xs) = ap₂ ◌&&◌ (h x) (every_ext f g h xs)

pub some_map : {A B : Type 0} (f : B → Bool) (g : A → B) (xs : List A) → some f (map g xs) ≡ some (λ x. f (g x)) xs
unfolding some
some_map f g [] = refl
some_map f g (x ∷ xs) = ap (λ (b : Bool). f (g x) || b) (some_map f g xs)

pub some_ext : {A : Type 0} (f g : A → Bool) → ((x : A) → f x ≡ g x) → (xs : List A) → some f xs ≡ some g xs
unfolding some
some_ext f g h [] = refl
some_ext f g h (x ∷ xs) = ap₂ ◌||◌ (h x) (some_ext f g h xs)
