-- Where a suffix stands in its host: a label, a dot and the m bytes that are public, behind a dot of the host or at its
-- beginning. What follows of it from that alone. Assumes nothing.
use Rattle.std.specs.Prelude.{◌≡◌, refl, Bool, true, false, ◌&&◌, cond, ◌⊎◌, List, [], ◌∷◌, ◌++◌, ℕ, suc, ◌+◌, ◌-◌, ◌≤◌, ◌<◌, length, get_or, take, drop, ltb, eqb}
use Rattle.std.proofs.Common.{sym, ap, ◌∙◌, inl, inr, ⊎_elim, append_assoc, arith, length-append, length-drop, take_at, drop_at, lt-ltb, ltb-true}
use Rattle.std.proofs.Math.Bool.{or-true}
use Rattle.std.proofs.Math.Seq.{split_at}
use Rattle.terms.specs.Base.{some, last_of}
use Rattle.terms.specs.Rule.Name.{labels, has_dot, is_name}
use Rattle.terms.specs.Rule.Under.{under}
use Rattle.terms.specs.Rule.Suffix.{with_label}
use Rattle.terms.specs.Laws.Lists.{some_append}
use Rattle.terms.specs.Laws.Labels.{Cut, plain, after, cut, last_plain, last_after}
use Rattle.terms.specs.Laws.Name.{name_after, labels_before, last_length}
use Rattle.terms.specs.Laws.Under.{under_refl, under_dot}

-- ---- one label more

pub with_label_is : (h : List ℕ) (m : ℕ) → 0 < m → m < length h
    → with_label h m ≡ length (last_of (labels (take (length h - (m + 1)) h))) + 1 + m
unfolding with_label
with_label_is h m p l = rw (lt-ltb 0 m p, lt-ltb m (length h) l)

-- a label is added only before bytes that leave some of the host
pub reached : (h : List ℕ) (m : ℕ) → 1 ≤ with_label h m → (0 < m) × (m < length h)
unfolding with_label
reached h m l = go (ltb 0 m) (ltb m (length h)) refl refl l
  where
    go : (a c : Bool) → ltb 0 m ≡ a → ltb m (length h) ≡ c
        → 1 ≤ cond (a && c) (length (last_of (labels (take (length h - (m + 1)) h))) + 1 + m) 0 → (0 < m) × (m < length h)
    go true true e f k = (ltb-true 0 m e, ltb-true m (length h) f)
    go true false e f k = absurd (omega arith)
    go false c e f k = absurd (omega arith)

-- ---- where the suffix stands

-- the part is a label, a dot and m bytes more, and the host is the part or ends with a dot followed by it
pub record Stands (h part : List ℕ) (m : ℕ) : Type 0 where
  pub label : List ℕ
  pub rest : List ℕ
  pub is : part ≡ label ++ 46 ∷ rest
  pub plain : has_dot label ≡ false
  pub size : length rest ≡ m
  pub front : List ℕ
  pub host : (h ≡ part) ⊎ (h ≡ front ++ 46 ∷ part)

-- the host before the m bytes and their dot, and after
pub record Halves (h : List ℕ) (m : ℕ) : Type 0 where
  pub front : List ℕ
  pub rest : List ℕ
  pub is : h ≡ front ++ 46 ∷ rest
  pub first : front ≡ take (length h - (m + 1)) h
  pub size : length rest ≡ m

halves : (h : List ℕ) (m : ℕ) → m < length h → get_or h (length h - (m + 1)) 0 ≡ 46 → Halves h m
halves h m l x =
    let j = length h - (m + 1) in
    record {
      front = take j h;
      rest = drop (suc j) h;
      is = split_at h j 0 (omega arith) ∙ ap (λ (y : ℕ). take j h ++ y ∷ drop (suc j) h) x;
      first = refl;
      size = length-drop (suc j) h ∙ omega arith;
    }

-- the last bytes of the host that the label and the m bytes take
pub record Found (h : List ℕ) (m : ℕ) : Type 0 where
  pub part : List ℕ
  pub stands : Stands h part m
  pub taken : drop (length h - with_label h m) h ≡ part
  pub size : with_label h m ≡ length part

found_cut : {f : List ℕ} (h rest : List ℕ) (m : ℕ) → length rest ≡ m → with_label h m ≡ length (last_of (labels f)) + 1 + m
    → Cut f → h ≡ f ++ 46 ∷ rest → Found h m
found_cut {f} h rest m s w (plain e) k =
    let n : length h ≡ length f + suc (length rest) = ap length k ∙ length-append f (46 ∷ rest) in
    let r : with_label h m ≡ length h = w ∙ ap (λ (l : List ℕ). length l + 1 + m) (last_plain f e) ∙ omega arith in
    let z : length h - length h ≡ 0 = omega arith in
    record {
      part = h;
      stands = record { label = f; rest = rest; is = k; plain = e; size = s; front = []; host = inl refl };
      taken = rw (r, z);
      size = r;
    }
found_cut h rest m s w (after p l e) k =
    let part = l ++ 46 ∷ rest in
    let h₁ : h ≡ p ++ 46 ∷ part = k ∙ append_assoc p (46 ∷ l) (46 ∷ rest) in
    let h₂ : h ≡ (p ++ 46 ∷ []) ++ part = h₁ ∙ sym (append_assoc p (46 ∷ []) part) in
    let a : length part ≡ length l + suc (length rest) = length-append l (46 ∷ rest) in
    let n : length h ≡ length p + suc (length part) = ap length h₁ ∙ length-append p (46 ∷ part) in
    let r : with_label h m ≡ length part = w ∙ ap (λ (x : List ℕ). length x + 1 + m) (last_after p l e) ∙ omega arith in
    let o : length (p ++ 46 ∷ []) ≡ length h - with_label h m = length-append p (46 ∷ []) ∙ omega arith in
    record {
      part = part;
      stands = record { label = l; rest = rest; is = refl; plain = e; size = s; front = p; host = inr h₁ };
      taken = ap (drop (length h - with_label h m)) h₂ ∙ drop_at (p ++ 46 ∷ []) part (length h - with_label h m) o;
      size = r;
    }

pub found : (h : List ℕ) (m : ℕ) → 0 < m → m < length h → get_or h (length h - (m + 1)) 0 ≡ 46 → Found h m
found h m p l x =
    let v = halves h m l x in
    found_cut h v.rest m v.size
    (with_label_is h m p l ∙ ap (λ (f : List ℕ). length (last_of (labels f)) + 1 + m) (sym v.first))
    (cut v.front) v.is

-- ---- what the part has of the host

pub stands_length : (h part : List ℕ) (m : ℕ) (w : Stands h part m) → length part ≡ length w.label + suc m
stands_length h part m w =
    let z = w.size in
    ap length w.is ∙ length-append w.label (46 ∷ w.rest) ∙ omega arith

pub stands_under : (h part : List ℕ) (m : ℕ) → Stands h part m → under h part ≡ true
stands_under h part m w =
    ⊎_elim (λ e. rw e (under_refl part)) (λ e. rw e (under_dot w.front part)) w.host

pub part_name : (h part : List ℕ) (m : ℕ) → is_name h ≡ true → Stands h part m → is_name part ≡ true
part_name h part m n w =
    ⊎_elim (λ e. sym (ap is_name e) ∙ n) (λ e. name_after w.front part (sym (ap is_name e) ∙ n)) w.host

pub part_dot : (h part : List ℕ) (m : ℕ) → Stands h part m → has_dot part ≡ true
unfolding has_dot some
part_dot h part m w =
    ap has_dot w.is ∙ some_append (λ x. eqb x 46) w.label (46 ∷ w.rest) ∙ or-true (some (λ x. eqb x 46) w.label)

-- the label has a byte, the dot is one, and a byte at least is public
pub part_size : (h part : List ℕ) (m : ℕ) → 0 < m → is_name part ≡ true → Stands h part m → 3 ≤ length part
part_size h part m p n w =
    let a = stands_length h part m w in
    let l : 1 ≤ length w.label =
    rw (last_plain w.label w.plain) at
    (last_length w.label (labels_before w.label w.rest (sym (ap is_name w.is) ∙ n))) in
    omega arith

-- and one label more is all of the part
pub stands_whole : (h part : List ℕ) (m : ℕ) → 0 < m → Stands h part m → with_label part m ≡ length part
stands_whole h part m p w =
    let a = stands_length h part m w in
    let t : take (length part - (m + 1)) part ≡ w.label =
    ap (take (length part - (m + 1))) w.is ∙ take_at w.label (46 ∷ w.rest) (length part - (m + 1)) (omega arith) in
    with_label_is part m p (omega arith) ∙ rw (t, last_plain w.label w.plain) (omega arith)
