-- Laws of bytes written over a room from a place on: one byte, nothing, one write after another. Assumes nothing.
use Rattle.std.specs.Prelude.{ℕ, ◌+◌, ◌≤◌, ◌<◌, ◌≡◌, List, [], ◌∷◌, ◌++◌, length, take, drop, set}
use Rattle.std.proofs.Common.{ap, ap₂, sym, ◌∙◌, append_assoc, arith, add_assoc, add-zero, zero-add, add-one, length-append, length-drop, take-append-drop, take_at, length-take-le, drop-drop}
use Rattle.std.proofs.Math.Seq.{drop-append-add, take-append_seam, drop-append_seam}
use Rattle.std.proofs.lemmas.List.{set_split}
use Rattle.rules.specs.Rule.Frame.{over}

pub length_over : (l : List ℕ) (at : ℕ) (x : List ℕ) → at + length x ≤ length l → length (over l at x) ≡ length l
unfolding over
length_over l at x h = let e = length-take-le at l (omega arith) in simp (length-append, length-drop) (omega arith)

pub over_nothing : (l : List ℕ) (at : ℕ) → over l at [] ≡ l
unfolding over
over_nothing l at = rw (add-zero at) (take-append-drop at l)

pub over_byte : (l : List ℕ) (at v : ℕ) → at < length l → set l at v ≡ over l at (v ∷ [])
unfolding over
over_byte l at v h = rw (add-one at) (set_split l at v h)

pub over_over : (l : List ℕ) (at : ℕ) (x y : List ℕ) → at ≤ length l → over (over l at x) (at + length x) y ≡ over l at (x ++ y)
unfolding over
over_over l at x y h =
    let p = take at l in
    let d = drop (at + length x) l in
    let n = at + length x in
    let pl : length p ≡ at = length-take-le at l h in
    let hl : length (p ++ x) ≡ n = length-append p x ∙ ap (λ k. k + length x) pl in
    let m : p ++ (x ++ d) ≡ (p ++ x) ++ d = sym (append_assoc p x d) in
    let t : take n (p ++ (x ++ d)) ≡ p ++ x = ap (take n) m ∙ take_at (p ++ x) d n hl in
    let u : drop (n + length y) (p ++ (x ++ d)) ≡ drop (n + length y) l =
    ap (drop (n + length y)) m ∙ ap (λ k. drop (k + length y) ((p ++ x) ++ d)) (sym hl) ∙ drop-append-add (p ++ x) d (length y)
    ∙ drop-drop (length y) n l in
    let w : n + length y ≡ at + length (x ++ y) =
    add_assoc at (length x) (length y) ∙ ap (λ k. at + k) (sym (length-append x y)) in
    ap₂ (λ a b. a ++ (y ++ b)) t (u ∙ ap (λ k. drop k l) w) ∙ simp append_assoc

-- ---- over the front of a room

pub over_front : (o x : List ℕ) → take (length x) (over o 0 x) ≡ x
unfolding over
over_front o x = take-append_seam x (drop (0 + length x) o)

pub over_past : (o x : List ℕ) → drop (length x) (over o 0 x) ≡ drop (length x) o
unfolding over
over_past o x = rw (zero-add, drop-append_seam x (drop (length x) o))
