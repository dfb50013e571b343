-- Laws of stores one after the other, `sets` of the toolchain's library. Assumes nothing.
use Rattle.std.proofs.Common.{◌≡◌, ℕ, suc, ◌+◌, ◌-◌, ◌<◌, ◌≤◌, min, List, [], ◌∷◌, ◌++◌, length, take, drop, refl, sym, ap, ◌∙◌, arith, length-take, length-drop, replicate, append_assoc, take-append-drop, drop-drop}
use Rattle.std.proofs.lemmas.List.{take-replicate, length-replicate}
use Rattle.std.proofs.lemmas.List.Edits.{sets, sets-eq}
use borrow.Rule.Slice.PartMut.{put_mid}
use Rattle.std.proofs.Math.ListN.{set}
use Rattle.std.proofs.Math.Seq.{set_out, length-sets}

-- past the end nothing is stored
pub sets_out : (l : List ℕ) (i : ℕ) (vs : List ℕ) → length l ≤ i → sets l i vs ≡ l
sets_out l i [] h = refl
sets_out l i (v ∷ vs) h = rw (set_out l i v h) (sets_out l (suc i) vs (omega arith))

sets_append : (vs ws l : List ℕ) (i : ℕ) → sets l i (vs ++ ws) ≡ sets (sets l i vs) (i + length vs) ws
sets_append [] ws l i = let z : i + 0 ≡ i = omega arith in rw z
sets_append (v ∷ vs) ws l i =
    let s : i + suc (length vs) ≡ suc i + length vs = omega arith in
    rw s (sets_append vs ws (set l i v) (suc i))

stores_left : (l : List ℕ) (i : ℕ) (vs : List ℕ) → (0 < length vs → length l ≤ i) → sets l i vs ≡ l
stores_left l i [] h = refl
stores_left l i (v ∷ vs) h = sets_out l i (v ∷ vs) (h (omega arith))

-- as many as there is room for
pub sets_room : (l : List ℕ) (i n : ℕ) (vs : List ℕ) → i ≤ length l → n ≡ min (length vs) (length l - i) → sets l i vs ≡ take i l ++ (take n vs ++ drop n (drop i l))
sets_room l i n vs h e =
    let k : length (take n vs) ≡ n = length-take n vs ∙ omega arith in
    let left = stores_left (sets l i (take n vs)) (i + length (take n vs)) (drop n vs) (λ p. omega (arith, length-drop n vs, length-sets l i (take n vs), p)) in
    ap (λ v. sets l i v) (sym (take-append-drop n vs))
    ∙ sets_append (take n vs) (drop n vs) l i
    ∙ left
    ∙ sets-eq (take n vs) l i (omega arith)
    ∙ rw (k, drop-drop n i l) (append_assoc (take i l) (take n vs) (drop (i + n) l))

-- a letter so many times, as often as there is room for
pub sets_filled : (l : List ℕ) (i n times x : ℕ) (part : List ℕ) → i ≤ length l → n ≡ min (length (replicate times x)) (length l - i) → part ≡ replicate (length (take (i + n - i) (drop i l))) x → put_mid i (i + n - i) l part ≡ sets l i (replicate times x)
sets_filled l i n times x part h e p =
    let k : i + n - i ≡ n = omega arith in
    let m : length (take (i + n - i) (drop i l)) ≡ n = length-take (i + n - i) (drop i l) ∙ omega (arith, length-drop i l) in
    let t : n ≤ times = omega (arith, length-replicate times x) in
    rw (p, m, k, sets_room l i n (replicate times x) h e, take-replicate n times x t)
