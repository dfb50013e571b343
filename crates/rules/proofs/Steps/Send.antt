-- How what src/send.rt puts, part by part, comes to one frame. Assumes nothing.
use Rattle.std.specs.Prelude.{ℕ, ◌+◌, ◌≡◌, List, [], ◌∷◌, ◌++◌, length}
use Rattle.std.proofs.Common.{ap, sym, subst, ◌∙◌, append-nil, arith, length-append}
use Rattle.terms.specs.Names.{folded}
use Rattle.terms.specs.Laws.Fold.{length_folded, folded_nil}
use Rattle.rules.specs.Rule.Frame.{framed, head, bytes}
use Rattle.rules.specs.Held.{Put, Wrote, Sent, Fits}
use Rattle.rules.proofs.Laws.Wrote.{wrote_then}
use Rattle.rules.proofs.Laws.Frame.{length_head}
use Rattle.rules.proofs.Laws.Sent.{sent_one}

put_wrote : {o : List ℕ} {at : ℕ} {x o' : List ℕ} {r : ℕ} → Put o at x o' r → Wrote o at x o' r
put_wrote w = record { next = w.next; bytes = w.bytes }

-- ---- a frame

pub length_payload : (lead name rest : List ℕ)
    → length (lead ++ (folded name ++ rest)) ≡ length lead + length name + length rest
length_payload lead name rest =
    let a = length-append lead (folded name ++ rest) in
    let b = length-append (folded name) rest in
    let d = length_folded name in
    omega (arith, a, b, d)

pub send_one : (name : List ℕ) {o o₁ o₂ o₃ o₄ h lead rest : List ℕ} {at a b d r p i t : ℕ}
    → Put o at h o₁ a → Put o₁ a lead o₂ b → Put o₂ b (folded name) o₃ d → Put o₃ d rest o₄ r
    → Fits o at i (length lead + length name + length rest)
    → h ≡ head p i t (length lead + length name + length rest)
    → Sent o at (framed p i t (lead ++ (folded name ++ rest)) ∷ []) o₄ r
unfolding bytes
send_one name {o} {o₁} {o₂} {o₃} {o₄} {h} {lead} {rest} {at} {a} {b} {d} {r} {p} {i} {t} w1 w2 w3 w4 fit eh =
    let ten : length h ≡ 10 = ap length eh ∙ length_head p i t (length lead + length name + length rest) in
    let n = length_payload lead name rest in
    let room = fit.room in
    let na = w1.next in
    let nb = w2.next in
    let sa = w1.same in
    let sb = w2.same in
    let s : Wrote o₁ a (lead ++ (folded name ++ rest)) o₄ r =
    wrote_then (omega arith) (put_wrote w2) (wrote_then (omega arith) (put_wrote w3) (put_wrote w4)) in
    let v : Wrote o at (h ++ (lead ++ (folded name ++ rest))) o₄ r = wrote_then (omega arith) (put_wrote w1) s in
    sent_one (omega arith)
    (subst (λ (x : List ℕ). Wrote o at (x ++ (lead ++ (folded name ++ rest))) o₄ r) (eh ∙ ap (λ (k : ℕ). head p i t k) (sym n)) v)

-- a payload with an empty part
pub name_last : (lead name : List ℕ) → lead ++ (folded name ++ []) ≡ lead ++ folded name
name_last lead name = ap (λ (x : List ℕ). lead ++ x) (append-nil (folded name))

pub raw_alone : (x : List ℕ) → x ++ (folded [] ++ []) ≡ x
raw_alone x = ap (λ (y : List ℕ). x ++ (y ++ [])) folded_nil ∙ append-nil x

-- how many bytes a frame took
pub full_size : {o o' : List ℕ} {p i t n : ℕ} (lead name rest : List ℕ)
    → Sent o 0 (framed p i t (lead ++ (folded name ++ rest)) ∷ []) o' n
    → n ≡ 10 + (length lead + length name + length rest)
full_size lead name rest w = let a = w.next in let b = length_payload lead name rest in omega arith

pub name_size : {o o' : List ℕ} {p i t n : ℕ} (lead name : List ℕ) → Sent o 0 (framed p i t (lead ++ folded name) ∷ []) o' n
    → n ≡ 10 + (length lead + length name)
name_size lead name w =
    let a = w.next in
    let b = length-append lead (folded name) in
    let d = length_folded name in
    omega arith
