-- RFC 6265, section 5.1.3: for a host that is a name, under is the RFC's domain match. Assumes nothing.
use Rattle.std.specs.Prelude.{◌≡◌, true, false, ◌&&◌, List, ℕ, ◌-◌, ◌≤◌, ◌<◌, length, get_or, take, drop, ltb, eqb}
use Rattle.std.proofs.Common.{sym, ◌∙◌, arith, get_or-take, length-take-le, le-leb, ltb-true, ltb-false}
use Rattle.std.proofs.Math.Bool.{or-false, and-false, and-true, and_comm}
use Rattle.terms.specs.Rule.Name.{lower, ends, is_name}
use Rattle.terms.specs.Rule.Under.{same, uncovered, ends_with, under, domain_matches}
use Rattle.terms.specs.Laws.Bools.{fails, cases}
use Rattle.terms.specs.Laws.Labels.{dot_unseen}
use Rattle.terms.specs.Laws.Under.{same_length, under_flat, under_long}

-- nothing is left over
flat : (h t : List ℕ) → length h ≤ length t → domain_matches h t ≡ same h t
unfolding domain_matches uncovered ends
flat h t l =
    let d : length h - length t ≡ 0 = omega arith in
    simp (d, and-false) (or-false (same h t))

-- a byte at least is left over
long : (h t : List ℕ) → is_name h ≡ true → length t < length h
    → domain_matches h t ≡ eqb (lower (get_or h (length h - length t - 1) 0)) 46 && same (drop (length h - length t) h) t
unfolding domain_matches uncovered ends ends_with
long h t n l =
    let d = length h - length t in
    let s : same h t ≡ false = fails (same h t) (λ q. let m = same_length h t q in omega arith) in
    let k : length (take d h) ≡ d = length-take-le d h (omega arith) in
    let g : get_or (take d h) (d - 1) 0 ≡ get_or h (d - 1) 0 = get_or-take d h (d - 1) 0 (omega arith) in
    rw (s, le-leb (length t) (length h) (omega arith), k, g, n, and-true, dot_unseen (get_or h (d - 1) 0))
    (and_comm (same (drop d h) t) (eqb (get_or h (d - 1) 0) 46))

pub under_is_rfc6265 : (h t : List ℕ) → is_name h ≡ true → under h t ≡ domain_matches h t
under_is_rfc6265 h t n =
    cases (ltb (length t) (length h))
    (λ e.
    let l = ltb-true (length t) (length h) e in
    under_long h t (length h - length t) (omega arith) (omega arith) ∙ sym (long h t n l))
    (λ e. let l = ltb-false (length t) (length h) e in under_flat h t l ∙ sym (flat h t l))
