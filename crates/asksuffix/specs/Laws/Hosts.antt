-- What a stream begins with, what more bytes behind it change, and its hosts one by one. Assumes nothing.
use Rattle.std.specs.Prelude.{ℕ, zero, suc, ◌+◌, ◌≤◌, ◌<◌, ◌≡◌, refl, true, false, ◌&&◌, length, drop}
use Rattle.std.proofs.Common.{sym, ◌∙◌, le_refl, length-append}
use Rattle.std.proofs.Math.Path.{ap, ap₂}
use mathlib.Core.List.{List, [], ◌∷◌, ◌++◌}
use native.Mathlib.Omega.{arith}
use Rattle.std.proofs.Math.ListN.{take, length-drop, get_or-append}
use Rattle.std.proofs.Math.Seq.{take-append-le}
use Rattle.std.proofs.lemmas.List.{drop-append-le}
use Rattle.std.proofs.Math.Dec.{leb}
use borrow.Author.Tests.{leb-true, le-leb, lt-leb}
use Rattle.terms.specs.Laws.Bools.{and_left, and_right, cases}
use Rattle.terms.specs.Names.{num}
use Rattle.terms.specs.Laws.Num.{num_ext}
use Rattle.asksuffix.specs.Rule.Hosts.{host_bytes, host_whole, first_host, hosts_in, hosts}

-- ---- the test

module _ (s : List ℕ) where
  pub bytes_tests : host_bytes s ≡ 2 + num s 0 2
  unfolding host_bytes
  bytes_tests = refl

  pub whole_tests : host_whole s ≡ leb 2 (length s) && leb (host_bytes s) (length s)
  unfolding host_whole
  whole_tests = refl

  pub bytes_two : 2 ≤ host_bytes s
  unfolding host_bytes
  bytes_two = omega arith

  pub whole_short : length s < 2 → false ≡ host_whole s
  unfolding host_whole
  whole_short h = rw (lt-leb 2 (length s) h)

  -- ---- what it says where it holds

  pub record Whole : Type 0 where
    pub long : 2 ≤ length s
    pub present : host_bytes s ≤ length s

  pub whole_has : host_whole s ≡ true → Whole
  unfolding host_whole
  whole_has h =
      let a = leb 2 (length s) in
      let b = leb (host_bytes s) (length s) in
      record {
        long = leb-true 2 (length s) (and_left a b h);
        present = leb-true (host_bytes s) (length s) (and_right a b h);
      }

  pub whole_in : Whole → host_whole s ≡ true
  unfolding host_whole
  whole_in w = rw (le-leb 2 (length s) w.long, le-leb (host_bytes s) (length s) w.present)

-- ---- more bytes behind it

module _ (s z : List ℕ) (h : host_whole s ≡ true) where
  num_append : num (s ++ z) 0 2 ≡ num s 0 2
  num_append =
      let w = whole_has s h in
      num_ext (s ++ z) s 0 2 (λ i l. get_or-append s z 0 (0 + i) (omega (arith, w.long)))

  pub bytes_append : host_bytes (s ++ z) ≡ host_bytes s
  unfolding host_bytes
  bytes_append = ap (λ (n : ℕ). 2 + n) num_append

  pub whole_append : host_whole (s ++ z) ≡ true
  whole_append =
      let w = whole_has s h in
      let l = length-append s z in
      let e = bytes_append in
      whole_in (s ++ z) (record { long = omega (arith, w.long); present = omega (arith, w.present) })

  pub first_append : first_host (s ++ z) ≡ first_host s
  unfolding first_host host_bytes
  first_append =
      let w = whole_has s h in
      let l = length-drop 2 s in
      ap₂ (λ (n : ℕ) (d : List ℕ). take n d) num_append (drop-append-le 2 s z w.long)
      ∙ take-append-le (num s 0 2) (drop 2 s) z (omega (arith, w.present))

  pub rest_append : drop (host_bytes (s ++ z)) (s ++ z) ≡ drop (host_bytes s) s ++ z
  rest_append = ap (λ (n : ℕ). drop n (s ++ z)) bytes_append ∙ drop-append-le (host_bytes s) s z (whole_has s h).present

-- ---- the hosts

-- each leaves less of the stream
pub shorter : (n : ℕ) (s : List ℕ) → host_whole s ≡ true → length s ≤ suc n → length (drop (host_bytes s) s) ≤ n
unfolding host_bytes
shorter n s h k = let w = whole_has s h in omega (arith, w.present, length-drop (2 + num s 0 2) s)

none : (n : ℕ) (s : List ℕ) → host_whole s ≡ false → hosts_in n s ≡ []
unfolding hosts_in
none zero s h = refl
none (suc n) s h = rw h

enough : (m n : ℕ) (s : List ℕ) → length s ≤ m → length s ≤ n → hosts_in m s ≡ hosts_in n s
unfolding hosts_in
enough zero n s h k = sym (none n s (sym (whole_short s (omega arith))))
enough (suc m) zero s h k = none (suc m) s (sym (whole_short s (omega arith)))
enough (suc m) (suc n) s h k =
    cases (host_whole s)
    (λ w.
    rw w (ap (λ (l : List (List ℕ)). first_host s ∷ l) (enough m n (drop (host_bytes s) s) (shorter m s w h) (shorter n s w k))))
    (λ w. rw w)

pub hosts_nil : hosts [] ≡ []
unfolding hosts hosts_in
hosts_nil = refl

pub hosts_whole : (s : List ℕ) → host_whole s ≡ true → hosts s ≡ first_host s ∷ hosts (drop (host_bytes s) s)
unfolding hosts hosts_in
hosts_whole [] h = let w = whole_has [] h in absurd (omega (arith, w.long))
hosts_whole (x ∷ r) h =
    let s : List ℕ = x ∷ r in
    let d = drop (host_bytes s) s in
    rw h
    (ap (λ (l : List (List ℕ)). first_host s ∷ l)
    (enough (length r) (length d) d (shorter (length r) s h (le_refl _)) (le_refl _)))

pub hosts_cut : (s : List ℕ) → host_whole s ≡ false → hosts s ≡ []
unfolding hosts
hosts_cut s h = none (length s) s h
