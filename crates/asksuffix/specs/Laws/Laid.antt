-- Hosts that are laid end to end are read back, whatever stands behind them; and the hosts of a stream, laid end to end again,
-- are the stream up to where it is cut short. Assumes nothing.
use Rattle.std.specs.Prelude.{ℕ, zero, suc, ◌+◌, ◌*◌, ◌/◌, ◌%◌, ◌≤◌, ◌<◌, ◌≡◌, refl, true, false, List, [], ◌∷◌, ◌++◌, length, take, drop}
use Rattle.std.proofs.Common.{sym, ap, ap₂, ◌∙◌, append_assoc, append-nil, le_refl, take-append-drop, drop_at, take-add, length-take-le, get_or-drop}
use native.Mathlib.Omega.{arith}
use Rattle.std.proofs.Math.ListN.{length-append}
use Rattle.std.proofs.Math.Seq.{take_at}
use Rattle.terms.specs.Base.{Bytes}
use Rattle.terms.specs.Laws.Bools.{cases}
use Rattle.terms.specs.Names.{num}
use Rattle.terms.specs.Laws.Num.{num_zero, num_suc}
use Rattle.asksuffix.specs.Rule.Hosts.{host_bytes, host_whole, first_host, hosts, laid_host, laid_hosts}
use Rattle.asksuffix.specs.Laws.Hosts.{whole_short, whole_has, whole_in, shorter, hosts_nil, hosts_whole, hosts_cut}
use Rattle.asksuffix.specs.Rule.Hosts.{HostsLaid}

module _ (h z : List ℕ) where
  num_laid : num (laid_host h ++ z) 0 2 ≡ length h
  unfolding laid_host
  num_laid =
      let s = laid_host h ++ z in
      omega (arith, num_suc s 0 1, num_suc s 0 0, num_zero s 0)

  bytes_laid : host_bytes (laid_host h ++ z) ≡ length (laid_host h)
  unfolding host_bytes laid_host
  bytes_laid = omega (arith, num_laid)

  whole_laid : host_whole (laid_host h ++ z) ≡ true
  unfolding laid_host
  whole_laid =
      let e = bytes_laid in
      let l = length-append h z in
      whole_in (laid_host h ++ z) (record { long = omega arith; present = omega arith })

  first_laid : first_host (laid_host h ++ z) ≡ h
  unfolding first_host laid_host
  first_laid = take_at h z (num (laid_host h ++ z) 0 2) (sym num_laid)

  pub hosts_laid : hosts (laid_host h ++ z) ≡ h ∷ hosts z
  hosts_laid =
      hosts_whole (laid_host h ++ z) whole_laid
      ∙ ap₂ (λ (x : List ℕ) (s : List ℕ). x ∷ hosts s) first_laid
      (drop_at (laid_host h) z (host_bytes (laid_host h ++ z)) (sym bytes_laid))

pub hosts_before : (l : List (List ℕ)) (z : List ℕ) → hosts (laid_hosts l ++ z) ≡ l ++ hosts z
unfolding laid_hosts
hosts_before [] z = refl
hosts_before (h ∷ l) z =
    ap hosts (append_assoc (laid_host h) (laid_hosts l) z) ∙ hosts_laid h (laid_hosts l ++ z)
    ∙ ap (λ (m : List (List ℕ)). h ∷ m) (hosts_before l z)

pub hosts_all : (l : List (List ℕ)) → hosts (laid_hosts l) ≡ l
hosts_all l =
    ap hosts (sym (append-nil (laid_hosts l))) ∙ hosts_before l []
    ∙ ap (λ (m : List (List ℕ)). l ++ m) hosts_nil ∙ append-nil l

-- ---- the hosts of a stream, laid end to end again

-- the first of them is the stream's front
first_again : (s : List ℕ) → host_whole s ≡ true → Bytes s → laid_host (first_host s) ≡ take (host_bytes s) s
unfolding laid_host first_host host_bytes
first_again [] w k = let h = whole_has [] w in absurd (omega (arith, h.long))
first_again (x ∷ []) w k = let h = whole_has (x ∷ []) w in absurd (omega (arith, h.long))
first_again (x ∷ y ∷ r) w k =
    let s : List ℕ = x ∷ y ∷ r in
    let n = num s 0 2 in
    let h = whole_has s w in
    let long : length (take n r) ≡ n = length-take-le n r (omega (arith, h.present)) in
    let small : y < 256 = k 1 in
    let is : n ≡ x * 256 + y = omega (arith, num_suc s 0 1, num_suc s 0 0, num_zero s 0) in
    let high : length (take n r) / 256 ≡ x = omega arith in
    let low : length (take n r) % 256 ≡ y = omega arith in
    ap₂ (λ (a b : ℕ). a ∷ b ∷ take n r) high low ∙ sym (take-add 2 n s)

laid_cut : (s : List ℕ) → host_whole s ≡ false → HostsLaid s (hosts s)
unfolding laid_hosts
laid_cut s w = record { rest = s; same = ap (λ (l : List (List ℕ)). laid_hosts l ++ s) (hosts_cut s w); cut = w }

laid_in : (n : ℕ) (s : List ℕ) → length s ≤ n → Bytes s → HostsLaid s (hosts s)
unfolding laid_hosts
laid_in zero s h k = laid_cut s (sym (whole_short s (omega arith)))
laid_in (suc n) s h k =
    cases (host_whole s)
    (λ w.
    let d = drop (host_bytes s) s in
    let q = laid_in n d (shorter n s w h) (λ i. rw get_or-drop (k (host_bytes s + i))) in
    record {
      rest = q.rest;
      same =
          ap (λ (l : List (List ℕ)). laid_hosts l ++ q.rest) (hosts_whole s w)
          ∙ append_assoc (laid_host (first_host s)) (laid_hosts (hosts d)) q.rest
          ∙ ap₂ (λ (a b : List ℕ). a ++ b) (first_again s w k) q.same ∙ take-append-drop (host_bytes s) s;
      cut = q.cut;
    })
    (λ w. laid_cut s w)

pub laid_again : (s : List ℕ) → Bytes s → HostsLaid s (hosts s)
laid_again s k = laid_in (length s) s (le_refl (length s)) k
