-- The rules of tabs/src/allow.rt as the code asks them. Assumes nothing.
use Rattle.std.specs.Prelude.{◌≡◌, refl, Bool, not, ◌&&◌, ◌||◌, List, [], ◌∷◌, ℕ, length, take, eqb, leb, ltb}
use Rattle.std.specs.List.{list_all}
use Rattle.std.specs.Cmp.Lexicographic.{pointwise}
use Rattle.std.proofs.Common.{sym, ap, ap₂, eq-eqb}
use Rattle.std.proofs.lemmas.Bool.{eqb-true}
use Rattle.terms.specs.Base.{within, every, alike}
use Rattle.terms.specs.Names.{is_name, under}
use Rattle.terms.specs.Text as Text
use Rattle.terms.specs.Laws.Bools.{agree}
use Rattle.rules.specs.Rule.Allow.{cookie_domain, socket_host, socket_allowed, goes_on, http, https, is_url}

pub cookie_is : (x t : List ℕ) → cookie_domain x t ≡ is_name x && under x t
unfolding cookie_domain
cookie_is x t = refl

pub host_is : (x t : List ℕ) → socket_host x t ≡ is_name x && under x t
unfolding socket_host
host_is x t = refl

pub socket_is : (port : ℕ) (x t : List ℕ) → socket_allowed port x t ≡ not (eqb port 0) && socket_host x t
unfolding socket_allowed
socket_is port x t = refl

-- ---- URLs

pub seen_is : (u : List ℕ) → every (λ (x : ℕ). within 33 126 x) u ≡ list_all (λ x. within 33 126 x) u
unfolding every
seen_is [] = refl
seen_is (x ∷ u) = ap (λ (b : Bool). within 33 126 x && b) (seen_is u)

eqb_sym : (x y : ℕ) → eqb x y ≡ eqb y x
eqb_sym x y =
    agree (eqb x y) (eqb y x) (λ h. eq-eqb y x (sym (eqb-true x y h))) (λ h. eq-eqb x y (sym (eqb-true y x h)))

front_is : (s u : List ℕ) → alike u s ≡ pointwise (λ x y. eqb x y) s u
unfolding alike
front_is [] [] = refl
front_is [] (y ∷ u) = refl
front_is (x ∷ s) [] = refl
front_is (x ∷ s) (y ∷ u) = ap₂ (λ (a b : Bool). a && b) (eqb_sym y x) (front_is s u)

pub goes_is : (s u : List ℕ) → goes_on s u ≡ ltb (length s) (length u) && pointwise (λ x y. eqb x y) s (take (length s) u)
unfolding goes_on
goes_is s u = ap (λ (b : Bool). ltb (length s) (length u) && b) (front_is s (take (length s) u))

-- the bytes as the code writes them
abbrev pub http_bytes : List ℕ
http_bytes = 104 ∷ 116 ∷ 116 ∷ 112 ∷ 58 ∷ 47 ∷ 47 ∷ []

abbrev pub https_bytes : List ℕ
https_bytes = 104 ∷ 116 ∷ 116 ∷ 112 ∷ 115 ∷ 58 ∷ 47 ∷ 47 ∷ []

pub url_is : (u : List ℕ)
    → is_url u
    ≡ leb 8 (length u) && leb (length u) 2048 && every (λ (x : ℕ). within 33 126 x) u && (goes_on http_bytes u || goes_on https_bytes u)
unfolding is_url http https Text.bytes
url_is u = refl
